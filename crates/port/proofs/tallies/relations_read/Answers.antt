use Rattle.port.proofs.Tallied.{read-refused, read-few, read_done}
use Rattle.port.proofs.tallies.relations_read.Goals as goal

pub returns-then-not-is_done-clause-value : goal.returns-then-not-is_done-clause-value
returns-then-not-is_done-clause-value c = (let a = c.args in
    read-refused a.tally.now a.out.now a.profile _ c.relations-known.ensures _ c.is_done.ensures _ c.if-not-is_done.true
    c.number.ensures).0

pub returns-then-not-is_done-clause-out_after : goal.returns-then-not-is_done-clause-out_after
returns-then-not-is_done-clause-out_after c = (let a = c.args in
    read-refused a.tally.now a.out.now a.profile _ c.relations-known.ensures _ c.is_done.ensures _ c.if-not-is_done.true
    c.number.ensures).1

pub returns-then-out-lt-LENGTH-clause-value : goal.returns-then-out-lt-LENGTH-clause-value
returns-then-out-lt-LENGTH-clause-value c = (let a = c.args in
    read-few a.tally.now a.out.now a.profile _ c.relations-known.ensures _ c.is_done.ensures c.if-not-is_done.false _
    c.if-out-lt-LENGTH.true c.number-then-out-lt-LENGTH.ensures).0

pub returns-then-out-lt-LENGTH-clause-out_after : goal.returns-then-out-lt-LENGTH-clause-out_after
returns-then-out-lt-LENGTH-clause-out_after c = (let a = c.args in
    read-few a.tally.now a.out.now a.profile _ c.relations-known.ensures _ c.is_done.ensures c.if-not-is_done.false _
    c.if-out-lt-LENGTH.true c.number-then-out-lt-LENGTH.ensures).1

pub returns-clause-value : goal.returns-clause-value
returns-clause-value c = (let a = c.args in
    read_done a.tally.now a.out.now a.profile _ c.relations-known.ensures _ c.is_done.ensures c.if-not-is_done.false _ _
    c.if-out-lt-LENGTH.false c.number-2.ensures c.put_known.ensures).0

pub returns-clause-out_after : goal.returns-clause-out_after
returns-clause-out_after c = (let a = c.args in
    read_done a.tally.now a.out.now a.profile _ c.relations-known.ensures _ c.is_done.ensures c.if-not-is_done.false _ _
    c.if-out-lt-LENGTH.false c.number-2.ensures c.put_known.ensures).1
