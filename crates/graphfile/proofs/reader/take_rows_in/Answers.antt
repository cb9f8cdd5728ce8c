use borrow.Author.Rules.{rules}
use Rattle.graphfile.proofs.Filling.{taking, row-stops}
use Rattle.graphfile.proofs.reader.take_rows_in.Goals as goal

pub loop-j-init : goal.loop-j-init
loop-j-init g c = search (taking, rules)

pub returns-then-not-is_right-clause-value : goal.returns-then-not-is_right-clause-value
returns-then-not-is_right-clause-value g c = search (taking, rules)

pub returns-then-not-is_right-clause-held_after : goal.returns-then-not-is_right-clause-held_after
returns-then-not-is_right-clause-held_after g c = row-stops _ _ _ _ _ c.is_right.ensures _ c.refused_row.ensures c.if-not-is_right.true

pub loop-j-preserved : goal.loop-j-preserved
loop-j-preserved g c = search (taking, rules)

pub returns-clause-held_after : goal.returns-clause-held_after
returns-clause-held_after g c = search (taking, rules)
