use borrow.Author.Rules.{rules}
use Rattle.port.proofs.Desk.{stepping-there, step-served, step-served-table}
use Rattle.port.proofs.call_desk.skelfora_desk_step.Goals as goal

pub returns-then-not-is_done-clause-value : goal.returns-then-not-is_done-clause-value
returns-then-not-is_done-clause-value c = search (stepping-there, rules)

pub returns-then-not-is_done-clause-table_after : goal.returns-then-not-is_done-clause-table_after
returns-then-not-is_done-clause-table_after c = search (stepping-there, rules)

pub returns-then-not-is_done-2-clause-value : goal.returns-then-not-is_done-2-clause-value
returns-then-not-is_done-2-clause-value c = search (stepping-there, rules)

pub returns-then-not-is_done-2-clause-table_after : goal.returns-then-not-is_done-2-clause-table_after
returns-then-not-is_done-2-clause-table_after c = search (stepping-there, rules)

pub returns-clause-value : goal.returns-clause-value
returns-clause-value c = let file = c.args.file.now in step-served _ (λ k. (c.type_inv.file k).fits) _ _ _ c.is_wide-wide.ensures _ _ c.judge_place-asked.ensures c.is_done.ensures
    c.if-not-is_done.false _ _ c.read_bare-r.ensures.value c.is_done-2.ensures c.if-not-is_done-2.false _ c.read_bare-r.ensures.relations_after _ _ _
    c.step_on-given.ensures.value c.packed_blocker-2.ensures

pub returns-clause-table_after : goal.returns-clause-table_after
returns-clause-table_after c = let file = c.args.file.now in search (step-served-table file (λ k. (c.type_inv.file k).fits), rules)
