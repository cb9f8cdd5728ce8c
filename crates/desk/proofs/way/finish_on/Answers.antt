use Rattle.finish.proofs.Searching.{finish-refused, finish-done}
use Rattle.desk.specs.Desk.{place_answer}
use Rattle.desk.specs.WayOut.{finished_on}
use Rattle.desk.proofs.Serving.{place-long, place-there}
use Rattle.desk.proofs.WayOut.{found-on}
use Rattle.desk.proofs.way.finish_on.Goals as goal
use mathlib.Core.Path.{◌∙◌}

pub returns-then-not-is_done : goal.returns-then-not-is_done
returns-then-not-is_done c =
    unfold finished_on in c.refused.ensures ∙ finish-refused _ _ _ c.judge_place-asked.ensures c.is_done.ensures _ c.if-not-is_done.true

pub invariant_of-held : goal.invariant_of-held
invariant_of-held c =
    record { whole = unfold place_answer in place-long _ _ _ _ c.is_done.ensures c.if-not-is_done.false _ _ c.judge_place-asked.ensures }

pub marking_at-m-requires : goal.marking_at-m-requires
marking_at-m-requires c = unfold place_answer in place-there _ _ _ _ c.is_done.ensures c.if-not-is_done.false _ _ c.judge_place-asked.ensures

pub returns : goal.returns
returns c =
    unfold finished_on in
    finish-done _ _ _ c.judge_place-asked.ensures c.is_done.ensures _ _ c.if-not-is_done.false
    (found-on _ _ _ _ _ c.marking_at-m.ensures c.way_out_on.ensures)
