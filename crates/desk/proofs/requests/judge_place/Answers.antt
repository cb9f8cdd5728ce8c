use Rattle.desk.specs.Desk.{place_answer}
use Rattle.desk.proofs.Calling.{too-short, place-free, place-taken}
use Rattle.desk.proofs.requests.judge_place.Goals as goal

pub returns-in_default : goal.returns-in_default
returns-in_default c = unfold place_answer in too-short _ _ _ _ c.in_default.ensures

pub returns-else-is_open : goal.returns-else-is_open
returns-else-is_open c = unfold place_answer in place-free _ _ c.in-Some.held.whole _ _ c.in-Some.ensures _ _ c.is_open.ensures _ c.if-is_open.false

pub returns-then-is_open : goal.returns-then-is_open
returns-then-is_open c = unfold place_answer in place-taken _ _ c.in-Some.held.whole _ _ c.in-Some.ensures _ _ c.is_open.ensures _ c.if-is_open.true
