use Rattle.sets.proofs.Ways.{choice}
use Rattle.engine.proofs.Judging.{ask-stops, ask-goes}
use Rattle.port.specs.Classroom.{judged_handed}
use Rattle.port.proofs.Handing.{handed-judged}
use borrow.Author.Rules.{rules}
use Rattle.port.proofs.Lending.{measured}
use Rattle.port.proofs.classroom.Handed.judge.Goals as goal

pub returns-then-self-head_room : goal.returns-then-self-head_room
returns-then-self-head_room c = unfold judged_handed in search (ask-stops, ask-goes, choice, measured, handed-judged, rules) depth 8

pub returns-then-room_beside_head-marking : goal.returns-then-room_beside_head-marking
returns-then-room_beside_head-marking c = unfold judged_handed in search (ask-stops, ask-goes, choice, measured, handed-judged, rules) depth 8

pub returns-then-not-is_done : goal.returns-then-not-is_done
returns-then-not-is_done c = unfold judged_handed in search (ask-stops, ask-goes, choice, measured, handed-judged, rules) depth 8

pub returns : goal.returns
returns c = unfold judged_handed in search (ask-stops, ask-goes, choice, measured, handed-judged, rules) depth 8
