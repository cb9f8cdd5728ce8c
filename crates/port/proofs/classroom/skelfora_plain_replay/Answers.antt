use Rattle.sets.proofs.Ways.{choice}
use Rattle.port.specs.Classroom.{plain_replay_number}
use Rattle.port.proofs.Handing.{handing}
use borrow.Author.Rules.{rules}
use Rattle.port.proofs.Lending.{measured}
use Rattle.port.proofs.classroom.skelfora_plain_replay.Goals as goal

pub returns-then-head-head_room : goal.returns-then-head-head_room
returns-then-head-head_room c = unfold plain_replay_number in search (handing, choice, measured, rules)

pub returns : goal.returns
returns c = unfold plain_replay_number in search (handing, choice, measured, rules)
