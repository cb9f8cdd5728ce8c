use lib.ListN.{drop}
use Rattle.report.proofs.PutLaws.{Left}
use Rattle.report.proofs.text.Page.bytes.Given as goal

abbrev pub invariant-loop-b : goal.invariant-loop-b
invariant-loop-b l = Left l.initial.self l.word l.self (drop l.b-index l.word)
