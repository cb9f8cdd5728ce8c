use Rattle.report.proofs.PutLaws.{Left}
use Rattle.report.proofs.LineLaws.{row_text}
use Rattle.report.proofs.relations.put_row.Given as goal

abbrev pub invariant-loop-t : goal.invariant-loop-t
invariant-loop-t l = Left l.initial.page (row_text l.letter l.s.0 l.fn.targets) l.page (row_text l.letter l.s.0 l.t-iterator.rest)
