use Rattle.sets.specs.Rows.{in_row}
use Rattle.sets.specs.Tables.{table_at}
use Rattle.report.specs.Puts.{row_counts}
use Rattle.report.proofs.PutLaws.{Left}
use Rattle.report.proofs.SummaryLaws.{counts_from}
use Rattle.report.proofs.summary.put_counts.Given as goal

abbrev pub invariant-loop-a : goal.invariant-loop-a
invariant-loop-a l = Left l.initial.page (row_counts l.most l.tables l.table) l.page (counts_from l.most (in_row (table_at l.tables l.table)) l.a)
