use Rattle.sets.specs.Rows.{in_row}
use Rattle.sets.specs.Tables.{table_at}
use Rattle.report.specs.Pairs.{pairs_of}
use Rattle.report.specs.Listing.{pair_lines}
use Rattle.report.proofs.PutLaws.{Left}
use Rattle.report.proofs.LineLaws.{rows_text}
use Rattle.report.proofs.relations.put_pairs.Given as goal

abbrev pub invariant-loop-a : goal.invariant-loop-a
invariant-loop-a l = Left l.initial.page (pair_lines l.letter (pairs_of (in_row (table_at l.tables l.table)))) l.page (rows_text l.letter (table_at l.tables l.table) l.a)
