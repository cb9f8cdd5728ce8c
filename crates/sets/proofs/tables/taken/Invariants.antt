use Prim.Native.Nat.{◌≤◌}
use mathlib.Core.Path.{◌≡◌}
use Rattle.sets.specs.Rows.{row_words, no_rows}
use Rattle.sets.specs.Tables.{table_at}
use Rattle.sets.proofs.TableLaws.{with_words_in}
use Rattle.sets.proofs.tables.taken.Given as goal

abbrev pub invariant-loop-i : goal.invariant-loop-i
invariant-loop-i l = (l.i ≤ row_words) × (l.out ≡ with_words_in no_rows 0 (table_at l.tables l.table) l.i)
