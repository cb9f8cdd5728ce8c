use Prim.Native.Nat.{◌≤◌}
use mathlib.Core.Path.{◌≡◌}
use Rattle.sets.specs.Rows.{row_words}
use Rattle.sets.proofs.TableLaws.{with_words_in}
use Rattle.sets.proofs.tables.put_rows.Given as goal

abbrev pub invariant-loop-i : goal.invariant-loop-i
invariant-loop-i l = (l.i ≤ row_words) × (l.tables ≡ with_words_in l.initial.tables l.table l.rows l.i)
