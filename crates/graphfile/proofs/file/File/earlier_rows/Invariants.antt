use Prim.Native.Nat.{◌*◌, ◌≤◌}
use mathlib.Core.Path.{◌≡◌}
use Rattle.graphfile.specs.Layout.{earlier_rows}
use Rattle.graphfile.proofs.file.File.earlier_rows.Given as goal

abbrev pub invariant-loop-i : goal.invariant-loop-i
invariant-loop-i l = (l.rows ≡ earlier_rows l.self.bytes.now l.i) × (l.rows ≤ 65536 * l.i)
