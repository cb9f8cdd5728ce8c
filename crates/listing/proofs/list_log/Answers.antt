-- The buffer has so many bytes that its length must not be computed element by element: the checker would run out of stack.
use Rattle.std.proofs.lemmas.List.{length-replicate}
use Prim.Native.Nat.{ℕ}
use mathlib.Core.Path.{sym}
use Rattle.listing.proofs.list_log.Goals as goal

pub slice_bounds-list_into-end : goal.slice_bounds-list_into-end
slice_bounds-list_into-end g c = sym (length-replicate {0} {A = ℕ} 671799 0)
