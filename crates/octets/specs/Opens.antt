-- What a file opens with: two letters and the edition (01, "Two files, contents first").
use Rattle.std.specs.Prelude.{Bool, true, false, List, [], ◌∷◌, ℕ, eqb}
use Rattle.sets.specs.Tests.{◌and◌}

-- the bytes open with these
unfoldable pub opens_with : List ℕ → List ℕ → Bool
opens_with [] bytes = true
opens_with (x ∷ xs) [] = false
opens_with (x ∷ xs) (b ∷ bytes) = eqb b x and opens_with xs bytes
