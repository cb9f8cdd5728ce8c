-- The editions of both files (01, "Two files, contents first": two letters, then the edition; 02, 10/12: edition 1 stays for A up to 64 and edition 2 is
-- only for 65 to 128).
use Rattle.std.specs.Prelude.{Bool, List, ℕ, eqb, ltb, get_or}
use Rattle.sets.specs.Tests.{◌and◌, ◌or◌, non, when◌then◌else◌}
use Rattle.sets.specs.Members.{word}
use Rattle.sets.specs.Sizes.{most_activities}
use Rattle.octets.specs.Opens.{opens_with}

abbrev pub narrow_edition : ℕ
narrow_edition = 1

abbrev pub wide_edition : ℕ
wide_edition = 2

-- the edition that a file with so many activities has
unfoldable pub edition_for : ℕ → ℕ
edition_for a = when ltb word a then wide_edition else narrow_edition

-- the edition of a file, after its two letters
abbrev pub edition_in : List ℕ → ℕ
edition_in bytes = get_or bytes 2 0

-- whether it has wide sets
abbrev pub wide_in : List ℕ → Bool
wide_in bytes = eqb (edition_in bytes) wide_edition

-- a file opens with its letters, and with one of the editions
unfoldable pub opens_file : List ℕ → List ℕ → Bool
opens_file letters bytes = opens_with letters bytes and (eqb (edition_in bytes) narrow_edition or eqb (edition_in bytes) wide_edition)

-- A is too great, or the edition doesn't match it: tested together
unfoldable pub beyond : ℕ → ℕ → Bool
beyond edition a = ltb most_activities a or non (eqb edition (edition_for a))
