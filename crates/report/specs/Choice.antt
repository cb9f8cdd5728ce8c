-- Which profile the listing program's arguments ask for: light where there is none (02, 11/12), the one that a single argument names, and
-- refusal 12 for any other argument and for more than one (02, 3/12).
use Rattle.std.specs.Prelude.{Bool, List, [], ◌∷◌, ◌++◌, ℕ, eqb, ltb, length, drop}
use Rattle.sets.specs.Tests.{◌and◌, when◌then◌else◌}
use Rattle.octets.specs.Opens.{opens_with}
use Rattle.sets.specs.declared.answer.Answer.{Answer}
use Rattle.sets.specs.declared.answer.Answer.TheVariants.{WrongArgument}
use Rattle.rules.specs.declared.Profile.TheVariants.{Full, Light}
use Rattle.report.specs.declared.choice.Choice.{Choice}
use Rattle.report.specs.declared.choice.Choice.TheVariants.{Listing, Refused}
use Rattle.report.specs.Listing.{refused_line, longest_refused}

-- f u l l, and l i g h t
abbrev pub full_word : List ℕ
full_word = 102 ∷ 117 ∷ 108 ∷ 108 ∷ []

abbrev pub light_word : List ℕ
light_word = 108 ∷ 105 ∷ 103 ∷ 104 ∷ 116 ∷ []

-- the bytes are the word's, no more and no less
abbrev pub says : List ℕ → List ℕ → Bool
says word bytes = eqb (length bytes) (length word) and opens_with word bytes

-- by how many arguments there are, and the bytes of the first
unfoldable pub choice_of : ℕ → List ℕ → Choice
choice_of count argument =
    when eqb count 0 then Listing Light
    else when ltb 1 count then Refused WrongArgument
    else when says full_word argument then Listing Full
    else when says light_word argument then Listing Light
    else Refused WrongArgument

-- ---- what `write_refused` gives and leaves: 0 and no byte changed where the buffer might not hold the line

unfoldable pub refused_length : Answer → ℕ → ℕ
refused_length a room = when ltb room longest_refused then 0 else length (refused_line a)

unfoldable pub refused_after : Answer → List ℕ → List ℕ
refused_after a buffer = when ltb (length buffer) longest_refused then buffer else refused_line a ++ drop (length (refused_line a)) buffer
