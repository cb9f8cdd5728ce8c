-- Numbers, words and lines as bytes (01, "The listing").
use Rattle.std.specs.Prelude.{List, [], ◌∷◌, ◌++◌, ℕ, zero, suc, ◌+◌, ◌/◌, ◌%◌, ltb}
use Rattle.sets.specs.Tests.{when◌then◌else◌}

-- ---- a number

-- byte 48 is the figure 0, and the figures stand in their order
abbrev pub figure : ℕ → ℕ
figure n = 48 + n % 10

-- the last figures of a number, at most k of them: those before the last are the figures of its tenth, where it is 10 or more
unfoldable pub figures : ℕ → ℕ → List ℕ
figures zero n = []
figures (suc k) n = (when ltb n 10 then [] else figures k (n / 10)) ++ (figure n ∷ [])

-- a number in decimal, with no zero in front: no number of a listing is above 16,384, so five figures are enough
abbrev pub decimal : ℕ → List ℕ
decimal n = figures 5 n

-- ---- a line

abbrev pub space : ℕ
space = 32

abbrev pub line_end : ℕ
line_end = 10

-- words with one space between them, and one byte 10 at the end
unfoldable pub line : List (List ℕ) → List ℕ
line [] = line_end ∷ []
line (w ∷ []) = w ++ (line_end ∷ [])
line (w ∷ v ∷ ws) = w ++ (space ∷ line (v ∷ ws))

-- ---- the words

-- "events"
abbrev pub events_word : List ℕ
events_word = 101 ∷ 118 ∷ 101 ∷ 110 ∷ 116 ∷ 115 ∷ []

-- "traces"
abbrev pub traces_word : List ℕ
traces_word = 116 ∷ 114 ∷ 97 ∷ 99 ∷ 101 ∷ 115 ∷ []

-- "refused"
abbrev pub refused_word : List ℕ
refused_word = 114 ∷ 101 ∷ 102 ∷ 117 ∷ 115 ∷ 101 ∷ 100 ∷ []

-- the relations' letters, and a trace's
abbrev pub C : List ℕ
C = 67 ∷ []

abbrev pub R : List ℕ
R = 82 ∷ []

abbrev pub I : List ℕ
I = 73 ∷ []

abbrev pub E : List ℕ
E = 69 ∷ []

abbrev pub T : List ℕ
T = 84 ∷ []
