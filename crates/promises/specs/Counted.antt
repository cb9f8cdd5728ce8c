-- A listing whose counts are words of its own: what the fifth stand-in of 01 is caught by.
use Rattle.std.specs.Prelude.{Bool, true, List, [], ◌∷◌, ℕ, eqb}
use Rattle.sets.specs.Tests.{◌and◌, ◌or◌, non}
use Rattle.report.specs.Lines.{space, line_end, events_word, traces_word, C, R, I, E}

-- a byte that ends a word
unfoldable pub ends : ℕ → Bool
ends b = eqb b space or eqb b line_end

-- bytes without one
unfoldable pub word : List ℕ → Bool
word [] = true
word (b ∷ w) = non (ends b) and word w

-- words, all of them
unfoldable pub words : List (List ℕ) → Bool
words [] = true
words (w ∷ ws) = word w and words ws

-- a first line, by the words that stand for the numbers of events, of pairs in each relation, and of traces
abbrev pub first_words : List ℕ → List ℕ → List ℕ → List ℕ → List ℕ → List ℕ → List (List ℕ)
first_words a c r i e t = events_word ∷ a ∷ C ∷ c ∷ R ∷ r ∷ I ∷ i ∷ E ∷ e ∷ traces_word ∷ t ∷ []
