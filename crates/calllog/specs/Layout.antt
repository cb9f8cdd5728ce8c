-- Where a log file keeps what (01, "Sizes" and "Log"). Of bytes that end too soon, what is missing reads as 0.
use Rattle.std.specs.Prelude.{List, [], ◌∷◌, ℕ, zero, suc, ◌+◌, ◌*◌, get_or}
use Rattle.sets.specs.Sizes.{most_traces, most_events}
use Rattle.octets.specs.Numbers.{number_at, number_length}

-- the two letters, B and L
abbrev pub letters : List ℕ
letters = 66 ∷ 76 ∷ []

-- how many bytes stand before the entries, and how many an entry has
abbrev pub head_size : ℕ
head_size = 4 + number_length

abbrev pub entry_size : ℕ
entry_size = 2 * number_length

-- a log has at most this many bytes: 36,870
abbrev pub longest_log : ℕ
longest_log = head_size + entry_size * most_traces + most_events

-- A
unfoldable pub activities_in : List ℕ → ℕ
activities_in bytes = get_or bytes 3 0

-- T
unfoldable pub traces_in : List ℕ → ℕ
traces_in bytes = number_at number_length bytes 4

-- entry k: an offset, then a length
unfoldable pub offset_at : List ℕ → ℕ → ℕ
offset_at bytes k = number_at number_length bytes (head_size + entry_size * k)

unfoldable pub length_at : List ℕ → ℕ → ℕ
length_at bytes k = number_at number_length bytes (head_size + entry_size * k + number_length)

-- where the first body byte stands
unfoldable pub bodies_start : List ℕ → ℕ
bodies_start bytes = head_size + entry_size * traces_in bytes

-- the sum of the lengths of the entries before entry k
unfoldable pub events_before : List ℕ → ℕ → ℕ
events_before bytes zero = 0
events_before bytes (suc k) = events_before bytes k + length_at bytes k
