-- A log file written by the rules from A and traces (01, "Sizes" and "Log"). Only definitions: no program writes logs.
use Rattle.std.specs.Prelude.{true, List, [], ◌∷◌, ◌++◌, ◌≡◌, ℕ, ◌+◌, ◌/◌, ◌%◌, ◌≤◌, ◌<◌, length, get_or}
use Rattle.octets.specs.Editions.{edition_for}
use Rattle.calllog.specs.Layout.{letters}
use Rattle.sets.specs.Sizes.{most_activities, most_traces, longest_trace, most_events}
use Rattle.calllog.specs.Judged.{all_below}

-- a number in two bytes, little-endian
abbrev pub two_bytes : ℕ → List ℕ
two_bytes n = n % 256 ∷ n / 256 ∷ []

-- an entry for each trace: the sum of the earlier lengths, and its length
unfoldable pub entries_of : ℕ → List (List ℕ) → List ℕ
entries_of earlier [] = []
entries_of earlier (t ∷ ts) = two_bytes earlier ++ two_bytes (length t) ++ entries_of (earlier + length t) ts

-- the traces laid end to end
unfoldable pub end_to_end : List (List ℕ) → List ℕ
end_to_end [] = []
end_to_end (t ∷ ts) = t ++ end_to_end ts

unfoldable pub log_bytes : ℕ → List (List ℕ) → List ℕ
log_bytes a traces = letters ++ (edition_for a ∷ a ∷ []) ++ two_bytes (length traces) ++ entries_of 0 traces ++ end_to_end traces

-- A and traces that keep to the limits, with every member below A
pub record WithinLimits (a : ℕ) (traces : List (List ℕ)) : Type 0 where
  pub activities : a ≤ most_activities
  pub number : length traces ≤ most_traces
  pub lengths : (k : ℕ) → k < length traces → length (get_or traces k []) ≤ longest_trace
  pub events : length (end_to_end traces) ≤ most_events
  pub below : (k : ℕ) → k < length traces → all_below a (get_or traces k []) ≡ true
