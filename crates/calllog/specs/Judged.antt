-- When a log is refused, and with which number (01, "Numbers given back": the order for logs; 02, 10/12: the editions).
use Rattle.std.specs.Prelude.{Bool, true, List, [], ◌∷◌, ℕ, ◌+◌, eqb, ltb, length, drop}
use Rattle.sets.specs.Tests.{◌and◌, non, when◌then◌else◌}
use Rattle.sets.specs.Answers.{then_ask, first_refusal}
use Rattle.sets.specs.declared.answer.Answer.{Answer}
use Rattle.sets.specs.declared.answer.Answer.TheVariants.{Done, TooShort, WrongLetters, AboveLimit, WrongOffset, Outside}
use Rattle.octets.specs.Editions.{edition_in, opens_file, beyond}
use Rattle.calllog.specs.Layout.{letters, head_size, activities_in, traces_in, offset_at, length_at, bodies_start, events_before}
use Rattle.sets.specs.Sizes.{most_traces, longest_trace, most_events}

-- every one is below a
unfoldable pub all_below : ℕ → List ℕ → Bool
all_below a [] = true
all_below a (x ∷ xs) = ltb x a and all_below a xs

-- up to the end of the contents: 1 (under 6 bytes), 2, 3 (A with the edition, then T), 1 (contents cut)
unfoldable pub judged_head : List ℕ → Answer
judged_head bytes =
    when ltb (length bytes) head_size then TooShort
    else when non (opens_file letters bytes) then WrongLetters
    else when beyond (edition_in bytes) (activities_in bytes) then AboveLimit
    else when ltb most_traces (traces_in bytes) then AboveLimit
    else when ltb (length bytes) (bodies_start bytes) then TooShort
    else Done

-- one entry, by the sum of the earlier lengths, its offset and its length: 3 (length, then running total), 4
unfoldable pub judged_entry : ℕ → ℕ → ℕ → Answer
judged_entry earlier offset size =
    when ltb longest_trace size then AboveLimit
    else when ltb most_events (earlier + size) then AboveLimit
    else when non (eqb offset earlier) then WrongOffset
    else Done

-- entry k of the bytes
abbrev pub entry_of : List ℕ → ℕ → Answer
entry_of bytes k = judged_entry (events_before bytes k) (offset_at bytes k) (length_at bytes k)

-- the bodies, where the lengths add up to this many events: 1 or 4 for the end, then 5
unfoldable pub judged_bodies : List ℕ → ℕ → Answer
judged_bodies bytes events =
    when ltb (length bytes) (bodies_start bytes + events) then TooShort
    else when ltb (bodies_start bytes + events) (length bytes) then WrongOffset
    else when non (all_below (activities_in bytes) (drop (bodies_start bytes) bytes)) then Outside
    else Done

-- the entries, then the bodies
unfoldable pub judged_contents : List ℕ → Answer
judged_contents bytes =
    then_ask (first_refusal (traces_in bytes) (entry_of bytes)) (judged_bodies bytes (events_before bytes (traces_in bytes)))

-- the whole log
unfoldable pub judged_log : List ℕ → Answer
judged_log bytes = then_ask (judged_head bytes) (judged_contents bytes)
