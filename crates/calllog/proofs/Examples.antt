-- The definitions on small logs, worked out by hand from 01 and computed here: log L, and each refusal at its border. Assumes nothing.
use mathlib.Core.Path.{◌≡◌, refl}
use mathlib.Core.List.{List, [], ◌∷◌, map}
use Prim.Native.Nat.{ℕ}
use Rattle.sets.specs.Tests.{◌and◌, ◌or◌, non}
use Rattle.sets.specs.Answers.{number_of, first_refusal}
use Rattle.sets.specs.declared.answer.Answer.TheVariants.{Done}
use Rattle.octets.specs.Numbers.{value_of, number_at}
use Rattle.octets.specs.Opens.{opens_with}
use Rattle.octets.specs.Editions.{edition_for, opens_file, beyond}
use Rattle.calllog.specs.Layout.{activities_in, traces_in, offset_at, length_at, bodies_start, events_before}
use Rattle.calllog.specs.Judged.{all_below, judged_head, judged_entry, judged_bodies, judged_contents, judged_log}
use Rattle.calllog.specs.Logs.{traces_from, log_of}
use Rattle.calllog.specs.Written.{entries_of, end_to_end, log_bytes}

-- log L of 01
unfoldable pub log_l : List ℕ
log_l = 66 ∷ 76 ∷ 1 ∷ 3 ∷ 2 ∷ 0 ∷ 0 ∷ 0 ∷ 3 ∷ 0 ∷ 3 ∷ 0 ∷ 2 ∷ 0 ∷ 0 ∷ 1 ∷ 2 ∷ 0 ∷ 2 ∷ []

unfoldable pub traces_l : List (List ℕ)
traces_l = (0 ∷ 1 ∷ 2 ∷ []) ∷ (0 ∷ 2 ∷ []) ∷ []

pub reads-L : log_of log_l ≡ record { answer = Done; activities = 3; traces = traces_l }
unfolding log_l traces_l log_of judged_log judged_head judged_contents judged_entry judged_bodies first_refusal all_below opens_with value_of number_at activities_in traces_in offset_at length_at bodies_start events_before traces_from opens_file edition_for beyond ◌and◌ ◌or◌ non
reads-L = refl

pub writes-L : log_bytes 3 traces_l ≡ log_l
unfolding log_l traces_l log_bytes entries_of end_to_end edition_for
writes-L = refl

-- bytes, and their number
pub record Case : Type 0 where
  pub bytes : List ℕ
  pub number : ℕ

infix 10 ◌gives◌
abbrev pub ◌gives◌ : List ℕ → ℕ → Case
b gives n = record { bytes = b; number = n }

unfoldable pub cases : List Case
cases =
    -- under 6 bytes, also with wrong letters; then the letters, the edition
    ([] gives 1)
    ∷ (66 ∷ 76 ∷ 1 ∷ 3 ∷ 0 ∷ [] gives 1)
    ∷ (66 ∷ 71 ∷ 1 ∷ 3 ∷ 0 ∷ [] gives 1)
    ∷ (66 ∷ 71 ∷ 1 ∷ 65 ∷ 0 ∷ 0 ∷ [] gives 2)
    ∷ (66 ∷ 76 ∷ 0 ∷ 3 ∷ 0 ∷ 0 ∷ [] gives 2)
    ∷ (66 ∷ 76 ∷ 3 ∷ 97 ∷ 0 ∷ 0 ∷ [] gives 2)
    -- A 64 and 65 in edition 1, A 64, 65, 97, 128 and 129 in edition 2; T 1,024 and 1,025; a cut that comes after both
    ∷ (66 ∷ 76 ∷ 1 ∷ 64 ∷ 0 ∷ 0 ∷ [] gives 0)
    ∷ (66 ∷ 76 ∷ 1 ∷ 65 ∷ 0 ∷ 0 ∷ [] gives 3)
    ∷ (66 ∷ 76 ∷ 2 ∷ 64 ∷ 0 ∷ 0 ∷ [] gives 3)
    ∷ (66 ∷ 76 ∷ 2 ∷ 65 ∷ 0 ∷ 0 ∷ [] gives 0)
    ∷ (66 ∷ 76 ∷ 2 ∷ 97 ∷ 0 ∷ 0 ∷ [] gives 0)
    ∷ (66 ∷ 76 ∷ 2 ∷ 128 ∷ 0 ∷ 0 ∷ [] gives 0)
    ∷ (66 ∷ 76 ∷ 2 ∷ 129 ∷ 0 ∷ 0 ∷ [] gives 3)
    ∷ (66 ∷ 76 ∷ 1 ∷ 3 ∷ 0 ∷ 4 ∷ [] gives 1)
    ∷ (66 ∷ 76 ∷ 1 ∷ 3 ∷ 1 ∷ 4 ∷ [] gives 3)
    ∷ (66 ∷ 76 ∷ 1 ∷ 3 ∷ 1 ∷ 0 ∷ 0 ∷ 0 ∷ 0 ∷ [] gives 1)
    -- a length of 512 with no body, of 513, of 513 with a wrong offset; a wrong offset before a length of 513
    ∷ (66 ∷ 76 ∷ 1 ∷ 3 ∷ 1 ∷ 0 ∷ 0 ∷ 0 ∷ 0 ∷ 2 ∷ [] gives 1)
    ∷ (66 ∷ 76 ∷ 1 ∷ 3 ∷ 1 ∷ 0 ∷ 0 ∷ 0 ∷ 1 ∷ 2 ∷ [] gives 3)
    ∷ (66 ∷ 76 ∷ 1 ∷ 3 ∷ 1 ∷ 0 ∷ 1 ∷ 0 ∷ 1 ∷ 2 ∷ [] gives 3)
    ∷ (66 ∷ 76 ∷ 1 ∷ 3 ∷ 2 ∷ 0 ∷ 1 ∷ 0 ∷ 0 ∷ 0 ∷ 0 ∷ 0 ∷ 1 ∷ 2 ∷ [] gives 4)
    -- one byte short, just enough, one byte more; 5 for A itself, and only after the end
    ∷ (66 ∷ 76 ∷ 1 ∷ 3 ∷ 1 ∷ 0 ∷ 0 ∷ 0 ∷ 2 ∷ 0 ∷ 2 ∷ [] gives 1)
    ∷ (66 ∷ 76 ∷ 1 ∷ 3 ∷ 1 ∷ 0 ∷ 0 ∷ 0 ∷ 2 ∷ 0 ∷ 2 ∷ 0 ∷ [] gives 0)
    ∷ (66 ∷ 76 ∷ 1 ∷ 3 ∷ 1 ∷ 0 ∷ 0 ∷ 0 ∷ 2 ∷ 0 ∷ 2 ∷ 0 ∷ 0 ∷ [] gives 4)
    ∷ (66 ∷ 76 ∷ 1 ∷ 3 ∷ 1 ∷ 0 ∷ 0 ∷ 0 ∷ 2 ∷ 0 ∷ 2 ∷ 3 ∷ [] gives 5)
    ∷ (66 ∷ 76 ∷ 1 ∷ 3 ∷ 1 ∷ 0 ∷ 0 ∷ 0 ∷ 2 ∷ 0 ∷ 3 ∷ [] gives 1)
    ∷ (66 ∷ 76 ∷ 1 ∷ 3 ∷ 1 ∷ 0 ∷ 0 ∷ 0 ∷ 2 ∷ 0 ∷ 3 ∷ 3 ∷ 3 ∷ [] gives 4)
    -- A 0: an empty trace, and one event
    ∷ (66 ∷ 76 ∷ 1 ∷ 0 ∷ 1 ∷ 0 ∷ 0 ∷ 0 ∷ 0 ∷ 0 ∷ [] gives 0)
    ∷ (66 ∷ 76 ∷ 1 ∷ 0 ∷ 1 ∷ 0 ∷ 0 ∷ 0 ∷ 1 ∷ 0 ∷ 0 ∷ [] gives 5)
    ∷ []

pub refusals : map (λ (c : Case). number_of (judged_log c.bytes)) cases ≡ map (λ (c : Case). c.number) cases
unfolding cases judged_log judged_head judged_contents judged_entry judged_bodies first_refusal all_below opens_with value_of number_at activities_in traces_in offset_at length_at bodies_start events_before opens_file edition_for beyond ◌and◌ ◌or◌ non
refusals = refl

-- running totals of 32,768 and 32,769, each with its right offset; and with a wrong one, which is judged after it
pub totals :
    map number_of (judged_entry 32256 32256 512 ∷ judged_entry 32768 32768 0 ∷ judged_entry 32768 32768 1 ∷ judged_entry 32768 0 1 ∷ judged_entry 32767 0 1 ∷ [])
    ≡ 0 ∷ 0 ∷ 3 ∷ 3 ∷ 4 ∷ []
unfolding judged_entry non
totals = refl
