-- What the answer `Done` says of a file, part by part, and back. Assumes nothing.
use mathlib.Core.Path.{◌≡◌, refl, ◌∙◌}
use mathlib.Core.Bool.{Bool, true, false}
use mathlib.Core.List.{List}
use Prim.Native.Nat.{ℕ, ◌≤◌, ◌<◌}
use native.Mathlib.Omega.{arith}
use borrow.Author.Tests.{le-ltb, eq-eqb, ltb-false, eqb-true}
use lib.Dec.{T, eqb, ltb}
use lib.ListN.{length}
use Rattle.sets.specs.Tests.{non}
use Rattle.sets.specs.Members.{those, within}
use Rattle.sets.specs.Answers.{is_done, then_ask, first_refusal}
use Rattle.sets.specs.declared.answer.Answer.{Answer}
use Rattle.sets.specs.declared.answer.Answer.TheVariants.{Done, TooShort, WrongLetters, AboveLimit, WrongOffset, Outside}
use Rattle.sets.proofs.Asking.{ask-on, both, went, gone-on}
use Rattle.sets.proofs.Order.{none-refuses, no-refusal}
use Rattle.sets.proofs.Tests.{T→true, non-false}
use Rattle.engine.specs.Judged.{state_within}
use Rattle.sets.specs.Sizes.{most_activities}
use Rattle.octets.specs.Editions.{edition_for, edition_in, opens_file, beyond}
use Rattle.octets.proofs.Editions.{within-limit, within_both}
use Rattle.engine.specs.Relations.{relation_count}
use Rattle.graphfile.specs.Layout.{letters, head_length, rows_length, activities_in, events_in, state_in, offset_in, count_in}
use Rattle.octets.specs.Editions.{wide_in}
use Rattle.graphfile.specs.Layout.{earlier_rows, end_of}
use Rattle.graphfile.specs.Refusals.{most_rows, judged_sets, judged_head, judged_entry, judged_end, judged_before_rows, judged_row, judged_relation}
use Rattle.graphfile.specs.Refusals.{judged_file}

pub done-then : {a b : Answer} → a ≡ Done → b ≡ Done → then_ask a b ≡ Done
done-then {a} {b} e f = ask-on a b e ∙ f

-- ---- a file

pub record Accepted (bytes : List ℕ) : Type 0 where
  pub long : head_length (wide_in bytes) ≤ length bytes
  pub head : judged_head bytes ≡ Done
  pub entry : (r : ℕ) → r < relation_count → judged_entry bytes r ≡ Done
  pub end : length bytes ≡ end_of bytes
  pub row : (r : ℕ) → r < relation_count → (j : ℕ) → j < count_in bytes r → judged_row bytes (earlier_rows bytes r) j ≡ Done

-- ---- the head

pub record Head (bytes : List ℕ) : Type 0 where
  pub opens : T (opens_file letters bytes)
  pub long : head_length (wide_in bytes) ≤ length bytes
  pub few : activities_in bytes ≤ most_activities
  pub edition : edition_in bytes ≡ edition_for (activities_in bytes)
  pub events : T (within (events_in bytes) (those (λ a. ltb a (activities_in bytes))))
  pub marking : T (state_within (events_in bytes) (state_in bytes))

pub head_done : (bytes : List ℕ) → judged_head bytes ≡ Done → Head bytes
unfolding judged_head judged_sets
head_done bytes h =
    let two = went (non (opens_file letters bytes)) WrongLetters _ refl h in
    let one = went (ltb (length bytes) (head_length (wide_in bytes))) TooShort _ refl two.1 in
    let three = went (beyond (edition_in bytes) (activities_in bytes)) AboveLimit _ refl one.1 in
    let low = went (non (within (events_in bytes) (those (λ a. ltb a (activities_in bytes))))) Outside _ refl three.1 in
    let five = went (non (state_within (events_in bytes) (state_in bytes))) Outside Done refl low.1 in
    record {
      opens = non-false _ two.0;
      long = ltb-false (length bytes) (head_length (wide_in bytes)) one.0;
      few = (within-limit (edition_in bytes) (activities_in bytes) three.0).0;
      edition = (within-limit (edition_in bytes) (activities_in bytes) three.0).1;
      events = non-false _ low.0;
      marking = non-false _ five.0;
    }

pub done-head : (bytes : List ℕ) → Head bytes → judged_head bytes ≡ Done
unfolding judged_head judged_sets non
done-head bytes h =
    rw (
      T→true (opens_file letters bytes) h.opens,
      le-ltb (length bytes) (head_length (wide_in bytes)) h.long,
      within_both (edition_in bytes) (activities_in bytes) h.few h.edition,
      T→true (within (events_in bytes) (those (λ a. ltb a (activities_in bytes)))) h.events,
      T→true (state_within (events_in bytes) (state_in bytes)) h.marking,
    )

-- a head of either form is no shorter than the narrow one
pub narrow-head : (bytes : List ℕ) → head_length (wide_in bytes) ≤ length bytes → head_length false ≤ length bytes
narrow-head bytes l = by (wide_in bytes) l
  where
    by : (t : Bool) → head_length t ≤ length bytes → head_length false ≤ length bytes
    by true h = omega arith
    by false h = h

-- ---- the whole

end-done : (bytes : List ℕ) → judged_end bytes ≡ Done → length bytes ≡ end_of bytes
unfolding judged_end
end-done bytes h =
    let more = went (ltb (length bytes) (end_of bytes)) TooShort _ refl h in
    let fewer = went (ltb (end_of bytes) (length bytes)) WrongOffset Done refl more.1 in
    omega (arith, ltb-false (length bytes) (end_of bytes) more.0, ltb-false (end_of bytes) (length bytes) fewer.0)

done_end : (bytes : List ℕ) → length bytes ≡ end_of bytes → judged_end bytes ≡ Done
unfolding judged_end
done_end bytes e = rw (le-ltb (length bytes) (end_of bytes) (omega arith), le-ltb (end_of bytes) (length bytes) (omega arith))

-- what stands before the rows
front-done : (bytes : List ℕ) → judged_before_rows bytes ≡ Done
    → (head_length false ≤ length bytes) × (judged_head bytes ≡ Done) × ((r : ℕ) → r < relation_count
    → judged_entry bytes r ≡ Done) × (length bytes ≡ end_of bytes)
unfolding judged_before_rows
front-done bytes h =
    let short = went (ltb (length bytes) (head_length false)) TooShort _ refl h in
    let head = both _ _ short.1 in
    let rest = both _ _ head.1 in (
      ltb-false (length bytes) (head_length false) short.0,
      head.0,
      none-refuses (judged_entry bytes) relation_count rest.0,
      end-done bytes
          rest.1,
    )

pub accepted : (bytes : List ℕ) → judged_file bytes ≡ Done → Accepted bytes
unfolding judged_file judged_relation
accepted bytes h =
    let p = both (judged_before_rows bytes) (first_refusal relation_count (judged_relation bytes)) h in
    let f = front-done bytes p.0 in
    record {
      long = (head_done bytes f.1).long;
      head = f.1;
      entry = f.2;
      end = f.3;
      row = λ r l. none-refuses (judged_row bytes (earlier_rows bytes r)) (count_in bytes r)
          (none-refuses (judged_relation bytes) relation_count p.1 r l);
    }

pub acceptable : (bytes : List ℕ) → Accepted bytes → judged_file bytes ≡ Done
unfolding judged_file judged_before_rows judged_relation
acceptable bytes a =
    let front : judged_before_rows bytes ≡ Done =
    rw (le-ltb (length bytes) (head_length false) (narrow-head bytes a.long))
    (done-then a.head (done-then (no-refusal (judged_entry bytes) relation_count a.entry) (done_end bytes a.end))) in
    done-then front
    (no-refusal (judged_relation bytes) relation_count
    (λ r l. no-refusal (judged_row bytes (earlier_rows bytes r)) (count_in bytes r) (a.row r l)))

-- ---- an entry

pub entry_done : (bytes : List ℕ) (r : ℕ) → judged_entry bytes r ≡ Done
    → (count_in bytes r ≤ most_rows (wide_in bytes)) × (offset_in bytes r ≡ rows_length (wide_in bytes) (earlier_rows bytes r))
unfolding judged_entry
entry_done bytes r h =
    let three = went (ltb (most_rows (wide_in bytes)) (count_in bytes r)) AboveLimit _ refl h in
    let four = went (non (eqb (offset_in bytes r) (rows_length (wide_in bytes) (earlier_rows bytes r)))) WrongOffset Done refl three.1 in (
      ltb-false (most_rows (wide_in bytes)) (count_in bytes r) three.0,
      eqb-true (offset_in bytes r) (rows_length (wide_in bytes) (earlier_rows bytes r))
          (T→true _ (non-false _ four.0)),
    )

pub done-entry : (bytes : List ℕ) (r : ℕ) → count_in bytes r ≤ most_rows (wide_in bytes) → offset_in bytes r ≡ rows_length (wide_in bytes) (earlier_rows bytes r)
    → judged_entry bytes r ≡ Done
unfolding judged_entry non
done-entry bytes r few e = rw (le-ltb (most_rows (wide_in bytes)) (count_in bytes r) few, eq-eqb (offset_in bytes r) (rows_length (wide_in bytes) (earlier_rows bytes r)) e)

-- ---- what the code goes on by

pub end-within : (bytes : List ℕ) (a : Answer) (d : Bool) → a ≡ judged_before_rows bytes → d ≡ is_done a → d ≡ true
    → end_of bytes ≤ length bytes
end-within bytes a d e t n = omega (arith, (front-done bytes (gone-on a (judged_before_rows bytes) d e t n)).3)
