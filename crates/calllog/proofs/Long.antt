-- Bytes past the longest log don't change the answer: one byte more than the longest log is enough to judge by. Assumes nothing.
use mathlib.Core.Path.{◌≡◌, refl, sym, ap, ap₂, ◌∙◌}
use mathlib.Core.Bool.{Bool, true, false}
use mathlib.Core.List.{List, [], ◌∷◌}
use Prim.Native.Nat.{ℕ, zero, suc, ◌+◌, ◌*◌, ◌≤◌, ◌<◌}
use native.Mathlib.Nat.{not-suc-le-zero, le_of_suc-le-suc}
use native.Mathlib.Omega.{arith}
use borrow.Author.Tests.{le-ltb, ltb-false}
use lib.Dec.{eqb, ltb}
use lib.ListN.{length, take}
use lib.Seq.{get_or-take, length-take-le}
use Rattle.sets.specs.Tests.{◌and◌, ◌or◌, non, when◌then◌else◌}
use Rattle.sets.specs.Answers.{is_done, then_ask, first_refusal}
use Rattle.sets.specs.declared.answer.Answer.{Answer}
use Rattle.sets.specs.declared.answer.Answer.TheVariants.{Done, TooShort, WrongLetters, AboveLimit}
use Rattle.octets.specs.Numbers.{number_at}
use Rattle.octets.specs.Opens.{opens_with}
use Rattle.octets.proofs.NumberLaws.{two-bytes_lem}
use Rattle.octets.specs.Editions.{narrow_edition, wide_edition, edition_in, opens_file, beyond}
use Rattle.calllog.specs.Layout.{letters, head_size, longest_log, activities_in, traces_in, offset_at, length_at, bodies_start, events_before}
use Rattle.sets.specs.Sizes.{most_traces}
use Rattle.calllog.specs.Judged.{judged_head, judged_entry, entry_of, judged_bodies, judged_contents, judged_log}
use Rattle.sets.proofs.Order.{none-refuses, refusals-same}
use Rattle.sets.proofs.Asking.{done-is, ask-stop}
use Rattle.calllog.proofs.Verdicts.{bodies-more}
use Rattle.calllog.proofs.Contents.{entry-good}
use Rattle.calllog.proofs.Accepted.{head-good, events-most}

opens-same : (xs bytes : List ℕ) (n : ℕ) → length xs ≤ n → opens_with xs (take n bytes) ≡ opens_with xs bytes
unfolding opens_with
opens-same [] bytes n l = refl
opens-same (x ∷ xs) bytes zero l = absurd (not-suc-le-zero l)
opens-same (x ∷ xs) [] (suc n) l = refl
opens-same (x ∷ xs) (b ∷ bytes) (suc n) l = ap (λ (t : Bool). eqb b x and t) (opens-same xs bytes n (le_of_suc-le-suc l))

-- the head's tests in their order, where there are 6 bytes
tests : Bool → Bool → Bool → Bool → Answer
tests o a t s =
    when non o then WrongLetters
    else when a then AboveLimit
    else when t then AboveLimit
    else when s then TooShort
    else Done

head-tests : (bytes : List ℕ) → head_size ≤ length bytes
    → judged_head bytes
    ≡ tests (opens_file letters bytes) (beyond (edition_in bytes) (activities_in bytes)) (ltb most_traces (traces_in bytes)) (ltb (length bytes) (bodies_start bytes))
unfolding judged_head tests
head-tests bytes l = rw (le-ltb (length bytes) head_size l)

module _ (bytes : List ℕ) (long : longest_log < length bytes) where
  abbrev first : List ℕ
  first = take (longest_log + 1) bytes

  first-length : length first ≡ longest_log + 1
  first-length = length-take-le (longest_log + 1) bytes (omega arith)

  number_same : (i : ℕ) → i < longest_log → number_at 2 first i ≡ number_at 2 bytes i
  number_same i l =
      two-bytes_lem first i
      ∙ ap₂ (λ (x y : ℕ). x + 256 * y) (get_or-take (longest_log + 1) bytes i 0 (omega arith)) (get_or-take (longest_log + 1) bytes (i + 1) 0 (omega arith))
      ∙ sym (two-bytes_lem bytes i)

  activities-same : activities_in first ≡ activities_in bytes
  unfolding activities_in
  activities-same = get_or-take (longest_log + 1) bytes 3 0 (omega arith)

  edition-same : edition_in first ≡ edition_in bytes
  edition-same = get_or-take (longest_log + 1) bytes 2 0 (omega arith)

  file-same : opens_file letters first ≡ opens_file letters bytes
  unfolding opens_file
  file-same =
      λ i.
      opens-same letters bytes (longest_log + 1) (omega arith) i and (eqb (edition-same i) narrow_edition or eqb (edition-same i) wide_edition)

  traces-same : traces_in first ≡ traces_in bytes
  unfolding traces_in
  traces-same = number_same 4 (omega arith)

  start-same : bodies_start first ≡ bodies_start bytes
  unfolding bodies_start
  start-same = ap (λ (n : ℕ). 6 + 4 * n) traces-same

  head-same : judged_head first ≡ judged_head bytes
  unfolding tests bodies_start
  head-same =
      let n = first-length in
      let f = ltb (length first) (bodies_start first) in
      let b = ltb (length bytes) (bodies_start bytes) in
      head-tests first (omega arith)
      ∙ (λ i. tests (file-same i) (beyond (edition-same i) (activities-same i)) (ltb most_traces (traces-same i)) f)
      ∙ go (ltb most_traces (traces_in bytes)) refl
      ∙ sym (head-tests bytes (omega arith))
    where
      go : (t : Bool) → ltb most_traces (traces_in bytes) ≡ t
          → tests (opens_file letters bytes) (beyond (edition_in bytes) (activities_in bytes)) t (ltb (length first) (bodies_start first))
          ≡ tests (opens_file letters bytes) (beyond (edition_in bytes) (activities_in bytes)) t (ltb (length bytes) (bodies_start bytes))
      go true e = refl
      go false e =
          let l = ltb-false most_traces (traces_in bytes) e in
          let n = first-length in
          let m = traces-same in
          ap (tests (opens_file letters bytes) (beyond (edition_in bytes) (activities_in bytes)) false)
          (le-ltb (length first) (bodies_start first) (omega arith) ∙ sym (le-ltb (length bytes) (bodies_start bytes) (omega arith)))

  -- ---- the entries, where there are no more than there may be

  module _ (few : traces_in bytes ≤ most_traces) where
    offset-same : (k : ℕ) → k < traces_in bytes → offset_at first k ≡ offset_at bytes k
    unfolding offset_at
    offset-same k l = number_same _ (omega arith)

    length-same : (k : ℕ) → k < traces_in bytes → length_at first k ≡ length_at bytes k
    unfolding length_at
    length-same k l = number_same _ (omega arith)

    events-same : (k : ℕ) → k ≤ traces_in bytes → events_before first k ≡ events_before bytes k
    unfolding events_before
    events-same zero l = refl
    events-same (suc k) l = ap₂ (λ (x y : ℕ). x + y) (events-same k (omega arith)) (length-same k l)

    entry-same : (k : ℕ) → k < traces_in bytes → entry_of first k ≡ entry_of bytes k
    entry-same k l =
        let e = events-same k (omega arith) in
        let o = offset-same k l in
        let n = length-same k l in
        λ i. judged_entry (e i) (o i) (n i)

    entries-same : first_refusal (traces_in first) (entry_of first) ≡ first_refusal (traces_in bytes) (entry_of bytes)
    entries-same =
        ap (λ (n : ℕ). first_refusal n (entry_of first)) traces-same ∙ refusals-same (entry_of first) (entry_of bytes) (traces_in bytes) entry-same

    module _ (good : first_refusal (traces_in bytes) (entry_of bytes) ≡ Done) where
      fits : bodies_start bytes + events_before bytes (traces_in bytes) ≤ longest_log
      unfolding bodies_start
      fits =
          omega (
            arith,
            events-most bytes (traces_in bytes) (λ k l. (entry-good _ _ _ (none-refuses (entry_of bytes) (traces_in bytes) good k l)).1),
          )

      total-same : events_before first (traces_in first) ≡ events_before bytes (traces_in bytes)
      total-same = ap (events_before first) traces-same ∙ events-same (traces_in bytes) (omega arith)

      -- both have bytes after the end
      bodies-same : judged_bodies first (events_before first (traces_in first)) ≡ judged_bodies bytes (events_before bytes (traces_in bytes))
      bodies-same =
          let n = first-length in
          let s = start-same in
          let t = total-same in
          let f = fits in
          sym (bodies-more first _ _ refl (omega arith) (omega arith)) ∙ bodies-more bytes _ _ refl (omega arith) (omega arith)

    contents-same : judged_contents first ≡ judged_contents bytes
    unfolding judged_contents
    contents-same = go (is_done entries) refl
      where
        entries : Answer
        entries = first_refusal (traces_in bytes) (entry_of bytes)

        go : (t : Bool) → is_done (first_refusal (traces_in bytes) (entry_of bytes)) ≡ t → judged_contents first ≡ judged_contents bytes
        go true e =
            let p = entries-same in
            let q = bodies-same (done-is _ e) in
            λ i. then_ask (p i) (q i)
        go false e = ask-stop _ _ (ap is_done entries-same ∙ e) ∙ entries-same ∙ sym (ask-stop _ _ e)

  -- the number of a log that is too long is that of its first bytes
  pub long_same : judged_log bytes ≡ judged_log (take (longest_log + 1) bytes)
  unfolding judged_log
  long_same = go (is_done (judged_head bytes)) refl
    where
      go : (t : Bool) → is_done (judged_head bytes) ≡ t → judged_log bytes ≡ judged_log first
      go true e =
          let few = (head-good bytes (done-is _ e)).3 in
          let p = head-same in
          let q = contents-same few in
          sym (λ i. then_ask (p i) (q i))
      go false e = ask-stop _ _ e ∙ sym head-same ∙ sym (ask-stop _ _ (ap is_done head-same ∙ e))
