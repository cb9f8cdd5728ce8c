-- What an accepted log keeps to, all of it: a log is accepted just where these facts hold. Assumes nothing.
use mathlib.Core.Path.{◌≡◌, refl, sym, subst, ◌∙◌}
use mathlib.Core.Bool.{Bool, true, false}
use mathlib.Core.List.{List}
use Prim.Native.Nat.{ℕ, zero, suc, ◌+◌, ◌≤◌, ◌<◌}
use native.Mathlib.Nat.{le_refl}
use native.Mathlib.Omega.{arith}
use borrow.Author.Tests.{ltb-false}
use lib.Dec.{ltb, ltb→lt, lt→ltb}
use lib.ListN.{length, drop}
use Rattle.sets.specs.declared.answer.Answer.TheVariants.{Done, TooShort, WrongLetters, AboveLimit, WrongOffset, Outside}
use Rattle.sets.proofs.Tests.{non-false, split, either, T→true}
use Rattle.octets.specs.Editions.{edition_for, edition_in, opens_file, beyond}
use Rattle.octets.proofs.Editions.{within-limit, within_both}
use Rattle.calllog.specs.Layout.{letters, head_size, longest_log, activities_in, traces_in, offset_at, length_at, bodies_start, events_before}
use Rattle.sets.specs.Sizes.{most_activities, most_traces, longest_trace, most_events}
use Rattle.sets.specs.Answers.{is_done, first_refusal}
use Rattle.sets.specs.declared.answer.Answer.{Answer}
use Rattle.calllog.specs.Judged.{all_below, judged_head, entry_of, judged_bodies, judged_contents, judged_log}
use Rattle.sets.proofs.Order.{none-refuses, no-refusal}
use Rattle.sets.proofs.Asking.{both, went, ask-on, gone-on}
use Rattle.calllog.proofs.Verdicts.{head_done, entry_done, bodies-done}
use Rattle.calllog.proofs.Contents.{entry-good}

pub record Accepted (bytes : List ℕ) : Type 0 where
  pub long : head_size ≤ length bytes
  pub named : opens_file letters bytes ≡ true
  pub activities : activities_in bytes ≤ most_activities
  pub edition : edition_in bytes ≡ edition_for (activities_in bytes)
  pub traces : traces_in bytes ≤ most_traces
  pub lengths : (k : ℕ) → k < traces_in bytes → length_at bytes k ≤ longest_trace
  pub totals : (k : ℕ) → k < traces_in bytes → events_before bytes k + length_at bytes k ≤ most_events
  pub offsets : (k : ℕ) → k < traces_in bytes → offset_at bytes k ≡ events_before bytes k
  pub whole : length bytes ≡ bodies_start bytes + events_before bytes (traces_in bytes)
  pub below : all_below (activities_in bytes) (drop (bodies_start bytes) bytes) ≡ true

module _ (bytes : List ℕ) where
  pub head-good : judged_head bytes ≡ Done
      → (head_size ≤ length bytes) × (opens_file letters bytes ≡ true) × (beyond (edition_in bytes) (activities_in bytes) ≡ false) × (traces_in bytes ≤ most_traces) × (bodies_start bytes ≤ length bytes)
  unfolding judged_head
  head-good d =
      let p = went _ TooShort _ refl d in
      let q = went _ WrongLetters _ refl p.1 in
      let r = went _ AboveLimit _ refl q.1 in
      let s = went _ AboveLimit _ refl r.1 in
      let c = went _ TooShort _ refl s.1 in (
        ltb-false (length bytes) head_size p.0,
        T→true _ (non-false _ q.0),
        r.0,
        ltb-false most_traces (traces_in bytes) s.0,
        ltb-false (length bytes) (bodies_start bytes) c.0,
      )

  -- what the code goes on by
  pub entries-there : (a : Answer) (d : Bool) → a ≡ judged_head bytes → d ≡ is_done a → d ≡ true → bodies_start bytes ≤ length bytes
  entries-there a d e t n = (head-good (gone-on a (judged_head bytes) d e t n)).4

  bodies-good : (events : ℕ) → judged_bodies bytes events ≡ Done
      → (length bytes ≡ bodies_start bytes + events) × (all_below (activities_in bytes) (drop (bodies_start bytes) bytes) ≡ true)
  unfolding judged_bodies
  bodies-good events d =
      let p = went _ TooShort _ refl d in
      let q = went _ WrongOffset _ refl p.1 in
      let r = went _ Outside _ refl q.1 in
      let l = ltb-false (length bytes) (bodies_start bytes + events) p.0 in
      let g = ltb-false (bodies_start bytes + events) (length bytes) q.0 in
      (omega arith, T→true _ (non-false _ r.0))

  pub accepted : judged_log bytes ≡ Done → Accepted bytes
  unfolding judged_log judged_contents
  accepted d =
      let p = both (judged_head bytes) (judged_contents bytes) d in
      let q = both (first_refusal (traces_in bytes) (entry_of bytes)) (judged_bodies bytes (events_before bytes (traces_in bytes))) p.1 in
      let h = head-good p.0 in
      let e : (k : ℕ) → k < traces_in bytes → entry_of bytes k ≡ Done = none-refuses (entry_of bytes) (traces_in bytes) q.0 in
      let b = bodies-good (events_before bytes (traces_in bytes)) q.1 in
      record {
        long = h.0;
        named = h.1;
        activities = (within-limit (edition_in bytes) (activities_in bytes) h.2).0;
        edition = (within-limit (edition_in bytes) (activities_in bytes) h.2).1;
        traces = h.3;
        lengths = λ k l. (entry-good _ _ _ (e k l)).0;
        totals = λ k l. (entry-good _ _ _ (e k l)).1;
        offsets = λ k l. (entry-good _ _ _ (e k l)).2;
        whole = b.0;
        below = b.1;
      }

  pub accepts : Accepted bytes → judged_log bytes ≡ Done
  unfolding judged_log judged_contents
  accepts a =
      let w = a.whole in
      let head : judged_head bytes ≡ Done =
      sym (head_done bytes _ refl a.long _ _ refl refl _ refl a.named _ refl (within_both _ _ a.activities a.edition) _ refl a.traces (omega arith)) in
      ask-on _ _ head
      ∙ ask-on _ _
      (no-refusal (entry_of bytes) (traces_in bytes) (λ k l. sym (entry_done _ _ _ (a.lengths k l) (a.totals k l) (a.offsets k l))))
      ∙ sym (bodies-done bytes _ _ refl (omega arith) _ refl _ refl (omega arith) a.below)

-- ---- the sums of the lengths

pub events-mono : (bytes : List ℕ) (k n : ℕ) → k ≤ n → events_before bytes k ≤ events_before bytes n
unfolding events_before
events-mono bytes zero zero l = omega arith
events-mono bytes (suc k) zero l = omega arith
events-mono bytes k (suc n) l =
    either (split (ltb n k))
    (λ t. let q : k ≡ suc n = omega (arith, ltb→lt n k t) in subst (λ (m : ℕ). events_before bytes k ≤ events_before bytes m) q (le_refl _))
    (λ nope.
    let far : n < k → ⊥ = λ h. nope (lt→ltb n k h) in
    let h = events-mono bytes k n (omega arith) in
    omega arith)

pub events-most : (bytes : List ℕ) (n : ℕ) → ((k : ℕ) → k < n → events_before bytes k + length_at bytes k ≤ most_events) → events_before bytes n ≤ most_events
unfolding events_before
events-most bytes zero f = omega arith
events-most bytes (suc n) f = f n (le_refl _)

-- an accepted log is no longer than the longest
pub accepted-size : (bytes : List ℕ) → judged_log bytes ≡ Done → length bytes ≤ longest_log
unfolding bodies_start
accepted-size bytes d = let a = accepted bytes d in omega (arith, a.whole, a.traces, events-most bytes (traces_in bytes) a.totals)
