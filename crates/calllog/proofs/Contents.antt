-- The entries, one turn of the code after the other, then the bodies. Assumes nothing.
use mathlib.Core.Path.{◌≡◌, refl, sym, ap, ◌∙◌}
use mathlib.Core.Bool.{Bool, true, false}
use mathlib.Core.List.{List}
use Prim.Native.Nat.{ℕ, ◌+◌, ◌≤◌, ◌<◌}
use native.Mathlib.Numerals.{add-one}
use native.Mathlib.Omega.{arith}
use borrow.Author.Tests.{ltb-false}
use lib.Dec.{eqb→eq}
use Rattle.sets.specs.Answers.{is_done, first_refusal}
use Rattle.sets.specs.declared.answer.Answer.{Answer}
use Rattle.sets.specs.declared.answer.Answer.TheVariants.{Done, AboveLimit, WrongOffset}
use Rattle.sets.proofs.Tests.{non-false}
use Rattle.calllog.specs.Layout.{traces_in, offset_at, length_at, events_before}
use Rattle.sets.specs.Sizes.{longest_trace, most_events}
use Rattle.calllog.specs.Judged.{judged_entry, entry_of, judged_bodies, judged_contents}
use Rattle.sets.proofs.Order.{turns-begin, turn-passed, turn-refused, turns-end}
use Rattle.sets.proofs.Asking.{done-is, ask-on, ask-stop, went}

-- what an entry that is done tells
pub entry-good : (earlier offset size : ℕ) → judged_entry earlier offset size ≡ Done
    → (size ≤ longest_trace) × (earlier + size ≤ most_events) × (offset ≡ earlier)
unfolding judged_entry
entry-good earlier offset size d =
    let p = went _ AboveLimit _ refl d in
    let q = went _ AboveLimit _ refl p.1 in
    let r = went _ WrongOffset _ refl q.1 in
    (ltb-false longest_trace size p.0, ltb-false most_events (earlier + size) q.0, eqb→eq offset earlier (non-false _ r.0))

pub events-next : (bytes : List ℕ) (k events size : ℕ) → events ≡ events_before bytes k → size ≡ length_at bytes k
    → events + size ≡ events_before bytes (k + 1)
unfolding events_before
events-next bytes k events size e s = (λ i. e i + s i) ∙ ap (events_before bytes) (sym (add-one k))

module _ (bytes : List ℕ) (k events size offset : ℕ) (a : Answer) (r : Bool) (ee : events ≡ events_before bytes k) (es : size ≡ length_at bytes k)
    (eo : offset ≡ offset_at bytes k) (ea : a ≡ judged_entry events offset size) (er : r ≡ is_done a) where
  entry-is : a ≡ entry_of bytes k
  entry-is = ea ∙ (λ i. judged_entry (ee i) (eo i) (es i))

  entry-fine : r ≡ true → a ≡ Done
  entry-fine d = done-is a (sym er ∙ d)

  pub contents-room : r ≡ true → events + size ≤ most_events
  contents-room d = (entry-good events offset size (sym ea ∙ entry-fine d)).1

  pub contents-next : r ≡ true → first_refusal k (entry_of bytes) ≡ Done → first_refusal (k + 1) (entry_of bytes) ≡ Done
  contents-next d f = turn-passed (entry_of bytes) k a r entry-is er f d

  pub contents-refused : (t : ℕ) → t ≡ traces_in bytes → k < t → first_refusal k (entry_of bytes) ≡ Done → r ≡ false → a ≡ judged_contents bytes
  unfolding judged_contents
  contents-refused t et l f n =
      let stands = turn-refused (entry_of bytes) k a r entry-is er f (traces_in bytes) (omega arith) n in
      stands ∙ sym (ask-stop _ _ (ap is_done (sym stands) ∙ sym er ∙ n))

pub contents-end : (bytes : List ℕ) (k events t : ℕ) (b : Answer) → t ≡ traces_in bytes → t ≤ k → k ≤ t → events ≡ events_before bytes k
    → first_refusal k (entry_of bytes) ≡ Done → b ≡ judged_bodies bytes events → b ≡ judged_contents bytes
unfolding judged_contents
contents-end bytes k events t b et l g ee f eb =
    let q : k ≡ traces_in bytes = omega arith in
    eb
    ∙ ap (judged_bodies bytes) (ee ∙ ap (events_before bytes) q)
    ∙ sym (ask-on _ _ (sym (turns-end (entry_of bytes) (traces_in bytes) k (omega arith) (omega arith) f)))

pub ruleset contents = (turns-begin, events-next, contents-room, contents-next, contents-refused, contents-end)
