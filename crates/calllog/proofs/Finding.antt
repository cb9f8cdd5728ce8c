-- Finding a trace: where it stands in an accepted log, and what the code gives. Assumes nothing.
use mathlib.Core.Path.{◌≡◌, refl, sym, ap, ◌∙◌}
use mathlib.Core.Bool.{Bool, true, false}
use mathlib.Core.List.{List}
use Prim.Native.Nat.{ℕ, suc, ◌+◌, ◌≤◌, ◌<◌}
use native.Mathlib.Omega.{arith}
use borrow.Author.Tests.{lt-ltb, le-ltb, ltb-true}
use lib.Dec.{ltb}
use mir.Syntax.{w64}
use mir.Val.{Fits}
use lib.ListN.{length}
use Rattle.sets.specs.Tests.{when◌then◌else◌}
use Rattle.sets.specs.Answers.{is_done}
use Rattle.sets.specs.declared.answer.Answer.TheVariants.{Done, NoTrace}
use Rattle.sets.proofs.Tests.{true→T}
use Rattle.calllog.specs.Layout.{traces_in, length_at, events_before}
use Rattle.calllog.specs.Judged.{judged_log}
use Rattle.calllog.specs.Logs.{start_at, judged_of, part_of, found_as, finding_of, found_of, asked_of}
use Rattle.calllog.specs.declared.judge.Judged.{Judged}
use Rattle.calllog.specs.declared.trace.Part.{Part}
use Rattle.calllog.specs.declared.trace.Found.{Found}
use Rattle.calllog.specs.declared.trace.Asked.{Asked}
use Rattle.sets.proofs.Asking.{done-is, ask-stop, both}
use Rattle.calllog.proofs.Accepted.{Accepted, accepted, events-mono}
use Rattle.calllog.proofs.Given.{log-answer, judged-accepted, where-is, part-of_lem}

-- ---- a trace of an accepted log is within the bytes

module _ (bytes : List ℕ) (k : ℕ) where
  pub trace-within : Accepted bytes → k < traces_in bytes → start_at bytes k + length_at bytes k ≤ length bytes
  unfolding events_before
  trace-within a l = omega (arith, a.offsets k l, a.whole, events-mono bytes (suc k) (traces_in bytes) l)

  pub part-there : judged_log bytes ≡ Done → k < traces_in bytes → part_of bytes k ≡ record { start = start_at bytes k; length = length_at bytes k }
  part-there d l = sym (part-of_lem bytes k _ refl _ l (where-is bytes k _ _ _ refl refl refl (trace-within (accepted bytes d) l)))

-- ---- the answers of a search

module _ (bytes : List ℕ) (k : ℕ) where
  finding-there : judged_log bytes ≡ Done → k < traces_in bytes → finding_of bytes k ≡ Done
  unfolding finding_of
  finding-there d l = rw (d, lt-ltb k (traces_in bytes) l)

  finding-none : judged_log bytes ≡ Done → traces_in bytes ≤ k → finding_of bytes k ≡ NoTrace
  unfolding finding_of
  finding-none d l = rw (d, le-ltb k (traces_in bytes) l)

  finding-refused : is_done (judged_log bytes) ≡ false → finding_of bytes k ≡ judged_log bytes
  unfolding finding_of
  finding-refused d = ask-stop _ _ d

  found-there : finding_of bytes k ≡ Done → found_of bytes k ≡ record { answer = Done; start = start_at bytes k; length = length_at bytes k }
  unfolding found_of
  found-there d = rw d

  found-not : is_done (finding_of bytes k) ≡ false → found_of bytes k ≡ record { answer = finding_of bytes k; start = 0; length = 0 }
  unfolding found_of
  found-not d = rw d

  pub found-answer : (found_of bytes k).answer ≡ finding_of bytes k
  found-answer = go (is_done (finding_of bytes k)) refl
    where
      go : (t : Bool) → is_done (finding_of bytes k) ≡ t → (found_of bytes k).answer ≡ finding_of bytes k
      go true e = let d = done-is (finding_of bytes k) e in ap (λ (f : Found). f.answer) (found-there d) ∙ sym d
      go false e = ap (λ (f : Found). f.answer) (found-not e)

  -- a trace that is found has a number below T, of an accepted log
  pub found_below : finding_of bytes k ≡ Done → (judged_log bytes ≡ Done) × (k < traces_in bytes)
  unfolding finding_of
  found_below d = let b = both (judged_log bytes) _ d in (b.0, go (ltb k (traces_in bytes)) refl b.1)
    where
      go : (t : Bool) → ltb k (traces_in bytes) ≡ t → (when t then Done else NoTrace) ≡ Done → k < traces_in bytes
      go true e h = ltb-true k (traces_in bytes) e
      go false e h = absurd (true→T (ap is_done h))

-- what is found is the part that `trace_part` gives
pub found_part : (bytes : List ℕ) (k : ℕ) (f : Found) → f ≡ found_of bytes k → f.answer ≡ Done
    → (judged_log bytes ≡ Done) × (k < traces_in bytes) × (f ≡ found_as Done (part_of bytes k))
found_part bytes k f e y =
    let d : finding_of bytes k ≡ Done = sym (found-answer bytes k) ∙ ap (λ (x : Found). x.answer) (sym e) ∙ y in
    let b = found_below bytes k d in
    (b.0, b.1, e ∙ found-there bytes k d ∙ ap (found_as Done) (sym (part-there bytes k b.0 b.1)))

-- ---- what the code gives

module _ (bytes : List ℕ) (k : ℕ) (j : Judged) (r : Bool) (ej : j ≡ judged_of bytes) (er : r ≡ is_done j.answer) where
  answer-is : j.answer ≡ judged_log bytes
  answer-is = ap (λ (x : Judged). x.answer) ej ∙ log-answer bytes

  pub find-refused : r ≡ false → ◌≡◌ {A = Found} (record { answer = j.answer; start = 0; length = 0 }) (found_of bytes k)
  find-refused n =
      let d : is_done (judged_log bytes) ≡ false = ap is_done (sym answer-is) ∙ sym er ∙ n in
      let f = finding-refused bytes k d in
      ap {B = Found} (λ x. record { answer = x; start = 0; length = 0 }) (answer-is ∙ sym f)
      ∙ sym (found-not bytes k (ap is_done f ∙ d))

  module _ (n : r ≡ true) where
    judged-done : judged_log bytes ≡ Done
    judged-done = sym answer-is ∙ done-is j.answer (sym er ∙ n)

    traces-are : j.traces ≡ traces_in bytes
    traces-are = ap (λ (x : Judged). x.traces) (ej ∙ judged-accepted bytes judged-done)

    pub find_none : j.traces ≤ k → ◌≡◌ {A = Found} (record { answer = NoTrace; start = 0; length = 0 }) (found_of bytes k)
    find_none l =
        let t = traces-are in
        let f = finding-none bytes k judged-done (omega arith) in
        ap {B = Found} (λ x. record { answer = x; start = 0; length = 0 }) (sym f)
        ∙ sym (found-not bytes k (ap is_done f))

    pub find-there : (p : Part) → k < j.traces → p ≡ part_of bytes k
        → ◌≡◌ {A = Found} (record { answer = Done; start = p.start; length = p.length }) (found_of bytes k)
    find-there p l e =
        let t = traces-are in
        let h : k < traces_in bytes = omega arith in
        ap (found_as Done) (e ∙ part-there bytes k judged-done h) ∙ sym (found-there bytes k (finding-there bytes k judged-done h))

pub ruleset finding = (find-refused, find_none, find-there)

module _ (bytes : List ℕ) (k : ℕ) (f : Found) (r : Bool) (ef : f ≡ found_of bytes k) (er : r ≡ is_done f.answer) where
  flag : r ≡ is_done (finding_of bytes k)
  flag = er ∙ ap (λ (x : Found). is_done x.answer) ef ∙ ap is_done (found-answer bytes k)

  pub asked-fits : r ≡ true → Fits w64 (k + 1)
  asked-fits y =
      let b = found_below bytes k (done-is _ (sym flag ∙ y)) in
      omega (arith, b.1, (accepted bytes b.0).traces)

  pub asked-moves : (next : ℕ) → r ≡ true → ◌≡◌ {A = Asked} (record { found = f; next = k + 1 }) (asked_of bytes next k)
  unfolding asked_of
  asked-moves next y = rw (← ef, ← flag, y)

  pub asked-stays : (next : ℕ) → r ≡ false → ◌≡◌ {A = Asked} (record { found = f; next = next }) (asked_of bytes next k)
  unfolding asked_of
  asked-stays next n = rw (← ef, ← flag, n)

pub ruleset asking = (asked-fits, asked-moves, asked-stays)
