-- What the public functions give, as the code puts it together. Assumes nothing.
use mathlib.Core.Path.{◌≡◌, refl, sym, ap, ap₂, ◌∙◌}
use mathlib.Core.Bool.{Bool, true, false}
use mathlib.Core.List.{List, []}
use Prim.Native.Nat.{ℕ, zero, suc, ◌+◌, ◌≤◌, ◌<◌}
use native.Mathlib.Omega.{arith}
use borrow.Author.Tests.{lt-ltb, le-ltb}
use lib.ListN.{length}
use Rattle.sets.specs.Answers.{is_done}
use Rattle.sets.specs.declared.answer.Answer.{Answer}
use Rattle.sets.specs.declared.answer.Answer.TheVariants.{Done}
use Rattle.calllog.specs.Layout.{activities_in, traces_in, offset_at, length_at, bodies_start}
use Rattle.calllog.specs.Judged.{judged_head, judged_contents, judged_log}
use Rattle.calllog.specs.Logs.{Log, traces_from, log_of, judged_of, no_part, where_part, part_of}
use Rattle.calllog.specs.declared.judge.Judged.{Judged}
use Rattle.calllog.specs.declared.trace.Part.{Part}
use Rattle.sets.proofs.Asking.{done-is, refused, passed}

-- ---- the log as a whole

pub log-accepted : (bytes : List ℕ) → judged_log bytes ≡ Done
    → log_of bytes ≡ record { answer = Done; activities = activities_in bytes; traces = traces_from bytes (traces_in bytes) 0 }
unfolding log_of
log-accepted bytes d = rw d

pub log-refused : (bytes : List ℕ) → is_done (judged_log bytes) ≡ false → log_of bytes ≡ record { answer = judged_log bytes; activities = 0; traces = [] }
unfolding log_of
log-refused bytes d = rw d

-- the log's answer is the judgement
pub log-answer : (bytes : List ℕ) → (log_of bytes).answer ≡ judged_log bytes
log-answer bytes = go (is_done (judged_log bytes)) refl
  where
    go : (t : Bool) → is_done (judged_log bytes) ≡ t → (log_of bytes).answer ≡ judged_log bytes
    go true e = let d = done-is (judged_log bytes) e in ap (λ (l : Log). l.answer) (log-accepted bytes d) ∙ sym d
    go false e = ap (λ (l : Log). l.answer) (log-refused bytes e)

pub length-traces_from : (bytes : List ℕ) (n k : ℕ) → length (traces_from bytes n k) ≡ n
unfolding traces_from
length-traces_from bytes zero k = refl
length-traces_from bytes (suc n) k = ap suc (length-traces_from bytes n (suc k))

pub judged-accepted : (bytes : List ℕ) → judged_log bytes ≡ Done → judged_of bytes ≡ record { answer = Done; activities = activities_in bytes; traces = traces_in bytes }
judged-accepted bytes d =
    ap {B = Judged} (λ l. record { answer = l.answer; activities = l.activities; traces = length l.traces }) (log-accepted bytes d)
    ∙ ap {B = Judged} (λ n. record { answer = Done; activities = activities_in bytes; traces = n }) (length-traces_from bytes (traces_in bytes) 0)

pub judged-refused : (bytes : List ℕ) → is_done (judged_log bytes) ≡ false → judged_of bytes ≡ record { answer = judged_log bytes; activities = 0; traces = 0 }
judged-refused bytes d =
    ap {B = Judged} (λ l. record { answer = l.answer; activities = l.activities; traces = length l.traces }) (log-refused bytes d)

-- ---- the code's ways to a judgement

module _ (bytes : List ℕ) (a : Answer) (r : Bool) where
  pub judge-stop : a ≡ judged_head bytes → r ≡ is_done a → r ≡ false → a ≡ judged_log bytes
  unfolding judged_log
  judge-stop e d n = refused a (judged_head bytes) r e d (judged_contents bytes) n

  pub judge-on : (b : Answer) → a ≡ judged_head bytes → r ≡ is_done a → r ≡ true → b ≡ judged_contents bytes → b ≡ judged_log bytes
  unfolding judged_log
  judge-on b e d n f = f ∙ sym (passed a (judged_head bytes) r e d (judged_contents bytes) n)

  pub log-done : (x t : ℕ) → a ≡ judged_log bytes → r ≡ is_done a → r ≡ true → x ≡ activities_in bytes → t ≡ traces_in bytes
      → ◌≡◌ {A = Judged} (record { answer = Done; activities = x; traces = t }) (judged_of bytes)
  log-done x t e d y ex et =
      ap₂ {C = Judged} (λ m n. record { answer = Done; activities = m; traces = n }) ex et
      ∙ sym (judged-accepted bytes (sym e ∙ done-is a (sym d ∙ y)))

  pub log-not : a ≡ judged_log bytes → r ≡ is_done a → r ≡ false → ◌≡◌ {A = Judged} (record { answer = a; activities = 0; traces = 0 }) (judged_of bytes)
  log-not e d n =
      ap {B = Judged} (λ x. record { answer = x; activities = 0; traces = 0 }) e
      ∙ sym (judged-refused bytes (ap is_done (sym e) ∙ sym d ∙ n))

pub ruleset judging = (judge-stop, judge-on, log-done, log-not)

-- ---- parts

module _ (bytes : List ℕ) (k s o n : ℕ) (es : s ≡ bodies_start bytes) (eo : o ≡ offset_at bytes k) (en : n ≡ length_at bytes k) where
  pub where-not : length bytes < s + o + n → no_part ≡ where_part bytes k
  unfolding where_part
  where-not l = rw (← es, ← eo, ← en, lt-ltb (length bytes) (s + o + n) l)

  pub where-is : s + o + n ≤ length bytes → ◌≡◌ {A = Part} (record { start = s + o; length = n }) (where_part bytes k)
  unfolding where_part
  where-is l = rw (← es, ← eo, ← en, le-ltb (length bytes) (s + o + n) l)

-- bytes that end before the bodies have no part
pub where-cut : (bytes : List ℕ) (k s : ℕ) → s ≡ bodies_start bytes → length bytes < s → no_part ≡ where_part bytes k
where-cut bytes k s es l = where-not bytes k s (offset_at bytes k) (length_at bytes k) es refl refl (omega arith)

module _ (bytes : List ℕ) (k t : ℕ) (et : t ≡ traces_in bytes) where
  pub part_none : t ≤ k → no_part ≡ part_of bytes k
  unfolding part_of
  part_none l = rw (← et, le-ltb k t l)

  pub part-of_lem : (p : Part) → k < t → p ≡ where_part bytes k → p ≡ part_of bytes k
  unfolding part_of
  part-of_lem p l e = rw (← et, lt-ltb k t l) e

pub ruleset parts = (where-cut, where-not, where-is, part_none, part-of_lem)
