-- A graph judged part by part. Assumes nothing.
use mathlib.Core.Path.{◌≡◌, refl, ap, ◌∙◌}
use mathlib.Core.Bool.{Bool, true, false}
use mathlib.Core.List.{List}
use Prim.Native.Nat.{ℕ}
use lib.Dec.{T}
use Rattle.sets.specs.Tests.{non, when◌then◌else◌}
use Rattle.sets.specs.Members.{those, within}
use Rattle.sets.specs.Rows.{row_at}
use Rattle.sets.specs.declared.set.Set.{Set}
use Rattle.sets.specs.Answers.{is_done, then_ask}
use Rattle.sets.specs.declared.answer.Answer.{Answer}
use Rattle.sets.proofs.Ways.{failed, held, taken, passed-by}
use Rattle.sets.specs.declared.answer.Answer.TheVariants.{Done, AboveLimit, Outside, FalseEnabled}
use Rattle.sets.proofs.Tests.{T→true, non-false}
use Rattle.sets.proofs.Asking.{went}
use Rattle.engine.specs.Judged.{row_within, found}

pub events-below : (events b : Set) (p : ℕ → Bool) (r : Bool) → b ≡ those p → r ≡ within events b → r ≡ within events (those p)
events-below events b p r h k = k ∙ ap (within events) h

-- a row that was read
pub row_read : (events : Set) (rows : List ℕ) (a : ℕ) (s : Set) (r : Bool)
    → s ≡ row_at rows a → r ≡ row_within events a s → r ≡ row_within events a (row_at rows a)
row_read events rows a s r h k = k ∙ ap (row_within events a) h

-- ---- 3, 5 and 16

module _ (a i t : Bool) where
  pub found_none : found a i t ≡ Done → (a ≡ false) × T i × T t
  unfolding found
  found_none h =
      let x = went a _ _ refl h in
      let y = went (non i) _ _ refl x.1 in
      let z = went (non t) _ _ refl y.1 in
      (x.0, non-false i y.0, non-false t z.0)

  pub none_found : a ≡ false → T i → T t → found a i t ≡ Done
  unfolding found non
  none_found x y z j =
      when x j then AboveLimit else when non (T→true i y j) then Outside else when non (T→true t z j) then FalseEnabled else Done

  -- nothing else is found
  pub found-one : (P : Answer → Type 0) → P AboveLimit → P Outside → P FalseEnabled → P Done → P (found a i t)
  unfolding found
  found-one P three five sixteen done = by a (non i) (non t)
    where
      by : (x y z : Bool) → P (when x then AboveLimit else when y then Outside else when z then FalseEnabled else Done)
      by true y z = three
      by false true z = five
      by false false true = sixteen
      by false false false = done

  -- the three tests, as they were made
  pub found-by : (a' i' t' : Bool) (r : Answer) → a' ≡ a → i' ≡ i → t' ≡ t → r ≡ found a' i' t' → r ≡ found a i t
  found-by a' i' t' r ha hi ht h = h ∙ (λ j. found (ha j) (hi j) (ht j))

-- ---- one judgement after another

pub ask-stops : (x y a : Answer) (r : Bool) → a ≡ x → r ≡ is_done a → r ≡ false → a ≡ then_ask x y
ask-stops x y a r h k t = passed-by (is_done x) y x a (failed (is_done x) r (k ∙ ap is_done h) t) h

pub ask-goes : (x y a z : Answer) (r : Bool) → a ≡ x → r ≡ is_done a → r ≡ true → z ≡ y → z ≡ then_ask x y
ask-goes x y a z r h k t e = taken (is_done x) y x z (held (is_done x) r (k ∙ ap is_done h) t) e

pub asked-as : (x y a r : Answer) → a ≡ x → r ≡ then_ask a y → r ≡ then_ask x y
asked-as x y a r h k = k ∙ ap (λ (b : Answer). then_ask b y) h
