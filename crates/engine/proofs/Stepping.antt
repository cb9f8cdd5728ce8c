-- The operations on sets of a step, as the set rules have it. Assumes nothing.
use mathlib.Core.Path.{◌≡◌, ap, ◌∙◌}
use mathlib.Core.Bool.{Bool, not}
use mathlib.Core.List.{List}
use Prim.Native.Nat.{ℕ}
use lib.Dec.{eqb}
use Rattle.sets.specs.Tests.{◌and◌, ◌or◌, non}
use Rattle.sets.specs.Members.{width, mem, those, some_below, least_below, is_empty}
use Rattle.sets.specs.Rows.{row_at, in_row}
use Rattle.sets.specs.Tables.{table_at}
use Rattle.sets.specs.declared.activity.Activity.{Activity}
use Rattle.sets.specs.declared.set.Set.{Set}
use Rattle.sets.specs.declared.answer.Answer.TheVariants.{Waiting}
use Rattle.sets.proofs.Tests.{not-non, non-non}
use Rattle.sets.proofs.Members.{those-of, some-of_lem, least-of, empty-none}
use Rattle.engine.specs.declared.marking.State.{State}
use Rattle.engine.specs.Markings.{state_of}
use Rattle.engine.specs.Relations.{in_tables}
use Rattle.engine.specs.Steps.{blocking, waits, blocker, after, accepting}

-- a set of members that pass is empty where none passes
pub none_pass : (u : Set) (p : ℕ → Bool) → u ≡ those p → is_empty u ≡ non (some_below width p)
none_pass u p e = empty-none u ∙ ap non (some-of_lem u p (λ a t. t) e)

pub changed-by : (s lost gained u v : Set) → u ≡ those (λ a. mem s a and non (mem lost a)) → v ≡ those (λ a. mem u a or mem gained a)
    → v ≡ those (λ a. mem s a and non (mem lost a) or mem gained a)
changed-by s lost gained u v h k = k ∙ those-of u (λ a. mem s a and non (mem lost a)) (λ a t. t or mem gained a) h

pub accepting-by : (m : State) (u : Set) (r : Bool) → u ≡ those (λ a. mem m.pending a and mem m.included a) → r ≡ is_empty u
    → r ≡ accepting m
unfolding accepting
accepting-by m u r h k = k ∙ none_pass u (λ a. mem m.pending a and mem m.included a) h

module _ (tables : List ℕ) (m : State) (e : ℕ) where
  pub blocking-by : (sources live left : Set) → sources ≡ row_at (table_at tables 0) e
      → live ≡ those (λ s. mem sources s and mem m.included s) → left ≡ those (λ s. mem live s and non (mem m.executed s))
      → left ≡ those (blocking (in_tables tables) m e)
  unfolding in_row
  blocking-by sources live left hs ho hb =
      hb
      ∙ those-of live (λ s. mem sources s and mem m.included s) (λ s t. t and non (mem m.executed s)) ho
      ∙ ap (λ (u : Set). those (λ s. mem u s and mem m.included s and non (mem m.executed s))) hs

  -- that set decides whether 10 is given
  pub waits-by : (left : Set) (r : Bool) → left ≡ those (blocking (in_tables tables) m e) → r ≡ is_empty left
      → not r ≡ waits (in_tables tables) m e
  unfolding waits
  waits-by left r h k =
      not-non r
      ∙ ap non (k ∙ none_pass left (blocking (in_tables tables) m e) h)
      ∙ non-non (some_below width (blocking (in_tables tables) m e))

  -- and its least member is the blocker
  pub blocker-by : (left : Set) (b : Activity) → left ≡ those (blocking (in_tables tables) m e) → b.0 ≡ least_below width (mem left)
      → Waiting b ≡ Waiting (blocker (in_tables tables) m e)
  unfolding blocker
  blocker-by left b h k = let same = k ∙ least-of left (blocking (in_tables tables) m e) h in λ i. Waiting (record { 0 = same i })

  pub next-by : (one ex r p x i n : Set) (m' : State) → one ≡ those (λ b. eqb b e) → ex ≡ those (λ a. mem m.executed a or mem one a)
      → r ≡ row_at (table_at tables 1) e → p ≡ those (λ a. mem m.pending a and non (mem one a) or mem r a)
      → x ≡ row_at (table_at tables 3) e → i ≡ row_at (table_at tables 2) e
      → n ≡ those (λ a. mem m.included a and non (mem x a) or mem i a)
      → m' ≡ state_of ex p n → m' ≡ after (in_tables tables) m e
  unfolding after in_row
  next-by one ex r p x i n m' ho hex hr hp hx hi hn hm =
      hm
      ∙ (λ j.
      state_of
      ((hex ∙ those-of one (λ b. eqb b e) (λ a t. mem m.executed a or t) ho) j)
      ((hp
      ∙ those-of one (λ b. eqb b e) (λ a t. mem m.pending a and non t or mem r a) ho
      ∙ ap (λ (u : Set). those (λ a. mem m.pending a and non (eqb a e) or mem u a)) hr) j)
      ((hn ∙ (λ k. those (λ a. mem m.included a and non (mem (hx k) a) or mem (hi k) a))) j))
