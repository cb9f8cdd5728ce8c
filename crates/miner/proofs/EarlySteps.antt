-- The readings of rows that are some relation's rows: each is again the rows of a relation. A pair is read by `simp reading`. And what is read
-- from the tally of a log is what the rules make of the log in steps 2 and 3. Assumes nothing.
use mathlib.Core.Path.{◌≡◌, ap₂, ◌∙◌, subst, ap}
use mathlib.Core.Bool.{Bool, false}
use mathlib.Core.List.{List}
use Prim.Native.Nat.{ℕ, ◌<◌}
use native.Mathlib.Omega.{arith}
use borrow.Author.Tests.{ltb-true, ltb-false}
use lib.Dec.{eqb, eqb→eq, ltb}
use Rattle.sets.specs.Tests.{◌and◌, ◌or◌, non}
use Rattle.sets.specs.Members.{width, those, some_below, least_below}
use Rattle.sets.specs.Rows.{Relation, rows_of, rows_for, turned}
use Rattle.sets.specs.declared.set.Set.{Set}
use Rattle.sets.proofs.Tests.{non-i, non-e, non-non, T-ext, T→true, F→false, false→F, eqb_of, split, either, eqb-sym}
use Rattle.sets.proofs.Below.{some-i, some-e, some-ext, least-only, least-before}
use Rattle.sets.proofs.Members.{mem-those}
use Rattle.sets.proofs.RowLaws.{in-rows_of, rows_of-ext}
use Rattle.sets.proofs.Tautologies.{by4}
use Rattle.rules.specs.Mining.{smallest_source, no_pair, no_relations, event, ◌with◌, precedes, answers, chained, directly_before, step1, step2, step3, step4, step5, after_five}
use Rattle.rules.specs.Traces.{Traces}
use Rattle.steps.proofs.Sources.{smallest-as}
use Rattle.steps.specs.Rowwise.{smallest, unbroken, absent, in_either, reduced_of}
use Rattle.tally.specs.Tallies.{tallied}
use Rattle.tally.proofs.Tallying.{unpreceded-table_lem, unanswered-table_lem, unchained-table_lem}
use Rattle.miner.specs.Stages.{conditions_of, responses_of, chains_of}
use Rattle.miner.proofs.Losing.{where-so}

pub turned_rows : (r : Relation) → rows_of (turned (rows_of r)) ≡ rows_of (λ a x. r x a)
unfolding turned
turned_rows r = rows_of-ext _ _ (λ a x la lx. in-rows_of r x a lx la)

-- ---- at the members of a set: p are its members

module _ (p : ℕ → Bool) where
  pub unbroken-rows : (r : Relation) → rows_for (those p) (unbroken (those p) (rows_of (λ a x. non (r a x))))
      ≡ rows_of (λ a x. p a and (p x and non (eqb x a) and r a x))
  unfolding unbroken rows_for
  unbroken-rows r = rows_of-ext _ _ (λ a x la lx. simp (mem-those, in-rows_of, non-non))

  pub absent-rows : (r : Relation) → rows_for (those p) (absent (those p) (rows_of r)) ≡ rows_of (λ a x. p a and (p x and non (r a x)))
  unfolding absent rows_for
  absent-rows r = rows_of-ext _ _ (λ a x la lx. simp (mem-those, in-rows_of))

  pub united-rows : (r q : Relation) → rows_for (those p) (in_either (rows_of r) (rows_of q)) ≡ rows_of (λ a x. p a and (r a x or q a x))
  unfolding in_either rows_for
  united-rows r q = rows_of-ext _ _ (λ a x la lx. simp (mem-those, in-rows_of))

  pub reduced-rows : (r : Relation) → rows_for (those p) (reduced_of (rows_of r))
      ≡ rows_of (λ a x. p a and (r a x and non (some_below width (λ u. r a u and r u x))))
  unfolding reduced_of rows_for
  reduced-rows r =
      rows_of-ext _ _
      (λ a x la lx.
      ap₂ ◌and◌ (mem-those p a la)
      (ap₂ (λ (b c : Bool). b and non c) (in-rows_of r a x la lx) (some-ext width _ _ (λ u lu. simp (in-rows_of)))))

-- ---- the smallest source

-- the least that passes is the one that passes with none below it
least-none : (p : ℕ → Bool) (a : ℕ) → a < width → (p a and eqb a (least_below width p)) ≡ (p a and non (some_below a p))
least-none p a l =
    where-so (p a) _ _
    (λ t.
    T-ext (eqb a (least_below width p)) (non (some_below a p))
    (λ e. non-i _ (λ s. let u = some-e a p s in
    false→F (least-before width p u.0 (subst (λ (n : ℕ). u.0 < n) (eqb→eq a (least_below width p) e) u.1)) u.2))
    (λ n. eqb_of (least-only width p a (omega arith) (λ h. t)
    (λ b lb h. either (split (ltb b a)) (λ q. absurd (non-e _ n (some-i a p b (ltb-true b a (T→true _ q)) h)))
    (λ q. ltb-false b a (F→false _ q))))))

-- of a target's sources, as a row has them, the smallest is the rules' one
pub smallest-read : (r : Relation) (t : ℕ) (p : ℕ → Bool) → ((s : ℕ) → s < width → p s ≡ r s t) → (s : ℕ) → s < width → smallest p s
    ≡ smallest_source r s t
unfolding smallest smallest_source
smallest-read r t p h s l =
    smallest-as p (λ u. r u t) h s l ∙ least-none (λ u. r u t) s l

by-target : (a b c d : Bool) → (a and (b and c and d)) ≡ (b and a and (false or c and d))
unfolding ◌and◌ ◌or◌ non
by-target = by4 (λ a b c d. a and (b and c and d)) (λ a b c d. b and a and (false or c and d)) tt

module _ (L : Traces) where
  abbrev pub events : Set
  events = those (event L)

  -- pairs of two events that nothing broke, by a table of what breaks the rule
  kept : (r : Relation) (table : List ℕ) → table ≡ rows_of (λ a x. non (r a x))
      → rows_for events (unbroken events table) ≡ rows_of (λ a x. event L a and (event L x and non (eqb x a) and r a x))
  kept r table h = ap (λ (rows : List ℕ). rows_for events (unbroken events rows)) h ∙ unbroken-rows (event L) r

  pub conditions-read : conditions_of events (tallied L) ≡ rows_of (λ t s. (after_five L).conditions s t)
  unfolding after_five step5 step4 step3 step2 step1 no_relations no_pair ◌with◌
  conditions-read =
      kept (λ t s. precedes L s t) _ (unpreceded-table_lem L)
      ∙ rows_of-ext _ _ (λ t s lt ls. by-target (event L t) (event L s) (non (eqb s t)) (precedes L s t))

  pub responses-read : responses_of events (tallied L) ≡ rows_of (after_five L).responses
  unfolding after_five step5 step4 step3 step2 step1 no_relations no_pair ◌with◌
  responses-read =
      kept (answers L) _ (unanswered-table_lem L)
      ∙ rows_of-ext _ _
      (λ s t ls lt.
      by4 (λ a b c d. a and (b and c and d)) (λ a b c d. a and b and (false or c and d)) (unfold ◌and◌ ◌or◌ non in tt) (event L s) (event L t) (non (eqb t s)) (answers L s t)
      ∙ ap (λ (b : Bool). event L s and event L t and (false or non b and answers L s t)) (eqb-sym t s))

  pub chains-read : chains_of events (tallied L) ≡ rows_of (λ t s. (after_five L).includes s t)
  unfolding after_five step5 step4 step3 step2 step1 no_relations no_pair ◌with◌ directly_before
  chains-read =
      kept (λ t s. chained L s t) _ (unchained-table_lem L)
      ∙ rows_of-ext _ _ (λ t s lt ls. by-target (event L t) (event L s) (non (eqb s t)) (chained L s t))
