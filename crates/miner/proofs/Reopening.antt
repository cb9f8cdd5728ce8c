-- One turn of the pass of step 7 over a trace, and over a log: what was let in since a u, and which pairs are lost. Assumes nothing.
use mathlib.Core.Path.{◌≡◌, refl, sym, ap, ap₂, ◌∙◌, subst}
use mathlib.Core.Bool.{Bool, true, false}
use mathlib.Core.List.{List, [], ◌∷◌}
use Rattle.std.specs.List.{position, position_or_len}
use Rattle.std.proofs.Common.{Some, None}
use Rattle.std.proofs.lemmas.Grind.{common_steps}
use Rattle.std.proofs.lemmas.List.Sums.{fails_before_first}
use Rattle.std.proofs.lemmas.List.Quantifiers.{position-Some}
use Prim.Native.Nat.{ℕ, zero, suc, ◌+◌, ◌-◌, ◌≤◌, ◌<◌}
use native.Mathlib.Numerals.{add-one}
use native.Mathlib.Omega.{arith}
use lib.Dec.{T, eqb, ltb}
use lib.ListN.{length, get_or, drop, drop_of_length-le}
use Rattle.sets.specs.Tests.{◌and◌, ◌or◌, non}
use Rattle.sets.specs.Members.{width, word, mem, those, some_below, within, is_empty, no_set}
use Rattle.sets.specs.Rows.{Relation, row_at, with_row, in_row, rows_of}
use Rattle.sets.specs.Tables.{table_at}
use Rattle.sets.specs.declared.set.Set.{Set}
use Rattle.sets.proofs.Tests.{and_l, and_r, and_i, T-eq, T→true, true→T, F→false, and-false, or-true, or-false}
use Rattle.sets.proofs.Tautologies.{by3, by4}
use Rattle.sets.proofs.Members.{those-ext, mem-those, mem-none, empty-e, within-e}
use Rattle.sets.proofs.MadeSets.{is-those, is_row, none}
use Rattle.sets.proofs.RowLaws.{in-rows_of}
use Rattle.calllog.specs.Logs.{part_at}
use Rattle.rules.specs.Traces.{Traces, ◌has◌, at_some_from, some_trace}
use Rattle.tally.specs.Passes.{walked, reaches}
use Rattle.sets.proofs.Tests.{eqb-sym}
use Rattle.tally.proofs.Turns.{past_at, past_next, rest-next}
use Rattle.tally.proofs.Walks.{walked_next, walked_end, walked_start}
use Rattle.miner.specs.Facts.{Less, let_in_since, reopened_in, reopened}
use Rattle.miner.proofs.Losing.{Toward, less_none, less-row, toward-start, toward-next, toward-end, in-union}

module _ (wide : Bool) (includes : List ℕ) (u : ℕ) where
  -- what was let in, and what the places from here on say, as far as the form holds it
  abbrev since_in : List ℕ → ℕ → Bool
  since_in past x = reaches wide x and let_in_since includes u past x

  abbrev to_come : List ℕ → List ℕ → Relation
  to_come past rest a x = reaches wide x and at_some_from a (λ q s. let_in_since includes u q x) past rest

  module _ (σ rows₀ : List ℕ) where
    -- before place i: what was let in, whether a u has come, and what is lost so far
    pub record Reopens (begun : Bool) (since : Set) (i : ℕ) (rows : List ℕ) : Type 0 where
      pub kept : i < length σ → (since ≡ those (since_in (past_at σ i))) × (past_at σ i has u ≡ begun)
      pub lost : Toward rows₀ (to_come (past_at σ i) (drop i σ)) (to_come [] σ) rows

    reopen-start : Reopens false no_set 0 rows₀
    unfolding let_in_since ◌has◌
    reopen-start =
        record {
          kept = λ l. (none (since_in []) (λ x l. and-false (reaches wide x)), refl);
          lost = toward-start rows₀ _ _ (λ a x la lx. refl);
        }

    module _ (begun : Bool) (since : Set) (i : ℕ) (rows : List ℕ) (inv : Reopens begun since i rows) where
      module _ (h : i < length σ) where
        abbrev e : ℕ
        e = get_or σ i 0

        same-since : (x : ℕ) → x < width → mem since x ≡ since_in (past_at σ i) x
        same-since = is-those since (since_in (past_at σ i)) (inv.kept h).0

        place : (since' : Set) (rows' : List ℕ) → since' ≡ those (λ x. reaches wide x and (mem since x or begun and in_row includes e x))
            → Less rows (λ a x. eqb a e and mem since x) rows' → Reopens (eqb u e or begun) since' (i + 1) rows'
        unfolding let_in_since ◌has◌ at_some_from
        place since' rows' hs hl =
            record {
              kept = λ l. (
                hs
                    ∙ those-ext _ (since_in (e ∷ past_at σ i))
                    (λ x l.
                    ap₂ (λ (m b : Bool). reaches wide x and (m or b and in_row includes e x)) (same-since x l) (sym (inv.kept h).1)
                    ∙ by3 (λ r s k. r and (r and s or k)) (λ r s k. r and (s or k)) (unfold ◌and◌ ◌or◌ non in tt)
                    (reaches wide x) (let_in_since includes u (past_at σ i) x) (past_at σ i has u and in_row includes e x))
                    ∙ ap (λ (l : List ℕ). those (since_in l)) (sym (past_next σ i h)),
                ap (λ (l : List ℕ). l has u) (past_next σ i h) ∙ ap (λ (b : Bool). eqb u e or b) (inv.kept h).1,
              );
              lost =
                  toward-next rows₀ _ rows rows' _ _ _ inv.lost hl
                  (λ a x la lx.
                  ap (λ (l : List ℕ). to_come (past_at σ i) l a x) (rest-next σ i h)
                  ∙ by4 (λ r q s k. r and (q and s or k)) (λ r q s k. q and (r and s) or r and k) (unfold ◌and◌ ◌or◌ non in tt)
                  (reaches wide x) (eqb a e) (let_in_since includes u (past_at σ i) x) _
                  ∙ ap₂ (λ (b : Bool) (l : List ℕ). eqb a e and b or to_come l (drop (i + 1) σ) a x) (sym (same-since x lx)) (sym (past_next σ i h)));
            }

      pub reopen-end : length σ ≤ i → Less rows₀ (λ a x. reaches wide x and reopened_in includes u σ a x) rows
      unfolding at_some_from
      reopen-end h =
          toward-end rows₀ _ rows _ inv.lost
          (λ a x la lx. ap (λ (l : List ℕ). to_come (past_at σ i) l a x) (drop_of_length-le σ h) ∙ and-false (reaches wide x))

    -- a place before which no u has come
    reopen-skip : (begun : Bool) (i : ℕ) (rows : List ℕ) → Reopens begun no_set i rows → i < length σ → begun ≡ false
        → Reopens (eqb (get_or σ i 0) u) no_set (i + 1) rows
    unfolding ◌or◌ ◌and◌
    reopen-skip begun i rows inv h hb =
        let no = hb in
        subst (λ (b : Bool). Reopens b no_set (i + 1) rows)
        (ap (λ (b : Bool). eqb u (get_or σ i 0) or b) no ∙ or-false _ ∙ eqb-sym u (get_or σ i 0))
        (place begun no_set i rows inv h no_set rows
        (none _ (λ x l. ap₂ (λ (m b : Bool). reaches wide x and (m or b and in_row includes (get_or σ i 0) x)) (mem-none x) no ∙ and-false (reaches wide x)))
        (less_none rows rows _ refl (λ a x la lx. ap (λ (b : Bool). eqb a (get_or σ i 0) and b) (mem-none x) ∙ and-false (eqb a (get_or σ i 0)))))

    -- before place i no u has come
    unbegun : (i : ℕ) → i ≤ length σ → ((k : ℕ) → k < i → eqb (get_or σ k 0) u ≡ false) → Reopens false no_set i rows₀
    unbegun zero l h = reopen-start
    unbegun (suc i) l h =
        let far : i < length σ = omega arith in
        subst (λ (n : ℕ). Reopens false no_set n rows₀) (add-one i)
        (subst (λ (b : Bool). Reopens b no_set (i + 1) rows₀) (h i (omega arith))
        (reopen-skip false i rows₀ (unbegun i (omega arith) (λ k lk. h k (omega arith))) far refl))

    -- the first u stands at place i
    pub reopen-first : (i : ℕ) → Some i ≡ position (λ e. eqb e u) σ → Reopens true no_set (i + 1 + 0) rows₀
    reopen-first i h =
        let at = position-Some (λ e. eqb e u) σ i 0 (sym h) in
        let next : i + 1 ≡ i + 1 + 0 = omega arith in
        subst (λ (n : ℕ). Reopens true no_set n rows₀) next
        (subst (λ (b : Bool). Reopens b no_set (i + 1) rows₀) at.1 (reopen-skip false i rows₀ (unbegun i (omega (arith, at.0)) at.2) at.0 refl))

    -- none does
    pub reopen-none : None ≡ position (λ e. eqb e u) σ → Less rows₀ (λ a x. reaches wide x and reopened_in includes u σ a x) rows₀
    reopen-none h =
        let past : length σ ≤ position_or_len (λ e. eqb e u) σ = grind (arith, common_steps) in
        reopen-end false no_set (length σ) rows₀
        (unbegun (length σ) (omega arith) (λ k lk. fails_before_first (λ e. eqb e u) σ k 0 (omega arith))) (omega arith)

    -- a place after it
    reopen-next : (since row joined since' : Set) (i : ℕ) (rows rows' : List ℕ) → Reopens true since i rows → i < length σ
        → rows' ≡ with_row rows (get_or σ i 0) (those (λ b. mem (row_at rows (get_or σ i 0)) b and non (mem since b)))
        → row ≡ row_at includes (get_or σ i 0) → joined ≡ those (λ x. mem since x or mem row x)
        → since' ≡ those (λ x. reaches wide x and mem joined x) → Reopens true since' (i + 1) rows'
    unfolding ◌and◌
    reopen-next since row joined since' i rows rows' inv h hl hr hj hs =
        subst (λ (b : Bool). Reopens b since' (i + 1) rows') (or-true _)
        (place true since i rows inv h since' rows'
        (hs
        ∙ those-ext _ _ (λ x l.
        ap (λ (b : Bool). reaches wide x and b)
        (is-those joined _ hj x l ∙ ap (λ (b : Bool). mem since x or b) (is_row row includes (get_or σ i 0) hr x l))))
        (less-row rows rows' (get_or σ i 0) since hl))

    -- the same at place j of what stands from place k on
    pub reopen-along : (since row joined since' : Set) (k j e : ℕ) (rows rows' : List ℕ) → Reopens true since (k + j) rows → k + j < length σ
        → e ≡ get_or σ (k + j) 0 → rows' ≡ with_row rows e (those (λ b. mem (row_at rows e) b and non (mem since b)))
        → row ≡ row_at includes e → joined ≡ those (λ x. mem since x or mem row x)
        → since' ≡ those (λ x. reaches wide x and mem joined x) → Reopens true since' (k + (j + 1)) rows'
    reopen-along since row joined since' k j e rows rows' inv h he hl hr hj hs =
        let next : k + j + 1 ≡ k + (j + 1) = omega arith in
        subst (λ (n : ℕ). Reopens true since' n rows') next
        (reopen-next since row joined since' (k + j) rows rows' inv h
        (subst (λ (m : ℕ). rows' ≡ with_row rows m (those (λ b. mem (row_at rows m) b and non (mem since b)))) he hl)
        (subst (λ (m : ℕ). row ≡ row_at includes m) he hr) hj hs)

  -- ---- the log

  -- what the traces from k on say
  abbrev traces_to_come : List ℕ → ℕ → ℕ → Relation
  traces_to_come log n k a x = reaches wide x and reopened includes u (walked log (n - k) k) a x

  module _ (log : List ℕ) (n : ℕ) (rows₀ : List ℕ) where
    abbrev pub Walking : ℕ → List ℕ → Type 0
    Walking k rows = Toward rows₀ (traces_to_come log n k) (λ a x. reaches wide x and reopened includes u (walked log n 0) a x) rows

    pub walk_start : Walking 0 rows₀
    walk_start = toward-start rows₀ _ _ (λ a x la lx. ap (λ (L : Traces). reaches wide x and reopened includes u L a x) (walked_start log n))

    pub walk-next : (k : ℕ) (σ rows rows' : List ℕ) → k < n → σ ≡ part_at log k → Walking k rows
        → Less rows (λ a x. reaches wide x and reopened_in includes u σ a x) rows' → Walking (k + 1) rows'
    unfolding some_trace
    walk-next k σ rows rows' h e t l =
        toward-next rows₀ _ rows rows' _ _ _ t l
        (λ a x la lx.
        ap (λ (L : Traces). reaches wide x and reopened includes u L a x) (walked_next log n k h)
        ∙ by3 (λ r s k. r and (s or k)) (λ r s k. r and s or r and k) (unfold ◌and◌ ◌or◌ non in tt)
        (reaches wide x) (reopened_in includes u (part_at log k) a x) _
        ∙ ap (λ (l : List ℕ). reaches wide x and reopened_in includes u l a x or traces_to_come log n (k + 1) a x) (sym e))

-- ---- the end of the walk: of the pairs that are asked for nothing is left that a trace to come could take

spared : (l c : Bool) → (l and c) ≡ false → l ≡ (l and non c)
unfolding ◌and◌ non
spared true true h = h
spared true false h = refl
spared false c h = refl

-- a form that holds all that is asked
pub held-narrow : (asked low : Set) (narrow : Bool) → low ≡ those (λ x. ltb x word) → narrow ≡ within asked low → narrow ≡ true
    → (x : ℕ) → x < width → T (mem asked x) → T (reaches false x)
unfolding reaches ◌or◌
held-narrow asked low narrow hl hn h x lx k = T-eq (is-those low _ hl x lx) (within-e asked low (true→T (sym hn ∙ h)) x lx k)

pub held-wide : (x : ℕ) → T (reaches true x)
unfolding reaches ◌or◌
held-wide x = tt

module _ (wide : Bool) (includes : List ℕ) (u : ℕ) (log : List ℕ) (n : ℕ) (rows₀ : List ℕ) (F asked : Set) (k : ℕ) (rows : List ℕ)
    (t : Walking wide includes u log n rows₀ k rows) where
  -- a test of each such pair that the form holds
  abbrev Each : (Relation → ℕ → ℕ → Type 0) → Type 0
  Each P = (r : Relation) → rows₀ ≡ rows_of r → (a x : ℕ) → a < width → x < width → T (mem F a and mem asked x) → T (reaches wide x) → P r a x

  settled : Each (λ r a x. (in_row rows a x and traces_to_come wide includes u log n k a x) ≡ false)
      → Each (λ r a x. in_row rows a x ≡ (r a x and non (reopened includes u (walked log n 0) a x)))
  unfolding ◌and◌
  settled h r hr a x la lx p q =
      spared _ _ (h r hr a x la lx p q)
      ∙ ap (λ (b : Bool). b and non (traces_to_come wide includes u log n k a x)) (ap (λ (l : List ℕ). in_row l a x) (t.1 r hr) ∙ in-rows_of _ a x la lx)
      ∙ by3 (λ r g c. r and non g and non c) (λ r g c. r and non (g or c)) (unfold ◌and◌ ◌or◌ non in tt) (r a x) (t.0 a x) _
      ∙ ap (λ (b : Bool). r a x and non b)
      (t.2 a x la lx ∙ ap (λ (b : Bool). b and reopened includes u (walked log n 0) a x) (T→true _ q))

  pub walk_end : n ≤ k → Each (λ r a x. in_row rows a x ≡ (r a x and non (reopened includes u (walked log n 0) a x)))
  unfolding some_trace
  walk_end h =
      settled (λ r hr a x la lx p q.
      ap (λ (L : Traces). in_row rows a x and (reaches wide x and reopened includes u L a x)) (walked_end log n k h)
      ∙ ap (λ (b : Bool). in_row rows a x and b) (and-false _) ∙ and-false _)

  pub walk-short : (b c : Bool) → b ≡ (c and is_empty (those (λ y. mem asked y and some_below width (λ v. mem F v and in_row (table_at rows 0) v y)))) → b ≡ true
      → Each (λ r a x. in_row rows a x ≡ (r a x and non (reopened includes u (walked log n 0) a x)))
  walk-short b c hb done =
      settled (λ r hr a x la lx p q.
      F→false _
      (λ s. empty-e _ (and_r _ _ (true→T (sym hb ∙ done))) x lx
      (T-eq (sym (mem-those _ x lx))
      (and_i _ _ (and_r _ _ p) (in-union F rows _ (t.1 r hr) a x la lx (and_l _ _ p)
      (T-eq (ap (λ (l : List ℕ). in_row l a x) (t.1 r hr) ∙ in-rows_of _ a x la lx) (and_l _ _ s)))))))
