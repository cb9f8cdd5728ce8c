-- What the tally of some traces holds, set by set, and that it is what filling leaves. Assumes nothing.
use mathlib.Core.Path.{◌≡◌, refl, sym, ap, ◌∙◌}
use mathlib.Core.Logic.{inr}
use mathlib.Core.Bool.{Bool, false}
use mathlib.Core.List.{List, [], ◌∷◌, ◌++◌}
use Prim.Native.Nat.{ℕ, zero, suc, ◌-◌, ◌*◌, ◌/◌, ◌%◌, ◌≤◌, ◌<◌}
use native.Mathlib.Omega.{arith}
use borrow.Author.Tests.{lt-ltb, le-ltb, ltb-true, ltb-false}
use lib.Dec.{ltb}
use lib.ListN.{length, set, length-set}
use lib.Seq.{get_or-set_same, set-append_left}
use Rattle.sets.specs.Tests.{◌and◌, ◌or◌}
use Rattle.sets.specs.Members.{those}
use Rattle.sets.specs.Rows.{in_row, rows_of}
use Rattle.sets.specs.Tables.{no_tables, table_at}
use Rattle.sets.specs.declared.set.Set.{Set}
use Rattle.sets.proofs.Tests.{T→true, F→false, split, either, true-and, false-or}
use Rattle.sets.proofs.Members.{those-ext, none-those}
use Rattle.sets.proofs.RowLaws.{in-rows_of}
use Rattle.octets.specs.Sets.{set_length, set_bytes, set_at}
use Rattle.octets.proofs.SetLaws.{set_apart}
use Rattle.rules.specs.Traces.{Traces}
use Rattle.rules.specs.Mining.{event, between}
use Rattle.tally.specs.Passes.{through, reaches, event_in}
use Rattle.tally.specs.Tallies.{table_count, tallied, noted_for, tallied_for}
use Rattle.tally.proofs.Tallying.{before-table_lem, later-table_lem, unpreceded-table_lem, unanswered-table_lem, unchained-table_lem, unalternated-table_lem, followed-table_lem, form-agrees}
use Rattle.months.specs.Layout.{tally_width, set_count, tally_length, first_row, rows_end, first_pair, sets_from, activities_in, set_in}
use Rattle.months.specs.Tallies.{asked, held, tally_of}
use Rattle.months.specs.Pairs.{over, packed, Gained, initial_of}
use Rattle.months.proofs.Narrow.{narrowed}
use Rattle.octets.proofs.SetLaws.{narrow-ext}
use Rattle.months.proofs.Packed.{length_from, from-ext, read-from, over-low, over-high}
use Rattle.months.proofs.Initial.{initial-first, initial-events, initial-row, initial-spare}

-- one of the five kinds of sets
by_kind : (P : Type 0) (w : ℕ) → (w < 1 → P) → (1 ≤ w → w < first_row → P) → (first_row ≤ w → w < rows_end → P)
    → (rows_end ≤ w → w < first_pair → P) → (first_pair ≤ w → P) → P
by_kind P w a b c d e =
    below 1 a (λ g. below first_row (b g) (λ h. below rows_end (c h) (λ k. below first_pair (d k) e)))
  where
    below : (n : ℕ) → (w < n → P) → (n ≤ w → P) → P
    below n low high = either (split (ltb w n)) (λ t. low (ltb-true w n (T→true _ t))) (λ f. high (ltb-false w n (F→false _ f)))

module _ (L : Traces) where
  module _ (w x : ℕ) where
    pub held_first : w < 1 → held L w x ≡ false
    unfolding held
    held_first l = rw (lt-ltb w 1 l)

    pub held-events : 1 ≤ w → w < first_row → held L w x ≡ event L x
    unfolding held
    held-events g l = rw (le-ltb w 1 g, lt-ltb w first_row l)

    pub held-row : first_row ≤ w → w < rows_end → held L w x ≡ asked L ((w - first_row) / tally_width) ((w - first_row) % tally_width) x
    unfolding held
    held-row g l = let one : 1 ≤ w = omega arith in rw (le-ltb w 1 one, le-ltb w first_row g, lt-ltb w rows_end l)

    pub held-spare : rows_end ≤ w → w < first_pair → held L w x ≡ false
    unfolding held
    held-spare g l =
        let one : 1 ≤ w = omega arith in
        let two : first_row ≤ w = omega arith in
        rw (le-ltb w 1 one, le-ltb w first_row two, le-ltb w rows_end g, lt-ltb w first_pair l)

    pub held-pair : first_pair ≤ w → held L w x ≡ between L ((w - first_pair) / tally_width) x ((w - first_pair) % tally_width)
    unfolding held
    held-pair g =
        let one : 1 ≤ w = omega arith in
        let two : first_row ≤ w = omega arith in
        let three : rows_end ≤ w = omega arith in
        rw (le-ltb w 1 one, le-ltb w first_row two, le-ltb w rows_end three, le-ltb w first_pair g)

  -- ---- the tables

  pub table-asked : (k : ℕ) → k < table_count → table_at (tallied L) k ≡ rows_of (asked L k)
  table-asked zero l = before-table_lem L
  table-asked (suc zero) l = later-table_lem L
  table-asked (suc (suc zero)) l = unpreceded-table_lem L
  table-asked (suc (suc (suc zero))) l = unanswered-table_lem L
  table-asked (suc (suc (suc (suc zero)))) l = unchained-table_lem L
  table-asked (suc (suc (suc (suc (suc zero))))) l = unalternated-table_lem L
  table-asked (suc (suc (suc (suc (suc (suc zero)))))) l = followed-table_lem L
  table-asked (suc (suc (suc (suc (suc (suc (suc k))))))) l = absurd (omega arith)

  -- tables that answer what is asked, of the activities that a tally can hold
  abbrev Answered : List ℕ → Type 0
  Answered tables = (k a x : ℕ) → k < table_count → a < tally_width → x < tally_width → in_row (table_at tables k) a x ≡ asked L k a x

  -- so do those of the narrow form
  narrow-answers : Answered (tallied_for false L)
  unfolding reaches ◌or◌
  narrow-answers k a x lk la lx =
      form-agrees false L k a x lk (omega arith) (omega arith) (lt-ltb a tally_width la) (lt-ltb x tally_width lx)
      ∙ ap (λ (rows : List ℕ). in_row rows a x) (table-asked k lk)
      ∙ in-rows_of (asked L k) a x (omega arith) (omega arith)

  -- ---- what filling leaves is what is held

  module _ (events : Set) (tables : List ℕ) (he : events ≡ those (event_in false L)) (ht : Answered tables) where
    -- the narrow form holds every event below 64
    event-held : (x : ℕ) → x < tally_width → event_in false L x ≡ event L x
    unfolding event_in event reaches ◌or◌
    event-held x l = ap (λ (t : Bool). t and event L x) (lt-ltb x tally_width l) ∙ true-and (event L x)

    -- set by set, as far as the narrow form goes
    same_set : (w : ℕ) → w < set_count → set_bytes false (over (initial_of events tables) (λ u s v. false or between L u v s) w) ≡ set_bytes false (those (held L w))
    same_set w l =
        by_kind _ w
        (λ a. low (omega arith) _ (sym (initial-first events tables w a) ∙ none-those (held L w) (λ x lx. held_first w x a)))
        (λ g a.
        low (omega arith) _ (sym (initial-events events tables w g a) ∙ he)
        ∙ narrow-ext _ (held L w) (λ x lx. event-held x lx ∙ sym (held-events w x g a)))
        (λ g a.
        low (omega arith) _ (sym (initial-row events tables w g a))
        ∙ narrow-ext _ (held L w) (λ x lx. ht ((w - first_row) / tally_width) ((w - first_row) % tally_width) x (omega arith) (omega arith) lx
        ∙ sym (held-row w x g a)))
        (λ g a. low a _ (sym (initial-spare events tables w g) ∙ none-those (held L w) (λ x lx. held-spare w x g a)))
        (λ g. ap (set_bytes false) (over-high _ _ w g ∙ those-ext _ (held L w) (λ x lx. false-or _ ∙ sym (held-pair w x g))))
      where
        low : w < first_pair → (s : Set) → initial_of events tables w ≡ s
            → set_bytes false (over (initial_of events tables) (λ u s v. false or between L u v s) w) ≡ set_bytes false s
        low a s h = ap (set_bytes false) (over-low _ _ w a ∙ h)

    pub filled : (A : ℕ) (t₁ t₂ t₃ tail : List ℕ) → t₁ ≡ sets_from set_count 0 (initial_of events tables) ++ tail
        → Gained t₁ (λ u s v. between L u v s) t₂ → t₃ ≡ set t₂ 0 A → t₃ ≡ tally_of A L ++ tail
    unfolding tally_of packed
    filled A t₁ t₂ t₃ tail h₁ g h₃ =
        let all = sets_from set_count 0 (λ w. those (held L w)) in
        h₃
        ∙ ap (λ (l : List ℕ). set l 0 A)
        (g (initial_of events tables) (λ u s v. false) tail
        (h₁ ∙ ap (λ (l : List ℕ). l ++ tail) (from-ext set_count 0 _ _ (λ w a b. ap (set_bytes false) (sym (no-pair_lem w)))))
        ∙ ap (λ (l : List ℕ). l ++ tail) (from-ext set_count 0 _ _ (λ w a b. same_set w b)))
        ∙ set-append_left all tail 0 A (omega (arith, length_from set_count 0 (λ w. those (held L w))))
      where
        no-pair_lem : (w : ℕ) → over (initial_of events tables) (λ u s v. false) w ≡ initial_of events tables w
        no-pair_lem w =
            either (split (ltb w first_pair))
            (λ t. over-low _ _ w (ltb-true w first_pair (T→true _ t)))
            (λ f.
            let g = ltb-false w first_pair (F→false _ f) in
            over-high _ _ w g ∙ sym (none-those _ (λ x lx. refl)) ∙ initial-spare events tables w (omega arith))

  -- ---- reading a tally of traces

  module _ (A : ℕ) where
    pub activities-held : activities_in (tally_of A L) ≡ A
    unfolding tally_of
    activities-held = get_or-set_same (sets_from set_count 0 (λ w. those (held L w))) 0 A 0 (omega (arith, length_from set_count 0 (λ w. those (held L w))))

    -- whatever stands after the tally
    pub set-held : (rest : List ℕ) (w : ℕ) → 1 ≤ w → w < set_count → set_in (tally_of A L ++ rest) w ≡ narrowed (held L w)
    unfolding tally_of
    set-held rest w g l =
        let all = sets_from set_count 0 (λ v. those (held L v)) in
        ap (λ (bytes : List ℕ). set_at false bytes (set_length false * w))
        (sym (set-append_left all rest 0 A (omega (arith, length_from set_count 0 (λ v. those (held L v))))))
        ∙ set_apart false (all ++ rest) (set_length false * w) 0 (A ∷ []) (inr (omega arith))
        ∙ read-from set_count w (λ v. those (held L v)) rest l (held L w) refl

    pub length-held : length (tally_of A L) ≡ tally_length
    unfolding tally_of
    length-held = length-set (sets_from set_count 0 (λ v. those (held L v))) 0 A ∙ length_from set_count 0 (λ v. those (held L v))

-- from what the passes leave
pub tally-filled : (A : ℕ) (L : Traces) (none tables : List ℕ) (events : Set) (t₁ t₂ tail : List ℕ) → none ≡ no_tables table_count
    → events ≡ those (event_in false L) → tables ≡ through (noted_for false) none L
    → t₁ ≡ sets_from set_count 0 (initial_of events tables) ++ tail → Gained t₁ (λ u s v. between L u v s) t₂ → set t₂ 0 A ≡ tally_of A L ++ tail
tally-filled A L none tables events t₁ t₂ tail hn he ht h₁ g =
    let answers : Answered L tables =
    λ k a x lk la lx. ap (λ (t : List ℕ). in_row (table_at t k) a x) (ht ∙ ap (λ (t : List ℕ). through (noted_for false) t L) hn) ∙ narrow-answers L k a x lk la lx in
    filled L events tables he answers A t₁ t₂ (set t₂ 0 A) tail h₁ g refl
