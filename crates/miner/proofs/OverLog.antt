-- What the facts of steps 6, 7 and 9 say of a whole log, in the words of the rules. What is assumed stands with each.
use mathlib.Core.Path.{◌≡◌, refl, sym, ap, ap₂, ◌∙◌, subst}
use mathlib.Core.Bool.{Bool}
use mathlib.Core.List.{List, [], ◌∷◌, reverse_aux, Memᴰ}
use Prim.Native.Nat.{ℕ, ◌<◌}
use lib.Dec.{T, eqb→eq, eqb_refl}
use Rattle.sets.specs.Tests.{◌and◌, ◌or◌, non}
use Rattle.sets.specs.Members.{width, those, some_below}
use Rattle.sets.specs.Rows.{row_at, rows_of, in_row}
use Rattle.sets.proofs.Tests.{and_l, and_r, and_i, or-e, or_l, or_r, T-ext, T-eq, either}
use Rattle.sets.proofs.Below.{some-i, some-e}
use Rattle.sets.proofs.Members.{mem-those}
use Rattle.sets.proofs.RowLaws.{row-mem, in-rows_of}
use Rattle.engine.specs.Relations.{Relations}
use Rattle.rules.specs.Traces.{Traces, ◌has◌, at_some, some_trace}
use Rattle.rules.specs.Mining.{event, some_event, before, followed, between, let_in_between, included_after, never_missed}
use Rattle.rules.proofs.Places.{has_first, has-past, some-place, at-place_lem, places-ext}
use Rattle.rules.proofs.Why.{Small, some-event_lem, the-event}
use Rattle.rules.proofs.InTurn.{is-event}
use Rattle.rules.proofs.LogLaws.{non-every, before-later, middle-event, later-event}
use Rattle.miner.specs.Facts.{let_in, let_in_since, reopened, doubted, still_included, missed}
use Rattle.tally.proofs.Folds.{heard}
use Rattle.tally.specs.Passes.{is_later}
use Rattle.sets.proofs.Tautologies.{by2}

module _ (L : Traces) where
  -- ---- step 6

  -- row s: the events that never directly follow the event s
  abbrev pub never_following : List ℕ
  never_following = rows_of (λ s t. event L s and (event L t and non (followed L s t)))

  -- what u lets in are the includes that the step adds
  pub let-in-is : (u t : ℕ) → t < width
      → heard (let_in never_following) L u t ≡ some_event L (λ s. non (followed L s t) and between L s u t)
  unfolding let_in some_event between ◌has◌
  let-in-is u t lt = T-ext _ _ there back
    where
      here : List ℕ → List ℕ → Bool
      here past rest = rest has t and some_below width (λ s. past has s and in_row never_following s t)

      there : T (some_trace L (at_some u here)) → T (some_below width (λ s. event L s and (non (followed L s t) and between L s u t)))
      there h =
          let k = some-place u here L h in
          let r = some-e width (λ s. k.0 has s and in_row never_following s t) (and_r _ _ k.3) in
          let w = T-eq (in-rows_of (λ s t. event L s and (event L t and non (followed L s t))) r.0 t r.1 lt) (and_r _ _ r.2) in
          let b = at-place_lem u (λ past rest. past has r.0 and rest has t) L k.0 k.1 k.2
          (and_i _ _ (and_l _ _ r.2) (and_l _ _ k.3)) in
          some-i width _ r.0 r.1 (and_i _ _ (and_l _ _ w) (and_i _ _ (and_r _ _ (and_r _ _ w)) b))

      back : T (some_below width (λ s. event L s and (non (followed L s t) and between L s u t))) → T (some_trace L (at_some u here))
      back h =
          let r = some-e width (λ s. event L s and (non (followed L s t) and between L s u t)) h in
          let k = some-place u (λ past rest. past has r.0 and rest has t) L (and_r _ _ (and_r _ _ r.2)) in
          let e = later-event L r.0 u t (and_r _ _ (and_r _ _ r.2)) in
          let w = T-eq (sym (in-rows_of (λ s t. event L s and (event L t and non (followed L s t))) r.0 t r.1 lt))
          (and_i _ _ (and_l _ _ r.2) (and_i _ _ e (and_l _ _ (and_r _ _ r.2)))) in
          at-place_lem u here L k.0 k.1 k.2 (and_i _ _ (and_r _ _ k.3)
          (some-i width _ r.0 r.1 (and_i _ _ (and_l _ _ k.3) w)))

  -- ---- step 7

  module _ (g : Relations) (u x : ℕ) (lu : u < width) (lx : x < width) where
    abbrev includes : List ℕ
    includes = rows_of g.includes

    -- what was let in before a place was let in by some v, with a u before it; s stands from the place on
    since-e : (s : ℕ) (past rest : List ℕ) → T (let_in_since includes u past x) → T (rest has s)
        → (v : ℕ) × (far : List ℕ) × (near : List ℕ) × (reverse_aux far (v ∷ near) ≡ reverse_aux past rest)
        × T (far has u) × T (near has s) × T (in_row includes v x)
    unfolding let_in_since ◌has◌
    since-e s [] rest t h = absurd t
    since-e s (y ∷ past) rest t h =
        either (or-e _ _ t)
        (λ k. since-e s past (y ∷ rest) k (or_r _ _ h))
        (λ k. (y, past, rest, refl, and_l _ _ k, h, and_r _ _ k))

    -- and what was let in stays so, up to an s that comes later
    since-i : (s : ℕ) (past rest : List ℕ) → T (let_in_since includes u past x) → T (rest has s)
        → (q : List ℕ) × (r : List ℕ) × (reverse_aux q (s ∷ r) ≡ reverse_aux past rest) × T (let_in_since includes u q x)
    unfolding let_in_since ◌has◌
    since-i s past [] t h = absurd h
    since-i s past (y ∷ rest) t h =
        either (or-e _ _ h)
        (λ k. (past, rest, ap (λ (z : ℕ). reverse_aux past (z ∷ rest)) (eqb→eq s y k), t))
        (λ k. since-i s (y ∷ past) rest (or_l _ _ t) k)

    module _ (small : Small L) (s : ℕ) (ls : s < width) where
      abbrev asked : Bool
      asked =
          doubted (rows_of (λ b a. before L a b)) includes (row_at (rows_of (before L)) u) s x and reopened includes u L s x

      there : T asked → T (let_in_between L g u s x)
      unfolding let_in_between between
      there h =
          let p = some-place s (λ past rest. let_in_since includes u past x) L (and_r _ _ h) in
          let v = since-e s p.0 (s ∷ p.1) p.3 (has_first s p.1) in
          let b = at-place_lem v.0 (λ past rest. past has u and rest has s) L v.1 v.2
          (subst (λ (σ : List ℕ). Memᴰ σ L) (sym v.3) p.2) (and_i _ _ v.4 v.5) in
          let e = middle-event L u v.0 s b in
          some-event_lem L _ v.0 (small _ e) e (and_i _ _ b (T-eq (in-rows_of g.includes v.0 x (small _ e) lx) v.6))

      back : T (let_in_between L g u s x) → T asked
      unfolding let_in_between between let_in_since doubted before is_later
      back h =
          let v = the-event L (λ w. between L u w s and g.includes w x) h in
          let lv = small v.0 v.1 in
          let p = some-place v.0 (λ past rest. past has u and rest has s) L (and_l _ _ v.2) in
          let i = T-eq (sym (in-rows_of g.includes v.0 x lv lx)) (and_r _ _ v.2) in
          let q = since-i s (v.0 ∷ p.0) p.1 (or_r _ _ (and_i _ _ (and_l _ _ p.3) i)) (and_r _ _ p.3) in
          and_i _ _
          (some-i width _ v.0 lv
          (and_i _ _
          (and_i _ _
          (T-eq (sym (row-mem (before L) u v.0 lu lv)) (at-place_lem v.0 (λ past rest. past has u) L p.0 p.1 p.2 (and_l _ _ p.3)))
          (T-eq (sym (in-rows_of (λ b a. before L a b) s v.0 ls lv))
          (T-eq (before-later L v.0 s) (at-place_lem v.0 (λ past rest. rest has s) L p.0 p.1 p.2 (and_r _ _ p.3)))))
          i))
          (at-place_lem s (λ past rest. let_in_since includes u past x) L q.0 q.1
          (subst (λ (σ : List ℕ). Memᴰ σ L) (sym q.2) p.2) q.3)

      pub reopened-is : asked ≡ let_in_between L g u s x
      reopened-is = T-ext _ _ there back

  -- ---- step 9

  module _ (g : Relations) (s : ℕ) (ls : s < width) where
    -- the replay on sets and rows is the rules', where all that came is below the width
    still-is : (past : List ℕ) → ((a : ℕ) → T (past has a) → a < width)
        → still_included (those (event L)) (rows_of g.includes) (rows_of g.excludes) past s ≡ included_after L g past s
    unfolding still_included included_after ◌has◌
    still-is [] small = mem-those (event L) s ls
    still-is (y ∷ past) small =
        let ly = small y (or_l _ _ (eqb_refl y)) in
        ap₂ ◌or◌
        (ap₂ ◌and◌ (still-is past (λ a h. small a (or_r _ _ h))) (ap non (in-rows_of g.excludes y s ly ls)))
        (in-rows_of g.includes y s ly ls)

    -- what is missed at some t is what the step's test says no to
    pub missed-is : Small L → (t : ℕ)
        → heard (missed (those (event L)) (rows_of g.includes) (rows_of g.excludes)) L t s ≡ non (never_missed L g s t)
    unfolding missed never_missed
    missed-is small t =
        places-ext L t (λ past rest. missed (those (event L)) (rows_of g.includes) (rows_of g.excludes) t past rest s)
        (λ past rest. non (past has s or non (included_after L g past s)))
        (λ past rest m.
        ap (λ (b : Bool). non (past has s) and b)
        (still-is past (λ a h. small a (is-event L a m (has-past a past (t ∷ rest) h))))
        ∙ by2 (λ a b. non a and b) (λ a b. non (a or non b)) (unfold ◌and◌ ◌or◌ non in tt) (past has s) (included_after L g past s))
        ∙ sym (non-every t (λ past rest. past has s or non (included_after L g past s)) L)
