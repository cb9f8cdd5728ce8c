-- The excludes that are read from the tally of a log are the rules', after five steps, after six or without the sixth, and after seven.
-- Assumes nothing.
use mathlib.Core.Path.{◌≡◌, refl, sym, ap, ap₂, ◌∙◌}
use mathlib.Core.Bool.{Bool, true, false}
use mathlib.Core.List.{List}
use Prim.Native.Nat.{ℕ, ◌<◌}
use borrow.Author.Tests.{eqb-false}
use lib.Dec.{T, eqb, eqb_refl}
use Rattle.sets.specs.Tests.{◌and◌, ◌or◌, non}
use Rattle.sets.specs.Members.{width, mem, some_below}
use Rattle.sets.specs.Rows.{Relation, row_at, in_row, rows_of, rows_for, turned}
use Rattle.sets.proofs.Tests.{and_l, and_r, and_i, and_comm, non-e, non-non, T-ext, T-eq, T→true, F→false}
use Rattle.sets.proofs.Tautologies.{by2, by3, by4, by5}
use Rattle.sets.proofs.Below.{some-ext}
use Rattle.sets.proofs.Members.{mem-those}
use Rattle.sets.proofs.RowLaws.{in-rows_of, rows_of-ext}
use Rattle.engine.specs.Relations.{Relations}
use Rattle.rules.specs.declared.Profile.{Profile}
use Rattle.rules.specs.declared.Profile.TheVariants.{Full, Light}
use Rattle.rules.specs.Traces.{Traces}
use Rattle.rules.specs.Mining.{no_pair, no_relations, smallest_source, event, some_event, ◌with◌, ◌without◌, before, followed, alternates}
use Rattle.rules.specs.Mining.{at_most_once, together, directly_before, never_together, closes, step1, step2, step3, step4, step5, step6, let_in_between, makes_redundant, step7}
use Rattle.rules.specs.Mining.{after_five, after_six, after_seven}
use Rattle.steps.specs.Rowwise.{excludes_itself, apart, closing, excluders, absent, in_either}
use Rattle.tally.specs.Tallies.{tallied}
use Rattle.tally.proofs.Tallying.{before-table_lem, later-table_lem, unalternated-table_lem, followed-table_lem}
use Rattle.rules.proofs.LogLaws.{once, together-before}
use Rattle.tally.proofs.Folds.{at_same}
use Rattle.miner.specs.Facts.{reopened, doubted}
use Rattle.miner.specs.Stages.{never_of, five_of, excludes_six, followers_of, redundant_by, seven_from}
use Rattle.rules.proofs.Why.{Small}
use Rattle.miner.proofs.OverLog.{reopened-is}
use Rattle.miner.proofs.Losing.{where-so}
use Rattle.miner.proofs.EarlySteps.{events, chains-read, turned_rows, absent-rows, united-rows, smallest-read}

-- ---- tests alone

-- a test that holds of two events only
pub among : (x e f : Bool) → (T x → T e) → (T x → T f) → x ≡ (e and f and x)
among x e f he hf = T-ext x (e and f and x) (λ t. and_i _ _ (and_i _ _ (he t) (hf t)) t) (λ t. and_r _ _ t)

in-events : (e x : Bool) (ev d : ℕ → Bool) → (e and (x or some_below width (λ u. ev u and e and (false or d u))))
    ≡ (e and (x or some_below width (λ u. ev u and d u)))
in-events e x ev d =
    where-so e _ _ (λ t. ap (λ (b : Bool). x or b) (some-ext width _ _ (λ u l.
    ap (λ (b : Bool). ev u and b and (false or d u)) (T→true e t)
    ∙ by2 (λ v w. v and true and (false or w)) (λ v w. v and w) (unfold ◌and◌ ◌or◌ non in tt) (ev u) (d u))))

two-others : (q a d d' : Bool) → (q ≡ false → d ≡ d') → (a and non q and d) ≡ (a and true and non q and d')
unfolding ◌and◌ ◌or◌ non
two-others true a d d' h = by3 (λ x z w. x and false and z) (λ x z w. x and true and false and w) tt a d d'
two-others false a d d' h = by2 (λ x z. x and true and z) (λ x z. x and true and true and z) tt a d ∙ ap (λ (z : Bool). a and true and true and z) (h refl)

-- two tests of events alone, joined
pub joined : (e f g b : Bool) → g ≡ (e and f and g) → b ≡ (e and f and b) → (g or b) ≡ (e and f and (g or b))
joined e f g b hg hb =
    ap₂ ◌or◌ hg hb ∙ by4 (λ e f g b. e and f and g or e and f and b) (λ e f g b. e and f and (g or b)) (unfold ◌and◌ ◌or◌ non in tt) e f g b

-- pairs that join a relation among events
one-more_lem : (e f g p : Bool) → g ≡ (e and f and g) → (e and (g or e and (f and p))) ≡ (e and f and (g or p))
one-more_lem e f g p h =
    ap (λ (x : Bool). e and (x or e and (f and p))) h
    ∙ by4 (λ e f g p. e and (e and f and g or e and (f and p))) (λ e f g p. e and f and (g or p)) (unfold ◌and◌ ◌or◌ non in tt) e f g p

-- the test of the first event is one too many
pub first-too : (e f g p : Bool) → g ≡ (e and f and g) → (e and (g and p)) ≡ (g and p)
unfolding ◌and◌ ◌or◌ non
first-too true f g p h = refl
first-too false f g p h = sym (ap (λ (x : Bool). x and p) h)

-- what excludes itself by step 1 or by step 3
unfoldable pub self_excluding : Traces → ℕ → Bool
self_excluding L s = event L s and (non (before L s s) or some_event L (λ u. directly_before L u s))

abbrev pub after_three : Traces → Relations
after_three L = step3 L (step2 L (step1 L no_relations))

abbrev pub after_four : Traces → Relations
after_four L = step4 L (after_three L)

module _ (L : Traces) where
  -- ---- what excludes itself

  self-three : (s t : ℕ) → (after_three L).excludes s t ≡ (eqb s t and self_excluding L s)
  unfolding step3 step2 step1 no_relations no_pair ◌with◌ self_excluding
  self-three s t =
      by5 (λ e f q o k. e and f and (e and f and (false or q and o) or q and k)) (λ e f q o k. q and (e and f and (o or k))) (unfold ◌and◌ ◌or◌ non in tt)
      (event L s) (event L t) (eqb s t) (at_most_once L s) (some_event L (λ u. directly_before L u t))
      ∙ at_same s t (λ n. event L s and event L n and (at_most_once L s or some_event L (λ u. directly_before L u n)))
      ∙ ap (λ (o : Bool). eqb s t and (event L s and event L s and (o or some_event L (λ u. directly_before L u s)))) (once L s)
      ∙ ap (λ (b : Bool). eqb s t and b) (by2 (λ a b. a and a and b) (λ a b. a and b) (unfold ◌and◌ ◌or◌ non in tt) (event L s) _)

  self-four : (s : ℕ) → (after_four L).excludes s s ≡ self_excluding L s
  unfolding step4 smallest_source never_together ◌with◌ self_excluding
  self-four s =
      ap₂ (λ (g c : Bool). event L s and event L s and (g or c))
      (self-three s s ∙ ap (λ (q : Bool). q and self_excluding L s) (T→true _ (eqb_refl s)))
      (F→false (smallest_source (never_together L) s s) (λ t. non-e (eqb s s) (and_r _ _ (and_l _ _ (and_l _ _ t))) (eqb_refl s)))
      ∙ by2 (λ e y. e and e and (true and (e and y) or false)) (λ e y. e and y) (unfold ◌and◌ ◌or◌ non in tt) (event L s)
      (non (before L s s) or some_event L (λ u. directly_before L u s))

  -- ---- what excludes a target, by the rows of the tally

  abbrev earlier : List ℕ
  earlier = rows_of (λ t s. before L s t)

  abbrev chains : List ℕ
  chains = rows_of (λ t s. (after_five L).includes s t)

  module _ (t : ℕ) (lt : t < width) (yes : event L t ≡ true) where
    itself-read : excludes_itself earlier chains t ≡ self_excluding L t
    unfolding excludes_itself self_excluding some_event after_five step5 step4 step3 step2 step1 no_relations no_pair ◌with◌ ◌and◌
    itself-read =
        ap₂ (λ (b c : Bool). non b or c) (in-rows_of (λ x y. before L y x) t t lt lt)
        (some-ext width (λ u. in_row chains t u) (λ u. event L u and event L t and (false or directly_before L u t))
        (λ u lu. in-rows_of (λ x y. (after_five L).includes y x) t u lt lu))
        ∙ ap (λ (b : Bool). b and (non (before L t t)
        or some_below width (λ u. event L u and event L t and (false or directly_before L u t)))) (sym yes)
        ∙ in-events (event L t) (non (before L t t)) (event L) (λ u. directly_before L u t)

    own_read : (s : ℕ) → (excludes_itself earlier chains t and eqb s t) ≡ (after_three L).excludes s t
    own_read s = ap (λ (b : Bool). b and eqb s t) itself-read ∙ and_comm _ _ ∙ at_same s t (self_excluding L) ∙ sym (self-three s t)

    apart-read : (s : ℕ) → s < width → apart (events L) earlier (rows_of (before L)) t s ≡ never_together L s t
    unfolding apart never_together
    apart-read s ls =
        simp (mem-those, in-rows_of)
        (two-others (eqb s t) (event L s) (non (before L s t or before L t s)) (non (together L s t))
        (λ e. ap non (sym (together-before s t (eqb-false s t e) L)))
        ∙ ap (λ (b : Bool). event L s and b and non (eqb s t) and non (together L s t)) (sym yes))

    closing-read : (s : ℕ) → s < width → closing (events L) (excludes_itself earlier chains t) earlier (rows_of (before L)) t s
        ≡ closes L (after_four L) s t
    unfolding closing closes ◌and◌
    closing-read s ls =
        simp (mem-those, in-rows_of)
        (ap (λ (b : Bool). event L s and before L t s and non (before L s t) and non b) (itself-read ∙ sym (self-four t))
        ∙ ap (λ (b : Bool). b and event L s and before L t s and non (before L s t) and non ((after_four L).excludes t t)) (sym yes))

    five-read : (s : ℕ) → s < width → excluders (events L) earlier (rows_of (before L)) chains t s
        ≡ ((after_three L).excludes s t or smallest_source (never_together L) s t or smallest_source (closes L (after_four L)) s t)
    unfolding excluders
    five-read s ls =
        ap₂ ◌or◌ (ap₂ ◌or◌ (own_read s) (smallest-read (never_together L) t _ apart-read s ls))
        (smallest-read (closes L (after_four L)) t _ closing-read s ls)

  -- a relation of the rules holds of events only
  pub with-events : (r p : Relation) (s t : ℕ) → (◌with◌ L r p) s t ≡ (event L s and event L t and (◌with◌ L r p) s t)
  unfolding ◌with◌
  with-events r p s t = among _ (event L s) (event L t) (λ h. and_l _ _ (and_l _ _ h)) (λ h. and_r _ _ (and_l _ _ h))

  -- ---- the excludes after five steps, after six, after seven

  excludes-after-five : (s t : ℕ) → (after_five L).excludes s t
      ≡ ((after_three L).excludes s t or smallest_source (never_together L) s t or smallest_source (closes L (after_four L)) s t)
  unfolding after_five step5 step4 step3 ◌with◌ smallest_source never_together closes
  excludes-after-five s t =
      let four = joined (event L s) (event L t) ((after_three L).excludes s t) (smallest_source (never_together L) s t)
      (with-events (step2 L (step1 L no_relations)).excludes (λ x y. eqb x y and some_event L (λ u. directly_before L u y)) s t)
      (among _ _ _ (λ h. and_l _ _ (and_l _ _ (and_l _ _ (and_l _ _ h)))) (λ h. and_r _ _ (and_l _ _ (and_l _ _ (and_l _ _ h))))) in
      ap (λ (b : Bool). event L s and event L t and (b or smallest_source (closes L (after_four L)) s t)) (sym four)
      ∙ sym (joined (event L s) (event L t) _ (smallest_source (closes L (after_four L)) s t) four
      (among _ _ _ (λ h. and_r _ _ (and_l _ _ (and_l _ _ (and_l _ _ (and_l _ _ h)))))
      (λ h. and_l _ _ (and_l _ _ (and_l _ _ (and_l _ _ (and_l _ _ h)))))))

  five-pair : (s t : ℕ) → s < width → t < width → (event L t and excluders (events L) earlier (rows_of (before L)) chains t s)
      ≡ (after_five L).excludes s t
  unfolding after_five step5 ◌with◌
  five-pair s t ls lt =
      where-so (event L t) _ _ (λ e. five-read t lt (T→true _ e) s ls ∙ sym (excludes-after-five s t))
      ∙ by3 (λ e f y. f and (e and f and y)) (λ e f y. e and f and y) (unfold ◌and◌ ◌or◌ non in tt) (event L s) (event L t) _

  pub excludes-five : five_of (events L) (tallied L) ≡ rows_of (after_five L).excludes
  unfolding turned rows_for
  excludes-five =
      (λ i. rows_of (turned (rows_for (events L) (excluders (events L) (before-table_lem L i) (later-table_lem L i) (chains-read L i)))))
      ∙ rows_of-ext _ _ (λ s t ls lt. in-rows_of _ t s lt ls
      ∙ ap (λ (b : Bool). b and excluders (events L) earlier (rows_of (before L)) chains t s) (mem-those (event L) t lt)
      ∙ five-pair s t ls lt)

  pub never-read : never_of (events L) (tallied L) ≡ rows_of (λ s t. event L s and (event L t and non (followed L s t)))
  never-read = ap (λ (rows : List ℕ). rows_for (events L) (absent (events L) rows)) (followed-table_lem L) ∙ absent-rows (event L) (followed L)

  pub excludes-six_lem : (p : Profile) → excludes_six p (events L) (tallied L) ≡ rows_of (after_six L p).excludes
  unfolding after_six after_five step6 step5 ◌with◌
  excludes-six_lem Full =
      ap₂ (λ (x y : List ℕ). rows_for (events L) (in_either x y)) excludes-five never-read
      ∙ united-rows (event L) (after_five L).excludes (λ s t. event L s and (event L t and non (followed L s t)))
      ∙ rows_of-ext _ _ (λ s t ls lt. one-more_lem (event L s) (event L t) ((after_five L).excludes s t) (non (followed L s t))
      (with-events (after_four L).excludes (smallest_source (closes L (after_four L))) s t))
  excludes-six_lem Light = excludes-five

  pub six-events : (p : Profile) (s t : ℕ) → (after_six L p).excludes s t ≡ (event L s and event L t and (after_six L p).excludes s t)
  unfolding after_six after_five step6 step5
  six-events Full s t = with-events (after_five L).excludes (λ x y. non (followed L x y)) s t
  six-events Light s t = with-events (after_four L).excludes (smallest_source (closes L (after_four L))) s t

  -- ---- after seven: what a row says of u is what the rules ask of it

  followers-read : followers_of (events L) (tallied L) ≡ rows_of (λ u s. event L s and (event L u and alternates L u s))
  followers-read =
      ap (λ (rows : List ℕ). rows_of (turned (rows_for (events L) (absent (events L) rows)))) (unalternated-table_lem L)
      ∙ ap (λ (rows : List ℕ). rows_of (turned rows)) (absent-rows (event L) (λ s u. non (alternates L u s)))
      ∙ turned_rows (λ s u. event L s and (event L u and non (non (alternates L u s))))
      ∙ rows_of-ext _ _ (λ u s lu ls. ap (λ (b : Bool). event L s and (event L u and b)) (non-non (alternates L u s)))

  module _ (small : Small L) (p : Profile) (includes : List ℕ) (hi : includes ≡ rows_of (after_six L p).includes) where
    abbrev six : Relations
    six = after_six L p

    redundant-read : (u s t : ℕ) → u < width → s < width → t < width → event L s ≡ true
        → (mem (events L) u and redundant_by (tallied L) (followers_of (events L) (tallied L)) includes (excludes_six p (events L) (tallied L)) L u s t)
        ≡ (event L u and makes_redundant L six u s t)
    unfolding redundant_by makes_redundant
    redundant-read u s t lu ls lt es =
        (λ i.
        mem (events L) u
        and (in_row (excludes-six_lem p i) u t and non (in_row (hi i) u t) and in_row (followers-read i) u s
        and non (doubted (before-table_lem L i) (hi i) (row_at (later-table_lem L i) u) s t and reopened (hi i) u L s t)))
        ∙ simp (mem-those, in-rows_of, reopened-is)
        (ap (λ (b : Bool). event L u and (six.excludes u t and non (six.includes u t) and (b and (event L u and alternates L u s))
        and non (let_in_between L six u s t))) es
        ∙ by5 (λ e x i a l. e and (x and non i and (true and (e and a)) and non l)) (λ e x i a l. e and (x and a and non i and non l))
        (unfold ◌and◌ ◌or◌ non in tt) (event L u) (six.excludes u t) (six.includes u t) (alternates L u s) (let_in_between L six u s t))

    pub excludes-seven : seven_from (events L) (tallied L) includes (excludes_six p (events L) (tallied L)) L ≡ rows_of (after_seven L p).excludes
    unfolding after_seven step7 ◌without◌ some_event
    excludes-seven =
        rows_of-ext _ _
        (λ s t ls lt.
        ap₂ (λ (x y : Bool). x and non y) (ap (λ (rows : List ℕ). in_row rows s t) (excludes-six_lem p) ∙ in-rows_of six.excludes s t ls lt) refl
        ∙ where-so (six.excludes s t) _ _
        (λ h. ap non (some-ext width _ _ (λ u lu. redundant-read u s t lu ls lt (T→true _ (and_l _ _ (and_l _ _ (T-eq (six-events p s t) h))))))))
