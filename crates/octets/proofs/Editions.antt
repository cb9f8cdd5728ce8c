-- Ways through the editions' tests. Assumes nothing.
use mathlib.Core.Path.{◌≡◌, refl, sym, ap, ◌∙◌}
use mathlib.Core.Bool.{Bool, true, false, not}
use mathlib.Core.List.{List}
use Prim.Native.Nat.{ℕ, ◌≤◌, ◌<◌}
use borrow.Author.Tests.{lt-ltb, le-ltb, ltb-false, eq-eqb, ne_eqb, eqb-true}
use lib.Dec.{eqb, ltb}
use Rattle.sets.specs.Tests.{◌and◌, ◌or◌, non, when◌then◌else◌}
use Rattle.sets.specs.Members.{word}
use Rattle.sets.specs.Sizes.{most_activities}
use Rattle.octets.specs.Opens.{opens_with}
use Rattle.sets.proofs.Tests.{neither, T→true, non-false}
use Rattle.octets.specs.Editions.{narrow_edition, wide_edition, edition_for, edition_in, opens_file, beyond}

module _ (a : ℕ) where
  pub edition-wide : word < a → wide_edition ≡ edition_for a
  unfolding edition_for
  edition-wide l = sym (ap (λ (t : Bool). when t then wide_edition else narrow_edition) (lt-ltb word a l))

  pub edition-narrow : a ≤ word → narrow_edition ≡ edition_for a
  unfolding edition_for
  edition-narrow l = sym (ap (λ (t : Bool). when t then wide_edition else narrow_edition) (le-ltb word a l))

module _ (letters bytes : List ℕ) (o : Bool) (eo : o ≡ opens_with letters bytes) where
  pub opens_not : o ≡ false → false ≡ opens_file letters bytes
  unfolding opens_file ◌and◌
  opens_not h = ap (λ (t : Bool). t and (eqb (edition_in bytes) narrow_edition or eqb (edition_in bytes) wide_edition)) (sym (h) ∙ eo)

  module _ (e : ℕ) (ee : e ≡ edition_in bytes) (h : o ≡ true) where
    opens-so : (eqb (edition_in bytes) narrow_edition or eqb (edition_in bytes) wide_edition) ≡ opens_file letters bytes
    unfolding opens_file ◌and◌
    opens-so = ap (λ (t : Bool). t and (eqb (edition_in bytes) narrow_edition or eqb (edition_in bytes) wide_edition)) (sym (h) ∙ eo)

    pub opens-narrow : e ≡ narrow_edition → true ≡ opens_file letters bytes
    unfolding ◌or◌
    opens-narrow q = ap (λ (t : Bool). t or eqb (edition_in bytes) wide_edition) (sym (eq-eqb (edition_in bytes) 1 (sym ee ∙ q))) ∙ opens-so

    pub opens-wide : (e ≡ narrow_edition → ⊥) → eqb e wide_edition ≡ opens_file letters bytes
    unfolding ◌or◌
    opens-wide q =
        ap (λ (n : ℕ). eqb n wide_edition) ee
        ∙ ap (λ (t : Bool). t or eqb (edition_in bytes) wide_edition) (sym (ne_eqb (edition_in bytes) 1 (λ z. q (ee ∙ z)))) ∙ opens-so

module _ (e a : ℕ) where
  pub beyond-limit : most_activities < a → true ≡ beyond e a
  unfolding beyond ◌or◌
  beyond-limit l = ap (λ (t : Bool). t or non (eqb e (edition_for a))) (sym (lt-ltb most_activities a l))

  pub beyond-edition : (f : ℕ) → f ≡ edition_for a → a ≤ most_activities → not (eqb e f) ≡ beyond e a
  unfolding beyond ◌or◌ non
  beyond-edition f q l =
      is-non (eqb e f) ∙ ap (λ (n : ℕ). non (eqb e n)) q ∙ ap (λ (t : Bool). t or non (eqb e (edition_for a))) (sym (le-ltb most_activities a l))
    where
      is-non : (t : Bool) → not t ≡ non t
      is-non true = refl
      is-non false = refl

pub ruleset editions = (edition-wide, edition-narrow, opens_not, opens-narrow, opens-wide, beyond-limit, beyond-edition)

-- ---- what an accepted file has

pub within-limit : (e a : ℕ) → beyond e a ≡ false → (a ≤ most_activities) × (e ≡ edition_for a)
unfolding beyond
within-limit e a h =
    let both = neither (ltb most_activities a) (non (eqb e (edition_for a))) h in
    (ltb-false most_activities a both.0, eqb-true e (edition_for a) (T→true (eqb e (edition_for a)) (non-false (eqb e (edition_for a)) both.1)))

pub within_both : (e a : ℕ) → a ≤ most_activities → e ≡ edition_for a → beyond e a ≡ false
unfolding beyond ◌or◌ non
within_both e a l q =
    ap (λ (t : Bool). t or non (eqb e (edition_for a))) (le-ltb most_activities a l) ∙ ap non (eq-eqb e (edition_for a) q)
