-- What is lent, by the edition that the code finds. Assumes nothing.
use mathlib.Core.Path.{◌≡◌, sym, ap, ◌∙◌}
use mathlib.Core.Bool.{Bool, true, false}
use mathlib.Core.List.{List}
use Prim.Native.Nat.{ℕ, ◌≤◌}
use native.Mathlib.Omega.{arith}
use borrow.Author.Tests.{eq-eqb, ne_eqb}
use Rattle.sets.specs.Tests.{when◌then◌else◌}
use Rattle.sets.specs.Members.{width, word}
use Rattle.octets.specs.Editions.{wide_edition, edition_in}
use Rattle.report.specs.Lent.{most_in}
use Rattle.octets.specs.Editions.{wide_in}
use Rattle.report.specs.Listing.{longest_narrow, longest_wide, longest_listing}

module _ (log : List ℕ) (e : ℕ) (said : e ≡ edition_in log) where
  module _ (h : e ≡ wide_edition) where
    wide : wide_in log ≡ true
    wide = eq-eqb (edition_in log) wide_edition (sym said ∙ h)

    pub most-wide : width ≡ most_in log
    unfolding most_in
    most-wide = sym (ap (λ (t : Bool). when t then width else word) wide)

    pub longest-wide_lem : longest_wide ≡ longest_listing log
    unfolding longest_listing
    longest-wide_lem = sym (ap (λ (t : Bool). when t then longest_wide else longest_narrow) wide)

  module _ (h : e ≡ wide_edition → ⊥) where
    narrow : wide_in log ≡ false
    narrow = ne_eqb (edition_in log) wide_edition (λ q. h (said ∙ q))

    pub most_narrow : word ≡ most_in log
    unfolding most_in
    most_narrow = sym (ap (λ (t : Bool). when t then width else word) narrow)

    pub longest-narrow_lem : longest_narrow ≡ longest_listing log
    unfolding longest_listing
    longest-narrow_lem = sym (ap (λ (t : Bool). when t then longest_wide else longest_narrow) narrow)

pub ruleset lending = (most-wide, longest-wide_lem, most_narrow, longest-narrow_lem)

-- no log has more activities than there are
pub most-few : (log : List ℕ) → most_in log ≤ width
unfolding most_in
most-few log = by (wide_in log)
  where
    by : (t : Bool) → (when t then width else word) ≤ width
    by true = omega arith
    by false = omega arith
