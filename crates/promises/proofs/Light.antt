-- THE LIGHT PROFILE (02, 3/12), as theorems about the public functions. Demands 2 and 3 are in Demands, each one theorem over the profile;
-- the light graph of L is in the table of rules/proofs/Cases, and both listings of L are in report/proofs/Examples. Here: what the profiles
-- are, what 12 leaves, and what the summary counts. What the listing program's arguments mean is in LightByDefault. Assumes nothing.
use mathlib.Core.Path.{◌≡◌, refl, sym, ap, ap₂, ◌∙◌}
use mathlib.Core.Bool.{Bool, false}
use mathlib.Core.List.{List, ◌++◌}
use Prim.Native.Nat.{ℕ, zero, suc, ◌+◌, ◌<◌}
use native.Mathlib.Nat.{zero-add}
use native.Mathlib.Omega.{arith}
use lib.Dec.{T, eqb}
use lib.ListN.{length, length-append, get_or, drop, get_or-append}
use lib.Seq.{get_or-append-add}
use Rattle.sets.specs.Tests.{◌and◌, non, when◌then◌else◌}
use Rattle.sets.specs.Members.{width, count_below}
use Rattle.sets.specs.Rows.{Relation}
use Rattle.sets.specs.Answers.{number_of, is_done}
use Rattle.sets.specs.declared.answer.Answer.{Answer}
use Rattle.sets.specs.declared.answer.Answer.TheVariants.{WrongArgument}
use Rattle.sets.proofs.Tests.{false→F, F→false}
use Rattle.sets.proofs.RowLaws.{get_or-list_from}
use Rattle.engine.specs.Relations.{Relations}
use Rattle.calllog.specs.Logs.{log_of}
use Rattle.rules.specs.declared.Profile.{Profile}
use Rattle.rules.specs.declared.Profile.TheVariants.{Full, Light}
use Rattle.rules.specs.Traces.{Traces}
use Rattle.rules.specs.Mining.{no_relations, event, step1, step2, step3, step4, step5, step6, step7, step8, step9, step10, after_five, after_six, after_seven, after_eight, mined}
use Rattle.rules.proofs.Acceptable.{mined-reasons}
use Rattle.rules.proofs.FromFile.{file-accepted}
use Rattle.report.specs.Lent.{most_in}
use Rattle.report.specs.Summary.{others_of, counts_of, summary_of, summary_length, summary_after}
use Rattle.report.proofs.SummaryLaws.{length-counts}
use Rattle.port.specs.Port.{packed_of, in_profile}
use Rattle.port.proofs.Packing.{no-profile, no_change}
use Rattle.promises.proofs.Contracts.{WriteSummaryGives, write-summary-said}
use Rattle.promises.proofs.Contracts.{SkelforaMineGives, skelfora-mine-said, SkelforaListingGives, skelfora-listing-said, SkelforaSummaryGives, skelfora-summary-said}

-- ================ THE PROFILES: full has all ten steps, light has all but the sixth

module _ (L : Traces) where
  abbrev five : Relations
  five = step5 L (step4 L (step3 L (step2 L (step1 L no_relations))))

  pub full-has-ten : mined L Full ≡ step10 L (step9 L (step8 L (step7 L (step6 L five))))
  unfolding mined after_eight after_seven after_six after_five
  full-has-ten = refl

  pub light-skips-six : mined L Light ≡ step10 L (step9 L (step8 L (step7 L five)))
  unfolding mined after_eight after_seven after_six after_five
  light-skips-six = refl

-- ================ 12 THROUGH THE PORT: a number that is no profile's gives 12 and nothing else, and changes nothing lent, whatever the log is

module _ (n : ℕ) (above : 1 < n) where
  gives-12 : (f : Profile → ℕ) → in_profile n f ≡ 12
  unfolding packed_of
  gives-12 f = sym (no-profile n (packed_of WrongArgument 0) f above refl)

  module _ (log before : List ℕ) (r : ℕ) (after : List ℕ) where
    pub mine-no-profile : SkelforaMineGives log n before r after → (r ≡ 12) × (after ≡ before)
    mine-no-profile c =
        let h = skelfora-mine-said log n before r after c in (h.0 ∙ gives-12 _, h.1 ∙ sym (no_change n _ before above))

    pub listing-no-profile : SkelforaListingGives log n before r after → (r ≡ 12) × (after ≡ before)
    listing-no-profile c =
        let h = skelfora-listing-said log n before r after c in (h.0 ∙ gives-12 _, h.1 ∙ sym (no_change n _ before above))

    pub summary-no-profile : SkelforaSummaryGives log n before r after → (r ≡ 12) × (after ≡ before)
    summary-no-profile c =
        let h = skelfora-summary-said log n before r after c in (h.0 ∙ gives-12 _, h.1 ∙ sym (no_change n _ before above))

-- ================ THE SUMMARY

count_at : (n : ℕ) (r : Relation) (s : ℕ) → s < n → get_or (counts_of n r) s 0 ≡ others_of r s
unfolding counts_of
count_at n r s l = get_or-list_from n 0 (others_of r) s l ∙ ap (others_of r) (zero-add s)

none_below : (w : ℕ) (p : ℕ → Bool) → ((a : ℕ) → p a ≡ false) → count_below w p ≡ 0
unfolding count_below
none_below zero p e = refl
none_below (suc w) p e = rw (e 0, none_below w (λ a. p (suc a)) (λ a. e (suc a)))

-- no pair, none counted
no-others : (r : Relation) (s : ℕ) → ((t : ℕ) → T (r s t) → ⊥) → others_of r s ≡ 0
unfolding ◌and◌
no-others r s n = none_below width _ (λ t. ap (λ (b : Bool). b and non (eqb t s)) (F→false (r s t) (n t)))

module _ (bytes : List ℕ) (p : Profile) (before : List ℕ) (r : Answer) (after : List ℕ) (c : WriteSummaryGives bytes p before r after) where
  abbrev L : Traces
  L = (log_of bytes).traces

  -- refused: no byte is changed
  pub summary-nothing : is_done r ≡ false → after ≡ before
  unfolding summary_after
  summary-nothing n =
      let h = write-summary-said bytes p before r after c in
      h.1 ∙ ap (λ (b : Bool). when b then summary_of bytes p ++ drop (summary_length bytes) before else before) (ap is_done (sym h.0) ∙ n)

  module _ (d : number_of r ≡ 0) where
    filled : after ≡ counts_of (most_in bytes) (mined L p).conditions ++ counts_of (most_in bytes) (mined L p).excludes ++ drop (summary_length bytes) before
    unfolding summary_after summary_of
    filled =
        let h = write-summary-said bytes p before r after c in
        h.1
        ∙ ap (λ (b : Bool). when b then summary_of bytes p ++ drop (summary_length bytes) before else before)
        (ap is_done (sym h.0) ∙ ap (λ (n : ℕ). eqb n 0) d)

    length_both : length (counts_of (most_in bytes) (mined L p).conditions ++ counts_of (most_in bytes) (mined L p).excludes) ≡ most_in bytes + most_in bytes
    length_both =
        length-append (counts_of (most_in bytes) (mined L p).conditions) (counts_of (most_in bytes) (mined L p).excludes)
        ∙ ap₂ ◌+◌ (length-counts (most_in bytes) (mined L p).conditions) (length-counts (most_in bytes) (mined L p).excludes)

    -- the byte of a place is that of the counts
    at-place_lem : (i : ℕ) → i < most_in bytes + most_in bytes → get_or after i 0 ≡ get_or (counts_of (most_in bytes) (mined L p).conditions ++ counts_of (most_in bytes) (mined L p).excludes) i 0
    at-place_lem i h =
        ap (λ (x : List ℕ). get_or x i 0) filled
        ∙ get_or-append (counts_of (most_in bytes) (mined L p).conditions ++ counts_of (most_in bytes) (mined L p).excludes) _ 0 i (omega (arith, length_both))

    module _ (s : ℕ) (l : s < most_in bytes) where
      -- byte s: how many pairs s to t the conditions have, with t other than s
      pub summary-conditions : get_or after s 0 ≡ count_below width (λ t. (mined L p).conditions s t and non (eqb t s))
      summary-conditions =
          at-place_lem s (omega arith)
          ∙ get_or-append (counts_of (most_in bytes) (mined L p).conditions) _ 0 s (omega (arith, length-counts (most_in bytes) (mined L p).conditions))
          ∙ count_at (most_in bytes) (mined L p).conditions s l

      -- byte 64 + s, in edition 2 byte 128 + s: the same of the excludes
      pub summary-excludes : get_or after (most_in bytes + s) 0 ≡ count_below width (λ t. (mined L p).excludes s t and non (eqb t s))
      summary-excludes =
          at-place_lem (most_in bytes + s) (omega arith)
          ∙ ap (λ (n : ℕ). get_or (counts_of (most_in bytes) (mined L p).conditions ++ counts_of (most_in bytes) (mined L p).excludes) (n + s) 0)
          (sym (length-counts (most_in bytes) (mined L p).conditions))
          ∙ get_or-append-add (counts_of (most_in bytes) (mined L p).conditions) (counts_of (most_in bytes) (mined L p).excludes) s 0
          ∙ count_at (most_in bytes) (mined L p).excludes s l

      -- 0 and 0 for what is no event
      pub summary-no-event : event L s ≡ false → (get_or after s 0 ≡ 0) × (get_or after (most_in bytes + s) 0 ≡ 0)
      summary-no-event n =
          let why = mined-reasons (log_of bytes).activities L (file-accepted bytes) p in (
            summary-conditions ∙ no-others (mined L p).conditions s (λ t h. false→F n (why.condition s t h).0.0),
            summary-excludes ∙ no-others (mined L p).excludes s (λ t h. false→F n (why.exclude s t h).0.0),
          )
