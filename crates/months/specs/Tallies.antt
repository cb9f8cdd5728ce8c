-- The tally of A and some traces (02, 12/12: "A and all that steps 1 to 8 need to know, with 7/12's rule"). A set has what was seen, or what
-- breaks a rule, over all 64 activities whatever A is: so all of it only grows, and a step that is absent in one month counts.
use Rattle.std.specs.Prelude.{Bool, false, List, ℕ, zero, suc, ◌-◌, ◌/◌, ◌%◌, ltb, set}
use Rattle.sets.specs.Tests.{non, when◌then◌else◌}
use Rattle.sets.specs.Members.{those}
use Rattle.sets.specs.Rows.{Relation}
use Rattle.rules.specs.Traces.{Traces}
use Rattle.rules.specs.Mining.{event, before, precedes, answers, chained, alternates, followed, between}
use Rattle.months.specs.Layout.{tally_width, set_count, first_row, rows_end, first_pair, sets_from}

module _ (L : Traces) where
  -- what the seven tables are asked: whether x stands in row a of table k
  abbrev pub asked : ℕ → Relation
  -- x stands before some a
  asked zero = λ a x. before L x a
  -- x stands after some a
  asked (suc zero) = λ a x. before L a x
  -- some a has no x before it
  asked (suc (suc zero)) = λ a x. non (precedes L x a)
  -- some a has no x after it
  asked (suc (suc (suc zero))) = λ a x. non (answers L a x)
  -- some a does not have x directly before it
  asked (suc (suc (suc (suc zero)))) = λ a x. non (chained L x a)
  -- some a has no x since the a before it, or since its trace's start
  asked (suc (suc (suc (suc (suc zero))))) = λ a x. non (alternates L x a)
  -- x directly follows some a
  asked (suc (suc (suc (suc (suc (suc k)))))) = λ a x. followed L a x

  -- x is a member of set w. Set 0 has no member: A is put over it. Of the pairs, the set of u and s has what stands between a u and a later s
  unfoldable pub held : ℕ → ℕ → Bool
  held w x =
      when ltb w 1 then false
      else when ltb w first_row then event L x
      else when ltb w rows_end then asked ((w - first_row) / tally_width) ((w - first_row) % tally_width) x
      else when ltb w first_pair then false
      else between L ((w - first_pair) / tally_width) x ((w - first_pair) % tally_width)

-- the sets one after another, and A at byte 0
unfoldable pub tally_of : ℕ → Traces → List ℕ
tally_of A L = set (sets_from set_count 0 (λ w. those (held L w))) 0 A
