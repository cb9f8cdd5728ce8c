-- Slips that look right (01, the list of that name, those of mining): each as a definition of its own, beside the rule, on a log where the
-- two differ. One table of pairs and one of replays, computed by antt.
use mathlib.Core.Path.{◌≡◌, refl}
use mathlib.Core.Bool.{Bool, false}
use mathlib.Core.List.{List, [], ◌∷◌, map}
use Prim.Native.Nat.{ℕ}
use lib.Dec.{eqb}
use Rattle.sets.specs.Tests.{◌and◌, ◌or◌, non, when◌then◌else◌}
use Rattle.sets.specs.Members.{bit, bits_of, some_below, least_below, those, mem}
use Rattle.sets.specs.Rows.{Relation, list_from}
use Rattle.engine.specs.Markings.{opening_of}
use Rattle.engine.specs.Relations.{Relations}
use Rattle.engine.specs.Steps.{waits, blocker, enabled, after, accepting}
use Rattle.engine.specs.Replay.{replay_from}
use Rattle.rules.specs.declared.Profile.TheVariants.{Full}
use Rattle.rules.specs.Traces.{Traces, ◌has◌, ◌begins_with◌, at_each_from, at_each, at_some_from, every_trace, some_trace}
use Rattle.rules.specs.Mining.{no_pair, no_relations, smallest_source, ◌without◌, event, some_event, ◌with◌, at_most_once, precedes, answers, chained, together, before, followed, between, alternates, before_first, step1, step2, directly_before, step3, never_together, step4, closes, step5, step6, let_in_between, makes_redundant, step7, reduced, step8, included_after, never_missed, step9, step10, after_five, after_six, after_seven, after_eight, mined}
use Rattle.rules.proofs.Listed.{Pair, ◌to◌, one_of, pairs, Given, ended, end, Claim, ◌are◌, found, meant}
use Rattle.rules.proofs.Cases.{L}

-- some member of the list passes
abbrev some_of : List ℕ → (ℕ → Bool) → Bool
some_of [] p = false
some_of (x ∷ xs) p = p x or some_of xs p

module _ (L : Traces) where
  -- line 33 as the paper prints it, read as an implication: where an s stands after a t, something before that t excludes s
  printed33 : Relations → Relation
  printed33 g s t = every_trace L (at_each t (λ past rest. non (rest has s) or some_of past (λ x. g.excludes x s)))

  -- at every t, s has been executed or something earlier excludes it, whatever included it since
  excluded_earlier : Relations → Relation
  excluded_earlier g s t = every_trace L (at_each t (λ past rest. past has s or some_of past (λ x. g.excludes x s)))

  -- steps 9 and 10 with another test at each t
  mined_by : (Relations → Relation) → Relations
  mined_by test =
      step10 L (record {
        conditions = ◌with◌ L (after_eight L Full).conditions (λ s t. non (eqb s t) and before_first L s t and test (after_eight L Full) s t);
        responses = (after_eight L Full).responses;
        includes = (after_eight L Full).includes;
        excludes = (after_eight L Full).excludes;
      })

  -- with the rule's own test they are the rule
  the-rule : mined_by (never_missed L) ≡ mined L Full
  unfolding mined_by mined step9
  the-rule = refl

  -- and the replay of a trace by such relations, from the opening marking
  replay_by : (Relations → Relation) → List ℕ → Given
  replay_by test σ = end (replay_from (those (event L)) (mined_by test) (opening_of (those (event L))) 0 σ)

  -- step 8 judged while pairs are going: one pair after another, each on the relation as those before it left it
  in_turn : List Pair → Relation → Relation
  in_turn [] r = r
  in_turn (s to t ∷ ps) r = in_turn ps (when some_event L (λ u. r s u and r u t) then r without one_of (s to t ∷ []) else r)

-- ---- the logs

-- 0 excludes 2 and includes it, both at once; so 2 is included at the 1 of the first trace
again : Traces
again = (0 ∷ 1 ∷ []) ∷ (2 ∷ 0 ∷ 1 ∷ 2 ∷ []) ∷ []

line : Traces
line = (0 ∷ 1 ∷ 2 ∷ 3 ∷ []) ∷ []

abbrev responses_of : Relation
responses_of = (step2 line no_relations).responses

pub slips : List Claim
slips =
    -- line 33 adds 1 to 2: no 1 follows the 2 of the second trace (0 to 2 then goes, by way of 1)
    pairs 3 (mined L Full).conditions are (0 to 1 ∷ 0 to 2 ∷ [])
    ∷ pairs 3 (mined_by L (printed33 L)).conditions are (0 to 1 ∷ 1 to 2 ∷ [])
    -- the exclusion alone adds 2 to 1
    ∷ pairs 3 (mined again Full).conditions are (0 to 1 ∷ [])
    ∷ pairs 3 (mined_by again (excluded_earlier again)).conditions are (0 to 1 ∷ 2 to 1 ∷ [])
    -- the pairs in rising order give the rule's result; with the greatest source first, 0 to 3 is left over
    ∷ pairs 4 (reduced line responses_of) are (0 to 1 ∷ 1 to 2 ∷ 2 to 3 ∷ [])
    ∷ pairs 4 (in_turn line (0 to 1 ∷ 0 to 2 ∷ 0 to 3 ∷ 1 to 2 ∷ 1 to 3 ∷ 2 to 3 ∷ []) responses_of) are (0 to 1 ∷ 1 to 2 ∷ 2 to 3 ∷ [])
    ∷ pairs 4 (in_turn line (2 to 3 ∷ 1 to 2 ∷ 1 to 3 ∷ 0 to 1 ∷ 0 to 2 ∷ 0 to 3 ∷ []) responses_of) are (0 to 1 ∷ 0 to 3 ∷ 1 to 2 ∷ 2 to 3 ∷ [])
    ∷ []

-- each of the two conditions refuses a trace of its own log, with 10 at place 1: 2 is blocked by 1, and 1 by 2
pub refusals : List Given
refusals = replay_by L (printed33 L) (0 ∷ 2 ∷ []) ∷ replay_by again (excluded_earlier again) (0 ∷ 1 ∷ []) ∷ []

-- THE THEOREM
pub slipped : (map found slips ≡ map meant slips) × (refusals ≡ ended 10 1 1 false ∷ ended 10 2 1 false ∷ [])
unfolding slips refusals L again line printed33 excluded_earlier mined_by replay_by in_turn
    ◌and◌ ◌or◌ non bit mem those bits_of some_below least_below list_from waits blocker enabled after accepting replay_from
    ◌has◌ ◌begins_with◌ at_each_from at_some_from every_trace some_trace
    no_pair no_relations smallest_source ◌without◌ event some_event ◌with◌ at_most_once precedes answers chained together before followed between alternates before_first
    step1 step2 directly_before step3 never_together step4 closes step5 step6 let_in_between makes_redundant step7 reduced step8 included_after never_missed step9 step10
    after_five after_six after_seven after_eight mined
slipped = (refl, refl)
