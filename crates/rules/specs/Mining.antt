-- 01, "Mining, in this order": first what the rules ask of the log, then the ten steps, and at the end which of them each profile takes
-- (02, 3/12). A step is given the relations as they stood when it began, and gives the relations after it.
-- To read it: `g.excludes s t` asks whether s excludes t in the relations g, source first, and so for the other three; `eqb s t` asks
-- whether s is t; `λ s t. ..` is the relation of the pairs s, t that pass what follows; `λ past rest. ..` is a test of a place by what stands
-- before and after it, nearest first.
use Rattle.std.specs.Prelude.{Bool, false, List, [], ◌∷◌, ℕ, eqb}
use Rattle.sets.specs.Tests.{◌and◌, ◌or◌, non}
use Rattle.sets.specs.Members.{width, some_below}
use Rattle.sets.specs.Rows.{Relation}
use Rattle.engine.specs.Relations.{Relations}
use Rattle.rules.specs.declared.Profile.{Profile}
use Rattle.rules.specs.declared.Profile.TheVariants.{Full, Light}
use Rattle.rules.specs.Traces.{Traces, ◌has◌, ◌begins_with◌, at_each, at_some, every_trace, some_trace}

-- before step 1: no pair in any relation
unfoldable pub no_pair : Relation
no_pair s t = false

unfoldable pub no_relations : Relations
no_relations = record { conditions = no_pair; responses = no_pair; includes = no_pair; excludes = no_pair }

-- of the pairs of one step, those whose target has none with a smaller source (steps 4 and 5)
unfoldable pub smallest_source : Relation → Relation
smallest_source r s t = r s t and non (some_below s (λ u. r u t))

infixl 25 ◌without◌
-- the relation less the pairs that pass
unfoldable pub ◌without◌ : Relation → Relation → Relation
(r without p) s t = r s t and non (p s t)

module _ (L : Traces) where
  -- ---- what the log is asked

  -- s occurs: the events are the activities that do
  unfoldable pub event : ℕ → Bool
  event s = some_trace L (λ σ. σ has s)

  -- some event passes
  unfoldable pub some_event : (ℕ → Bool) → Bool
  some_event p = some_below width (λ u. event u and p u)

  infixl 25 ◌with◌
  -- the relation and the pairs that pass, of events alone
  unfoldable pub ◌with◌ : Relation → Relation → Relation
  (r with p) s t = event s and event t and (r s t or p s t)

  -- no trace has s twice: no s has an s before it (step 1)
  unfoldable pub at_most_once : ℕ → Bool
  at_most_once s = every_trace L (at_each s (λ past rest. non (past has s)))

  -- every t has an s earlier in its trace (step 2)
  unfoldable pub precedes : Relation
  precedes s t = every_trace L (at_each t (λ past rest. past has s))

  -- every s has a t later in its trace (step 2)
  unfoldable pub answers : Relation
  answers s t = every_trace L (at_each s (λ past rest. rest has t))

  -- every t has s directly before it (step 3)
  unfoldable pub chained : Relation
  chained s t = every_trace L (at_each t (λ past rest. past begins_with s))

  -- s and t stand together in one trace (step 4)
  unfoldable pub together : Relation
  together s t = some_trace L (λ σ. σ has s and σ has t)

  -- s is before t in some trace (step 5)
  unfoldable pub before : Relation
  before s t = some_trace L (at_some t (λ past rest. past has s))

  -- some s is directly followed by t (step 6)
  unfoldable pub followed : Relation
  followed s t = some_trace L (at_some t (λ past rest. past begins_with s))

  -- u stands between an s and a later t in a trace (step 6); u may be s or t
  unfoldable pub between : ℕ → ℕ → ℕ → Bool
  between s u t = some_trace L (at_some u (λ past rest. past has s and rest has t))

  -- u alternately precedes s: every s has an earlier u, with no s nearer to it (step 7)
  unfoldable pub alternates : Relation
  alternates u s = every_trace L (at_each s (λ past rest. at_some u (λ nearer farther. non (nearer has s)) past))

  -- s is before the first t in some trace (step 9)
  unfoldable pub before_first : Relation
  before_first s t = some_trace L (at_some t (λ past rest. past has s and non (past has t)))

  -- ---- the steps

  -- 1. What stands at most once in a trace excludes itself.
  unfoldable pub step1 : Relations → Relations
  step1 g =
      record {
        conditions = g.conditions;
        responses = g.responses;
        includes = g.includes;
        excludes = g.excludes with (λ s t. eqb s t and at_most_once s);
      }

  -- 2. A condition to what it always precedes, a response to what always answers it.
  unfoldable pub step2 : Relations → Relations
  step2 g =
      record {
        conditions = g.conditions with (λ s t. non (eqb s t) and precedes s t);
        responses = g.responses with (λ s t. non (eqb s t) and answers s t);
        includes = g.includes;
        excludes = g.excludes;
      }

  -- 3. Where every t has another activity s directly before it, s includes t and t excludes itself.
  unfoldable pub directly_before : Relation
  directly_before s t = non (eqb s t) and chained s t

  unfoldable pub step3 : Relations → Relations
  step3 g =
      record {
        conditions = g.conditions;
        responses = g.responses;
        includes = g.includes with directly_before;
        excludes = g.excludes with (λ s t. eqb s t and some_event (λ u. directly_before u t));
      }

  -- 4. What never shares a trace: each target is excluded by the smallest source of this step's pairs.
  unfoldable pub never_together : Relation
  never_together s t = event s and event t and non (eqb s t) and non (together s t)

  unfoldable pub step4 : Relations → Relations
  step4 g =
      record {
        conditions = g.conditions;
        responses = g.responses;
        includes = g.includes;
        excludes = g.excludes with smallest_source never_together;
      }

  -- 5. Where s is before t in some trace, after t in none, and does not exclude itself, t closes s: here t is the source and s the target.
  -- Again each target is excluded by the smallest source of this step's pairs.
  unfoldable pub closes : Relations → Relation
  closes g t s = event s and event t and before s t and non (before t s) and non (g.excludes s s)

  unfoldable pub step5 : Relations → Relations
  step5 g =
      record {
        conditions = g.conditions;
        responses = g.responses;
        includes = g.includes;
        excludes = g.excludes with smallest_source (closes g);
      }

  -- 6. Where no s is directly followed by t (s may be t), s excludes t, and whatever stands between an s and a later t includes t.
  unfoldable pub step6 : Relations → Relations
  step6 g =
      record {
        conditions = g.conditions;
        responses = g.responses;
        includes = g.includes with (λ u t. some_event (λ s. non (followed s t) and between s u t));
        excludes = g.excludes with (λ s t. non (followed s t));
      }

  -- 7. An exclusion goes where some u (it may be t) excludes the same target and alternately precedes the source; and only if, by 02, 7/12,
  -- u does not include t and no v that includes t stands between a u and a later s in any trace (v may be u or s). The includes are
  -- those that stand when the step begins. One u must pass all of it.
  unfoldable pub let_in_between : Relations → ℕ → Relation
  let_in_between g u s t = some_event (λ v. between u v s and g.includes v t)

  unfoldable pub makes_redundant : Relations → ℕ → Relation
  makes_redundant g u s t = g.excludes u t and alternates u s and non (g.includes u t) and non (let_in_between g u s t)

  unfoldable pub step7 : Relations → Relations
  step7 g =
      record {
        conditions = g.conditions;
        responses = g.responses;
        includes = g.includes;
        excludes = g.excludes without (λ s t. some_event (λ u. makes_redundant g u s t));
      }

  -- 8. In conditions and in responses, a pair goes where some u has the source to u and u to the target.
  unfoldable pub reduced : Relation → Relation
  reduced r = r without (λ s t. some_event (λ u. r s u and r u t))

  unfoldable pub step8 : Relations → Relations
  step8 g =
      record {
        conditions = reduced g.conditions;
        responses = reduced g.responses;
        includes = g.includes;
        excludes = g.excludes;
      }

  -- 9. Whether s is included once the past has been replayed, by includes and excludes alone: at first every event is; then each event of
  -- the past took out what it excludes and put in what it includes. Includes and excludes are those that step 7 left.
  unfoldable pub included_after : Relations → List ℕ → ℕ → Bool
  included_after g [] s = event s
  included_after g (x ∷ past) s = included_after g past s and non (g.excludes x s) or g.includes x s

  -- at every t of every trace, s has been executed or is not included
  unfoldable pub never_missed : Relations → Relation
  never_missed g s t = every_trace L (at_each t (λ past rest. past has s or non (included_after g past s)))

  -- A condition to t from what stands before the first t of some trace and is never missed at a t.
  unfoldable pub step9 : Relations → Relations
  step9 g =
      record {
        conditions = g.conditions with (λ s t. non (eqb s t) and before_first s t and never_missed g s t);
        responses = g.responses;
        includes = g.includes;
        excludes = g.excludes;
      }

  -- 10. Conditions are reduced once more.
  unfoldable pub step10 : Relations → Relations
  step10 g =
      record {
        conditions = reduced g.conditions;
        responses = g.responses;
        includes = g.includes;
        excludes = g.excludes;
      }

  -- ---- the relations after some of the steps, and after all

  unfoldable pub after_five : Relations
  after_five = step5 (step4 (step3 (step2 (step1 no_relations))))

  -- 02, 3/12: the light profile skips step 6, and the steps after it go on from what step 5 left
  unfoldable pub after_six : Profile → Relations
  after_six Full = step6 after_five
  after_six Light = after_five

  unfoldable pub after_seven : Profile → Relations
  after_seven p = step7 (after_six p)

  unfoldable pub after_eight : Profile → Relations
  after_eight p = step8 (after_seven p)

  unfoldable pub mined : Profile → Relations
  mined p = step10 (step9 (after_eight p))
