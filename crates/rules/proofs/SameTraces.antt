-- 02, 12/12, "of the miner": logs with the same non-empty traces, in any order and however often each is repeated, have the same events and
-- the same mined relations. Each question of the rules is one about some trace that the empty one fails, or about every trace that it passes;
-- so each has the same answer, and each step the same result. Assumes nothing.
use mathlib.Core.Path.{◌≡◌, refl, ap, ◌∙◌}
use mathlib.Core.Bool.{Bool, true, false}
use mathlib.Core.List.{List, [], ◌∷◌, Memᴰ}
use Prim.Native.Nat.{ℕ}
use lib.Dec.{T, eqb}
use Rattle.sets.specs.Tests.{◌and◌, ◌or◌, non}
use Rattle.sets.specs.Members.{width, those, some_below}
use Rattle.sets.specs.Rows.{Relation}
use Rattle.sets.proofs.Tests.{and_i, T-ext, true→T, false→F}
use Rattle.engine.specs.Relations.{Relations}
use Rattle.rules.specs.declared.Profile.{Profile}
use Rattle.rules.specs.declared.Profile.TheVariants.{Full, Light}
use Rattle.rules.specs.Traces.{Traces, ◌has◌, at_each_from, at_each, at_some_from, at_some, every_trace, some_trace}
use Rattle.rules.specs.Mining.{no_relations, smallest_source, ◌without◌, event, some_event, ◌with◌, at_most_once, precedes, answers, chained, together, before, followed, between, alternates, before_first, step1, step2, directly_before, step3, never_together, step4, closes, step5, step6, let_in_between, makes_redundant, step7, reduced, step8, included_after, never_missed, step9, step10, after_five, after_six, after_seven, after_eight, mined}
use Rattle.rules.specs.Mined.{graph_from, mined_graph}
use Rattle.rules.proofs.Places.{every_of, some-of_lem, some-trace_lem}

-- each non-empty trace of L is one of M
abbrev pub Among : Traces → Traces → Type 0
Among L M = (x : ℕ) (σ : List ℕ) → Memᴰ (x ∷ σ) L → Memᴰ (x ∷ σ) M

-- ---- one question

pub every-trace_lem : (L : Traces) (p : List ℕ → Bool) → ((σ : List ℕ) → Memᴰ σ L → T (p σ)) → T (every_trace L p)
unfolding every_trace
every-trace_lem [] p f = tt
every-trace_lem (σ ∷ L) p f = and_i _ _ (f σ (Memᴰ.head refl)) (every-trace_lem L p (λ τ m. f τ (Memᴰ.tail m)))

module _ (L M : Traces) (there : Among L M) (q : List ℕ → Bool) where
  some-there : q [] ≡ false → T (some_trace L q) → T (some_trace M q)
  some-there e h = let r = some-trace_lem L q h in at r.0 r.1 r.2
    where
      at : (σ : List ℕ) → Memᴰ σ L → T (q σ) → T (some_trace M q)
      at [] m t = absurd (false→F e t)
      at (x ∷ σ) m t = some-of_lem q (there x σ m) t

  every_back : q [] ≡ true → T (every_trace M q) → T (every_trace L q)
  every_back e h = every-trace_lem L q at
    where
      at : (σ : List ℕ) → Memᴰ σ L → T (q σ)
      at [] m = true→T e
      at (x ∷ σ) m = every_of q (there x σ m) h

module _ (L M : Traces) (there : Among L M) (back : Among M L) where
  some_same : (q : List ℕ → Bool) → q [] ≡ false → some_trace L q ≡ some_trace M q
  some_same q e = T-ext _ _ (some-there L M there q e) (some-there M L back q e)

  every-same : (q : List ℕ → Bool) → q [] ≡ true → every_trace L q ≡ every_trace M q
  every-same q e = T-ext _ _ (every_back M L back q e) (every_back L M there q e)

  -- at some place, at each place: the empty trace has none
  some-place : (t : ℕ) (p : List ℕ → List ℕ → Bool) → some_trace L (at_some t p) ≡ some_trace M (at_some t p)
  unfolding at_some_from
  some-place t p = some_same (at_some t p) refl

  each-place : (t : ℕ) (p : List ℕ → List ℕ → Bool) → every_trace L (at_each t p) ≡ every_trace M (at_each t p)
  unfolding at_each_from
  each-place t p = every-same (at_each t p) refl

  -- ---- what the log is asked

  pub same-event : (s : ℕ) → event L s ≡ event M s
  unfolding event ◌has◌
  same-event s = some_same (λ σ. σ has s) refl

  same_once : (s : ℕ) → at_most_once L s ≡ at_most_once M s
  unfolding at_most_once
  same_once s = each-place s _

  same-precedes : (s t : ℕ) → precedes L s t ≡ precedes M s t
  unfolding precedes
  same-precedes s t = each-place t _

  same-answers : (s t : ℕ) → answers L s t ≡ answers M s t
  unfolding answers
  same-answers s t = each-place s _

  same-chained : (s t : ℕ) → chained L s t ≡ chained M s t
  unfolding chained
  same-chained s t = each-place t _

  same-together : (s t : ℕ) → together L s t ≡ together M s t
  unfolding together ◌and◌ ◌has◌
  same-together s t = some_same (λ σ. σ has s and σ has t) refl

  same-before : (s t : ℕ) → before L s t ≡ before M s t
  unfolding before
  same-before s t = some-place t _

  same-followed : (s t : ℕ) → followed L s t ≡ followed M s t
  unfolding followed
  same-followed s t = some-place t _

  same-between : (s u t : ℕ) → between L s u t ≡ between M s u t
  unfolding between
  same-between s u t = some-place u _

  same-alternates : (u s : ℕ) → alternates L u s ≡ alternates M u s
  unfolding alternates
  same-alternates u s = each-place s _

  same_first : (s t : ℕ) → before_first L s t ≡ before_first M s t
  unfolding before_first
  same_first s t = some-place t _

  -- ---- the steps, each on the same relations

  some-event-same : (p q : ℕ → Bool) → ((u : ℕ) → p u ≡ q u) → some_event L p ≡ some_event M q
  unfolding some_event
  some-event-same p q h i = some_below width (λ u. same-event u i and h u i)

  with-same : (r p q : Relation) → ((s t : ℕ) → p s t ≡ q s t) → ◌with◌ L r p ≡ ◌with◌ M r q
  unfolding ◌with◌
  with-same r p q h i s t = same-event s i and same-event t i and (r s t or h s t i)

  smallest-same : (p q : Relation) → ((s t : ℕ) → p s t ≡ q s t) → (s t : ℕ) → smallest_source p s t ≡ smallest_source q s t
  smallest-same p q h s t i = smallest_source (λ u v. h u v i) s t

  same-step1 : (g : Relations) → step1 L g ≡ step1 M g
  unfolding step1
  same-step1 g i =
      record {
        conditions = g.conditions;
        responses = g.responses;
        includes = g.includes;
        excludes = with-same g.excludes _ _ (λ s t j. eqb s t and same_once s j) i;
      }

  same-step2 : (g : Relations) → step2 L g ≡ step2 M g
  unfolding step2
  same-step2 g i =
      record {
        conditions = with-same g.conditions _ _ (λ s t j. non (eqb s t) and same-precedes s t j) i;
        responses = with-same g.responses _ _ (λ s t j. non (eqb s t) and same-answers s t j) i;
        includes = g.includes;
        excludes = g.excludes;
      }

  same-directly : (s t : ℕ) → directly_before L s t ≡ directly_before M s t
  unfolding directly_before
  same-directly s t i = non (eqb s t) and same-chained s t i

  same-step3 : (g : Relations) → step3 L g ≡ step3 M g
  unfolding step3
  same-step3 g i =
      record {
        conditions = g.conditions;
        responses = g.responses;
        includes = with-same g.includes _ _ same-directly i;
        excludes = with-same g.excludes _ _ (λ s t j. eqb s t and some-event-same _ _ (λ u. same-directly u t) j) i;
      }

  same-apart : (s t : ℕ) → never_together L s t ≡ never_together M s t
  unfolding never_together
  same-apart s t i = same-event s i and same-event t i and non (eqb s t) and non (same-together s t i)

  same-step4 : (g : Relations) → step4 L g ≡ step4 M g
  unfolding step4
  same-step4 g i =
      record {
        conditions = g.conditions;
        responses = g.responses;
        includes = g.includes;
        excludes = with-same g.excludes _ _ (smallest-same _ _ same-apart) i;
      }

  same-closes : (g : Relations) (t s : ℕ) → closes L g t s ≡ closes M g t s
  unfolding closes
  same-closes g t s i = same-event s i and same-event t i and same-before s t i and non (same-before t s i) and non (g.excludes s s)

  same-step5 : (g : Relations) → step5 L g ≡ step5 M g
  unfolding step5
  same-step5 g i =
      record {
        conditions = g.conditions;
        responses = g.responses;
        includes = g.includes;
        excludes = with-same g.excludes _ _ (smallest-same _ _ (same-closes g)) i;
      }

  same-step6 : (g : Relations) → step6 L g ≡ step6 M g
  unfolding step6
  same-step6 g i =
      record {
        conditions = g.conditions;
        responses = g.responses;
        includes = with-same g.includes _ _
            (λ u t. some-event-same _ _ (λ s j. non (same-followed s t j) and same-between s u t j)) i;
        excludes = with-same g.excludes _ _ (λ s t j. non (same-followed s t j)) i;
      }

  same-redundant : (g : Relations) (u s t : ℕ) → makes_redundant L g u s t ≡ makes_redundant M g u s t
  unfolding makes_redundant let_in_between
  same-redundant g u s t i =
      g.excludes u t and same-alternates u s i and non (g.includes u t)
      and non (some-event-same _ _ (λ v j. same-between u v s j and g.includes v t) i)

  same-step7 : (g : Relations) → step7 L g ≡ step7 M g
  unfolding step7
  same-step7 g i =
      record {
        conditions = g.conditions;
        responses = g.responses;
        includes = g.includes;
        excludes = g.excludes without (λ s t. some-event-same _ _ (λ u. same-redundant g u s t) i);
      }

  same-reduced : (r : Relation) → reduced L r ≡ reduced M r
  unfolding reduced
  same-reduced r i = r without (λ s t. some-event-same _ _ (λ u j. r s u and r u t) i)

  same-step8 : (g : Relations) → step8 L g ≡ step8 M g
  unfolding step8
  same-step8 g i =
      record {
        conditions = same-reduced g.conditions i;
        responses = same-reduced g.responses i;
        includes = g.includes;
        excludes = g.excludes;
      }

  same-included : (g : Relations) (past : List ℕ) (s : ℕ) → included_after L g past s ≡ included_after M g past s
  unfolding included_after
  same-included g [] s = same-event s
  same-included g (x ∷ past) s = ap (λ (b : Bool). b and non (g.excludes x s) or g.includes x s) (same-included g past s)

  same-missed : (g : Relations) (s t : ℕ) → never_missed L g s t ≡ never_missed M g s t
  unfolding never_missed
  same-missed g s t =
      (λ i. every_trace L (at_each t (λ past rest. past has s or non (same-included g past s i))))
      ∙ each-place t (λ past rest. past has s or non (included_after M g past s))

  same-step9 : (g : Relations) → step9 L g ≡ step9 M g
  unfolding step9
  same-step9 g i =
      record {
        conditions = with-same g.conditions _ _ (λ s t j. non (eqb s t) and same_first s t j and same-missed g s t j) i;
        responses = g.responses;
        includes = g.includes;
        excludes = g.excludes;
      }

  same-step10 : (g : Relations) → step10 L g ≡ step10 M g
  unfolding step10
  same-step10 g i =
      record {
        conditions = same-reduced g.conditions i;
        responses = g.responses;
        includes = g.includes;
        excludes = g.excludes;
      }

  -- ---- the relations after some of the steps, and after all

  same-five : after_five L ≡ after_five M
  unfolding after_five
  same-five i = same-step5 (same-step4 (same-step3 (same-step2 (same-step1 no_relations i) i) i) i) i

  same-six : (p : Profile) → after_six L p ≡ after_six M p
  unfolding after_six
  same-six Full = λ i. same-step6 (same-five i) i
  same-six Light = same-five

  pub same-eight : (p : Profile) → after_eight L p ≡ after_eight M p
  unfolding after_eight after_seven
  same-eight p i = same-step8 (same-step7 (same-six p i) i) i

  -- THE THEOREM
  pub same-mined : (p : Profile) → mined L p ≡ mined M p
  unfolding mined
  same-mined p i = same-step10 (same-step9 (same-eight p i) i) i

  pub same_graph : (A : ℕ) (p : Profile) → mined_graph A L p ≡ mined_graph A M p
  unfolding mined_graph
  same_graph A p i = graph_from A (those (λ a. same-event a i)) (same-mined p i)
