-- MONTHS PUT TOGETHER (02, 12/12), as theorems about `fill`, `join` and `relations`, from their contracts. `TallyOf bytes A L` (promises/specs/Months)
-- says that a buffer has the tally of A and the traces L; "tallies filled from logs and their joins" are such buffers by `filled` and
-- `together`, and all else is said of these. Assumes nothing.
--
-- 1. The numbers: the log's own, then 7, then 3; 7, then 3. A refusal leaves the buffer as it was, and gives nothing beside the number.
-- 2. Joining gives the tally of the traces taken together (`together`), whichever comes first (`either_first`), however three are grouped
--    (`grouped`); with itself (`with_itself`) and with the tally of A 0 and no traces (`with_none`, `none-with`) nothing changes.
-- 3. The relations read are those of 01's steps 1 to 8, with 7/12's step 7, on all traces, however many (`read-eight`); a step absent in one
--    month counts (`absent-counts`, `no-condition-4-to-1`).
-- 4. Demand 3 of steps 1 to 8: all traces, and the empty one, replay on the graph of these relations (`combined-replay`, `combined-turns`).
-- That the miner gives the same graph for the same set of non-empty traces is in SameTraces.
use mathlib.Core.Path.{◌≡◌, refl, sym, ap, subst, ◌∙◌}
use mathlib.Core.Bool.{Bool, true, false}
use mathlib.Core.Logic.{◌⊎◌}
use mathlib.Core.List.{List, [], ◌∷◌, ◌++◌, Memᴰ}
use Prim.Native.Nat.{ℕ, max, ◌≤◌, ◌<◌}
use native.Mathlib.Omega.{arith}
use borrow.Author.Tests.{lt-ltb, le-ltb}
use lib.Dec.{T, eqb}
use lib.ListN.{length, take, drop}
use Rattle.sets.specs.Tests.{◌or◌, when◌then◌else◌}
use Rattle.sets.specs.Sizes.{longest_trace}
use Rattle.sets.specs.Members.{no_set, those}
use Rattle.sets.specs.Tables.{no_tables}
use Rattle.sets.specs.Answers.{number_of, is_done, then_ask}
use Rattle.sets.specs.declared.answer.Answer.{Answer}
use Rattle.sets.specs.declared.answer.Answer.TheVariants.{Done}
use Rattle.sets.proofs.Tests.{either}
use Rattle.sets.proofs.Asking.{done-is}
use Rattle.engine.specs.Relations.{relation_count, tables_from, relations_of}
use Rattle.engine.specs.Judged.{judged}
use Rattle.engine.specs.declared.graph.Graph.{Graph}
use Rattle.engine.specs.declared.replay.Replayed.{Replayed}
use Rattle.engine.proofs.Acceptable.{judged-for_lem}
use Rattle.calllog.specs.Judged.{judged_log}
use Rattle.calllog.specs.Logs.{log_of}
use Rattle.calllog.proofs.Given.{log-answer}
use Rattle.rules.specs.declared.Profile.{Profile}
use Rattle.rules.specs.Traces.{Traces, ◌has◌, some_trace}
use Rattle.rules.specs.Mining.{event, after_eight}
use Rattle.rules.specs.Mined.{graph_from}
use Rattle.rules.specs.Replays.{Replays}
use Rattle.rules.proofs.Why.{Reasons, reasons-eight}
use Rattle.rules.proofs.Acceptable.{small, acceptable-by}
use Rattle.rules.proofs.Demand3.{demand3-eight}
use Rattle.months.specs.Layout.{tally_width, tally_length, activities_in, set_in}
use Rattle.months.specs.Readings.{tables_in, between_in, relations_from}
use Rattle.months.specs.Months.{room, too_few, too_many, fill_answer, filled_of, join_answer, joined_of, known_answer, known_of}
use Rattle.months.specs.declared.reading.Known.{Known}
use Rattle.months.proofs.filling.fill.Reads as fill
use Rattle.months.proofs.joining.join.Reads as join
use Rattle.months.proofs.reading.relations.Reads as relations
use Rattle.promises.specs.Demanded.{Refused, PairForPair, InTurn, Settles}
use Rattle.promises.specs.Months.{TallyOf, graph_read}
use Rattle.promises.proofs.Contracts.{Gives, Leaves, Holding, Lending, ReplayGives, replay-said}
use Rattle.promises.proofs.Demands.{replay-through}
use Rattle.promises.proofs.Pairs.{pairs-by}
use Rattle.promises.proofs.Together.{of_one}
use Rattle.promises.proofs.TallyBuffers as buffers
use Rattle.promises.proofs.AbsentSteps.{absent-in-month}

-- ---- what the functions may give, by their own contracts

module _ (log before : List ℕ) where
  abbrev pub FillGives : Answer → List ℕ → Type 0
  FillGives a after = Holding log (λ l. Lending before (λ t. Leaves fill.Post (λ κ s. s.1.0.now) (λ κ. (l, (t, tt))) (λ κ. a) after))

  pub fill-said : (a : Answer) (after : List ℕ) → FillGives a after → (a ≡ fill_answer log before) × (after ≡ filled_of log before)
  fill-said a after c =
      let d = c.2.2 in (d.3.0 ∙ (λ i. fill_answer (c.1 i) (c.2.1 i)), sym d.2 ∙ d.3.1 ∙ (λ i. filled_of (c.1 i) (c.2.1 i)))

-- into the first
module _ (tally other : List ℕ) where
  abbrev pub JoinGives : Answer → List ℕ → Type 0
  JoinGives a after = Lending tally (λ t. Holding other (λ o. Leaves join.Post (λ κ s. s.0.now) (λ κ. (t, (o, tt))) (λ κ. a) after))

  pub join-said : (a : Answer) (after : List ℕ) → JoinGives a after → (a ≡ join_answer tally other) × (after ≡ joined_of tally other)
  join-said a after c =
      let d = c.2.2 in (d.3.0 ∙ (λ i. join_answer (c.1 i) (c.2.1 i)), sym d.2 ∙ d.3.1 ∙ (λ i. joined_of (c.1 i) (c.2.1 i)))

module _ (tally : List ℕ) (p : Profile) where
  abbrev pub RelationsGives : Known → Type 0
  RelationsGives r = Holding tally (λ t. Gives relations.Post (λ κ. (t, (p, tt))) (λ κ. r))

  pub relations-said : (r : Known) → RelationsGives r → r ≡ known_of tally p
  relations-said r c = c.2.2 ∙ ap (λ (t : List ℕ). known_of t p) c.1

-- 0 is the number of done alone
done-by : (a x : Answer) → a ≡ x → number_of a ≡ 0 → x ≡ Done
done-by a x e d = sym e ∙ done-is a (ap (λ (n : ℕ). eqb n 0) d)

-- ================ 1. THE NUMBERS, AND WHAT A REFUSAL LEAVES

module _ (log before : List ℕ) (a : Answer) (after : List ℕ) (c : FillGives log before a after) where
  -- the log's own refusals, then 7 for a buffer under 36,864 bytes, then 3 for the log's A above 64
  pub fill-number_lem : number_of a ≡ number_of (then_ask (judged_log log) (room (too_few before) (too_many (log_of log).activities)))
  unfolding fill_answer
  fill-number_lem =
      ap number_of ((fill-said log before a after c).0
      ∙ ap (λ (x : Answer). then_ask x (room (too_few before) (too_many (log_of log).activities))) (log-answer log))

  -- of an accepted log, where the buffer has room, A alone decides
  accepted-number : judged_log log ≡ Done → tally_length ≤ length before → number_of a ≡ number_of (room false (too_many (log_of log).activities))
  accepted-number d l =
      fill-number_lem
      ∙ ap (λ (x : Answer). number_of (then_ask x (room (too_few before) (too_many (log_of log).activities)))) d
      ∙ ap (λ (few : Bool). number_of (room few (too_many (log_of log).activities))) (le-ltb (length before) tally_length l)

  -- so it is done for every accepted log with A up to 64, and 3 for one with more
  pub fill_done : judged_log log ≡ Done → tally_length ≤ length before → (log_of log).activities ≤ tally_width → number_of a ≡ 0
  fill_done d l n = accepted-number d l ∙ ap (λ (many : Bool). number_of (room false many)) (le-ltb tally_width (log_of log).activities n)

  pub fill-above : judged_log log ≡ Done → tally_length ≤ length before → tally_width < (log_of log).activities → number_of a ≡ 3
  fill-above d l n = accepted-number d l ∙ ap (λ (many : Bool). number_of (room false many)) (lt-ltb tally_width (log_of log).activities n)

  pub fill-stays : Refused a → after ≡ before
  fill-stays r =
      let h = fill-said log before a after c in h.1 ∙ buffers.fill-refused log before (ap is_done (sym h.0) ∙ r)

module _ (t u : List ℕ) (a : Answer) (after : List ℕ) (c : JoinGives t u a after) where
  -- 7 where either has under 36,864 bytes, then 3 where either's A is above 64
  pub join-number : number_of a ≡ number_of (room (too_few t or too_few u) (too_many (activities_in t) or too_many (activities_in u)))
  unfolding join_answer
  join-number = ap number_of (join-said t u a after c).0

  pub join-stays : Refused a → after ≡ t
  join-stays r = let h = join-said t u a after c in h.1 ∙ buffers.join-refused t u (ap is_done (sym h.0) ∙ r)

module _ (t : List ℕ) (p : Profile) (r : Known) (c : RelationsGives t p r) where
  abbrev something : Known
  something =
      record {
        answer = Done;
        activities = activities_in t;
        events = set_in t 1;
        relations = relations_from (set_in t 1) (tables_in t) (between_in t) p;
      }

  abbrev nothing : Answer → Known
  nothing a = record { answer = a; activities = 0; events = no_set; relations = no_tables relation_count }

  known-answer_lem : r.answer ≡ known_answer t
  unfolding known_of
  known-answer_lem = ap (λ (x : Known). x.answer) (relations-said t p r c) ∙ by (is_done (known_answer t)) refl
    where
      by : (d : Bool) → is_done (known_answer t) ≡ d → (when d then something else nothing (known_answer t)).answer ≡ known_answer t
      by true e = sym (done-is (known_answer t) e)
      by false e = refl

  -- 7, then 3
  pub relations-number_lem : number_of r.answer ≡ number_of (room (too_few t) (too_many (activities_in t)))
  unfolding known_answer
  relations-number_lem = ap number_of known-answer_lem

  pub relations-nothing : Refused r.answer → (r.activities ≡ 0) × (r.events ≡ no_set) × (r.relations ≡ no_tables relation_count)
  unfolding known_of
  relations-nothing n =
      let e = relations-said t p r c ∙ ap (λ (d : Bool). when d then something else nothing (known_answer t)) (ap is_done (sym known-answer_lem) ∙ n) in
      (ap (λ (x : Known). x.activities) e, ap (λ (x : Known). x.events) e, ap (λ (x : Known). x.relations) e)

-- ================ 2. TALLIES

-- a log's tally
module _ (log before : List ℕ) (a : Answer) (after : List ℕ) (c : FillGives log before a after) (d : number_of a ≡ 0) where
  pub filled : TallyOf after (log_of log).activities (log_of log).traces
  filled =
      let h = fill-said log before a after c in
      subst (λ (x : List ℕ). TallyOf x (log_of log).activities (log_of log).traces) (sym h.1) (buffers.fill-tally log before (done-by a _ h.0 d))

  -- the bytes after it stay
  pub filled-rest : drop tally_length after ≡ drop tally_length before
  filled-rest = let h = fill-said log before a after c in ap (drop tally_length) h.1 ∙ buffers.fill-rest log before (done-by a _ h.0 d)

-- the join of two tallies is done, and is the tally of the larger A and of the traces taken together; the bytes after it stay
module _ (t u : List ℕ) (A B : ℕ) (L M : Traces) (h : TallyOf t A L) (k : TallyOf u B M) (a : Answer) (x : List ℕ) (c : JoinGives t u a x) where
  pub joins : number_of a ≡ 0
  joins = ap number_of ((join-said t u a x c).0 ∙ buffers.join-done h k)

  pub together : TallyOf x (max A B) (L ++ M)
  together = subst (λ (y : List ℕ). TallyOf y (max A B) (L ++ M)) (sym (join-said t u a x c).1) (buffers.join-together h k)

  pub together-rest : drop tally_length x ≡ drop tally_length t
  together-rest = ap (drop tally_length) (join-said t u a x c).1 ∙ buffers.join-rest t u (buffers.join-done h k)

-- which comes first does not matter, of any bytes that are joined
pub either_first : (t u : List ℕ) (a b : Answer) (x y : List ℕ) → JoinGives t u a x → JoinGives u t b y → number_of a ≡ 0
    → take tally_length x ≡ take tally_length y
either_first t u a b x y c d n =
    let h = join-said t u a x c in
    ap (take tally_length) h.1 ∙ buffers.order t u (done-by a _ h.0 n) ∙ ap (take tally_length) (sym (join-said u t b y d).1)

-- nor how three are grouped: (t, u), v and t, (u, v)
pub grouped : (t u v : List ℕ) (a b c d : Answer) (tu uv x y : List ℕ)
    → JoinGives t u a tu → JoinGives tu v b x → JoinGives u v c uv → JoinGives t uv d y
    → number_of a ≡ 0 → number_of b ≡ 0 → number_of c ≡ 0 → number_of d ≡ 0 → x ≡ y
grouped t u v a b c d tu uv x y ctu cx cuv cy na nb nc nd =
    let h = join-said t u a tu ctu in
    let k = join-said u v c uv cuv in
    let front = join-said tu v b x cx in
    let back = join-said t uv d y cy in
    front.1
    ∙ ap (λ (l : List ℕ). joined_of l v) h.1
    ∙ buffers.grouping t u v (done-by a _ h.0 na) (done-by c _ k.0 nc)
    (done-by b _ (front.0 ∙ ap (λ (l : List ℕ). join_answer l v) h.1) nb)
    (done-by d _ (back.0 ∙ ap (join_answer t) k.1) nd)
    ∙ ap (joined_of t) (sym k.1)
    ∙ sym back.1

-- a tally joined with itself is unchanged, whatever its bytes
pub with_itself : (t u : List ℕ) (a : Answer) (x : List ℕ) → take tally_length u ≡ take tally_length t → JoinGives t u a x → x ≡ t
with_itself t u a x e c = (join-said t u a x c).1 ∙ buffers.itself t u e

-- the tally of A 0 and no traces changes nothing, from either side
module _ (t u : List ℕ) (A : ℕ) (L : Traces) (a : Answer) (x : List ℕ) (c : JoinGives t u a x) where
  pub with_none : TallyOf t A L → TallyOf u 0 [] → x ≡ t
  with_none h k = (join-said t u a x c).1 ∙ buffers.join-none h k

  pub none-with : TallyOf t 0 [] → TallyOf u A L → take tally_length x ≡ take tally_length u
  none-with h k = ap (take tally_length) (join-said t u a x c).1 ∙ buffers.none-joined h k

-- ================ 3. THE RELATIONS, 4. DEMAND 3

module _ (t : List ℕ) (A : ℕ) (L : Traces) (h : TallyOf t A L) (p : Profile) (r : Known) (c : RelationsGives t p r) where
  the_known : r ≡ record { answer = Done; activities = A; events = those (event L); relations = tables_from (after_eight L p) }
  the_known = relations-said t p r c ∙ buffers.known-eight h p

  the-graph : graph_read r ≡ graph_from A (those (event L)) (after_eight L p)
  unfolding graph_from
  the-graph = ap graph_read the_known

  why : Reasons L (after_eight L p)
  why = reasons-eight L (small A L h.limits) p

  -- done; and A, the events and each pair are those of steps 1 to 8 in the profile, whatever the two numbers
  pub reads : number_of r.answer ≡ 0
  reads = ap (λ (x : Known). number_of x.answer) the_known

  pub read-eight : PairForPair A L (after_eight L p) (graph_read r)
  read-eight = subst (PairForPair A L (after_eight L p)) (sym the-graph) (pairs-by A L h.limits (after_eight L p) why)

  -- an s absent in some month with a t is no condition of t in the year
  pub absent-counts : (month : Traces) → ((σ : List ℕ) → Memᴰ σ month → Memᴰ σ L) → (s t : ℕ)
      → T (event month t) → (T (event month s) → ⊥) → (relations_of (graph_read r)).conditions s t ≡ false
  absent-counts month among s t e n = read-eight.conditions s t ∙ absent-in-month L s t p month among e n

  -- every combined trace, and the empty one, replays on the graph of these relations
  module _ (σ : List ℕ) (m : Memᴰ σ L ⊎ (σ ≡ [])) (x : Replayed) (cx : ReplayGives (graph_read r) σ x) where
    pub combined-replay : Settles (length σ) x
    combined-replay =
        let d : Replays (graph_read r) σ = subst (λ (g : Graph). Replays g σ) (sym the-graph) (demand3-eight A L p h.limits σ m) in
        let e = replay-said (graph_read r) σ x cx in
        record {
          done = ap (λ (y : Replayed). number_of y.answer) e ∙ ap number_of d.done;
          whole = ap (λ (y : Replayed). y.place.0) e ∙ d.whole;
          settled = ap (λ (y : Replayed). y.marking.state.pending) e ∙ d.settled;
          accepted = ap (λ (y : Replayed). y.accepting) e ∙ d.accepted;
        }

    short : length σ ≤ longest_trace
    short = either m (h.limits.lengths σ) (λ e. subst (λ (τ : List ℕ). length τ ≤ longest_trace) (sym e) (omega arith))

    -- each event enabled in its turn
    pub combined-turns : InTurn (graph_read r).head.events (relations_of (graph_read r)) (graph_read r).head.opening.state σ
    combined-turns =
        let ok : judged (graph_read r) ≡ Done = ap judged the-graph ∙ acceptable-by A L h.limits (after_eight L p) why in
        (replay-through (graph_read r) σ (ap number_of (judged-for_lem (graph_read r) ok (length σ) short)) x cx combined-replay.done).in-turn

-- ⟨1⟩ with A 2, joined with ⟨4,1⟩ with A 5, gives no condition from 4 to 1
abbrev one : Traces
one = (1 ∷ []) ∷ []

abbrev four-one : Traces
four-one = (4 ∷ 1 ∷ []) ∷ []

pub no-condition-4-to-1 : (t u x : List ℕ) (a : Answer) (p : Profile) (r : Known) → TallyOf t 2 one → TallyOf u 5 four-one
    → JoinGives t u a x → RelationsGives x p r → (relations_of (graph_read r)).conditions 4 1 ≡ false
unfolding event some_trace ◌has◌ ◌or◌
no-condition-4-to-1 t u x a p r h k cx cr =
    absent-counts x 5 (one ++ four-one) (together t u 2 5 one four-one h k a x cx) p r cr one (λ σ m. of_one one four-one m) 4 1 tt (λ n. n)
