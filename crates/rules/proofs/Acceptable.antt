-- A graph of relations with reasons in an accepted log is acceptable by the engine's own test: it is never refused with 3, 5 or 16. So is the
-- mined graph, in both profiles. Assumes nothing.
use mathlib.Core.Path.{◌≡◌, sym, subst}
use mathlib.Core.Bool.{Bool, false}
use mathlib.Core.List.{List}
use Prim.Native.Nat.{ℕ, zero, suc, ◌<◌}
use native.Mathlib.Nat.{lt_of_lt_of_le}
use borrow.Author.Tests.{le-ltb, lt-ltb}
use lib.Dec.{T}
use Rattle.sets.specs.Tests.{non}
use Rattle.sets.specs.Members.{width, mem, those, is_empty, within}
use Rattle.sets.specs.Rows.{Relation, row_at, in_row, rows_of}
use Rattle.sets.specs.declared.answer.Answer.TheVariants.{Done}
use Rattle.sets.proofs.Tests.{and_i, or_l, or_r, non-i, non-e, T-eq, true→T, T→true, F→false, split, either}
use Rattle.sets.proofs.Members.{mem-none}
use Rattle.sets.proofs.Below.{every-i}
use Rattle.sets.proofs.Members.{those-i, those-e, within-i}
use Rattle.sets.proofs.RowLaws.{in-rows_of}
use Rattle.sets.proofs.TableLaws.{table-tables_of}
use Rattle.sets.specs.Members.{no_set}
use Rattle.engine.specs.Relations.{Relations, relation_count, kept}
use Rattle.engine.specs.Judged.{row_within, rows_within, relations_within, graph_within, judged}
use Rattle.sets.specs.Sizes.{most_activities}
use Rattle.engine.proofs.Acceptable.{state-whole, judged-at}
use Rattle.rules.specs.declared.Profile.{Profile}
use Rattle.rules.specs.Traces.{Traces}
use Rattle.rules.specs.Mining.{event, mined}
use Rattle.rules.specs.Mined.{graph_from, mined_graph}
use Rattle.rules.specs.Replays.{Accepted}
use Rattle.rules.proofs.Places.{some-trace_lem}
use Rattle.rules.proofs.Why.{Reasons, Small, reasons}

-- a refusal that is not given
pub passed : (a : Bool) → T a → non a ≡ false
passed a h = F→false _ (λ t. non-e a t h)

-- rows of a relation between activities that pass are within their set
rows-within_lem : (p : ℕ → Bool) (r : Relation) → ((a b : ℕ) → T (r a b) → T (p a) × T (p b)) → T (rows_within (those p) (rows_of r))
unfolding rows_within row_within is_empty in_row
rows-within_lem p r f =
    every-i width _ (λ a l.
    let pair : (b : ℕ) → b < width → T (mem (row_at (rows_of r) a) b) → T (r a b) = λ b k t. T-eq (in-rows_of r a b l k) t in
    and_i _ _ (within-i _ _ (λ b k t. those-i p b k (f a b (pair b k t)).1))
    (either (split (mem (those p) a)) (λ h. or_l _ _ h)
    (λ g. or_r _ _ (every-i width _ (λ b k. non-i _ (λ t. g (those-i p a l (f a b (pair b k t)).0)))))))

module _ (A : ℕ) (L : Traces) (ok : Accepted A L) where
  event-below : (a : ℕ) → T (event L a) → a < A
  unfolding event
  event-below a h = let r = some-trace_lem L _ h in ok.members r.0 r.1 a r.2

  pub small : Small L
  small a h = lt_of_lt_of_le (event-below a h) ok.activities

  module _ (g : Relations) (why : Reasons L g) where
    graph-within_lem : T (graph_within (graph_from A (those (event L)) g))
    unfolding graph_within relations_within graph_from
    graph-within_lem =
        let E = those (event L) in
        let none : T (within no_set E) = within-i no_set E (λ a l t. absurd (T-eq (mem-none a) t)) in
        and_i _ _
        (and_i _ _
        (within-i E _ (λ a l t. those-i _ a l (true→T (lt-ltb a A (event-below a (those-e (event L) a t).1)))))
        (state-whole E _ none none (within-i E E (λ a l t. t))))
        (every-i relation_count _
        (λ k l. subst (λ (rows : List ℕ). T (rows_within E rows)) (sym (table-tables_of relation_count (kept g) k l)) (of-table k)))
      where
        of-table : (k : ℕ) → T (rows_within (those (event L)) (rows_of (kept g k)))
        of-table zero = rows-within_lem (event L) _ (λ t s h. let r = (why.condition s t h).0 in (r.1, r.0))
        of-table (suc zero) = rows-within_lem (event L) _ (λ s t h. (why.response s t h).0)
        of-table (suc (suc zero)) = rows-within_lem (event L) _ why.include
        of-table (suc (suc (suc k))) = rows-within_lem (event L) _ (λ s t h. (why.exclude s t h).0)

    pub acceptable-by : judged (graph_from A (those (event L)) g) ≡ Done
    unfolding graph_from
    acceptable-by = judged-at A _ _ _ (le-ltb most_activities A ok.activities) (T→true _ graph-within_lem)

  pub mined-reasons : (p : Profile) → Reasons L (mined L p)
  mined-reasons p = reasons L small p

  pub acceptable : (p : Profile) → judged (mined_graph A L p) ≡ Done
  unfolding mined_graph
  acceptable p = acceptable-by (mined L p) (mined-reasons p)
