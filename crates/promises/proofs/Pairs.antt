-- Demand 2, the graph of relations with reasons in a log: pair for pair what the rules give, for all numbers. So it is of the mined graph in
-- its profile. Assumes nothing.
use mathlib.Core.Path.{◌≡◌, refl, sym, ap, ◌∙◌}
use mathlib.Core.List.{List}
use Prim.Native.Nat.{ℕ, zero, suc, ◌<◌}
use borrow.Author.Tests.{ltb-true, ltb-false}
use lib.Dec.{T, ltb, lit≤}
use Rattle.sets.specs.Members.{width, mem, those}
use Rattle.sets.specs.Rows.{Relation, row_at, in_row, rows_of}
use Rattle.sets.specs.Tables.{table_at}
use Rattle.sets.specs.declared.set.Set.{Set}
use Rattle.sets.proofs.Tests.{T-eq, T-ext, T→true, F→false, split, either}
use Rattle.sets.proofs.Members.{mem-none}
use Rattle.sets.proofs.Members.{those-e, those-i}
use Rattle.sets.proofs.RowLaws.{row-rows_of, row_out, in-rows_of}
use Rattle.sets.proofs.TableLaws.{table-tables_of}
use Rattle.engine.specs.Relations.{Relations, relation_count, kept, tables_from}
use Rattle.rules.specs.declared.Profile.{Profile}
use Rattle.rules.specs.Traces.{Traces}
use Rattle.rules.specs.Mining.{event, mined}
use Rattle.rules.specs.Mined.{graph_from, mined_graph}
use Rattle.rules.specs.Replays.{Accepted}
use Rattle.rules.proofs.Why.{Reasons}
use Rattle.rules.proofs.Acceptable.{small, mined-reasons}
use Rattle.promises.specs.Demanded.{PairForPair}

-- what stands in the rows of a relation is below the width
in-below : (r : Relation) (a b : ℕ) → T (in_row (rows_of r) a b) → (a < width) × (b < width)
unfolding in_row
in-below r a b t =
    either (split (ltb a width))
    (λ h.
    let l : a < width = ltb-true a width (T→true _ h) in
    let row : row_at (rows_of r) a ≡ those (r a) = row-rows_of r a l in
    (l, (those-e (r a) b (T-eq (ap (λ (s : Set). mem s b) row) t)).0))
    (λ h. absurd (T-eq (ap (λ (s : Set). mem s b) (sym (row_out (rows_of r) a (ltb-false a width (F→false _ h)))) ∙ mem-none b) t))

-- so the rows of a relation that holds of activities below the width alone are that relation, for all numbers
whole : (r : Relation) → ((a b : ℕ) → T (r a b) → (a < width) × (b < width)) → (a b : ℕ) → in_row (rows_of r) a b ≡ r a b
whole r low a b =
    T-ext _ _
    (λ t. let l = in-below r a b t in T-eq (in-rows_of r a b l.0 l.1) t)
    (λ t. let l = low a b t in T-eq (sym (in-rows_of r a b l.0 l.1)) t)

-- relations with reasons in an accepted log
module _ (A : ℕ) (L : Traces) (ok : Accepted A L) (g : Relations) (why : Reasons L g) where
  both-low : {s t : ℕ} → T (event L s) × T (event L t) → (s < width) × (t < width)
  both-low {s} {t} e = (small A L ok s e.0, small A L ok t e.1)

  -- each table holds activities below the width alone
  low : (k a b : ℕ) → T (kept g k a b) → (a < width) × (b < width)
  low zero a b h = let l = both-low (why.condition b a h).0 in (l.1, l.0)
  low (suc zero) a b h = both-low (why.response a b h).0
  low (suc (suc zero)) a b h = both-low (why.include a b h)
  low (suc (suc (suc k))) a b h = both-low (why.exclude a b h).0

  table : (k : ℕ) → k < relation_count → (a b : ℕ) → in_row (table_at (tables_from g) k) a b ≡ kept g k a b
  table k l a b =
      ap (λ (rows : List ℕ). in_row rows a b) (table-tables_of relation_count (kept g) k l) ∙ whole (kept g k) (low k) a b

  pub pairs-by : PairForPair A L g (graph_from A (those (event L)) g)
  unfolding graph_from
  pairs-by =
      record {
        activities = refl;
        events = λ a. T-ext _ _ (λ h. (those-e (event L) a h).1) (λ h. those-i (event L) a (small A L ok a h) h);
        opening = refl;
        conditions = λ s t. table 0 (lit≤ tt) t s;
        responses = table 1 (lit≤ tt);
        includes = table 2 (lit≤ tt);
        excludes = table 3 (lit≤ tt);
      }

-- the mined ones have them
pub pairs : (A : ℕ) (L : Traces) → Accepted A L → (p : Profile) → PairForPair A L (mined L p) (mined_graph A L p)
unfolding mined_graph
pairs A L ok p = pairs-by A L ok (mined L p) (mined-reasons A L ok p)
