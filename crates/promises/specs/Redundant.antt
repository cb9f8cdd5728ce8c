-- 02, 7/12: when "s excludes t" is redundant. "The pair goes only if, besides what 01 says, u doesn't include t and no v that includes t stands
-- between a u and a later s in any trace. The includes are those that stand when step 7 begins."
use Rattle.std.specs.Prelude.{ℕ, T}
use Rattle.engine.specs.Relations.{Relations}
use Rattle.rules.specs.Traces.{Traces}
use Rattle.rules.specs.Mining.{event, between, alternates}

-- u makes the pair redundant, in the relations g that step 7 begins with
pub record Redundant (L : Traces) (g : Relations) (u s t : ℕ) : Type 0 where
  pub an-event : T (event L u)
  pub excludes-it : T (g.excludes u t)
  pub ahead : T (alternates L u s)
  pub not-including : T (g.includes u t) → ⊥
  pub not-let-in : (v : ℕ) → T (g.includes v t) → T (between L u v s) → ⊥
