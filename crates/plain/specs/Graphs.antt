-- A graph as the plain engine has it, its head and four lists of pairs; and when it is refused (02, 1/12: a list too long gives 3, a pair
-- outside the events 5, and 3 is tested first; 02, 6/12: a marking with a false set gives 16, straight after 5).
use Rattle.std.specs.Prelude.{Bool, List, ℕ, ltb, length}
use Rattle.sets.specs.Sizes.{most_activities, longest_trace}
use Rattle.sets.specs.Tests.{◌and◌, ◌or◌, non}
use Rattle.sets.specs.declared.set.Set.{Set}
use Rattle.sets.specs.declared.answer.Answer.{Answer}
use Rattle.engine.specs.declared.marking.Marking.{Marking}
use Rattle.engine.specs.declared.graph.Head.{Head}
use Rattle.engine.specs.Relations.{Relations}
use Rattle.engine.specs.Enabled.{is_true}
use Rattle.engine.specs.Judged.{state_within, head_within, found}
use Rattle.plain.specs.declared.graph.Graph.{Graph}
use Rattle.plain.specs.Pairs.{most_pairs, in_pairs, pairs_within}

pub record PlainGraph : Type 0 where
  pub head : Head
  pub conditions : List ℕ
  pub responses : List ℕ
  pub includes : List ℕ
  pub excludes : List ℕ

abbrev pub plain_of : Head → List ℕ → List ℕ → List ℕ → List ℕ → PlainGraph
plain_of head conditions responses includes excludes =
    record { head = head; conditions = conditions; responses = responses; includes = includes; excludes = excludes }

-- the graph whose lists a caller lends
abbrev pub plain_held : Graph → PlainGraph
plain_held g = plain_of g.head g.conditions.now g.responses.now g.includes.now g.excludes.now

-- what four lists hold: the relations that the step rules speak of
abbrev pub in_lists : List ℕ → List ℕ → List ℕ → List ℕ → Relations
in_lists conditions responses includes excludes =
    record { conditions = in_pairs conditions; responses = in_pairs responses; includes = in_pairs includes; excludes = in_pairs excludes }

abbrev pub plain_relations : PlainGraph → Relations
plain_relations g = in_lists g.conditions g.responses g.includes g.excludes

-- a list has no more pairs than it may
abbrev pub list_fits : List ℕ → Bool
list_fits pairs = non (ltb most_pairs (length pairs))

-- no list has
unfoldable pub lists_fit : List ℕ → List ℕ → List ℕ → List ℕ → Bool
lists_fit conditions responses includes excludes = list_fits conditions and list_fits responses and list_fits includes and list_fits excludes

-- the pairs of all four are within the events
unfoldable pub lists_within : Set → List ℕ → List ℕ → List ℕ → List ℕ → Bool
lists_within events conditions responses includes excludes =
    pairs_within events conditions and pairs_within events responses and pairs_within events includes and pairs_within events excludes

-- each event is below A, and the opening marking and the pairs are within the events
unfoldable pub plain_within : PlainGraph → Bool
plain_within g = head_within g.head and lists_within g.head.events g.conditions g.responses g.includes g.excludes

-- a marking is true on the graph: as on a graph on sets, by the same step rules
abbrev pub plain_true : PlainGraph → Marking → Bool
plain_true g m = is_true g.head.events (plain_relations g) m

-- A, the length of a trace beside it or a list is above its limit
unfoldable pub plain_above : PlainGraph → ℕ → Bool
plain_above g length =
    ltb most_activities g.head.activities or ltb longest_trace length
    or non (lists_fit g.conditions g.responses g.includes g.excludes)

-- 3, then 5 for the graph, then 16 for its opening marking
unfoldable pub plain_judged_for : PlainGraph → ℕ → Answer
plain_judged_for g length = found (plain_above g length) (plain_within g) (plain_true g g.head.opening)

-- the graph, with a marking beside it: both are asked for 5 before either is for 16
unfoldable pub plain_judged_with : PlainGraph → Marking → Answer
plain_judged_with g m =
    found (plain_above g 0) (plain_within g and state_within g.head.events m.state) (plain_true g g.head.opening and plain_true g m)
