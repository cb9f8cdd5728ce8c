-- What lies below 64 of a set, a state and what a step gains (02, 10/12). The loop of a replay that goes on one word is said by them, and so is
-- `walk_in`; that it changes nothing where all lies there is a theorem (`few-graph`), so a reader of `walk`, `enabled_set` or `port` need not believe them.
use Rattle.std.specs.Prelude.{Bool, ltb}
use Rattle.sets.specs.Tests.{◌and◌, ◌or◌, non, when◌then◌else◌}
use Rattle.sets.specs.Members.{width, word, mem, those, some_below, every_below}
use Rattle.sets.specs.declared.set.Set.{Set}
use Rattle.engine.specs.Markings.{state_of}
use Rattle.engine.specs.Relations.{Relations}
use Rattle.engine.specs.declared.marking.State.{State}

abbrev pub few_of : Set → Set
few_of s = those (λ a. mem s a and ltb a word)

abbrev pub few_in : State → State
few_in s = state_of (few_of s.executed) (few_of s.pending) (few_of s.included)

-- what the first 64 activities add to pending and included lies there
unfoldable pub gains_few : Relations → Bool
gains_few r = every_below width (λ a. non (some_below word (λ e. r.responses e a or r.includes e a)) or ltb a word)

-- the relations with what does of it alone
abbrev pub few_gains : Relations → Relations
few_gains r =
    record {
      conditions = r.conditions;
      responses = λ e a. r.responses e a and ltb a word;
      includes = λ e a. r.includes e a and ltb a word;
      excludes = r.excludes;
    }

-- ---- in a form: the wide one holds all, the narrow one what lies there

abbrev pub gains_for : Bool → Relations → Relations
gains_for wide r = when wide then r else few_gains r

abbrev pub state_for : Bool → State → State
state_for wide s = when wide then s else few_in s
