-- 01, "A step", by set rules.
use Rattle.std.specs.Prelude.{Bool, ℕ, eqb}
use Rattle.sets.specs.Tests.{◌and◌, ◌or◌, non, when◌then◌else◌}
use Rattle.sets.specs.Members.{width, mem, those, some_below, least_below}
use Rattle.sets.specs.declared.activity.Activity.{Activity}
use Rattle.sets.specs.declared.set.Set.{Set}
use Rattle.sets.specs.declared.answer.Answer.{Answer}
use Rattle.sets.specs.declared.answer.Answer.TheVariants.{Done, NoEvent, NotIncluded, Waiting}
use Rattle.engine.specs.declared.marking.State.{State}
use Rattle.engine.specs.Markings.{state_of}
use Rattle.engine.specs.Relations.{Relations}

-- s is a condition source of e, included and not executed
abbrev pub blocking : Relations → State → ℕ → ℕ → Bool
blocking r m e s = r.conditions s e and mem m.included s and non (mem m.executed s)

-- some condition source of e is included and not executed
unfoldable pub waits : Relations → State → ℕ → Bool
waits r m e = some_below width (blocking r m e)

-- the smallest that is (02, 2/12: "the smallest activity number that is a condition source, included and not executed")
unfoldable pub blocker : Relations → State → ℕ → Activity
blocker r m e = record { 0 = least_below width (blocking r m e) }

-- rules 8, 9, 10 in that order; 10 carries the blocker
unfoldable pub enabled : Set → Relations → State → ℕ → Answer
enabled events r m e =
    when non (mem events e) then NoEvent
    else when non (mem m.included e) then NotIncluded
    else when waits r m e then Waiting (blocker r m e)
    else Done

-- executed gains e; pending loses e, then gains e's responses; included loses e's excludes, then gains e's includes
unfoldable pub after : Relations → State → ℕ → State
after r m e =
    state_of
    (those (λ a. mem m.executed a or eqb a e))
    (those (λ a. mem m.pending a and non (eqb a e) or r.responses e a))
    (those (λ a. mem m.included a and non (r.excludes e a) or r.includes e a))

-- no step is both pending and included
unfoldable pub accepting : State → Bool
accepting m = non (some_below width (λ a. mem m.pending a and mem m.included a))
