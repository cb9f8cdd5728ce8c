-- Labels: a byte for each trace, 1 in order, 0 not (02, 9/12).
use Rattle.std.specs.Prelude.{Bool, List, ℕ, eqb, length, get_or}
use Rattle.sets.specs.Tests.{non, when◌then◌else◌}
use Rattle.sets.specs.declared.answer.Answer.{Answer}
use Rattle.sets.specs.declared.answer.Answer.TheVariants.{Done, LabelsNotAsMany, LabelAboveOne}
use Rattle.calllog.specs.Judged.{all_below}

-- byte k is 1: the label says in order, a guess says yes
abbrev pub says_yes : List ℕ → ℕ → Bool
says_yes bytes k = eqb (get_or bytes k 0) 1

-- 18 the bytes are not as many as the traces, 19 one is above 1
unfoldable pub judged_labels : ℕ → List ℕ → Answer
judged_labels traces bytes =
    when non (eqb (length bytes) traces) then LabelsNotAsMany
    else when non (all_below 2 bytes) then LabelAboveOne
    else Done
