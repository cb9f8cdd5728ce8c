use mathlib.Core.Path.{◌≡◌}
use Rattle.sets.specs.Answers.{first_refusal}
use Rattle.sets.specs.declared.answer.Answer.TheVariants.{Done}
use Rattle.graphfile.specs.Refusals.{judged_entry}
use Rattle.graphfile.proofs.refusal.judge_entries.Given as goal

abbrev pub invariant-loop-r : goal.invariant-loop-r
invariant-loop-r l = (first_refusal l.r (judged_entry l.file.bytes.now) ≡ Done)
