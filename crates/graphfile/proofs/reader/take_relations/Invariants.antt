use mathlib.Core.Path.{◌≡◌}
use Rattle.sets.specs.Answers.{first_refusal}
use Rattle.sets.specs.declared.answer.Answer.TheVariants.{Done}
use Rattle.graphfile.specs.Refusals.{judged_relation}
use Rattle.graphfile.specs.Held.{with_relations}
use Rattle.graphfile.proofs.reader.take_relations.Given as goal

abbrev pub invariant-loop-r : goal.invariant-loop-r
invariant-loop-r l = (first_refusal l.r (judged_relation l.file.bytes.now) ≡ Done) × (l.held ≡ with_relations l.file.bytes.now l.initial.held l.r)
