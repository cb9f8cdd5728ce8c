use Rattle.sets.specs.declared.answer.Answer.TheVariants.{Done}
use Rattle.calllog.specs.Layout.{traces_in, events_before}
use Rattle.sets.specs.Sizes.{most_events}
use Rattle.sets.specs.Answers.{first_refusal}
use Rattle.calllog.specs.Judged.{entry_of}
use Prim.Native.Nat.{◌≤◌}
use mathlib.Core.Path.{◌≡◌}
use Rattle.calllog.proofs.judge.judge_contents.Given as goal

abbrev pub invariant-loop-k : goal.invariant-loop-k
invariant-loop-k l = (l.k-end ≡ traces_in l.bytes) × (l.events ≡ events_before l.bytes l.k) × (l.events ≤ most_events) × (first_refusal l.k (entry_of l.bytes) ≡ Done)
