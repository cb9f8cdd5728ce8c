use mathlib.Core.Path.{◌≡◌, ◌∙◌}
use native.Mathlib.Omega.{arith}
use lib.ListN.{length}
use Rattle.sets.specs.declared.answer.Answer.TheVariants.{Done}
use Rattle.engine.specs.Replay.{ending}
use Rattle.engine.proofs.Running.{run-next, run-stop, run_end}
use Rattle.plain.proofs.Stepping.{marked-alone}
use borrow.Author.Rules.{rules}
use Rattle.plain.proofs.replay.run.Goals as goal

pub returns-then-not-is_done : goal.returns-then-not-is_done
returns-then-not-is_done c = let test = c in let done = test in let asked = done in let turn = asked
    in run-stop _ _ _ _ _ _ _ _ turn.loop-i-test.true asked.ask-answer.ensures done.is_done.ensures
    _ (marked-alone _ _ _ _ _ _ _ c.marked.ensures) test.if-not-is_done.true turn.loop-i.invariant.1

pub loop-i-preserved : goal.loop-i-preserved
loop-i-preserved c = let test = c in let done = test in let asked = done in let turn = asked
    in (
      search rules,
      run-next _ _ _ _ _ _ _ _ turn.loop-i-test.true asked.ask-answer.ensures
          done.is_done.ensures _ test.if-not-is_done.false c.next-s.ensures turn.loop-i.invariant.1,
      turn.loop-i.invariant.2,
    )

pub returns : goal.returns
returns c =
    let all : length c.args.trace.now ≡ c.loop-i.i = omega arith in
    (λ j. ending Done (all j) c.marked-2.result c.is_accepting.result) ∙ search (run_end, marked-alone, rules)
