use borrow.Author.Rules.{rules}
use Rattle.sets.proofs.Members.{those-mem}
use Rattle.tally.proofs.LookBack.{blocks-start, blocks-here, blocks-turn, blocks-end}
use Rattle.tally.proofs.look_back.Past.pass_blocks.Goals as goal

pub loop-j-init : goal.loop-j-init
loop-j-init c = blocks-start _ _ _ _ (those-mem _ (search rules)) c.div_ceil-j.ensures

pub returns-then-not-is_passed : goal.returns-then-not-is_passed
returns-then-not-is_passed c = blocks-here c.loop-j.invariant c.loop-j-test.true _ c.min.ensures

pub loop-j-preserved : goal.loop-j-preserved
loop-j-preserved c =
    blocks-turn c.loop-j.invariant c.loop-j-test.true _ _ _ _ c.requires.places_le_longest_trace c.requires.e_lt_width c.args.self.known
    c.row-block.ensures c.is_passed.ensures c.if-not-is_passed.false c.difference-left.ensures

pub returns : goal.returns
returns c = blocks-end c.loop-j.invariant c.loop-j-test.false
