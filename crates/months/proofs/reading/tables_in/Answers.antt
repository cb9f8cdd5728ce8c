use mathlib.Core.Path.{ap, ◌∙◌}
use borrow.Author.Rules.{rules}
use lib.ListN.{length}
use Rattle.sets.proofs.TableLaws.{length-tables_of}
use Rattle.tally.specs.Tallies.{table_count}
use Rattle.months.proofs.FromTally.{tables_start, tables-turn, tables_end}
use Rattle.months.proofs.reading.tables_in.Goals as goal

pub loop-k-init : goal.loop-k-init
loop-k-init c = let at = tables_start _ _ c.empty-out.ensures in (search rules, ap length at ∙ length-tables_of table_count _, at)

pub loop-k-preserved : goal.loop-k-preserved
loop-k-preserved c = let next = tables-turn _ _ _ _ _ c.rows_in-rows.ensures c.loop-k.invariant.2 c.put_rows.ensures in
    (search rules, ap length next ∙ length-tables_of table_count _, next)

pub returns : goal.returns
returns c = tables_end _ _ _ c.loop-k-test.false c.loop-k.invariant.2
