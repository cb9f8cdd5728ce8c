use mathlib.Core.Path.{refl}
use Rattle.months.proofs.FromTally.{eight_is}
use Rattle.months.proofs.reading.Reading.after_eight.Goals as goal

pub returns : goal.returns
returns c = let a = c.args.self.now in
    eight_is _ a.tally.now a.tables.now c.args.profile _ _ _ _ _ _ _ _ _ refl c.conditions_eight-conditions.ensures c.put_rows.ensures
    c.responses_eight-responses.ensures c.put_rows-2.ensures c.includes_six-includes.ensures c.put_rows-3.ensures
    c.excludes_seven-excludes.ensures c.put_rows-4.ensures
