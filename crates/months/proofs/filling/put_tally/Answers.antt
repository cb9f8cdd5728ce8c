use Rattle.months.proofs.Holding.{tally-filled}
use Rattle.months.proofs.filling.put_tally.Goals as goal

pub returns : goal.returns
returns c = let got = c.note_traces_in-events.ensures in
    tally-filled _ _ _ _ _ _ _ _ c.empty-tables.ensures got.value got.tally_after c.put_initial.ensures c.note_log.ensures
