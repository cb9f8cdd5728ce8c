use Rattle.miner.proofs.After.{last-known}
use Rattle.months.proofs.pairs.note_trace.Goals as goal

pub note_along-requires : goal.note_along-requires
note_along-requires c = last-known _ _ c.last_places.ensures.places
