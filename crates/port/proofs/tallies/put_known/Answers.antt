use mathlib.Core.Path.{refl}
use Rattle.port.proofs.Tallied.{known-put}
use Rattle.port.proofs.tallies.put_known.Goals as goal

pub returns : goal.returns
returns c = known-put c.args.known c.args.out.now _ _ _ c.requires refl c.put_set.ensures c.put_rows.ensures
