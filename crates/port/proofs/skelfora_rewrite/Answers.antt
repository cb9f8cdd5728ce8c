use Rattle.port.proofs.Packing.{read_ok}
use Rattle.port.proofs.skelfora_rewrite.Goals as goal

pub put-requires : goal.put-requires
put-requires c = read_ok _ _ (λ k. (c.type_inv.file k).fits) c.read-r.ensures
