use mathlib.Core.Path.{◌∙◌}
use Rattle.tally.proofs.LookBack.{blocks-none}
use Rattle.tally.proofs.look_back.Blocks.empty.Goals as goal

pub returns : goal.returns
returns c = c.empty.ensures ∙ blocks-none
