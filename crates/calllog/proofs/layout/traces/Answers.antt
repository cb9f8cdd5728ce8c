use Rattle.calllog.specs.Layout.{traces_in}
use Rattle.calllog.proofs.layout.traces.Goals as goal

pub returns : goal.returns
unfolding traces_in
returns c = c.number_at.ensures
