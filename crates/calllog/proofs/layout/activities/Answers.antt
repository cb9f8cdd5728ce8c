use Rattle.calllog.specs.Layout.{activities_in}
use Rattle.calllog.proofs.layout.activities.Goals as goal

pub returns : goal.returns
unfolding activities_in
returns c = c.byte_at.ensures
