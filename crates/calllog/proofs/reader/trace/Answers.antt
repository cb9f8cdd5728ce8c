use mathlib.Core.Path.{ap}
use Rattle.calllog.specs.Logs.{asked_of}
use Rattle.calllog.specs.declared.trace.Asked.{Asked}
use Rattle.calllog.proofs.reader.trace.Goals as goal

pub returns : goal.returns
unfolding asked_of
returns c =
    let e = c.ask-asked.ensures in
    (ap (λ (a : Asked). a.found) e, λ i. record { log = c.args.r.now.log; next = (e i).next })
