use mathlib.Core.Path.{refl}
use mathlib.Core.List.{[], ◌∷◌}
use native.Mathlib.Omega.{arith}
use lib.ListN.{length-append}
use Rattle.report.specs.Lines.{figures}
use Rattle.report.proofs.PutLaws.{put-long, put_then}
use Rattle.report.proofs.text.Page.number.Goals as goal

pub byte-requires : goal.byte-requires
byte-requires c =
    let put = c.put_figures-self.ensures in
    let place = put.place in
    omega (arith, put-long put, length-append (figures 5 c.args.n) (c.args.end ∷ []))

pub returns : goal.returns
returns c = put_then (record { same = refl; put = c.put_figures-self.ensures }) c.byte.ensures
