-- `capi::unfinished` meets its contract: an accepted answer without values, with another number.
use mathlib.Core.Path.{ap}
use Rattle.capi.specs.declared.told.Told.{Told}
use Rattle.capi.proofs.told.unfinished.Goals as goal

pub returns : goal.returns
returns c =
    ap
    (λ (t : Told). record { number = 256; place = t.place; index = t.index; first = t.first; second = t.second; third = t.third })
    c.accepted.ensures
