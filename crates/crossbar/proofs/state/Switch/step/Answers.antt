use mathlib.Core.Path.{sym, ◌∙◌}
use Rattle.crossbar.proofs.ValidLaws.{valid}
use Rattle.crossbar.proofs.OwnedLaws.{owned_sized}
use Rattle.crossbar.proofs.IdleLaws.{idles_only}
use Rattle.crossbar.proofs.state.Switch.step.Goals as goal

pub fits_if_valid-fits-requires : goal.fits_if_valid-fits-requires
fits_if_valid-fits-requires c = λ e. let v = valid _ (sym c.is_valid-valid.ensures ∙ e) in (v.running.few_ports, v.few_places)

pub returns : goal.returns
returns c =
    let is = c.slot.ensures in
    record { defined = is; idles = idles_only c.args.self c.args.store.now _ (owned_sized _ _ c.well_formed.0) is }
