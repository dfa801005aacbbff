use Rattle.std.proofs.lemmas.List.{length-take-le}
use mathlib.Core.Path.{◌≡◌}
use native.Mathlib.Omega.{arith}
use Rattle.meter.proofs.CoverLaws.{cover_first}
use Rattle.meter.proofs.first_services.Goals as goal

pub returns : goal.returns
returns c =
    let a = c.args in
    let end : c.loop-entry.entry-index ≡ a.l = omega (arith, length-take-le a.l a.recorded.now c.requires) in
    cc (cover_first a.recorded.now a.flow a.l)
