use Prim.Native.Nat.{◌+◌, ◌-◌, ◌*◌, ◌/◌}
use native.Mathlib.Omega.{arith}
use Rattle.multiplexer.proofs.TableLaws.{half_product, Found, found}
use Rattle.multiplexer.proofs.deadlines.read_deadline.Goals as goal

pub returns : goal.returns
returns c =
    let a = c.args in
    let found_there : Found a.table.now (a.rate * (a.rate - 1) / 2 + (a.service - 1)) a.rate a.service =
    found c.requires.0 a.rate a.service _ c.requires.3 c.requires.1 c.requires.2 (omega (arith, half_product a.rate)) in
    rw (c.from-a.ensures, c.from.ensures) found_there.is
