-- The library's quotient rounded up, `div_ceil`, by a sum and a quotient.
use Prim.Native.Nat.{ℕ, suc, ◌+◌, ◌-◌, ◌/◌, ◌<◌, ◌≤◌}
use mathlib.Core.Path.{◌≡◌}
use native.Mathlib.Nat.{div-lt_iff_lt-mul, le-div_iff_mul-le}
use native.Mathlib.Omega.{arith}
use Rattle.std.specs.Int.{div_ceil}
use Rattle.std.proofs.lemmas.Grind.{div_ceil_times}

pub ceil_is : (x a : ℕ) → 0 < a → div_ceil x a ≡ (x + (a - 1)) / a
ceil_is x a some =
    let q : ℕ = div_ceil x a in
    let bounds = div_ceil_times x a some in
    let least : q ≤ (x + (a - 1)) / a = (le-div_iff_mul-le {k = a} {x = q} {y = x + (a - 1)} some).1 (omega (arith, bounds.1)) in
    let most : (x + (a - 1)) / a < suc q = (div-lt_iff_lt-mul {k = a} {x = x + (a - 1)} {y = suc q} some).1 (omega (arith, bounds.0)) in
    omega arith
