-- What the test of the store's length says.
use Prim.Native.Nat.{ℕ, ◌*◌}
use mathlib.Core.Path.{◌≡◌}
use mathlib.Core.Bool.{true}
use borrow.Author.Tests.{eqb-true, eq-eqb}
use Rattle.crossbar.specs.State.{store_fits}

pub store_length : (n depth len : ℕ) → store_fits n depth len ≡ true → len ≡ n * n * depth
unfolding store_fits
store_length n depth len e = eqb-true len (n * n * depth) e

pub store_fits_lem : (n depth len : ℕ) → len ≡ n * n * depth → store_fits n depth len ≡ true
unfolding store_fits
store_fits_lem n depth len e = eq-eqb len (n * n * depth) e
