-- The decimal digits of a number: how many there are, and that those which the library writes are those of the definition.
use Prim.Native.Nat.{ℕ, zero, suc, ◌+◌, ◌/◌, ◌%◌, ◌^◌, ◌<◌, ◌≤◌}
use mathlib.Core.Bool.{Bool, true, false, cond}
use mathlib.Core.List.{List, [], ◌∷◌, ◌++◌}
use mathlib.Core.Path.{◌≡◌, sym, subst}
use native.Mathlib.Omega.{arith}
use lib.ListN.{length, length-append}
use Rattle.std.specs.Prelude.{ltb}
use Rattle.std.proofs.Common.{rules}
use Rattle.std.specs.Fmt.{decimal}
use Rattle.std.proofs.lemmas.Fmt.{decimal_from_appends, length-decimal-le}
use Rattle.console.specs.Text.{digits_of, decimal_of}

pub digits_within : (most n : ℕ) → length (digits_of most n) ≤ most
unfolding digits_of
digits_within zero n = omega arith
digits_within (suc most) n = go (digits_within most (n / 10)) (ltb n 10)
  where
    go : length (digits_of most (n / 10)) ≤ most → (b : Bool) → length (cond b ((48 + n) ∷ []) (digits_of most (n / 10) ++ ((48 + n % 10) ∷ []))) ≤ suc most
    go front true = omega arith
    go front false = omega (arith, length-append (digits_of most (n / 10)) ((48 + n % 10) ∷ []))

pub decimal_is : (n : ℕ) → n < 2 ^ 64 → decimal n ≡ decimal_of n
unfolding digits_of
decimal_is n h = sym (decimal_from_appends digits_of (search rules) 20 n h (length-decimal-le 20 n (omega arith) (omega arith) h))

-- a number below 10 ^ k has at most k
pub decimal_short : (k n : ℕ) → 0 < k → n < 10 ^ k → n < 2 ^ 64 → length (decimal_of n) ≤ k
decimal_short k n some low h = subst (λ (l : List ℕ). length l ≤ k) (decimal_is n h) (length-decimal-le k n some low h)
