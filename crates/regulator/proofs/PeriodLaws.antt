-- The order of the diagonals in a period: each has one turn there, and so each is first in one of n periods that follow one
-- another; and orders that agree turn by turn come to the same.
use Prim.Native.Nat.{ℕ, zero, suc, ◌+◌, ◌-◌, ◌%◌, ◌<◌, ◌≤◌}
use mathlib.Core.Path.{◌≡◌, refl, sym, ap, ◌∙◌}
use mathlib.Core.List.{List}
use native.Mathlib.Nat.{zero-add, add-zero, mod-lt, mod-add-mod, mod-eq_of_lt}
use native.Mathlib.Omega.{arith}
use Rattle.regulator.specs.Boost.{column_on, diagonal_in, boost_diagonals, boosted_of, boost_of}
use Rattle.regulator.specs.Period.{PeriodZero, PeriodRemainder, FairStart}
use Rattle.regulator.proofs.DiagonalLaws.{diagonal_of, diagonal_below, on_diagonal, diagonal_only}

pub in_below : (n period k : ℕ) → 1 ≤ n → diagonal_in n period k < n
unfolding diagonal_in
in_below n period k some = mod-lt _ some

-- The turn of a diagonal in a period.

unfoldable pub turn_of : ℕ → ℕ → ℕ → ℕ
turn_of n period d = diagonal_of n (period % n) d

pub turn_below : (n period d : ℕ) → 1 ≤ n → turn_of n period d < n
unfolding turn_of
turn_below n period d some = diagonal_below n (period % n) d (mod-lt period some)

pub in_turn : (n period d : ℕ) → d < n → diagonal_in n period (turn_of n period d) ≡ d
unfolding diagonal_in turn_of column_on
in_turn n period d h = sym (mod-add-mod period n (turn_of n period d)) ∙ on_diagonal n (period % n) d (mod-lt period (omega arith)) h

-- it has no other
pub turn_only : (n period k : ℕ) → k < n → turn_of n period (diagonal_in n period k) ≡ k
unfolding diagonal_in turn_of column_on
turn_only n period k h =
    ap (diagonal_of n (period % n)) (sym (mod-add-mod period n k)) ∙ diagonal_only n (period % n) k (mod-lt period (omega arith)) h

-- Who is first.

first_later : (n period k : ℕ) → diagonal_in n (period + k) 0 ≡ diagonal_in n period k
unfolding diagonal_in
first_later n period k = ap (λ (x : ℕ). x % n) (add-zero (period + k))

pub fair_start : FairStart
fair_start n p d h =
    let turn = turn_of n p d in
    record {
      period = p + turn;
      from = omega arith;
      before = omega (arith, turn_below n p d (omega arith));
      first = first_later n p turn ∙ in_turn n p d h;
      only = λ other from before e.
          let k = other - p in
          let here : other ≡ p + k = omega arith in
          let same = sym (first_later n p k) ∙ ap (λ (x : ℕ). diagonal_in n x 0) (sym here) ∙ e in
          here ∙ ap (λ (x : ℕ). p + x) (sym (turn_only n p k (omega arith)) ∙ ap (turn_of n p) same);
    }

-- Which orders come to the same.

same_order : (n t : ℕ) (order other : ℕ → ℕ) (given : List ℕ) (m : ℕ) → ((k : ℕ) → k < m → order k ≡ other k)
    → boost_diagonals n t order given m ≡ boost_diagonals n t other given m
unfolding boost_diagonals
same_order n t order other given zero same = refl
same_order n t order other given (suc m) same = rw (same m (omega arith), same_order n t order other given m (λ k h. same k (omega arith)))

pub period_zero : PeriodZero
unfolding boost_of boosted_of diagonal_in
period_zero n t given rates = rw (same_order n t (diagonal_in n 0) (λ k. k) given n (λ k h. ap (λ (x : ℕ). x % n) (zero-add k) ∙ mod-eq_of_lt h))

pub period_remainder : PeriodRemainder
unfolding boost_of boosted_of diagonal_in
period_remainder n t p given rates = rw (same_order n t (diagonal_in n p) (diagonal_in n (p % n)) given n (λ k h. sym (mod-add-mod p n k)))
