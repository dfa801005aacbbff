-- Boost as a whole: each flow is on a diagonal that is gone through, in whatever turn, and from then on has its row or
-- its column full; rows and columns come to the same total, so in the end all of them are full.
use Prim.Native.Nat.{ℕ, zero, suc, ◌+◌, ◌<◌, ◌≤◌}
use mathlib.Core.Path.{◌≡◌, sym}
use mathlib.Core.List.{List}
use mathlib.Core.Logic.{inl, inr, ⊎_elim}
use native.Mathlib.Omega.{arith}
use native.Mathlib.Numerals.{add-one}
use Rattle.plan.specs.Lines.{row_sum, column_sum}
use Rattle.plan.specs.Accept.{IsPlan}
use Rattle.plan.proofs.BelowLaws.{below_or_last}
use Rattle.plan.proofs.AcceptLaws.{accepted, accepts}
use Rattle.regulator.specs.Boost.{column_on, boost_diagonal, diagonal_in, boost_diagonals, boosted_of, boost_of, BoostedPlan}
use Rattle.regulator.proofs.SumLaws.{pairs_full}
use Rattle.regulator.proofs.FlowLaws.{same_total}
use Rattle.regulator.proofs.DiagonalLaws.{column_below, diagonal_of, diagonal_below, on_diagonal}
use Rattle.regulator.proofs.PlaceLaws.{Rises, rises_same, rises_then, Full, full_stays, place_rises, place_full}
use Rattle.regulator.proofs.PeriodLaws.{turn_of, turn_below, in_turn}
use Rattle.regulator.proofs.VerdictLaws.{boost_done}

-- One diagonal.

module _ (n t k : ℕ) (l : List ℕ) (p : IsPlan n t l) where
  abbrev up_to : ℕ → List ℕ
  up_to m = boost_diagonal n t k l m

  pub diagonal_rises : (m : ℕ) → m ≤ n → Rises n t l (boost_diagonal n t k l m)
  unfolding boost_diagonal
  diagonal_rises zero h = rises_same n t l p
  diagonal_rises (suc i) h =
      let before = diagonal_rises i (omega arith) in
      rises_then n t l (up_to i) _ before (place_rises n t (up_to i) i (column_on n k i) before.plan (omega arith) (column_below n k i p.some_port))

  diagonal_full : (m i : ℕ) → m ≤ n → i < m → Full n t (boost_diagonal n t k l m) i (column_on n k i)
  unfolding boost_diagonal
  diagonal_full zero i h b = absurd (omega arith)
  diagonal_full (suc m) i h b =
      let before = (diagonal_rises m (omega arith)).plan in
      let column = column_below n k m p.some_port in
      ⊎_elim
      (λ (e : i < m).
      full_stays n t (up_to m) _ i (column_on n k i) (place_rises n t (up_to m) m (column_on n k m) before (omega arith) column)
      (omega arith) (column_below n k i p.some_port) (diagonal_full m i (omega arith) e))
      (λ (e : i ≡ m). rw e (place_full n t (up_to m) m (column_on n k m) before (omega arith) column))
      (below_or_last i m b)

-- All diagonals, in any order.

-- one turn of the code's loop over them
pub diagonal_turn : (n t : ℕ) (order : ℕ → ℕ) (k d : ℕ) (given l m : List ℕ) → IsPlan n t l → l ≡ boost_diagonals n t order given k → d ≡ order k
    → m ≡ boost_diagonal n t d l n → IsPlan n t m × (m ≡ boost_diagonals n t order given (k + 1))
unfolding boost_diagonals
diagonal_turn n t order k d given l m p e ed em = (rw em (diagonal_rises n t d l p n (omega arith)).plan, rw (em, ed, add-one, e))

module _ (n t : ℕ) (order : ℕ → ℕ) (l : List ℕ) (p : IsPlan n t l) where
  abbrev after : ℕ → List ℕ
  after m = boost_diagonals n t order l m

  pub diagonals_rise : (m : ℕ) → Rises n t l (boost_diagonals n t order l m)
  unfolding boost_diagonals
  diagonals_rise zero = rises_same n t l p
  diagonals_rise (suc k) =
      let before = diagonals_rise k in
      rises_then n t l (after k) _ before (diagonal_rises n t (order k) (after k) before.plan n (omega arith))

  diagonals_full : (m k i : ℕ) → k < m → i < n → Full n t (boost_diagonals n t order l m) i (column_on n (order k) i)
  unfolding boost_diagonals
  diagonals_full zero k i b hi = absurd (omega arith)
  diagonals_full (suc m) k i b hi =
      let before = (diagonals_rise m).plan in
      ⊎_elim
      (λ (e : k < m).
      full_stays n t (after m) _ i (column_on n (order k) i) (diagonal_rises n t (order m) (after m) before n (omega arith))
      hi (column_below n (order k) i p.some_port) (diagonals_full m k i e hi))
      (λ (e : k ≡ m). rw e (diagonal_full n t (order m) (after m) before n i (omega arith) hi))
      (below_or_last k m b)

-- In a period.

module _ (n t period : ℕ) (l : List ℕ) (p : IsPlan n t l) where
  abbrev boosted : List ℕ
  boosted = boosted_of n t period l

  pub boosted_rises : Rises n t l (boosted_of n t period l)
  unfolding boosted_of
  boosted_rises = diagonals_rise n t (diagonal_in n period) l p n

  boosted_full : (i j : ℕ) → i < n → j < n → Full n t (boosted_of n t period l) i j
  unfolding boosted_of
  boosted_full i j hi hj =
      let d = diagonal_of n i j in
      rw (in_turn n period d (diagonal_below n i j hi), on_diagonal n i j hi hj)
      at (diagonals_full n t (diagonal_in n period) l p n (turn_of n period d) i (turn_below n period d p.some_port) hi)

  boosted_row : (i : ℕ) → i < n → row_sum (boosted_of n t period l) n i ≡ t
  boosted_row = pairs_full (row_sum boosted n) (column_sum boosted n) n t (same_total boosted n) boosted_rises.plan.rows boosted_full

  boosted_column : (j : ℕ) → j < n → column_sum (boosted_of n t period l) n j ≡ t
  boosted_column =
      pairs_full (column_sum boosted n) (row_sum boosted n) n t (sym (same_total boosted n)) boosted_rises.plan.columns
      (λ j i hj hi. ⊎_elim inr inl (boosted_full i j hi hj))

pub boosted_plan : BoostedPlan
unfolding boost_of
boosted_plan n t period given rates e h =
    let p = accepted n t given e in
    let v = boost_done n t given rates e h in
    record {
      done = v;
      rows = rw v (boosted_row n t period given p);
      columns = rw v (boosted_column n t period given p);
      plan = rw v (accepts n t (boosted_of n t period given) (boosted_rises n t period given p).plan);
      above = rw v (boosted_rises n t period given p).above;
    }
