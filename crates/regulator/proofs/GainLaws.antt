-- What a flow gains by boost: at most what its row and its column can both spare, and just that on the diagonal that is first,
-- since the flows of a diagonal share no line.
use Prim.Native.Nat.{ℕ, zero, suc, ◌+◌, ◌-◌, ◌%◌, ◌<◌, ◌≤◌}
use mathlib.Core.Path.{◌≡◌, refl, sym, ap, ◌∙◌}
use mathlib.Core.List.{List}
use mathlib.Core.Logic.{⊎_elim}
use native.Mathlib.Nat.{add_comm}
use native.Mathlib.Omega.{arith}
use lib.ListN.{get_or}
use Rattle.plan.specs.Lines.{flow_of, row_sum, column_sum}
use Rattle.plan.specs.Accept.{IsPlan}
use Rattle.plan.proofs.BelowLaws.{below_or_last}
use Rattle.plan.proofs.AcceptLaws.{accepted}
use Rattle.regulator.specs.Boost.{column_on, spare_of, boost_place, boost_diagonal, diagonal_in, boost_diagonals, boosted_of, boost_of}
use Rattle.regulator.specs.Period.{FirstGains}
use Rattle.regulator.proofs.FlowLaws.{gain_row, gain_column, elsewhere_row, grown_here, row_kept, column_kept}
use Rattle.regulator.proofs.DiagonalLaws.{column_below}
use Rattle.regulator.proofs.PlaceLaws.{place_rises}
use Rattle.regulator.proofs.PeriodLaws.{turn_of, turn_only}
use Rattle.regulator.proofs.VerdictLaws.{boost_done}
use Rattle.regulator.proofs.BoostLaws.{diagonal_rises, diagonals_rise, boosted_rises}

-- the flows of a diagonal are in different columns
column_own : (n k a b : ℕ) → a < n → b < n → column_on n k a ≡ column_on n k b → a ≡ b
unfolding column_on diagonal_in
column_own n k a b ha hb e =
    let turned : (i : ℕ) → diagonal_in n k i ≡ column_on n k i = λ i. ap (λ (x : ℕ). x % n) (add_comm k i) in
    sym (turn_only n k a ha) ∙ ap (turn_of n k) (turned a ∙ e ∙ sym (turned b)) ∙ turn_only n k b hb

-- One diagonal.

module _ (n t k : ℕ) (l : List ℕ) (p : IsPlan n t l) where
  abbrev up_to : ℕ → List ℕ
  up_to m = boost_diagonal n t k l m

  abbrev flow : ℕ → ℕ
  flow i = flow_of n i (column_on n k i)

  column_in : (i : ℕ) → column_on n k i < n
  column_in i = column_below n k i p.some_port

  -- a flow whose turn is still to come has its rate and both its sums as they were
  untouched : (m i : ℕ) → m ≤ i → i < n
      → (get_or (boost_diagonal n t k l m) (flow i) 0 ≡ get_or l (flow i) 0) × (row_sum (boost_diagonal n t k l m) n i ≡ row_sum l n i)
      × (column_sum (boost_diagonal n t k l m) n (column_on n k i) ≡ column_sum l n (column_on n k i))
  unfolding boost_diagonal boost_place
  untouched zero i h hi = (refl, refl, refl)
  untouched (suc m) i h hi =
      let before = untouched m i (omega arith) hi in
      let square = (diagonal_rises n t k l p m (omega arith)).plan.square in
      let other : i ≡ m → ⊥ = λ e. absurd (omega arith) in
      let spare = spare_of n t (up_to m) m (column_on n k m) in (
        elsewhere_row (up_to m) n m (column_on n k m) spare square (omega arith) (column_in m) i (column_on n k i) (column_in i) other ∙ before.0,
        row_kept (up_to m) n m (column_on n k m) spare square (omega arith) (column_in m) i other ∙ before.1,
        column_kept (up_to m) n m (column_on n k m) spare square (omega arith) (column_in m) (column_on n k i) (column_in i)
            (λ e. other (column_own n k i m hi (omega arith) e)) ∙ before.2,
      )

  -- in its turn it gains what it could in l
  turn_gains : (i : ℕ) → i < n
      → get_or (boost_place n t i (column_on n k i) (boost_diagonal n t k l i)) (flow i) 0 ≡ get_or l (flow i) 0 + spare_of n t l i (column_on n k i)
  unfolding boost_place
  turn_gains i hi =
      let before = untouched i i (omega arith) hi in
      let square = (diagonal_rises n t k l p i (omega arith)).plan.square in
      let spare = spare_of n t (up_to i) i (column_on n k i) in
      grown_here (up_to i) n i (column_on n k i) spare square hi (column_in i) ∙ rw (before.0, before.1, before.2)

  -- and keeps it
  diagonal_gains : (m i : ℕ) → m ≤ n → i < m → get_or l (flow i) 0 + spare_of n t l i (column_on n k i) ≤ get_or (boost_diagonal n t k l m) (flow i) 0
  unfolding boost_diagonal
  diagonal_gains zero i h b = absurd (omega arith)
  diagonal_gains (suc m) i h b =
      let before = (diagonal_rises n t k l p m (omega arith)).plan in
      ⊎_elim
      (λ (e : i < m).
      omega (arith, diagonal_gains m i (omega arith) e, (place_rises n t (up_to m) m (column_on n k m) before (omega arith) (column_in m)).above (flow i)))
      (λ (e : i ≡ m). rw e (omega (arith, turn_gains m (omega arith))))
      (below_or_last i m b)

-- All diagonals, in a period.

module _ (n t period : ℕ) (l : List ℕ) (p : IsPlan n t l) where
  abbrev order : ℕ → ℕ
  order = diagonal_in n period

  -- what the first one has gained stays
  first_stays : (m q : ℕ) → get_or (boost_diagonal n t (diagonal_in n period 0) l n) q 0 ≤ get_or (boost_diagonals n t (diagonal_in n period) l (suc m)) q 0
  unfolding boost_diagonals
  first_stays zero q = omega arith
  first_stays (suc m) q =
      let after = boost_diagonals n t order l (suc m) in
      let plan = (diagonals_rise n t order l p (suc m)).plan in
      omega (arith, first_stays m q, (diagonal_rises n t (order (suc m)) after plan n (omega arith)).above q)

  most_gained : (i j : ℕ) → i < n → j < n → get_or (boosted_of n t period l) (flow_of n i j) 0 ≤ get_or l (flow_of n i j) 0 + spare_of n t l i j
  most_gained i j hi hj =
      let rises = boosted_rises n t period l p in
      omega (
        arith,
        gain_row l (boosted_of n t period l) n i j rises.above hj,
        gain_column l (boosted_of n t period l) n i j rises.above hi,
        rises.plan.rows i hi,
        rises.plan.columns j hj,
        p.rows i hi,
        p.columns j hj,
      )

  first_gained : (i j : ℕ) → i < n → j ≡ column_on n (diagonal_in n period 0) i
      → get_or (boosted_of n t period l) (flow_of n i j) 0 ≡ get_or l (flow_of n i j) 0 + spare_of n t l i j
  unfolding boosted_of
  first_gained i j hi e =
      let d = order 0 in
      let place = flow_of n i (column_on n d i) in
      let some : suc (n - 1) ≡ n = omega (arith, p.some_port) in
      rw e (omega (
        arith,
        most_gained i (column_on n d i) hi (column_below n d i p.some_port),
        diagonal_gains n t d l p n i (omega arith) hi,
        rw some at (first_stays (n - 1) place),
      ))

pub first_gains : FirstGains
unfolding boost_of
first_gains n t period given rates e h =
    let p = accepted n t given e in
    let v = boost_done n t given rates e h in
    record { most = rw v (most_gained n t period given p); first = rw v (first_gained n t period given p) }
