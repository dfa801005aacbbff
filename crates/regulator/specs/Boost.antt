-- Boost: "for each i, the rate at (i, (i + k) mod N) grows by T less the larger of its present row sum and column
-- sum. Boost takes accepted plans only; afterwards every row and column sums to T." Those places are diagonal k, and
-- "Boost now takes a 32-bit period number p and goes through diagonals (p + k) mod N for k = 0 to N − 1."
use Rattle.std.specs.Prelude.{ℕ, zero, suc, ◌+◌, ◌-◌, ◌*◌, ◌%◌, ◌<◌, ◌≤◌, List, ◌≡◌, length, get_or, set, Ok}
use Rattle.refusal.specs.Chain.{and_then}
use Rattle.refusal.specs.Verdict.{Verdict}
use Rattle.plan.specs.Lines.{flow_of, row_sum, column_sum}
use Rattle.plan.specs.Accept.{accept_of}
use Rattle.regulator.specs.Outcome.{Outcome, written, lists_of}
use Rattle.regulator.specs.Sums.{larger_sum}

-- the column of row i on diagonal k
unfoldable pub column_on : ℕ → ℕ → ℕ → ℕ
column_on n k i = (i + k) % n

-- "T less the larger of its present row sum and column sum"
abbrev pub spare_of : ℕ → ℕ → List ℕ → ℕ → ℕ → ℕ
spare_of n t rates i j = t - larger_sum rates n i j

-- "the rate at (i, j) grows by" that
unfoldable pub boost_place : ℕ → ℕ → ℕ → ℕ → List ℕ → List ℕ
boost_place n t i j rates = set rates (flow_of n i j) (get_or rates (flow_of n i j) 0 + spare_of n t rates i j)

-- "for each i" below m, on diagonal k
unfoldable pub boost_diagonal : ℕ → ℕ → ℕ → List ℕ → ℕ → List ℕ
boost_diagonal n t k rates zero = rates
boost_diagonal n t k rates (suc i) = boost_place n t i (column_on n k i) (boost_diagonal n t k rates i)

-- "diagonals (p + k) mod N": the one in turn k of period p. The order of the diagonals stands here and nowhere else.
unfoldable pub diagonal_in : ℕ → ℕ → ℕ → ℕ
diagonal_in n p k = (p + k) % n

-- "for k = 0 to" m − 1, in an order, which has the diagonal of each turn
unfoldable pub boost_diagonals : ℕ → ℕ → (ℕ → ℕ) → List ℕ → ℕ → List ℕ
boost_diagonals n t order rates zero = rates
boost_diagonals n t order rates (suc k) = boost_diagonal n t (order k) (boost_diagonals n t order rates k) n

-- all N of them, in the order of period p
unfoldable pub boosted_of : ℕ → ℕ → ℕ → List ℕ → List ℕ
boosted_of n t p given = boost_diagonals n t (diagonal_in n p) given n

-- "Boost takes accepted plans only"
unfoldable pub boost_verdict : ℕ → ℕ → List ℕ → List ℕ → Verdict
boost_verdict n t given rates = and_then (lists_of n t (length given) (length rates)) (accept_of n t given)

unfoldable pub boost_of : ℕ → ℕ → ℕ → List ℕ → List ℕ → Outcome
boost_of n t p given rates = written (boost_verdict n t given rates) (boosted_of n t p given) rates

-- What boost makes of an accepted plan.
pub record Boosted (n t : ℕ) (given : List ℕ) (out : Outcome) : Type 0 where
  pub done : out.verdict ≡ Ok tt
  pub rows : (i : ℕ) → i < n → row_sum out.list n i ≡ t
  pub columns : (j : ℕ) → j < n → column_sum out.list n j ≡ t
  pub plan : accept_of n t out.list ≡ Ok tt
  pub above : (place : ℕ) → get_or given place 0 ≤ get_or out.list place 0

-- in every period, for every accepted plan and every output list of its length (proofs/BoostLaws.antt, boosted_plan)
abbrev pub BoostedPlan : Type 0
BoostedPlan = (n t p : ℕ) (given rates : List ℕ) → accept_of n t given ≡ Ok tt → length rates ≡ n * n → Boosted n t given (boost_of n t p given rates)
