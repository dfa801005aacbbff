-- What a period number does: how much of it counts, which diagonal it puts first, and what that diagonal gains by it.
use Rattle.std.specs.Prelude.{ℕ, ◌+◌, ◌*◌, ◌%◌, ◌<◌, ◌≤◌, List, ◌≡◌, length, get_or, Ok}
use Rattle.plan.specs.Lines.{flow_of}
use Rattle.plan.specs.Accept.{accept_of}
use Rattle.regulator.specs.Outcome.{Outcome, written}
use Rattle.regulator.specs.Boost.{column_on, spare_of, diagonal_in, boost_diagonals, boost_verdict, boost_of}

-- Boost as it was before it took a period number: through diagonal k in turn k.
abbrev pub base_boost_of : ℕ → ℕ → List ℕ → List ℕ → Outcome
base_boost_of n t given rates = written (boost_verdict n t given rates) (boost_diagonals n t (λ k. k) given n) rates

-- Period 0 is the boost of the base, for every input (proofs/PeriodLaws.antt, period_zero).
abbrev pub PeriodZero : Type 0
PeriodZero = (n t : ℕ) (given rates : List ℕ) → boost_of n t 0 given rates ≡ base_boost_of n t given rates

-- Of a period number the remainder by N counts, and nothing else (proofs/PeriodLaws.antt, period_remainder).
abbrev pub PeriodRemainder : Type 0
PeriodRemainder = (n t p : ℕ) (given rates : List ℕ) → boost_of n t p given rates ≡ boost_of n t (p % n) given rates

-- Of the n periods from p on, the one in which the diagonal is first, and that there is no other.
pub record FirstOnce (n p diagonal : ℕ) : Type 0 where
  pub period : ℕ
  pub from : p ≤ period
  pub before : period < p + n
  pub first : diagonal_in n period 0 ≡ diagonal
  pub only : (other : ℕ) → p ≤ other → other < p + n → diagonal_in n other 0 ≡ diagonal → other ≡ period

-- The fair start: "in any N periods that follow one another each diagonal is first exactly once" (proofs/PeriodLaws.antt,
-- fair_start). They follow one another as numbers: 4,294,967,295 and 0 don't (docs/DECISIONS.md has it under regulator).
abbrev pub FairStart : Type 0
FairStart = (n p diagonal : ℕ) → diagonal < n → FirstOnce n p diagonal

-- What flows gain in period p. No flow can gain more than its row and its column can both spare in the given plan; those of
-- the first diagonal gain just that.
pub record Gains (n t p : ℕ) (given : List ℕ) (out : Outcome) : Type 0 where
  pub most : (i j : ℕ) → i < n → j < n → get_or out.list (flow_of n i j) 0 ≤ get_or given (flow_of n i j) 0 + spare_of n t given i j
  pub first : (i j : ℕ) → i < n → j ≡ column_on n (diagonal_in n p 0) i → get_or out.list (flow_of n i j) 0 ≡ get_or given (flow_of n i j) 0 + spare_of n t given i j

-- for every accepted plan and every output list of its length (proofs/GainLaws.antt, first_gains)
abbrev pub FirstGains : Type 0
FirstGains = (n t p : ℕ) (given rates : List ℕ) → accept_of n t given ≡ Ok tt → length rates ≡ n * n → Gains n t p given (boost_of n t p given rates)
