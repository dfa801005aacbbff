-- Scale: "from demands of 16 bits, the rate is d × T divided by the larger of its row and column sum of
-- demands, rounded down; where d is 0 the rate is 0."
use Rattle.std.specs.Prelude.{ℕ, ◌*◌, ◌/◌, ◌%◌, cond, List, ◌≡◌, eqb, length, get_or, Ok}
use Rattle.plan.specs.Below.{list_below}
use Rattle.plan.specs.Accept.{accept_of}
use Rattle.regulator.specs.Outcome.{Outcome, written, lists_of}
use Rattle.regulator.specs.Sums.{larger_sum}

-- the rate of a demand d whose larger sum is `sum`
abbrev pub share_of : ℕ → ℕ → ℕ → ℕ
share_of d t sum = cond (eqb d 0) 0 (d * t / sum)

-- the rate at a place of the list, which is that of the flow (place / n, place % n)
abbrev pub scaled_rate : ℕ → ℕ → List ℕ → ℕ → ℕ
scaled_rate n t demands place = share_of (get_or demands place 0) t (larger_sum demands n (place / n) (place % n))

unfoldable pub scaled_of : ℕ → ℕ → List ℕ → List ℕ
scaled_of n t demands = list_below (scaled_rate n t demands) (n * n)

-- nothing more is looked at
unfoldable pub scale_of : ℕ → ℕ → List ℕ → List ℕ → Outcome
scale_of n t demands rates = written (lists_of n t (length demands) (length rates)) (scaled_of n t demands) rates

-- What scale writes is an accepted plan, whatever the demands (proofs/ScaleLaws.antt, scaled_plan).
abbrev pub ScaledPlan : Type 0
ScaledPlan = (n t : ℕ) (demands rates : List ℕ) → (scale_of n t demands rates).verdict ≡ Ok tt → accept_of n t (scale_of n t demands rates).list ≡ Ok tt
