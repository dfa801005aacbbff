-- Lists of rates in the arrays of a plan: only the places below N × N are part of it, and only they are written.
use Rattle.std.specs.Prelude.{ℕ, zero, suc, ◌*◌, List, get_or, set, take}
use Rattle.plan.specs.Lines.{flow_of}
use Rattle.plan.specs.declared.Plan.{Plan}

-- an array with its first places taken from a list, and 0 where the list has none
unfoldable pub overlaid : List ℕ → List ℕ → ℕ → List ℕ
overlaid array list zero = array
overlaid array list (suc k) = set (overlaid array list k) k (get_or list k 0)

-- the N × N rates of a plan
abbrev pub plan_rates : Plan → List ℕ
plan_rates p = take (p.ports * p.ports) p.rates

abbrev pub rate_at : Plan → ℕ → ℕ → ℕ
rate_at p i j = get_or (plan_rates p) (flow_of p.ports i j) 0
