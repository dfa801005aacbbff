-- What a takeover makes of the two plans.
use Prim.Native.Nat.{ℕ, ◌*◌, ◌≤◌}
use mathlib.Core.Path.{◌≡◌, refl, sym, ap, ◌∙◌}
use mathlib.Core.List.{List}
use native.Mathlib.Omega.{arith}
use lib.ListN.{length, take, replicate}
use lib.Seq.{length-take-le}
use Rattle.plan.specs.Range.{most_ports, most_flows}
use Rattle.plan.specs.declared.Plan.{Plan}
use Rattle.plan.proofs.LineLaws.{square_small}
use Rattle.planpair.specs.Rates.{overlaid, plan_rates}
use Rattle.planpair.specs.Takeover.{replaced, cleared}
use Rattle.planpair.proofs.RateLaws.{overlaid_part, overlaid_zeros, take_overlaid}

-- The answer, as the code puts it together from the rates it laid over an array.
pub cleared_is : (p : Plan) (m : ℕ) {rates : List ℕ} → rates ≡ overlaid p.rates (replicate m 0) (p.ports * p.ports) → ◌≡◌ {A = Plan} (record { ports = 0; frame = 0; rates = rates }) (cleared p)
cleared_is p m laid = rw (laid, overlaid_zeros p.rates m (p.ports * p.ports)) refl

-- the plan that takes over has the waiting plan's rates
pub taken_rates : (p q : Plan) → q.ports ≤ most_ports → length p.rates ≡ most_flows → length q.rates ≡ most_flows → plan_rates (replaced p q) ≡ plan_rates q
taken_rates p q few full-p full-q =
    let count = q.ports * q.ports in
    let square : count ≤ most_flows = square_small q.ports few in
    let part = length-take-le count q.rates (omega arith) in
    ap (take count) (sym (overlaid_part p.rates q.rates count)) ∙ take_overlaid p.rates (plan_rates q) count part (omega arith)
