-- Number 12 of the two plans: "a plan in the state isn't accepted, or the two differ in N or T". "Number 12 judges a
-- waiting plan only while one waits."
use Rattle.std.specs.Prelude.{Bool, not, ◌&&◌, ◌||◌, eqb, is_ok}
use Rattle.plan.specs.Accept.{accept_of, IsPlan}
use Rattle.plan.specs.declared.Plan.{Plan}
use Rattle.planpair.specs.Rates.{plan_rates}

unfoldable pub plan_valid : Plan → Bool
plan_valid p = is_ok (accept_of p.ports p.frame (plan_rates p))

-- "the two differ in N or T"
abbrev pub same_ports : Plan → Plan → Bool
same_ports p q = eqb p.ports q.ports && eqb p.frame q.frame

unfoldable pub plans_valid : Plan → Plan → Bool → Bool
plans_valid running waiting waits = plan_valid running && (not waits || (plan_valid waiting && same_ports running waiting))

-- the plan in a struct is an accepted one
abbrev pub IsPlanOf : Plan → Type 0
IsPlanOf p = IsPlan p.ports p.frame (plan_rates p)
