-- "In slot 0, a waiting plan becomes the running plan; then none waits, and the waiting plan's N, T and its rates for
-- ports below N in the state are 0."
use Rattle.std.specs.Prelude.{◌*◌, []}
use Rattle.plan.specs.declared.Plan.{Plan}
use Rattle.planpair.specs.Rates.{overlaid}

-- a plan with the N, T and rates of another
abbrev pub replaced : Plan → Plan → Plan
replaced p q = record { ports = q.ports; frame = q.frame; rates = overlaid p.rates q.rates (q.ports * q.ports) }

-- a plan whose N, T and rates are 0
abbrev pub cleared : Plan → Plan
cleared p = record { ports = 0; frame = 0; rates = overlaid p.rates [] (p.ports * p.ports) }
