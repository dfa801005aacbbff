-- "Where an operation was handed no state or plan and would answer one, the refusal's is all 0".
use Rattle.std.specs.Prelude.{replicate}
use Rattle.plan.specs.Range.{most_flows}
use Rattle.plan.specs.declared.Plan.{Plan}

abbrev pub no_plan : Plan
no_plan = record { ports = 0; frame = 0; rates = replicate most_flows 0 }
