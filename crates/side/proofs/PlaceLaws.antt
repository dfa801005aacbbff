-- The number of a flow is small.
use Prim.Native.Nat.{ℕ, ◌<◌, ◌≤◌}
use native.Mathlib.Omega.{arith}
use Rattle.plan.specs.Range.{most_ports, most_flows}
use Rattle.plan.specs.Lines.{flow_of}
use Rattle.plan.proofs.LineLaws.{flow_below, square_small}

pub flow_small : (n i j : ℕ) → n ≤ most_ports → i < n → j < n → flow_of n i j < most_flows
flow_small n i j h hi hj = omega (arith, flow_below n i j hi hj, square_small n h)
