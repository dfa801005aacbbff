-- "A fresh start holds the given plan as the running one and Q, and 0 or "none waits" everywhere else; it doesn't write
-- the store." Order: 1 to 7.
use Rattle.std.specs.Prelude.{ℕ, ◌*◌, ◌≤◌, ◌≡◌, not, List, length, replicate, Ok}
use Rattle.refusal.specs.Chain.{refuse_if, and_then, if_accepted}
use Rattle.refusal.specs.declared.Refusal.TheVariants.{DepthOutOfRange, StoreLength}
use Rattle.refusal.specs.Verdict.{Verdict}
use Rattle.plan.specs.Range.{most_ports, most_flows}
use Rattle.plan.specs.Accept.{accept_of, IsPlan}
use Rattle.plan.specs.NoPlan.{no_plan}
use Rattle.plan.specs.declared.Plan.{Plan}
use Rattle.multiplexer.specs.declared.Multiplexer.{Multiplexer}
use Rattle.fabric.specs.Flow.{most_depth, crosspoint_depth}
use Rattle.crossbar.specs.State.{depth_in_range, store_fits}
use Rattle.planpair.specs.Rates.{overlaid}
use Rattle.fabric.specs.declared.flow.Queue.{Queue}
use Rattle.fabric.specs.declared.flow.Crosspoint.{Crosspoint}
use Rattle.crossbar.specs.declared.state.Switch.{Switch}
use Rattle.crossbar.specs.declared.state.Reply.{Reply}

abbrev pub empty_queue : Queue
empty_queue = record { place = 0; count = 0 }

abbrev pub empty_point : Crosspoint
empty_point = record { cells = replicate crosspoint_depth 0; count = 0 }

abbrev pub rested_port : Multiplexer
rested_port = record { served = replicate most_ports 0 }

-- a state that runs a plan, with no cell and no service
unfoldable pub fresh_with : Plan → ℕ → Switch
fresh_with plan depth =
    record {
      running = plan;
      waiting = no_plan;
      waits = 0;
      depth = depth;
      slot = 0;
      fabric =
          record {
            queues = replicate most_flows empty_queue;
            crosspoints = replicate most_flows empty_point;
            boards = replicate most_ports rested_port;
            heads = replicate most_ports rested_port;
          };
    }

-- a plan in whose array stands what the old one has past its rates
abbrev pub plan_over : Plan → ℕ → ℕ → List ℕ → Plan
plan_over old n t rates = record { ports = n; frame = t; rates = overlaid old.rates rates (n * n) }

abbrev pub plan_of : ℕ → ℕ → List ℕ → Plan
plan_of n t rates = plan_over no_plan n t rates

unfoldable pub start_verdict : ℕ → ℕ → List ℕ → ℕ → ℕ → Verdict
start_verdict n t rates depth len =
    and_then (accept_of n t rates)
    (refuse_if (not (depth_in_range depth)) DepthOutOfRange
    (refuse_if (not (store_fits n depth len)) StoreLength
    (Ok tt)))

-- When a start is accepted. proofs/StartLaws.antt has that it is then, and only then.
pub record CanStart (n t : ℕ) (rates : List ℕ) (depth len : ℕ) : Type 0 where
  pub plan : IsPlan n t rates
  pub some_cell : 1 ≤ depth
  pub few_cells : depth ≤ most_depth
  pub store : len ≡ n * n * depth

unfoldable pub start_of : ℕ → ℕ → List ℕ → ℕ → List ℕ → Reply
start_of n t rates depth store =
    let v = start_verdict n t rates depth (length store) in
    record { verdict = v; state = if_accepted v (fresh_with (plan_of n t rates) depth) (fresh_with no_plan 0) }

-- what `start` ensures
abbrev pub Starts : ℕ → ℕ → List ℕ → ℕ → List ℕ → Reply → Type 0
Starts n t rates depth store r = r ≡ start_of n t rates depth store
