-- What is known of the switch between any two calls of a run.
use Prim.Native.Nat.{ℕ, ◌+◌, ◌*◌, ◌<◌, ◌≤◌}
use mathlib.Core.Path.{◌≡◌}
use mathlib.Core.Bool.{true}
use mathlib.Core.List.{List}
use native.Mathlib.Nat.{lt_of_mul-lt-mul_right}
use native.Mathlib.Omega.{arith}
use lib.ListN.{length, get_or}
use Rattle.plan.specs.Range.{most_ports, most_flows}
use Rattle.plan.specs.Lines.{flow_of}
use Rattle.plan.specs.Desk.{row_of}
use Rattle.plan.specs.Accept.{IsPlan}
use Rattle.plan.specs.declared.Plan.{Plan}
use Rattle.multiplexer.specs.Window.{column_of}
use Rattle.multiplexer.proofs.PacedLaws.{Paced, paced_early, paced_late, paced_within}
use Rattle.multiplexer.proofs.PortLaws.{row_length, row_rate, column_length, column_rate}
use Rattle.side.specs.Choices.{no_multiplexer}
use Rattle.fabric.specs.Flow.{most_depth}
use Rattle.planpair.specs.Rates.{plan_rates, rate_at}
use Rattle.crossbar.specs.State.{has_waiting, queue_at, point_at, board_count, head_count}
use Rattle.crossbar.specs.declared.state.Switch.{Switch}
use Rattle.runs.proofs.ShareLaws.{Near}

-- an accepted plan in an array of 256
pub record PlanIn (n t : ℕ) (p : Plan) : Type 0 where
  pub ports : p.ports ≡ n
  pub frame : p.frame ≡ t
  pub plan : IsPlan n t (plan_rates p)

pub record Sound (s : Switch) (store : List ℕ) : Type 0 where
  pub plan : IsPlan s.running.ports s.running.frame (plan_rates s.running)
  pub waiting : has_waiting s ≡ true → PlanIn s.running.ports s.running.frame s.waiting
  pub some_depth : 1 ≤ s.depth
  pub few_cells : s.depth ≤ most_depth
  pub in_frame : s.slot < s.running.frame
  -- the arrays have their lengths
  pub running_size : length s.running.rates ≡ most_flows
  pub waiting_size : length s.waiting.rates ≡ most_flows
  pub queues_size : length s.fabric.queues ≡ most_flows
  pub points_size : length s.fabric.crosspoints ≡ most_flows
  pub boards_size : length s.fabric.boards ≡ most_ports
  pub heads_size : length s.fabric.heads ≡ most_ports
  pub store_size : length store ≡ s.running.ports * s.running.ports * s.depth
  -- each flow's queue and crosspoint
  pub place : (i j : ℕ) → i < s.running.ports → j < s.running.ports → (queue_at s (flow_of s.running.ports i j)).place < s.depth
  pub queued : (i j : ℕ) → i < s.running.ports → j < s.running.ports → (queue_at s (flow_of s.running.ports i j)).count ≤ s.depth
  pub two_places : (i j : ℕ) → i < s.running.ports → j < s.running.ports → length (point_at s (flow_of s.running.ports i j)).cells ≡ 2
  -- each port keeps its windows
  pub boards : (i : ℕ) → i < s.running.ports
      → Paced (row_of (plan_rates s.running) s.running.ports i) s.running.frame s.slot (get_or s.fabric.boards i no_multiplexer).served
  pub heads : (j : ℕ) → j < s.running.ports
      → Paced (column_of (plan_rates s.running) s.running.ports j) s.running.frame s.slot (get_or s.fabric.heads j no_multiplexer).served
  -- no more cells in a crosspoint than its board is ahead of its head, and one
  pub balanced : (i j : ℕ) → i < s.running.ports → j < s.running.ports
      → (point_at s (flow_of s.running.ports i j)).count + head_count s i j ≤ board_count s i j + 1

module _ {s : Switch} {store : List ℕ} (ok : Sound s store) (i j : ℕ) (hi : i < s.running.ports) (hj : j < s.running.ports) where
  pub row_is : length (row_of (plan_rates s.running) s.running.ports i) ≡ s.running.ports
  row_is = row_length (plan_rates s.running) s.running.ports i ok.plan.square hi

  pub column_is : length (column_of (plan_rates s.running) s.running.ports j) ≡ s.running.ports
  column_is = column_length (plan_rates s.running) s.running.ports j

  pub board_near : Near s.running.frame (rate_at s.running i j) (board_count s i j) s.slot
  board_near =
      let e = row_rate (plan_rates s.running) s.running.ports i j hj in
      record {
        early = rw e at (paced_early (ok.boards i hi) j (omega (arith, row_is)));
        late = rw e at (paced_late (ok.boards i hi) j (omega (arith, row_is)));
      }

  pub head_near : Near s.running.frame (rate_at s.running i j) (head_count s i j) s.slot
  head_near =
      let e = column_rate (plan_rates s.running) s.running.ports i j hi in
      record {
        early = rw e at (paced_early (ok.heads j hj) i (omega (arith, column_is)));
        late = rw e at (paced_late (ok.heads j hj) i (omega (arith, column_is)));
      }

  pub board_within : board_count s i j ≤ rate_at s.running i j
  board_within = rw (row_rate (plan_rates s.running) s.running.ports i j hj) at (paced_within (ok.boards i hi) j (omega (arith, row_is)))

  pub head_within : head_count s i j ≤ rate_at s.running i j
  head_within = rw (column_rate (plan_rates s.running) s.running.ports i j hi) at (paced_within (ok.heads j hj) i (omega (arith, column_is)))

  -- between two calls the board is at most one service ahead
  pub ahead_between : board_count s i j ≤ head_count s i j + 1
  ahead_between =
      let t = s.running.frame in
      let close : board_count s i j * t < (head_count s i j + 2) * t = omega (arith, board_near.early, head_near.late) in
      omega (arith, lt_of_mul-lt-mul_right t {m = board_count s i j} {n = head_count s i j + 2} close)

  pub two_between : (point_at s (flow_of s.running.ports i j)).count ≤ 2
  two_between = omega (arith, ok.balanced i j hi hj, ahead_between)
