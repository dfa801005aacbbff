-- Number 12: "a plan in the state isn't accepted, or the two differ in N or T; or Q is outside 1 to 64, the slot isn't
-- below T, a queue's place isn't below Q, its count is above Q, a crosspoint count is above 2, a service count is
-- above its running rate, or one is not 0 in slot 0". "Number 12 judges a waiting plan only while one waits."
use Rattle.std.specs.Prelude.{ℕ, ◌*◌, ◌<◌, ◌≤◌, ◌≡◌, Bool, true, ◌&&◌, ltb}
use Rattle.planpair.specs.Rates.{plan_rates, rate_at}
use Rattle.planpair.specs.Valid.{plans_valid, IsPlanOf}
use Rattle.fabric.specs.Flow.{most_depth, crosspoint_depth}
use Rattle.side.specs.Valid.{ports_valid}
use Rattle.fabric.specs.Valid.{flows_valid}
use Rattle.crossbar.specs.State.{has_waiting, queue_at, point_at, board_count, head_count, depth_in_range}
use Rattle.crossbar.specs.declared.state.Switch.{Switch}

unfoldable pub valid_of : Switch → Bool
valid_of s =
    let n = s.running.ports in
    plans_valid s.running s.waiting (has_waiting s)
    && depth_in_range s.depth
    && ltb s.slot s.running.frame
    && flows_valid s.fabric.queues s.fabric.crosspoints n s.depth
    && ports_valid (plan_rates s.running) s.fabric.boards n n 1 s.slot
    && ports_valid (plan_rates s.running) s.fabric.heads n 1 n s.slot

-- What number 12 asks of a state. proofs/ValidLaws.antt has that these are the valid ones, and no others.
pub record IsValid (s : Switch) : Type 0 where
  pub running : IsPlanOf s.running
  pub waiting : has_waiting s ≡ true → IsPlanOf s.waiting
  pub ports_agree : has_waiting s ≡ true → s.running.ports ≡ s.waiting.ports
  pub same_frame : has_waiting s ≡ true → s.running.frame ≡ s.waiting.frame
  pub some_place : 1 ≤ s.depth
  pub few_places : s.depth ≤ most_depth
  pub in_frame : s.slot < s.running.frame
  pub queue_place : (k : ℕ) → k < s.running.ports * s.running.ports → (queue_at s k).place < s.depth
  pub queue_count : (k : ℕ) → k < s.running.ports * s.running.ports → (queue_at s k).count ≤ s.depth
  pub crosspoint_count : (k : ℕ) → k < s.running.ports * s.running.ports → (point_at s k).count ≤ crosspoint_depth
  pub board_count_within : (i j : ℕ) → i < s.running.ports → j < s.running.ports → board_count s i j ≤ rate_at s.running i j
  pub head_count_within : (i j : ℕ) → i < s.running.ports → j < s.running.ports → head_count s i j ≤ rate_at s.running i j
  pub board_zero : s.slot ≡ 0 → (i j : ℕ) → i < s.running.ports → j < s.running.ports → board_count s i j ≡ 0
  pub head_zero : s.slot ≡ 0 → (i j : ℕ) → i < s.running.ports → j < s.running.ports → head_count s i j ≡ 0
