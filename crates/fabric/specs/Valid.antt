-- Number 12's rules for the flows: "a queue's place isn't below Q, its count is above Q, a crosspoint count is above 2".
use Rattle.std.specs.Prelude.{ℕ, ◌*◌, Bool, ◌&&◌, List, ltb, leb, get_or}
use Rattle.plan.specs.Below.{all_below}
use Rattle.fabric.specs.Flow.{crosspoint_depth, no_queue, no_point}
use Rattle.fabric.specs.declared.flow.Queue.{Queue}
use Rattle.fabric.specs.declared.flow.Crosspoint.{Crosspoint}

abbrev pub flow_valid : ℕ → Queue → Crosspoint → Bool
flow_valid depth q x = ltb q.place depth && leb q.count depth && leb x.count crosspoint_depth

unfoldable pub flows_valid : List Queue → List Crosspoint → ℕ → ℕ → Bool
flows_valid queues points n depth = all_below (λ k. flow_valid depth (get_or queues k no_queue) (get_or points k no_point)) (n * n)
