-- For the code: what the function answers that computes a place.
use Rattle.std.specs.Prelude.{ℕ, ◌*◌, ◌<◌, ◌≡◌}
use Rattle.fabric.specs.Flow.{cell_place}
use Rattle.fabric.specs.declared.flow.Queue.{Queue}

-- the place of a flow's oldest cell, and that the store has it
pub record OldestPlace (n depth k : ℕ) (q : Queue) (r : ℕ) : Type 0 where
  pub is : r ≡ cell_place depth k q 0
  pub below : r < n * n * depth
