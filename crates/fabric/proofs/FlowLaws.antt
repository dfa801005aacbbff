-- The place of a cell is within the store.
use Prim.Native.Nat.{ℕ, ◌+◌, ◌*◌, ◌<◌, ◌≤◌}
use mathlib.Core.Path.{◌≡◌}
use native.Mathlib.Nat.{mul-le-mul, add-zero, mod-eq_of_lt}
use native.Mathlib.Omega.{arith}
use Rattle.plan.specs.Range.{most_ports, most_flows}
use Rattle.fabric.specs.Flow.{most_depth, cell_place}
use Rattle.fabric.specs.declared.flow.Queue.{Queue}
use Rattle.plan.proofs.LineLaws.{row_within, square_small}

-- place p of queue k is below the end of m queues
pub cell_below : (k m depth p : ℕ) → k < m → p < depth → k * depth + p < m * depth
cell_below k m depth p hk hp = omega (arith, row_within k m depth hk)

pub store_small : (n depth : ℕ) → n ≤ most_ports → depth ≤ most_depth → n * n * depth ≤ most_flows * most_depth
store_small n depth h d = mul-le-mul (square_small n h) d

-- the oldest cell stands at the queue's place
pub oldest_cell : (depth k : ℕ) (q : Queue) → q.place < depth → k * depth + q.place ≡ cell_place depth k q 0
oldest_cell depth k q h = rw (add-zero, mod-eq_of_lt h)
