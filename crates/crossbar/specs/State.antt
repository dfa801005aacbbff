-- The parts of the state by flow and port.
use Rattle.std.specs.Prelude.{ℕ, ◌*◌, Bool, ◌&&◌, leb, eqb, get_or}
use Rattle.plan.specs.Flag.{is_set}
use Rattle.side.specs.Choices.{no_multiplexer}
use Rattle.fabric.specs.Flow.{most_depth, no_queue, no_point}
use Rattle.fabric.specs.declared.flow.Queue.{Queue}
use Rattle.fabric.specs.declared.flow.Crosspoint.{Crosspoint}
use Rattle.crossbar.specs.declared.state.Switch.{Switch}

-- whether a plan waits: "none waits" is 0, and a state made by hand may hold any other number
abbrev pub has_waiting : Switch → Bool
has_waiting s = is_set s.waits

abbrev pub queue_at : Switch → ℕ → Queue
queue_at s k = get_or s.fabric.queues k no_queue

abbrev pub point_at : Switch → ℕ → Crosspoint
point_at s k = get_or s.fabric.crosspoints k no_point

-- how often board i served head j in this frame, and head j board i
abbrev pub board_count : Switch → ℕ → ℕ → ℕ
board_count s i j = get_or (get_or s.fabric.boards i no_multiplexer).served j 0

abbrev pub head_count : Switch → ℕ → ℕ → ℕ
head_count s i j = get_or (get_or s.fabric.heads j no_multiplexer).served i 0

-- "The queue depth Q is 1 to 64 cells."
unfoldable pub depth_in_range : ℕ → Bool
depth_in_range depth = leb 1 depth && leb depth most_depth

-- "a lent store of N × N × Q numbers"
unfoldable pub store_fits : ℕ → ℕ → ℕ → Bool
store_fits n depth len = eqb len (n * n * depth)
