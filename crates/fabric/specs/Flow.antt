-- The flows of the switch: queues and crosspoints, in lists.
use Rattle.std.specs.Prelude.{ℕ, ◌+◌, ◌*◌, ◌%◌, []}
use Rattle.fabric.specs.declared.flow.Queue.{Queue}
use Rattle.fabric.specs.declared.flow.Crosspoint.{Crosspoint}

-- "The queue depth Q is 1 to 64 cells." Only this file and src/flow.rt have this limit.
abbrev pub most_depth : ℕ
most_depth = 64

-- "Each crosspoint holds two cells and a count from 0 to 2."
abbrev pub crosspoint_depth : ℕ
crosspoint_depth = 2

-- what a place past the end of a list reads as
abbrev pub no_queue : Queue
no_queue = record { place = 0; count = 0 }

abbrev pub no_point : Crosspoint
no_point = record { cells = []; count = 0 }

-- "flow (i, j) has the Q places from (i × N + j) × Q. The first cell goes to its first place, each later one to the
-- next place, and after the last place the first again." Where cell number m of a queue stands, the oldest being 0.
abbrev pub cell_place : ℕ → ℕ → Queue → ℕ → ℕ
cell_place depth k q m = k * depth + (q.place + m) % depth
