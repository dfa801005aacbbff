-- "Each chosen flow of an input moves the oldest cell of its queue to its crosspoint, if it has one." Number 13: "a step
-- would put a third cell in a crosspoint".
use Rattle.std.specs.Prelude.{ℕ, zero, suc, ◌+◌, ◌-◌, ◌*◌, ◌%◌, ◌<◌, ◌≤◌, ◌≡◌, Bool, true, cond, ◌||◌, List, ltb, eqb, get_or, set, Option, Some, None}
use Rattle.plan.specs.Below.{all_below}
use Rattle.plan.specs.Lines.{flow_of}
use Rattle.fabric.specs.Flow.{most_depth, crosspoint_depth, no_queue, no_point, cell_place}
use Rattle.fabric.specs.Answer.{all_idle}
use Rattle.side.specs.Choices.{choice_at, CanChoose}
use Rattle.fabric.specs.declared.flow.Answer.{Answer}
use Rattle.fabric.specs.declared.flow.Answer.TheVariants.{Empty, Moved}
use Rattle.fabric.specs.declared.flow.Queue.{Queue}
use Rattle.fabric.specs.declared.flow.Crosspoint.{Crosspoint}
use Rattle.fabric.specs.declared.moves.Move.{Move}
use Rattle.fabric.specs.declared.AfterServices.{AfterServices}
use Rattle.fabric.specs.declared.Fabric.{Fabric}

-- a queue without its oldest cell
abbrev pub shorter : ℕ → Queue → Queue
shorter depth q = record { place = (q.place + 1) % depth; count = q.count - 1 }

-- a crosspoint with one cell more
abbrev pub filled : ℕ → Crosspoint → Crosspoint
filled cell x = record { cells = set x.cells x.count cell; count = x.count + 1 }

-- a board's service of head j that finds no cell in its queue
abbrev pub move_none : ℕ → Queue → Crosspoint → Move
move_none j q x = record { queue = q; point = x; answer = Empty j }

-- one that finds this cell
abbrev pub move_cell : ℕ → ℕ → ℕ → Queue → Crosspoint → Move
move_cell depth j cell q x = record { queue = shorter depth q; point = filled cell x; answer = Moved j cell }

-- what a board's service of head j makes of its queue, whose oldest cell is `cell`, and of its crosspoint
unfoldable pub move_of : ℕ → ℕ → ℕ → Queue → Crosspoint → Move
move_of depth j cell q x = cond (eqb q.count 0) (move_none j q x) (move_cell depth j cell q x)

-- what the boards' services change
pub record Moves : Type 0 where
  pub queues : List Queue
  pub crosspoints : List Crosspoint
  pub answers : List Answer

-- the move of flow k in the queues, crosspoints and answers so far
abbrev pub move_at : ℕ → List ℕ → ℕ → ℕ → Moves → Move
move_at depth store j k f =
    let q = get_or f.queues k no_queue in
    move_of depth j (get_or store (cell_place depth k q 0) 0) q (get_or f.crosspoints k no_point)

abbrev pub with_move : ℕ → ℕ → Moves → Move → Moves
with_move i k f r =
    record { queues = set f.queues k r.queue; crosspoints = set f.crosspoints k r.point; answers = set f.answers i r.answer }

-- board i's part of the slot
unfoldable pub board_moves : ℕ → ℕ → List ℕ → ℕ → Option ℕ → Moves → Moves
board_moves n depth store i None f = f
board_moves n depth store i (Some j) f = let k = flow_of n i j in with_move i k f (move_at depth store j k f)

-- the boards below m
unfoldable pub moves_of : ℕ → ℕ → List ℕ → List (Option ℕ) → List Queue → List Crosspoint → ℕ → Moves
moves_of n depth store choices queues points zero = record { queues = queues; crosspoints = points; answers = all_idle }
moves_of n depth store choices queues points (suc m) =
    board_moves n depth store m (choice_at choices m) (moves_of n depth store choices queues points m)

-- the same on the fabric, whose counts stay: all n boards
abbrev pub moved_of : ℕ → ℕ → List ℕ → List (Option ℕ) → Fabric → AfterServices
moved_of n depth store choices f =
    let m = moves_of n depth store choices f.queues f.crosspoints n in
    record {
      fabric = record { queues = m.queues; crosspoints = m.crosspoints; boards = f.boards; heads = f.heads };
      answers = m.answers;
    }

-- whether a service leaves its crosspoint at two cells or fewer
abbrev pub room_in : Queue → Crosspoint → Bool
room_in q x = eqb q.count 0 || ltb x.count crosspoint_depth

-- the same of board i's service
unfoldable pub room_for : ℕ → List Queue → List Crosspoint → ℕ → Option ℕ → Bool
room_for n queues points i None = true
room_for n queues points i (Some j) =
    let k = flow_of n i j in
    room_in (get_or queues k no_queue) (get_or points k no_point)

unfoldable pub room_for_all : ℕ → List (Option ℕ) → List Queue → List Crosspoint → Bool
room_for_all n choices queues points = all_below (λ i. room_for n queues points i (choice_at choices i)) n

-- For the code: what it asks of one move
pub record CanMove (depth : ℕ) (q : Queue) (x : Crosspoint) : Type 0 where
  pub some_depth : 1 ≤ depth
  pub few_cells : depth ≤ most_depth
  pub place : q.place < depth
  pub room : room_in q x ≡ true

-- and of all moves of a slot, in which none may act.
pub record CanMoveAll (n depth len : ℕ) (choices : List (Option ℕ)) (queues : List Queue) (points : List Crosspoint) : Type 0 where
  pub choosing : CanChoose n choices
  pub some_depth : 1 ≤ n → 1 ≤ depth
  pub few_cells : 1 ≤ n → depth ≤ most_depth
  pub fits : 1 ≤ n → len ≡ n * n * depth
  pub room : room_for_all n choices queues points ≡ true
  pub places : (k : ℕ) → k < n * n → (get_or queues k no_queue).place < depth
