-- "Each chosen flow of an output sends the oldest cell of its crosspoint, if it has one, counting a cell moved in this
-- slot." "Its oldest cell is in the first place; sending moves the second one up, and the place that falls empty is set
-- to 0."
use Rattle.std.specs.Prelude.{ℕ, zero, suc, ◌-◌, cond, List, eqb, ltb, get_or, set, Option, Some, None}
use Rattle.plan.specs.Lines.{flow_of}
use Rattle.fabric.specs.Flow.{no_point}
use Rattle.fabric.specs.Answer.{all_idle}
use Rattle.side.specs.Choices.{choice_at}
use Rattle.fabric.specs.declared.flow.Answer.{Answer}
use Rattle.fabric.specs.declared.flow.Answer.TheVariants.{Empty, Moved}
use Rattle.fabric.specs.declared.flow.Crosspoint.{Crosspoint}
use Rattle.fabric.specs.declared.sends.Send.{Send}
use Rattle.fabric.specs.declared.AfterServices.{AfterServices}
use Rattle.fabric.specs.declared.Fabric.{Fabric}

-- the cells after the oldest one left: of two the second moves up, and the place behind the last cell is 0
abbrev pub moved_up : Crosspoint → List ℕ
moved_up x =
    cond (ltb 1 x.count)
    (set (set x.cells 0 (get_or x.cells 1 0)) 1 0)
    (set x.cells 0 0)

-- a crosspoint without its oldest cell
abbrev pub without_oldest : Crosspoint → Crosspoint
without_oldest x = record { cells = moved_up x; count = x.count - 1 }

-- a head's service of board i that finds no cell in its crosspoint
abbrev pub send_none : ℕ → Crosspoint → Send
send_none i x = record { point = x; answer = Empty i }

-- one that finds a cell
abbrev pub send_cell : ℕ → Crosspoint → Send
send_cell i x = record { point = without_oldest x; answer = Moved i (get_or x.cells 0 0) }

-- what a head's service of board i makes of its crosspoint
unfoldable pub send_of : ℕ → Crosspoint → Send
send_of i x = cond (eqb x.count 0) (send_none i x) (send_cell i x)

-- what the heads' services change
pub record Sends : Type 0 where
  pub crosspoints : List Crosspoint
  pub answers : List Answer

-- head j's part of the slot
unfoldable pub head_sends : ℕ → ℕ → Option ℕ → Sends → Sends
head_sends n j None f = f
head_sends n j (Some i) f =
    let k = flow_of n i j in
    let r = send_of i (get_or f.crosspoints k no_point) in
    record { crosspoints = set f.crosspoints k r.point; answers = set f.answers j r.answer }

-- the heads below m
unfoldable pub sends_of : ℕ → List (Option ℕ) → List Crosspoint → ℕ → Sends
sends_of n choices points zero = record { crosspoints = points; answers = all_idle }
sends_of n choices points (suc m) = head_sends n m (choice_at choices m) (sends_of n choices points m)

-- the same on the fabric, whose queues and counts stay: all n heads
abbrev pub sent_of : ℕ → List (Option ℕ) → Fabric → AfterServices
sent_of n choices f =
    let s = sends_of n choices f.crosspoints n in
    record {
      fabric = record { queues = f.queues; crosspoints = s.crosspoints; boards = f.boards; heads = f.heads };
      answers = s.answers;
    }
