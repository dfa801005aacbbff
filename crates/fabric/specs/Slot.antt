-- For the code: the phases of a slot on the fabric, one after the other, for the ports below n.
use Rattle.std.specs.Prelude.{ℕ, List}
use Rattle.side.specs.Choices.{CanChoose}
use Rattle.fabric.specs.Counts.{counted_of}
use Rattle.fabric.specs.Moves.{moved_of, CanMoveAll}
use Rattle.fabric.specs.Sends.{sent_of}
use Rattle.fabric.specs.declared.Fabric.{Fabric}
use Rattle.side.specs.declared.choices.Side.{Side}
use Rattle.fabric.specs.declared.slot.AfterSlot.{AfterSlot}

abbrev pub run_of : ℕ → ℕ → List ℕ → Side → Side → Fabric → AfterSlot
run_of n depth store boards heads f =
    let m = moved_of n depth store boards.choices (counted_of f boards.ports heads.ports n) in
    let s = sent_of n heads.choices m.fabric in
    record { fabric = s.fabric; moves = m.answers; sends = s.answers }

pub record CanRun (n depth len : ℕ) (boards heads : Side) (f : Fabric) : Type 0 where
  pub moves : CanMoveAll n depth len boards.choices f.queues f.crosspoints
  pub sends : CanChoose n heads.choices
