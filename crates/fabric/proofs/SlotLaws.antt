-- The phases of a slot together, where no port acts, and what the code asks of them.
use Prim.Native.Nat.{ℕ}
use mathlib.Core.Path.{◌≡◌, refl}
use mathlib.Core.List.{List}
use native.Mathlib.Omega.{arith}
use Rattle.std.specs.Prelude.{Option}
use Rattle.fabric.specs.Answer.{all_idle}
use Rattle.side.specs.Choices.{CanChoose}
use Rattle.side.proofs.CountLaws.{ports_none}
use Rattle.fabric.specs.Moves.{moves_of}
use Rattle.fabric.specs.Sends.{sends_of}
use Rattle.fabric.specs.Slot.{run_of}
use Rattle.fabric.specs.declared.Fabric.{Fabric}
use Rattle.side.specs.declared.choices.Side.{Side}

pub run_none : (depth : ℕ) (store : List ℕ) (boards heads : Side) (f : Fabric)
    → run_of 0 depth store boards heads f ≡ record { fabric = f; moves = all_idle; sends = all_idle }
unfolding moves_of sends_of
run_none depth store boards heads f = rw (ports_none boards.ports f.boards, ports_none heads.ports f.heads) refl

pub none_chooses : (choices : List (Option ℕ)) → CanChoose 0 choices
none_chooses choices = record { few_ports = omega arith; named = λ p q l. absurd (omega arith) }
