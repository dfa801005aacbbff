use mathlib.Core.Path.{◌≡◌}
use Rattle.fabric.specs.Moves.{Moves, moves_of}
use Rattle.fabric.proofs.Fabric.moved.Given as goal

abbrev pub invariant-loop-i : goal.invariant-loop-i
invariant-loop-i l = record {
  boards : l.self.boards ≡ l.initial.self.boards;
  heads : l.self.heads ≡ l.initial.self.heads;
  moves : ◌≡◌ {A = Moves} (record { queues = l.self.queues; crosspoints = l.self.crosspoints; answers = l.answers }) (moves_of l.n l.depth l.store l.fn.choices l.initial.self.queues l.initial.self.crosspoints l.i);
}
