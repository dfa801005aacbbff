use mathlib.Core.Path.{◌≡◌}
use Rattle.fabric.specs.Sends.{Sends, sends_of}
use Rattle.fabric.proofs.Fabric.sent.Given as goal

abbrev pub invariant-loop-j : goal.invariant-loop-j
invariant-loop-j l = record {
  queues : l.self.queues ≡ l.initial.self.queues;
  boards : l.self.boards ≡ l.initial.self.boards;
  heads : l.self.heads ≡ l.initial.self.heads;
  sends : ◌≡◌ {A = Sends} (record { crosspoints = l.self.crosspoints; answers = l.answers }) (sends_of l.n l.fn.choices l.initial.self.crosspoints l.j);
}
