use Rattle.plan.specs.Desk.{desk_of}
use Rattle.side.proofs.ChoiceLaws.{ServedBelow}
use Rattle.side.proofs.choices.serve_all.Given as goal

abbrev pub invariant-loop-p : goal.invariant-loop-p
invariant-loop-p l = ServedBelow (λ q. desk_of l.running l.waiting l.n q l.takeover) l.fn.ports l.t l.slot l.p l.side
