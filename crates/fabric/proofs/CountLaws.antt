-- For the code's loop over the service counts: no port yet, and one more.
use Prim.Native.Nat.{ℕ, ◌+◌}
use mathlib.Core.Path.{◌≡◌, refl}
use mathlib.Core.List.{List}
use lib.ListN.{get_or, set}
use Rattle.multiplexer.specs.declared.Multiplexer.{Multiplexer}
use Rattle.side.specs.Choices.{no_multiplexer}
use Rattle.side.proofs.CountLaws.{ports_none, ports_next}
use Rattle.fabric.specs.Counts.{counted_of}
use Rattle.fabric.specs.declared.Fabric.{Fabric}

pub counted_none : (f : Fabric) (boards heads : List Multiplexer) → f ≡ counted_of f boards heads 0
counted_none f boards heads = rw (ports_none boards f.boards, ports_none heads f.heads) refl

pub counted_next : (f g : Fabric) (boards heads : List Multiplexer) (m : ℕ) → g ≡ counted_of f boards heads m
    → ◌≡◌ {A = Fabric}
    (record { queues = g.queues; crosspoints = g.crosspoints; boards = set g.boards m (get_or boards m no_multiplexer); heads = set g.heads m (get_or heads m no_multiplexer) })
    (counted_of f boards heads (m + 1))
counted_next f g boards heads m e = rw (ports_next boards f.boards m, ports_next heads f.heads m, e) refl
