-- One slot of a port, as a step: "A step takes the switch's state and hands back the next one".
use Rattle.std.specs.Prelude.{ℕ, ◌+◌, Bool, cond, List, eqb, length, Option}
use Rattle.multiplexer.specs.Choose.{choose_of}
use Rattle.multiplexer.specs.Count.{count_of, end_frame_of}
use Rattle.multiplexer.specs.declared.Multiplexer.{Multiplexer}
use Rattle.multiplexer.specs.declared.Served.{Served}

-- one port of n flows after a slot with this choice, which ends its frame or does not: "At the end of slot T − 1 the
-- slot number and all service counts return to 0."
abbrev pub port_after : ℕ → Bool → Option ℕ → Multiplexer → Multiplexer
port_after n ends choice m = cond ends (end_frame_of (count_of m choice) n) (count_of m choice)

-- a port of n flows after a slot with this choice, and the choice
abbrev pub served_with : Multiplexer → Option ℕ → ℕ → ℕ → ℕ → Served
served_with m c n frame slot = record { port = port_after n (eqb (slot + 1) frame) c m; choice = c }

-- the port with these rates after a slot, and its choice
abbrev pub serve_of : Multiplexer → List ℕ → ℕ → ℕ → Served
serve_of m rates frame slot = served_with m (choose_of rates m.served frame slot) (length rates) frame slot
