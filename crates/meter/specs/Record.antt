-- The record of a port that is served by one plan from a frame's start on.
use Rattle.std.specs.Prelude.{ℕ, zero, suc, ◌+◌, ◌≡◌, cond, List, [], ◌∷◌, eqb, length, Option, Some, None}
use Rattle.multiplexer.specs.Serve.{serve_of}
use Rattle.multiplexer.specs.Window.{FrameStart}
use Rattle.multiplexer.specs.declared.Multiplexer.{Multiplexer}
use Rattle.meter.specs.Cover.{idle_slot}

-- "which flow an output served, one 16-bit number a slot, 65,535 for idle"
abbrev pub entry_of : Option ℕ → ℕ
entry_of None = idle_slot
entry_of (Some f) = f

-- the slot after slot t of a frame of T: "At the end of slot T − 1 the slot number .. return to 0"
abbrev pub next_slot : ℕ → ℕ → ℕ
next_slot T t = cond (eqb (t + 1) T) 0 (t + 1)

-- the record of a port with rates rs, of as many slots as are wanted, from slot t of a frame of T slots on
unfoldable pub record_from : Multiplexer → List ℕ → ℕ → ℕ → ℕ → List ℕ
record_from m rs T t zero = []
record_from m rs T t (suc slots) =
    let served = serve_of m rs T t in
    entry_of served.choice ∷ record_from served.port rs T (next_slot T t) slots

-- "a record made under one plan from a frame start": the plan gives the port the rates rs in T slots
pub record UnderOnePlan (rs : List ℕ) (T : ℕ) (recorded : List ℕ) : Type 0 where
  pub port : Multiplexer
  pub starts : FrameStart port.served (length rs)
  pub is : recorded ≡ record_from port rs T 0 (length recorded)
