-- The record of a port, slot by slot.
use Prim.Native.Nat.{ℕ, zero, suc}
use mathlib.Core.Path.{◌≡◌, refl, ap}
use mathlib.Core.List.{List, [], ◌∷◌}
use lib.ListN.{length}
use Rattle.multiplexer.specs.Serve.{serve_of}
use Rattle.multiplexer.specs.declared.Multiplexer.{Multiplexer}
use Rattle.meter.specs.Record.{entry_of, next_slot, record_from}

pub record_none : (m : Multiplexer) (rs : List ℕ) (T t : ℕ) → record_from m rs T t 0 ≡ []
unfolding record_from
record_none m rs T t = refl

pub record_next : (m : Multiplexer) (rs : List ℕ) (T t slots : ℕ)
    → record_from m rs T t (suc slots) ≡ entry_of (serve_of m rs T t).choice ∷ record_from (serve_of m rs T t).port rs T (next_slot T t) slots
unfolding record_from
record_next m rs T t slots = refl

pub record_length : (m : Multiplexer) (rs : List ℕ) (T t slots : ℕ) → length (record_from m rs T t slots) ≡ slots
unfolding record_from
record_length m rs T t zero = refl
record_length m rs T t (suc slots) = ap suc (record_length (serve_of m rs T t).port rs T (next_slot T t) slots)
