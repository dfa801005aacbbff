-- A port after a slot, put together from what its parts answer.
use Prim.Native.Nat.{ℕ, ◌+◌}
use mathlib.Core.Path.{◌≡◌, refl}
use borrow.Author.Tests.{eq-eqb, ne_eqb}
use Rattle.std.specs.Prelude.{Option}
use Rattle.multiplexer.specs.Count.{count_of, end_frame_of}
use Rattle.multiplexer.specs.Serve.{served_with}
use Rattle.multiplexer.specs.declared.Multiplexer.{Multiplexer}
use Rattle.multiplexer.specs.declared.Served.{Served}

module _
    (m : Multiplexer) (n frame slot : ℕ) {c choice : Option ℕ} {counted : Multiplexer} (counts : counted ≡ count_of m c) (chosen : choice ≡ c)
  where
    pub served_last : {port : Multiplexer} → slot + 1 ≡ frame → port ≡ end_frame_of counted n
        → ◌≡◌ {A = Served} (record { port = port; choice = choice }) (served_with m c n frame slot)
    served_last last ended = rw (eq-eqb (slot + 1) frame last, ended, counts, chosen) refl

    pub served_on : (slot + 1 ≡ frame → ⊥) → ◌≡◌ {A = Served} (record { port = counted; choice = choice }) (served_with m c n frame slot)
    served_on more = rw (ne_eqb (slot + 1) frame more, counts, chosen) refl
