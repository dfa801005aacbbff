-- The service counts after a slot: "At the end of slot T − 1 the slot number and all service counts return to 0."
use Rattle.std.specs.Prelude.{ℕ, zero, suc, Bool, List, get_or, set, Option}
use Rattle.multiplexer.specs.Serve.{port_after}
use Rattle.multiplexer.specs.declared.Multiplexer.{Multiplexer}
use Rattle.side.specs.Choices.{no_multiplexer, choice_at}

-- the ports below m
unfoldable pub counts_of : ℕ → Bool → List (Option ℕ) → List Multiplexer → ℕ → List Multiplexer
counts_of n ends choices ports zero = ports
counts_of n ends choices ports (suc m) =
    set (counts_of n ends choices ports m) m (port_after n ends (choice_at choices m) (get_or ports m no_multiplexer))

-- For the code, which has the counts from the ports' own slots: the ports below m out of one list, the others out of another.
unfoldable pub ports_below : List Multiplexer → List Multiplexer → ℕ → List Multiplexer
ports_below after ports zero = ports
ports_below after ports (suc m) = set (ports_below after ports m) m (get_or after m no_multiplexer)
