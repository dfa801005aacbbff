-- Number 12's rules for the service counts: "a service count is above its running rate, or one is not 0 in slot 0".
use Rattle.std.specs.Prelude.{ℕ, ◌*◌, Bool, ◌&&◌, List, get_or}
use Rattle.plan.specs.Below.{all_below}
use Rattle.multiplexer.specs.Valid.{port_valid}
use Rattle.multiplexer.specs.declared.Multiplexer.{Multiplexer}
use Rattle.side.specs.Choices.{no_multiplexer}

-- The counts of n ports, port p's count of flow f judged by the rate at place p × across + f × along: boards have
-- (n, 1), heads (1, n).
unfoldable pub ports_valid : List ℕ → List Multiplexer → ℕ → ℕ → ℕ → ℕ → Bool
ports_valid rates ports n across along slot = all_below (λ p. port_valid rates (get_or ports p no_multiplexer).served n (p * across) along slot) n

-- the counts of boards and heads, judged by the rates of the running plan
abbrev pub counts_valid : List ℕ → List Multiplexer → List Multiplexer → ℕ → ℕ → Bool
counts_valid rates boards heads n slot = ports_valid rates boards n n 1 slot && ports_valid rates heads n 1 n slot
