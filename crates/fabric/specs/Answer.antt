-- What a port's answer says: "idle; empty (served, nothing to move), with the other port; moved, with the other port
-- and the cell."
use Rattle.std.specs.Prelude.{ℕ, Bool, false, cond, List, [], ◌∷◌, eqb, get_or, replicate}
use Rattle.plan.specs.Range.{most_ports}
use Rattle.fabric.specs.declared.flow.Answer.{Answer}
use Rattle.fabric.specs.declared.flow.Answer.TheVariants.{Idle, Empty, Moved}

-- the number of each case, in the order in which the scope names them
abbrev pub kind_of : Answer → ℕ
kind_of Idle = 0
kind_of (Empty other) = 1
kind_of (Moved other cell) = 2

-- the cells that went between a port and another, by the port's answer: one or none
abbrev pub cells_with : ℕ → Answer → List ℕ
cells_with p Idle = []
cells_with p (Empty other) = []
cells_with p (Moved other cell) = cond (eqb other p) (cell ∷ []) []

-- whether a port served another and had no cell
abbrev pub empty_with : ℕ → Answer → Bool
empty_with p Idle = false
empty_with p (Empty other) = eqb other p
empty_with p (Moved other cell) = false

-- the answer of port p in a list of the ports' answers
abbrev pub answer_of : List Answer → ℕ → Answer
answer_of answers p = get_or answers p Idle

abbrev pub all_idle : List Answer
all_idle = replicate most_ports Idle
