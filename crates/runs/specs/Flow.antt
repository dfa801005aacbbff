-- What a list of events says of one flow (i, j), read off the calls and the answers.
use Rattle.std.specs.Prelude.{ℕ, ◌+◌, ◌-◌, ◌*◌, ◌/◌, ◌≡◌, cond, ◌&&◌, List, [], ◌∷◌, ◌++◌, eqb, Ok}
use Rattle.refusal.specs.Chain.{if_accepted}
use Rattle.planpair.specs.Rates.{rate_at}
use Rattle.fabric.specs.Answer.{cells_with, empty_with, answer_of}
use Rattle.runs.specs.Event.{Event}
use Rattle.runs.specs.Event.Event.{stepped, arrived, loaded}

-- f of each event, one after the other
unfoldable pub collect : (Event → List ℕ) → List Event → List ℕ
collect f [] = []
collect f (e ∷ es) = f e ++ collect f es

-- the sum of f over the events
unfoldable pub total : (Event → ℕ) → List Event → ℕ
total f [] = 0
total f (e ∷ es) = f e + total f es

-- "Accepted are the cells of its arrivals that got no refusal, in the order of the list."
abbrev pub accepted_in : ℕ → ℕ → Event → List ℕ
accepted_in i j (stepped lent r) = []
accepted_in i j (arrived lent p q cell r left) = if_accepted r.verdict (cond (eqb p i && eqb q j) (cell ∷ []) []) []
accepted_in i j (loaded n t rates r) = []

-- "Moved are the cells that board i answers as moved to j, in order"
abbrev pub moved_in : ℕ → ℕ → Event → List ℕ
moved_in i j (stepped lent r) = cells_with j (answer_of r.moves i)
moved_in i j (arrived lent p q cell r left) = []
moved_in i j (loaded n t rates r) = []

-- "left, or sent, are those that head j answers as moved from i, in order."
abbrev pub left_in : ℕ → ℕ → Event → List ℕ
left_in i j (stepped lent r) = cells_with i (answer_of r.sends j)
left_in i j (arrived lent p q cell r left) = []
left_in i j (loaded n t rates r) = []

abbrev pub accepted : ℕ → ℕ → List Event → List ℕ
accepted i j es = collect (accepted_in i j) es

abbrev pub moved : ℕ → ℕ → List Event → List ℕ
moved i j es = collect (moved_in i j) es

abbrev pub left : ℕ → ℕ → List Event → List ℕ
left i j es = collect (left_in i j) es

-- "its slots are the steps that weren't refused"
abbrev pub slots_in : Event → ℕ
slots_in (stepped lent r) = if_accepted r.verdict 1 0
slots_in (arrived lent p q cell r left) = 0
slots_in (loaded n t rates r) = 0

abbrev pub slots : List Event → ℕ
slots es = total slots_in es

-- "board i never answers empty with j"
abbrev pub board_empty_in : ℕ → ℕ → Event → ℕ
board_empty_in i j (stepped lent r) = cond (empty_with j (answer_of r.moves i)) 1 0
board_empty_in i j (arrived lent p q cell r left) = 0
board_empty_in i j (loaded n t rates r) = 0

abbrev pub NeverEmpty : ℕ → ℕ → List Event → Type 0
NeverEmpty i j es = total (board_empty_in i j) es ≡ 0

-- "The flow has a of T slots through it if its rate in the plan that runs after part 1 is a in each of them". A step
-- hands back the state with that plan still running.
abbrev pub RateIn : ℕ → ℕ → ℕ → Event → Type 0
RateIn i j a (stepped lent r) = r.verdict ≡ Ok tt → rate_at r.state.running i j ≡ a
RateIn i j a (arrived lent p q cell r left) = Unit {0}
RateIn i j a (loaded n t rates r) = Unit {0}

abbrev pub HasRate : ℕ → ℕ → ℕ → List Event → Type 0
HasRate i j a [] = Unit {0}
HasRate i j a (e ∷ es) = RateIn i j a e × HasRate i j a es

-- "l × a / T rounded up", and rounded down
abbrev pub share_up : ℕ → ℕ → ℕ → ℕ
share_up l a t = (l * a + (t - 1)) / t

abbrev pub share_down : ℕ → ℕ → ℕ → ℕ
share_down l a t = l * a / t
