-- "A run is any list of steps, arrivals and loads, refused ones among them, on one state and one store. It begins with
-- the state of an accepted start and the store given to that start, which may hold anything. Each call gets the state that
-- the last one returned and the store as that one left it; nobody else writes either meanwhile."
use Rattle.std.specs.Prelude.{ℕ, ◌≡◌, List, [], ◌∷◌, length, Ok}
use Rattle.crossbar.specs.Start.{Starts}
use Rattle.crossbar.specs.Arrive.{Arrives, arrive_of}
use Rattle.crossbar.specs.Load.{Loads, load_of}
use Rattle.crossbar.specs.Step.{Steps, step_of}
use Rattle.crossbar.specs.declared.state.Switch.{Switch}
use Rattle.crossbar.specs.declared.state.Reply.{Reply}
use Rattle.runs.specs.Event.{Call, Event, call_of, state_after, store_after}
use Rattle.runs.specs.Event.Lent.{own, other}
use Rattle.runs.specs.Event.Call.{step, arrive, load}
use Rattle.runs.specs.Event.Event.{stepped, arrived, loaded}

-- "a list of another length in the store's place"
abbrev pub OtherLength : List ℕ → List ℕ → Type 0
OtherLength l store = length l ≡ length store → ⊥

-- An event can happen in this state with this store: its outcome satisfies what the operation ensures. The predicates
-- are those of the contracts of `step`, `arrive` and `load`.
abbrev pub Happens : Switch → List ℕ → Event → Type 0
Happens s store (stepped own r) = Steps s store r
Happens s store (stepped (other l) r) = OtherLength l store × Steps s l r
Happens s store (arrived own i j cell r left) = Arrives s store i j cell r left
Happens s store (arrived (other l) i j cell r left) = OtherLength l store × Arrives s l i j cell r left
Happens s store (loaded n t rates r) = Loads s n t rates r

-- events that happen one after the other
abbrev pub Follow : Switch → List ℕ → List Event → Type 0
Follow s store [] = Unit {0}
Follow s store (e ∷ es) = Happens s store e × Follow (state_after e) (store_after store e) es

pub record Run : Type 0 where
  -- the start: N, T, rates, Q, the store, and its answer
  pub ports : ℕ
  pub frame : ℕ
  pub rates : List ℕ
  pub depth : ℕ
  pub store : List ℕ
  pub reply : Reply
  pub starts : Starts ports frame rates depth store reply
  pub accepted : reply.verdict ≡ Ok tt
  -- the calls, with what they were answered
  pub events : List Event
  pub follow : Follow reply.state store events

-- the state and the store after a list of events
abbrev pub final_state : Switch → List Event → Switch
final_state s [] = s
final_state s (e ∷ es) = final_state (state_after e) es

abbrev pub final_store : List ℕ → List Event → List ℕ
final_store store [] = store
final_store store (e ∷ es) = final_store (store_after store e) es

-- "The definitions of demand 2 are run from the same plan, Q and store on these calls alone".
abbrev pub answered : Switch → List ℕ → Call → Event
answered s store (step own) = stepped own (step_of s store)
answered s store (step (other l)) = stepped (other l) (step_of s l)
answered s store (arrive own i j cell) = let a = arrive_of s store i j cell in arrived own i j cell a.reply a.store
answered s store (arrive (other l) i j cell) = let a = arrive_of s l i j cell in arrived (other l) i j cell a.reply a.store
answered s store (load n t rates) = loaded n t rates (load_of s n t rates)

unfoldable pub defined_run : Switch → List ℕ → List Call → List Event
defined_run s store [] = []
defined_run s store (c ∷ cs) = let e = answered s store c in e ∷ defined_run (state_after e) (store_after store e) cs

-- the calls of a list of events
unfoldable pub calls_of : List Event → List Call
calls_of [] = []
calls_of (e ∷ es) = call_of e ∷ calls_of es
