-- Which plan runs: the one that was accepted last before the frame began. "A plan that was replaced never ran" (L5).
use Rattle.std.specs.Prelude.{ℕ, ◌≡◌, List, [], ◌∷◌, ◌++◌, map, Ok}
use Rattle.refusal.specs.Chain.{if_accepted}
use Rattle.planpair.specs.Rates.{plan_rates}
use Rattle.crossbar.specs.Load.{with_waiting, load_of}
use Rattle.crossbar.specs.declared.state.Switch.{Switch}
use Rattle.crossbar.specs.declared.state.Reply.{Reply}
use Rattle.runs.specs.Event.{Event, state_after}
use Rattle.runs.specs.Event.Event.{stepped, arrived, loaded}
use Rattle.runs.specs.Run.{Run, final_state, final_store, defined_run, calls_of}

-- the rates of the plan accepted last, after one event and after several, where `rates` were those before them
abbrev pub accepted_after : List ℕ → Event → List ℕ
accepted_after rates (stepped lent r) = rates
accepted_after rates (arrived lent i j cell r left) = rates
accepted_after rates (loaded n t new r) = if_accepted r.verdict new rates

abbrev pub last_accepted : List ℕ → List Event → List ℕ
last_accepted rates [] = rates
last_accepted rates (e ∷ es) = last_accepted (accepted_after rates e) es

-- an event in state s is the first slot of a frame
abbrev pub BeginsFrame : Switch → Event → Type 0
BeginsFrame s (stepped lent r) = (r.verdict ≡ Ok tt) × (s.slot ≡ 0)
BeginsFrame s (arrived lent i j cell r left) = ⊥
BeginsFrame s (loaded n t rates r) = ⊥

-- an event is a load that is accepted
abbrev pub PutsInWaiting : Event → Type 0
PutsInWaiting (stepped lent r) = ⊥
PutsInWaiting (arrived lent i j cell r left) = ⊥
PutsInWaiting (loaded n t rates r) = r.verdict ≡ Ok tt

-- from state s on, a waiting plan neither takes over nor is replaced
abbrev pub StillWaits : Switch → List Event → Type 0
StillWaits s [] = Unit {0}
StillWaits s (e ∷ es) = (BeginsFrame s e → ⊥) × (PutsInWaiting e → ⊥) × StillWaits (state_after e) es

-- the same event, but that this plan stands in waiting in the state handed back
abbrev pub while_waiting : ℕ → ℕ → List ℕ → Event → Event
while_waiting n t rates (stepped lent r) =
    stepped lent (record { verdict = r.verdict; state = with_waiting r.state n t rates; moves = r.moves; sends = r.sends })
while_waiting n t rates (arrived lent i j cell r left) =
    arrived lent i j cell (record { verdict = r.verdict; state = with_waiting r.state n t rates }) left
while_waiting n t rates (loaded m u new r) =
    loaded m u new (record { verdict = r.verdict; state = with_waiting r.state n t rates })

-- A first plan waits from state s on, and then a second load gets the answer q. Without the first load every answer between
-- would have been the same, and so would be the answer to the second with its state, the store, and so all that follows.
pub record NeverRan (s : Switch) (store : List ℕ) (n t : ℕ) (first : List ℕ) (between : List Event) (m u : ℕ) (second : List ℕ) (q : Reply) : Type 0 where
  pub same_between : between ≡ map (while_waiting n t first) (defined_run s store (calls_of between))
  pub same_store : final_store store between ≡ final_store store (defined_run s store (calls_of between))
  pub same_after : q ≡ load_of (final_state s (defined_run s store (calls_of between))) m u second

pub record PlanPromise (run : Run) : Type 0 where
  -- "the plan that takes over is the last one accepted"
  pub last_takes_over : (before : List Event) (e : Event) (after : List Event) → run.events ≡ before ++ (e ∷ after)
      → BeginsFrame (final_state run.reply.state before) e → plan_rates (state_after e).running ≡ last_accepted run.rates before
  -- and none takes over but where a frame begins
  pub stays : (before : List Event) (e : Event) (after : List Event) → run.events ≡ before ++ (e ∷ after)
      → (BeginsFrame (final_state run.reply.state before) e → ⊥) → (state_after e).running ≡ (final_state run.reply.state before).running
  -- "A plan that was replaced never ran"
  pub replaced_never_ran : (before : List Event) (n t : ℕ) (first : List ℕ) (r : Reply) (between : List Event) (m u : ℕ) (second : List ℕ) (q : Reply) (after : List Event)
      → run.events ≡ before ++ (loaded n t first r ∷ (between ++ (loaded m u second q ∷ after)))
      → r.verdict ≡ Ok tt → StillWaits r.state between → q.verdict ≡ Ok tt
      → NeverRan (final_state run.reply.state before) (final_store run.store before) n t first between m u second q
