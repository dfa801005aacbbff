-- What service staff record at a head: "in any run, take the slots from a frame's start on through which one plan runs; what
-- head j answered in them, read as a record," is "a record made under one plan from a frame start". So its covers keep the bounds.
use Rattle.std.specs.Prelude.{ℕ, ◌<◌, ◌≡◌, List, [], ◌∷◌, ◌++◌, length, get_or, Ok}
use Rattle.refusal.specs.Chain.{if_accepted}
use Rattle.plan.specs.Lines.{flow_of}
use Rattle.planpair.specs.Rates.{plan_rates}
use Rattle.multiplexer.specs.Window.{column_of}
use Rattle.meter.specs.Cover.{idle_slot}
use Rattle.meter.specs.Record.{UnderOnePlan}
use Rattle.meter.specs.Bound.{Smooth}
use Rattle.fabric.specs.Answer.{answer_of}
use Rattle.fabric.specs.declared.flow.Answer.{Answer}
use Rattle.fabric.specs.declared.flow.Answer.TheVariants.{Idle, Empty, Moved}
use Rattle.runs.specs.Event.{Event}
use Rattle.runs.specs.Event.Event.{stepped, arrived, loaded}
use Rattle.runs.specs.Run.{Run, final_state}
use Rattle.runs.specs.Flow.{slots}
use Rattle.runs.specs.Plans.{PutsInWaiting}

-- the entry for a head's answer: the board that it served, with a cell or without
abbrev pub entry_for : Answer → ℕ
entry_for Idle = idle_slot
entry_for (Empty i) = i
entry_for (Moved i cell) = i

-- what head j answered in an event; a step that is refused is no slot
abbrev pub entries_in : ℕ → Event → List ℕ
entries_in j (stepped lent r) = if_accepted r.verdict (entry_for (answer_of r.sends j) ∷ []) []
entries_in j (arrived lent p q cell r left) = []
entries_in j (loaded n t rates r) = []

abbrev pub head_record : ℕ → List Event → List ℕ
head_record j [] = []
head_record j (e ∷ es) = entries_in j e ++ head_record j es

-- the plan with these rates runs in each slot; a step hands back the state with that plan still running
abbrev pub RunsIn : List ℕ → Event → Type 0
RunsIn rates (stepped lent r) = r.verdict ≡ Ok tt → plan_rates r.state.running ≡ rates
RunsIn rates (arrived lent p q cell r left) = Unit {0}
RunsIn rates (loaded n t new r) = Unit {0}

abbrev pub OnePlan : List ℕ → List Event → Type 0
OnePlan rates [] = Unit {0}
OnePlan rates (e ∷ es) = RunsIn rates e × OnePlan rates es

-- what head j answered in a stretch of a run of n ports and T slots, in which the plan with these rates runs
pub record Recorded (n T : ℕ) (rates : List ℕ) (j : ℕ) (stretch : List Event) : Type 0 where
  -- an entry for each slot
  pub whole : length (head_record j stretch) ≡ slots stretch
  pub made : UnderOnePlan (column_of rates n j) T (head_record j stretch)
  pub smooth : (i : ℕ) → i < n → Smooth (head_record j stretch) i (get_or rates (flow_of n i j) 0) T

-- Of every run: before, stretch and after are its events; the stretch begins at a frame's start.
abbrev pub RecordPromise : Run → Type 0
RecordPromise run =
    (before stretch after : List Event) → run.events ≡ before ++ (stretch ++ after)
    → (final_state run.reply.state before).slot ≡ 0
    → (rates : List ℕ) → OnePlan rates stretch
    → (j : ℕ) → j < run.ports → Recorded run.ports run.frame rates j stretch

-- Such stretches are there in every run: where no load is accepted, all of it, from the start on, is one.
abbrev pub NoLoad : List Event → Type 0
NoLoad [] = Unit {0}
NoLoad (e ∷ es) = (PutsInWaiting e → ⊥) × NoLoad es

abbrev pub UndisturbedPromise : Run → Type 0
UndisturbedPromise run = NoLoad run.events → (j : ℕ) → j < run.ports → Recorded run.ports run.frame run.rates j run.events
