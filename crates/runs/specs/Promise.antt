-- What is promised of every run: demand 3, and the sentences under "Runs" in the scope, for each flow (i, j) of the switch.
use Rattle.std.specs.Prelude.{ℕ, ◌+◌, ◌<◌, ◌≤◌, ◌≡◌, List, [], ◌∷◌, ◌++◌, length, take, get_or}
use Rattle.refusal.specs.Number.{number_of, verdict_number_of}
use Rattle.refusal.specs.declared.Refusal.TheVariants.{StateInvalid, CrosspointFull}
use Rattle.refusal.specs.Verdict.{Verdict}
use Rattle.plan.specs.Lines.{flow_of}
use Rattle.crossbar.specs.State.{queue_at, point_at}
use Rattle.fabric.specs.Flow.{cell_place}
use Rattle.crossbar.specs.Start.{start_of}
use Rattle.crossbar.specs.declared.state.Switch.{Switch}
use Rattle.plan.specs.Below.{list_below}
use Rattle.runs.specs.Event.{Event}
use Rattle.runs.specs.Event.Event.{stepped, arrived, loaded}
use Rattle.runs.specs.Run.{Run, final_state, final_store, defined_run, calls_of}
use Rattle.runs.specs.Flow.{accepted, moved, left, slots, NeverEmpty, HasRate, share_up, share_down}

-- a crosspoint's cells, "first place first, as many as its count"
abbrev pub point_cells : Switch → ℕ → List ℕ
point_cells s k = take (point_at s k).count (point_at s k).cells

-- a queue's cells in the store, "oldest first, as many as its count"
abbrev pub queue_cells : Switch → List ℕ → ℕ → List ℕ
queue_cells s store k = list_below (λ m. get_or store (cell_place s.depth k (queue_at s k) m) 0) (queue_at s k).count

abbrev pub verdict_in : Event → Verdict
verdict_in (stepped lent r) = r.verdict
verdict_in (arrived lent i j cell r left) = r.verdict
verdict_in (loaded n t rates r) = r.verdict

-- the crossing of flow (i, j) holds two cells at most when `before` has moved cells into it and `gone` has taken some out
pub record Holds (i j : ℕ) (into gone : List Event) : Type 0 where
  pub never_below : length (left i j gone) ≤ length (moved i j into)
  pub two_at_most : length (moved i j into) ≤ length (left i j gone) + 2

-- the promise about one flow in one run
pub record FlowPromise (run : Run) (i j : ℕ) : Type 0 where
  -- "each step's end of part 3, where this step's moves count and its sends don't yet"
  pub midway : (before : List Event) (e : Event) (after : List Event) → run.events ≡ before ++ (e ∷ after) → Holds i j (before ++ (e ∷ [])) before
  -- "and the end of each call"
  pub between : (before after : List Event) → run.events ≡ before ++ after → Holds i j before before
  -- "After the run, moved equals left followed by the crosspoint's cells"
  pub crossing : let s = final_state run.reply.state run.events in
      moved i j run.events ≡ left i j run.events ++ point_cells s (flow_of run.ports i j)
  -- "Accepted equals moved followed by the queue's cells"
  pub queue : let s = final_state run.reply.state run.events in
      accepted i j run.events ≡ moved i j run.events ++ queue_cells s (final_store run.store run.events) (flow_of run.ports i j)
  -- "sent is at most l × a / T rounded up, plus 1"
  pub at_most : (before stretch after : List Event) (a : ℕ) → run.events ≡ before ++ (stretch ++ after) → HasRate i j a stretch
      → length (left i j stretch) ≤ share_up (slots stretch) a run.frame + 1
  -- "if board i never answers empty with j in the stretch, sent plus 3 is at least l × a / T rounded down"
  pub at_least : (before stretch after : List Event) (a : ℕ) → run.events ≡ before ++ (stretch ++ after) → HasRate i j a stretch
      → NeverEmpty i j stretch → share_down (slots stretch) a run.frame ≤ length (left i j stretch) + 3
  -- "and if it never does from the run's start to the stretch's end, sent plus 2"
  pub at_least_since_start : (before stretch after : List Event) (a : ℕ) → run.events ≡ before ++ (stretch ++ after) → HasRate i j a stretch
      → NeverEmpty i j (before ++ stretch) → share_down (slots stretch) a run.frame ≤ length (left i j stretch) + 2
  -- Stronger than these two, which the scope asks for: plus 2 is enough in every stretch, whatever was before it.
  pub two_short_at_most : (before stretch after : List Event) (a : ℕ) → run.events ≡ before ++ (stretch ++ after) → HasRate i j a stretch
      → NeverEmpty i j stretch → share_down (slots stretch) a run.frame ≤ length (left i j stretch) + 2

pub record Promise (run : Run) : Type 0 where
  -- "each call's answer, and the state and store after it, are the same as theirs": an event holds all three
  pub as_defined : run.events ≡ defined_run (start_of run.ports run.frame run.rates run.depth run.store).state run.store (calls_of run.events)
  -- "In a run no call gives 12 or 13."
  pub valid_throughout : (before : List Event) (e : Event) (after : List Event) → run.events ≡ before ++ (e ∷ after) → verdict_number_of (verdict_in e) ≡ number_of StateInvalid → ⊥
  pub never_a_third : (before : List Event) (e : Event) (after : List Event) → run.events ≡ before ++ (e ∷ after) → verdict_number_of (verdict_in e) ≡ number_of CrosspointFull → ⊥
  pub flows : (i j : ℕ) → i < run.ports → j < run.ports → FlowPromise run i j
