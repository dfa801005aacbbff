-- The shares of demand 3 can't be sharpened: there are runs with stretches that reach them.
use Rattle.std.specs.Prelude.{ℕ, ◌+◌, ◌≡◌, List, ◌++◌, length}
use Rattle.runs.specs.Event.{Event}
use Rattle.runs.specs.Run.{Run}
use Rattle.runs.specs.Flow.{left, slots, NeverEmpty, HasRate, share_up, share_down}

-- a stretch of a run in which flow (i, j) has rate a
pub record StretchAt (run : Run) (i j a : ℕ) : Type 0 where
  pub before : List Event
  pub stretch : List Event
  pub after : List Event
  pub cut : run.events ≡ before ++ (stretch ++ after)
  pub rate : HasRate i j a stretch

-- the board never answers empty, from the run's start on, and the head is two cells short of l × a / T rounded down
pub record LowerReached (run : Run) (i j a : ℕ) : Type 0 where
  pub there : StretchAt run i j a
  pub fed : NeverEmpty i j (there.before ++ there.stretch)
  pub two_short : share_down (slots there.stretch) a run.frame ≡ length (left i j there.stretch) + 2

-- the head sends one cell more than l × a / T rounded up
pub record UpperReached (run : Run) (i j a : ℕ) : Type 0 where
  pub there : StretchAt run i j a
  pub one_more : length (left i j there.stretch) ≡ share_up (slots there.stretch) a run.frame + 1
