-- "On a record made under one plan from a frame start, for l of 1 or more and a rate above 0, the most is at most
-- (l − 1) × a / T rounded up, plus 1, and the least at least (l + 1) × a / T rounded down, less 1."
use Rattle.std.specs.Prelude.{ℕ, ◌+◌, ◌-◌, ◌*◌, ◌/◌, ◌≤◌, ◌<◌, ◌≡◌, List, length, get_or, Ok}
use Rattle.plan.specs.Lines.{flow_of}
use Rattle.plan.specs.Accept.{accept_of}
use Rattle.multiplexer.specs.Choose.{rounded_up}
use Rattle.multiplexer.specs.Window.{column_of, Fits, FrameStart, WindowRule}
use Rattle.meter.specs.Cover.{cover_at, Inside}
use Rattle.meter.specs.Answer.{Covers}
use Rattle.meter.specs.Record.{UnderOnePlan}
use Rattle.meter.specs.declared.Measured.{Measured}

abbrev pub most_bound : ℕ → ℕ → ℕ → ℕ
most_bound l a T = rounded_up ((l - 1) * a) T + 1

-- 0 where (l + 1) × a is below T
abbrev pub least_bound : ℕ → ℕ → ℕ → ℕ
least_bound l a T = (l + 1) * a / T - 1

pub record WithinBounds (l a T least most : ℕ) : Type 0 where
  pub at_least : least_bound l a T ≤ least
  pub at_most : most ≤ most_bound l a T

-- what is promised of the services of a flow with rate a; a rate of 0 is no exception
pub record Smooth (recorded : List ℕ) (flow a T : ℕ) : Type 0 where
  -- at each place of a record of any length
  pub everywhere : (l t : ℕ) → 1 ≤ l → Inside recorded l t → WithinBounds l a T (cover_at recorded flow l t) (cover_at recorded flow l t)
  -- of what `cover` answers
  pub measured : (l : ℕ) (r : Measured) → 1 ≤ l → Covers recorded flow l (Ok r) → WithinBounds l a T r.least.services r.most.services

-- The theorem: the window rule for each frame that begins with counts 0 is enough.
abbrev pub SmoothByWindows : List ℕ → ℕ → Type 0
SmoothByWindows rs T =
    Fits rs T → ((ks : List ℕ) → FrameStart ks (length rs) → WindowRule rs ks T)
    → (recorded : List ℕ) → UnderOnePlan rs T recorded
    → (f : ℕ) → f < length rs → Smooth recorded f (get_or rs f 0) T

-- So it holds of the record of each head of an accepted plan.
abbrev pub SmoothHeads : ℕ → ℕ → List ℕ → Type 0
SmoothHeads n T rates =
    accept_of n T rates ≡ Ok tt → (i j : ℕ) → i < n → j < n
    → (recorded : List ℕ) → UnderOnePlan (column_of rates n j) T recorded → Smooth recorded i (get_or rates (flow_of n i j) 0) T
