-- "For a flow number and a length l they want the least and the most services in any l consecutive slots of the record,
-- with the first place where each occurs." What `cover` answers.
use Rattle.std.specs.Prelude.{ℕ, ◌≤◌, ◌≡◌, Bool, ◌||◌, List, ltb, length, Result, Ok, Err, IsOkAnd}
use Rattle.refusal.specs.Chain.{refuse_if}
use Rattle.refusal.specs.declared.Refusal.{Refusal}
use Rattle.refusal.specs.declared.Refusal.TheVariants.{RecordLength}
use Rattle.refusal.specs.Verdict.{Verdict}
use Rattle.meter.specs.Cover.{most_record, MinimumCover, MaximumCover}
use Rattle.meter.specs.declared.Measured.{Measured}
use Rattle.meter.specs.declared.Stretch.{Stretch}

-- "17 for l above the record's length or a record above 65,535 slots"
abbrev pub wrong_length : ℕ → ℕ → Bool
wrong_length slots l = ltb slots l || ltb most_record slots

unfoldable pub cover_verdict : ℕ → ℕ → Verdict
cover_verdict slots l = refuse_if (wrong_length slots l) RecordLength (Ok tt)

-- an accepted answer
pub record Measures (recorded : List ℕ) (flow l : ℕ) (r : Measured) : Type 0 where
  pub least : MinimumCover recorded flow l r.least
  pub most : MaximumCover recorded flow l r.most

-- what is answered under a verdict: a measurement where it accepts, and otherwise its refusal
abbrev pub CoversUnder : Verdict → List ℕ → ℕ → ℕ → Result Measured Refusal → Type 0
CoversUnder (Ok _) recorded flow l r = IsOkAnd r (Measures recorded flow l)
CoversUnder (Err why) recorded flow l r = r ≡ Err why

abbrev pub Covers : List ℕ → ℕ → ℕ → Result Measured Refusal → Type 0
Covers recorded flow l r = CoversUnder (cover_verdict (length recorded) l) recorded flow l r

abbrev none : Stretch
none = record { services = 0; place = 0 }

-- "For l = 0 both are 0 at place 0", also for an empty record
abbrev pub NoSlots : List ℕ → ℕ → Type 0
NoSlots recorded flow = length recorded ≤ most_record → Covers recorded flow 0 (Ok (record { least = none; most = none }))

-- there is one answer that satisfies a description
pub record OneAnswer (Is : Result Measured Refusal → Type 0) : Type 0 where
  pub answer : Result Measured Refusal
  pub is : Is answer
  pub only : (r : Result Measured Refusal) → Is r → r ≡ answer
