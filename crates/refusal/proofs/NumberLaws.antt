-- A number names one verdict: no two share one, and none has the retired one.
use Prim.Native.Nat.{ℕ}
use mathlib.Core.Path.{◌≡◌, refl, sym, ap, ◌∙◌}
use mathlib.Core.Bool.{cond}
use mathlib.Core.List.{List, [], ◌∷◌}
use native.Mathlib.Omega.{arith}
use lib.Dec.{eqb}
use Rattle.refusal.specs.Number.{retired, verdict_number_of}
use Rattle.refusal.specs.declared.Refusal.TheVariants.{PortsOutOfRange, FrameOutOfRange, ListLength, RowAboveFrame, ColumnAboveFrame, DepthOutOfRange, StoreLength, PlanMismatch, NoSuchPort, QueueFull, StateInvalid, CrosspointFull, NotPlanFile, FileLength, NotPlanText, RecordLength}
use Rattle.refusal.specs.Verdict.{Verdict}
use Rattle.std.specs.Prelude.{Ok, Err}

-- the verdicts, in any order
abbrev verdicts : List Verdict
verdicts =
    (Ok tt) ∷ Err PortsOutOfRange ∷ Err FrameOutOfRange ∷ Err ListLength ∷ Err RowAboveFrame ∷ Err ColumnAboveFrame
    ∷ Err DepthOutOfRange ∷ Err StoreLength ∷ Err PlanMismatch ∷ Err NoSuchPort ∷ Err QueueFull ∷ Err StateInvalid
    ∷ Err CrosspointFull ∷ Err NotPlanFile ∷ Err FileLength ∷ Err NotPlanText ∷ Err RecordLength ∷ []

-- the first of them that has number k; where none has it, `Ok`
abbrev first_with : ℕ → List Verdict → Verdict
first_with k [] = Ok tt
first_with k (v ∷ vs) = cond (eqb (verdict_number_of v) k) v (first_with k vs)

-- no verdict before it shares its number
is_first : (v : Verdict) → first_with (verdict_number_of v) verdicts ≡ v
is_first (Ok _) = refl
is_first (Err PortsOutOfRange) = refl
is_first (Err FrameOutOfRange) = refl
is_first (Err ListLength) = refl
is_first (Err RowAboveFrame) = refl
is_first (Err ColumnAboveFrame) = refl
is_first (Err DepthOutOfRange) = refl
is_first (Err StoreLength) = refl
is_first (Err PlanMismatch) = refl
is_first (Err NoSuchPort) = refl
is_first (Err QueueFull) = refl
is_first (Err StateInvalid) = refl
is_first (Err CrosspointFull) = refl
is_first (Err NotPlanFile) = refl
is_first (Err FileLength) = refl
is_first (Err NotPlanText) = refl
is_first (Err RecordLength) = refl

by_number : (v : Verdict) {k : ℕ} → verdict_number_of v ≡ k → v ≡ first_with k verdicts
by_number v e = sym (is_first v) ∙ ap (λ (k : ℕ). first_with k verdicts) e

pub number_names_one : (v w : Verdict) → verdict_number_of v ≡ verdict_number_of w → v ≡ w
number_names_one v w e = by_number v e ∙ is_first w

-- no call can give the retired number
pub retired_never : (v : Verdict) → verdict_number_of v ≡ retired → ⊥
retired_never v e = let zero = ap verdict_number_of (by_number v e) in omega (arith, e)
