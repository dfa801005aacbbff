-- Table I of document 004 (the flow τ₃ in the schedule τ₁, τ₂, τ₃, τ₁, τ₃, τ₃), with first places, and answers at the edges,
-- computed by the definitions.
use Prim.Native.Nat.{ℕ}
use mathlib.Core.Path.{◌≡◌, refl}
use mathlib.Core.List.{List, [], ◌∷◌}
use Rattle.refusal.specs.declared.Refusal.{Refusal}
use Rattle.refusal.specs.declared.Refusal.TheVariants.{RecordLength}
use Rattle.std.specs.Prelude.{Result, Ok, Err}
use Rattle.meter.specs.Cover.{idle_slot, cover_at}
use Rattle.meter.specs.Answer.{cover_verdict}
use Rattle.meter.specs.Search.{or_better, kept_to, measured_of, cover_of}
use Rattle.meter.specs.declared.Measured.{Measured}

abbrev schedule : List ℕ
schedule = 1 ∷ 2 ∷ 3 ∷ 1 ∷ 3 ∷ 3 ∷ []

-- the least services and their first place, then the most and theirs
abbrev measured : ℕ → ℕ → ℕ → ℕ → Result Measured Refusal
measured least at most there = Ok (record { least = record { services = least; place = at }; most = record { services = most; place = there } })

table_1 :
    (cover_of schedule 3 0 ≡ measured 0 0 0 0)
    × (cover_of schedule 3 1 ≡ measured 0 0 1 2)
    × (cover_of schedule 3 2 ≡ measured 0 0 2 4)
    × (cover_of schedule 3 3 ≡ measured 1 0 2 2)
    × (cover_of schedule 3 4 ≡ measured 1 0 3 2)
    × (cover_of schedule 3 5 ≡ measured 2 0 3 1)
    × (cover_of schedule 3 6 ≡ measured 3 0 3 0)
    × (cover_of schedule 3 7 ≡ Err RecordLength)
unfolding cover_of measured_of cover_verdict kept_to or_better cover_at
table_1 = (refl, refl, refl, refl, refl, refl, refl, refl)

-- a record of no slot, one slot more than a record may have, a flow that never occurs, and idle slots counted
edges :
    (cover_of [] 3 0 ≡ measured 0 0 0 0)
    × (cover_verdict 65535 65535 ≡ Ok tt)
    × (cover_verdict 65536 0 ≡ Err RecordLength)
    × (cover_of schedule 4 2 ≡ measured 0 0 0 0)
    × (cover_of (idle_slot ∷ 1 ∷ idle_slot ∷ idle_slot ∷ []) idle_slot 2 ≡ measured 1 0 2 2)
unfolding cover_of measured_of cover_verdict kept_to or_better cover_at
edges = (refl, refl, refl, refl, refl)
