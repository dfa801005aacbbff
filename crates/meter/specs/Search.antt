-- The answer as it is found by looking at one place after another: for the code, and for definitions that need the answer
-- itself. That it is what specs/Answer.antt asks for, and nothing else is, stands in proofs/AnswerLaws.antt.
use Rattle.std.specs.Prelude.{ℕ, zero, suc, ◌-◌, Bool, cond, List, ltb, length, Result}
use Rattle.refusal.specs.Chain.{when_accepted}
use Rattle.refusal.specs.declared.Refusal.{Refusal}
use Rattle.meter.specs.Cover.{cover_at}
use Rattle.meter.specs.Answer.{cover_verdict}
use Rattle.meter.specs.declared.Measured.{Measured}
use Rattle.meter.specs.declared.Stretch.{Stretch}

-- whether a is fewer services than b, and whether it is more
abbrev pub fewer : ℕ → ℕ → Bool
fewer a b = ltb a b

abbrev pub more : ℕ → ℕ → Bool
more a b = ltb b a

-- a stretch, or the one at a later place if that is better
unfoldable pub or_better : (ℕ → ℕ → Bool) → Stretch → ℕ → ℕ → Stretch
or_better better s services place = cond (better services s.services) (record { services = services; place = place }) s

-- what is kept of the places 0, .., p with the services c
unfoldable pub kept_to : (ℕ → ℕ → Bool) → (ℕ → ℕ) → ℕ → Stretch
kept_to better c zero = record { services = c 0; place = 0 }
kept_to better c (suc p) = or_better better (kept_to better c p) (c (suc p)) (suc p)

-- what is kept of all places inside the record
unfoldable pub measured_of : List ℕ → ℕ → ℕ → Measured
measured_of recorded flow l =
    let c = cover_at recorded flow l in
    let last = length recorded - l in
    record { least = kept_to fewer c last; most = kept_to more c last }

unfoldable pub cover_of : List ℕ → ℕ → ℕ → Result Measured Refusal
cover_of recorded flow l = when_accepted (cover_verdict (length recorded) l) (measured_of recorded flow l)
