-- Writing a plan file, the inverse of reading it: the bytes of an accepted plan.
use Rattle.std.specs.Prelude.{ℕ, zero, suc, ◌*◌, ◌/◌, ◌%◌, ◌<◌, List, [], ◌∷◌, ◌++◌, ◌≡◌, length, get_or, take, Result, Ok}
use Rattle.arrayvec.specs.ArrayVec.{ArrayVec}
use Rattle.refusal.specs.Chain.{when_accepted}
use Rattle.refusal.specs.declared.Refusal.{Refusal}
use Rattle.plan.specs.Accept.{accept_of}
use Rattle.plan.specs.declared.Plan.{Plan}
use Rattle.planfile.specs.Layout.{byte_at}
use Rattle.planfile.specs.Read.{plan_of, read_of}

-- 16 bits, low byte first
abbrev pub word_of : ℕ → List ℕ
word_of x = x % 256 ∷ x / 256 ∷ []

-- ""LSP" in ASCII, version (16 bits, 1), N (8 bits), T (16 bits)"
unfoldable pub head_of : ℕ → ℕ → List ℕ
head_of n t = 76 ∷ 83 ∷ 80 ∷ (word_of 1 ++ (n ∷ word_of t))

-- "N × N rates (16 bits each)": the first `count`
unfoldable pub rate_bytes : List ℕ → ℕ → List ℕ
rate_bytes rates zero = []
rate_bytes rates (suc p) = rate_bytes rates p ++ word_of (get_or rates p 0)

unfoldable pub file_of : ℕ → ℕ → List ℕ → List ℕ
file_of n t rates = head_of n t ++ rate_bytes rates (length rates)

-- a plan is judged as plan acceptance does, and has a file only where it is accepted
unfoldable pub write_of : ℕ → ℕ → List ℕ → Result (ArrayVec ℕ) Refusal
write_of n t rates = when_accepted (accept_of n t rates) (record { items = file_of n t rates })

-- Reading what was written gives the plan back (proofs/WriteLaws.antt, reads_back).
abbrev pub ReadsBack : Type 0
ReadsBack = (n t : ℕ) (rates : List ℕ) → accept_of n t rates ≡ Ok tt → read_of (file_of n t rates) ≡ Ok (plan_of n t rates)

-- what stands in a file
abbrev pub AreBytes : List ℕ → Type 0
AreBytes file = (p : ℕ) → byte_at file p < 256

-- An accepted file is what writing its plan gives (proofs/WriteLaws.antt, writes_back).
abbrev pub WritesBack : Type 0
WritesBack = (file : List ℕ) (plan : Plan) → AreBytes file → read_of file ≡ Ok plan →
    file_of plan.ports plan.frame (take (plan.ports * plan.ports) plan.rates) ≡ file
