-- The program: the plan of a text, as a file. "A refusal goes to standard error .., and nothing to standard output".
use Rattle.std.specs.Prelude.{ℕ, ◌+◌, ◌*◌, List, ◌≡◌, replicate, Result, Ok}
use Rattle.arrayvec.specs.ArrayVec.{ArrayVec}
use Rattle.refusal.specs.Chain.{when_accepted}
use Rattle.refusal.specs.declared.Refusal.{Refusal}
use Rattle.refusal.specs.Outcome.{Outcome}
use Rattle.planfile.specs.Read.{plan_of, read_of}
use Rattle.planfile.specs.Write.{file_of}
use Rattle.plantext.specs.Read.{read_text_of, most_text}

-- what reading the text answers, and the rates that it writes to a list of zeros
abbrev pub rates_read : ℕ → ℕ → List ℕ → Outcome
rates_read n t text = read_text_of n t text (replicate (n * n) 0)

-- the file of these rates, if the text was accepted
unfoldable pub sheet_of : ℕ → ℕ → List ℕ → Result (ArrayVec ℕ) Refusal
sheet_of n t text = let read = rates_read n t text in when_accepted read.verdict (record { items = file_of n t read.list })

-- The bytes of a text past these don't change what is made of it (proofs/SheetLaws.antt, sheet_cut).
abbrev pub most_input : ℕ
most_input = most_text + 1

-- The file of an accepted text is read as the plan of its rates (proofs/SheetLaws.antt, sheet_plan).
abbrev pub SheetPlan : Type 0
SheetPlan = (n t : ℕ) (text : List ℕ) → let read = rates_read n t text in read.verdict ≡ Ok tt → read_of (file_of n t read.list) ≡ Ok (plan_of n t read.list)
