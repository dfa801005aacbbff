-- Reading a plan file. "File: under 8 bytes 15, then 14, 1, 2, 15, 4, 5."
use Rattle.std.specs.Prelude.{ℕ, ◌*◌, ◌≤◌, ◌&&◌, not, List, ◌≡◌, ltb, eqb, length, get_or, take, Result}
use Rattle.refusal.specs.Chain.{refuse_if, when_accepted}
use Rattle.refusal.specs.declared.Refusal.{Refusal}
use Rattle.refusal.specs.declared.Refusal.TheVariants.{PortsOutOfRange, FrameOutOfRange, NotPlanFile, FileLength}
use Rattle.refusal.specs.Verdict.{Verdict}
use Rattle.plan.specs.declared.Plan.{Plan}
use Rattle.plan.specs.Range.{most_flows, ports_in_range, frame_in_range}
use Rattle.plan.specs.Accept.{accept_of, IsPlan}
use Rattle.planfile.specs.Layout.{is_marked, version_in, ports_in, frame_in, file_length, rates_of, padded}

-- the N × N rates of a file
abbrev pub rates_in : List ℕ → List ℕ
rates_in file = rates_of file (ports_in file * ports_in file)

unfoldable pub verdict_of : List ℕ → Verdict
verdict_of file =
    refuse_if (ltb (length file) 8) FileLength
    (refuse_if (not (is_marked file && eqb (version_in file) 1)) NotPlanFile
    (refuse_if (not (ports_in_range (ports_in file))) PortsOutOfRange
    (refuse_if (not (frame_in_range (frame_in file))) FrameOutOfRange
    (refuse_if (not (eqb (length file) (file_length (ports_in file)))) FileLength
    (accept_of (ports_in file) (frame_in file) (rates_in file))))))

abbrev pub plan_of : ℕ → ℕ → List ℕ → Plan
plan_of n t rates = record { ports = n; frame = t; rates = padded rates }

-- the plan goes with an accepted file only
unfoldable pub read_of : List ℕ → Result Plan Refusal
read_of file = when_accepted (verdict_of file) (plan_of (ports_in file) (frame_in file) (rates_in file))

-- What is known of the plan of an accepted file, by proofs/ReadLaws.antt.
pub record FilePlan (plan : Plan) : Type 0 where
  pub is_plan : IsPlan plan.ports plan.frame (take (plan.ports * plan.ports) plan.rates)
  pub places : length plan.rates ≡ most_flows
  pub zero_past : (p : ℕ) → plan.ports * plan.ports ≤ p → get_or plan.rates p 0 ≡ 0
