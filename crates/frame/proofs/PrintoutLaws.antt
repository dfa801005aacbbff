-- The printout by what reader, start and step answer: each verdict decides how it goes on.
use Prim.Native.Nat.{ℕ, suc, ◌+◌, ◌*◌, ◌-◌, ◌<◌, ◌≤◌}
use mathlib.Core.List.{List, [], ◌++◌}
use mathlib.Core.Path.{◌≡◌, refl, ap, ◌∙◌}
use native.Mathlib.Numerals.{add-one}
use native.Mathlib.Omega.{arith}
use lib.ListN.{take, replicate}
use Rattle.refusal.specs.Chain.{if_accepted}
use Rattle.refusal.specs.declared.Refusal.{Refusal}
use Rattle.refusal.specs.Verdict.{Verdict}
use Rattle.std.specs.Prelude.{Ok, Err}
use Rattle.plan.specs.Range.{most_ports}
use Rattle.plan.specs.declared.Plan.{Plan}
use Rattle.planfile.specs.Read.{read_of}
use Rattle.planfile.proofs.CutLaws.{read_cut}
use Rattle.planfile.proofs.ReadLaws.{accepted_plan}
use Rattle.planpair.specs.Rates.{plan_rates}
use Rattle.crossbar.specs.Start.{start_of}
use Rattle.crossbar.specs.Step.{step_of}
use Rattle.crossbar.specs.declared.state.Reply.{Reply}
use Rattle.crossbar.specs.declared.state.SlotReply.{SlotReply}
use Rattle.crossbar.specs.declared.state.Switch.{Switch}
use Rattle.frame.specs.Input.{most_input}
use Rattle.console.specs.Refused.{refusal_line_of}
use Rattle.frame.specs.Printout.{header_of, slot_line_of, slot_lines_of, frame_printout_of, printout_of}

-- a text is the one where the call was accepted, and the other where it was refused
pub record Decided (v : Verdict) (text accepted_text refused-text : List ℕ) : Type 0 where
  pub accepted : v ≡ Ok tt → text ≡ accepted_text
  pub refused : {r : Refusal} → v ≡ Err r → text ≡ refused-text

decided : (v : Verdict) (text x y : List ℕ) → text ≡ if_accepted v x y → Decided v text x y
decided v text x y e = record { accepted = λ a. e ∙ rw a refl; refused = λ a. e ∙ rw a refl }

-- The lines of a frame of n ports, from a slot on.
module _ (s : Switch) (store : List ℕ) (n : ℕ) where
  pub lines_start : (frame : ℕ) → slot_lines_of s store n 0 (frame - 0) ≡ slot_lines_of s store n 0 frame
  lines_start frame = ap (slot_lines_of s store n 0) (omega arith)

  pub lines_end : (slot frame : ℕ) → frame ≤ slot → slot_lines_of s store n slot (frame - slot) ≡ []
  unfolding slot_lines_of
  lines_end slot frame l = let none : frame - slot ≡ 0 = omega arith in rw none refl

  pub by_step : (slot frame : ℕ) (r : SlotReply) → slot < frame → r ≡ step_of s store
      → Decided r.verdict (slot_lines_of s store n slot (frame - slot))
      (slot_line_of slot r.moves r.sends n ++ slot_lines_of r.state store n (slot + 1) (frame - (slot + 1)))
      (refusal_line_of r.verdict)
  unfolding slot_lines_of
  by_step slot frame r l is =
      let more : frame - slot ≡ suc (frame - (slot + 1)) = omega arith in
      decided r.verdict _ _ _ (rw (more, is, add-one) refl)

pub by_start : (plan : Plan) (store : List ℕ) (r : Reply) → store ≡ replicate (plan.ports * plan.ports) 0
    → r ≡ start_of plan.ports plan.frame (plan_rates plan) 1 store
    → Decided r.verdict (frame_printout_of plan)
    (header_of plan.ports ++ slot_lines_of r.state store plan.ports 0 plan.frame)
    (refusal_line_of r.verdict)
unfolding frame_printout_of
by_start plan store r zeros is = decided r.verdict _ _ _ (rw (is, zeros) refl)

pub by_plan : (file : List ℕ) (plan : Plan) → read_of file ≡ Ok plan → printout_of file ≡ frame_printout_of plan
unfolding printout_of
by_plan file plan e = rw e refl

pub by_refusal : (file : List ℕ) (r : Refusal) → read_of file ≡ Err r → printout_of file ≡ refusal_line_of (Err r)
unfolding printout_of
by_refusal file r e = rw e refl

-- an accepted file has a plan that the program's arrays have room for
pub few_ports : (file : List ℕ) (plan : Plan) → read_of file ≡ Ok plan → plan.ports ≤ most_ports
few_ports file plan e = (accepted_plan file plan e).is_plan.few_ports

-- what the program reads of a file is enough
pub printout_cut : (file : List ℕ) → printout_of (take most_input file) ≡ printout_of file
unfolding printout_of
printout_cut file = rw (read_cut most_input file (omega arith)) refl
