-- In a valid state with room in each crosspoint that is served, no call answers 12 or 13.
use Prim.Native.Nat.{ℕ}
use mathlib.Core.Path.{◌≡◌}
use mathlib.Core.Bool.{Bool, true, false, not, ◌&&◌}
use mathlib.Core.List.{List}
use native.Mathlib.Omega.{arith}
use lib.Dec.{ltb, leb, eqb}
use Rattle.refusal.specs.Chain.{refuse_if, and_then}
use Rattle.refusal.specs.Number.{number_of, verdict_number_of}
use Rattle.refusal.specs.declared.Refusal.{Refusal}
use Rattle.refusal.specs.declared.Refusal.TheVariants.{StoreLength, PlanMismatch, NoSuchPort, QueueFull, StateInvalid, CrosspointFull}
use Rattle.refusal.specs.Verdict.{Verdict}
use Rattle.std.specs.Prelude.{Ok, Err}
use Rattle.plan.specs.Lines.{flow_of}
use Rattle.plan.specs.Accept.{accept_of}
use Rattle.plan.proofs.AcceptLaws.{accept_number}
use Rattle.crossbar.specs.State.{queue_at, store_fits}
use Rattle.crossbar.specs.Valid.{valid_of}
use Rattle.crossbar.specs.Arrive.{arrive_verdict}
use Rattle.crossbar.specs.Load.{load_verdict}
use Rattle.crossbar.specs.Takeover.{takeover_of}
use Rattle.crossbar.specs.Step.{has_room, step_verdict}
use Rattle.crossbar.specs.declared.state.Switch.{Switch}

pub record Fine (v : Verdict) : Type 0 where
  pub valid : verdict_number_of v ≡ number_of StateInvalid → ⊥
  pub room : verdict_number_of v ≡ number_of CrosspointFull → ⊥

accepted_fine : Fine (Ok tt)
accepted_fine = omega arith

refuse_fine : (b : Bool) (r : Refusal) (rest : Verdict) → Fine (Err r) → Fine rest → Fine (refuse_if b r rest)
refuse_fine true r rest f g = f
refuse_fine false r rest f g = g

then_fine : (v rest : Verdict) → Fine v → Fine rest → Fine (and_then v rest)
then_fine (Ok _) rest f g = g
then_fine (Err r) rest f g = f

accept_fine : (n t : ℕ) (rates : List ℕ) → Fine (accept_of n t rates)
accept_fine n t rates = let few = accept_number n t rates in omega arith

module _ (s : Switch) (valid : valid_of s ≡ true) where
  pub arrive_fine : (len i j : ℕ) → Fine (arrive_verdict s len i j)
  unfolding arrive_verdict
  arrive_fine len i j =
      let n = s.running.ports in
      rw valid
      (refuse_fine (not (store_fits n s.depth len)) StoreLength _ (omega arith)
      (refuse_fine (not (ltb i n && ltb j n)) NoSuchPort _ (omega arith)
      (refuse_fine (leb s.depth (queue_at s (flow_of n i j)).count) QueueFull _ (omega arith) accepted_fine)))

  pub load_fine : (n t : ℕ) (rates : List ℕ) → Fine (load_verdict s n t rates)
  unfolding load_verdict
  load_fine n t rates =
      rw valid
      (then_fine (accept_of n t rates) _ (accept_fine n t rates)
      (refuse_fine (not (eqb n s.running.ports && eqb t s.running.frame)) PlanMismatch _ (omega arith) accepted_fine))

  pub step_fine : has_room (takeover_of s) ≡ true → (len : ℕ) → Fine (step_verdict s len)
  unfolding step_verdict
  step_fine room len = rw (valid, room) (refuse_fine (not (store_fits s.running.ports s.depth len)) StoreLength _ (omega arith) accepted_fine)
