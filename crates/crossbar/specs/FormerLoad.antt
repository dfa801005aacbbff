-- "Loads that were accepted before are answered as before" (L5): the load as it was until then, when it was refused while a
-- plan waits. That refusal has no case any more, so any other, r, stands for it.
use Rattle.std.specs.Prelude.{ℕ, ◌≡◌, not, ◌&&◌, List, eqb, Ok, Err}
use Rattle.refusal.specs.Chain.{refuse_if, and_then, if_accepted}
use Rattle.refusal.specs.declared.Refusal.{Refusal}
use Rattle.refusal.specs.declared.Refusal.TheVariants.{StateInvalid, PlanMismatch}
use Rattle.refusal.specs.Verdict.{Verdict}
use Rattle.plan.specs.Accept.{accept_of}
use Rattle.crossbar.specs.State.{has_waiting}
use Rattle.crossbar.specs.Valid.{valid_of}
use Rattle.crossbar.specs.Load.{with_waiting, load_of}
use Rattle.crossbar.specs.declared.state.Switch.{Switch}
use Rattle.crossbar.specs.declared.state.Reply.{Reply}

unfoldable pub former_verdict : Refusal → Switch → ℕ → ℕ → List ℕ → Verdict
former_verdict r s n t rates =
    refuse_if (not (valid_of s)) StateInvalid
    (and_then (accept_of n t rates)
    (refuse_if (not (eqb n s.running.ports && eqb t s.running.frame)) PlanMismatch
    (refuse_if (has_waiting s) r
    (Ok tt))))

unfoldable pub former_load : Refusal → Switch → ℕ → ℕ → List ℕ → Reply
former_load r s n t rates =
    let v = former_verdict r s n t rates in
    record { verdict = v; state = if_accepted v (with_waiting s n t rates) s }

-- answered as before, state and verdict: a load that was accepted, or refused for another reason
pub record AsBefore (s : Switch) (n t : ℕ) (rates : List ℕ) : Type 0 where
  pub accepted : (r : Refusal) → former_verdict r s n t rates ≡ Ok tt → load_of s n t rates ≡ former_load r s n t rates
  pub refused : (r q : Refusal) → former_verdict r s n t rates ≡ Err q → (q ≡ r → ⊥) → load_of s n t rates ≡ former_load r s n t rates
