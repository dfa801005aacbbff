-- "A load puts an accepted plan in waiting", and "the later plan replaces the waiting one" (L5). Order: 12, 1 to 5, 8. Only
-- the waiting plan's N, T and rates for ports below N are written.
use Rattle.std.specs.Prelude.{ℕ, ◌≡◌, true, not, ◌&&◌, List, eqb, Ok}
use Rattle.refusal.specs.Chain.{refuse_if, and_then, if_accepted}
use Rattle.refusal.specs.declared.Refusal.TheVariants.{StateInvalid, PlanMismatch}
use Rattle.refusal.specs.Verdict.{Verdict}
use Rattle.plan.specs.Accept.{accept_of, IsPlan}
use Rattle.plan.specs.declared.Plan.{Plan}
use Rattle.crossbar.specs.Valid.{valid_of}
use Rattle.crossbar.specs.Start.{plan_over}
use Rattle.crossbar.specs.declared.state.Switch.{Switch}
use Rattle.crossbar.specs.declared.state.Reply.{Reply}

abbrev pub with_plans : Switch → Plan → Plan → ℕ → Switch
with_plans s running waiting waits =
    record {
      running = running;
      waiting = waiting;
      waits = waits;
      depth = s.depth;
      slot = s.slot;
      fabric = s.fabric;
    }

unfoldable pub load_verdict : Switch → ℕ → ℕ → List ℕ → Verdict
load_verdict s n t rates =
    refuse_if (not (valid_of s)) StateInvalid
    (and_then (accept_of n t rates)
    (refuse_if (not (eqb n s.running.ports && eqb t s.running.frame)) PlanMismatch
    (Ok tt)))

-- When a load is accepted. proofs/LoadLaws.antt has that it is then, and only then.
pub record CanLoad (s : Switch) (n t : ℕ) (rates : List ℕ) : Type 0 where
  pub valid : valid_of s ≡ true
  pub plan : IsPlan n t rates
  pub ports : n ≡ s.running.ports
  pub frame : t ≡ s.running.frame

-- a state with a plan laid into its waiting one
abbrev pub with_waiting : Switch → ℕ → ℕ → List ℕ → Switch
with_waiting s n t rates = with_plans s s.running (plan_over s.waiting n t rates) 1

unfoldable pub load_of : Switch → ℕ → ℕ → List ℕ → Reply
load_of s n t rates =
    let v = load_verdict s n t rates in
    record { verdict = v; state = if_accepted v (with_waiting s n t rates) s }

-- what `load` ensures
abbrev pub Loads : Switch → ℕ → ℕ → List ℕ → Reply → Type 0
Loads s n t rates r = r ≡ load_of s n t rates
