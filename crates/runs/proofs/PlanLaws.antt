-- Which plan one call of a run leaves running, and which was accepted last.
use Prim.Native.Nat.{ℕ}
use mathlib.Core.Path.{◌≡◌, refl, ap, ◌∙◌}
use mathlib.Core.Bool.{Bool, true, false, cond}
use mathlib.Core.List.{List}
use lib.ListN.{length}
use borrow.Author.Tests.{eq-eqb, ne_eqb}
use Rattle.refusal.specs.Chain.{if_accepted}
use Rattle.refusal.specs.Verdict.{Verdict}
use Rattle.std.specs.Prelude.{Ok, Err}
use Rattle.planpair.specs.Rates.{plan_rates}
use Rattle.planpair.proofs.RateLaws.{laid_rates}
use Rattle.planpair.proofs.TakeoverLaws.{taken_rates}
use Rattle.crossbar.specs.State.{has_waiting}
use Rattle.crossbar.specs.Arrive.{with_queues, arrive_verdict, arrive_of}
use Rattle.crossbar.specs.Load.{load_verdict, load_of}
use Rattle.crossbar.specs.Takeover.{takes_over, takeover_of}
use Rattle.crossbar.specs.Step.{after_slot, step_verdict, step_of}
use Rattle.crossbar.specs.declared.state.Switch.{Switch}
use Rattle.crossbar.proofs.LoadLaws.{can_load}
use Rattle.crossbar.proofs.TakeoverLaws.{taken, not_taken, takes_waiting}
use Rattle.runs.specs.Event.{Call, state_after}
use Rattle.runs.specs.Event.Lent.{own, other}
use Rattle.runs.specs.Event.Call.{step, arrive, load}
use Rattle.runs.specs.Run.{answered}
use Rattle.runs.specs.Plans.{accepted_after, BeginsFrame}
use Rattle.runs.proofs.SoundLaws.{Sound}

-- the plan accepted last, as the state has it
abbrev pub standing : Switch → List ℕ
standing s = cond (has_waiting s) (plan_rates s.waiting) (plan_rates s.running)

-- an arrival touches the queues alone
arrive_only : (s : Switch) (lent : List ℕ) (i j cell : ℕ) → let u = (arrive_of s lent i j cell).reply.state in u ≡ with_queues s u.fabric.queues
unfolding arrive_of
arrive_only s lent i j cell = go (arrive_verdict s (length lent) i j) refl
  where
    go : (v : Verdict) → arrive_verdict s (length lent) i j ≡ v
        → let u = (arrive_of s lent i j cell).reply.state in u ≡ with_queues s u.fabric.queues
    go (Ok _) e = rw e refl
    go (Err r) e = rw e refl

module _ {s : Switch} {store : List ℕ} (ok : Sound s store) where
  takeover_standing : standing (takeover_of s) ≡ standing s
  takeover_standing = go (takes_over s) refl
    where
      go : (b : Bool) → takes_over s ≡ b → standing (takeover_of s) ≡ standing s
      go false e = rw (not_taken s e) refl
      go true e =
          let w = takes_waiting s e in
          let p = ok.waiting w in
          rw (taken s e, w) (taken_rates s.running s.waiting (rw p.ports ok.plan.few_ports) ok.running_size ok.waiting_size)

  -- after a takeover none waits
  none_waits_lem : s.slot ≡ 0 → has_waiting (takeover_of s) ≡ false
  none_waits_lem zero = go (has_waiting s) refl
    where
      here : {b : Bool} → has_waiting s ≡ b → takes_over s ≡ b
      here e = rw (eq-eqb s.slot 0 zero, e) refl

      go : (b : Bool) → has_waiting s ≡ b → has_waiting (takeover_of s) ≡ false
      go false e = rw (not_taken s (here e)) e
      go true e = rw (taken s (here e)) refl

  -- in slot 0 the plan accepted last runs
  step_runs : (lent : List ℕ) → s.slot ≡ 0 → (step_of s lent).verdict ≡ Ok tt → plan_rates (step_of s lent).state.running ≡ standing s
  unfolding step_of after_slot
  step_runs lent zero e =
      let running : plan_rates (takeover_of s).running ≡ standing (takeover_of s) = rw (none_waits_lem zero) refl in
      rw e (running ∙ takeover_standing)

  step_standing : (lent : List ℕ) → standing (step_of s lent).state ≡ standing s
  unfolding step_of after_slot
  step_standing lent = go (step_verdict s (length lent)) refl
    where
      go : (v : Verdict) → step_verdict s (length lent) ≡ v → standing (step_of s lent).state ≡ standing s
      go (Ok _) e = rw e takeover_standing
      go (Err r) e = rw e refl

  load_standing : (n t : ℕ) (rates : List ℕ) → standing (load_of s n t rates).state ≡ if_accepted (load_verdict s n t rates) rates (standing s)
  unfolding load_of
  load_standing n t rates = go (load_verdict s n t rates) refl
    where
      go : (v : Verdict) → load_verdict s n t rates ≡ v → standing (load_of s n t rates).state ≡ if_accepted (load_verdict s n t rates) rates (standing s)
      go (Ok _) e = rw e (laid_rates s.waiting.rates n t rates ok.waiting_size (can_load s n t rates e).plan)
      go (Err r) e = rw e refl

  pub call_runs : (c : Call) → BeginsFrame s (answered s store c) → plan_rates (state_after (answered s store c)).running ≡ standing s
  call_runs (step own) b = step_runs store b.1 b.0
  call_runs (step (other l)) b = step_runs l b.1 b.0
  call_runs (arrive own i j cell) b = absurd b
  call_runs (arrive (other l) i j cell) b = absurd b
  call_runs (load n t rates) b = absurd b

  pub call_standing : (c : Call) → standing (state_after (answered s store c)) ≡ accepted_after (standing s) (answered s store c)
  unfolding load_of
  call_standing (step own) = step_standing store
  call_standing (step (other l)) = step_standing l
  call_standing (arrive own i j cell) = ap standing (arrive_only s store i j cell)
  call_standing (arrive (other l) i j cell) = ap standing (arrive_only s l i j cell)
  call_standing (load n t rates) = load_standing n t rates

-- The running plan stays, but in slot 0.
module _ (s : Switch) (store : List ℕ) where
  step_stays : (lent : List ℕ) → ((step_of s lent).verdict ≡ Ok tt → s.slot ≡ 0 → ⊥) → (step_of s lent).state.running ≡ s.running
  unfolding step_of after_slot
  step_stays lent h = go (step_verdict s (length lent)) refl
    where
      go : (v : Verdict) → step_verdict s (length lent) ≡ v → (step_of s lent).state.running ≡ s.running
      go (Ok _) e =
          let not_here : takes_over s ≡ false = rw (ne_eqb s.slot 0 (h e)) refl in
          rw (e, not_taken s not_here) refl
      go (Err r) e = rw e refl

  load_stays : (n t : ℕ) (rates : List ℕ) → (load_of s n t rates).state.running ≡ s.running
  unfolding load_of
  load_stays n t rates = go (load_verdict s n t rates) refl
    where
      go : (v : Verdict) → load_verdict s n t rates ≡ v → (load_of s n t rates).state.running ≡ s.running
      go (Ok _) e = rw e refl
      go (Err r) e = rw e refl

  pub call_stays : (c : Call) → (BeginsFrame s (answered s store c) → ⊥) → (state_after (answered s store c)).running ≡ s.running
  call_stays (step own) h = step_stays store (λ e z. h (e, z))
  call_stays (step (other l)) h = step_stays l (λ e z. h (e, z))
  call_stays (arrive own i j cell) h = ap (λ (u : Switch). u.running) (arrive_only s store i j cell)
  call_stays (arrive (other l) i j cell) h = ap (λ (u : Switch). u.running) (arrive_only s l i j cell)
  call_stays (load n t rates) h = load_stays n t rates
