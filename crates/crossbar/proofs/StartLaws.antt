-- When a start is accepted, and what it answers.
use Prim.Native.Nat.{ℕ}
use mathlib.Core.Path.{◌≡◌, refl}
use mathlib.Core.Bool.{not}
use mathlib.Core.List.{List}
use lib.ListN.{length, replicate}
use borrow.Author.Tests.{not-false}
use Rattle.refusal.specs.declared.Refusal.{Refusal}
use Rattle.refusal.specs.Verdict.{Verdict}
use Rattle.std.specs.Prelude.{Ok, Err}
use Rattle.refusal.proofs.ChainLaws.{refuse_passed, then_passed}
use Rattle.plan.specs.Range.{most_flows}
use Rattle.plan.specs.Accept.{accept_of, IsPlan}
use Rattle.plan.specs.declared.Plan.{Plan}
use Rattle.plan.proofs.AcceptLaws.{accepted, accepts}
use Rattle.crossbar.specs.State.{depth_in_range, store_fits}
use Rattle.plan.specs.NoPlan.{no_plan}
use Rattle.crossbar.specs.Start.{plan_over, fresh_with, plan_of, start_verdict, CanStart, start_of}
use Rattle.planpair.specs.Rates.{plan_rates}
use Rattle.crossbar.specs.declared.state.Switch.{Switch}
use Rattle.crossbar.specs.declared.state.Reply.{Reply}
use Rattle.planpair.proofs.RateLaws.{laid_rates}
use Rattle.crossbar.proofs.StoreLaws.{store_length, store_fits_lem}
use Rattle.crossbar.proofs.ValidLaws.{depth_range, depth_in}

pub can_start : (n t : ℕ) (rates : List ℕ) (depth len : ℕ) → start_verdict n t rates depth len ≡ Ok tt → CanStart n t rates depth len
unfolding start_verdict
can_start n t rates depth len e =
    let first = then_passed (accept_of n t rates) _ e in
    let second = refuse_passed (not (depth_in_range depth)) _ _ first.1 in
    let third = refuse_passed (not (store_fits n depth len)) _ _ second.1 in
    let cells = depth_range depth (not-false _ second.0) in
    record {
      plan = accepted n t rates first.0;
      some_cell = cells.0;
      few_cells = cells.1;
      store = store_length n depth len (not-false _ third.0);
    }

pub starts : (n t : ℕ) (rates : List ℕ) (depth len : ℕ) → CanStart n t rates depth len → start_verdict n t rates depth len ≡ Ok tt
unfolding start_verdict
starts n t rates depth len can =
    simp (
      accepts n t rates can.plan,
      depth_in depth can.some_cell can.few_cells,
      store_fits_lem n depth len can.store,
    )

-- The answer, as the code puts it together from its verdict v and a fresh state.
module _ (n t : ℕ) (rates : List ℕ) (depth : ℕ) (store : List ℕ) {v : Verdict} {fresh : Switch} (is : v ≡ start_verdict n t rates depth (length store)) where
  pub start_accepted : {none plan : Plan} → v ≡ Ok tt → none ≡ no_plan → plan ≡ plan_over none n t rates
      → fresh ≡ fresh_with plan depth → ◌≡◌ {A = Reply} (record { verdict = v; state = fresh }) (start_of n t rates depth store)
  unfolding start_of
  start_accepted told none plan made = rw (made, plan, none, ← is, told) refl

  -- the state of a refused start is all 0
  pub start_refused : {r : Refusal} {none : Plan} → v ≡ Err r → none ≡ no_plan → fresh ≡ fresh_with none 0
      → ◌≡◌ {A = Reply} (record { verdict = v; state = fresh }) (start_of n t rates depth store)
  unfolding start_of
  start_refused told none made = rw (made, none, ← is, told) refl

-- the rates of a started plan are the given list
pub started_rates : (n t : ℕ) (rates : List ℕ) → IsPlan n t rates → plan_rates (plan_of n t rates) ≡ rates
started_rates n t rates p = laid_rates (replicate most_flows 0) n t rates refl p
