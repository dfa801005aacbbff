-- When a load is accepted, and what it answers.
use Prim.Native.Nat.{ℕ, ◌*◌}
use mathlib.Core.Path.{◌≡◌, refl, sym, ap, ◌∙◌}
use mathlib.Core.Bool.{Bool, true, false, not, ◌&&◌}
use mathlib.Core.List.{List}
use lib.Dec.{eqb}
use borrow.Author.Tests.{not-false, eqb-true, eq-eqb}
use Rattle.refusal.specs.Chain.{refuse_if, and_then, if_accepted}
use Rattle.refusal.specs.declared.Refusal.{Refusal}
use Rattle.refusal.specs.declared.Refusal.TheVariants.{StateInvalid, PlanMismatch}
use Rattle.refusal.specs.Verdict.{Verdict}
use Rattle.std.specs.Prelude.{Ok, Err}
use Rattle.refusal.proofs.ChainLaws.{refused_not_accepted, refuse_passed, then_passed}
use Rattle.plan.specs.Accept.{accept_of}
use Rattle.plan.proofs.BelowLaws.{and_true}
use Rattle.plan.proofs.AcceptLaws.{accepted, accepts}
use Rattle.planpair.proofs.RateLaws.{overlaid_twice}
use Rattle.crossbar.specs.Valid.{valid_of}
use Rattle.crossbar.specs.State.{has_waiting}
use Rattle.crossbar.specs.Start.{plan_over}
use Rattle.plan.specs.declared.Plan.{Plan}
use Rattle.crossbar.specs.Load.{with_plans, load_verdict, CanLoad, with_waiting, load_of}
use Rattle.crossbar.specs.FormerLoad.{former_verdict, former_load, AsBefore}
use Rattle.crossbar.specs.declared.state.Switch.{Switch}
use Rattle.crossbar.specs.declared.state.Reply.{Reply}

pub can_load : (s : Switch) (n t : ℕ) (rates : List ℕ) → load_verdict s n t rates ≡ Ok tt → CanLoad s n t rates
unfolding load_verdict
can_load s n t rates e =
    let first = refuse_passed (not (valid_of s)) _ _ e in
    let second = then_passed (accept_of n t rates) _ first.1 in
    let third = refuse_passed (not (eqb n s.running.ports && eqb t s.running.frame)) _ _ second.1 in
    let same = and_true (eqb n s.running.ports) (eqb t s.running.frame) (not-false _ third.0) in
    record {
      valid = not-false _ first.0;
      plan = accepted n t rates second.0;
      ports = eqb-true n _ same.0;
      frame = eqb-true t _ same.1;
    }

pub loads : (s : Switch) (n t : ℕ) (rates : List ℕ) → CanLoad s n t rates → load_verdict s n t rates ≡ Ok tt
unfolding load_verdict
loads s n t rates can =
    simp (
      can.valid,
      accepts n t rates can.plan,
      eq-eqb n _ can.ports,
      eq-eqb t _ can.frame,
    )

-- An order that ended in one refusal more: where another verdict came of it, it comes without that refusal too.
shorter : (a : Bool) (v : Verdict) (b w : Bool) (x y r : Refusal) → let former = refuse_if a x (and_then v (refuse_if b y (refuse_if w r (Ok tt)))) in
    (former ≡ Err r → ⊥) → refuse_if a x (and_then v (refuse_if b y (Ok tt))) ≡ former
shorter true v b w x y r h = refl
shorter false (Err q) b w x y r h = refl
shorter false (Ok _) true w x y r h = refl
shorter false (Ok _) false true x y r h = absurd (h refl)
shorter false (Ok _) false false x y r h = refl

module _ (s : Switch) (n t : ℕ) (rates : List ℕ) where
  answered_before : (r : Refusal) → (former_verdict r s n t rates ≡ Err r → ⊥) → load_of s n t rates ≡ former_load r s n t rates
  unfolding load_of load_verdict former_load former_verdict
  answered_before r h =
      let other = not (eqb n s.running.ports && eqb t s.running.frame) in
      ap (λ (v : Verdict). record { verdict = v; state = if_accepted v (with_waiting s n t rates) s })
      (shorter (not (valid_of s)) (accept_of n t rates) other (has_waiting s) StateInvalid PlanMismatch r h)

  pub as_before : AsBefore s n t rates
  as_before =
      record {
        accepted = λ r e. answered_before r (λ told. refused_not_accepted r (sym told ∙ e));
        refused = λ r q e other. answered_before r (λ told. let same : Err q ≡ Err r = sym e ∙ told in other cc);
      }

-- "the later plan replaces the waiting one": of two plans laid into a state the second stands, and no trace of the first, also
-- where the array has places for ports from N up.
pub waiting_twice : (s : Switch) (n t m u : ℕ) (first second : List ℕ) → n ≡ m → with_waiting (with_waiting s n t first) m u second ≡ with_waiting s m u second
waiting_twice s n t m u first second e = rw (e, overlaid_twice s.waiting.rates first second (m * m)) refl

-- after two loads that were accepted, the state is that of the second load alone
pub load_twice : (s : Switch) (n t m u : ℕ) (first second : List ℕ)
    → load_verdict s n t first ≡ Ok tt → load_verdict (load_of s n t first).state m u second ≡ Ok tt
    → load_of (load_of s n t first).state m u second ≡ load_of s m u second
unfolding load_of
load_twice s n t m u first second e f =
    let one = can_load s n t first e in
    let later : load_verdict (with_waiting s n t first) m u second ≡ Ok tt = rw e at f in
    let two = can_load (with_waiting s n t first) m u second later in
    let alone = loads s m u second (record { valid = one.valid; plan = two.plan; ports = two.ports; frame = two.frame }) in
    rw (e, later, alone, waiting_twice s n t m u first second (one.ports ∙ sym two.ports)) refl

-- What a reply that says "accepted" tells.

pub load_told : (s : Switch) (n t : ℕ) (rates : List ℕ) {r : Reply} → r ≡ load_of s n t rates → r.verdict ≡ Ok tt → load_verdict s n t rates ≡ Ok tt
unfolding load_of
load_told s n t rates is e = sym (ap (λ (x : Reply). x.verdict) is) ∙ e

pub load_state : (s : Switch) (n t : ℕ) (rates : List ℕ) → load_verdict s n t rates ≡ Ok tt → (load_of s n t rates).state ≡ with_waiting s n t rates
unfolding load_of
load_state s n t rates e = rw e refl

-- The answer, as the code puts it together from its verdict v.
module _ (s : Switch) (n t : ℕ) (rates : List ℕ) {v : Verdict} (is : v ≡ load_verdict s n t rates) where
  pub load_accepted : {plan : Plan} → v ≡ Ok tt → plan ≡ plan_over s.waiting n t rates
      → ◌≡◌ {A = Reply} (record { verdict = v; state = with_plans s s.running plan 1 }) (load_of s n t rates)
  unfolding load_of
  load_accepted told made = rw (made, ← is, told) refl

  -- a refused load leaves the state as it was
  pub load_refused : {r : Refusal} → v ≡ Err r → ◌≡◌ {A = Reply} (record { verdict = v; state = s }) (load_of s n t rates)
  unfolding load_of
  load_refused told = rw (← is, told) refl
