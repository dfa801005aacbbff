-- What valid plans are known to be, and that these are the valid ones.
use Prim.Native.Nat.{ℕ}
use mathlib.Core.Path.{◌≡◌, refl}
use mathlib.Core.Bool.{Bool, true, false, not, ◌&&◌, ◌||◌}
use native.Mathlib.Omega.{arith}
use lib.Dec.{eqb}
use borrow.Author.Tests.{eqb-true, eq-eqb}
use Rattle.refusal.specs.Verdict.{Verdict}
use Rattle.std.specs.Prelude.{Ok, Err, is_ok}
use Rattle.plan.specs.Accept.{accept_of}
use Rattle.plan.specs.declared.Plan.{Plan}
use Rattle.plan.proofs.BelowLaws.{and_true}
use Rattle.plan.proofs.AcceptLaws.{accepted, accepts}
use Rattle.planpair.specs.Rates.{plan_rates}
use Rattle.planpair.specs.Valid.{plan_valid, same_ports, plans_valid, IsPlanOf}

plan_valid_lem : (p : Plan) → plan_valid p ≡ true → IsPlanOf p
unfolding plan_valid
plan_valid_lem p e = accepted p.ports p.frame (plan_rates p) (go (accept_of p.ports p.frame (plan_rates p)) e)
  where
    go : (v : Verdict) → is_ok v ≡ true → v ≡ Ok tt
    go (Ok _) e = refl
    go (Err r) e = let z : ◌≡◌ {A = ℕ} 0 1 = cc in absurd (omega arith)

plan_is_valid : (p : Plan) → IsPlanOf p → plan_valid p ≡ true
unfolding plan_valid
plan_is_valid p h = simp (accepts p.ports p.frame (plan_rates p) h)

module _ (p q : Plan) (waits : Bool) where
  pub running_valid : plans_valid p q waits ≡ true → IsPlanOf p
  unfolding plans_valid
  running_valid e = plan_valid_lem p (and_true (plan_valid p) (not waits || (plan_valid q && same_ports p q)) e).0

  pub waiting_valid : plans_valid p q waits ≡ true → waits ≡ true → IsPlanOf q × (p.ports ≡ q.ports) × (p.frame ≡ q.frame)
  unfolding plans_valid
  waiting_valid e w =
      let rest = (and_true (plan_valid p) (not waits || (plan_valid q && same_ports p q)) e).1 in
      let both = and_true (plan_valid q) (same_ports p q) (rw w at rest) in
      let same = and_true (eqb p.ports q.ports) (eqb p.frame q.frame) both.1 in
      (plan_valid_lem q both.0, eqb-true _ _ same.0, eqb-true _ _ same.1)

  pub plans_are_valid : IsPlanOf p → (waits ≡ true → IsPlanOf q) → (waits ≡ true → p.ports ≡ q.ports) → (waits ≡ true → p.frame ≡ q.frame) → plans_valid p q waits ≡ true
  unfolding plans_valid
  plans_are_valid hp hq ports frame = go waits refl
    where
      go : (b : Bool) → waits ≡ b → (plan_valid p && (not waits || (plan_valid q && same_ports p q))) ≡ true
      go true w = simp (plan_is_valid p hp, plan_is_valid q (hq w), w, eq-eqb _ _ (ports w), eq-eqb _ _ (frame w))
      go false w = simp (plan_is_valid p hp, w)

  -- where all but the last test has passed
  pub frames_left : plan_valid p ≡ true → not waits ≡ false → plan_valid q ≡ true → p.ports ≡ q.ports → eqb p.frame q.frame ≡ plans_valid p q waits
  unfolding plans_valid
  frames_left a w b e = simp (a, w, b, eq-eqb p.ports q.ports e)
