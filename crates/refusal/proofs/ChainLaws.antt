-- What an accepted verdict says of the conditions that were looked at on the way, and orders that begin alike.
use Prim.Native.Nat.{ℕ}
use mathlib.Core.Path.{◌≡◌, refl, ap}
use mathlib.Core.Bool.{Bool, true, false}
use native.Mathlib.Omega.{arith}
use Rattle.refusal.specs.Chain.{refuse_if, and_then, when_accepted}
use Rattle.refusal.specs.declared.Refusal.{Refusal}
use Rattle.refusal.specs.Verdict.{Verdict}
use Rattle.std.specs.Prelude.{Ok, Err}
use Rattle.std.specs.Result.{result_unwrap_or}

pub refused_not_accepted : (r : Refusal) → ◌≡◌ {A = Verdict} (Err r) (Ok tt) → ⊥
refused_not_accepted r e = let z : ◌≡◌ {A = ℕ} 0 1 = cc in omega arith

pub refuse_passed : (b : Bool) (r : Refusal) (rest : Verdict) → refuse_if b r rest ≡ Ok tt → (b ≡ false) × (rest ≡ Ok tt)
refuse_passed true r rest e = absurd (refused_not_accepted r e)
refuse_passed false r rest e = (refl, e)

pub then_passed : (v rest : Verdict) → and_then v rest ≡ Ok tt → (v ≡ Ok tt) × (rest ≡ Ok tt)
then_passed (Ok _) rest e = (refl, e)
then_passed (Err r) rest e = absurd (refused_not_accepted r e)

-- two orders that begin with the same condition, and go on alike where it doesn't hold
pub refuse_ext : (b : Bool) (r : Refusal) {v w : Verdict} → (b ≡ false → v ≡ w) → refuse_if b r v ≡ refuse_if b r w
refuse_ext true r h = refl
refuse_ext false r h = h refl

-- a call that gives a value was accepted, and one that gives a refusal was refused for that
pub value_accepted : {A : Type 0} (v : Verdict) (x y : A) → when_accepted v x ≡ Ok y → (v ≡ Ok tt) × (x ≡ y)
value_accepted (Ok _) x y e = (refl, ap (λ r. result_unwrap_or r x) e)
value_accepted (Err r) x y e = let z : ◌≡◌ {A = ℕ} 0 1 = cc in absurd (omega arith)

pub refusal_kept : {A : Type 0} (v : Verdict) (x : A) (r : Refusal) → when_accepted v x ≡ Err r → v ≡ Err r
refusal_kept (Ok _) x r e = let z : ◌≡◌ {A = ℕ} 0 1 = cc in absurd (omega arith)
refusal_kept (Err s) x r e = cc
