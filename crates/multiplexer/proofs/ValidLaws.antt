-- What valid service counts are known to have, and that these are the valid ones.
use Prim.Native.Nat.{ℕ, zero, suc, ◌+◌, ◌*◌, ◌<◌, ◌≤◌}
use mathlib.Core.Path.{◌≡◌, refl}
use mathlib.Core.Bool.{Bool, true, false, not, cond, ◌&&◌, ◌||◌}
use mathlib.Core.List.{List}
use native.Mathlib.Omega.{arith}
use lib.Dec.{leb, eqb}
use lib.ListN.{get_or}
use borrow.Author.Tests.{leb-true, eqb-true, lt-leb, le-leb, eq-eqb, ne_eqb}
use Rattle.plan.proofs.BelowLaws.{and_true, all_holds, all_intro}
use Rattle.multiplexer.specs.Valid.{count_valid, port_valid}

abbrev pub CountWithin : ℕ → ℕ → ℕ → Type 0
CountWithin slot rate k = (k ≤ rate) × (slot ≡ 0 → k ≡ 0)

pub count_valid_lem : (slot rate k : ℕ) → count_valid slot rate k ≡ true → CountWithin slot rate k
count_valid_lem slot rate k e =
    let both = and_true (leb k rate) (not (eqb slot 0) || eqb k 0) e in
    (leb-true k rate both.0, λ z. eqb-true k 0 (simp (eq-eqb slot 0 z) at both.1))

pub count_is_valid : (slot rate k : ℕ) → CountWithin slot rate k → count_valid slot rate k ≡ true
count_is_valid slot rate k h = go (eqb slot 0) refl
  where
    go : (b : Bool) → eqb slot 0 ≡ b → count_valid slot rate k ≡ true
    go true z = simp (le-leb k rate h.0, z, eq-eqb k 0 (h.1 (eqb-true slot 0 z)))
    go false z = simp (le-leb k rate h.0, z)

-- the rule as one comparison
pub one_comparison : (slot rate k : ℕ) → leb k (cond (eqb slot 0) 0 rate) ≡ count_valid slot rate k
one_comparison slot rate k = go (eqb slot 0) k refl
  where
    and_pass : (b : Bool) → b ≡ (b && true)
    and_pass true = refl
    and_pass false = refl

    and_fail : (b : Bool) → false ≡ (b && false)
    and_fail true = refl
    and_fail false = refl

    go : (b : Bool) (k : ℕ) → eqb slot 0 ≡ b → leb k (cond (eqb slot 0) 0 rate) ≡ count_valid slot rate k
    go true zero z = simp (z, le-leb 0 rate (omega arith))
    go true (suc k) z = simp (z, lt-leb (suc k) 0 (omega arith), ne_eqb (suc k) 0 (λ e. omega arith)) (and_fail (leb (suc k) rate))
    go false k z = simp z (and_pass (leb k rate))

module _ (rates served : List ℕ) (n start along slot : ℕ) where
  pub port_valid_lem : port_valid rates served n start along slot ≡ true → (f : ℕ) → f < n
      → CountWithin slot (get_or rates (start + f * along) 0) (get_or served f 0)
  unfolding port_valid
  port_valid_lem e f l = count_valid_lem slot _ _ (all_holds _ n e f l)

  pub port_is_valid : ((f : ℕ) → f < n → CountWithin slot (get_or rates (start + f * along) 0) (get_or served f 0))
      → port_valid rates served n start along slot ≡ true
  unfolding port_valid
  port_is_valid h = all_intro _ n (λ f l. count_is_valid slot _ _ (h f l))
