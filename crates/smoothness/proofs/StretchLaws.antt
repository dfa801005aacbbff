-- The lengths in which a flow is measured, and which of them count.
use Prim.Native.Nat.{ℕ, zero, suc, ◌+◌, ◌<◌, ◌≤◌}
use mathlib.Core.Bool.{Bool, true, false, not, ◌&&◌, ◌||◌}
use mathlib.Core.List.{List}
use mathlib.Core.Path.{◌≡◌, refl, ap}
use native.Mathlib.Nat.{div-le_self}
use native.Mathlib.Numerals.{add-one}
use native.Mathlib.Omega.{arith}
use lib.Dec.{ltb, eqb}
use lib.ListN.{length, get_or, take}
use lib.Seq.{take-suc}
use borrow.Author.Tests.{ltb-true, ne_eqb}
use Rattle.std.specs.List.{list_any}
use Rattle.std.proofs.lemmas.List.Folds.{list_any-append}
use Rattle.plan.specs.Below.{all_below}
use Rattle.plan.proofs.BelowLaws.{and_true}
use Rattle.smoothness.specs.Printout.{stretches_of, counts}

-- the length at place k, of a frame of T slots
abbrev pub length_at : ℕ → ℕ → ℕ
length_at T k = get_or (stretches_of T) k 0

neither : (a b : Bool) → (not a && not b) ≡ not (a || (b || false))
neither true b = refl
neither false true = refl
neither false false = refl

pub length_within : (T k : ℕ) → 1 ≤ T → length_at T k ≤ T
length_within T zero some = some
length_within T (suc zero) some = div-le_self T 4
length_within T (suc (suc zero)) some = div-le_self T 2
length_within T (suc (suc (suc zero))) some = omega arith
length_within T (suc (suc (suc (suc k)))) some = omega arith

module _ (lengths : List ℕ) (k : ℕ) where
  abbrev l : ℕ
  l = get_or lengths k 0

  -- the length at place m is another one
  abbrev other : ℕ → Bool
  other m = not (eqb (get_or lengths m 0) l)

  -- no length before place m is that of place k
  abbrev pub NewTo : ℕ → Type 0
  NewTo m = all_below other m ≡ true

  pub new_next : (m : ℕ) → NewTo m → (get_or lengths m 0 ≡ l → ⊥) → NewTo (m + 1)
  new_next m new ne = rw (add-one, new, ne_eqb (get_or lengths m 0) l ne) refl

  -- it is none of the first m
  abbrev among : ℕ → Bool
  among m = list_any (λ y. eqb y l) (take m lengths)

  unseen : (m : ℕ) → m ≤ length lengths → all_below other m ≡ not (among m)
  unseen zero h = refl
  unseen (suc m) h =
      rw (unseen m (omega arith), take-suc lengths m 0 (omega arith), list_any-append)
      (neither (among m) (eqb (get_or lengths m 0) l))

  pub counts_is : k < length lengths → counts lengths k ≡ (ltb 0 l && not (among k))
  unfolding counts
  counts_is h = ap (λ (b : Bool). ltb 0 l && b) (unseen k (omega arith))

  pub counts_some : counts lengths k ≡ true → 1 ≤ l
  unfolding counts
  counts_some e = ltb-true 0 l (and_true (ltb 0 l) (all_below other k) e).0
