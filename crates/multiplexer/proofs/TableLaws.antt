-- The rule of the table of deadlines: one test over all of its entries, and what it tells of each.
use Prim.Native.Nat.{ℕ, zero, suc, ◌+◌, ◌-◌, ◌*◌, ◌/◌, ◌^◌, ◌<◌, ◌≤◌}
use mathlib.Core.Path.{◌≡◌, refl, sym, ap, ◌∙◌}
use mathlib.Core.Bool.{Bool, true, ◌&&◌}
use mathlib.Core.Logic.{◌⊎◌, inl, inr, ⊎_elim}
use mathlib.Core.List.{List, [], ◌∷◌}
use native.Mathlib.Nat.{mul-le-mul}
use native.Mathlib.Omega.{arith}
use lib.Dec.{eqb}
use lib.ListN.{length, get_or}
use borrow.Author.Tests.{eqb-true}
use Rattle.plan.proofs.BelowLaws.{lt_or_le, and_true}
use Rattle.multiplexer.specs.Choose.{rounded_up}
use Rattle.multiplexer.specs.Deadlines.{table_frame, entries_before, place_of, TableRule}

-- the entry of rate a and service s is x
abbrev is_entry : ℕ → ℕ → ℕ → Bool
is_entry a s x = eqb x (rounded_up (s * table_frame) a)

-- the entries from that of rate a and service s on, behind which its rate has m more
abbrev right : ℕ → ℕ → ℕ → List ℕ → Bool
right a m s [] = true
right a zero s (x ∷ xs) = is_entry a s x && right (suc a) a 1 xs
right a (suc m) s (x ∷ xs) = is_entry a s x && right a m (suc s) xs

-- the entries of smaller rates come before
before_mono : (a b : ℕ) → a ≤ b → entries_before a ≤ entries_before b
before_mono a zero l = let e : a ≡ 0 = omega arith in rw e (omega arith)
before_mono a (suc b) l =
    ⊎_elim
    (λ (k : a < suc b). omega (arith, before_mono a b (omega arith)))
    (λ (k : suc b ≤ a). let e : a ≡ suc b = omega arith in rw e (omega arith))
    (lt_or_le a (suc b))

-- no place is that of two rates
one_rate : (a s b r : ℕ) → 1 ≤ s → s ≤ a → 1 ≤ r → r ≤ b → entries_before a + s ≡ entries_before b + r → a ≡ b
one_rate a s b r s1 sa r1 rb e =
    ⊎_elim
    (λ (l : a < b). absurd (omega (arith, before_mono (suc a) b l)))
    (λ (l : b ≤ a). ⊎_elim (λ (m : b < a). absurd (omega (arith, before_mono (suc b) a m))) (λ (m : a ≤ b). omega arith) (lt_or_le b a))
    (lt_or_le a b)

-- The entry of rate b and service r, which lies p behind that of rate a and service s, with which the list begins.
module _ (b r : ℕ) (r1 : 1 ≤ r) (rb : r ≤ b) where
  here : (x a s : ℕ) (onward : Bool) → 1 ≤ s → s ≤ a → (is_entry a s x && onward) ≡ true → entries_before a + s ≡ entries_before b + r
      → x ≡ rounded_up (r * table_frame) b
  here x a s onward s1 sa t place =
      let rate : a ≡ b = one_rate a s b r s1 sa r1 rb place in
      let service : s ≡ r = omega (arith, ap entries_before rate) in
      rw (sym rate, sym service) (eqb-true x (rounded_up (s * table_frame) a) (and_true (is_entry a s x) onward t).0)

  right_at : (xs : List ℕ) (a m s p : ℕ) → 1 ≤ s → s + m ≡ a → right a m s xs ≡ true → entries_before a + s + p ≡ entries_before b + r
      → p < length xs → get_or xs p 0 ≡ rounded_up (r * table_frame) b
  right_at [] a m s p s1 e t place l = absurd (omega arith)
  right_at (x ∷ xs) a zero s zero s1 e t place l = here x a s (right (suc a) a 1 xs) s1 (omega arith) t (omega arith)
  right_at (x ∷ xs) a (suc m) s zero s1 e t place l = here x a s (right a m (suc s) xs) s1 (omega arith) t (omega arith)
  right_at (x ∷ xs) a zero s (suc p) s1 e t place l =
      right_at xs (suc a) a 1 p (omega arith) (omega arith) (and_true (is_entry a s x) (right (suc a) a 1 xs) t).1 (omega arith) (omega arith)
  right_at (x ∷ xs) a (suc m) s (suc p) s1 e t place l =
      right_at xs a m (suc s) p (omega arith) (omega arith) (and_true (is_entry a s x) (right a m (suc s) xs) t).1 (omega arith) (omega arith)

-- one test over the whole table, which antt computes, and its length
pub rule_tested : (table : List ℕ) → right 1 0 1 table ≡ true → length table ≡ entries_before (suc table_frame) → TableRule table
rule_tested table tested full =
    record {
      full = full;
      entry = λ a s a1 a64 s1 sa.
          right_at a s s1 sa table 1 0 1 (place_of a s) (omega arith) (omega arith) tested (omega arith)
          (omega (arith, full, before_mono (suc a) (suc table_frame) (omega arith)));
    }

-- the code finds the entries before a rate by a product
twice_before : (a : ℕ) → suc a * a ≡ 2 * entries_before (suc a)
twice_before zero = refl
twice_before (suc a) = omega (arith, twice_before a)

pub half_product : (a : ℕ) → a * (a - 1) / 2 ^ 1 ≡ entries_before a
half_product zero = refl
half_product (suc a) = let e : suc a - 1 ≡ a = omega arith in rw e (omega (arith, twice_before a))

pub before_small : (a : ℕ) → a ≤ table_frame → entries_before a ≤ 2016
before_small a a64 = before_mono a table_frame a64

-- The entry at place p of the table is that of rate a and service s.
pub record Found (table : List ℕ) (p a s : ℕ) : Type 0 where
  pub below : p < length table
  pub is : get_or table p 0 ≡ rounded_up (s * table_frame) a

pub found : {table : List ℕ} → TableRule table → (a s p : ℕ) → a ≤ table_frame → 1 ≤ s → s ≤ a → p ≡ place_of a s → Found table p a s
found {table} rule a s p a64 s1 sa place =
    record {
      below = omega (arith, rule.full, place, before_mono (suc a) (suc table_frame) (omega arith));
      is = ap (λ (q : ℕ). get_or table q 0) place ∙ rule.entry a s (omega arith) a64 s1 sa;
    }

-- before slot 64, a flow that has had all its services is not eligible, and one with rate 0 is not either
pub all_served : (a k t : ℕ) → t < table_frame → a ≤ k → (a ≡ 0) ⊎ (t * a < k * table_frame)
all_served zero k t l h = inl refl
all_served (suc a) k t l h = inr (omega (arith, mul-le-mul {n₁ = t} {m₁ = suc a} {n₂ = 63} {m₂ = k} (omega arith) h))
