-- Sums and tests over the numbers below n: one more term, all terms compared, one term changed or alone, sums of sums.
use Prim.Native.Nat.{ℕ, zero, suc, ◌+◌, ◌*◌, ◌<◌, ◌≤◌}
use mathlib.Core.Path.{◌≡◌, refl, ap, sym, ◌∙◌}
use mathlib.Core.Bool.{Bool, true, false, ◌&&◌}
use mathlib.Core.Logic.{◌⊎◌, inl, inr, ⊎_elim}
use native.Mathlib.Decide.{dec_lt}
use native.Mathlib.Nat.{add-zero, zero-add, add-suc, zero-mul, suc-mul}
use native.Mathlib.Numerals.{add-one}
use native.Mathlib.Omega.{arith}
use mathlib.Core.List.{List, map}
use lib.ListN.{length, get_or}
use Rattle.std.specs.Prelude.{MatchBool}
use Rattle.std.specs.List.{AllWithin, HoldsAt, range_with_len, sum}
use Rattle.std.proofs.lemmas.List.FromFn.{length-range_with_len, get_or-range_with_len, sum_by-map-range_with_len_more}
use Rattle.plan.specs.Below.{sum_below, all_below}

pub lt_or_le : (m n : ℕ) → (m < n) ⊎ (n ≤ m)
lt_or_le m n = go (dec_lt m n)
  where
    go : Dec (m < n) → (m < n) ⊎ (n ≤ m)
    go (yes h) = inl h
    go (no h) = inr (omega arith)

-- a number below n + 1 is below n, or is n
pub below_or_last : (m n : ℕ) → m < suc n → (m < n) ⊎ (m ≡ n)
below_or_last m n h = ⊎_elim inl (λ (l : n ≤ m). inr (omega arith)) (lt_or_le m n)

pub sum_ext : (x y : ℕ → ℕ) (n : ℕ) → ((k : ℕ) → k < n → x k ≡ y k) → sum_below x n ≡ sum_below y n
sum_ext x y zero h = refl
sum_ext x y (suc n) h = omega (arith, sum_ext x y n (λ k l. h k (omega arith)), h n (omega arith))

pub sum_mono : (x y : ℕ → ℕ) (n : ℕ) → ((k : ℕ) → k < n → x k ≤ y k) → sum_below x n ≤ sum_below y n
sum_mono x y zero h = omega arith
sum_mono x y (suc n) h = omega (arith, sum_mono x y n (λ k l. h k (omega arith)), h n (omega arith))

pub sum_zero : (n : ℕ) → sum_below (λ k. 0) n ≡ 0
sum_zero zero = refl
sum_zero (suc n) = omega (arith, sum_zero n)

sum_add : (x y : ℕ → ℕ) (n : ℕ) → sum_below (λ k. x k + y k) n ≡ sum_below x n + sum_below y n
sum_add x y zero = refl
sum_add x y (suc n) = omega (arith, sum_add x y n)

pub sum_const : (x n : ℕ) → sum_below (λ k. x) n ≡ n * x
sum_const x zero = omega arith
sum_const x (suc n) = omega (arith, sum_const x n)

-- no term is above the sum
pub sum_term : (x : ℕ → ℕ) (n k : ℕ) → k < n → x k ≤ sum_below x n
sum_term x zero k l = omega arith
sum_term x (suc n) k l =
    ⊎_elim
    (λ (h : k < n). omega (arith, sum_term x n k h))
    (λ (e : k ≡ n). rw e (omega arith))
    (below_or_last k n l)

-- one term grows by g, and the others stay
pub sum_grow : (x y : ℕ → ℕ) (n m g : ℕ) → m < n → y m ≡ x m + g → ((k : ℕ) → k < n → (k ≡ m → ⊥) → y k ≡ x k) → sum_below y n ≡ sum_below x n + g
sum_grow x y zero m g l e h = omega arith
sum_grow x y (suc n) m g l e h =
    ⊎_elim
    (λ (b : m < n). omega (arith, sum_grow x y n m g b e (λ k a. h k (omega arith)), h n (omega arith) (omega arith)))
    (λ (b : m ≡ n). let last : y n ≡ x n + g = rw b at e in omega (arith, sum_ext y x n (λ k a. h k (omega arith) (omega arith))))
    (below_or_last m n l)

-- every term but one is 0
pub sum_one : (x : ℕ → ℕ) (n m : ℕ) → m < n → ((k : ℕ) → k < n → (k ≡ m → ⊥) → x k ≡ 0) → sum_below x n ≡ x m
sum_one x n m l h = omega (arith, sum_grow (λ k. 0) x n m (x m) l (omega arith) h, sum_zero n)

-- shares: where each x is at most a's part of w parts of t, so are the sums
pub sum_share : (x a : ℕ → ℕ) (t w n : ℕ) → ((k : ℕ) → k < n → x k * t ≤ w * a k) → sum_below x n * t ≤ w * sum_below a n
sum_share x a t w zero h = omega arith
sum_share x a t w (suc n) h = omega (arith, sum_share x a t w n (λ k l. h k (omega arith)), h n (omega arith))

-- the terms below m, and the n that follow
sum_more : (x : ℕ → ℕ) (m n : ℕ) → sum_below x (m + n) ≡ sum_below x m + sum_below (λ k. x (m + k)) n
sum_more x m zero = rw add-zero (omega arith)
sum_more x m (suc n) = rw add-suc (omega (arith, sum_more x m n))

-- m rows of n terms, row by row
pub sum_rows : (x : ℕ → ℕ) (m n : ℕ) → sum_below x (m * n) ≡ sum_below (λ i. sum_below (λ k. x (i * n + k)) n) m
sum_rows x zero n = rw zero-mul refl
sum_rows x (suc m) n = rw suc-mul (omega (arith, sum_more x (m * n) n, sum_rows x m n))

-- rows and columns of a table add up to the same total
pub sum_swap : (x : ℕ → ℕ → ℕ) (m n : ℕ) → sum_below (λ i. sum_below (x i) n) m ≡ sum_below (λ j. sum_below (λ i. x i j) m) n
sum_swap x zero n = omega (arith, sum_zero n)
sum_swap x (suc m) n = omega (arith, sum_swap x m n, sum_add (λ j. sum_below (λ i. x i j) m) (x m) n)

pub and_true : (a b : Bool) → (a && b) ≡ true → (a ≡ true) × (b ≡ true)
and_true true true e = (refl, refl)
and_true true false e = let z : ◌≡◌ {A = ℕ} 0 1 = cc in absurd (omega arith)
and_true false b e = let z : ◌≡◌ {A = ℕ} 0 1 = cc in absurd (omega arith)

pub all_holds : (p : ℕ → Bool) (n : ℕ) → all_below p n ≡ true → (k : ℕ) → k < n → p k ≡ true
all_holds p zero e k l = absurd (omega arith)
all_holds p (suc n) e k l =
    let both = and_true (all_below p n) (p n) e in
    ⊎_elim (λ (b : k < n). all_holds p n both.0 k b) (λ (b : k ≡ n). rw b both.1) (below_or_last k n l)

pub all_intro : (p : ℕ → Bool) (n : ℕ) → ((k : ℕ) → k < n → p k ≡ true) → all_below p n ≡ true
all_intro p zero h = refl
all_intro p (suc n) h = rw (all_intro p n (λ k l. h k (omega arith)), h n (omega arith)) refl

pub all_ext : (p q : ℕ → Bool) (n : ℕ) → ((k : ℕ) → k < n → p k ≡ q k) → all_below p n ≡ all_below q n
all_ext p q zero h = refl
all_ext p q (suc n) h = rw (all_ext p q n (λ k l. h k (omega arith)), h n (omega arith)) refl

-- one that fails decides
pub all_fails : (p : ℕ → Bool) (n k : ℕ) → k < n → p k ≡ false → all_below p n ≡ false
all_fails p n k l e = go (all_below p n) refl
  where
    go : (b : Bool) → all_below p n ≡ b → all_below p n ≡ false
    go true h = let t = all_holds p n h k l in let z : ◌≡◌ {A = ℕ} 0 1 = cc in absurd (omega arith)
    go false h = h

-- What `all` over a list answers, by what each call of its test answered; the list has x 0, .., x (n - 1).
pub all_by_list : (p : ℕ → Bool) (x : ℕ → ℕ) (xs : List ℕ) (n : ℕ) (r : Bool) → length xs ≡ n → ((k : ℕ) → k < n → get_or xs k 0 ≡ x k)
    → MatchBool r (AllWithin (λ m. p m ≡ true) xs 0 (length xs)) ((k : ℕ) × (k < length xs) × HoldsAt (λ m. p m ≡ false) xs k)
    → r ≡ all_below (λ k. p (x k)) n
all_by_list p x xs n true size has h = sym (all_intro (λ k. p (x k)) n (λ k l. rw (has k l) at (h k 0 (omega arith) (omega (arith, size)))))
all_by_list p x xs n false size has h =
    let below : h.0 < n = omega (arith, h.1, size) in
    sym (all_fails (λ k. p (x k)) n h.0 below (rw (has h.0 below) at (h.2 0)))

-- the terms at 0, .., n - 1, added up one after the other
pub sum_by_range : (x : ℕ → ℕ) (n : ℕ) → sum (map x (range_with_len 0 n)) ≡ sum_below x n
sum_by_range x zero = refl
sum_by_range x (suc n) = rw (add-one n) at (sum_by-map-range_with_len_more (λ y. y) x 0 n n (zero-add n)) ∙ ap (λ s. s + x n) (sum_by_range x n)

-- and over the numbers 0, .., n - 1
pub all_by_range : (p : ℕ → Bool) (n : ℕ) (r : Bool)
    → MatchBool r
    (AllWithin (λ k. p k ≡ true) (range_with_len 0 n) 0 (length (range_with_len 0 n)))
    ((k : ℕ) × (k < length (range_with_len 0 n)) × HoldsAt (λ k. p k ≡ false) (range_with_len 0 n) k)
    → r ≡ all_below p n
all_by_range p n r = all_by_list p (λ k. k) (range_with_len 0 n) n r (length-range_with_len 0 n) (λ k l. get_or-range_with_len 0 n k 0 l ∙ zero-add k)
