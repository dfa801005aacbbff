-- Sums of n terms: when they reach n times a limit, when shares of a total stay within one, and that a term grows by no
-- more than the sum does.
use Prim.Native.Nat.{ℕ, zero, suc, ◌+◌, ◌*◌, ◌<◌, ◌≤◌}
use mathlib.Core.Path.{◌≡◌, ◌∙◌}
use mathlib.Core.Logic.{◌⊎◌, ⊎_elim}
use native.Mathlib.Nat.{le_of_mul-le-mul_right}
use native.Mathlib.Omega.{arith}
use Rattle.plan.specs.Below.{sum_below}
use Rattle.plan.proofs.BelowLaws.{lt_or_le, below_or_last, sum_ext, sum_mono, sum_zero, sum_const, sum_term, sum_share}

-- terms of at most t that come to n × t are all t
sum_full : (x : ℕ → ℕ) (n t : ℕ) → ((k : ℕ) → k < n → x k ≤ t) → sum_below x n ≡ n * t → (k : ℕ) → k < n → x k ≡ t
sum_full x zero t h e k l = absurd (omega arith)
sum_full x (suc n) t h e k l =
    let most : sum_below x n ≤ n * t = omega (arith, sum_mono x (λ m. t) n (λ m b. h m (omega arith)), sum_const t n) in
    let last : x n ≤ t = h n (omega arith) in
    ⊎_elim
    (λ (b : k < n). sum_full x n t (λ m a. h m (omega arith)) (omega arith) k b)
    (λ (b : k ≡ n). rw b (omega arith))
    (below_or_last k n l)

-- r and c have the same total and no term above t; if of each pair of terms one is t, every r is t
pub pairs_full : (r c : ℕ → ℕ) (n t : ℕ) → sum_below r n ≡ sum_below c n → ((i : ℕ) → i < n → r i ≤ t)
    → ((i j : ℕ) → i < n → j < n → (r i ≡ t) ⊎ (c j ≡ t)) → (i : ℕ) → i < n → r i ≡ t
pairs_full r c n t e most full i hi =
    ⊎_elim
    (λ (short : r i < t).
    let others : (j : ℕ) → j < n → c j ≡ t = λ j hj. ⊎_elim (λ (a : r i ≡ t). absurd (omega arith)) (λ (b : c j ≡ t). b) (full i j hi hj) in
    sum_full r n t most (e ∙ sum_ext c (λ j. t) n others ∙ sum_const t n) i hi)
    (λ (b : t ≤ r i). omega (arith, most i hi))
    (lt_or_le (r i) t)

-- where each x is at most d's part of the sum of all d, as parts of t, the x come to t at most
pub shares_within : (x d : ℕ → ℕ) (n t : ℕ) → ((k : ℕ) → k < n → x k * sum_below d n ≤ t * d k) → ((k : ℕ) → k < n → d k ≡ 0 → x k ≡ 0) → sum_below x n ≤ t
shares_within x d n t part none =
    ⊎_elim
    (λ (some : 0 < sum_below d n). le_of_mul-le-mul_right {k = sum_below d n} (sum_share x d (sum_below d n) t n part) some)
    (λ (empty : sum_below d n ≤ 0).
    let zeros : sum_below x n ≡ 0 = sum_ext x (λ k. 0) n (λ k l. none k l (omega (arith, sum_term d n k l))) ∙ sum_zero n in
    omega arith)
    (lt_or_le 0 (sum_below d n))

-- if no term falls, none grows by more than the sum
pub sum_gap : (x y : ℕ → ℕ) (n k : ℕ) → ((m : ℕ) → m < n → x m ≤ y m) → k < n → y k + sum_below x n ≤ x k + sum_below y n
sum_gap x y zero k h l = absurd (omega arith)
sum_gap x y (suc n) k h l =
    ⊎_elim
    (λ (b : k < n). omega (arith, sum_gap x y n k (λ m a. h m (omega arith)) b, h n (omega arith)))
    (λ (b : k ≡ n). rw b (omega (arith, sum_mono x y n (λ m a. h m (omega arith)))))
    (below_or_last k n l)
