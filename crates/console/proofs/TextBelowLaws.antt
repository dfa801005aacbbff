-- A text for each number below n, one after the other: put piece by piece behind another text, and how long it can be.
use Prim.Native.Nat.{ℕ, zero, suc, ◌+◌, ◌*◌, ◌<◌, ◌≤◌}
use mathlib.Core.List.{List, [], ◌++◌, append_assoc, append-nil}
use mathlib.Core.Path.{◌≡◌, refl, ap, sym}
use mathlib.Core.Logic.{⊎_elim}
use native.Mathlib.Nat.{add-zero, add-suc}
use native.Mathlib.Numerals.{add-one}
use native.Mathlib.Omega.{arith}
use lib.ListN.{length, length-append}
use Rattle.plan.proofs.BelowLaws.{below_or_last}
use Rattle.console.specs.TextBelow.{text_below}

module _ (text : ℕ → List ℕ) where
  pub below_nothing : text_below text 0 ≡ []
  unfolding text_below
  below_nothing = refl

  pub below_last : (n : ℕ) → text_below text (suc n) ≡ text_below text n ++ text n
  unfolding text_below
  below_last n = refl

  -- those below m, and n more
  pub below_join : (m n : ℕ) → text_below text (m + n) ≡ text_below text m ++ text_below (λ k. text (m + k)) n
  unfolding text_below
  below_join m zero = rw (add-zero m, append-nil) refl
  below_join m (suc n) = rw (add-suc m n, below_join m n, append_assoc) refl

  below_longer : (n : ℕ) → length (text_below text (suc n)) ≡ length (text_below text n) + length (text n)
  unfolding text_below
  below_longer n = length-append (text_below text n) (text n)

  -- those below p, and that of p, are within those below a larger number
  below_within : (p n : ℕ) → p < n → length (text_below text p) + length (text p) ≤ length (text_below text n)
  below_within p zero l = absurd (omega arith)
  below_within p (suc n) l =
      ⊎_elim
      (λ (b : p < n). omega (arith, below_longer n, below_within p n b))
      (λ (e : p ≡ n). rw e (omega (arith, below_longer n)))
      (below_or_last p n l)

  -- texts of at most k bytes
  pub below_short : (k n : ℕ) → ((p : ℕ) → p < n → length (text p) ≤ k) → length (text_below text n) ≤ n * k
  unfolding text_below
  below_short k zero h = omega arith
  below_short k (suc n) h = omega (arith, below_longer n, below_short k n (λ p l. h p (omega arith)), h n (omega arith))

  -- put behind the text `before`: none, then one more, which may be empty, and so all; where there is room for all, there is for
  -- the next
  module _ (before : List ℕ) where
    pub below_start : before ≡ before ++ text_below text 0
    unfolding text_below
    below_start = sym (append-nil before)

    module _ {now : List ℕ} {p : ℕ} (so_far : now ≡ before ++ text_below text p) where
      pub below_step : {line after : List ℕ} → text p ≡ line → after ≡ now ++ line → after ≡ before ++ text_below text (p + 1)
      below_step e put = rw (put, so_far, ← e, add-one p, below_last p) (append_assoc before (text_below text p) (text p))

      pub below_skip : text p ≡ [] → now ≡ before ++ text_below text (p + 1)
      below_skip e = below_step e (sym (append-nil now))

      pub below_end : {n : ℕ} → p ≡ n → now ≡ before ++ text_below text n
      below_end e = rw (← e) so_far

      pub below_room : {n : ℕ} → p < n → length now + length (text p) ≤ length before + length (text_below text n)
      below_room {n} l = omega (arith, ap length so_far, length-append before (text_below text p), below_within p n l)

-- the first one, and the others
pub below_first : (text : ℕ → List ℕ) (n : ℕ) → text_below text (suc n) ≡ text 0 ++ text_below (λ k. text (suc k)) n
unfolding text_below
below_first text zero = sym (append-nil (text 0))
below_first text (suc n) = rw (below_first text n, append_assoc) refl

-- the same texts, one by one
pub below_same : (text text' : ℕ → List ℕ) (n : ℕ) → ((p : ℕ) → p < n → text p ≡ text' p) → text_below text n ≡ text_below text' n
unfolding text_below
below_same text text' zero h = refl
below_same text text' (suc n) h = rw (below_same text text' n (λ p l. h p (omega arith)), h n (omega arith)) refl

-- for the functions that put them so
pub ruleset put_below = (below_start, below_step, below_skip, below_end)
