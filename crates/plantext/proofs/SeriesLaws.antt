-- For the code, which takes marks, digits and items one by one: what one of them makes of the rules.
use Prim.Native.Nat.{ℕ, zero, suc, ◌+◌, ◌*◌, ◌-◌, ◌^◌, ◌<◌}
use mathlib.Core.Path.{◌≡◌, refl, sym}
use mathlib.Core.Bool.{Bool, true, false, cond}
use mathlib.Core.List.{List, [], ◌∷◌, ◌++◌, append-nil}
use mathlib.Core.Logic.{⊎_elim}
use native.Mathlib.Nat.{pow-suc, pow-le-pow_right, lt_of_lt_of_le}
use native.Mathlib.Numerals.{add-one}
use native.Mathlib.Omega.{arith}
use lib.Dec.{eqb, lit<}
use lib.ListN.{length, take, drop, set}
use lib.Pointwise.{pointwise}
use lib.Seq.{take-suc-set}
use Rattle.std.specs.Prelude.{None}
use Rattle.plan.proofs.BelowLaws.{below_or_last}
use Rattle.plantext.specs.Bytes.{comma}
use Rattle.plantext.specs.Values.{Parsed, parsed, skip, digits_from, field, before, series}

-- a mark is skipped if a text begins with it
pub skip_prefix : (mark text : List ℕ) → skip mark text ≡ cond (pointwise eqb (take (length mark) text) mark) (parsed [] (drop (length mark) text)) None
unfolding skip
skip_prefix [] text = refl
skip_prefix (m ∷ mark) [] = refl
skip_prefix (m ∷ mark) (b ∷ text) = go (eqb b m) refl (skip_prefix mark text)
  where
    go : (is : Bool) → eqb b m ≡ is → skip mark text ≡ cond (pointwise eqb (take (length mark) text) mark) (parsed [] (drop (length mark) text)) None
        → skip (m ∷ mark) (b ∷ text) ≡ cond (pointwise eqb (take (length (m ∷ mark)) (b ∷ text)) (m ∷ mark)) (parsed [] (drop (length (m ∷ mark)) (b ∷ text))) None
    go true e later = rw e later
    go false e later = rw e refl

-- with five there is no room for another
pub digits_full : (count value : ℕ) (text : List ℕ) → count ≡ 5 → digits_from (5 - count) count value text ≡ record { count = 5; value = value; rest = text }
unfolding digits_from
digits_full count value text e = rw e refl

-- the number of fewer than five digits
pub value_small : (value k : ℕ) → value < 10 ^ k → k < 5 → value < 10000
value_small value k h l = lt_of_lt_of_le h (pow-le-pow_right {n = 10} (lit< tt) {i = k} {j = 4} (omega arith))

-- the number of k digits and one more
pub value_below : (value d k : ℕ) → value < 10 ^ k → d < 10 → value * 10 + d < 10 ^ (k + 1)
value_below value d k h l = rw (add-one k, pow-suc 10 k) (omega arith)

-- a series that stops at an item has no more
stuck : (item : List ℕ → Parsed) (mark text : List ℕ) (k n : ℕ) → k < n → series item mark (suc k) text ≡ None → series item mark n text ≡ None
unfolding series
stuck item mark text k zero l e = absurd (omega arith)
stuck item mark text k (suc n) l e =
    ⊎_elim (λ (b : k < n). rw (stuck item mark text k n b e) refl) (λ (same : k ≡ n). rw (sym same) e) (below_or_last k n l)

-- One item more of a series, of which k are taken.
module _ (item : List ℕ → Parsed) (mark text : List ℕ) (k : ℕ) (values rest : List ℕ) (taken : series item mark k text ≡ parsed values rest) where
  pub series_next : (left new end : List ℕ) → parsed [] left ≡ skip (before mark k) rest → parsed new end ≡ item left → series item mark (k + 1) text ≡ parsed (values ++ new) end
  unfolding series
  series_next left new end marked one_more = rw (add-one, taken, ← marked, ← one_more, append-nil) refl

  pub no_mark : (n : ℕ) → k < n → None ≡ skip (before mark k) rest → None ≡ series item mark n text
  unfolding series
  no_mark n l marked = sym (stuck item mark text k n l (rw (taken, ← marked) refl))

  pub no_item : (n : ℕ) (left : List ℕ) → k < n → parsed [] left ≡ skip (before mark k) rest → None ≡ item left → None ≡ series item mark n text
  unfolding series
  no_item n left l marked one_more = sym (stuck item mark text k n l (rw (taken, ← marked, ← one_more) refl))

-- One field more of a record, whose values stand in a row.
pub field_next : (text : List ℕ) (k : ℕ) (row rest left : List ℕ) (value : ℕ) (end : List ℕ) → series field comma k text ≡ parsed (take k row) rest → k < length row
    → parsed [] left ≡ skip (before comma k) rest → parsed (value ∷ []) end ≡ field left → series field comma (k + 1) text ≡ parsed (take (k + 1) (set row k value)) end
field_next text k row rest left value end taken within marked one_more =
    rw (add-one k, take-suc-set row k value within, ← add-one k) (series_next field comma text k (take k row) rest taken left (value ∷ []) end marked one_more)

pub before_some : (mark : List ℕ) (k : ℕ) → (k ≡ 0 → ⊥) → before mark k ≡ mark
before_some mark zero ne = absurd (ne refl)
before_some mark (suc k) ne = refl
