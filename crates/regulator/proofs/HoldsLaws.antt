-- A list that holds the values of a function from its first place on: one more is written, one of them grows,
-- and the whole list is known by what it holds.
use Prim.Native.Nat.{ℕ, ◌+◌, ◌<◌}
use mathlib.Core.Path.{◌≡◌, sym, ◌∙◌}
use mathlib.Core.List.{List}
use native.Mathlib.Decide.{ℕ_discrete}
use native.Mathlib.Omega.{arith}
use lib.ListN.{length, get_or, set}
use lib.Seq.{get_or-set_same, get_or-set_other, ext_get_or}
use Rattle.regulator.specs.Sums.{Holds}
use Rattle.plan.specs.Below.{list_below}
use Rattle.plan.proofs.ListLaws.{get_d_list}

-- what holds at i, and at every other number, holds at k
pub at_or_other : (P : ℕ → Type 0) (k i : ℕ) → P i → ((k ≡ i → ⊥) → P k) → P k
at_or_other P k i here other = go (ℕ_discrete k i)
  where
    go : Dec (k ≡ i) → P k
    go (yes e) = rw e here
    go (no ne) = other ne

pub holds_next : (l : List ℕ) (x : ℕ → ℕ) (m v : ℕ) → m < length l → Holds l x m → v ≡ x m → Holds (set l m v) x (m + 1)
holds_next l x m v h e ev k b =
    at_or_other (λ k. get_or (set l m v) k 0 ≡ x k) k m
    (get_or-set_same l m v 0 h ∙ ev)
    (λ ne. get_or-set_other l m k v 0 ne ∙ e k (omega arith))

-- y differs from x at i alone, where it is g more
pub holds_grown : (l : List ℕ) (x y : ℕ → ℕ) (n i g : ℕ) → i < length l → i < n → Holds l x n → y i ≡ x i + g
    → ((k : ℕ) → k < n → (k ≡ i → ⊥) → y k ≡ x k) → Holds (set l i (get_or l i 0 + g)) y n
holds_grown l x y n i g h hi e grown kept k b =
    at_or_other (λ k. get_or (set l i (get_or l i 0 + g)) k 0 ≡ y k) k i
    (omega (arith, get_or-set_same l i (get_or l i 0 + g) 0 h, e i hi))
    (λ ne. get_or-set_other l i k (get_or l i 0 + g) 0 ne ∙ e k b ∙ sym (kept k b ne))

pub list_holds : (x : ℕ → ℕ) (m : ℕ) → Holds (list_below x m) x m
list_holds x m k h = get_d_list x m k 0 h

-- two lists of one length that hold the same
pub holds_same : (l o : List ℕ) (x : ℕ → ℕ) (m : ℕ) → length l ≡ m → length o ≡ m → Holds l x m → Holds o x m → l ≡ o
holds_same l o x m el eo hl ho = ext_get_or 0 l o (el ∙ sym eo) (λ k b. hl k (omega arith) ∙ sym (ho k (omega arith)))
