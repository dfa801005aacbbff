-- Lists of rates in the arrays of a plan: what stands where, and that a plan's rates are the list laid over its array.
use Prim.Native.Nat.{ℕ, zero, suc, ◌+◌, ◌*◌, ◌<◌, ◌≤◌}
use mathlib.Core.Path.{◌≡◌, refl, sym, ◌∙◌}
use mathlib.Core.List.{List, []}
use mathlib.Core.Logic.{⊎_elim}
use native.Mathlib.Numerals.{add-one}
use native.Mathlib.Omega.{arith}
use mathlib.Core.List.{◌++◌}
use lib.ListN.{length, get_or, set, take, drop, replicate, length-set}
use Rattle.std.proofs.lemmas.Grind.{common_steps, elements}
use lib.Seq.{get_or-set_same, get_or-set_other, get_or-take, length-take-le, ext_get_or}
use Rattle.plan.specs.Range.{most_flows}
use Rattle.plan.specs.Accept.{IsPlan}
use Rattle.plan.proofs.BelowLaws.{below_or_last, lt_or_le}
use Rattle.plan.proofs.LineLaws.{square_small}
use Rattle.planpair.specs.Rates.{overlaid}

pub overlaid_length : (array list : List ℕ) (count : ℕ) → length (overlaid array list count) ≡ length array
unfolding overlaid
overlaid_length array list zero = refl
overlaid_length array list (suc k) = length-set (overlaid array list k) k (get_or list k 0) ∙ overlaid_length array list k

-- one place more
pub overlaid_next : (array list : List ℕ) (k : ℕ) (f : List ℕ) → f ≡ overlaid array list k → set f k (get_or list k 0) ≡ overlaid array list (k + 1)
unfolding overlaid
overlaid_next array list k f e = rw (add-one, e)

-- from count up, the array's number
overlaid_above : (array list : List ℕ) (count k : ℕ) → count ≤ k → get_or (overlaid array list count) k 0 ≡ get_or array k 0
unfolding overlaid
overlaid_above array list zero k h = refl
overlaid_above array list (suc m) k h = get_or-set_other (overlaid array list m) m k (get_or list m 0) 0 (λ e. omega arith) ∙ overlaid_above array list m k (omega arith)

-- below count, the list's number
overlaid_at : (array list : List ℕ) (count k : ℕ) → k < count → k < length array → get_or (overlaid array list count) k 0 ≡ get_or list k 0
unfolding overlaid
overlaid_at array list zero k h l = absurd (omega arith)
overlaid_at array list (suc m) k h l =
    ⊎_elim
    (λ (b : k < m). get_or-set_other (overlaid array list m) m k (get_or list m 0) 0 (λ e. omega arith) ∙ overlaid_at array list m k b l)
    (λ (e : k ≡ m). rw e (get_or-set_same (overlaid array list m) m (get_or list m 0) 0 (omega (arith, overlaid_length array list m))))
    (below_or_last k m h)

-- the array is the list's first numbers, and then its own
pub overlaid_front : (array list : List ℕ) (count : ℕ) → count ≤ length array → count ≤ length list → take count list ++ drop count array ≡ overlaid array list count
overlaid_front array list count room long =
    ext_get_or 0 (take count list ++ drop count array) (overlaid array list count) (grind (arith, common_steps, overlaid_length array list count))
    (λ k l. ⊎_elim
    (λ (b : k < count). grind (arith, common_steps, overlaid_at array list count k b (omega arith)))
    (λ (a : count ≤ k). grind (arith, elements, overlaid_above array list count k a))
    (lt_or_le k count))

-- only the numbers below count matter
overlaid_ext : (array list other : List ℕ) (count : ℕ) → ((k : ℕ) → k < count → get_or list k 0 ≡ get_or other k 0) → overlaid array list count ≡ overlaid array other count
unfolding overlaid
overlaid_ext array list other zero h = refl
overlaid_ext array list other (suc k) h = rw (overlaid_ext array list other k (λ m l. h m (omega arith)), h k (omega arith)) refl

-- the first numbers of a list are laid over an array as the list is
pub overlaid_part : (array list : List ℕ) (count : ℕ) → overlaid array (take count list) count ≡ overlaid array list count
overlaid_part array list count = overlaid_ext array (take count list) list count (λ k l. get_or-take count list k 0 l)

-- of two lists laid over an array, the second stands
pub overlaid_twice : (array first second : List ℕ) (count : ℕ) → overlaid (overlaid array first count) second count ≡ overlaid array second count
overlaid_twice array first second count =
    let under = overlaid_length array first count in
    let size = overlaid_length (overlaid array first count) second count ∙ under in
    ext_get_or 0 (overlaid (overlaid array first count) second count) (overlaid array second count) (size ∙ sym (overlaid_length array second count))
    (λ k l. ⊎_elim
    (λ (b : k < count). overlaid_at (overlaid array first count) second count k b (omega arith) ∙ sym (overlaid_at array second count k b (omega arith)))
    (λ (a : count ≤ k). overlaid_above (overlaid array first count) second count k a ∙ overlaid_above array first count k a ∙ sym (overlaid_above array second count k a))
    (lt_or_le k count))

zero_at : (m k : ℕ) → ◌≡◌ {A = ℕ} (get_or (replicate m 0) k 0) 0
zero_at zero k = refl
zero_at (suc m) zero = refl
zero_at (suc m) (suc k) = zero_at m k

-- a list of zeros clears
pub overlaid_zeros : (array : List ℕ) (m count : ℕ) → overlaid array (replicate m 0) count ≡ overlaid array [] count
overlaid_zeros array m count = overlaid_ext array (replicate m 0) [] count (λ k l. zero_at m k)

-- the numbers below count are the list
pub take_overlaid : (array list : List ℕ) (count : ℕ) → length list ≡ count → count ≤ length array → take count (overlaid array list count) ≡ list
take_overlaid array list count e h =
    let full : length (take count (overlaid array list count)) ≡ count = length-take-le count (overlaid array list count) (omega (arith, overlaid_length array list count)) in
    ext_get_or 0 (take count (overlaid array list count)) list (full ∙ sym e)
    (λ k l. get_or-take count (overlaid array list count) k 0 (omega arith) ∙ overlaid_at array list count k (omega arith) (omega arith))

-- a plan that is accepted is the one read from its array
pub laid_rates : (array : List ℕ) (n t : ℕ) (rates : List ℕ) → length array ≡ most_flows → IsPlan n t rates → take (n * n) (overlaid array rates (n * n)) ≡ rates
laid_rates array n t rates e p = take_overlaid array rates (n * n) p.square (omega (arith, square_small n p.few_ports))
