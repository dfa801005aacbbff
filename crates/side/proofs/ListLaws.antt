-- Lists that hold one value, and tests over a list's places.
use Prim.Native.Nat.{ℕ, ◌<◌, ◌≤◌}
use mathlib.Core.Path.{◌≡◌, ap, sym, ◌∙◌}
use mathlib.Core.Bool.{Bool, true, false}
use mathlib.Core.List.{List}
use native.Mathlib.Nat.{zero-add}
use native.Mathlib.Omega.{arith}
use mathlib.Core.Logic.{⊎_elim}
use lib.ListN.{length, get_or, replicate, length-replicate, get_or-replicate, get_or-eq_default}
use Rattle.std.specs.Prelude.{MatchBool}
use Rattle.std.specs.List.{AllWithin, HoldsAt, enumerate_from}
use Rattle.std.proofs.lemmas.List.FromFn.{length-enumerate_from, get_or-enumerate_from}
use Rattle.plan.specs.Below.{all_below}
use Rattle.plan.proofs.BelowLaws.{lt_or_le, all_intro, all_fails}

-- past its end too, where that value is the default
pub get_d_repeated : {A : Type 0} (n i : ℕ) (a : A) → get_or (replicate n a) i a ≡ a
get_d_repeated n i a =
    ⊎_elim
    (λ (l : i < n). get_or-replicate n i a a l)
    (λ (l : n ≤ i). get_or-eq_default (replicate n a) a (rw length-replicate l))
    (lt_or_le i n)

-- What `all` over a list's elements and their numbers answers, by what each call of its test answered.
pub all_by_places : {A : Type 0} (p : ℕ → A → Bool) (xs : List A) (d : A) (r : Bool)
    → MatchBool r
    (AllWithin (λ (x : ℕ × A). p x.0 x.1 ≡ true) (enumerate_from 0 xs) 0 (length (enumerate_from 0 xs)))
    ((k : ℕ) × (k < length (enumerate_from 0 xs)) × HoldsAt (λ (x : ℕ × A). p x.0 x.1 ≡ false) (enumerate_from 0 xs) k)
    → r ≡ all_below (λ k. p k (get_or xs k d)) (length xs)
all_by_places {A} p xs d r = go r
  where
    placed : (k : ℕ) → k < length xs → get_or (enumerate_from 0 xs) k (0, d) ≡ (k, get_or xs k d)
    placed k l = get_or-enumerate_from 0 xs k (0, d) l ∙ ap (λ (m : ℕ). (m, get_or xs k d)) (zero-add k)

    go : (r : Bool) → MatchBool r
        (AllWithin (λ (x : ℕ × A). p x.0 x.1 ≡ true) (enumerate_from 0 xs) 0 (length (enumerate_from 0 xs)))
        ((k : ℕ) × (k < length (enumerate_from 0 xs)) × HoldsAt (λ (x : ℕ × A). p x.0 x.1 ≡ false) (enumerate_from 0 xs) k)
        → r ≡ all_below (λ k. p k (get_or xs k d)) (length xs)
    go true h = sym (all_intro _ (length xs) (λ k l. rw (placed k l) at (h k (0, d) (omega arith) (omega (arith, length-enumerate_from 0 xs)))))
    go false h =
        let below : h.0 < length xs = omega (arith, h.1, length-enumerate_from 0 xs) in
        sym (all_fails _ (length xs) h.0 below (rw (placed h.0 below) at (h.2 (0, d))))
