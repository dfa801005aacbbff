-- Cover from one place to the next, and from the record's start on.
use Prim.Native.Nat.{ℕ, suc, ◌+◌, ◌≤◌}
use mathlib.Core.Path.{◌≡◌, ap}
use mathlib.Core.Bool.{Bool, true, false, cond}
use mathlib.Core.List.{List, ◌∷◌}
use native.Mathlib.Nat.{zero-add}
use native.Mathlib.Omega.{arith}
use lib.Dec.{eqb}
use lib.ListN.{get_or}
use Rattle.plan.specs.Below.{sum_below}
use Rattle.plan.proofs.BelowLaws.{sum_ext}
use Rattle.meter.specs.Cover.{service_in, cover_at}
use Rattle.meter.proofs.SumLaws.{sum_slides, sum_split, sum_first, sum_ones}

pub service_le_one : (flow entry : ℕ) → service_in flow entry ≤ 1
service_le_one flow entry = go (eqb entry flow)
  where
    go : (b : Bool) → cond b 1 0 ≤ 1
    go true = omega arith
    go false = omega arith

-- the services of the flow in the slot at a place
abbrev pub at : List ℕ → ℕ → ℕ → ℕ
at recorded flow u = service_in flow (get_or recorded u 0)

module _ (recorded : List ℕ) (flow : ℕ) where
  -- the slot behind the stretch enters and its first one leaves
  pub cover_slides : (l t : ℕ) → cover_at recorded flow l (suc t) + at recorded flow t ≡ cover_at recorded flow l t + at recorded flow (t + l)
  unfolding cover_at
  cover_slides l t = sum_slides (at recorded flow) t l

  pub cover_within : (l t : ℕ) → cover_at recorded flow l t ≤ l
  unfolding cover_at
  cover_within l t = sum_ones (λ u. at recorded flow (t + u)) l (λ u. service_le_one flow (get_or recorded (t + u) 0))

  -- the services in the first p slots
  pub cover_first : (p : ℕ) → cover_at recorded flow p 0 ≡ sum_below (at recorded flow) p
  unfolding cover_at
  cover_first p = sum_ext (λ u. at recorded flow (0 + u)) (at recorded flow) p (λ u _. ap (at recorded flow) (zero-add u))

  pub cover_split : (l t : ℕ) → sum_below (at recorded flow) t + cover_at recorded flow l t ≡ sum_below (at recorded flow) (t + l)
  unfolding cover_at
  cover_split l t = sum_split (at recorded flow) t l

-- a record's first slot and the others
pub cover_next : (flow entry : ℕ) (rest : List ℕ) (p : ℕ)
    → sum_below (at (entry ∷ rest) flow) (suc p) ≡ service_in flow entry + sum_below (at rest flow) p
cover_next flow entry rest p = sum_first (at (entry ∷ rest) flow) p
