-- Scale: the bounds of a share, and that scaled rates are an accepted plan.
use Prim.Native.Nat.{ℕ, ◌*◌, ◌/◌, ◌%◌, ◌<◌, ◌≤◌}
use mathlib.Core.Path.{◌≡◌, refl, ap, ◌∙◌}
use mathlib.Core.Bool.{Bool, true, false}
use mathlib.Core.List.{List}
use native.Mathlib.Nat.{mul-le-mul_left, mul-le-mul_right, div-mul-le_self, div-le_of_le-mul}
use native.Mathlib.Omega.{arith}
use lib.Dec.{eqb}
use lib.ListN.{length, get_or}
use borrow.Author.Tests.{eq-eqb}
use Rattle.plan.specs.Lines.{flow_of, row_sum, column_sum}
use Rattle.plan.proofs.LineLaws.{flow_below}
use Rattle.plan.proofs.AcceptLaws.{accepts}
use Rattle.regulator.specs.Sums.{larger_sum}
use Rattle.regulator.specs.Scale.{share_of, scaled_rate, scaled_of, scale_of, ScaledPlan}
use Rattle.regulator.proofs.SumLaws.{shares_within}
use Rattle.regulator.proofs.HoldsLaws.{list_holds}
use Rattle.plan.proofs.ListLaws.{length_list}
use Rattle.plan.proofs.LineLaws.{flow_row, flow_column}
use Rattle.regulator.proofs.OutcomeLaws.{lists_passed}

-- shares

share_none : (d t sum : ℕ) → d ≡ 0 → share_of d t sum ≡ 0
share_none d t sum e = rw (eq-eqb d 0 e)

share_part : (d t sum s : ℕ) → s ≤ sum → share_of d t sum * s ≤ t * d
share_part d t sum s h = go (eqb d 0) refl
  where
    go : (b : Bool) → eqb d 0 ≡ b → share_of d t sum * s ≤ t * d
    go true e = rw e (omega arith)
    go false e = rw e (omega (arith, mul-le-mul_left (d * t / sum) h, div-mul-le_self (d * t) sum))

-- no more than t, also before the demand 0 is looked at
pub share_within : (d t sum : ℕ) → d ≤ sum → d * t / sum ≤ t
share_within d t sum h = div-le_of_le-mul sum (mul-le-mul_right t h)

-- the scaled rates

scaled_at : (n t : ℕ) (demands : List ℕ) (i j : ℕ) → i < n → j < n
    → get_or (scaled_of n t demands) (flow_of n i j) 0 ≡ share_of (get_or demands (flow_of n i j) 0) t (larger_sum demands n i j)
unfolding scaled_of
scaled_at n t demands i j hi hj =
    list_holds (scaled_rate n t demands) (n * n) (flow_of n i j) (flow_below n i j hi hj)
    ∙ ap (λ (a : ℕ). share_of (get_or demands (flow_of n i j) 0) t (larger_sum demands n a (flow_of n i j % n))) (flow_row n i j hj)
    ∙ ap (λ (b : ℕ). share_of (get_or demands (flow_of n i j) 0) t (larger_sum demands n i b)) (flow_column n i j hj)

scaled_row : (n t : ℕ) (demands : List ℕ) (i : ℕ) → i < n → row_sum (scaled_of n t demands) n i ≤ t
unfolding row_sum
scaled_row n t demands i hi =
    shares_within (λ j. get_or (scaled_of n t demands) (flow_of n i j) 0) (λ j. get_or demands (flow_of n i j) 0) n t
    (λ j hj. rw (scaled_at n t demands i j hi hj) (share_part _ t _ (row_sum demands n i) (omega arith)))
    (λ j hj e. scaled_at n t demands i j hi hj ∙ share_none _ t _ e)

scaled_column : (n t : ℕ) (demands : List ℕ) (j : ℕ) → j < n → column_sum (scaled_of n t demands) n j ≤ t
unfolding column_sum
scaled_column n t demands j hj =
    shares_within (λ i. get_or (scaled_of n t demands) (flow_of n i j) 0) (λ i. get_or demands (flow_of n i j) 0) n t
    (λ i hi. rw (scaled_at n t demands i j hi hj) (share_part _ t _ (column_sum demands n j) (omega arith)))
    (λ i hi e. scaled_at n t demands i j hi hj ∙ share_none _ t _ e)

scaled_length : (n t : ℕ) (demands : List ℕ) → length (scaled_of n t demands) ≡ n * n
unfolding scaled_of
scaled_length n t demands = length_list (scaled_rate n t demands) (n * n)

pub scaled_plan : ScaledPlan
unfolding scale_of
scaled_plan n t demands rates e =
    let h = lists_passed n t (length demands) (length rates) e in
    rw e (accepts n t (scaled_of n t demands) (record {
      some_port = h.some_port;
      few_ports = h.few_ports;
      some_slot = h.some_slot;
      few_slots = h.few_slots;
      square = scaled_length n t demands;
      rows = scaled_row n t demands;
      columns = scaled_column n t demands;
    }))
