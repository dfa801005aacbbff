-- In frames of 64 slots the choice that reads the table of deadlines is the choice by the formula.
use Prim.Native.Nat.{ℕ, zero, suc, ◌+◌, ◌*◌, ◌<◌, ◌≤◌}
use mathlib.Core.Path.{◌≡◌, refl, ap}
use mathlib.Core.Bool.{Bool, true, false, cond, ◌&&◌}
use mathlib.Core.List.{List}
use native.Mathlib.Nat.{mul-le-mul}
use native.Mathlib.Omega.{arith}
use lib.ListN.{get_or}
use Rattle.std.specs.Prelude.{Option, Some, None}
use Rattle.multiplexer.specs.Choose.{rate_at, eligible_at, deadline_at, goes_before_choice, better, best_of, flows_of, choose_of, IsChoice}
use Rattle.multiplexer.specs.Deadlines.{table_frame, TableRule, read_at, reads_before, best_read, InTable, Agrees}
use Rattle.multiplexer.proofs.ChoiceLaws.{eligible_true, best_is}

module _ (entries : List ℕ) (rule : TableRule entries) (rs ks : List ℕ) (t : ℕ) (in_table : InTable rs t) where
  abbrev may : ℕ → Bool
  may f = eligible_at rs ks table_frame t f

  -- an eligible flow has a service to come, whose deadline the table has
  read_is : (f : ℕ) → f < flows_of rs → may f ≡ true → read_at entries rs ks f ≡ deadline_at rs ks table_frame f
  read_is f l e =
      let a = rate_at rs f in
      let k = get_or ks f 0 in
      let due = eligible_true a k table_frame t e in
      let early : t * a ≤ 63 * a = mul-le-mul {n₁ = t} {m₁ = a} {n₂ = 63} {m₂ = a} (omega (arith, in_table.slots)) (omega arith) in
      rule.entry a (k + 1) due.0 (in_table.rates f l) (omega arith) (omega (arith, due.0, due.1, early))

  -- so it goes before the same choices
  before_is : (n : ℕ) (c : Option ℕ) → n < flows_of rs → may n ≡ true → IsChoice rs ks table_frame t n c
      → reads_before entries rs ks n c ≡ goes_before_choice rs ks table_frame n c
  before_is n None l e c = refl
  before_is n (Some g) l e c = rw (read_is n l e, read_is g (omega (arith, c.below)) c.may) refl

  agree : (n : ℕ) → n ≤ flows_of rs → best_read entries rs ks t n ≡ best_of rs ks table_frame t n
  unfolding best_read best_of better
  agree zero l = refl
  agree (suc n) l = rw (agree n (omega arith)) (go (may n) refl)
    where
      c : Option ℕ
      c = best_of rs ks table_frame t n

      go : (b : Bool) → may n ≡ b → cond (may n && reads_before entries rs ks n c) (Some n) c ≡ cond (may n && goes_before_choice rs ks table_frame n c) (Some n) c
      go true e = ap (λ (x : Bool). cond (may n && x) (Some n) c) (before_is n c (omega arith) e (best_is rs ks table_frame t n))
      go false e = rw e refl

-- "With T = 64 the choice reads the table and agrees with the formula choice for all rates to 64, counts to the rate and slots
-- to 63."
pub table_agrees : (table : List ℕ) → TableRule table → Agrees table
unfolding choose_of
table_agrees table rule rs ks t in_table = agree table rule rs ks t in_table (flows_of rs) (omega arith)
