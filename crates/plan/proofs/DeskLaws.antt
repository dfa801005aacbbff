-- What the desk view's test says, and the view of a row that there is.
use Prim.Native.Nat.{ℕ, ◌*◌, ◌<◌, ◌≤◌}
use mathlib.Core.Path.{◌≡◌, refl}
use mathlib.Core.Bool.{Bool, true, cond, ◌&&◌}
use mathlib.Core.List.{List}
use native.Mathlib.Omega.{arith}
use lib.Dec.{ltb, eqb}
use lib.ListN.{length}
use borrow.Author.Tests.{ltb-true, eqb-true, lt-ltb, eq-eqb}
use Rattle.plan.specs.Range.{most_ports, ports_in_range}
use Rattle.plan.specs.Desk.{row_of, has_row, desk_of}
use Rattle.plan.proofs.BelowLaws.{and_true}
use Rattle.plan.proofs.RangeLaws.{ports_range, ports_in_lem}

pub record HasRow (n i running waiting : ℕ) : Type 0 where
  pub few : n ≤ most_ports
  pub below : i < n
  pub running_square : running ≡ n * n
  pub waiting_square : waiting ≡ n * n

pub has_row_lem : (n i running waiting : ℕ) → has_row n i running waiting ≡ true → HasRow n i running waiting
unfolding has_row
has_row_lem n i running waiting e =
    let last = and_true (ports_in_range n && ltb i n && eqb running (n * n)) (eqb waiting (n * n)) e in
    let third = and_true (ports_in_range n && ltb i n) (eqb running (n * n)) last.0 in
    let second = and_true (ports_in_range n) (ltb i n) third.0 in
    record {
      few = (ports_range n second.0).1;
      below = ltb-true i n second.1;
      running_square = eqb-true running (n * n) third.1;
      waiting_square = eqb-true waiting (n * n) last.1;
    }

pub desk_row : (running waiting : List ℕ) (n i : ℕ) (takeover : Bool) → n ≤ most_ports → i < n → length running ≡ n * n → length waiting ≡ n * n
    → desk_of running waiting n i takeover ≡ row_of (cond takeover waiting running) n i
unfolding desk_of has_row
desk_row running waiting n i takeover few l er ew =
    rw (ports_in_lem n (omega arith) few, lt-ltb i n l, eq-eqb (length running) (n * n) er, eq-eqb (length waiting) (n * n) ew) refl
