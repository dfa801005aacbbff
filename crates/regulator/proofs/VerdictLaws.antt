-- The verdict of boost: as the code comes to it, and who is accepted.
use Prim.Native.Nat.{ℕ, ◌*◌}
use mathlib.Core.Path.{◌≡◌, ap}
use mathlib.Core.Bool.{not}
use mathlib.Core.List.{List}
use lib.Dec.{leb}
use lib.ListN.{length, get_or}
use Rattle.refusal.specs.Chain.{refuse_if}
use Rattle.refusal.proofs.ChainLaws.{then_passed}
use Rattle.refusal.specs.declared.Refusal.TheVariants.{RowAboveFrame, ColumnAboveFrame}
use Rattle.std.specs.Prelude.{Ok}
use Rattle.plan.specs.Lines.{row_sum, column_sum}
use Rattle.plan.specs.Accept.{within_frame, accept_of}
use Rattle.plan.proofs.BelowLaws.{all_ext}
use Rattle.plan.proofs.RangeLaws.{ports_in_lem, frame_in_lem}
use Rattle.plan.proofs.AcceptLaws.{accepted, sums_decide}
use Rattle.regulator.specs.Outcome.{lists_of}
use Rattle.regulator.specs.Sums.{LineSums}
use Rattle.regulator.specs.Boost.{boost_verdict}
use Rattle.regulator.proofs.OutcomeLaws.{lists_passed, lists_pass}

-- the verdict where the first checks pass, from the kept sums

pub sums_verdict : (n t : ℕ) (given rates rows columns : List ℕ) → lists_of n t (length given) (length rates) ≡ Ok tt → LineSums given n rows columns
    → boost_verdict n t given rates
    ≡ refuse_if (not (within_frame (λ k. get_or rows k 0) n t)) RowAboveFrame (refuse_if (not (within_frame (λ k. get_or columns k 0) n t)) ColumnAboveFrame (Ok tt))
unfolding boost_verdict
sums_verdict n t given rates rows columns e s =
    let h = lists_passed n t (length given) (length rates) e in
    simp (
      e,
      sums_decide n t given (ports_in_lem n h.some_port h.few_ports) (frame_in_lem t h.some_slot h.few_slots) h.from_square,
      all_ext (λ k. leb (get_or rows k 0) t) (λ k. leb (row_sum given n k) t) n (λ k b. ap (λ (x : ℕ). leb x t) (s.row k b)),
      all_ext (λ k. leb (get_or columns k 0) t) (λ k. leb (column_sum given n k) t) n (λ k b. ap (λ (x : ℕ). leb x t) (s.column k b)),
    )

-- who is accepted: an accepted plan, with an output list of its length; and nobody else
pub boost_taken : (n t : ℕ) (given rates : List ℕ) → boost_verdict n t given rates ≡ Ok tt → (accept_of n t given ≡ Ok tt) × (length rates ≡ n * n)
unfolding boost_verdict
boost_taken n t given rates e =
    let both = then_passed (lists_of n t (length given) (length rates)) (accept_of n t given) e in
    (both.1, (lists_passed n t (length given) (length rates) both.0).to_square)

pub boost_done : (n t : ℕ) (given rates : List ℕ) → accept_of n t given ≡ Ok tt → length rates ≡ n * n → boost_verdict n t given rates ≡ Ok tt
unfolding boost_verdict
boost_done n t given rates e h =
    let p = accepted n t given e in
    rw (
      lists_pass n t (length given) (length rates) (record {
        some_port = p.some_port;
        few_ports = p.few_ports;
        some_slot = p.some_slot;
        few_slots = p.few_slots;
        from_square = p.square;
        to_square = h;
      }),
      e,
    )
