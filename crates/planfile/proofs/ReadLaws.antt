-- The verdict in the scope's order, and for those who go on with what was read: an accepted file holds a plan, and the
-- refusal of another is its verdict's.
use Prim.Native.Nat.{ℕ, ◌*◌}
use mathlib.Core.Path.{◌≡◌, subst}
use mathlib.Core.Bool.{true, ◌&&◌, not}
use mathlib.Core.List.{List}
use native.Mathlib.Omega.{arith}
use lib.Dec.{ltb, eqb}
use lib.ListN.{length}
use borrow.Author.Tests.{eqb-true, not-false}
use Rattle.refusal.specs.Chain.{refuse_if}
use Rattle.refusal.specs.declared.Refusal.{Refusal}
use Rattle.refusal.specs.declared.Refusal.TheVariants.{PortsOutOfRange, FrameOutOfRange, RowAboveFrame, ColumnAboveFrame, NotPlanFile, FileLength}
use Rattle.std.specs.Prelude.{Ok, Err}
use Rattle.refusal.proofs.ChainLaws.{refuse_passed, refuse_ext, value_accepted, refusal_kept}
use Rattle.plan.specs.Lines.{row_sum, column_sum}
use Rattle.plan.specs.declared.Plan.{Plan}
use Rattle.plan.specs.Range.{most_flows, ports_in_range, frame_in_range}
use Rattle.plan.specs.Accept.{within_frame, IsPlan}
use Rattle.plan.proofs.AcceptLaws.{accepted, sums_decide}
use Rattle.plan.proofs.LineLaws.{square_small}
use Rattle.planfile.specs.Layout.{is_marked, version_in, ports_in, frame_in, file_length}
use Rattle.planfile.specs.Read.{rates_in, verdict_of, plan_of, read_of, FilePlan}
use Rattle.planfile.proofs.LayoutLaws.{rates_length, padded_take, padded_length, padded_past}

-- "File: under 8 bytes 15, then 14, 1, 2, 15, 4, 5": of plan acceptance only the sums are left at the end
pub verdict_order : (file : List ℕ) →
    verdict_of file
    ≡ refuse_if (ltb (length file) 8) FileLength
    (refuse_if (not (is_marked file && eqb (version_in file) 1)) NotPlanFile
    (refuse_if (not (ports_in_range (ports_in file))) PortsOutOfRange
    (refuse_if (not (frame_in_range (frame_in file))) FrameOutOfRange
    (refuse_if (not (eqb (length file) (file_length (ports_in file)))) FileLength
    (refuse_if (not (within_frame (row_sum (rates_in file) (ports_in file)) (ports_in file) (frame_in file))) RowAboveFrame
    (refuse_if (not (within_frame (column_sum (rates_in file) (ports_in file)) (ports_in file) (frame_in file))) ColumnAboveFrame
    (Ok tt)))))))
unfolding verdict_of
verdict_order file =
    refuse_ext (ltb (length file) 8) FileLength λ _.
    refuse_ext (not (is_marked file && eqb (version_in file) 1)) NotPlanFile λ _.
    refuse_ext (not (ports_in_range (ports_in file))) PortsOutOfRange λ hn.
    refuse_ext (not (frame_in_range (frame_in file))) FrameOutOfRange λ ht.
    refuse_ext (not (eqb (length file) (file_length (ports_in file)))) FileLength λ _.
    sums_decide (ports_in file) (frame_in file) (rates_in file) (not-false _ hn) (not-false _ ht) (rates_length file (ports_in file * ports_in file))

-- what is known of an accepted file
pub record AcceptedFile (file : List ℕ) : Type 0 where
  pub marked : (is_marked file && eqb (version_in file) 1) ≡ true
  pub whole : length file ≡ file_length (ports_in file)
  pub plan : IsPlan (ports_in file) (frame_in file) (rates_in file)

pub accepted_file : (file : List ℕ) → verdict_of file ≡ Ok tt → AcceptedFile file
unfolding verdict_of
accepted_file file e =
    let head = refuse_passed (ltb (length file) 8) _ _ e in
    let mark = refuse_passed (not (is_marked file && eqb (version_in file) 1)) _ _ head.1 in
    let ports = refuse_passed (not (ports_in_range (ports_in file))) _ _ mark.1 in
    let frame = refuse_passed (not (frame_in_range (frame_in file))) _ _ ports.1 in
    let whole = refuse_passed (not (eqb (length file) (file_length (ports_in file)))) _ _ frame.1 in
    record {
      marked = not-false _ mark.0;
      whole = eqb-true (length file) (file_length (ports_in file)) (not-false _ whole.0);
      plan = accepted (ports_in file) (frame_in file) (rates_in file) whole.1;
    }

plan_read : (n t : ℕ) (rates : List ℕ) → IsPlan n t rates → FilePlan (plan_of n t rates)
plan_read n t rates p =
    let few = square_small n p.few_ports in
    record {
      is_plan = rw (padded_take rates (n * n) p.square) p;
      places = padded_length most_flows rates (omega (arith, p.square));
      zero_past = λ q h. padded_past rates q (omega (arith, p.square));
    }

-- a file that gives a plan is accepted, and the plan is the one that stands in it
pub read_accepted : (file : List ℕ) (plan : Plan) → read_of file ≡ Ok plan → (verdict_of file ≡ Ok tt) × (plan_of (ports_in file) (frame_in file) (rates_in file) ≡ plan)
unfolding read_of
read_accepted file plan e = value_accepted (verdict_of file) (plan_of (ports_in file) (frame_in file) (rates_in file)) plan e

pub accepted_plan : (file : List ℕ) (plan : Plan) → read_of file ≡ Ok plan → FilePlan plan
accepted_plan file plan e =
    let known = read_accepted file plan e in
    subst FilePlan known.1 (plan_read (ports_in file) (frame_in file) (rates_in file) (accepted_file file known.0).plan)

pub refused_file : (file : List ℕ) (r : Refusal) → read_of file ≡ Err r → verdict_of file ≡ Err r
unfolding read_of
refused_file file r e = refusal_kept (verdict_of file) (plan_of (ports_in file) (frame_in file) (rates_in file)) r e
