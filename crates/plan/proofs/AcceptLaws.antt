-- What is known of an accepted plan, and when a plan is accepted.
use Prim.Native.Nat.{ℕ, ◌*◌, ◌<◌, ◌≤◌}
use mathlib.Core.Path.{◌≡◌, ap}
use mathlib.Core.Bool.{Bool, true, false, not}
use mathlib.Core.List.{List}
use native.Mathlib.Omega.{arith}
use lib.Dec.{leb}
use lib.ListN.{length}
use borrow.Author.Tests.{leb-true, le-leb, eqb-true, eq-eqb, not-false}
use Rattle.refusal.specs.Chain.{refuse_if}
use Rattle.refusal.specs.Number.{number_of, verdict_number_of}
use Rattle.refusal.specs.declared.Refusal.TheVariants.{PortsOutOfRange, FrameOutOfRange, ListLength, RowAboveFrame, ColumnAboveFrame}
use Rattle.refusal.specs.declared.Refusal.{Refusal}
use Rattle.refusal.specs.Verdict.{Verdict}
use Rattle.std.specs.Prelude.{Ok, Err}
use Rattle.refusal.proofs.ChainLaws.{refuse_passed}
use Rattle.plan.specs.Lines.{row_sum, column_sum, line_sum, is_square}
use Rattle.plan.specs.Range.{ports_in_range, frame_in_range}
use Rattle.plan.specs.Accept.{within_frame, accept_of, IsPlan}
use Rattle.plan.proofs.BelowLaws.{all_holds, all_intro, all_ext}
use Rattle.plan.proofs.LineLaws.{row_line, column_line}
use Rattle.plan.proofs.RangeLaws.{ports_range, frame_range, ports_in_lem, frame_in_lem}

within_holds : (sum : ℕ → ℕ) (n t : ℕ) → within_frame sum n t ≡ true → (k : ℕ) → k < n → sum k ≤ t
within_holds sum n t e k l = leb-true (sum k) t (all_holds (λ m. leb (sum m) t) n e k l)

within_intro : (sum : ℕ → ℕ) (n t : ℕ) → ((k : ℕ) → k < n → sum k ≤ t) → within_frame sum n t ≡ true
within_intro sum n t h = all_intro (λ m. leb (sum m) t) n (λ k l. le-leb (sum k) t (h k l))

pub rows_within : (rates : List ℕ) (n t : ℕ) → within_frame (line_sum rates n n 1) n t ≡ within_frame (row_sum rates n) n t
rows_within rates n t = all_ext _ _ n (λ k l. ap (λ (s : ℕ). leb s t) (row_line rates n k))

pub columns_within : (rates : List ℕ) (n t : ℕ) → within_frame (line_sum rates n 1 n) n t ≡ within_frame (column_sum rates n) n t
columns_within rates n t = all_ext _ _ n (λ k l. ap (λ (s : ℕ). leb s t) (column_line rates n k))

pub accepted : (n t : ℕ) (rates : List ℕ) → accept_of n t rates ≡ Ok tt → IsPlan n t rates
unfolding accept_of
accepted n t rates e =
    let first = refuse_passed (not (ports_in_range n)) _ _ e in
    let second = refuse_passed (not (frame_in_range t)) _ _ first.1 in
    let third = refuse_passed (not (is_square n rates)) _ _ second.1 in
    let fourth = refuse_passed (not (within_frame (row_sum rates n) n t)) _ _ third.1 in
    let fifth = refuse_passed (not (within_frame (column_sum rates n) n t)) _ _ fourth.1 in
    let ports = ports_range n (not-false _ first.0) in
    let frame = frame_range t (not-false _ second.0) in
    record {
      some_port = ports.0;
      few_ports = ports.1;
      some_slot = frame.0;
      few_slots = frame.1;
      square = eqb-true (length rates) (n * n) (not-false _ third.0);
      rows = within_holds (row_sum rates n) n t (not-false _ fourth.0);
      columns = within_holds (column_sum rates n) n t (not-false _ fifth.0);
    }

pub accepts : (n t : ℕ) (rates : List ℕ) → IsPlan n t rates → accept_of n t rates ≡ Ok tt
unfolding accept_of
accepts n t rates p =
    simp (
      ports_in_lem n p.some_port p.few_ports,
      frame_in_lem t p.some_slot p.few_slots,
      eq-eqb (length rates) (n * n) p.square,
      within_intro (row_sum rates n) n t p.rows,
      within_intro (column_sum rates n) n t p.columns,
    )

-- N is looked at first
pub ports_decide : (n t : ℕ) (rates : List ℕ) → ports_in_range n ≡ false → accept_of n t rates ≡ Err PortsOutOfRange
unfolding accept_of
ports_decide n t rates e = simp e

-- where N, T and the length are right, the rows decide, then the columns
pub sums_decide : (n t : ℕ) (rates : List ℕ) → ports_in_range n ≡ true → frame_in_range t ≡ true → length rates ≡ n * n
    → accept_of n t rates ≡ refuse_if (not (within_frame (row_sum rates n) n t)) RowAboveFrame (refuse_if (not (within_frame (column_sum rates n) n t)) ColumnAboveFrame (Ok tt))
unfolding accept_of
sums_decide n t rates hn ht hl = simp (hn, ht, eq-eqb (length rates) (n * n) hl)

-- a verdict whose number is within those of the plan
abbrev OfPlan : Verdict → Type 0
OfPlan v = verdict_number_of v ≤ number_of ColumnAboveFrame

refuse_of_plan : (b : Bool) (r : Refusal) (rest : Verdict) → OfPlan (Err r) → OfPlan rest → OfPlan (refuse_if b r rest)
refuse_of_plan true r rest here there = here
refuse_of_plan false r rest here there = there

-- a plan is refused with none of the numbers that come after the column sum's
pub accept_number : (n t : ℕ) (rates : List ℕ) → OfPlan (accept_of n t rates)
unfolding accept_of
accept_number n t rates =
    refuse_of_plan (not (ports_in_range n)) PortsOutOfRange _ (omega arith)
    (refuse_of_plan (not (frame_in_range t)) FrameOutOfRange _ (omega arith)
    (refuse_of_plan (not (is_square n rates)) ListLength _ (omega arith)
    (refuse_of_plan (not (within_frame (row_sum rates n) n t)) RowAboveFrame _ (omega arith)
    (refuse_of_plan (not (within_frame (column_sum rates n) n t)) ColumnAboveFrame _ (omega arith) (omega arith)))))
