-- The verdict on a text in the request's order, what is known of an accepted one, and, for a reader that can't hold every text, that
-- the first bytes, one more than the longest text has, are read as the whole is.
use Prim.Native.Nat.{ℕ, ◌*◌, ◌-◌, ◌<◌, ◌≤◌}
use mathlib.Core.Path.{◌≡◌, refl, ap, sym, ◌∙◌}
use mathlib.Core.Bool.{Bool, true, false, not}
use mathlib.Core.List.{List, []}
use mathlib.Core.Logic.{⊎_elim}
use native.Mathlib.Nat.{mul-le-mul}
use native.Mathlib.Omega.{arith}
use lib.ListN.{length, take}
use Rattle.std.specs.Prelude.{Option, None, Some, is_some, unwrap_or, Ok, Err}
use lib.Seq.{length-take-le, take_all}
use borrow.Author.Tests.{not-false}
use Rattle.refusal.specs.Chain.{refuse_if}
use Rattle.refusal.specs.Outcome.{outcome, written}
use Rattle.refusal.specs.declared.Refusal.TheVariants.{PortsOutOfRange, FrameOutOfRange, ListLength, RowAboveFrame, ColumnAboveFrame, NotPlanText}
use Rattle.refusal.proofs.ChainLaws.{refuse_passed, refuse_ext}
use Rattle.plan.specs.Lines.{row_sum, column_sum, is_square}
use Rattle.plan.specs.Range.{most_ports, ports_in_range, frame_in_range}
use Rattle.plan.specs.Accept.{within_frame, accept_of}
use Rattle.plan.proofs.AcceptLaws.{sums_decide}
use Rattle.plan.proofs.BelowLaws.{lt_or_le}
use Rattle.plan.proofs.LineLaws.{square_small}
use Rattle.plan.proofs.RangeLaws.{ports_range}
use Rattle.plantext.specs.Values.{values_of}
use Rattle.plantext.specs.Read.{is_text, values_in, judged_of, verdict_of, read_text_of, longest_text, most_text}
use Rattle.plantext.proofs.TextLaws.{same_rules}
use Rattle.plantext.proofs.LengthLaws.{text_short, text_counted}

-- what the values of a text decide
pub none_judged : (n t : ℕ) (text rates : List ℕ) → values_of n text ≡ None → written (judged_of n t text) (values_in n text) rates ≡ outcome (Err NotPlanText) rates
none_judged n t text rates e = rw e refl

pub some_judged : (n t : ℕ) (text rates values : List ℕ) → values_of n text ≡ Some values → written (judged_of n t text) (values_in n text) rates ≡ written (accept_of n t values) values rates
some_judged n t text rates values e = rw e refl

-- a text that keeps to the rules has N × N values
values_counted : (n : ℕ) (text : List ℕ) → 1 ≤ n → is_text n text ≡ true → length (values_in n text) ≡ n * n
values_counted n text some_port e = go (values_of n text) refl e
  where
    go : (o : Option (List ℕ)) → values_of n text ≡ o → is_some o ≡ true → length (values_in n text) ≡ n * n
    go None h f = cc
    go (Some values) h f = rw h (text_counted n text values ((same_rules n text values some_port).0 h))

-- "16 for text that breaks these rules, after 1 to 3, before 4": of plan acceptance only the sums are left at the end
pub verdict_order : (n t : ℕ) (text rates : List ℕ) →
    verdict_of n t text rates
    ≡ refuse_if (not (ports_in_range n)) PortsOutOfRange
    (refuse_if (not (frame_in_range t)) FrameOutOfRange
    (refuse_if (not (is_square n rates)) ListLength
    (refuse_if (not (is_text n text)) NotPlanText
    (refuse_if (not (within_frame (row_sum (values_in n text) n) n t)) RowAboveFrame
    (refuse_if (not (within_frame (column_sum (values_in n text) n) n t)) ColumnAboveFrame
    (Ok tt))))))
unfolding verdict_of
verdict_order n t text rates =
    refuse_ext (not (ports_in_range n)) PortsOutOfRange λ hn.
    refuse_ext (not (frame_in_range t)) FrameOutOfRange λ ht.
    refuse_ext (not (is_square n rates)) ListLength λ _.
    refuse_ext (not (is_text n text)) NotPlanText λ h.
    let inside = not-false _ hn in
    sums_decide n t (values_in n text) inside (not-false _ ht) (values_counted n text (ports_range n inside).0 (not-false _ h))

-- N is looked at first
pub ports_decide : (n t : ℕ) (text rates : List ℕ) → ports_in_range n ≡ false → read_text_of n t text rates ≡ outcome (Err PortsOutOfRange) rates
unfolding read_text_of verdict_of
ports_decide n t text rates e = rw e refl

-- what an accepted call wrote: the values of the text, which are an accepted plan
pub record Read (n t : ℕ) (text list : List ℕ) : Type 0 where
  pub values : values_of n text ≡ Some list
  pub plan : accept_of n t list ≡ Ok tt

pub accepted_text : (n t : ℕ) (text rates : List ℕ) → (read_text_of n t text rates).verdict ≡ Ok tt → Read n t text (read_text_of n t text rates).list
unfolding read_text_of verdict_of
accepted_text n t text rates e =
    let ports = refuse_passed (not (ports_in_range n)) _ _ e in
    let frame = refuse_passed (not (frame_in_range t)) _ _ ports.1 in
    let square = refuse_passed (not (is_square n rates)) _ _ frame.1 in
    let rules = refuse_passed (not (is_text n text)) _ _ square.1 in
    rw e (record { values = some_values (values_of n text) (not-false _ rules.0); plan = rules.1 })
  where
    some_values : (o : Option (List ℕ)) → is_some o ≡ true → o ≡ Some (unwrap_or o [])
    some_values None f = cc
    some_values (Some values) f = refl

-- no text for N ports is longer than the longest
too_long : (n : ℕ) (text : List ℕ) → 1 ≤ n → longest_text n < length text → values_of n text ≡ None
too_long n text some_port long = go (values_of n text) refl
  where
    go : (o : Option (List ℕ)) → values_of n text ≡ o → values_of n text ≡ None
    go None e = e
    go (Some values) e = absurd (omega (arith, text_short n text values ((same_rules n text values some_port).0 e)))

longest_most : (n : ℕ) → n ≤ most_ports → longest_text n ≤ most_text
longest_most n few = omega (arith, square_small n few, mul-le-mul few (minus_one few))
  where
    minus_one : n ≤ most_ports → n - 1 ≤ most_ports - 1
    minus_one h = omega arith

-- only what the values of a text are decides, and only where N is in range
same_reading : (n t : ℕ) (text other rates : List ℕ) → (ports_in_range n ≡ true → values_of n text ≡ values_of n other) → read_text_of n t text rates ≡ read_text_of n t other rates
unfolding read_text_of verdict_of
same_reading n t text other rates same = go (ports_in_range n) refl
  where
    go : (is : Bool) → ports_in_range n ≡ is → read_text_of n t text rates ≡ read_text_of n t other rates
    go true e = rw (same e) refl
    go false e = rw e refl

pub read_cut : (n t m : ℕ) (text rates : List ℕ) → most_text < m → read_text_of n t (take m text) rates ≡ read_text_of n t text rates
read_cut n t m text rates enough =
    ⊎_elim
    (λ (h : m < length text).
    same_reading n t (take m text) text rates λ e.
    let ports = ports_range n e in
    let most = longest_most n ports.1 in
    too_long n (take m text) ports.0 (omega (arith, most, length-take-le m text (omega arith)))
    ∙ sym (too_long n text ports.0 (omega (arith, most))))
    (λ (h : length text ≤ m). ap (λ (l : List ℕ). read_text_of n t l rates) (take_all m text h))
    (lt_or_le m (length text))
