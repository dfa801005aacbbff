-- What passed checks of N, T and the lengths say, when they pass, and the outcomes of a verdict.
use Prim.Native.Nat.{ℕ, ◌*◌}
use mathlib.Core.List.{List}
use mathlib.Core.Path.{◌≡◌}
use mathlib.Core.Bool.{not, ◌&&◌}
use lib.Dec.{eqb}
use borrow.Author.Tests.{eqb-true, eq-eqb, not-false}
use Rattle.refusal.proofs.ChainLaws.{refuse_passed}
use Rattle.refusal.specs.declared.Refusal.{Refusal}
use Rattle.refusal.specs.Verdict.{Verdict}
use Rattle.std.specs.Prelude.{Ok, Err}
use Rattle.plan.specs.Range.{ports_in_range, frame_in_range}
use Rattle.plan.proofs.BelowLaws.{and_true}
use Rattle.plan.proofs.RangeLaws.{ports_range, frame_range, ports_in_lem, frame_in_lem}
use Rattle.regulator.specs.Outcome.{outcome, written, lists_of, Checked}

pub lists_passed : (n t from to : ℕ) → lists_of n t from to ≡ Ok tt → Checked n t from to
unfolding lists_of
lists_passed n t from to e =
    let first = refuse_passed (not (ports_in_range n)) _ _ e in
    let second = refuse_passed (not (frame_in_range t)) _ _ first.1 in
    let third = refuse_passed (not (eqb from (n * n) && eqb to (n * n))) _ _ second.1 in
    let ports = ports_range n (not-false _ first.0) in
    let frame = frame_range t (not-false _ second.0) in
    let lengths = and_true (eqb from (n * n)) (eqb to (n * n)) (not-false _ third.0) in
    record {
      some_port = ports.0;
      few_ports = ports.1;
      some_slot = frame.0;
      few_slots = frame.1;
      from_square = eqb-true from (n * n) lengths.0;
      to_square = eqb-true to (n * n) lengths.1;
    }

pub lists_pass : (n t from to : ℕ) → Checked n t from to → lists_of n t from to ≡ Ok tt
unfolding lists_of
lists_pass n t from to h =
    simp (
      ports_in_lem n h.some_port h.few_ports,
      frame_in_lem t h.some_slot h.few_slots,
      eq-eqb from (n * n) h.from_square,
      eq-eqb to (n * n) h.to_square,
    )

pub refused_outcome : (verdict : Verdict) (r : Refusal) (result before : List ℕ) → verdict ≡ Err r → outcome (Err r) before ≡ written verdict result before
refused_outcome verdict r result before e = rw e

pub done_outcome : (verdict : Verdict) (result before : List ℕ) → verdict ≡ Ok tt → outcome (Ok tt) result ≡ written verdict result before
done_outcome verdict result before e = rw e
