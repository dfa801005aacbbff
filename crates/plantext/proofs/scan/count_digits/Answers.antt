use mathlib.Core.Path.{◌≡◌, ap, sym, ◌∙◌}
use native.Mathlib.Omega.{arith}
use Rattle.plantext.specs.Bytes.{is_digit}
use Rattle.plantext.proofs.NumberLaws.{none_taken}
use Rattle.plantext.proofs.PlaceLaws.{no_digit_past, no_digit_here, digit_taken}
use Rattle.plantext.proofs.SeriesLaws.{digits_full, value_below}
use Rattle.plantext.proofs.scan.count_digits.Goals as goal

pub returns-in_default : goal.returns-in_default
returns-in_default c =
    let at = c.loop-count in
    let text = c.args.text.now in
    let here = c.in-Some.ensures.lookup.3 in
    let clear = no_digit_here text at.count here.0 (ap is_digit (sym (here.1 0)) ∙ sym c.is_digit.ensures ∙ c.if-is_digit.false) in
    (sym at.invariant.taken ∙ none_taken _ _ _ _ clear, at.invariant.within)

pub returns-in_default-2 : goal.returns-in_default-2
returns-in_default-2 c =
    let at = c.loop-count in
    let past = rw c.in_default.is at c.get.ensures.lookup.3 in
    (sym at.invariant.taken ∙ none_taken _ _ _ _ (no_digit_past c.args.text.now at.count past), at.invariant.within)

pub loop-count-preserved : goal.loop-count-preserved
loop-count-preserved c =
    let at = c.loop-count in
    let text = c.args.text.now in
    let here = c.in-Some.ensures.lookup.3 in
    let byte = here.1 0 in
    record {
      within = omega (arith, here.0);
      small = value_below at.value _ at.count at.invariant.small c.digit_of.ensures.1;
      taken = rw (c.digit_of.ensures.0, byte) (sym (digit_taken text at.count at.count at.value (omega arith) here.0 (ap is_digit (sym byte) ∙ sym c.is_digit.ensures ∙ c.if-is_digit.true)) ∙ at.invariant.taken);
    }

pub returns : goal.returns
returns c =
    let at = c.loop-count in
    let full : at.count ≡ 5 = omega arith in
    (rw full at (sym at.invariant.taken ∙ digits_full at.count at.value _ full), omega (arith, at.invariant.within))
