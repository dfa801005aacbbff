use Rattle.std.proofs.Common.{◌≡◌, ◌∙◌, ◌+◌, ◌*◌, min, get_or, sym, arith, rules}
use Rattle.plan.proofs.TestLaws.{failed, passed}
use Rattle.plantext.specs.Bytes.{digit_of}
use Rattle.sheet.specs.Argument.{largest_number}
use Rattle.sheet.proofs.ArgumentLaws.{argument_none, argument_some, number_next, number_stops, number_ends}
use Rattle.sheet.proofs.argument.read_argument.Goals as goal

pub returns-then-is_empty : goal.returns-then-is_empty
returns-then-is_empty c = sym (argument_none _ (search rules))

pub returns-then-not-is_digit : goal.returns-then-not-is_digit
returns-then-not-is_digit c =
    let none = number_stops _ c.loop-byte.byte-index c.loop-byte.value (omega arith) (failed c.is_digit.ensures c.if-not-is_digit.true) in
    sym (argument_some c.args.text.now (search rules) ∙ sym c.loop-byte.invariant ∙ none)

pub loop-byte-preserved : goal.loop-byte-preserved
loop-byte-preserved c =
    let next = number_next c.args.text.now c.loop-byte.byte-index c.loop-byte.value (omega arith) (passed c.is_digit.ensures c.if-not-is_digit.false) in
    let value : c.saturating_add-value.result ≡ min (c.loop-byte.value * 10 + digit_of (get_or c.args.text.now c.loop-byte.byte-index 0)) largest_number = omega (arith, c.saturating_add-value.ensures, c.saturating_mul.ensures, c.digit_of.ensures.0) in
    rw value (sym next ∙ c.loop-byte.invariant)

pub returns : goal.returns
returns c =
    let all = number_ends _ c.loop-byte.byte-index c.loop-byte.value (omega arith) in
    sym (argument_some c.args.text.now (search rules) ∙ sym c.loop-byte.invariant ∙ all)
