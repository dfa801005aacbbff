use Rattle.std.proofs.Common.{arith, ap, length, ◌∙◌}
use Rattle.console.proofs.DigitLaws.{decimal_is}
use Rattle.console.proofs.BufferLaws.{written_as}
use Rattle.console.proofs.text.number.Goals as goal

pub put-requires : goal.put-requires
put-requires c = omega (arith, ap length (c.as_bytes.ensures.value ∙ c.format.ensures.text ∙ decimal_is c.args.value c.ranges.value.fits))

pub returns : goal.returns
returns c = written_as c.put.ensures (c.as_bytes.ensures.value ∙ c.format.ensures.text ∙ decimal_is c.args.value c.ranges.value.fits)
