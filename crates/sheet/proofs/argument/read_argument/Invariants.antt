use Rattle.std.proofs.Common.{◌≡◌, drop}
use Rattle.sheet.specs.Argument.{number_from}
use Rattle.sheet.proofs.argument.read_argument.Given as goal

abbrev pub invariant-loop-byte : goal.invariant-loop-byte
invariant-loop-byte l = number_from l.value (drop l.byte-index l.fn.text) ≡ number_from 0 l.fn.text
