use mathlib.Core.Path.{◌≡◌}
use lib.ListN.{take}
use Rattle.plantext.specs.Bytes.{comma}
use Rattle.plantext.specs.Values.{parsed, field, series}
use Rattle.plantext.proofs.records.read_record.Given as goal

abbrev pub invariant-loop-k : goal.invariant-loop-k
invariant-loop-k l = series field comma l.k l.text ≡ parsed (take l.k l.row) l.rest
