use Prim.Native.Nat.{◌*◌}
use mathlib.Core.Path.{◌≡◌}
use lib.ListN.{take}
use Rattle.plantext.specs.Bytes.{line_end}
use Rattle.plantext.specs.Values.{parsed, series, record_of}
use Rattle.plantext.proofs.records.read_records.Given as goal

abbrev pub invariant-loop-k : goal.invariant-loop-k
invariant-loop-k l = series (record_of l.n) line_end l.k l.text ≡ parsed (take (l.k * l.n) l.list) l.rest
