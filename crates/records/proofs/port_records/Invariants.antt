use Rattle.std.proofs.Common.{◌≡◌}
use Rattle.records.specs.Records.{records_below}
use Rattle.records.proofs.port_records.Given as goal

abbrev pub invariant-loop-p : goal.invariant-loop-p
invariant-loop-p l = l.record-items ≡ records_below l.answers l.p
