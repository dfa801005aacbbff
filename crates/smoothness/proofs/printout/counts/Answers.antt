use Rattle.std.proofs.Common.{refl, rules}
use borrow.Author.Tests.{lt-ltb, le-ltb}
use Rattle.smoothness.proofs.StretchLaws.{counts_is}
use Rattle.smoothness.proofs.printout.counts.Goals as goal

pub returns-then-l-gt0 : goal.returns-then-l-gt0
returns-then-l-gt0 c = rw (counts_is c.args.lengths c.args.k (search rules), lt-ltb 0 _ c.if-l-gt0.true, c.contains.ensures.value) refl

pub returns-else-l-gt0 : goal.returns-else-l-gt0
returns-else-l-gt0 c = rw (counts_is c.args.lengths c.args.k (search rules), le-ltb 0 _ c.if-l-gt0.false) refl
