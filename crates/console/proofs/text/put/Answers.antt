use Rattle.std.proofs.Common.{rules}
use Rattle.std.proofs.lemmas.Slice.{overwrites}
use Rattle.console.proofs.text.put.Goals as goal

pub returns : goal.returns
returns c = record { place = search rules; bytes = search (rules, overwrites); kept = search (rules, overwrites) }
