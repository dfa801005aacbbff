use Rattle.std.proofs.Common.{rules}
use Prim.Native.Nat.{ℕ}
use mathlib.Core.Path.{◌≡◌, ap}
use mathlib.Core.List.{List}
use native.Mathlib.Omega.{arith}
use lib.ListN.{length}
use Rattle.plan.specs.Range.{most_ports}
use Rattle.multiplexer.proofs.ArrayLaws.{made_by}
use Rattle.multiplexer.proofs.NumberLaws.{count_of_flow, counted_all}
use Rattle.multiplexer.proofs.Multiplexer.counted.Goals as goal

pub returns : goal.returns
returns c =
    let served = c.args.self.served in
    let full : length served ≡ most_ports = search rules in
    let items = c.from_fn-served.ensures.items in
    ap (λ (ks : List ℕ). record { served = ks })
    (counted_all served c.args.flow c.from_fn-served.result full items.long
    (λ k l. made_by _ _ (count_of_flow served c.args.flow) most_ports (λ i y q below called. (search rules, search rules)) _ most_ports 0 (omega arith) items.each k (omega arith) l))
