use Rattle.std.proofs.Common.{rules}
use Prim.Native.Nat.{ℕ}
use mathlib.Core.Path.{◌≡◌, sym, ap, ◌∙◌}
use mathlib.Core.List.{List}
use native.Mathlib.Omega.{arith}
use lib.ListN.{length}
use Rattle.plan.specs.Range.{most_ports}
use Rattle.multiplexer.specs.Count.{count_of}
use Rattle.multiplexer.specs.declared.Multiplexer.{Multiplexer}
use Rattle.multiplexer.proofs.CountLaws.{count_idle, count_outside}
use Rattle.multiplexer.proofs.NumberLaws.{flow_choice}
use Rattle.multiplexer.proofs.Multiplexer.count.Goals as goal

abbrev countsIn : List ℕ → Multiplexer
countsIn ks = record { served = ks }

pub returns-in-Some : goal.returns-in-Some
returns-in-Some c =
    let chosen = flow_choice _ c.if-f-lt-MOST_PORTS.true ∙ sym c.in-Some.is in
    c.counted.ensures ∙ ap (count_of c.args.self) chosen

pub returns-in_default : goal.returns-in_default
returns-in_default c =
    let a = c.args in
    let full : length a.self.served ≡ most_ports = search rules in
    ap countsIn (sym (rw c.in-Some.is (count_outside a.self.served _ (omega arith))))

pub returns-in_default-2 : goal.returns-in_default-2
returns-in_default-2 c = ap countsIn (sym (rw c.in_default.is (count_idle c.args.self.served)))
