use Rattle.std.proofs.Common.{rules}
use mathlib.Core.Path.{◌≡◌, ap, sym, ◌∙◌}
use native.Mathlib.Omega.{arith}
use Prim.Native.Nat.{◌<◌}
use lib.ListN.{length, get_or, take, length-take}
use lib.Seq.{get_or-take}
use Rattle.plan.specs.Range.{most_ports}
use Rattle.side.specs.Choices.{no_multiplexer}
use Rattle.multiplexer.specs.declared.Served.{Served}
use Rattle.multiplexer.proofs.PacedLaws.{chosen_eligible}
use Rattle.side.proofs.ChoiceLaws.{served_none, served_next}
use Rattle.side.proofs.choices.serve_all.Goals as goal

pub loop-p-init : goal.loop-p-init
loop-p-init c = served_none _ _ _ _ (search rules)

pub map-requires : goal.map-requires
map-requires c = λ x is _ _. omega (arith, (chosen_eligible _ _ _ _ x (sym (ap (λ (r : Served). r.choice) c.serve_with-served.ensures) ∙ is)).1)

pub loop-p-preserved : goal.loop-p-preserved
loop-p-preserved c =
    let l = c.loop-p in
    let a = c.args in
    let full : length a.ports ≡ most_ports = search rules in
    let below : l.p < a.n = omega (arith, length-take a.n a.ports) in
    let port : get_or (take a.n a.ports) l.p no_multiplexer ≡ get_or a.ports l.p no_multiplexer = get_or-take a.n a.ports l.p no_multiplexer below in
    served_next _ _ _ _ _ _ l.invariant _ _ _ (omega arith) c.desk_view-desk.ensures (rw port at c.serve_with-served.ensures) (search rules)

pub returns : goal.returns
returns c =
    let l = c.loop-p in
    let a = c.args in
    let full : length a.ports ≡ most_ports = search rules in
    let all : l.p ≡ a.n = omega (arith, length-take a.n a.ports) in
    rw all at l.invariant.so_far
