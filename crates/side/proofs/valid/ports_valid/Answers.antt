use Rattle.std.proofs.Common.{◌≡◌, ◌≤◌, ◌∙◌, ℕ, ◌*◌, true, false, take, length, refl, rules, tests, arith}
use lib.ListN.{length-take}
use lib.Seq.{get_or-take}
use Rattle.std.proofs.lemmas.Iterator.{cases_from_all, YieldsList-from_slice}
use Rattle.std.proofs.lemmas.Iterator.Consumers.{YieldsList-from_enumerate}
use Rattle.plan.specs.Range.{most_ports}
use Rattle.plan.proofs.BelowLaws.{all_ext}
use Rattle.multiplexer.specs.Valid.{port_valid}
use Rattle.multiplexer.specs.declared.Multiplexer.{Multiplexer}
use Rattle.side.specs.Choices.{no_multiplexer}
use Rattle.side.specs.Valid.{ports_valid}
use Rattle.side.proofs.ListLaws.{all_by_places}
use Rattle.side.proofs.valid.ports_valid.Goals as goal

pub returns : goal.returns
unfolding ports_valid
returns c =
    let r = c.args.rates.now in
    let ports = c.args.ports in
    let valid = λ (p : ℕ) (m : Multiplexer). port_valid r.list.now m.served r.n (p * r.across) r.along c.args.slot in
    let full : length ports ≡ most_ports = search rules in
    let few : r.n ≤ most_ports = search rules in
    let long : length (take r.n ports) ≡ r.n = omega (arith, length-take r.n ports, few, full) in
    let each = all_by_places valid (take r.n ports) no_multiplexer _
    (cases_from_all _ _ _ (λ x. valid x.0 x.1 ≡ true) (λ x. valid x.0 x.1 ≡ false) c.all.ensures.ran (YieldsList-from_enumerate (YieldsList-from_slice (take r.n ports) cc) cc)
    (λ k q h. search (rules, tests)) (λ k q h. search (rules, tests))) in
    (rw long at each) ∙ all_ext _ _ r.n (λ p l. rw (get_or-take r.n ports p no_multiplexer l) refl)
