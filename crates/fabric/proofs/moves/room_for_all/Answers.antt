use Rattle.std.proofs.Common.{◌≡◌, ℕ, true, false, refl, rules, tests, arith}
use Rattle.std.proofs.lemmas.Iterator.{cases_from_all, YieldsList-from_range}
use Rattle.plan.proofs.BelowLaws.{all_by_range}
use Rattle.side.specs.Choices.{choice_at}
use Rattle.fabric.specs.Moves.{room_for, room_for_all}
use Rattle.fabric.proofs.moves.room_for_all.Goals as goal

pub returns : goal.returns
unfolding room_for_all room_for
returns c =
    let a = c.args in
    let room = λ (i : ℕ). room_for a.n a.queues a.crosspoints i (choice_at a.choices i) in
    all_by_range room a.n _ (cases_from_all _ _ _ (λ i. room i ≡ true) (λ i. room i ≡ false) c.all.ensures.ran (YieldsList-from_range 0 a.n a.n refl (omega arith))
    (λ k q h. search (rules, tests)) (λ k q h. search (rules, tests)))
