use Rattle.std.proofs.Common.{ℕ, List, ◌<◌, ◌≡◌, ap, sym, arith, length, take, get_or-take, length-take}
use Rattle.fabric.specs.Answer.{answer_of}
use Rattle.fabric.specs.declared.flow.Answer.TheVariants.{Idle}
use Rattle.fabric.specs.declared.flow.Answer.{Answer}
use Rattle.frame.specs.Printout.{choice_of}
use Rattle.console.proofs.TextBelowLaws.{below_step, below_room}
use Rattle.frame.proofs.line.choices.Goals as goal

-- the choice of one port
abbrev choice_at : List Answer → ℕ → List ℕ
choice_at answers p = choice_of (answer_of answers p)

-- those below n have their choices
below : (answers : List Answer) (n p : ℕ) → p < length (take n answers) → choice_at answers p ≡ choice_at (take n answers) p
below answers n p l = ap choice_of (sym (get_or-take n answers p Idle (omega (arith, length-take n answers))))

pub choice-requires : goal.choice-requires
choice-requires c =
    omega (
      arith,
      ap length (below c.args.answers c.args.n _ c.loop-answer-test.true),
      below_room (choice_at c.args.answers) _ c.loop-answer.invariant {n = c.args.n} (omega (arith, c.loop-answer-test.true, length-take c.args.n c.args.answers)),
      c.requires.1,
    )

pub loop-answer-preserved : goal.loop-answer-preserved
loop-answer-preserved c = below_step (choice_at c.args.answers) _ c.loop-answer.invariant (below c.args.answers c.args.n _ c.loop-answer-test.true) c.choice.ensures
