use Rattle.std.proofs.Common.{◌≡◌, ◌++◌}
use Rattle.frame.specs.Printout.{side_choices_of}
use Rattle.frame.proofs.line.choices.Given as goal

abbrev pub invariant-loop-answer : goal.invariant-loop-answer
invariant-loop-answer l = l.out.bytes ≡ l.initial.out.bytes ++ side_choices_of l.fn.answers l.answer-index
