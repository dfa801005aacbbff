use mathlib.Core.Path.{refl}
use Rattle.multiplexer.specs.Choose.{rounded_up}
use Rattle.multiplexer.proofs.TableLaws.{rule_tested}
use Rattle.multiplexer.proofs.deadlines.deadline_table.Goals as goal

pub returns : goal.returns
unfolding rounded_up
returns c = rule_tested _ refl refl
