use mathlib.Core.Path.{sym, ◌∙◌}
use Rattle.crossbar.proofs.LoadLaws.{can_load, load_accepted, load_refused}
use Rattle.crossbar.proofs.state.Switch.load.Goals as goal

pub returns-in_default : goal.returns-in_default
returns-in_default c = load_refused _ _ _ _ c.load_verdict-verdict.ensures c.in_default.is

pub plan_over-self-requires : goal.plan_over-self-requires
plan_over-self-requires c = (can_load _ _ _ _ (sym c.load_verdict-verdict.ensures ∙ c.in-Ok.is)).plan

pub returns : goal.returns
returns c = load_accepted _ _ _ _ c.load_verdict-verdict.ensures c.in-Ok.is c.plan_over-self.ensures
