use mathlib.Core.Path.{sym, ◌∙◌}
use Rattle.crossbar.proofs.StartLaws.{can_start, start_accepted, start_refused}
use Rattle.crossbar.proofs.start.start.Goals as goal

pub returns-in_default : goal.returns-in_default
returns-in_default c = start_refused _ _ _ _ _ c.start_verdict-verdict.ensures c.in_default.is c.no_plan.ensures c.fresh_with.ensures

pub plan_over-requires : goal.plan_over-requires
plan_over-requires c = (can_start _ _ _ _ _ (sym c.start_verdict-verdict.ensures ∙ c.in-Ok.is)).plan

pub returns : goal.returns
returns c = start_accepted _ _ _ _ _ c.start_verdict-verdict.ensures c.in-Ok.is c.no_plan-2.ensures c.plan_over.ensures c.fresh_with-2.ensures
