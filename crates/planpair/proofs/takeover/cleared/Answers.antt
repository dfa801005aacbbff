use Rattle.plan.specs.Range.{most_flows}
use Rattle.planpair.proofs.TakeoverLaws.{cleared_is}
use Rattle.planpair.proofs.takeover.cleared.Goals as goal

pub returns : goal.returns
returns c = cleared_is c.args.taken most_flows c.overlay.ensures
