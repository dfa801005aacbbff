use mathlib.Core.Path.{sym, ◌∙◌}
use Rattle.plan.proofs.TestLaws.{passed}
use Rattle.plan.proofs.AcceptLaws.{accepted}
use Rattle.crossbar.proofs.ValidLaws.{depth_range}
use Rattle.crossbar.proofs.start.start_verdict.Goals as goal

pub store_fits-requires : goal.store_fits-requires
store_fits-requires c =
    let plan = accepted _ _ _ (sym c.accept.ensures ∙ c.in_ok-accept.was) in
    (plan.few_ports, (depth_range _ (passed c.depth_in_range.ensures c.if-not-depth_in_range.false)).1)
