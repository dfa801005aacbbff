use Rattle.plan.proofs.TestLaws.{passed}
use Rattle.crossbar.proofs.ValidLaws.{valid}
use Rattle.crossbar.proofs.state.Switch.arrive_verdict.Goals as goal

pub store_fits-requires : goal.store_fits-requires
store_fits-requires c = let v = valid _ (passed c.is_valid.ensures c.if-not-is_valid.false) in (v.running.few_ports, v.few_places)

pub flow_place-requires : goal.flow_place-requires
flow_place-requires c = ((valid _ (passed c.is_valid.ensures c.if-not-is_valid.false)).running.few_ports, c.if-n-i.false, c.if-n-j.false)
