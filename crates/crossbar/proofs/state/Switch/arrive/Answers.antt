use mathlib.Core.Path.{◌≡◌, sym, ◌∙◌}
use native.Mathlib.Omega.{arith}
use Prim.Native.Nat.{ℕ}
use Rattle.std.specs.Prelude.{Ok}
use Rattle.refusal.specs.Verdict.{Verdict}
use Rattle.plan.specs.Lines.{flow_of}
use Rattle.crossbar.specs.Arrive.{arrive_verdict}
use Rattle.crossbar.specs.declared.state.Switch.{Switch}
use Rattle.crossbar.proofs.ValidLaws.{valid}
use Rattle.crossbar.proofs.ArriveLaws.{can_arrive, arrive_accepted, arrive_refused, Placed, placed}
use Rattle.crossbar.proofs.state.Switch.arrive.Goals as goal

-- where the arrival is accepted
known : {s : Switch} {len k : ℕ} {v : Verdict} (i j : ℕ) → v ≡ arrive_verdict s len i j → v ≡ Ok tt → k ≡ flow_of s.running.ports i j → Placed s len k
known i j is pass at = placed _ _ _ _ _ (can_arrive _ _ _ _ (sym is ∙ pass)) at

pub returns-in_default : goal.returns-in_default
returns-in_default c = arrive_refused _ _ _ _ _ c.arrive_verdict-verdict.ensures c.in_default.is

pub flow_place-k-requires : goal.flow_place-k-requires
flow_place-k-requires c =
    let can = can_arrive _ _ _ _ (sym c.arrive_verdict-verdict.ensures ∙ c.in-Ok.is) in
    ((valid _ can.valid).running.few_ports, can.board, can.head)

pub ring_place-next-requires : goal.ring_place-next-requires
ring_place-next-requires c = rw (c.from.ensures, c.from-2.ensures) (known _ _ c.arrive_verdict-verdict.ensures c.in-Ok.is c.flow_place-k.ensures.is).once_around

pub bounds-store-k : goal.bounds-store-k
bounds-store-k c = (known _ _ c.arrive_verdict-verdict.ensures c.in-Ok.is c.flow_place-k.ensures.is).within _ c.ring_place-next.ensures.1

pub overflow_mul-store : goal.overflow_mul-store
overflow_mul-store c = let k = known _ _ c.arrive_verdict-verdict.ensures c.in-Ok.is c.flow_place-k.ensures.is in omega (arith, k.within _ c.ring_place-next.ensures.1, k.small)

pub overflow_add-store : goal.overflow_add-store
overflow_add-store c = let k = known _ _ c.arrive_verdict-verdict.ensures c.in-Ok.is c.flow_place-k.ensures.is in omega (arith, k.within _ c.ring_place-next.ensures.1, k.small)

pub offset_bounds-store-k : goal.offset_bounds-store-k
offset_bounds-store-k c = let k = known _ _ c.arrive_verdict-verdict.ensures c.in-Ok.is c.flow_place-k.ensures.is in omega (arith, k.within _ c.ring_place-next.ensures.1, k.small)

pub overflow_add-from : goal.overflow_add-from
overflow_add-from c = let k = known _ _ c.arrive_verdict-verdict.ensures c.in-Ok.is c.flow_place-k.ensures.is in omega (arith, c.from.ensures, c.from-2.ensures, k.once_around, k.deep)

pub overflow_add-self : goal.overflow_add-self
overflow_add-self c = let k = known _ _ c.arrive_verdict-verdict.ensures c.in-Ok.is c.flow_place-k.ensures.is in omega (arith, k.room, k.deep)

pub returns : goal.returns
returns c = arrive_accepted _ _ _ _ _ c.arrive_verdict-verdict.ensures c.in-Ok.is c.flow_place-k.ensures.is (rw (c.from.ensures, c.from-2.ensures) at c.ring_place-next.ensures.0)
