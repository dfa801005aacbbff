use Prim.Native.Nat.{◌*◌, ◌<◌, ◌≤◌}
use mathlib.Core.Path.{refl}
use mathlib.Core.Logic.{inl, inr}
use native.Mathlib.Omega.{arith}
use Rattle.multiplexer.proofs.RoundLaws.{deadline_small}
use Rattle.multiplexer.proofs.CandidateLaws.{not_soon, some_time}
use Rattle.multiplexer.proofs.soonest_divided.Goals as goal

pub returns-then-from-a : goal.returns-then-from-a
returns-then-from-a c =
    let a = c.args in
    let early : a.slot * a.rate < a.served * a.frame = rw (← c.from-a.ensures, ← c.from.ensures, ← c.from-2.ensures, ← c.from-4.ensures) c.if-from-a.true in
    not_soon _ _ _ _ (deadline_small _ _ _ (omega arith) (omega arith) (omega arith)) (omega arith) (inr early)

pub returns-then-rate-eq0 : goal.returns-then-rate-eq0
returns-then-rate-eq0 c = not_soon _ _ _ _ (deadline_small _ _ _ (omega arith) (omega arith) (omega arith)) (omega arith) (inl c.if-rate-eq0.true)

pub returns : goal.returns
returns c =
    let a = c.args in
    let may : a.served * a.frame ≤ a.slot * a.rate = rw (← c.from-a.ensures, ← c.from.ensures, ← c.from-2.ensures, ← c.from-4.ensures) c.if-from-a.false in
    some_time _ _ _ _ (deadline_small _ _ _ (omega arith) (omega arith) (omega arith)) (omega arith) (omega arith) may _ _ _
    (rw (c.from.ensures, c.from-2.ensures, c.from-3.ensures) refl) (omega arith) refl
