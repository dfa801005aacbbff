use Prim.Native.Nat.{◌*◌, ◌<◌, ◌≤◌}
use mathlib.Core.Path.{◌∙◌}
use mathlib.Core.Logic.{inr}
use native.Mathlib.Omega.{arith}
use Rattle.multiplexer.specs.Deadlines.{table_frame}
use Rattle.multiplexer.proofs.RoundLaws.{deadline_small}
use Rattle.multiplexer.proofs.CandidateLaws.{not_soon, soon}
use Rattle.multiplexer.proofs.TableLaws.{all_served}
use Rattle.multiplexer.proofs.soonest.Goals as goal

pub returns-then-rate-served : goal.returns-then-rate-served
returns-then-rate-served c =
    let a = c.args in
    rw c.if-frame-eq-TABLE_FRAME.true
    (not_soon _ _ _ _ (deadline_small _ _ _ (omega arith) (omega arith) (omega arith)) (omega arith) (all_served a.rate a.served a.slot c.if-slot-lt-TABLE_FRAME.true c.if-rate-served.true))

pub returns-then-slot-from : goal.returns-then-slot-from
returns-then-slot-from c =
    let a = c.args in
    let early : a.slot * a.rate < a.served * table_frame = rw (← c.from-then-from-le-TABLE_FRAME.ensures, ← c.from-then-from-le-TABLE_FRAME-2.ensures) c.if-slot-from.true in
    rw c.if-frame-eq-TABLE_FRAME.true (not_soon _ _ _ _ (deadline_small _ _ _ (omega arith) (omega arith) (omega arith)) (omega arith) (inr early))

pub returns-then-from-le-TABLE_FRAME : goal.returns-then-from-le-TABLE_FRAME
returns-then-from-le-TABLE_FRAME c =
    let a = c.args in
    let may : a.served * table_frame ≤ a.slot * a.rate = rw (← c.from-then-from-le-TABLE_FRAME.ensures, ← c.from-then-from-le-TABLE_FRAME-2.ensures) c.if-slot-from.false in
    rw c.if-frame-eq-TABLE_FRAME.true
    (soon _ _ _ _ (deadline_small _ _ _ (omega arith) (omega arith) (omega arith)) (omega arith) (omega arith) may _ (c.from-deadline.ensures ∙ c.read_deadline.ensures))
