-- A call with what it was answered. "All else in a call is free: plan, port, cell. A step or arrival may also be lent a
-- list of another length in the store's place; that is part of the call".
use Rattle.std.specs.Prelude.{ℕ, List}
use Rattle.crossbar.specs.declared.state.Switch.{Switch}
use Rattle.crossbar.specs.declared.state.Reply.{Reply}
use Rattle.crossbar.specs.declared.state.SlotReply.{SlotReply}

-- what a call is lent: the run's own store, or a list in its place
pub data Lent : Type 0 where
  own : Lent
  other : List ℕ → Lent

pub data Call : Type 0 where
  step : Lent → Call
  -- input, output, cell
  arrive : Lent → ℕ → ℕ → ℕ → Call
  -- N, T, rates
  load : ℕ → ℕ → List ℕ → Call

-- The call, and what came of it: the operation's answer and, of an arrival, the lent list as it was left.
pub data Event : Type 0 where
  stepped : Lent → SlotReply → Event
  arrived : Lent → ℕ → ℕ → ℕ → Reply → List ℕ → Event
  loaded : ℕ → ℕ → List ℕ → Reply → Event

abbrev pub call_of : Event → Call
call_of (stepped lent r) = step lent
call_of (arrived lent i j cell r left) = arrive lent i j cell
call_of (loaded n t rates r) = load n t rates

-- the state that a call returned
abbrev pub state_after : Event → Switch
state_after (stepped lent r) = r.state
state_after (arrived lent i j cell r left) = r.state
state_after (loaded n t rates r) = r.state

-- the run's store after a call that found it as `store`
abbrev pub store_after : List ℕ → Event → List ℕ
store_after store (stepped lent r) = store
store_after store (arrived own i j cell r left) = left
store_after store (arrived (other l) i j cell r left) = store
store_after store (loaded n t rates r) = store
