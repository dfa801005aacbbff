-- For the code, which goes through the flows and keeps the number of the choice so far with its rank.
use Rattle.std.specs.Prelude.{ℕ, ◌+◌, ◌-◌, ◌*◌, ◌<◌, ◌≤◌, ◌≡◌, cond, ltb, Option, Some, None}
use Rattle.plan.specs.Range.{most_ports}
use Rattle.multiplexer.specs.Choose.{eligible, deadline}
use Rattle.multiplexer.specs.declared.Candidate.{Candidate}

-- 2 ^ 48 − 1: the deadline of `None`, and of a flow that is not eligible
abbrev pub never : ℕ
never = 281474976710655

-- 2 ^ 16 − 1: the rate of `None`, since no flow has a larger one
abbrev pub most_rate : ℕ
most_rate = 65535

-- Deadline d and rate a as one number: the deadline its upper 48 bits, and what a lacks of the highest rate its lower
-- 16. Of two flows the one with the smaller rank goes before the other (proofs/RankLaws.antt).
abbrev pub rank_of : ℕ → ℕ → ℕ
rank_of d a = d * 65536 + (most_rate - a)

-- The deadline r of a flow with rate a and count k, if it is eligible; it is not mistaken for none, and the rate is not
-- above the highest.
pub record Soonest (a k T t r : ℕ) : Type 0 where
  pub is : r ≡ cond (eligible a k T t) (deadline a k T) never
  pub told_apart : deadline a k T < never
  pub fits : a ≤ most_rate

-- the candidate with flow f, of deadline d and rate a, to choose from too
unfoldable pub or_flow : Candidate → ℕ → ℕ → ℕ → Candidate
or_flow c f d a = cond (ltb (rank_of d a) c.rank) (record { flow = f; rank = rank_of d a }) c

-- the choice that a number stands for: a flow's its `Some`, and one past all flows `None`
unfoldable pub choice_of : ℕ → Option ℕ
choice_of f = cond (ltb f most_ports) (Some f) None
