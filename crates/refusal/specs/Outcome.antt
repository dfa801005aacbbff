-- The outcome of a call that writes a lent list: its verdict, and the list as the call leaves it.
use Rattle.std.specs.Prelude.{ℕ, List}
use Rattle.refusal.specs.Chain.{if_accepted}
use Rattle.refusal.specs.Verdict.{Verdict}

pub record Outcome : Type 0 where
  pub verdict : Verdict
  pub list : List ℕ

abbrev pub outcome : Verdict → List ℕ → Outcome
outcome verdict list = record { verdict = verdict; list = list }

-- "A refusal gives the number; .. written lists are unchanged."
abbrev pub written : Verdict → List ℕ → List ℕ → Outcome
written verdict result before = outcome verdict (if_accepted verdict result before)
