-- Ranks are compared as the rule says: of two flows the one with the smaller rank goes before the other.
use Prim.Native.Nat.{ℕ, ◌<◌, ◌≤◌}
use mathlib.Core.Path.{◌≡◌, sym, ◌∙◌}
use mathlib.Core.Logic.{⊎_elim}
use native.Mathlib.Omega.{arith}
use lib.Dec.{ltb}
use borrow.Author.Tests.{lt-ltb, le-ltb}
use Rattle.plan.proofs.BelowLaws.{lt_or_le}
use Rattle.multiplexer.specs.Choose.{goes_before}
use Rattle.multiplexer.specs.Candidate.{never, most_rate, rank_of}
use Rattle.multiplexer.proofs.ChoiceLaws.{before_case}

module _ (d a e b : ℕ) (ha : a ≤ most_rate) (hb : b ≤ most_rate) where
  -- on equal deadlines the larger rate has the smaller rank
  tie : d ≡ e → ltb (rank_of d a) (rank_of e b) ≡ ltb b a
  tie same =
      ⊎_elim
      (λ (l : b < a). lt-ltb (rank_of d a) (rank_of e b) (omega arith) ∙ sym (lt-ltb b a l))
      (λ (l : a ≤ b). le-ltb (rank_of d a) (rank_of e b) (omega arith) ∙ sym (le-ltb b a l))
      (lt_or_le b a)

  pub rank_tells : ltb (rank_of d a) (rank_of e b) ≡ goes_before d a e b
  rank_tells =
      before_case d a e b (λ x. ltb (rank_of d a) (rank_of e b) ≡ x)
      (λ l. lt-ltb (rank_of d a) (rank_of e b) (omega arith))
      tie
      (λ l. le-ltb (rank_of d a) (rank_of e b) (omega arith))

-- the rank of an eligible flow is below that of `None`, and the rank of another flow is not
pub rank_eligible : (d a : ℕ) → d < never → rank_of d a < rank_of never most_rate
rank_eligible d a l = omega arith

pub rank_never : (a : ℕ) → rank_of never most_rate ≤ rank_of never a
rank_never a = omega arith
