-- The candidate that the code keeps: after n flows it is the number of the choice among them, with its rank.
use Prim.Native.Nat.{ℕ, ◌+◌, ◌-◌, ◌*◌, ◌/◌, ◌<◌, ◌≤◌}
use mathlib.Core.Path.{◌≡◌, refl, ◌∙◌}
use mathlib.Core.Bool.{Bool, true, false, cond, ◌&&◌}
use mathlib.Core.Logic.{◌⊎◌}
use mathlib.Core.List.{List}
use native.Mathlib.Omega.{arith}
use lib.Dec.{ltb}
use lib.ListN.{get_or}
use borrow.Author.Tests.{ltb-true, ltb-false, lt-ltb, le-ltb}
use Rattle.std.specs.Prelude.{Option, Some, None}
use Rattle.multiplexer.specs.Choose.{eligible, deadline, rate_at, eligible_at, deadline_at, goes_before_choice, better}
use Rattle.multiplexer.specs.Candidate.{never, most_rate, rank_of, Soonest, or_flow}
use Rattle.multiplexer.proofs.RoundLaws.{quotient_rounded}
use Rattle.multiplexer.proofs.RankLaws.{rank_tells, rank_eligible, rank_never}
use Rattle.multiplexer.proofs.NumberLaws.{number_of}
use Rattle.multiplexer.proofs.ChoiceLaws.{is_eligible, ineligible}
use Rattle.multiplexer.specs.declared.Candidate.{Candidate}

-- what the tests of a flow make of it
module _ (a k T t : ℕ) (told_apart : deadline a k T < never) (fits : a ≤ most_rate) where
  pub not_soon : (a ≡ 0) ⊎ (t * a < k * T) → Soonest a k T t never
  not_soon h = record { is = rw (ineligible a k T t h) refl; told_apart = told_apart; fits = fits }

  pub soon : 0 < a → k * T ≤ t * a → (r : ℕ) → r ≡ deadline a k T → Soonest a k T t r
  soon pos may r e = record { is = e ∙ (rw (is_eligible a k T t pos may) refl); told_apart = told_apart; fits = fits }

  pub some_time : 0 < a → k * T ≤ t * a → (y d r : ℕ) → y ≡ k * T + T + (d - 1) → d ≡ a → r ≡ y / d → Soonest a k T t r
  some_time pos may y d r due by q =
      let after : y ≡ (k + 1) * T + (a - 1) = omega (arith, due, by) in
      soon pos may r (q ∙ rw by (quotient_rounded ((k + 1) * T) y a after))

pub soonest_small : (a k T t r : ℕ) → Soonest a k T t r → r ≤ never
soonest_small a k T t r s = go (eligible a k T t) s.is
  where
    go : (b : Bool) → r ≡ cond b (deadline a k T) never → r ≤ never
    go true e = omega (arith, s.told_apart)
    go false e = omega arith

module _ (c : Candidate) (f d a : ℕ) where
  pub or_flow_stays : c.rank ≤ rank_of d a → or_flow c f d a ≡ c
  unfolding or_flow
  or_flow_stays l = rw (le-ltb (rank_of d a) c.rank l) refl

  pub or_flow_changes : rank_of d a < c.rank → or_flow c f d a ≡ record { flow = f; rank = rank_of d a }
  unfolding or_flow
  or_flow_changes l = rw (lt-ltb (rank_of d a) c.rank l) refl

module _ (rs ks : List ℕ) (T : ℕ) where
  -- `None` is kept as a flow with the highest rate that is not eligible
  abbrev deadline_of : Option ℕ → ℕ
  deadline_of None = never
  deadline_of (Some f) = deadline_at rs ks T f

  abbrev rate_of : Option ℕ → ℕ
  rate_of None = most_rate
  rate_of (Some f) = rate_at rs f

  -- a choice's number with its rank
  abbrev pub candidate : Option ℕ → Candidate
  candidate c = record { flow = number_of c; rank = rank_of (deadline_of c) (rate_of c) }

  -- the code keeps choice c as b
  pub record Kept (b : Candidate) (c : Option ℕ) : Type 0 where
    pub is : b ≡ candidate c
    pub within : rank_of (deadline_of c) (rate_of c) ≤ rank_of never most_rate
    pub fits : rate_of c ≤ most_rate

  pub kept_none : Kept (candidate None) None
  kept_none = record { is = refl; within = omega arith; fits = omega arith }

  -- an eligible flow goes before a choice if its rank is smaller
  rank_choice : (n : ℕ) (c : Option ℕ) → deadline_at rs ks T n < never → rate_at rs n ≤ most_rate → rate_of c ≤ most_rate
      → ltb (rank_of (deadline_at rs ks T n) (rate_at rs n)) (rank_of (deadline_of c) (rate_of c)) ≡ goes_before_choice rs ks T n c
  rank_choice n None told_apart fits _ = lt-ltb _ _ (rank_eligible (deadline_at rs ks T n) (rate_at rs n) told_apart)
  rank_choice n (Some f) told_apart fits kept = rank_tells (deadline_at rs ks T n) (rate_at rs n) (deadline_at rs ks T f) (rate_at rs f) fits kept

  module _ (n d : ℕ) (b : Candidate) (c : Option ℕ) (kept : Kept b c) where
    kept_stays : rank_of (deadline_of c) (rate_of c) ≤ rank_of d (rate_at rs n) → Kept (or_flow b n d (rate_at rs n)) c
    kept_stays l =
        record {
          is = or_flow_stays b n d (rate_at rs n) (rw kept.is l) ∙ kept.is;
          within = kept.within;
          fits = kept.fits;
        }

    kept_changes : d ≡ deadline_at rs ks T n → rate_at rs n ≤ most_rate → rank_of d (rate_at rs n) < rank_of (deadline_of c) (rate_of c)
        → Kept (or_flow b n d (rate_at rs n)) (Some n)
    kept_changes is fits l =
        record {
          is = or_flow_changes b n d (rate_at rs n) (rw kept.is l) ∙ (rw is refl);
          within = omega (arith, kept.within, is);
          fits = fits;
        }

    -- with flow n, whose deadline is d, to choose from too
    pub kept_next : (t : ℕ) → Soonest (rate_at rs n) (get_or ks n 0) T t d → Kept (or_flow b n d (rate_at rs n)) (better rs ks T t n c)
    unfolding better
    kept_next t s = go (eligible_at rs ks T t n) (goes_before_choice rs ks T n c) refl refl
      where
        told : d ≡ deadline_at rs ks T n → ltb (rank_of d (rate_at rs n)) (rank_of (deadline_of c) (rate_of c)) ≡ goes_before_choice rs ks T n c
        told is = rw is (rank_choice n c s.told_apart s.fits kept.fits)

        go : (x y : Bool) → eligible_at rs ks T t n ≡ x → goes_before_choice rs ks T n c ≡ y
            → Kept (or_flow b n d (rate_at rs n)) (cond (x && y) (Some n) c)
        go true true may first = let is : d ≡ deadline_at rs ks T n = s.is ∙ (rw may refl) in kept_changes is s.fits (ltb-true _ _ (told is ∙ first))
        go true false may first = let is : d ≡ deadline_at rs ks T n = s.is ∙ (rw may refl) in kept_stays (ltb-false _ _ (told is ∙ first))
        go false y out first =
            let is : d ≡ never = s.is ∙ (rw out refl) in
            kept_stays (omega (arith, kept.within, rank_never (rate_at rs n), is))
