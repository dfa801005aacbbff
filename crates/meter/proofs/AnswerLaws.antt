-- There is one answer for each record, flow and length.
use Prim.Native.Nat.{ℕ, ◌-◌, ◌<◌, ◌≤◌}
use mathlib.Core.Path.{◌≡◌, refl, ap, sym, subst, ◌∙◌}
use mathlib.Core.Bool.{Bool, true, false, ◌||◌}
use mathlib.Core.List.{List}
use mathlib.Core.Logic.{◌⊎◌, ⊎_elim}
use native.Mathlib.Omega.{arith}
use lib.Dec.{ltb}
use lib.ListN.{length}
use borrow.Author.Tests.{lt-ltb, le-ltb, ltb-false}
use Rattle.refusal.specs.Chain.{when_accepted}
use Rattle.refusal.specs.declared.Refusal.{Refusal}
use Rattle.refusal.specs.declared.Refusal.TheVariants.{RecordLength}
use Rattle.refusal.specs.Verdict.{Verdict}
use Rattle.std.specs.Prelude.{Result, Ok, Err}
use Rattle.refusal.proofs.ChainLaws.{refuse_passed}
use Rattle.meter.specs.Cover.{most_record, cover_at, Inside, FirstBest}
use Rattle.meter.specs.Answer.{cover_verdict, Measures, CoversUnder, Covers, NoSlots, OneAnswer}
use Rattle.meter.specs.Search.{fewer, more, kept_to, measured_of, cover_of}
use Rattle.meter.specs.declared.Measured.{Measured}
use Rattle.meter.specs.declared.Stretch.{Stretch}
use Rattle.meter.proofs.CoverLaws.{cover_within}
use Rattle.meter.proofs.SearchLaws.{Order, Keeps, at_least, at_most, less_keeps, more_keeps, kept_first, first_only, first_in}

or_false : (a b : Bool) → (a || b) ≡ false → (a ≡ false) × (b ≡ false)
or_false true b e = let z : ◌≡◌ {A = ℕ} 0 1 = cc in absurd (omega arith)
or_false false b e = (refl, e)

-- a record that is not refused has the l slots, and is not too long
pub accepted_record : (slots l : ℕ) → cover_verdict slots l ≡ Ok tt → (l ≤ slots) × (slots ≤ most_record)
unfolding cover_verdict
accepted_record slots l e =
    let both = or_false (ltb slots l) (ltb most_record slots) (refuse_passed _ _ _ e).0 in
    (ltb-false slots l both.0, ltb-false most_record slots both.1)

pub record_accepted : (slots l : ℕ) → l ≤ slots → slots ≤ most_record → cover_verdict slots l ≡ Ok tt
unfolding cover_verdict
record_accepted slots l h short = rw (le-ltb slots l h, le-ltb most_record slots short) refl

pub record_refused : (slots l : ℕ) → (slots < l) ⊎ ((l ≤ slots) × (most_record < slots)) → cover_verdict slots l ≡ Err RecordLength
unfolding cover_verdict
record_refused slots l =
    ⊎_elim
    (λ (h : slots < l). rw (lt-ltb slots l h) refl)
    (λ (h : (l ≤ slots) × (most_record < slots)). rw (le-ltb slots l h.0, lt-ltb most_record slots h.1) refl)

module _ (recorded : List ℕ) (flow l : ℕ) where
  abbrev c : ℕ → ℕ
  c = cover_at recorded flow l

  abbrev last : ℕ
  last = length recorded - l

  -- what is kept of all places is the first best of those inside
  found : {R : ℕ → ℕ → Type 0} → Order R → (better : ℕ → ℕ → Bool) → Keeps R better → l ≤ length recorded → FirstBest R (Inside recorded l) c (kept_to better c last)
  found order better keeps h = first_in (λ t m. omega arith) (λ t m. omega arith) (kept_first order better keeps c last)

  pub kept_measures : l ≤ length recorded → Measures recorded flow l (measured_of recorded flow l)
  unfolding measured_of
  kept_measures h = record { least = found at_least fewer less_keeps h; most = found at_most more more_keeps h }

  covers_under : (v : Verdict) → (v ≡ Ok tt → l ≤ length recorded) → CoversUnder v recorded flow l (when_accepted v (measured_of recorded flow l))
  covers_under (Ok _) h = kept_measures (h refl)
  covers_under (Err why) h = refl

  measured_only : (r r' : Measured) → Measures recorded flow l r → Measures recorded flow l r' → r ≡ r'
  measured_only r r' m m' =
      let least = first_only at_least (Inside recorded l) c r.least r'.least m.least m'.least in
      let most = first_only at_most (Inside recorded l) c r.most r'.most m.most m'.most in
      ap (λ (s : Stretch). record { least = s; most = r.most }) least
      ∙ ap (λ (s : Stretch). record { least = r'.least; most = s }) most

  only_under : (v : Verdict) (r r' : Result Measured Refusal) → CoversUnder v recorded flow l r → CoversUnder v recorded flow l r' → r ≡ r'
  only_under (Ok _) (Ok r) (Ok r') m m' = ap Ok (measured_only r r' m m')
  only_under (Ok _) (Ok r) (Err why) m m' = absurd m'
  only_under (Ok _) (Err why) r' m m' = absurd m
  only_under (Err why) r r' m m' = m ∙ sym m'

  -- what the code answers under its verdict
  pub covers_as : (v : Verdict) (r : Result Measured Refusal) → v ≡ cover_verdict (length recorded) l → CoversUnder v recorded flow l r → Covers recorded flow l r
  covers_as v r e is = subst (λ (w : Verdict). CoversUnder w recorded flow l r) e is

  -- an answer that is not refused is measured
  pub covers_measures : (r : Measured) → Covers recorded flow l (Ok r) → Measures recorded flow l r
  covers_measures r covers = go (cover_verdict (length recorded) l) covers
    where
      go : (v : Verdict) → CoversUnder v recorded flow l (Ok r) → Measures recorded flow l r
      go (Ok _) is = is
      go (Err why) is = let z : ◌≡◌ {A = ℕ} 0 1 = cc in absurd (omega arith)

  pub cover_is : Covers recorded flow l (cover_of recorded flow l)
  unfolding cover_of
  cover_is = covers_under (cover_verdict (length recorded) l) (λ e. (accepted_record (length recorded) l e).0)

  pub cover_only : (r : Result Measured Refusal) → Covers recorded flow l r → r ≡ cover_of recorded flow l
  cover_only r is = only_under (cover_verdict (length recorded) l) r (cover_of recorded flow l) is cover_is

  -- a record in range with l slots or more is measured
  pub covers_accepted : l ≤ length recorded → length recorded ≤ most_record → (r : Result Measured Refusal) → Covers recorded flow l r → r ≡ Ok (measured_of recorded flow l)
  unfolding cover_of
  covers_accepted h short r is = cover_only r is ∙ rw (record_accepted (length recorded) l h short) refl

  pub one_answer : OneAnswer (Covers recorded flow l)
  one_answer = record { answer = cover_of recorded flow l; is = cover_is; only = cover_only }

pub no_slots : (recorded : List ℕ) (flow : ℕ) → NoSlots recorded flow
no_slots recorded flow short =
    covers_as recorded flow 0 (Ok tt) _ (sym (record_accepted (length recorded) 0 (omega arith) short))
    record {
      least = record { inside = omega arith; there = sym (none 0); none_better = λ t i. omega arith; none_earlier = λ t i e. omega arith };
      most = record { inside = omega arith; there = sym (none 0); none_better = λ t i. omega (arith, none t); none_earlier = λ t i e. omega arith };
    }
  where
    none : (t : ℕ) → cover_at recorded flow 0 t ≡ 0
    none t = omega (arith, cover_within recorded flow 0 t)
