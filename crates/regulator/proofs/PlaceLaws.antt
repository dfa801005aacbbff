-- Boost at one place: the plan stays within its frame, no rate falls, the place is left with its row or its
-- column full, and the kept sums follow.
use Prim.Native.Nat.{ℕ, ◌+◌, ◌-◌, ◌<◌, ◌≤◌}
use mathlib.Core.Path.{◌≡◌, refl, ◌∙◌}
use mathlib.Core.List.{List}
use mathlib.Core.Logic.{◌⊎◌, inl, inr, ⊎_elim}
use native.Mathlib.Omega.{arith}
use native.Mathlib.Numerals.{add-one}
use lib.ListN.{get_or, set, length-set}
use lib.Seq.{get_or-set_other}
use Rattle.plan.specs.Lines.{flow_of, row_sum, column_sum}
use Rattle.plan.specs.Accept.{IsPlan}
use Rattle.plan.proofs.BelowLaws.{lt_or_le}
use Rattle.regulator.specs.Sums.{larger_sum, LineSums}
use Rattle.regulator.specs.Boost.{column_on, spare_of, boost_place, boost_diagonal}
use Rattle.regulator.proofs.HoldsLaws.{at_or_other, holds_grown}
use Rattle.regulator.proofs.FlowLaws.{rate_in_row, grown_here, row_grown, row_kept, column_grown, column_kept, row_mono, column_mono}
use Rattle.regulator.proofs.DiagonalLaws.{column_below}

-- Of two lists the second is a plan, and nowhere below the first.

pub record Rises (n t : ℕ) (l m : List ℕ) : Type 0 where
  pub plan : IsPlan n t m
  pub above : (q : ℕ) → get_or l q 0 ≤ get_or m q 0

pub rises_same : (n t : ℕ) (l : List ℕ) → IsPlan n t l → Rises n t l l
rises_same n t l p = record { plan = p; above = λ q. omega arith }

pub rises_then : (n t : ℕ) (l m o : List ℕ) → Rises n t l m → Rises n t m o → Rises n t l o
rises_then n t l m o a b = record { plan = b.plan; above = λ q. omega (arith, a.above q, b.above q) }

-- the flow (i, j) has its row or its column full

abbrev pub Full : ℕ → ℕ → List ℕ → ℕ → ℕ → Type 0
Full n t l i j = (row_sum l n i ≡ t) ⊎ (column_sum l n j ≡ t)

pub full_stays : (n t : ℕ) (l m : List ℕ) (i j : ℕ) → Rises n t l m → i < n → j < n → Full n t l i j → Full n t m i j
full_stays n t l m i j r hi hj =
    ⊎_elim
    (λ (e : row_sum l n i ≡ t). inl (omega (arith, row_mono l m n i r.above, r.plan.rows i hi)))
    (λ (e : column_sum l n j ≡ t). inr (omega (arith, column_mono l m n j r.above, r.plan.columns j hj)))

-- The rate of the flow (i, j) of a plan grows by its spare slots.
module _ (n t : ℕ) (l : List ℕ) (i j : ℕ) (p : IsPlan n t l) (hi : i < n) (hj : j < n) where
  abbrev spare : ℕ
  spare = spare_of n t l i j

  abbrev after : List ℕ
  after = boost_place n t i j l

  row_here : row_sum after n i ≡ row_sum l n i + spare
  unfolding boost_place
  row_here = row_grown l n i j spare p.square hi hj

  row_there : (a : ℕ) → a < n → (a ≡ i → ⊥) → row_sum after n a ≡ row_sum l n a
  unfolding boost_place
  row_there a ha = row_kept l n i j spare p.square hi hj a

  column_here : column_sum after n j ≡ column_sum l n j + spare
  unfolding boost_place
  column_here = column_grown l n i j spare p.square hi hj

  column_there : (b : ℕ) → b < n → (b ≡ j → ⊥) → column_sum after n b ≡ column_sum l n b
  unfolding boost_place
  column_there = column_kept l n i j spare p.square hi hj

  place_plan : IsPlan n t after
  unfolding boost_place
  place_plan = record {
    some_port = p.some_port;
    few_ports = p.few_ports;
    some_slot = p.some_slot;
    few_slots = p.few_slots;
    square = length-set l _ _ ∙ p.square;
    rows = λ a ha.
        at_or_other (λ a. row_sum after n a ≤ t) a i (omega (arith, row_here, p.rows i hi)) (λ ne. omega (arith, row_there a ha ne, p.rows a ha));
    columns = λ b hb.
        at_or_other (λ b. column_sum after n b ≤ t) b j (omega (arith, column_here, p.columns j hj)) (λ ne. omega (arith, column_there b hb ne, p.columns b hb));
  }

  pub place_rises : Rises n t l (boost_place n t i j l)
  unfolding boost_place
  place_rises = record {
    plan = place_plan;
    above = λ q.
        at_or_other (λ q. get_or l q 0 ≤ get_or after q 0) q (flow_of n i j)
        (omega (arith, grown_here l n i j spare p.square hi hj))
        (λ ne. omega (arith, get_or-set_other l (flow_of n i j) q (get_or l (flow_of n i j) 0 + spare) 0 ne));
  }

  pub place_full : Full n t (boost_place n t i j l) i j
  place_full =
      ⊎_elim
      (λ (b : row_sum l n i < column_sum l n j). inr (omega (arith, column_here, p.columns j hj)))
      (λ (b : column_sum l n j ≤ row_sum l n i). inl (omega (arith, row_here, p.rows i hi)))
      (lt_or_le (row_sum l n i) (column_sum l n j))

  place_sums : (rows columns : List ℕ) → LineSums l n rows columns → LineSums after n (set rows i (get_or rows i 0 + spare)) (set columns j (get_or columns j 0 + spare))
  place_sums rows columns s = record {
    room_for_rows = simp length-set s.room_for_rows;
    room_for_columns = simp length-set s.room_for_columns;
    row = holds_grown rows (row_sum l n) (row_sum after n) n i spare (omega arith) hi s.row row_here row_there;
    column = holds_grown columns (column_sum l n) (column_sum after n) n j spare (omega arith) hj s.column column_here column_there;
  }

  -- the grown rate is within the frame
  pub place_within : (place larger : ℕ) → place ≡ flow_of n i j → larger ≡ larger_sum l n i j → get_or l place 0 + (t - larger) ≤ t
  place_within place larger e el = rw e (omega (arith, rate_in_row l n i j hj, p.rows i hi, p.columns j hj))

-- One turn of the code's loop over a diagonal: `larger` is what it finds in the kept sums.
pub place_turn : (n t k : ℕ) (given l rows columns : List ℕ) (i j place larger : ℕ) → IsPlan n t l → LineSums l n rows columns → l ≡ boost_diagonal n t k given i
    → i < n → j ≡ column_on n k i → place ≡ flow_of n i j → larger ≡ larger_sum l n i j
    → let m = set l place (get_or l place 0 + (t - larger)) in
    IsPlan n t m × LineSums m n (set rows i (get_or rows i 0 + (t - larger))) (set columns j (get_or columns j 0 + (t - larger))) × (m ≡ boost_diagonal n t k given (i + 1))
unfolding boost_place boost_diagonal
place_turn n t k given l rows columns i j place larger p s e hi ej ep el =
    let hj = column_below n k i p.some_port in
    rw (el, ep, ej, add-one, ← e) (place_plan n t l i (column_on n k i) p hi hj, place_sums n t l i (column_on n k i) p hi hj rows columns s, refl)
