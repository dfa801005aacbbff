-- The printout has the numbers of the table, in order.
use Prim.Native.Nat.{ℕ, zero, suc, ◌+◌, ◌≤◌}
use mathlib.Core.Path.{◌≡◌, refl, ap, sym, ◌∙◌}
use mathlib.Core.List.{List, [], ◌∷◌, ◌++◌}
use native.Mathlib.Numerals.{add-one}
use native.Mathlib.Omega.{arith}
use lib.ListN.{length, get_or}
use Rattle.multiplexer.specs.Deadlines.{table_frame, entries_before, place_of, TableRule}
use Rattle.console.specs.TextBelow.{text_below}
use Rattle.console.proofs.TextBelowLaws.{below_nothing, below_last, below_join, below_first, below_same}
use Rattle.deadlines.specs.Printout.{line_of, rate_lines_of, printout_of, lines_of, PrintsTable}

-- the line of place p
abbrev line_at : List ℕ → ℕ → List ℕ
line_at table p = line_of (get_or table p 0)

-- the lines of a list from its front on are those of its places
lines_below : (xs : List ℕ) → lines_of xs ≡ text_below (line_at xs) (length xs)
unfolding lines_of
lines_below [] = sym (below_nothing (line_at []))
lines_below (x ∷ xs) = ap (λ (l : List ℕ). line_of x ++ l) (lines_below xs) ∙ sym (below_first (line_at (x ∷ xs)) (length xs))

module _ (table : List ℕ) (rule : TableRule table) where
  -- the lines of rate m + 1
  rate_is : (m : ℕ) → suc m ≤ table_frame → rate_lines_of (m + 1) ≡ text_below (λ k. line_at table (entries_before (suc m) + k)) (suc m)
  unfolding rate_lines_of
  rate_is m l =
      rw add-one
      (below_same _ _ (suc m) (λ k h.
      let place : place_of (suc m) (suc k) ≡ entries_before (suc m) + k = omega arith in
      rw (add-one k, sym place) (ap line_of (sym (rule.entry (suc m) (suc k) (omega arith) l (omega arith) (omega arith))))))

  -- those of the rates to m
  rates_are : (m : ℕ) → m ≤ table_frame → text_below (λ b. rate_lines_of (b + 1)) m ≡ text_below (line_at table) (entries_before (suc m))
  rates_are zero l = below_nothing _ ∙ sym (below_nothing _)
  rates_are (suc m) l =
      below_last (λ b. rate_lines_of (b + 1)) m
      ∙ (rw (rates_are m (omega arith), rate_is m l) refl)
      ∙ sym (below_join (line_at table) (entries_before (suc m)) (suc m))

pub prints_table : PrintsTable
unfolding printout_of
prints_table table rule = rates_are table rule table_frame (omega arith) ∙ ap (text_below (line_at table)) (sym rule.full) ∙ sym (lines_below table)
