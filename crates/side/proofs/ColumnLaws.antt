-- Heads choose by the columns of the ruling list, which are the rows of the transposed one.
use Prim.Native.Nat.{ℕ, zero, suc, ◌+◌, ◌*◌, ◌<◌, ◌≤◌}
use mathlib.Core.Path.{◌≡◌, refl, ap, sym, ◌∙◌}
use mathlib.Core.Bool.{false}
use mathlib.Core.List.{List}
use native.Mathlib.Numerals.{add-one}
use native.Mathlib.Omega.{arith}
use lib.ListN.{length, get_or, set, take, length-set, length-take}
use lib.Seq.{get_or-set_same, get_or-set_other, get_or-take, ext_get_or}
use Rattle.plan.specs.Range.{most_ports, most_flows}
use Rattle.plan.specs.Lines.{flow_of}
use Rattle.plan.specs.Desk.{row_of, desk_of}
use Rattle.plan.proofs.DeskLaws.{desk_row}
use Rattle.plan.proofs.LineLaws.{flow_below, square_small, flow_one}
use Rattle.multiplexer.specs.Window.{column_of}
use Rattle.multiplexer.proofs.PortLaws.{row_length, row_rate, column_length, column_rate}
use Rattle.side.specs.Columns.{transposed_row, transposed}
use Rattle.side.proofs.PlaceLaws.{flow_small}
use Rattle.side.proofs.TouchLaws.{untouched, settled}

-- One column becomes a row.
module _ (rates : List ℕ) (n j : ℕ) (array : List ℕ) where
  pub transpose_row_step : (m k at : ℕ) (f : List ℕ) → f ≡ transposed_row rates n j array m → k ≡ flow_of n j m → at ≡ flow_of n m j
      → set f k (get_or rates at 0) ≡ transposed_row rates n j array (m + 1)
  unfolding transposed_row
  transpose_row_step m k at f e ek ea = rw (add-one, ea, ek, e)

  row_array_length : (m : ℕ) → length (transposed_row rates n j array m) ≡ length array
  unfolding transposed_row
  row_array_length zero = refl
  row_array_length (suc m) = length-set (transposed_row rates n j array m) (flow_of n j m) _ ∙ row_array_length m

  abbrev place : ℕ → ℕ → ℕ
  place m k = get_or (transposed_row rates n j array m) k 0

  place_other : (m k : ℕ) → (k ≡ flow_of n j m → ⊥) → place (suc m) k ≡ place m k
  unfolding transposed_row
  place_other m k h = get_or-set_other (transposed_row rates n j array m) (flow_of n j m) k _ 0 h

  row_elsewhere : (m k : ℕ) → ((i : ℕ) → i < m → k ≡ flow_of n j i → ⊥) → place m k ≡ get_or array k 0
  unfolding transposed_row
  row_elsewhere m k h = untouched place (λ m k. k ≡ flow_of n j m) place_other m k h

  row_there : (i : ℕ) → i < n → flow_of n j i < length array → place n (flow_of n j i) ≡ get_or rates (flow_of n i j) 0
  unfolding transposed_row
  row_there i l small =
      settled place (λ m k. k ≡ flow_of n j m) place_other n i (flow_of n j i) l (λ q lo hi e. omega arith)
      ∙ get_or-set_same (transposed_row rates n j array i) (flow_of n j i) _ 0 (omega (arith, row_array_length i))

-- All columns become rows.
module _ (rates : List ℕ) (n : ℕ) (array : List ℕ) where
  pub transpose_step : (m : ℕ) (f g : List ℕ) → f ≡ transposed rates n array m → g ≡ transposed_row rates n m f n → g ≡ transposed rates n array (m + 1)
  unfolding transposed
  transpose_step m f g ef eg = rw (add-one, ← ef) eg

  transposed_length : (m : ℕ) → length (transposed rates n array m) ≡ length array
  unfolding transposed
  transposed_length zero = refl
  transposed_length (suc m) = row_array_length rates n m (transposed rates n array m) n ∙ transposed_length m

  -- place k is in row m
  abbrev in_row : ℕ → ℕ → Type 0
  in_row m k = (i : ℕ) × (i < n) × (k ≡ flow_of n m i)

  rows_other : (m k : ℕ) → (in_row m k → ⊥) → get_or (transposed rates n array (suc m)) k 0 ≡ get_or (transposed rates n array m) k 0
  unfolding transposed
  rows_other m k h = row_elsewhere rates n m (transposed rates n array m) n k (λ i l e. h (i, l, e))

  -- the list that the heads choose by
  abbrev pub columns : List ℕ
  columns = take (n * n) (transposed rates n array n)

  module _ (few : n ≤ most_ports) (full : length array ≡ most_flows) where
    transposed_at : (i j : ℕ) → i < n → j < n → get_or (transposed rates n array n) (flow_of n j i) 0 ≡ get_or rates (flow_of n i j) 0
    unfolding transposed
    transposed_at i j hi hj =
        settled (λ m k. get_or (transposed rates n array m) k 0) in_row rows_other n j (flow_of n j i) hj (λ q lo hq (g, l, e). omega (arith, (flow_one n j i q g hi l e).0))
        ∙ row_there rates n j (transposed rates n array j) i hi (omega (arith, transposed_length j, flow_small n j i few hj hi))

    pub columns_length : length columns ≡ n * n
    columns_length = omega (arith, length-take (n * n) (transposed rates n array n), transposed_length n, square_small n few)

    columns_row : (j : ℕ) → j < n → row_of columns n j ≡ column_of rates n j
    columns_row j hj =
        ext_get_or 0 (row_of columns n j) (column_of rates n j)
        (row_length columns n j columns_length hj ∙ sym (column_length rates n j))
        (λ i l.
        let hi : i < n = omega (arith, row_length columns n j columns_length hj) in
        row_rate columns n j i hi
        ∙ get_or-take (n * n) (transposed rates n array n) (flow_of n j i) 0 (flow_below n j i hj hi)
        ∙ transposed_at i j hi hj
        ∙ sym (column_rate rates n i j hi))

    pub desk_columns : (j : ℕ) → j < n → desk_of columns columns n j false ≡ column_of rates n j
    desk_columns j hj = desk_row columns columns n j false few hj columns_length columns_length ∙ columns_row j hj

pub columns_full : (rates array list : List ℕ) (n : ℕ) → list ≡ transposed rates n array n → length list ≡ length array
columns_full rates array list n e = ap length e ∙ transposed_length rates n array n
