-- Request L7: "for a = 1 to 64 and s = 1 to a, in that order, s × 64 / a rounded up, one a line. That output is the constant
-- table in the code, and its rule holds at every entry. With T = 64 the choice reads the table and agrees with the formula
-- choice for all rates to 64, counts to the rate and slots to 63."
use Rattle.std.specs.Prelude.{ℕ, zero, suc, ◌+◌, ◌-◌, ◌*◌, ◌<◌, ◌≤◌, ◌≡◌, Bool, true, cond, ◌&&◌, List, length, get_or, Option, Some, None}
use Rattle.plan.specs.Below.{sum_below}
use Rattle.multiplexer.specs.Choose.{rounded_up, rate_at, eligible_at, goes_before, flows_of, choose_of}

-- how many slots the frames have that the table is for, and its highest rate
abbrev pub table_frame : ℕ
table_frame = 64

-- how many entries stand before those of rate a: one for each service of each smaller rate
abbrev pub entries_before : ℕ → ℕ
entries_before a = sum_below (λ b. b) a

-- the place, from 0 on, of service number s of rate a
abbrev pub place_of : ℕ → ℕ → ℕ
place_of a s = entries_before a + (s - 1)

-- "its rule holds at every entry", and there is no other
pub record TableRule (table : List ℕ) : Type 0 where
  pub full : length table ≡ entries_before (suc table_frame)
  pub entry : (a s : ℕ) → 1 ≤ a → a ≤ table_frame → 1 ≤ s → s ≤ a → get_or table (place_of a s) 0 ≡ rounded_up (s * table_frame) a

-- For the code, which is lent the table in the frames that it is for. In others it may be lent any list, and reads nothing.
abbrev pub ReadIn : ℕ → List ℕ → Type 0
ReadIn frame table = frame ≡ table_frame → TableRule table

-- the deadline of flow f, which was served k times: that of service number k + 1, as the table has it
abbrev pub read_at : List ℕ → List ℕ → List ℕ → ℕ → ℕ
read_at table rs ks f = get_or table (place_of (rate_at rs f) (get_or ks f 0 + 1)) 0

-- flow f goes before a choice among lower numbers, both with deadlines that are read
abbrev pub reads_before : List ℕ → List ℕ → List ℕ → ℕ → Option ℕ → Bool
reads_before table rs ks f None = true
reads_before table rs ks f (Some g) = goes_before (read_at table rs ks f) (rate_at rs f) (read_at table rs ks g) (rate_at rs g)

-- the choice among the flows below n, with deadlines that are read
unfoldable pub best_read : List ℕ → List ℕ → List ℕ → ℕ → ℕ → Option ℕ
best_read table rs ks t zero = None
best_read table rs ks t (suc n) =
    let c = best_read table rs ks t n in
    cond (eligible_at rs ks table_frame t n && reads_before table rs ks n c) (Some n) c

abbrev pub choose_read : List ℕ → List ℕ → List ℕ → ℕ → Option ℕ
choose_read table rs ks t = best_read table rs ks t (flows_of rs)

-- "for all rates to 64, counts to the rate and slots to 63". The counts may be any: a flow whose count is its rate, or above
-- it, is not eligible before slot 64.
pub record InTable (rs : List ℕ) (t : ℕ) : Type 0 where
  pub rates : (f : ℕ) → f < flows_of rs → rate_at rs f ≤ table_frame
  pub slots : t < table_frame

-- "With T = 64 the choice reads the table and agrees with the formula choice"
abbrev pub Agrees : List ℕ → Type 0
Agrees table = (rs ks : List ℕ) (t : ℕ) → InTable rs t → choose_read table rs ks t ≡ choose_of rs ks table_frame t
