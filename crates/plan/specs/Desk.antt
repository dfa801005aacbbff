-- The desk view: "takes a running and a waiting list, N, i and whether the waiting one takes over, and
-- answers that row as a part of the caller's list that rules the coming slot. If N or i is out of range or
-- either list isn't N × N long, the empty part is the answer, with no number."
use Rattle.std.specs.Prelude.{ℕ, ◌*◌, Bool, cond, ◌&&◌, List, [], length, take, drop, ltb, eqb}
use Rattle.plan.specs.Range.{ports_in_range}

-- "One input's rates are the N numbers that begin at place i × N of the list."
abbrev pub row_of : List ℕ → ℕ → ℕ → List ℕ
row_of rates n i = take n (drop (i * n) rates)

-- N and i are in range, and lists of these two lengths are N × N long
unfoldable pub has_row : ℕ → ℕ → ℕ → ℕ → Bool
has_row n i running waiting = ports_in_range n && ltb i n && eqb running (n * n) && eqb waiting (n * n)

unfoldable pub desk_of : List ℕ → List ℕ → ℕ → ℕ → Bool → List ℕ
desk_of running waiting n i takeover = cond (has_row n i (length running) (length waiting)) (row_of (cond takeover waiting running) n i) []
