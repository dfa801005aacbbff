-- For the code, which lends a row of the list of values to each record: what one record more makes of the rules, and of the list.
use Prim.Native.Nat.{ℕ, ◌+◌, ◌*◌, ◌-◌, ◌<◌}
use mathlib.Core.Path.{◌≡◌, ◌∙◌}
use mathlib.Core.List.{List, []}
use native.Mathlib.Omega.{arith}
use borrow.Rule.Slice.PartMut.{put_mid}
use lib.ListN.{length, take}
use Rattle.std.specs.Prelude.{None}
use Rattle.std.specs.List.{between}
use Rattle.std.proofs.lemmas.List.Edits.{length-between}
use Rattle.std.proofs.lemmas.Slice.{take-put_mid}
use Rattle.plan.proofs.LineLaws.{row_within}
use Rattle.plantext.specs.Bytes.{line_end}
use Rattle.plantext.specs.Values.{parsed, skip, before, series, record_of, records_of}
use Rattle.plantext.proofs.SeriesLaws.{series_next, no_item}

-- k of n records are taken, and their values stand in the first k rows.
module _ (n : ℕ) (text list rest left : List ℕ) (k : ℕ) (taken : series (record_of n) line_end k text ≡ parsed (take (k * n) list) rest)
    (below : k < n) (square : length list ≡ n * n) (marked : parsed [] left ≡ skip (before line_end k) rest) where
  row_size : length (between (k * n) (k * n + n) list) ≡ n
  row_size =
      let within = row_within k n n below in
      omega (arith, length-between list (k * n) (k * n + n) (omega arith))

  pub record_next : (row end : List ℕ) → length row ≡ length (between (k * n) (k * n + n) list) → parsed row end ≡ record_of (length (between (k * n) (k * n + n) list)) left
      → series (record_of n) line_end (k + 1) text ≡ parsed (take ((k + 1) * n) (put_mid (k * n) (k * n + n - k * n) list row)) end
  record_next row end size one_more =
      let within = row_within k n n below in
      let whole : length row ≡ n = size ∙ row_size in
      rw (take-put_mid (k * n) (k * n + n - k * n) list row ((k + 1) * n) (omega arith) (omega arith))
      (series_next (record_of n) line_end text k (take (k * n) list) rest taken left row end marked (rw row_size at one_more))

  pub no_record : None ≡ record_of (length (between (k * n) (k * n + n) list)) left → None ≡ records_of n text
  no_record one_more = no_item (record_of n) line_end text k (take (k * n) list) rest taken n left below marked (rw row_size at one_more)
