-- The parts of the printout by what the code finds out: which lengths count, which flows have a rate, what was measured and
-- what was read.
use Prim.Native.Nat.{ℕ, ◌*◌, ◌<◌, ◌≤◌}
use mathlib.Core.Bool.{true, false, cond}
use mathlib.Core.List.{List, []}
use mathlib.Core.Path.{◌≡◌, refl, ap, sym, ◌∙◌}
use native.Mathlib.Omega.{arith}
use lib.ListN.{length, get_or, take}
use borrow.Author.Tests.{lt-ltb, le-ltb}
use Rattle.refusal.specs.declared.Refusal.{Refusal}
use Rattle.std.specs.Prelude.{Result, Ok}
use Rattle.plan.specs.Desk.{desk_of}
use Rattle.plan.specs.Range.{most_ports, most_flows}
use Rattle.plan.specs.declared.Plan.{Plan}
use Rattle.planfile.specs.Read.{read_of}
use Rattle.planfile.proofs.CutLaws.{read_cut}
use Rattle.planpair.specs.Rates.{plan_rates}
use Rattle.multiplexer.specs.Window.{column_of}
use Rattle.multiplexer.proofs.PortLaws.{column_length}
use Rattle.side.specs.Columns.{transposed}
use Rattle.side.proofs.ColumnLaws.{desk_columns}
use Rattle.meter.specs.Answer.{Covers}
use Rattle.meter.specs.Cover.{most_record}
use Rattle.meter.specs.Search.{measured_of, cover_of}
use Rattle.meter.specs.declared.Measured.{Measured}
use Rattle.meter.proofs.AnswerLaws.{covers_accepted}
use Rattle.smoothness.specs.Head.{board_lines_of, rates_lines_of}
use Rattle.smoothness.specs.Input.{most_input}
use Rattle.smoothness.specs.Printout.{line_of, measured_in, stretches_of, counts, flow_lines_of, head_lines_of, printed_of, printout_of}
use Rattle.smoothness.proofs.StretchLaws.{length_at, length_within}

-- The lines of one flow: one for each length that counts.
module _ (recorded : List ℕ) (j i a T : ℕ) where
  abbrev pub stretch_line : ℕ → List ℕ
  stretch_line k = cond (counts (stretches_of T) k) (line_of j i a (length_at T k) T (measured_in (cover_of recorded i (length_at T k)))) []

  pub no_stretch : (k : ℕ) → counts (stretches_of T) k ≡ false → stretch_line k ≡ []
  no_stretch k e = rw e refl

  -- a record with a frame's slots or more is measured in each length
  pub length_measured : 1 ≤ T → T ≤ length recorded → length recorded ≤ most_record → (k : ℕ) (r : Result Measured Refusal) → Covers recorded i (length_at T k) r
      → r ≡ Ok (measured_of recorded i (length_at T k))
  length_measured some long short k r = covers_accepted recorded i (length_at T k) (omega (arith, length_within T k some)) short r

  pub measured_stretch : (k : ℕ) (m : Measured) → counts (stretches_of T) k ≡ true → Ok m ≡ cover_of recorded i (length_at T k)
      → stretch_line k ≡ line_of j i a (length_at T k) T m
  measured_stretch k m e is = rw e (ap (λ (r : Result Measured Refusal). line_of j i a (length_at T k) T (measured_in r)) (sym is))

-- The lines of one head: those of each flow with a rate above 0.
module _ (recorded rs : List ℕ) (j T i : ℕ) where
  pub no_rate : get_or rs i 0 ≡ 0 → board_lines_of recorded rs j T i ≡ []
  no_rate e = rw (le-ltb 0 (get_or rs i 0) (omega arith)) refl

  pub some_rate : (get_or rs i 0 ≡ 0 → ⊥) → board_lines_of recorded rs j T i ≡ flow_lines_of recorded j i (get_or rs i 0) T
  some_rate ne = rw (lt-ltb 0 (get_or rs i 0) (omega (arith, ne))) refl

-- The lines of a head of a plan, by its rates.
module _ (plan : Plan) (j : ℕ) where
  abbrev rates : List ℕ
  rates = plan_rates plan

  abbrev n : ℕ
  n = plan.ports

  pub head_by_rates : (column : List ℕ) → column ≡ column_of rates n j → head_lines_of plan j ≡ rates_lines_of column j plan.frame
  unfolding head_lines_of
  head_by_rates column e = rw (e, column_length) refl

  -- which the code reads as a row of the transposed rates
  pub head_column : (array turned column : List ℕ) → n ≤ most_ports → j < n → length array ≡ most_flows → turned ≡ transposed rates n array n
      → column ≡ desk_of (take (n * n) turned) (take (n * n) turned) n j false → column ≡ column_of rates n j
  head_column array turned column few below full is e = e ∙ rw is (desk_columns rates n array few full j below)

-- the printout, by what the reader answers
pub printed_by : (file : List ℕ) (r : Result Plan Refusal) → r ≡ read_of file → printout_of file ≡ printed_of r
unfolding printout_of
printed_by file r is = ap printed_of (sym is)

-- what the program reads of a file is enough
pub printout_cut : (file : List ℕ) → printout_of (take most_input file) ≡ printout_of file
unfolding printout_of
printout_cut file = rw (read_cut most_input file (omega arith)) refl
