-- The scope's file, read and written, and files for each refusal, computed by the definitions.
use Prim.Native.Nat.{ℕ}
use mathlib.Core.Path.{◌≡◌, refl}
use mathlib.Core.List.{List, [], ◌∷◌}
use Rattle.refusal.specs.declared.Refusal.TheVariants.{PortsOutOfRange, FrameOutOfRange, RowAboveFrame, ColumnAboveFrame, NotPlanFile, FileLength}
use Rattle.std.specs.Prelude.{Ok, Err}
use Rattle.plan.specs.Lines.{row_sum, column_sum}
use Rattle.plan.specs.Range.{ports_in_range, frame_in_range}
use Rattle.plan.specs.Accept.{accept_of}
use Rattle.planfile.specs.Layout.{is_marked, rates_of, padded_to}
use Rattle.planfile.specs.Read.{verdict_of, plan_of, read_of}
use Rattle.planfile.specs.Write.{head_of, rate_bytes, file_of}

-- "4C 53 50 01 00 02 02 00 01 00 01 00 01 00 00 00 (hexadecimal)"
scope_file_lem : read_of (76 ∷ 83 ∷ 80 ∷ 1 ∷ 0 ∷ 2 ∷ 2 ∷ 0 ∷ 1 ∷ 0 ∷ 1 ∷ 0 ∷ 1 ∷ 0 ∷ 0 ∷ 0 ∷ []) ≡ Ok (plan_of 2 2 (1 ∷ 1 ∷ 1 ∷ 0 ∷ []))
unfolding read_of verdict_of is_marked rates_of padded_to ports_in_range frame_in_range accept_of row_sum column_sum
scope_file_lem = refl

scope_file_written : file_of 2 2 (1 ∷ 1 ∷ 1 ∷ 0 ∷ []) ≡ 76 ∷ 83 ∷ 80 ∷ 1 ∷ 0 ∷ 2 ∷ 2 ∷ 0 ∷ 1 ∷ 0 ∷ 1 ∷ 0 ∷ 1 ∷ 0 ∷ 0 ∷ 0 ∷ []
unfolding file_of head_of rate_bytes
scope_file_written = refl

-- T and rates above 255 have a high byte
high_bytes : file_of 1 772 (258 ∷ []) ≡ 76 ∷ 83 ∷ 80 ∷ 1 ∷ 0 ∷ 1 ∷ 4 ∷ 3 ∷ 2 ∷ 1 ∷ []
unfolding file_of head_of rate_bytes
high_bytes = refl

-- a file of version, N and T, where these are below 256
abbrev file : ℕ → ℕ → ℕ → List ℕ → List ℕ
file version n t rates = 76 ∷ 83 ∷ 80 ∷ version ∷ 0 ∷ n ∷ t ∷ 0 ∷ rates

-- the order of the refusals, with the scope's small examples: each file but the first two has right what the one before had wrong
refused_files :
    (verdict_of [] ≡ Err FileLength)
    × (verdict_of (0 ∷ 0 ∷ 0 ∷ 0 ∷ 0 ∷ 0 ∷ 0 ∷ []) ≡ Err FileLength)
    × (verdict_of (0 ∷ 0 ∷ 0 ∷ 0 ∷ 0 ∷ 0 ∷ 0 ∷ 0 ∷ []) ≡ Err NotPlanFile)
    × (verdict_of (file 2 17 0 []) ≡ Err NotPlanFile)
    × (verdict_of (file 1 17 0 []) ≡ Err PortsOutOfRange)
    × (verdict_of (file 1 2 0 []) ≡ Err FrameOutOfRange)
    × (verdict_of (file 1 2 3 []) ≡ Err FileLength)
    × (verdict_of (file 1 2 3 (2 ∷ 0 ∷ 2 ∷ 0 ∷ 2 ∷ 0 ∷ 0 ∷ 0 ∷ [])) ≡ Err RowAboveFrame)
    × (verdict_of (file 1 2 3 (2 ∷ 0 ∷ 0 ∷ 0 ∷ 2 ∷ 0 ∷ 0 ∷ 0 ∷ [])) ≡ Err ColumnAboveFrame)
unfolding verdict_of is_marked rates_of ports_in_range frame_in_range accept_of row_sum column_sum
refused_files = (refl, refl, refl, refl, refl, refl, refl, refl, refl)
