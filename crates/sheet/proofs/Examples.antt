-- The scope's plan from a text, refused texts, and arguments, computed by the definitions.
use mathlib.Core.List.{[], ◌∷◌}
use mathlib.Core.Path.{◌≡◌, refl}
use Rattle.refusal.specs.declared.Refusal.TheVariants.{PortsOutOfRange, FrameOutOfRange, NotPlanText}
use Rattle.std.specs.Prelude.{Ok, Err}
use Rattle.plan.specs.Lines.{row_sum, column_sum}
use Rattle.plan.specs.Range.{ports_in_range, frame_in_range}
use Rattle.plan.specs.Accept.{accept_of}
use Rattle.planfile.specs.Write.{head_of, rate_bytes, file_of}
use Rattle.plantext.specs.Bytes.{is_digit}
use Rattle.plantext.specs.Values.{skip, digits_from, number, field, series, ends, values_of}
use Rattle.plantext.specs.Read.{verdict_of, read_text_of}
use Rattle.plantext.proofs.Ascii.{ascii}
use Rattle.std.specs.Prelude.{None, Some}
use Rattle.sheet.specs.Argument.{largest_number, number_from, argument_of}
use Rattle.sheet.specs.Sheet.{sheet_of}

-- "4C 53 50 01 00 02 02 00 01 00 01 00 01 00 00 00 (hexadecimal)"
scope_plan : sheet_of 2 2 (ascii "1,1\r\n1,0\r\n")
    ≡ Ok (record { items = 0x4c ∷ 0x53 ∷ 0x50 ∷ 0x01 ∷ 0x00 ∷ 0x02 ∷ 0x02 ∷ 0x00 ∷ 0x01 ∷ 0x00 ∷ 0x01 ∷ 0x00 ∷ 0x01 ∷ 0x00 ∷ 0x00 ∷ 0x00 ∷ [] })
unfolding sheet_of read_text_of verdict_of skip digits_from number field series ends values_of is_digit ports_in_range frame_in_range accept_of row_sum column_sum file_of head_of rate_bytes
scope_plan = refl

refused :
    (sheet_of 17 2 [] ≡ Err PortsOutOfRange)
    × (sheet_of 2 0 [] ≡ Err FrameOutOfRange)
    × (sheet_of 2 2 (ascii "1,1\n1,0\n") ≡ Err NotPlanText)
unfolding sheet_of read_text_of verdict_of skip digits_from number field series ends values_of is_digit ports_in_range frame_in_range
refused = (refl, refl, refl)

arguments :
    (argument_of (ascii "15") ≡ Some 15)
    × (argument_of (ascii "0003") ≡ Some 3)
    × (argument_of (ascii "99999999999999999999") ≡ Some largest_number)
    × (argument_of [] ≡ None)
    × (argument_of (ascii "x") ≡ None)
    × (argument_of (ascii "-1") ≡ None)
    × (argument_of (ascii " 3") ≡ None)
    × (argument_of (ascii "3.0") ≡ None)
unfolding argument_of number_from is_digit
arguments = (refl, refl, refl, refl, refl, refl, refl, refl)
