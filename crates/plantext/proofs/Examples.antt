-- The forms of the request and each of its rules broken once, computed by the definition; the order of the refusals.
use Prim.Native.Nat.{ℕ}
use Prim.Native.String.{String}
use native.Mathlib.Omega.{arith}
use mathlib.Core.Path.{◌≡◌, refl}
use mathlib.Core.List.{List, [], ◌∷◌}
use lib.ListN.{length}
use Rattle.std.specs.Prelude.{Option, None, Some}
use Rattle.refusal.specs.Outcome.{outcome}
use Rattle.refusal.specs.declared.Refusal.TheVariants.{PortsOutOfRange, FrameOutOfRange, ListLength, RowAboveFrame, ColumnAboveFrame, NotPlanText}
use Rattle.std.specs.Prelude.{Ok, Err}
use Rattle.plan.specs.Lines.{row_sum, column_sum}
use Rattle.plan.specs.Range.{ports_in_range, frame_in_range}
use Rattle.plan.specs.Accept.{accept_of}
use Rattle.plantext.specs.Bytes.{is_digit}
use Rattle.plantext.specs.Grammar.{Text}
use Rattle.plantext.specs.Values.{skip, digits_from, number, field, series, ends, values_of}
use Rattle.plantext.specs.Read.{verdict_of, read_text_of, longest_text, most_text}
use Rattle.plantext.proofs.TextLaws.{same_rules}
use Rattle.plantext.proofs.Ascii.{ascii}

-- the values of a text for two ports
abbrev values : String → Option (List ℕ)
values text = values_of 2 (ascii text)

-- plain and quoted, leading zeros, the largest value, the last record with CR LF and without
forms :
    (values "1,2\r\n3,4\r\n" ≡ Some (1 ∷ 2 ∷ 3 ∷ 4 ∷ []))
    × (values "1,2\r\n3,4" ≡ Some (1 ∷ 2 ∷ 3 ∷ 4 ∷ []))
    × (values "\"1\",2\r\n3,\"4\"\r\n" ≡ Some (1 ∷ 2 ∷ 3 ∷ 4 ∷ []))
    × (values "00001,\"00002\"\r\n65535,0" ≡ Some (1 ∷ 2 ∷ 65535 ∷ 0 ∷ []))
    × (values_of 1 (ascii "0") ≡ Some (0 ∷ []))
unfolding skip digits_from number field series ends values_of is_digit
forms = (refl, refl, refl, refl, refl)

other_bytes :
    (values "1, 2\r\n3,4\r\n" ≡ None)
    × (values "1,2\n3,4\n" ≡ None)
    × (values "1,2\r3,4\r" ≡ None)
    × (values_of 2 (0xEF ∷ 0xBB ∷ 0xBF ∷ ascii "1,2\r\n3,4\r\n") ≡ None)
    × (values "1,+2\r\n3,4\r\n" ≡ None)
    × (values "1,-2\r\n3,4\r\n" ≡ None)
    × (values "1,2x\r\n3,4\r\n" ≡ None)
    × (values "1;2\r\n3;4\r\n" ≡ None)
unfolding skip digits_from number field series ends values_of is_digit
other_bytes = (refl, refl, refl, refl, refl, refl, refl, refl)

quotes :
    (values "1,2\"3\r\n4,5\r\n" ≡ None)
    × (values "1,\"2\"\"3\"\r\n4,5\r\n" ≡ None)
    × (values "1,\"2\r\n3,4\r\n" ≡ None)
    × (values "1,2\"\r\n3,4\r\n" ≡ None)
    × (values "1,\"2\"3\r\n4,5\r\n" ≡ None)
unfolding skip digits_from number field series ends values_of is_digit
quotes = (refl, refl, refl, refl, refl)

empty_fields :
    (values ",2\r\n3,4\r\n" ≡ None)
    × (values "1,\"\"\r\n3,4\r\n" ≡ None)
    × (values "1,2,\r\n3,4\r\n" ≡ None)
    × (values "1,\r\n3,4\r\n" ≡ None)
unfolding skip digits_from number field series ends values_of is_digit
empty_fields = (refl, refl, refl, refl)

numbers_too_long :
    (values "000001,2\r\n3,4\r\n" ≡ None)
    × (values "\"000001\",2\r\n3,4\r\n" ≡ None)
    × (values "65536,2\r\n3,4\r\n" ≡ None)
    × (values "99999,2\r\n3,4\r\n" ≡ None)
unfolding skip digits_from number field series ends values_of is_digit
numbers_too_long = (refl, refl, refl, refl)

-- an empty line at the beginning, between two records and at the end; a record and a field less and more; no text
counts :
    (values "\r\n1,2\r\n3,4\r\n" ≡ None)
    × (values "1,2\r\n\r\n3,4\r\n" ≡ None)
    × (values "1,2\r\n3,4\r\n\r\n" ≡ None)
    × (values "1,2\r\n" ≡ None)
    × (values "1,2\r\n3,4\r\n5,6\r\n" ≡ None)
    × (values "1\r\n3,4\r\n" ≡ None)
    × (values "1,2,3\r\n3,4\r\n" ≡ None)
    × (values "" ≡ None)
    × (values_of 1 [] ≡ None)
unfolding skip digits_from number field series ends values_of is_digit
counts = (refl, refl, refl, refl, refl, refl, refl, refl, refl)

-- a text as long as one for its ports can be, and the length for 16 ports
longest :
    (values_of 1 (ascii "\"00001\"\r\n") ≡ Some (1 ∷ []))
    × (length (ascii "\"00001\"\r\n") ≡ longest_text 1)
    × (most_text ≡ 2064)
unfolding skip digits_from number field series ends values_of is_digit
longest = (refl, refl, refl)

-- the grammar has a text exactly if the function reads it
in_grammar : Text 2 (ascii "1,\"2\"\r\n3,4") (1 ∷ 2 ∷ 3 ∷ 4 ∷ [])
unfolding skip digits_from number field series ends values_of is_digit
in_grammar = (same_rules 2 _ _ (omega arith)).0 refl

not_in_grammar : (read : List ℕ) → Text 2 (ascii "1,2\n3,4") read → ⊥
unfolding skip digits_from number field series ends values_of is_digit
not_in_grammar read h =
    let e : None ≡ Some read = (same_rules 2 (ascii "1,2\n3,4") read (omega arith)).1 h in
    cc

-- the lent list before the call
abbrev before : List ℕ
before = 9 ∷ 9 ∷ 9 ∷ 9 ∷ []

-- 1, 2, 3, 16, 4, 5: each call but the first has right what the one before had wrong; the list is written at last
order :
    (read_text_of 17 0 [] [] ≡ outcome (Err PortsOutOfRange) [])
    × (read_text_of 2 0 [] [] ≡ outcome (Err FrameOutOfRange) [])
    × (read_text_of 2 3 [] [] ≡ outcome (Err ListLength) [])
    × (read_text_of 2 3 (ascii "3,1\r\n1,3\n") before ≡ outcome (Err NotPlanText) before)
    × (read_text_of 2 3 (ascii "3,1\r\n1,3\r\n") before ≡ outcome (Err RowAboveFrame) before)
    × (read_text_of 2 3 (ascii "2,1\r\n2,1\r\n") before ≡ outcome (Err ColumnAboveFrame) before)
    × (read_text_of 2 3 (ascii "2,1\r\n1,2\r\n") before ≡ outcome (Ok tt) (2 ∷ 1 ∷ 1 ∷ 2 ∷ []))
unfolding read_text_of verdict_of skip digits_from number field series ends values_of is_digit ports_in_range frame_in_range accept_of row_sum column_sum
order = (refl, refl, refl, refl, refl, refl, refl)
