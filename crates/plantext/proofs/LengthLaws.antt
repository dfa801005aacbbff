-- How long a text of the grammar can be, and how many values it has.
use Prim.Native.Nat.{ℕ, zero, suc, ◌+◌, ◌*◌, ◌-◌, ◌≤◌}
use mathlib.Core.Path.{◌≡◌, refl}
use mathlib.Core.List.{List}
use native.Mathlib.Omega.{arith}
use lib.ListN.{length, length-append}
use Rattle.plantext.specs.Bytes.{comma, line_end}
use Rattle.plantext.specs.Grammar.{Number, number, Field, plain, quoted, Series, one, more, Record, Records, Text, unended, ended}
use Rattle.plantext.specs.Read.{longest_text}

number_short : (text values : List ℕ) → Number text values → length text ≤ 5
number_short text values (number digits some few small) = few

field_short : (text values : List ℕ) → Field text values → length text ≤ 7
field_short text values (plain {text = digits} {values = one_value} h) = omega (arith, number_short digits one_value h)
field_short text values (quoted {text = digits} {values = one_value} h) = simp length-append (omega (arith, number_short digits one_value h))

number_counted : (text values : List ℕ) → Number text values → length values ≡ 1
number_counted text values (number digits some few small) = refl

field_counted : (text values : List ℕ) → Field text values → length values ≡ 1
field_counted text values (plain h) = number_counted _ values h
field_counted text values (quoted h) = number_counted _ values h

-- a series of items of at most so many bytes, with so many values each
module _ (Item : List ℕ → List ℕ → Type 0) (mark : List ℕ) where
  series_short : (size : ℕ) → ((text values : List ℕ) → Item text values → length text ≤ size)
      → (k : ℕ) (text values : List ℕ) → Series Item mark k text values → length text + length mark ≤ k * (size + length mark)
  series_short size short k text values (one h) = omega (arith, short text values h)
  series_short size short k text values (more {k = j} {text = early} {values = some_values} {last = last} {new = new} s h) =
      simp length-append (omega (arith, series_short size short j early some_values s, short last new h))

  series_counted : (count : ℕ) → ((text values : List ℕ) → Item text values → length values ≡ count)
      → (k : ℕ) (text values : List ℕ) → Series Item mark k text values → length values ≡ k * count
  series_counted count counted k text values (one h) = omega (arith, counted text values h)
  series_counted count counted k text values (more {k = j} {text = early} {values = some_values} {last = last} {new = new} s h) =
      simp length-append (omega (arith, series_counted count counted j early some_values s, counted last new h))

record_short : (m : ℕ) (text values : List ℕ) → Record (suc m) text values → length text ≤ m * 8 + 7
record_short m text values h = omega (arith, series_short Field comma 7 field_short (suc m) text values h)

-- with room for one more CR LF
records_short : (n : ℕ) (text values : List ℕ) → Records n text values → length text + 2 ≤ longest_text n
records_short zero text values h = omega (arith, series_short (Record 0) line_end 0 (λ t v r. omega (arith, series_short Field comma 7 field_short 0 t v r)) 0 text values h)
records_short (suc m) text values h =
    let less : suc m - 1 ≡ m = omega arith in
    rw less (omega (arith, series_short (Record (suc m)) line_end (m * 8 + 7) (record_short m) (suc m) text values h))

pub text_short : (n : ℕ) (text values : List ℕ) → Text n text values → length text ≤ longest_text n
text_short n text values (unended h) = omega (arith, records_short n text values h)
text_short n text values (ended {text = lines} h) = simp length-append (omega (arith, records_short n lines values h))

records_counted : (n : ℕ) (text values : List ℕ) → Records n text values → length values ≡ n * n
records_counted n text values h =
    series_counted (Record n) line_end n (λ t v r. omega (arith, series_counted Field comma 1 field_counted n t v r)) n text values h

pub text_counted : (n : ℕ) (text values : List ℕ) → Text n text values → length values ≡ n * n
text_counted n text values (unended h) = records_counted n text values h
text_counted n text values (ended {text = lines} h) = records_counted n lines values h
