-- A number on the command line, read digit by digit.
use Prim.Native.Nat.{ℕ, ◌+◌, ◌*◌, ◌<◌, ◌≤◌, min}
use mathlib.Core.Path.{◌≡◌, refl}
use mathlib.Core.Bool.{true, false}
use mathlib.Core.List.{List, [], ◌∷◌}
use Rattle.std.specs.Prelude.{None, Some}
use native.Mathlib.Omega.{arith}
use lib.ListN.{length, get_or, drop}
use Rattle.plantext.specs.Bytes.{is_digit, digit_of}
use Rattle.plantext.proofs.PlaceLaws.{left_none, left_some}
use Rattle.sheet.specs.Argument.{largest_number, number_from, argument_of}

pub argument_none : (text : List ℕ) → length text ≡ 0 → argument_of text ≡ None
unfolding argument_of
argument_none [] e = refl
argument_none (b ∷ text) e = absurd (omega arith)

pub argument_some : (text : List ℕ) → 0 < length text → argument_of text ≡ number_from 0 text
unfolding argument_of
argument_some [] some = absurd (omega arith)
argument_some (b ∷ text) some = refl

module _ (text : List ℕ) (p value : ℕ) where
  pub number_next : p < length text → is_digit (get_or text p 0) ≡ true → number_from value (drop p text) ≡ number_from (min (value * 10 + digit_of (get_or text p 0)) largest_number) (drop (p + 1) text)
  unfolding number_from
  number_next h e = rw (left_some text p h, e) refl

  pub number_stops : p < length text → is_digit (get_or text p 0) ≡ false → number_from value (drop p text) ≡ None
  unfolding number_from
  number_stops h e = rw (left_some text p h, e) refl

  pub number_ends : length text ≤ p → number_from value (drop p text) ≡ Some value
  unfolding number_from
  number_ends h = rw (left_none text p h) refl
