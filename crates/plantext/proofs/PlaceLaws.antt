-- What is left of a text from a place on, and what a byte at that place makes of the digits.
use Prim.Native.Nat.{ℕ, suc, ◌+◌, ◌*◌, ◌-◌, ◌<◌, ◌≤◌}
use mathlib.Core.Path.{◌≡◌, refl, ap, sym, ◌∙◌}
use mathlib.Core.Bool.{true, false}
use mathlib.Core.List.{List, [], ◌∷◌}
use native.Mathlib.Numerals.{add-one}
use native.Mathlib.Omega.{arith}
use lib.ListN.{length, get_or, drop, drop_of_length-le}
use lib.Seq.{drop-cons}
use Rattle.plantext.specs.Bytes.{is_digit, digit_of}
use Rattle.plantext.specs.Values.{digits_from}
use Rattle.plantext.proofs.RuleLaws.{NoDigit}

module _ (text : List ℕ) (at : ℕ) where
  pub left_none : length text ≤ at → drop at text ≡ []
  left_none h = drop_of_length-le text {i = at} h

  pub left_some : at < length text → drop at text ≡ get_or text at 0 ∷ drop (at + 1) text
  left_some h = drop-cons text at 0 h ∙ ap (λ (p : ℕ). get_or text at 0 ∷ drop p text) (sym (add-one at))

  pub no_digit_past : length text ≤ at → NoDigit (drop at text)
  no_digit_past h = rw (left_none h) tt

  pub no_digit_here : at < length text → is_digit (get_or text at 0) ≡ false → NoDigit (drop at text)
  no_digit_here h e = rw (left_some h) e

  -- one digit more is taken
  pub digit_taken : (count value : ℕ) → count < 5 → at < length text → is_digit (get_or text at 0) ≡ true
      → digits_from (5 - count) count value (drop at text) ≡ digits_from (5 - (count + 1)) (count + 1) (value * 10 + digit_of (get_or text at 0)) (drop (at + 1) text)
  unfolding digits_from
  digit_taken count value few h e =
      let room : 5 - count ≡ suc (5 - (count + 1)) = omega arith in
      rw (room, left_some h, e, add-one count) refl
