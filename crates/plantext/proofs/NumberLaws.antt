-- Numbers in a text: the digits that the function takes are those of the grammar, and their value is the same.
use Prim.Native.Nat.{ℕ, zero, suc, ◌+◌, ◌*◌, ◌-◌, ◌<◌, ◌≤◌}
use mathlib.Core.Path.{◌≡◌, refl, ap, subst, ◌∙◌}
use mathlib.Core.Bool.{Bool, true, false, ◌&&◌}
use mathlib.Core.List.{List, [], ◌∷◌, ◌++◌, append_assoc, append-nil}
use native.Mathlib.Omega.{arith}
use lib.Dec.{leb}
use lib.ListN.{length, length-append}
use borrow.Author.Tests.{leb-true, le-leb}
use Rattle.std.proofs.lemmas.Option.{some_pair_parts}
use Rattle.plan.proofs.BelowLaws.{and_true}
use Rattle.plantext.specs.Bytes.{digit, is_digit, digit_of}
use Rattle.plantext.specs.Grammar.{Digits, none, next, Number}
use Rattle.plantext.specs.Grammar as grammar
use Rattle.plantext.specs.Values.{parsed, Run, digits_from, checked_run, number}
use Rattle.plantext.proofs.RuleLaws.{Taken, Sound, NoDigit, Complete, never}

-- the byte of a digit, and the digit of a byte
pub byte_of_digit : (b : ℕ) → is_digit b ≡ true → (digit_of b < 10) × (digit (digit_of b) ≡ b)
unfolding is_digit
byte_of_digit b e =
    let both = and_true (leb 48 b) (leb b 57) e in
    (omega (arith, leb-true 48 b both.0, leb-true b 57 both.1), omega (arith, leb-true 48 b both.0))

digit_of_byte : (d : ℕ) → d < 10 → (is_digit (digit d) ≡ true) × (digit_of (digit d) ≡ d)
unfolding is_digit
digit_of_byte d h = (simp (le-leb 48 (48 + d) (omega arith), le-leb (48 + d) 57 (omega arith)), omega arith)

-- digits whose last one is given by its byte
next_byte : {text : List ℕ} {value : ℕ} (b : ℕ) → Digits text value → is_digit b ≡ true → Digits (text ++ (b ∷ [])) (value * 10 + digit_of b)
next_byte {text} {value} b digits e =
    let known = byte_of_digit b e in
    subst (λ (c : ℕ). Digits (text ++ (c ∷ [])) (value * 10 + digit_of b)) known.1 (next digits known.0)

-- Digits that were taken from a text behind others.
record Spelled (front text : List ℕ) (run : Run) : Type 0 where
  piece : List ℕ
  split : text ≡ piece ++ run.rest
  digits : Digits (front ++ piece) run.value
  size : length (front ++ piece) ≡ run.count

spelled_none : {count value : ℕ} {front text : List ℕ} → Digits front value → length front ≡ count → Spelled front text (record { count = count; value = value; rest = text })
spelled_none digits size = record { piece = []; split = refl; digits = rw append-nil digits; size = rw append-nil size }

spelled_next : {front text : List ℕ} {run : Run} (b : ℕ) → Spelled (front ++ (b ∷ [])) text run → Spelled front (b ∷ text) run
spelled_next {front} b later =
    record {
      piece = b ∷ later.piece;
      split = ap (λ (l : List ℕ). b ∷ l) later.split;
      digits = rw append_assoc at later.digits;
      size = rw append_assoc at later.size;
    }

-- what holds if the next byte is a digit that is taken, and if it is none, holds of the run
digits_case : (P : Run → Type 0) (room count value b : ℕ) (text : List ℕ) → (is_digit b ≡ true → P (digits_from room (suc count) (value * 10 + digit_of b) text))
    → (is_digit b ≡ false → P (record { count = count; value = value; rest = b ∷ text })) → P (digits_from (suc room) count value (b ∷ text))
unfolding digits_from
digits_case P room count value b text taken left = go (is_digit b) refl
  where
    go : (is : Bool) → is_digit b ≡ is → P (digits_from (suc room) count value (b ∷ text))
    go true e = rw e (taken e)
    go false e = rw e (left e)

spelled : (room count value : ℕ) (front text : List ℕ) → Digits front value → length front ≡ count → Spelled front text (digits_from room count value text)
unfolding digits_from
spelled zero count value front text digits size = spelled_none digits size
spelled (suc room) count value front [] digits size = spelled_none digits size
spelled (suc room) count value front (b ∷ text) digits size =
    digits_case (Spelled front (b ∷ text)) room count value b text
    (λ e. spelled_next b (spelled room (suc count) _ (front ++ (b ∷ [])) text (next_byte b digits e) (simp length-append (omega arith))))
    (λ _. spelled_none digits size)

-- no more digits are taken than there is room for
few_digits : (room count value : ℕ) (text : List ℕ) → (digits_from room count value text).count ≤ count + room
unfolding digits_from
few_digits zero count value text = omega arith
few_digits (suc room) count value [] = omega arith
few_digits (suc room) count value (b ∷ text) =
    digits_case (λ run. run.count ≤ count + suc room) room count value b text
    (λ _. omega (arith, few_digits room (suc count) (value * 10 + digit_of b) text))
    (λ _. omega arith)

-- a run that passes the tests is a number
checked : (run : Run) (text values rest : List ℕ) → Spelled [] text run → run.count ≤ 5 → checked_run run ≡ parsed values rest → Taken Number text values rest
checked run text values rest s few e = go (leb 1 run.count && leb run.value 65535) refl
  where
    go : (is : Bool) → (leb 1 run.count && leb run.value 65535) ≡ is → Taken Number text values rest
    go true h =
        let tests = and_true (leb 1 run.count) (leb run.value 65535) h in
        let some = leb-true 1 run.count tests.0 in
        let small = leb-true run.value 65535 tests.1 in
        let same = some_pair_parts (run.value ∷ []) values run.rest rest (rw h at e) in
        record {
          piece = s.piece;
          split = s.split ∙ ap (λ (l : List ℕ). s.piece ++ l) same.1;
          holds = subst (Number s.piece) same.0 (grammar.number s.digits (omega (arith, s.size)) (omega (arith, s.size)) small);
        }
    go false h = absurd (never (rw h at e))

pub number_sound : Sound number Number
unfolding number
number_sound text values rest e = checked (digits_from 5 0 0 text) text values rest (spelled 5 0 0 [] text none refl) (few_digits 5 0 0 text) e

-- Digits at the beginning of a text are taken, if there is room for them ..
all_taken : {piece : List ℕ} {value : ℕ} → Digits piece value → (left : ℕ) (rest : List ℕ)
    → digits_from (length piece + left) 0 0 (piece ++ rest) ≡ digits_from left (length piece) value rest
unfolding digits_from
all_taken none left rest = let room : 0 + left ≡ left = omega arith in rw room refl
all_taken (next {text = text} {value = value} {d = d} digits h) left rest =
    let is = digit_of_byte d h in
    let size : length (text ++ (digit d ∷ [])) ≡ suc (length text) = simp length-append (omega arith) in
    let room : length (text ++ (digit d ∷ [])) + left ≡ length text + suc left = omega (arith, size) in
    rw (room, append_assoc, all_taken digits (suc left) (digit d ∷ rest), is.0, is.1, size) refl

-- .. and no more, where no other follows.
pub none_taken : (room count value : ℕ) (rest : List ℕ) → NoDigit rest → digits_from room count value rest ≡ record { count = count; value = value; rest = rest }
unfolding digits_from
none_taken zero count value rest clear = refl
none_taken (suc room) count value [] clear = refl
none_taken (suc room) count value (b ∷ rest) clear = rw clear refl

pub number_complete : Complete number Number
unfolding number
number_complete piece values rest (grammar.number {text = text} {value = value} digits some few small) clear =
    let room : 5 ≡ length text + (5 - length text) = omega arith in
    let run : digits_from 5 0 0 (text ++ rest) ≡ record { count = length text; value = value; rest = rest } =
    ap (λ (k : ℕ). digits_from k 0 0 (text ++ rest)) room ∙ all_taken digits (5 - length text) rest ∙ none_taken (5 - length text) (length text) value rest clear in
    rw (run, le-leb 1 (length text) some, le-leb value 65535 small) refl
