-- A text that is written piece by piece; how long the line of a refusal can be, and what may stand in its place.
use Prim.Native.Nat.{ℕ, ◌+◌, ◌≤◌}
use mathlib.Core.List.{List, [], ◌++◌, append_assoc, append-nil}
use mathlib.Core.Path.{◌≡◌, refl, ap, sym, ◌∙◌}
use native.Mathlib.Omega.{arith}
use lib.ListN.{length, length-append}
use Rattle.refusal.specs.Chain.{if_accepted}
use Rattle.refusal.specs.Number.{verdict_number_of}
use Rattle.refusal.specs.Verdict.{Verdict}
use Rattle.std.specs.Prelude.{Ok, Err}
use Rattle.console.specs.Refused.{refusal_line_of, refusal_room}
use Rattle.console.proofs.DigitLaws.{digits_within}

pub refusal_short : (v : Verdict) → length (refusal_line_of v) ≤ refusal_room
unfolding refusal_line_of
refusal_short v = simp length-append (omega (arith, digits_within 20 (verdict_number_of v)))

-- one text where a call was accepted, and another where it was refused
pub either_short : (k : ℕ) (v : Verdict) (x y : List ℕ) → (v ≡ Ok tt → length x ≤ k) → length y ≤ k → length (if_accepted v x y) ≤ k
either_short k (Ok _) x y hx hy = hx refl
either_short k (Err r) x y hx hy = hy

-- one text put behind another, and then one more
pub put_on : (now x y : List ℕ) {mid after : List ℕ} → mid ≡ now ++ x → after ≡ mid ++ y → after ≡ now ++ (x ++ y)
put_on now x y first next = rw (next, first) (append_assoc now x y)

pub put_sizes : {text : List ℕ} (x y : List ℕ) → text ≡ x ++ y → length text ≡ length x + length y
put_sizes x y e = ap length e ∙ length-append x y

-- `text` is being put behind `before`: its beginning stands there, in `now`, and `rest` is left.
pub record Begun (before text now rest : List ℕ) : Type 0 where
  pub split : now ++ rest ≡ before ++ text

pub begun_start : (before : List ℕ) {text rest : List ℕ} → rest ≡ text → Begun before text before rest
begun_start before e = record { split = ap (λ (l : List ℕ). before ++ l) e }

module _ {before text now rest : List ℕ} (b : Begun before text now rest) where
  -- a line of the rest is put
  pub begun_next : (line : List ℕ) {left next : List ℕ} → rest ≡ line ++ left → next ≡ now ++ line → Begun before text next left
  begun_next line {left} e put = record { split = rw (put, append_assoc now line left, ← e) b.split }

  -- all of the rest is put
  pub begun_last : {last next : List ℕ} → rest ≡ last → next ≡ now ++ last → next ≡ before ++ text
  begun_last e put = rw (put, ← e) b.split

  pub begun_end : rest ≡ [] → now ≡ before ++ text
  begun_end e = begun_last e (sym (append-nil now))

  -- where there is room for the whole, there is room for the rest, and for a line of it
  pub begun_room : {last : List ℕ} → rest ≡ last → length now + length last ≡ length before + length text
  begun_room e = rw (← e) (sym (length-append now rest) ∙ ap length b.split ∙ length-append before text)

  pub begun_room_next : (line left : List ℕ) → rest ≡ line ++ left → length now + length line ≤ length before + length text
  begun_room_next line left e = omega (arith, begun_room e, length-append line left)
