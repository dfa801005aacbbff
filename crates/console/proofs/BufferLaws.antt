-- Text that is written into a lent buffer piece by piece, and room for it.
use Prim.Native.Nat.{ℕ, ◌+◌, ◌-◌, ◌≤◌}
use mathlib.Core.List.{List, [], ◌++◌, append_assoc, append-nil}
use mathlib.Core.Path.{◌≡◌, refl, ap, sym, subst, ◌∙◌}
use native.Mathlib.Omega.{arith}
use lib.ListN.{length, take, drop, length-append, length-drop, length-take, drop_of_length-le}
use lib.Seq.{take_all, take-length, take-append_seam, take-append-add, drop-append_seam, drop-append-add, drop-drop, length-take-le}
use Rattle.console.specs.Text.{HasRoom, Written}

pub nothing_written : (buffer : List ℕ) (at : ℕ) → Written buffer at [] buffer at
nothing_written buffer at = record { place = omega arith; bytes = sym (append-nil (take at buffer)); kept = refl }

pub written_as : {before x y after : List ℕ} {at r : ℕ} → Written before at x after r → x ≡ y → Written before at y after r
written_as {before} {after = after} {at = at} {r = r} w e = subst (λ (text : List ℕ). Written before at text after r) e w

pub room_as : {buffer x y : List ℕ} {at : ℕ} → HasRoom buffer at x → x ≡ y → HasRoom buffer at y
room_as {buffer} {at = at} room e = subst (HasRoom buffer at) e room

-- Room for one text and another behind it.
module _ {buffer : List ℕ} {at : ℕ} (x y : List ℕ) (room : HasRoom buffer at (x ++ y)) where
  pub room_first : HasRoom buffer at x
  room_first = omega (arith, length-append x y)

  pub room_next : {after : List ℕ} {r : ℕ} → Written buffer at x after r → length after ≡ length buffer → HasRoom after r y
  room_next w same = omega (arith, w.place, length-append x y)

-- what stands from a place on stands from each later one on
drop_later : (x y : List ℕ) (m k : ℕ) → drop m x ≡ drop m y → drop (m + k) x ≡ drop (m + k) y
drop_later x y m k e = sym (drop-drop k m x) ∙ ap (drop k) e ∙ drop-drop k m y

-- one text, and another behind it
pub written_on : {before mid after x y : List ℕ} {at m r : ℕ} → Written before at x mid m → Written mid m y after r → Written before at (x ++ y) after r
written_on {before} {mid} {after} {x} {y} {at} {m} {r} v w =
    record {
      place = simp length-append (omega (arith, v.place, w.place));
      bytes = w.bytes ∙ ap (λ (l : List ℕ). l ++ y) v.bytes ∙ append_assoc (take at before) x y;
      kept = w.kept ∙ rw w.place (drop_later mid before m (length y) v.kept);
    }

-- a buffer holds a text that was written at its start
pub written_within : {before text after : List ℕ} {r : ℕ} → Written before 0 text after r → r ≤ length after
written_within {after = after} {r = r} w = omega (arith, w.place, length-take r after, ap length w.bytes)

-- a text that is copied to the part of a buffer behind its first `at` bytes
module _ (buffer text part : List ℕ) (at r : ℕ) (room : HasRoom buffer at text) (long : r ≡ length text) where
  abbrev front : List ℕ
  front = take at buffer

  abbrev behind : List ℕ
  behind = drop at buffer

  abbrev left : ℕ
  left = length buffer - at

  pub copied : part ≡ take (length text) text ++ drop (length text) (take left behind) → Written buffer at text (front ++ (part ++ drop left behind)) (at + r)
  copied is =
      let size : length front ≡ at = length-take-le at buffer (omega arith) in
      let all : take left behind ≡ behind = take_all left behind (omega (arith, length-drop at buffer)) in
      let none : drop left behind ≡ [] = drop_of_length-le behind {i = left} (omega (arith, length-drop at buffer)) in
      let after : part ++ drop left behind ≡ text ++ drop (length text) behind = rw (none, append-nil, is, all, take-length) refl in
      let place : at + r ≡ length front + length text = omega arith in
      rw (after, place)
      (record {
        place = omega arith;
        bytes = take-append-add front _ (length text) ∙ ap (λ (l : List ℕ). front ++ l) (take-append_seam text _);
        kept =
            drop-append-add front _ (length text)
            ∙ drop-append_seam text _
            ∙ drop-drop (length text) at buffer
            ∙ ap (λ (m : ℕ). drop (m + length text) buffer) (sym size);
      })
