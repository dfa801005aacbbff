-- What a program prints of what it has read.
use Prim.Native.Nat.{ℕ, ◌<◌, ◌≤◌}
use mathlib.Core.List.{List, [], ◌++◌, append-nil}
use mathlib.Core.Path.{◌≡◌, ap, sym, subst, ◌∙◌}
use mathlib.Core.Logic.{⊎_elim}
use native.Mathlib.Omega.{arith}
use lib.ListN.{length, take}
use lib.Seq.{length-take-le}
use Rattle.std.proofs.lemmas.List.{take-append-le, take_all}
use Rattle.std.specs.Prelude.{Option, None, Some, IfSome}
use Rattle.std.specs.Io.KnownBytes.{Appends}
use Rattle.plan.proofs.BelowLaws.{lt_or_le}
use Rattle.console.specs.Input.{ReadsOn}
use Rattle.console.specs.Program.{IsEnough, PrintsOf}

-- the n bytes that were read are all that there were, or as many as decide
module _ {T : Type 0} (IsTextOf : List ℕ → T → Type 0) (room : List ℕ) (n : ℕ) (text : T) (within : n ≤ length room) (enough : IsEnough IsTextOf (length room)) (is_text : IsTextOf (take n room) text) where
  whole : (file rest : List ℕ) → file ≡ take n room ++ rest → (n < length room → rest ≡ []) → IsTextOf file text
  whole file rest split end =
      ⊎_elim
      (λ (l : n < length room). subst (λ (f : List ℕ). IsTextOf f text) (sym (split ∙ ap (λ (r : List ℕ). take n room ++ r) (end l) ∙ append-nil (take n room))) is_text)
      (λ (l : length room ≤ n).
      let front : take (length room) file ≡ take n room =
      ap (take (length room)) split
      ∙ take-append-le (length room) (take n room) rest (omega (arith, length-take-le n room within))
      ∙ take_all (length room) (take n room) (omega (arith, length-take-le n room within)) in
      enough file text (subst (λ (f : List ℕ). IsTextOf f text) (sym front) is_text))
      (lt_or_le n (length room))

  -- so the text is one of all that there was
  pub read_whole : (before after : Option (List ℕ)) → ReadsOn before after room n → IfSome before (λ file. IsTextOf file text)
  read_whole None after read = tt
  read_whole (Some file) None read = absurd read.0
  read_whole (Some file) (Some rest) read = whole file rest read.0 read.1

  pub printed : (bytes_of : T → List ℕ) (before after old new : Option (List ℕ)) → ReadsOn before after room n → Appends old new (bytes_of text)
      → PrintsOf IsTextOf bytes_of before old new
  printed bytes_of None after old new read put = tt
  printed bytes_of (Some file) after old new read put = (text, read_whole (Some file) after read, put)
