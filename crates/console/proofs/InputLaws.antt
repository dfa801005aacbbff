-- What is read into a buffer piece by piece.
use Prim.Native.Nat.{ℕ, ◌+◌, ◌≤◌}
use mathlib.Core.List.{List, ◌++◌}
use mathlib.Core.Path.{◌≡◌, ap, sym, subst, ◌∙◌}
use lib.ListN.{length, take}
use lib.Seq.{length-take-le, take-append-add, take-append-le}
use borrow.Rule.Slice.PartMut.{put_mid}
use Rattle.std.specs.declared.option.Option.{Option}
use Rattle.std.specs.Io.KnownBytes.{Consumes}
use Rattle.std.proofs.KnownBytes.{Consumes-trans}

-- behind the first `len` bytes of the buffer one read more put its bytes into the rest, `part`
pub read_on : (before mid after : Option (List ℕ)) (buffer part : List ℕ) (len room more : ℕ) → len ≤ length buffer → more ≤ length part
    → Consumes before mid (take len buffer) → Consumes mid after (take more part) → Consumes before after (take (len + more) (put_mid len room buffer part))
read_on before mid after buffer part len room more within fits first next =
    let both : take (len + more) (put_mid len room buffer part) ≡ take len buffer ++ take more part =
    ap (λ (m : ℕ). take (m + more) (put_mid len room buffer part)) (sym (length-take-le len buffer within))
    ∙ take-append-add (take len buffer) _ more
    ∙ ap (λ (l : List ℕ). take len buffer ++ l) (take-append-le more part _ fits) in
    subst (Consumes before after) (sym both) (Consumes-trans before mid after _ _ first next)
