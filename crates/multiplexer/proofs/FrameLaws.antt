-- For the layers above: the counts of a frame, slot by slot.
use Prim.Native.Nat.{ℕ, suc}
use mathlib.Core.Path.{◌≡◌, refl}
use mathlib.Core.List.{List}
use Rattle.multiplexer.specs.Count.{counts_after}
use Rattle.multiplexer.specs.Frame.{counts_at, choice_at}

module _ (rs ks : List ℕ) (T : ℕ) where
  pub counts_first : counts_at rs ks T 0 ≡ ks
  unfolding counts_at
  counts_first = refl

  pub counts_next : (t : ℕ) → counts_at rs ks T (suc t) ≡ counts_after (counts_at rs ks T t) (choice_at rs ks T t)
  unfolding counts_at
  counts_next t = refl
