-- The service counts after a slot: each port below n has its own, and the others stay.
use Prim.Native.Nat.{ℕ, zero, suc, ◌+◌, ◌<◌, ◌≤◌}
use mathlib.Core.Path.{◌≡◌, refl, ◌∙◌}
use mathlib.Core.Bool.{Bool}
use mathlib.Core.List.{List}
use native.Mathlib.Numerals.{add-one}
use native.Mathlib.Omega.{arith}
use lib.ListN.{length, get_or, set, length-set}
use lib.Seq.{get_or-set_same, get_or-set_other}
use Rattle.std.specs.Prelude.{Option}
use Rattle.multiplexer.specs.declared.Multiplexer.{Multiplexer}
use Rattle.side.specs.Choices.{no_multiplexer, choice_at}
use Rattle.multiplexer.specs.Serve.{port_after}
use Rattle.side.specs.Counts.{counts_of, ports_below}
use Rattle.side.proofs.TouchLaws.{done}

module _ (n : ℕ) (ends : Bool) (choices : List (Option ℕ)) (ports : List Multiplexer) where
  -- the ports below m
  abbrev after : ℕ → List Multiplexer
  after m = counts_of n ends choices ports m

  -- port p's own counts
  abbrev counted : ℕ → Multiplexer
  counted p = port_after n ends (choice_at choices p) (get_or ports p no_multiplexer)

  pub counts_length : (m : ℕ) → length (after m) ≡ length ports
  unfolding counts_of
  counts_length zero = refl
  counts_length (suc m) = length-set (after m) m (counted m) ∙ counts_length m

  other : (m k : ℕ) → (k ≡ m → ⊥) → get_or (after (suc m)) k no_multiplexer ≡ get_or (after m) k no_multiplexer
  unfolding counts_of
  other m k h = get_or-set_other (after m) m k (counted m) no_multiplexer h

  pub counts_at_lem : (m p : ℕ) → p < m → m ≤ length ports → get_or (after m) p no_multiplexer ≡ counted p
  unfolding counts_of
  counts_at_lem m p l few = done (λ m k. get_or (after m) k no_multiplexer) other m p l ∙ get_or-set_same (after p) p (counted p) no_multiplexer (omega (arith, counts_length p))

  -- the counts that the ports' own slots left
  pub counted_is : (list : List Multiplexer) → ((p : ℕ) → p < n → get_or list p no_multiplexer ≡ counted p) → (m : ℕ) → m ≤ n → ports_below list ports m ≡ after m
  unfolding ports_below counts_of
  counted_is list own zero l = refl
  counted_is list own (suc m) l = rw (own m (omega arith), counted_is list own m (omega arith)) refl

-- For a loop over the ports: none yet, and one more.
module _ (list ports : List Multiplexer) where
  pub ports_none : ports_below list ports 0 ≡ ports
  unfolding ports_below
  ports_none = refl

  pub ports_next : (m : ℕ) → ports_below list ports (m + 1) ≡ set (ports_below list ports m) m (get_or list m no_multiplexer)
  unfolding ports_below
  ports_next m = rw add-one refl
