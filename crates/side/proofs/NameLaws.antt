-- Which ports the choices of a slot can name: those that a switch can have, whatever stands in the lists that they are made
-- of. A port looks at its first flows only, as many as a switch can have ports.
use Prim.Native.Nat.{ℕ, zero, suc}
use mathlib.Core.Path.{◌≡◌, refl, ap, sym, subst, ◌∙◌}
use mathlib.Core.List.{List, [], ◌∷◌}
use lib.ListN.{get_or, set, replicate}
use Rattle.std.specs.Prelude.{Option, Some, None}
use Rattle.plan.specs.Range.{most_ports}
use Rattle.multiplexer.specs.Choose.{choose_of}
use Rattle.multiplexer.specs.declared.Multiplexer.{Multiplexer}
use Rattle.multiplexer.proofs.PacedLaws.{chosen_eligible}
use Rattle.side.specs.Choices.{no_multiplexer, choices_of, choice_at, ChoosesPort}
use Rattle.side.proofs.ListLaws.{get_d_repeated}

-- a choice names the same port by a wider number
pub widened : {o : Option ℕ} {byte index : ℕ} → o ≡ Some byte → index ≡ byte → o ≡ Some index
widened is same = is ∙ ap Some (sym same)

-- what holds at a place of a list, and of a value that is put somewhere into it, holds at that place afterwards
pub set_keeps : {A : Type 0} (P : A → Type 0) (l : List A) (m p : ℕ) (v d : A) → P v → P (get_or l p d) → P (get_or (set l m v) p d)
set_keeps P [] m p v d put was = was
set_keeps P (x ∷ l) zero zero v d put was = put
set_keeps P (x ∷ l) zero (suc p) v d put was = was
set_keeps P (x ∷ l) (suc m) zero v d put was = was
set_keeps P (x ∷ l) (suc m) (suc p) v d put was = set_keeps P l m p v d put was

-- and what holds of one value, at every place of a list that holds nothing else
pub repeated_is : {A : Type 0} (P : A → Type 0) (n p : ℕ) (v : A) → P v → P (get_or (replicate n v) p v)
repeated_is P n p v h = subst P (sym (get_d_repeated n p v)) h

pub choose_names : (rates counts : List ℕ) (t slot : ℕ) → ChoosesPort (choose_of rates counts t slot)
choose_names rates counts t slot = go (choose_of rates counts t slot) refl
  where
    go : (c : Option ℕ) → choose_of rates counts t slot ≡ c → ChoosesPort c
    go None e = tt
    go (Some f) e = (chosen_eligible rates counts t slot f e).1

pub choices_name : (line : ℕ → List ℕ) (ports : List Multiplexer) (t slot m p : ℕ) → ChoosesPort (choice_at (choices_of line ports t slot m) p)
unfolding choices_of
choices_name line ports t slot zero p = repeated_is ChoosesPort most_ports p None tt
choices_name line ports t slot (suc m) p =
    set_keeps ChoosesPort (choices_of line ports t slot m) m p _ None
    (choose_names (line m) (get_or ports m no_multiplexer).served t slot)
    (choices_name line ports t slot m p)
