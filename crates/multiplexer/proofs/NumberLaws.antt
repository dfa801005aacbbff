-- A choice as the code keeps it, by number: which choice it is, and the counts after it.
use Prim.Native.Nat.{ℕ, ◌<◌, ◌≤◌}
use mathlib.Core.Path.{◌≡◌, refl, sym, ◌∙◌}
use mathlib.Core.Bool.{cond}
use mathlib.Core.Logic.{⊎_elim}
use mathlib.Core.List.{List}
use native.Mathlib.Omega.{arith}
use native.Mathlib.Decide.{ℕ_discrete}
use lib.Dec.{eqb}
use lib.ListN.{length, get_or}
use lib.Seq.{get_or-set_same, ext_get_or}
use borrow.Author.Tests.{lt-ltb, le-ltb, eq-eqb, ne_eqb}
use Rattle.std.specs.Prelude.{Option, Some, None}
use Rattle.plan.specs.Range.{most_ports}
use Rattle.plan.proofs.BelowLaws.{lt_or_le}
use Rattle.multiplexer.specs.Choose.{choose_of, flows_of, IsChoice}
use Rattle.multiplexer.specs.Count.{one_more, counts_after}
use Rattle.multiplexer.specs.Candidate.{choice_of}
use Rattle.multiplexer.proofs.ChoiceLaws.{choose_is}
use Rattle.multiplexer.proofs.CountLaws.{count_idle, count_length, count_other}

-- the number of a choice
abbrev pub number_of : Option ℕ → ℕ
number_of None = most_ports
number_of (Some f) = f

pub flow_choice : (f : ℕ) → f < most_ports → choice_of f ≡ Some f
unfolding choice_of
flow_choice f l = simp (lt-ltb f most_ports l)

pub idle_choice : (f : ℕ) → most_ports ≤ f → choice_of f ≡ None
unfolding choice_of
idle_choice f l = simp (le-ltb f most_ports l)

-- no choice is lost as a number
pub number_chosen : (rs ks : List ℕ) (T t : ℕ) → choice_of (number_of (choose_of rs ks T t)) ≡ choose_of rs ks T t
number_chosen rs ks T t = go (choose_of rs ks T t) (choose_is rs ks T t)
  where
    go : (c : Option ℕ) → IsChoice rs ks T t (flows_of rs) c → choice_of (number_of c) ≡ c
    go None none = idle_choice most_ports (omega arith)
    go (Some f) c = flow_choice f (omega (arith, c.below))

module _ (ks : List ℕ) (flow : ℕ) where
  -- the count of flow g after the service
  abbrev pub count_of_flow : ℕ → ℕ
  count_of_flow g = cond (eqb g flow) (one_more (get_or ks g 0)) (get_or ks g 0)

  count_at : (g : ℕ) → length ks ≡ most_ports → g < most_ports → get_or (counts_after ks (choice_of flow)) g 0 ≡ count_of_flow g
  unfolding counts_after
  count_at g full l =
      ⊎_elim
      (λ (b : flow < most_ports). rw (flow_choice flow b) (chosen b (ℕ_discrete g flow)))
      (λ (b : most_ports ≤ flow). rw (idle_choice flow b, count_idle ks, ne_eqb g flow (λ e. omega arith)) refl)
      (lt_or_le flow most_ports)
    where
      chosen : flow < most_ports → Dec (g ≡ flow) → get_or (counts_after ks (Some flow)) g 0 ≡ count_of_flow g
      chosen b (yes e) = rw (eq-eqb g flow e, e) (get_or-set_same ks flow _ 0 (omega (arith, full)))
      chosen b (no ne) = rw (ne_eqb g flow ne) (count_other ks flow g ne)

  pub counted_all : (after : List ℕ) → length ks ≡ most_ports → length after ≡ most_ports → ((g : ℕ) → g < most_ports → get_or after g 0 ≡ count_of_flow g) → after ≡ counts_after ks (choice_of flow)
  counted_all after full len made =
      ext_get_or 0 after (counts_after ks (choice_of flow)) (omega (arith, len, full, count_length ks (choice_of flow)))
      (λ g l. made g (omega (arith, len)) ∙ sym (count_at g full (omega (arith, len))))
