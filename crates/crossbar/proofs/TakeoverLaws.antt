-- What a takeover does to a state, and what it leaves.
use Prim.Native.Nat.{ℕ, ◌*◌}
use mathlib.Core.Path.{◌≡◌, refl, sym, ap, ◌∙◌}
use mathlib.Core.Bool.{Bool, true, false, cond}
use lib.Dec.{eqb}
use lib.ListN.{take}
use Rattle.plan.proofs.BelowLaws.{and_true}
use Rattle.planpair.specs.Rates.{plan_rates}
use Rattle.planpair.specs.Takeover.{replaced, cleared}
use Rattle.planpair.proofs.TakeoverLaws.{taken_rates}
use Rattle.crossbar.specs.State.{has_waiting}
use Rattle.crossbar.specs.Valid.{IsValid}
use Rattle.crossbar.specs.Load.{with_plans}
use Rattle.crossbar.specs.Takeover.{takes_over, takeover_of}
use Rattle.crossbar.specs.declared.state.Switch.{Switch}
use Rattle.crossbar.proofs.OwnedLaws.{Sized}

pub not_taken : (s : Switch) → takes_over s ≡ false → takeover_of s ≡ s
unfolding takeover_of
not_taken s e = simp e

pub taken : (s : Switch) → takes_over s ≡ true → takeover_of s ≡ with_plans s (replaced s.running s.waiting) (cleared s.waiting) 0
unfolding takeover_of
taken s e = simp e

pub takes_waiting : (s : Switch) → takes_over s ≡ true → has_waiting s ≡ true
takes_waiting s e = (and_true (eqb s.slot 0) (has_waiting s) e).1

-- u is s after part 1 of a slot: N, T and all but the plans are those of s, and the rates those of the plan that rules the slot
pub record Ruled (s u : Switch) : Type 0 where
  pub rates : plan_rates u.running
      ≡ cond (takes_over s) (take (s.running.ports * s.running.ports) s.waiting.rates) (take (s.running.ports * s.running.ports) s.running.rates)
  pub ports : u.running.ports ≡ s.running.ports
  pub frame : u.running.frame ≡ s.running.frame
  pub depth : u.depth ≡ s.depth
  pub slot : u.slot ≡ s.slot
  pub fabric : u.fabric ≡ s.fabric

pub ruled : (s : Switch) → Sized s → IsValid s → Ruled s (takeover_of s)
ruled s size v = go (takes_over s) refl
  where
    go : (b : Bool) → takes_over s ≡ b → Ruled s (takeover_of s)
    go false e =
        rw (not_taken s e)
        record { rates = rw e refl; ports = refl; frame = refl; depth = refl; slot = refl; fabric = refl }
    go true e =
        let w = takes_waiting s e in
        let same = v.ports_agree w in
        rw (taken s e)
        record {
          rates =
              taken_rates s.running s.waiting (v.waiting w).few_ports size.running size.waiting
              ∙ ap (λ (m : ℕ). take (m * m) s.waiting.rates) (sym same)
              ∙ (rw e refl);
          ports = sym same;
          frame = sym (v.same_frame w);
          depth = refl;
          slot = refl;
          fabric = refl;
        }
