-- What valid service counts are known to have, and that these are the valid ones.
use Prim.Native.Nat.{ℕ, ◌+◌, ◌*◌, ◌<◌}
use mathlib.Core.Path.{◌≡◌}
use mathlib.Core.Bool.{true}
use mathlib.Core.List.{List}
use lib.ListN.{get_or}
use Rattle.plan.proofs.BelowLaws.{all_holds, all_intro}
use Rattle.multiplexer.specs.declared.Multiplexer.{Multiplexer}
use Rattle.multiplexer.proofs.ValidLaws.{CountWithin, port_valid_lem, port_is_valid}
use Rattle.side.specs.Choices.{no_multiplexer}
use Rattle.side.specs.Valid.{ports_valid}

-- the count of port p's flow f is judged by the rate that stands at this place
abbrev pub CountsWithin : List ℕ → List Multiplexer → ℕ → (ℕ → ℕ → ℕ) → ℕ → Type 0
CountsWithin rates ports n place slot = (p f : ℕ) → p < n → f < n → CountWithin slot (get_or rates (place p f) 0) (get_or (get_or ports p no_multiplexer).served f 0)

module _ (rates : List ℕ) (ports : List Multiplexer) (n across along slot : ℕ) where
  pub ports_valid_lem : ports_valid rates ports n across along slot ≡ true → CountsWithin rates ports n (λ p f. p * across + f * along) slot
  unfolding ports_valid
  ports_valid_lem e p f lp lf = port_valid_lem rates _ n _ along slot (all_holds _ n e p lp) f lf

  pub ports_are_valid : CountsWithin rates ports n (λ p f. p * across + f * along) slot → ports_valid rates ports n across along slot ≡ true
  unfolding ports_valid
  ports_are_valid h = all_intro _ n (λ p lp. port_is_valid rates _ n _ along slot (λ f lf. h p f lp lf))
