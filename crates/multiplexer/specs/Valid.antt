-- Of number 12: "a service count is above its running rate, or one is not 0 in slot 0".
use Rattle.std.specs.Prelude.{ℕ, ◌+◌, ◌*◌, Bool, not, ◌&&◌, ◌||◌, List, leb, eqb, get_or}
use Rattle.plan.specs.Below.{all_below}

-- a service count k of a flow with this rate
abbrev pub count_valid : ℕ → ℕ → ℕ → Bool
count_valid slot rate k = leb k rate && (not (eqb slot 0) || eqb k 0)

-- The counts of a port's n flows. The count of flow f is judged by the rate at place start + f × along.
unfoldable pub port_valid : List ℕ → List ℕ → ℕ → ℕ → ℕ → ℕ → Bool
port_valid rates served n start along slot = all_below (λ f. count_valid slot (get_or rates (start + f * along) 0) (get_or served f 0)) n
