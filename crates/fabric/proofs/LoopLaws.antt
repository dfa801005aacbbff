-- A loop over the choices of the ports below n.
use Rattle.std.proofs.Common.{◌≡◌, ℕ, ◌<◌, ◌≤◌, List, Option, None, length, get_or, take, sym, arith}
use Rattle.std.proofs.lemmas.List.{length-take-le, get_or-take}

-- one of the first n choices is that of a port below n
pub among : (n i : ℕ) (cs : List (Option ℕ)) → n ≤ length cs → i < length (take n cs) → (i < n) × (get_or cs i None ≡ get_or (take n cs) i None)
among n i cs few l = let below : i < n = omega (arith, length-take-le n cs few) in (below, sym (get_or-take n cs i None below))

-- and at the loop's end all of them were looked at
pub all_of : (n i : ℕ) (cs : List (Option ℕ)) → n ≤ length cs → length (take n cs) ≤ i → i ≤ length (take n cs) → i ≡ n
all_of n i cs few past within = omega (arith, length-take-le n cs few)
