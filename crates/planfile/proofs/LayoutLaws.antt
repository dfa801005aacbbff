-- The rates of a file, and an array that holds a list: filled place by place, and 0 past it.
use Prim.Native.Nat.{ℕ, zero, suc, ◌+◌, ◌-◌, ◌<◌, ◌≤◌, ◌*◌}
use mathlib.Core.Path.{◌≡◌, refl, ap, ◌∙◌}
use mathlib.Core.List.{List, [], ◌∷◌, ◌++◌, append_assoc}
use mathlib.Core.Logic.{⊎_elim}
use native.Mathlib.Nat.{sub-zero}
use native.Mathlib.Omega.{arith}
use Rattle.std.proofs.lemmas.List.{take-replicate, drop-replicate, get_or-take}
use lib.ListN.{length, get_or, set, take, drop, replicate, length-append, length-replicate, get_or-replicate, get_or-eq_default}
use lib.Seq.{take_at, set_at, get_or-append-add}
use Rattle.plan.specs.Range.{most_ports, most_flows}
use Rattle.plan.proofs.BelowLaws.{lt_or_le}
use Rattle.plan.proofs.LineLaws.{square_small}
use Rattle.planfile.specs.Layout.{byte_at, is_marked, rates_of, padded_to, padded}

pub rates_length : (file : List ℕ) (count : ℕ) → length (rates_of file count) ≡ count
unfolding rates_of
rates_length file zero = refl
rates_length file (suc p) = simp length-append (omega (arith, rates_length file p))

-- what the head says, the file says
pub head_byte : (file : List ℕ) (p : ℕ) → p < 8 → byte_at (take 8 file) p ≡ byte_at file p
head_byte file p h = get_or-take 8 file p 0 h

pub marked_head : (file : List ℕ) → is_marked (take 8 file) ≡ is_marked file
unfolding is_marked
marked_head file = simp (head_byte file 0 (omega arith), head_byte file 1 (omega arith), head_byte file 2 (omega arith))

-- one more number is written behind those that stand in the array
pub padded_one : (size : ℕ) (list : List ℕ) (k x : ℕ) → length list ≡ k → k < size → set (padded_to size list) k x ≡ padded_to size (list ++ (x ∷ []))
unfolding padded_to
padded_one size list k x e h =
    let places : size - length list ≡ suc (size - suc k) = omega arith in
    let next : size - length (list ++ (x ∷ [])) ≡ size - suc k = simp length-append (omega arith) in
    rw (places, next, append_assoc) (set_at list 0 _ x k e)

-- the first places of an array of zeros
pub room_length : (n : ℕ) → n ≤ most_flows → length (take n (replicate {A = ℕ} most_flows 0)) ≡ n
room_length n h = rw (take-replicate {X = ℕ} n most_flows 0 h) (length-replicate {A = ℕ} n 0)

pub padded_none : (n : ℕ) → n ≤ most_flows → take n (replicate {A = ℕ} most_flows 0) ≡ padded_to n []
unfolding padded_to
padded_none n h = let whole : n - 0 ≡ n = sub-zero n in rw whole (take-replicate {X = ℕ} n most_flows 0 h)

-- the first places are full, and the others are 0
pub padded_room : (list : List ℕ) (n : ℕ) → length list ≡ n → n ≤ most_flows → padded_to n list ++ drop n (replicate {A = ℕ} most_flows 0) ≡ padded list
unfolding padded_to
padded_room list n e h =
    let none : n - length list ≡ 0 = omega arith in
    rw (none, e, drop-replicate {X = ℕ} n most_flows 0) (simp append_assoc)

pub padded_take : (rates : List ℕ) (n : ℕ) → length rates ≡ n → take n (padded rates) ≡ rates
unfolding padded_to
padded_take rates n e = take_at rates _ n e

pub padded_length : (size : ℕ) (list : List ℕ) → length list ≤ size → length (padded_to size list) ≡ size
unfolding padded_to
padded_length size list h = simp (length-append, length-replicate) (omega arith)

zeros : (n p : ℕ) → get_or {A = ℕ} (replicate n 0) p 0 ≡ 0
zeros n p =
    ⊎_elim
    (λ (l : p < n). get_or-replicate n p 0 0 l)
    (λ (l : n ≤ p). get_or-eq_default (replicate n 0) 0 (omega (arith, length-replicate {A = ℕ} n 0)))
    (lt_or_le p n)

pub padded_past : (rates : List ℕ) (p : ℕ) → length rates ≤ p → get_or (padded rates) p 0 ≡ 0
unfolding padded_to
padded_past rates p h =
    let e : p ≡ length rates + (p - length rates) = omega arith in
    let left = most_flows - length rates in
    ap (λ (q : ℕ). get_or (padded rates) q 0) e ∙ get_or-append-add rates (replicate left 0) (p - length rates) 0 ∙ zeros left (p - length rates)

-- the first places of an array of zeros, for the flows of n ports
pub zeros_taken : (n : ℕ) → n ≤ most_ports → take (n * n) (replicate {A = ℕ} most_flows 0) ≡ replicate (n * n) 0
zeros_taken n few = take-replicate {X = ℕ} (n * n) most_flows 0 (square_small n few)
