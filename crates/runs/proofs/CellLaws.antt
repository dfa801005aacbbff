-- Cells keep their order: a queue is a ring in the store, a crosspoint a list of two.
use Prim.Native.Nat.{ℕ, zero, suc, ◌+◌, ◌-◌, ◌*◌, ◌%◌, ◌<◌, ◌≤◌}
use mathlib.Core.Path.{◌≡◌, refl, ap, sym, ◌∙◌}
use mathlib.Core.Bool.{cond}
use lib.Dec.{ltb}
use mathlib.Core.Logic.{◌⊎◌, inl, inr, ⊎_elim}
use mathlib.Core.List.{List, [], ◌∷◌, ◌++◌}
use native.Mathlib.Nat.{mod-eq_of_lt, mod-eq-sub-mod, mod-lt, mod-add-mod}
use native.Mathlib.Numerals.{add-one}
use native.Mathlib.Omega.{arith}
use lib.ListN.{length, get_or, set, take}
use lib.Seq.{get_or-set_same, get_or-set_other, take-suc-set}
use Rattle.plan.proofs.BelowLaws.{lt_or_le}
use Rattle.plan.proofs.LineLaws.{row_within}
use Rattle.plan.specs.Below.{list_below}
use Rattle.fabric.specs.Flow.{cell_place}
use Rattle.crossbar.specs.Arrive.{longer}
use Rattle.fabric.specs.Moves.{shorter, filled}
use Rattle.fabric.specs.Sends.{moved_up}
use Rattle.fabric.specs.declared.flow.Queue.{Queue}
use Rattle.fabric.specs.declared.flow.Crosspoint.{Crosspoint}

list_ext : {A : Type 0} (x y : ℕ → A) (n : ℕ) → ((m : ℕ) → m < n → x m ≡ y m) → list_below x n ≡ list_below y n
unfolding list_below
list_ext x y zero h = refl
list_ext x y (suc n) h = rw (list_ext x y n (λ m l. h m (omega arith)), h n (omega arith))

list_front : {A : Type 0} (x : ℕ → A) (n : ℕ) → list_below x (suc n) ≡ x 0 ∷ list_below (λ m. x (suc m)) n
unfolding list_below
list_front x zero = refl
list_front x (suc n) = rw (list_front x n)

-- a number below two rounds, around the ring
around : (x d : ℕ) → x < d + d → (x % d ≡ x) ⊎ (x % d + d ≡ x)
around x d h =
    ⊎_elim
    (λ (b : x < d). inl (mod-eq_of_lt b))
    (λ (b : d ≤ x). inr (let e = mod-eq-sub-mod b ∙ mod-eq_of_lt {n = x - d} {m = d} (omega arith) in omega arith))
    (lt_or_le x d)

-- two cells of one queue stand in two places
apart : (p m c d : ℕ) → p < d → m < c → c < d → (p + m) % d ≡ (p + c) % d → ⊥
apart p m c d hp hm hc e =
    ⊎_elim
    (λ (u : (p + m) % d ≡ p + m). ⊎_elim (λ (v : (p + c) % d ≡ p + c). omega arith) (λ (v : (p + c) % d + d ≡ p + c). omega arith) (around (p + c) d (omega arith)))
    (λ (u : (p + m) % d + d ≡ p + m). ⊎_elim (λ (v : (p + c) % d ≡ p + c). omega arith) (λ (v : (p + c) % d + d ≡ p + c). omega arith) (around (p + c) d (omega arith)))
    (around (p + m) d (omega arith))

-- the places of two queues are apart
queues_apart : (k k' d r r' : ℕ) → (k ≡ k' → ⊥) → r < d → r' < d → k * d + r ≡ k' * d + r' → ⊥
queues_apart k k' d r r' ne hr hr' e =
    ⊎_elim
    (λ (b : k < k'). omega (arith, row_within k k' d b))
    (λ (b : k' ≤ k). omega (arith, row_within k' k d (omega (arith, ne))))
    (lt_or_le k k')

-- the cells of queue k in the store, oldest first
abbrev pub ring_cells : List ℕ → ℕ → ℕ → Queue → List ℕ
ring_cells store depth k q = list_below (λ m. get_or store (cell_place depth k q m) 0) q.count

-- the oldest cell leaves
pub ring_shorter : (store : List ℕ) (depth k : ℕ) (q : Queue) → 1 ≤ q.count → ring_cells store depth k q ≡ get_or store (cell_place depth k q 0) 0 ∷ ring_cells store depth k (shorter depth q)
ring_shorter store depth k q h =
    let e : q.count ≡ suc (q.count - 1) = omega arith in
    ap (list_below (λ m. get_or store (cell_place depth k q m) 0)) e
    ∙ list_front (λ m. get_or store (cell_place depth k q m) 0) (q.count - 1)
    ∙ ap (λ (rest : List ℕ). get_or store (cell_place depth k q 0) 0 ∷ rest)
    (list_ext _ _ (q.count - 1) (λ m l. ap (λ (r : ℕ). get_or store (k * depth + r) 0) (next m)))
  where
    next : (m : ℕ) → (q.place + suc m) % depth ≡ ((q.place + 1) % depth + m) % depth
    next m = ap (λ (x : ℕ). x % depth) (omega arith) ∙ sym (mod-add-mod (q.place + 1) depth m)

-- a cell is added
pub ring_longer : (store : List ℕ) (depth k cell : ℕ) (q : Queue) → q.place < depth → q.count < depth → cell_place depth k q q.count < length store
    → ring_cells (set store (cell_place depth k q q.count) cell) depth k (longer q) ≡ ring_cells store depth k q ++ (cell ∷ [])
unfolding list_below
ring_longer store depth k cell q hp hc hs =
    rw (add-one, get_or-set_same store (cell_place depth k q q.count) cell 0 hs)
    (ap (λ (l : List ℕ). l ++ (cell ∷ []))
    (list_ext _ _ q.count
    (λ m l. get_or-set_other store (cell_place depth k q q.count) (cell_place depth k q m) cell 0 (λ e. apart q.place m q.count depth hp l hc (omega (arith, e))))))

-- a cell is added to another queue
pub ring_other : (store : List ℕ) (depth k k' r cell : ℕ) (q : Queue) → (k ≡ k' → ⊥) → r < depth
    → ring_cells (set store (k' * depth + r) cell) depth k q ≡ ring_cells store depth k q
ring_other store depth k k' r cell q ne hr =
    list_ext _ _ q.count
    (λ m l. get_or-set_other store (k' * depth + r) (cell_place depth k q m) cell 0 (λ e. queues_apart k k' depth _ r ne (mod-lt (q.place + m) (omega arith)) hr e))

abbrev pub held : Crosspoint → List ℕ
held x = take x.count x.cells

pub held_filled : (x : Crosspoint) (cell : ℕ) → x.count < length x.cells → held (filled cell x) ≡ held x ++ (cell ∷ [])
held_filled x cell h = rw add-one (take-suc-set x.cells x.count cell h)

-- the oldest cell is sent
sent : (cells : List ℕ) (c : ℕ) → 1 ≤ c → c ≤ 2 → length cells ≡ 2
    → take c cells ≡ get_or cells 0 0 ∷ take (c - 1) (cond (ltb 1 c) (set (set cells 0 (get_or cells 1 0)) 1 0) (set cells 0 0))
sent [] c lo hi e = absurd (omega arith)
sent (x ∷ []) c lo hi e = absurd (omega arith)
sent (x ∷ y ∷ []) zero lo hi e = absurd (omega arith)
sent (x ∷ y ∷ []) (suc zero) lo hi e = refl
sent (x ∷ y ∷ []) (suc (suc zero)) lo hi e = refl
sent (x ∷ y ∷ []) (suc (suc (suc c))) lo hi e = absurd (omega arith)
sent (x ∷ y ∷ z ∷ l) c lo hi e = absurd (omega arith)

pub held_sent : (x : Crosspoint) → 1 ≤ x.count → x.count ≤ 2 → length x.cells ≡ 2 → held x ≡ get_or x.cells 0 0 ∷ take (x.count - 1) (moved_up x)
held_sent x lo hi e = sent x.cells x.count lo hi e
