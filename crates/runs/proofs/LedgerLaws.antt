-- What a list of events does to one flow (i, j), as sums that can be added up from event to event.
use Prim.Native.Nat.{ℕ, ◌+◌, ◌*◌, ◌≤◌}
use mathlib.Core.Path.{◌≡◌, refl, ap, sym, ◌∙◌}
use mathlib.Core.Bool.{cond}
use mathlib.Core.Logic.{◌⊎◌, inl, inr}
use mathlib.Core.List.{List, [], ◌∷◌, ◌++◌, append-nil}
use native.Mathlib.Nat.{mul-le-mul_right}
use native.Mathlib.Omega.{arith}
use lib.ListN.{length, length-append}
use Rattle.plan.specs.Lines.{flow_of}
use Rattle.crossbar.specs.State.{point_at, board_count, head_count}
use Rattle.fabric.specs.Answer.{empty_with, answer_of}
use Rattle.crossbar.specs.declared.state.Switch.{Switch}
use Rattle.runs.specs.Event.{Event}
use Rattle.runs.specs.Event.Event.{stepped, arrived, loaded}
use Rattle.runs.specs.Flow.{collect, total, moved, left, moved_in, left_in, slots, slots_in, board_empty_in, HasRate}
use Rattle.runs.proofs.RunLaws.{collect_append, total_append}
use Rattle.runs.proofs.ShareLaws.{Near, Share, share_join}

-- head j served board i and had no cell
abbrev pub head_empty_in : ℕ → ℕ → Event → ℕ
head_empty_in i j (stepped lent r) = cond (empty_with i (answer_of r.sends j)) 1 0
head_empty_in i j (arrived lent p q cell r left) = 0
head_empty_in i j (loaded n t rates r) = 0

module _ (n T i j : ℕ) where
  -- the cells in the crosspoint, and the counts of board and head
  abbrev pub held : Switch → ℕ
  held s = (point_at s (flow_of n i j)).count

  abbrev pub by_board : Switch → ℕ
  by_board s = board_count s i j

  abbrev pub by_head : Switch → ℕ
  by_head s = head_count s i j

  abbrev pub head_services : List Event → ℕ
  head_services es = length (left i j es) + total (head_empty_in i j) es

  -- no slot passed
  abbrev pub AtRest : Switch → Switch → List Event → Type 0
  AtRest s s' es = (slots es ≡ 0) × (by_head s' ≡ by_head s) × (s'.slot ≡ s.slot) × (by_board s ≤ by_board s')

  -- the head is near its share at both ends, and the board begins one ahead of its own at most
  abbrev pub NearEnds : ℕ → Switch → Switch → Type 0
  NearEnds a s s' = Near T a (by_head s) s.slot × Near T a (by_head s') s'.slot × (by_board s * T ≤ s.slot * a + T)

  abbrev pub Edges : ℕ → Switch → Switch → List Event → Type 0
  Edges a s s' es = AtRest s s' es ⊎ NearEnds a s s'

  -- from s to s' by these events
  pub record Ledger (s s' : Switch) (es : List Event) : Type 0 where
    pub cells : held s' + length (left i j es) ≡ held s + length (moved i j es)
    -- what is held and served by the head, less what is served by the board, grows by empty head services and falls by
    -- empty board services
    pub empties : total (head_empty_in i j) es + held s + by_head s + by_board s' ≡ held s' + by_head s' + by_board s + total (board_empty_in i j) es
    pub share : (a : ℕ) → HasRate i j a es → Share T a (head_services es) (slots es) (by_head s) s.slot (by_head s') s'.slot
    pub edges : (a : ℕ) → HasRate i j a es → Edges a s s' es

  pub ledger_none : (s : Switch) → Ledger s s []
  unfolding total collect
  ledger_none s = record { cells = refl; empties = omega arith; share = λ a h. omega arith; edges = λ a h. inl (refl, refl, refl, omega arith) }

  rate_append : (a : ℕ) (es fs : List Event) → HasRate i j a (es ++ fs) → HasRate i j a es × HasRate i j a fs
  rate_append a [] fs h = (tt, h)
  rate_append a (e ∷ es) fs h = let rest = rate_append a es fs h.1 in ((h.0, rest.0), rest.1)

  edges_append : (a : ℕ) (s s' s'' : Switch) (es fs : List Event) → Edges a s s' es → Edges a s' s'' fs → Edges a s s'' (es ++ fs)
  edges_append a s s' s'' es fs (inl (p, d, t, c)) (inl (q, d', t', c')) =
      inl (omega (arith, total_append slots_in es fs), d' ∙ d, t' ∙ t, omega (arith, c, c'))
  edges_append a s s' s'' es fs (inl (p, d, t, c)) (inr (begin, end, board)) =
      inr (rw (sym d, sym t) begin, end, omega (arith, board, mul-le-mul_right T c, ap (λ (x : ℕ). x * a) t))
  edges_append a s s' s'' es fs (inr (begin, end, board)) (inl (q, d', t', c')) = inr (begin, rw (d', t') end, board)
  edges_append a s s' s'' es fs (inr (begin, end, board)) (inr (begin', end', board')) = inr (begin, end', board)

  pub ledger_append : {s s' s'' : Switch} (es fs : List Event) → Ledger s s' es → Ledger s' s'' fs → Ledger s s'' (es ++ fs)
  ledger_append {s} {s'} {s''} es fs l m =
      let out = ap length (collect_append (left_in i j) es fs) ∙ length-append (left i j es) (left i j fs) in
      let into = ap length (collect_append (moved_in i j) es fs) ∙ length-append (moved i j es) (moved i j fs) in
      let services : head_services (es ++ fs) ≡ head_services es + head_services fs = omega (arith, out, total_append (head_empty_in i j) es fs) in
      let dry = total_append (head_empty_in i j) es fs in
      let dryBoard = total_append (board_empty_in i j) es fs in
      record {
        cells = omega (arith, l.cells, m.cells);
        empties = omega (arith, l.empties, m.empties);
        share = λ a h. let both = rate_append a es fs h in rw (services, total_append slots_in es fs) (share_join T a _ _ _ _ _ _ _ _ _ _ (l.share a both.0) (m.share a both.1));
        edges = λ a h. let both = rate_append a es fs h in edges_append a s s' s'' es fs (l.edges a both.0) (m.edges a both.1);
      }

  -- an event in which the flow's crosspoint and ports, and the slot, stay as they are
  pub ledger_still : (s s' : Switch) (e : Event) → held s' ≡ held s → by_board s' ≡ by_board s → by_head s' ≡ by_head s → s'.slot ≡ s.slot
      → moved_in i j e ≡ [] → left_in i j e ≡ [] → slots_in e ≡ 0 → head_empty_in i j e ≡ 0 → board_empty_in i j e ≡ 0
      → Ledger s s' (e ∷ [])
  unfolding total collect
  ledger_still s s' e x c d t m l n h b =
      let into = ap length (append-nil (moved_in i j e) ∙ m) in
      let out = ap length (append-nil (left_in i j e) ∙ l) in
      record {
        cells = omega arith;
        empties = omega arith;
        share = λ a _.
            rw (d, t, n, h, out)
            (omega arith);
        edges = λ a _. inl (omega arith, d, t, omega (arith, c));
      }
