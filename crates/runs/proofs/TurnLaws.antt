-- What one slot's service, or none, makes of a flow: its queue and crosspoint, the cells that its ports answer, and how
-- often they answer "empty".
use Prim.Native.Nat.{ℕ, ◌+◌, ◌<◌, ◌≤◌}
use mathlib.Core.Path.{◌≡◌, refl, sym, ◌∙◌}
use mathlib.Core.Bool.{Bool, true, false, cond}
use mathlib.Core.List.{List, [], ◌++◌, append-nil}
use native.Mathlib.Nat.{mod-lt}
use native.Mathlib.Omega.{arith}
use lib.Dec.{ltb}
use lib.ListN.{length, get_or, set, length-set}
use borrow.Author.Tests.{eq-eqb, ne_eqb}
use Rattle.fabric.specs.Flow.{cell_place}
use Rattle.fabric.specs.Answer.{cells_with, empty_with}
use Rattle.fabric.specs.Moves.{move_of}
use Rattle.fabric.specs.Sends.{send_of}
use Rattle.fabric.specs.declared.flow.Answer.{Answer}
use Rattle.fabric.specs.declared.flow.Queue.{Queue}
use Rattle.fabric.specs.declared.flow.Crosspoint.{Crosspoint}
use Rattle.fabric.specs.declared.moves.Move.{Move}
use Rattle.fabric.specs.declared.sends.Send.{Send}
use Rattle.fabric.proofs.MoveLaws.{move_case}
use Rattle.fabric.proofs.SendLaws.{send_case}
use Rattle.runs.proofs.CellLaws.{ring_cells, ring_shorter, held, held_filled, held_sent}

-- The board's side: b services, the cells moved, and the empty services.
pub record BoardTurn (store : List ℕ) (depth k : ℕ) (q q' : Queue) (x x' : Crosspoint) (b : ℕ) (cells : List ℕ) (empty : ℕ) : Type 0 where
  pub from_queue : ring_cells store depth k q ≡ cells ++ ring_cells store depth k q'
  pub to_point : held x ++ cells ≡ held x'
  pub count : x'.count ≡ x.count + length cells
  pub split : b ≡ length cells + empty
  pub place : q'.place < depth
  pub shorter : q'.count ≤ q.count
  pub size : length x'.cells ≡ 2

-- The head's side.
pub record HeadTurn (x x' : Crosspoint) (h : ℕ) (cells : List ℕ) (empty : ℕ) : Type 0 where
  pub from_point : held x ≡ cells ++ held x'
  pub count : x'.count + length cells ≡ x.count
  pub split : h ≡ length cells + empty
  pub dry : 1 ≤ empty → x.count ≡ 0
  pub size : length x'.cells ≡ 2

-- b services, or none, that find no cell
board_no_cell : (store : List ℕ) (depth k : ℕ) (q : Queue) (x : Crosspoint) (b : ℕ) → q.place < depth → length x.cells ≡ 2 → BoardTurn store depth k q q x x b [] b
board_no_cell store depth k q x b hp hx =
    record {
      from_queue = refl;
      to_point = append-nil _;
      count = omega arith;
      split = omega arith;
      place = hp;
      shorter = omega arith;
      size = hx;
    }

head_no_cell : (x : Crosspoint) (h : ℕ) → (1 ≤ h → x.count ≡ 0) → length x.cells ≡ 2 → HeadTurn x x h [] h
head_no_cell x h dry hx = record { from_point = refl; count = omega arith; split = omega arith; dry = dry; size = hx }

pub board_idle : (store : List ℕ) (depth k : ℕ) (q : Queue) (x : Crosspoint) → q.place < depth → length x.cells ≡ 2 → BoardTurn store depth k q q x x 0 [] 0
board_idle store depth k q x hp hx = board_no_cell store depth k q x 0 hp hx

pub head_idle : (x : Crosspoint) → length x.cells ≡ 2 → HeadTurn x x 0 [] 0
head_idle x hx = head_no_cell x 0 (λ (h : 1 ≤ 0). absurd (omega arith)) hx

-- as many as an answer says
abbrev pub empties : ℕ → Answer → ℕ
empties p a = cond (empty_with p a) 1 0

module _ (store : List ℕ) (depth k j : ℕ) (q : Queue) (x : Crosspoint) (some : 1 ≤ depth) (hp : q.place < depth) (hx : length x.cells ≡ 2) where
  abbrev After : Move → Type 0
  After r = BoardTurn store depth k q r.queue x r.point 1 (cells_with j r.answer) (empties j r.answer)

  pub board_serves : (1 ≤ q.count → x.count < 2) → After (move_of depth j (get_or store (cell_place depth k q 0) 0) q x)
  board_serves room =
      move_case After depth j (get_or store (cell_place depth k q 0) 0) q x
      (λ none. rw (eq-eqb j j refl) (board_no_cell store depth k q x 1 hp hx))
      (λ full. rw (eq-eqb j j refl) (
      record {
        from_queue = ring_shorter store depth k q full;
        to_point = sym (held_filled x _ (omega (arith, room full)));
        count = refl;
        split = refl;
        place = mod-lt (q.place + 1) some;
        shorter = omega arith;
        size = length-set x.cells x.count _ ∙ hx;
      }))

module _ (i : ℕ) (x : Crosspoint) (hx : length x.cells ≡ 2) (two : x.count ≤ 2) where
  abbrev Sent : Send → Type 0
  Sent r = HeadTurn x r.point 1 (cells_with i r.answer) (empties i r.answer)

  up_size : (b : Bool) → length (cond b (set (set x.cells 0 (get_or x.cells 1 0)) 1 0) (set x.cells 0 0)) ≡ 2
  up_size true = length-set (set x.cells 0 (get_or x.cells 1 0)) 1 0 ∙ length-set x.cells 0 _ ∙ hx
  up_size false = length-set x.cells 0 _ ∙ hx

  pub head_serves : Sent (send_of i x)
  head_serves =
      send_case Sent i x
      (λ none. rw (eq-eqb i i refl) (head_no_cell x 1 (λ _. none) hx))
      (λ full. rw (eq-eqb i i refl) (
      record {
        from_point = held_sent x full two hx;
        count = omega arith;
        split = refl;
        dry = λ (h : 1 ≤ 0). absurd (omega arith);
        size = up_size (ltb 1 x.count);
      }))

-- a service of another port says nothing of this one
abbrev Silent : ℕ → Answer → Type 0
Silent p a = (cells_with p a ≡ []) × (empties p a ≡ 0)

pub other_move : (depth g j cell : ℕ) (q : Queue) (x : Crosspoint) → (g ≡ j → ⊥) → Silent j (move_of depth g cell q x).answer
other_move depth g j cell q x ne =
    move_case (λ r. Silent j r.answer) depth g cell q x (λ _. rw (ne_eqb g j ne) (refl, refl)) (λ _. rw (ne_eqb g j ne) (refl, refl))

pub other_send : (g i : ℕ) (x : Crosspoint) → (g ≡ i → ⊥) → Silent i (send_of g x).answer
other_send g i x ne = send_case (λ r. Silent i r.answer) g x (λ _. rw (ne_eqb g i ne) (refl, refl)) (λ _. rw (ne_eqb g i ne) (refl, refl))
