-- One slot of one flow: from what its two ports did to the flow's books.
use Prim.Native.Nat.{ℕ, suc, ◌+◌, ◌*◌, ◌<◌, ◌≤◌}
use mathlib.Core.Path.{◌≡◌, ap, sym, ◌∙◌}
use mathlib.Core.List.{List, ◌++◌}
use native.Mathlib.Omega.{arith}
use lib.ListN.{length}
use Rattle.fabric.specs.declared.flow.Queue.{Queue}
use Rattle.fabric.specs.declared.flow.Crosspoint.{Crosspoint}
use Rattle.runs.proofs.BalanceLaws.{OneSlot, two_at_most, balanced_after}
use Rattle.runs.proofs.CellLaws.{held}
use Rattle.runs.proofs.ShareLaws.{Near, Share}
use Rattle.runs.proofs.TurnLaws.{BoardTurn, HeadTurn}

-- The frame goes on, or ends with board and head at the flow's rate a and begins anew.
pub data Next (T a t c d b h t' c' d' : ℕ) : Type 0 where
  goes_on : suc t < T → t' ≡ suc t → c' ≡ c + b → d' ≡ d + h → Near T a d' t' → Next T a t c d b h t' c' d'
  ends : suc t ≡ T → c + b ≡ a → d + h ≡ a → t' ≡ 0 → c' ≡ 0 → d' ≡ 0 → Next T a t c d b h t' c' d'

-- In slot t the board serves the flow b times and the head h times; the flow's queue goes from q to q', its crosspoint from x
-- over y to z.
pub record FlowSlot
    (store : List ℕ) (T a depth k t t' c c' d d' b h : ℕ)
    (q q' : Queue) (x y z : Crosspoint) (into out : List ℕ) (board-empty head-empty : ℕ) : Type 0 where
  pub some_slot : 1 ≤ T
  pub board_near : Near T a c t
  pub head_near : Near T a d t
  pub board_once : b ≤ 1
  pub head_once : h ≤ 1
  pub board_eligible : 1 ≤ b → c * T ≤ t * a
  pub head_eligible : 1 ≤ h → d * T ≤ t * a
  pub balanced : x.count + d ≤ c + 1
  pub board : BoardTurn store depth k q q' x y b into board-empty
  pub head : HeadTurn y z h out head-empty
  pub next : Next T a t c d b h t' c' d'

module _
    {store : List ℕ} {T a depth k t t' c c' d d' b h : ℕ}
    {q q' : Queue} {x y z : Crosspoint} {into out : List ℕ} {board-empty head-empty : ℕ}
    (s : FlowSlot store T a depth k t t' c c' d d' b h q q' x y z into out board-empty head-empty)
  where
    one_slot : OneSlot T a t c d x.count b h (length into) (length out) board-empty head-empty
    one_slot =
        record {
          board_near = s.board_near;
          head_near = s.head_near;
          board_once = s.board_once;
          head_once = s.head_once;
          board_eligible = s.board_eligible;
          head_eligible = s.head_eligible;
          balanced = s.balanced;
          board_split = s.board.split;
          head_split = s.head.split;
          sent_there = omega (arith, s.board.count, s.head.count);
          empty_there = λ some. sym s.board.count ∙ s.head.dry some;
        }

    pub slot_room : x.count + length into ≤ 2
    slot_room = two_at_most one_slot

    pub slot_cells : z.count + length out ≡ x.count + length into
    slot_cells = s.head.count ∙ s.board.count

    pub slot_crossing : held x ++ into ≡ out ++ held z
    slot_crossing = s.board.to_point ∙ s.head.from_point

    after : z.count + (d + h) ≤ c + b + 1
    after = balanced_after one_slot z.count slot_cells

    pub slot_balanced : z.count + d' ≤ c' + 1
    slot_balanced = go s.next
      where
        go : Next T a t c d b h t' c' d' → z.count + d' ≤ c' + 1
        go (goes_on l et ec ed near) = omega (arith, after)
        go (ends l ec ed et zc zd) = omega (arith, after)

    pub slot_empties : head-empty + x.count + d + c' ≡ z.count + d' + c + board-empty
    slot_empties = go s.next
      where
        go : Next T a t c d b h t' c' d' → head-empty + x.count + d + c' ≡ z.count + d' + c + board-empty
        go (goes_on l et ec ed near) = omega (arith, slot_cells, s.board.split, s.head.split)
        go (ends l ec ed et zc zd) = omega (arith, slot_cells, s.board.split, s.head.split)

    pub slot_share : Share T a (length out + head-empty) 1 d t d' t'
    slot_share = go s.next
      where
        services : (length out + head-empty) * T ≡ h * T
        services = ap (λ (z : ℕ). z * T) (sym s.head.split)

        go : Next T a t c d b h t' c' d' → Share T a (length out + head-empty) 1 d t d' t'
        go (goes_on l et ec ed near) = rw (et, ed) (omega (arith, services))
        go (ends l ec ed et zc zd) =
            rw (et, zd) (omega (arith, services, ap (λ (z : ℕ). z * T) ed, ap (λ (z : ℕ). z * a) l))

    pub slot_near : Near T a d' t'
    slot_near = go s.next
      where
        go : Next T a t c d b h t' c' d' → Near T a d' t'
        go (goes_on l et ec ed near) = near
        go (ends l ec ed et zc zd) = rw (et, zd) (record { early = omega (arith, s.some_slot); late = omega (arith, s.some_slot) })
