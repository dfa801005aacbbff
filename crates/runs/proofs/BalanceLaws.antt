-- Why two cells are enough: one slot of one flow, over plain numbers. At the beginning of slot t of a frame of T slots the
-- board has served the flow c times and the head d times, at rate a, and the crosspoint holds x cells.
use Prim.Native.Nat.{ℕ, ◌+◌, ◌*◌, ◌<◌, ◌≤◌}
use mathlib.Core.Path.{◌≡◌}
use mathlib.Core.Logic.{⊎_elim}
use native.Mathlib.Nat.{lt_of_mul-lt-mul_right}
use native.Mathlib.Omega.{arith}
use Rattle.plan.proofs.BelowLaws.{lt_or_le}
use Rattle.runs.proofs.ShareLaws.{Near}

-- One slot: the board serves the flow b times and moves m cells, the head serves it h times and sends o; eb and eh are the
-- services without a cell.
pub record OneSlot (T a t c d x b h m o eb eh : ℕ) : Type 0 where
  pub board_near : Near T a c t
  pub head_near : Near T a d t
  pub board_once : b ≤ 1
  pub head_once : h ≤ 1
  pub board_eligible : 1 ≤ b → c * T ≤ t * a
  pub head_eligible : 1 ≤ h → d * T ≤ t * a
  pub balanced : x + d ≤ c + 1
  pub board_split : b ≡ m + eb
  pub head_split : h ≡ o + eh
  -- a head sends what is there, and is empty only where nothing is
  pub sent_there : o ≤ x + m
  pub empty_there : 1 ≤ eh → x + m ≡ 0

module _ {T a t c d x b h m o eb eh : ℕ} (s : OneSlot T a t c d x b h m o eb eh) where
  -- the board is at most one service ahead of the head, also after its own service
  pub board_ahead : c + b ≤ d + 1
  board_ahead =
      ⊎_elim
      (λ (none : b < 1).
      let close : c * T < (d + 2) * T = omega (arith, s.board_near.early, s.head_near.late) in
      omega (arith, lt_of_mul-lt-mul_right T {m = c} {n = d + 2} close))
      (λ (one : 1 ≤ b).
      let close : c * T < (d + 1) * T = omega (arith, s.board_eligible one, s.head_near.late) in
      omega (arith, lt_of_mul-lt-mul_right T {m = c} {n = d + 1} close, s.board_once))
      (lt_or_le b 1)

  -- before a service of the head's, the board is not behind
  head_not_ahead : 1 ≤ h → d ≤ c
  head_not_ahead one =
      let close : d * T < (c + 1) * T = omega (arith, s.head_eligible one, s.board_near.late) in
      omega (arith, lt_of_mul-lt-mul_right T {m = d} {n = c + 1} close)

  -- after the moves and before the sends
  pub two_at_most : x + m ≤ 2
  two_at_most = omega (arith, board_ahead, s.balanced, s.board_split)

  -- after the sends, x' cells are left
  pub balanced_after : (x' : ℕ) → x' + o ≡ x + m → x' + (d + h) ≤ c + b + 1
  balanced_after x' e =
      ⊎_elim
      (λ (none : eh < 1). omega (arith, s.balanced, s.board_split, s.head_split))
      (λ (some : 1 ≤ eh). omega (arith, s.empty_there some, s.head_split, s.head_once, head_not_ahead (omega (arith, s.head_split))))
      (lt_or_le eh 1)
