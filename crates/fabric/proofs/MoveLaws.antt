-- The boards' services, board by board: what each one finds, and what the flows, answers and lists are after them.
use Prim.Native.Nat.{ℕ, zero, suc, ◌+◌, ◌*◌, ◌<◌, ◌≤◌}
use mathlib.Core.Path.{◌≡◌, refl, ap, sym, ◌∙◌}
use mathlib.Core.Bool.{Bool, true, false, or-true}
use mathlib.Core.List.{List}
use native.Mathlib.Numerals.{add-one}
use native.Mathlib.Omega.{arith}
use lib.Dec.{eqb}
use lib.ListN.{length, get_or, length-set}
use lib.Seq.{get_or-set_same, get_or-set_other}
use borrow.Author.Tests.{eqb-true, eqb-false, ne_eqb, ltb-true, lt-ltb}
use Rattle.std.specs.Prelude.{Option, Some, None}
use Rattle.plan.specs.Range.{most_ports, most_flows}
use Rattle.plan.specs.Lines.{flow_of}
use Rattle.plan.proofs.BelowLaws.{all_holds, all_intro}
use Rattle.plan.proofs.LineLaws.{flow_below, flow_one}
use Rattle.multiplexer.specs.declared.Multiplexer.{Multiplexer}
use Rattle.fabric.specs.Flow.{crosspoint_depth, no_queue, no_point, cell_place}
use Rattle.fabric.specs.Answer.{answer_of}
use Rattle.side.specs.Choices.{choice_at, NamesBelow, CanChoose}
use Rattle.fabric.specs.Moves.{Moves, move_none, move_cell, move_of, with_move, board_moves, moves_of, room_in, room_for, room_for_all, CanMove, CanMoveAll}
use Rattle.fabric.specs.declared.flow.Queue.{Queue}
use Rattle.fabric.specs.declared.flow.Crosspoint.{Crosspoint}
use Rattle.fabric.specs.declared.flow.Answer.{Answer}
use Rattle.fabric.specs.declared.flow.Answer.TheVariants as answer
use Rattle.fabric.specs.declared.moves.Move.{Move}
use Rattle.fabric.specs.declared.AfterServices.{AfterServices}
use Rattle.fabric.specs.declared.Fabric.{Fabric}
use Rattle.side.proofs.ListLaws.{get_d_repeated}
use Rattle.side.proofs.PlaceLaws.{flow_small}
use Rattle.side.proofs.TouchLaws.{untouched, settled, not_yet, done}

-- what holds of a service that finds no cell, and of one that finds one, holds of a service
pub move_case : (P : Move → Type 0) (depth j cell : ℕ) (q : Queue) (x : Crosspoint)
    → (q.count ≡ 0 → P (move_none j q x)) → (1 ≤ q.count → P (move_cell depth j cell q x)) → P (move_of depth j cell q x)
unfolding move_of
move_case P depth j cell q x none some = go (eqb q.count 0) refl
  where
    go : (b : Bool) → eqb q.count 0 ≡ b → P (move_of depth j cell q x)
    go true e = rw e (none (eqb-true q.count 0 e))
    go false e = let ne = eqb-false q.count 0 e in rw e (some (omega arith))

-- a service is not answered by "idle"
pub move_serves : (depth j cell : ℕ) (q : Queue) (x : Crosspoint) → (move_of depth j cell q x).answer ≡ answer.Idle → ⊥
move_serves depth j cell q x =
    move_case (λ r. r.answer ≡ answer.Idle → ⊥) depth j cell q x
    (λ _ (e : answer.Empty j ≡ answer.Idle). let z : ◌≡◌ {A = ℕ} 0 1 = cc in omega arith)
    (λ _ (e : answer.Moved j cell ≡ answer.Idle). let z : ◌≡◌ {A = ℕ} 0 1 = cc in omega arith)

-- a queue with a cell has room in its crosspoint
pub room_left : (q : Queue) (x : Crosspoint) → room_in q x ≡ true → (q.count ≡ 0 → ⊥) → x.count < crosspoint_depth
room_left q x e h = ltb-true x.count crosspoint_depth (rw (ne_eqb q.count 0 h) at e)

-- Whether the boards leave room.
module _ (n : ℕ) (choices : List (Option ℕ)) (queues : List Queue) (points : List Crosspoint) where
  room_of : (m j k : ℕ) → choice_at choices m ≡ Some j → k ≡ flow_of n m j
      → room_in (get_or queues k no_queue) (get_or points k no_point) ≡ room_for n queues points m (choice_at choices m)
  unfolding room_for
  room_of m j k c e = rw (c, e)

  -- the test passes where each crosspoint that is served has a place left
  pub room_enough : ((i j : ℕ) → i < n → choice_at choices i ≡ Some j → (get_or points (flow_of n i j) no_point).count < crosspoint_depth) → room_for_all n choices queues points ≡ true
  unfolding room_for_all room_for
  room_enough left = all_intro _ n (λ i hi. go i hi (choice_at choices i) refl)
    where
      go : (i : ℕ) → i < n → (c : Option ℕ) → choice_at choices i ≡ c → room_for n queues points i c ≡ true
      go i hi None e = refl
      go i hi (Some j) e = rw (lt-ltb _ crosspoint_depth (left i j hi e)) (or-true (eqb (get_or queues (flow_of n i j) no_queue).count 0))

  -- what the test says of one board
  room_at : room_for_all n choices queues points ≡ true → (i j : ℕ) → i < n → choice_at choices i ≡ Some j
      → room_in (get_or queues (flow_of n i j) no_queue) (get_or points (flow_of n i j) no_point) ≡ true
  unfolding room_for_all
  room_at h i j l c = room_of i j (flow_of n i j) c refl ∙ all_holds (λ p. room_for n queues points p (choice_at choices p)) n h i l

  -- where no board acts
  pub room_none : room_for_all 0 choices queues points ≡ true
  unfolding room_for_all
  room_none = refl

-- flow (i, j)'s move in the queues and crosspoints given
abbrev pub flow_move : ℕ → ℕ → List ℕ → List Queue → List Crosspoint → ℕ → ℕ → Move
flow_move n depth store queues points i j =
    let k = flow_of n i j in
    let q = get_or queues k no_queue in
    move_of depth j (get_or store (cell_place depth k q 0) 0) q (get_or points k no_point)

-- what stands at flow k
pub record FlowIs (f : Moves) (k : ℕ) (q : Queue) (x : Crosspoint) : Type 0 where
  pub queue : get_or f.queues k no_queue ≡ q
  pub point : get_or f.crosspoints k no_point ≡ x

module _ (n depth : ℕ) (store : List ℕ) (choices : List (Option ℕ)) (queues : List Queue) (points : List Crosspoint) where
  -- the boards below m
  abbrev after : ℕ → Moves
  after m = moves_of n depth store choices queues points m

  -- one board more, by its choice
  pub moves_idle_step : (m : ℕ) (f : Moves) → f ≡ after m → choice_at choices m ≡ None → f ≡ after (m + 1)
  unfolding moves_of board_moves
  moves_idle_step m f e c = rw (add-one, c) e

  pub moves_flow_step : (m j k at : ℕ) (f : Moves) (r : Move) → f ≡ after m → choice_at choices m ≡ Some j → k ≡ flow_of n m j
      → at ≡ cell_place depth k (get_or f.queues k no_queue) 0
      → r ≡ move_of depth j (get_or store at 0) (get_or f.queues k no_queue) (get_or f.crosspoints k no_point)
      → with_move m k f r ≡ after (m + 1)
  unfolding moves_of board_moves
  moves_flow_step m j k at f r e c ek ea er = rw (add-one, c, er, ea, ek, e)

  -- board m serves flow k
  abbrev serves : ℕ → ℕ → Type 0
  serves m k = (j : ℕ) × (choice_at choices m ≡ Some j) × (flow_of n m j ≡ k)

  queue_other : (m k : ℕ) → (serves m k → ⊥) → get_or (after (suc m)).queues k no_queue ≡ get_or (after m).queues k no_queue
  unfolding moves_of board_moves
  queue_other m k h = go (choice_at choices m) refl
    where
      go : (c : Option ℕ) → choice_at choices m ≡ c → get_or (board_moves n depth store m c (after m)).queues k no_queue ≡ get_or (after m).queues k no_queue
      go None e = refl
      go (Some j) e = get_or-set_other (after m).queues (flow_of n m j) k _ no_queue (λ x. h (j, e, sym x))

  point_other : (m k : ℕ) → (serves m k → ⊥) → get_or (after (suc m)).crosspoints k no_point ≡ get_or (after m).crosspoints k no_point
  unfolding moves_of board_moves
  point_other m k h = go (choice_at choices m) refl
    where
      go : (c : Option ℕ) → choice_at choices m ≡ c → get_or (board_moves n depth store m c (after m)).crosspoints k no_point ≡ get_or (after m).crosspoints k no_point
      go None e = refl
      go (Some j) e = get_or-set_other (after m).crosspoints (flow_of n m j) k _ no_point (λ x. h (j, e, sym x))

  answer_other : (m p : ℕ) → (p ≡ m → ⊥) → answer_of (after (suc m)).answers p ≡ answer_of (after m).answers p
  unfolding moves_of board_moves
  answer_other m p h = go (choice_at choices m)
    where
      go : (c : Option ℕ) → answer_of (board_moves n depth store m c (after m)).answers p ≡ answer_of (after m).answers p
      go None = refl
      go (Some j) = get_or-set_other (after m).answers m p _ answer.Idle h

  -- flow (i, j) is served by board i alone
  only : NamesBelow n choices → (p i j : ℕ) → p < n → j < n → serves p (flow_of n i j) → (p ≡ i) × (choice_at choices p ≡ Some j)
  only named p i j hp hj (g, e, same) = let both = flow_one n p g i j (named p g hp e) hj same in (both.0, e ∙ ap Some both.1)

  -- a flow that no board below m serves stays as it was
  kept : (m k : ℕ) → ((p : ℕ) → p < m → serves p k → ⊥) → FlowIs (after m) k (get_or queues k no_queue) (get_or points k no_point)
  unfolding moves_of
  kept m k h =
      record {
        queue = untouched (λ m k. get_or (after m).queues k no_queue) serves queue_other m k h;
        point = untouched (λ m k. get_or (after m).crosspoints k no_point) serves point_other m k h;
      }

  -- the row of board i is untouched until its turn
  moves_before : NamesBelow n choices → (m i j : ℕ) → m ≤ i → m ≤ n → j < n
      → FlowIs (after m) (flow_of n i j) (get_or queues (flow_of n i j) no_queue) (get_or points (flow_of n i j) no_point)
  moves_before named m i j before few hj = kept m (flow_of n i j) (λ p l s. omega (arith, (only named p i j (omega arith) hj s).0))

  -- what the code asks of the flow that board m serves
  pub moves_ready : (len m j k : ℕ) (f : Moves) → CanMoveAll n depth len choices queues points → m < n → f ≡ after m
      → choice_at choices m ≡ Some j → k ≡ flow_of n m j → CanMove depth (get_or f.queues k no_queue) (get_or f.crosspoints k no_point)
  moves_ready len m j k f h l e c ek =
      let hj = h.choosing.named m j l c in
      let is = moves_before h.choosing.named m m j (omega arith) (omega arith) hj in
      rw (e, ek, is.queue, is.point)
      (record {
        some_depth = h.some_depth (omega arith);
        few_cells = h.few_cells (omega arith);
        place = h.places (flow_of n m j) (flow_below n m j l hj);
        room = room_at n choices queues points h.room m j l c;
      })

  pub record MoveLengths (f : Moves) : Type 0 where
    pub queues_kept : length f.queues ≡ length queues
    pub points_kept : length f.crosspoints ≡ length points
    pub all_ports : length f.answers ≡ most_ports

  length_step : (m : ℕ) (c : Option ℕ) (f : Moves) → MoveLengths f → MoveLengths (board_moves n depth store m c f)
  unfolding board_moves
  length_step m None f h = h
  length_step m (Some j) f h =
      record {
        queues_kept = length-set f.queues _ _ ∙ h.queues_kept;
        points_kept = length-set f.crosspoints _ _ ∙ h.points_kept;
        all_ports = length-set f.answers _ _ ∙ h.all_ports;
      }

  pub moves_length : (m : ℕ) → MoveLengths (after m)
  unfolding moves_of
  moves_length zero = record { queues_kept = refl; points_kept = refl; all_ports = refl }
  moves_length (suc m) = length_step m (choice_at choices m) (after m) (moves_length m)

  -- board m's service, with what it finds
  served_step : NamesBelow n choices → (m j : ℕ) → m < n → choice_at choices m ≡ Some j
      → after (suc m) ≡ with_move m (flow_of n m j) (after m) (flow_move n depth store queues points m j)
  unfolding moves_of board_moves
  served_step named m j l c =
      let is = moves_before named m m j (omega arith) (omega arith) (named m j l c) in
      rw (c, is.queue, is.point)

  moves_answer_past : (m p : ℕ) → m ≤ p → answer_of (after m).answers p ≡ answer.Idle
  unfolding moves_of
  moves_answer_past m p l =
      not_yet (λ m p. answer_of (after m).answers p) answer_other m p l
      ∙ get_d_repeated most_ports p answer.Idle

  pub moves_answer_idle : (i : ℕ) → i < n → choice_at choices i ≡ None → answer_of (after n).answers i ≡ answer.Idle
  unfolding moves_of board_moves
  moves_answer_idle i l c = done (λ m p. answer_of (after m).answers p) answer_other n i l ∙ rw c (moves_answer_past i i (omega arith))

  later_boards : NamesBelow n choices → (i j : ℕ) → i < n → choice_at choices i ≡ Some j → (q : ℕ) → i < q → q < n → serves q (flow_of n i j) → ⊥
  later_boards named i j l c q lo hi s = omega (arith, (only named q i j hi (named i j l c) s).0)

  -- the flow that board i serves, and its answer
  pub record Moved (i j : ℕ) : Type 0 where
    pub flow : FlowIs (after n) (flow_of n i j) (flow_move n depth store queues points i j).queue (flow_move n depth store queues points i j).point
    pub answer : answer_of (after n).answers i ≡ (flow_move n depth store queues points i j).answer

  pub moves_served : CanChoose n choices → length queues ≡ most_flows → length points ≡ most_flows → (i j : ℕ) → i < n → choice_at choices i ≡ Some j → Moved i j
  moves_served h full full' i j l c =
      let k = flow_of n i j in
      let r = flow_move n depth store queues points i j in
      let e = served_step h.named i j l c in
      let small = flow_small n i j h.few_ports l (h.named i j l c) in
      let size = moves_length i in
      record {
        flow =
            record {
              queue =
                  settled (λ m k. get_or (after m).queues k no_queue) serves queue_other n i k l (later_boards h.named i j l c)
                  ∙ ap (λ (f : Moves). get_or f.queues k no_queue) e
                  ∙ get_or-set_same (after i).queues k r.queue no_queue (omega (arith, size.queues_kept));
              point =
                  settled (λ m k. get_or (after m).crosspoints k no_point) serves point_other n i k l (later_boards h.named i j l c)
                  ∙ ap (λ (f : Moves). get_or f.crosspoints k no_point) e
                  ∙ get_or-set_same (after i).crosspoints k r.point no_point (omega (arith, size.points_kept));
            };
        answer =
            done (λ m p. answer_of (after m).answers p) answer_other n i l
            ∙ ap (λ (f : Moves). answer_of f.answers i) e
            ∙ get_or-set_same (after i).answers i r.answer answer.Idle (omega (arith, size.all_ports, h.few_ports));
      }

  -- a flow that its board doesn't serve
  pub moves_passed : NamesBelow n choices → (i j : ℕ) → j < n → (choice_at choices i ≡ Some j → ⊥)
      → FlowIs (after n) (flow_of n i j) (get_or queues (flow_of n i j) no_queue) (get_or points (flow_of n i j) no_point)
  moves_passed named i j hj otherwise =
      kept n (flow_of n i j) (λ p l s. let at = only named p i j l hj s in otherwise (ap (choice_at choices) (sym at.0) ∙ at.1))

  -- "What the state holds for ports from N up is neither looked at nor changed."
  pub moves_past : NamesBelow n choices → (k : ℕ) → n * n ≤ k → FlowIs (after n) k (get_or queues k no_queue) (get_or points k no_point)
  moves_past named k h = kept n k (λ p l (j, c, e). omega (arith, flow_below n p j l (named p j l c)))

-- the fabric after the moves, put together from the lists that they change and those that stay
pub moved_whole : (a b : Fabric) (answers : List Answer) (m : Moves) → a.boards ≡ b.boards → a.heads ≡ b.heads
    → ◌≡◌ {A = Moves} (record { queues = a.queues; crosspoints = a.crosspoints; answers = answers }) m
    → ◌≡◌ {A = AfterServices} (record { fabric = a; answers = answers })
    (record { fabric = record { queues = m.queues; crosspoints = m.crosspoints; boards = b.boards; heads = b.heads }; answers = m.answers })
moved_whole a b answers m eb eh e =
    ap {A = List Multiplexer} {B = AfterServices} (λ x. record { fabric = record { queues = a.queues; crosspoints = a.crosspoints; boards = x; heads = a.heads }; answers = answers }) eb
    ∙ ap {A = List Multiplexer} {B = AfterServices} (λ x. record { fabric = record { queues = a.queues; crosspoints = a.crosspoints; boards = b.boards; heads = x }; answers = answers }) eh
    ∙ ap {A = Moves} {B = AfterServices} (λ x. record { fabric = record { queues = x.queues; crosspoints = x.crosspoints; boards = b.boards; heads = b.heads }; answers = x.answers }) e
