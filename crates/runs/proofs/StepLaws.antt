-- A slot of a sound switch, after any takeover: what the two ports of a flow do, and what becomes of it.
use Prim.Native.Nat.{ℕ, suc, ◌+◌, ◌*◌, ◌<◌, ◌≤◌, min}
use mathlib.Core.Path.{◌≡◌, refl, ap, sym, subst, ◌∙◌}
use mathlib.Core.Bool.{Bool, true, false, cond}
use mathlib.Core.Logic.{⊎_elim}
use mathlib.Core.List.{List, []}
use native.Mathlib.Decide.{ℕ_discrete}
use native.Mathlib.Omega.{arith}
use native.Mathlib.Numerals.{add-one}
use native.Mathlib.Nat.{lt_of_mul-lt-mul_right}
use lib.ListN.{length, get_or}
use borrow.Author.Tests.{eqb-true, eqb-false, ne_eqb}
use Rattle.std.specs.Prelude.{Option, Some, None}
use Rattle.plan.specs.Range.{most_ports, most_flows}
use Rattle.plan.specs.Lines.{flow_of}
use Rattle.plan.specs.Desk.{row_of}
use Rattle.plan.proofs.BelowLaws.{lt_or_le}
use Rattle.multiplexer.specs.Choose.{choose_of}
use Rattle.multiplexer.specs.Count.{services_of, counts_after, cleared_below}
use Rattle.multiplexer.specs.Window.{column_of}
use Rattle.multiplexer.specs.declared.Multiplexer.{Multiplexer}
use Rattle.multiplexer.proofs.CountLaws.{services_le_one, served_flow, flow_served, cleared_starts, cleared_zero}
use Rattle.multiplexer.proofs.PacedLaws.{Paced, paced_start, paced_step, paced_count, paced_end, paced_early, paced_late, paced_full, paced_fits, chosen_eligible}
use Rattle.multiplexer.proofs.PortLaws.{row_length, row_rate, column_length, column_rate}
use Rattle.fabric.specs.Flow.{no_queue, no_point}
use Rattle.planpair.specs.Rates.{plan_rates, rate_at}
use Rattle.crossbar.specs.State.{queue_at, point_at, board_count, head_count}
use Rattle.fabric.specs.Answer.{cells_with, answer_of}
use Rattle.side.specs.Choices.{no_multiplexer, choice_at, NamesBelow, CanChoose}
use Rattle.crossbar.specs.Step.{board_choices, head_choices}
use Rattle.multiplexer.specs.Serve.{port_after}
use Rattle.crossbar.specs.Step.{slot_moves, slot_sends, has_room, ends_frame, after_slot}
use Rattle.fabric.specs.Moves.{Moves}
use Rattle.fabric.specs.Sends.{Sends}
use Rattle.fabric.specs.declared.flow.Answer.{Answer}
use Rattle.fabric.specs.declared.flow.Crosspoint.{Crosspoint}
use Rattle.crossbar.specs.declared.state.Switch.{Switch}
use Rattle.side.proofs.ChoiceLaws.{choices_at}
use Rattle.fabric.proofs.MoveLaws.{room_enough, moves_length, moves_served, moves_passed, moves_answer_idle}
use Rattle.fabric.proofs.SendLaws.{sends_length, sends_served, sends_passed, sends_answer_idle}
use Rattle.side.proofs.CountLaws.{counts_at_lem, counts_length}
use Rattle.runs.proofs.ShareLaws.{Near}
use Rattle.runs.proofs.SlotLaws.{Next, FlowSlot, slot_balanced}
use Rattle.runs.proofs.SlotLaws.Next.{goes_on, ends}
use Rattle.runs.proofs.TurnLaws.{other_move, other_send, BoardTurn, HeadTurn, empties, board_idle, board_serves, head_idle, head_serves}
use Rattle.runs.proofs.SoundLaws.{Sound, board_near, head_near, row_is, column_is, two_between}

idle_not_flow : (f : ℕ) → None ≡ Some f → ⊥
idle_not_flow f e = let z : ◌≡◌ {A = ℕ} 0 1 = cc in omega arith

flow_is : (f g : ℕ) → Some f ≡ Some g → f ≡ g
flow_is f g e = cc

module _ {u : Switch} {store : List ℕ} (ok : Sound u store) where
  abbrev n : ℕ
  n = u.running.ports

  abbrev T : ℕ
  T = u.running.frame

  abbrev row : ℕ → List ℕ
  row i = row_of (plan_rates u.running) n i

  abbrev column : ℕ → List ℕ
  column j = column_of (plan_rates u.running) n j

  abbrev board_ks : ℕ → List ℕ
  board_ks i = (get_or u.fabric.boards i no_multiplexer).served

  abbrev head_ks : ℕ → List ℕ
  head_ks j = (get_or u.fabric.heads j no_multiplexer).served

  board_chooses : (i : ℕ) → i < n → choice_at (board_choices u) i ≡ choose_of (row i) (board_ks i) T u.slot
  unfolding board_choices
  board_chooses i hi = choices_at _ u.fabric.boards T u.slot n i hi ok.plan.few_ports

  head_chooses : (j : ℕ) → j < n → choice_at (head_choices u) j ≡ choose_of (column j) (head_ks j) T u.slot
  unfolding head_choices
  head_chooses j hj = choices_at _ u.fabric.heads T u.slot n j hj ok.plan.few_ports

  -- each choice names a port of the switch
  board_names : NamesBelow n (board_choices u)
  board_names i j hi c =
      let e = chosen_eligible (row i) (board_ks i) T u.slot j (sym (board_chooses i hi) ∙ c) in
      omega (arith, e.0, row_length (plan_rates u.running) n i ok.plan.square hi)

  head_names : NamesBelow n (head_choices u)
  head_names j i hj c =
      let e = chosen_eligible (column j) (head_ks j) T u.slot i (sym (head_chooses j hj) ∙ c) in
      omega (arith, e.0, column_length (plan_rates u.running) n j)

  pub boards_can : CanChoose n (board_choices u)
  boards_can = record { few_ports = ok.plan.few_ports; named = board_names }

  pub heads_can : CanChoose n (head_choices u)
  heads_can = record { few_ports = ok.plan.few_ports; named = head_names }

  -- a flow that is served is not ahead of its share
  board_may : (i j : ℕ) → i < n → j < n → choice_at (board_choices u) i ≡ Some j → board_count u i j * T ≤ u.slot * rate_at u.running i j
  board_may i j hi hj c =
      rw (row_rate (plan_rates u.running) n i j hj) at
      (chosen_eligible (row i) (board_ks i) T u.slot j (sym (board_chooses i hi) ∙ c)).3

  head_may : (i j : ℕ) → i < n → j < n → choice_at (head_choices u) j ≡ Some i → head_count u i j * T ≤ u.slot * rate_at u.running i j
  head_may i j hi hj c =
      rw (column_rate (plan_rates u.running) n i j hi) at
      (chosen_eligible (column j) (head_ks j) T u.slot i (sym (head_chooses j hj) ∙ c)).3

  -- a crosspoint that its board serves has room
  room_there : (i j : ℕ) → i < n → j < n → choice_at (board_choices u) i ≡ Some j → (point_at u (flow_of n i j)).count < 2
  room_there i j hi hj c =
      let close : board_count u i j * T < (head_count u i j + 1) * T = omega (arith, board_may i j hi hj c, (head_near ok i j hi hj).late) in
      omega (arith, lt_of_mul-lt-mul_right T {m = board_count u i j} {n = head_count u i j + 1} close, ok.balanced i j hi hj)

  pub has_room_lem : has_room u ≡ true
  has_room_lem = room_enough n (board_choices u) u.fabric.queues u.fabric.crosspoints (λ i j hi e. room_there i j hi (board_names i j hi e) e)

  -- what a flow's queue and crosspoint are after the moves, and its crosspoint after the sends
  abbrev moves : Moves
  moves = slot_moves u store

  abbrev sends : Sends
  sends = slot_sends u store

  points_full : length moves.crosspoints ≡ most_flows
  points_full = (moves_length n u.depth store (board_choices u) u.fabric.queues u.fabric.crosspoints n).points_kept ∙ ok.points_size

  module _ (i j : ℕ) (hi : i < n) (hj : j < n) where
    abbrev k : ℕ
    k = flow_of n i j

    abbrev y : Crosspoint
    y = get_or moves.crosspoints k no_point

    abbrev z : Crosspoint
    z = get_or sends.crosspoints k no_point

    abbrev board_answer : Answer
    board_answer = answer_of moves.answers i

    abbrev head_answer : Answer
    head_answer = answer_of sends.answers j

    abbrev b : ℕ
    b = services_of (choice_at (board_choices u) i) j

    abbrev h : ℕ
    h = services_of (choice_at (head_choices u) j) i

    abbrev Board : ℕ → Type 0
    Board services =
        BoardTurn store u.depth k (queue_at u k) (get_or moves.queues k no_queue) (point_at u k) y services (cells_with j board_answer) (empties j board_answer)

    board_there : Board b
    board_there = go (choice_at (board_choices u) i) refl
      where
        passed : (choice_at (board_choices u) i ≡ Some j → ⊥) → (services : ℕ) → services ≡ 0 → cells_with j board_answer ≡ [] → empties j board_answer ≡ 0 → Board services
        passed ne services e none dry =
            let is = moves_passed n u.depth store (board_choices u) u.fabric.queues u.fabric.crosspoints board_names i j hj ne in
            rw (e, is.queue, is.point, none, dry) (board_idle store u.depth k (queue_at u k) (point_at u k) (ok.place i j hi hj) (ok.two_places i j hi hj))

        serves : choice_at (board_choices u) i ≡ Some j → Board 1
        serves c =
            let m = moves_served n u.depth store (board_choices u) u.fabric.queues u.fabric.crosspoints boards_can ok.queues_size ok.points_size i j hi c in
            rw (m.flow.queue, m.flow.point, m.answer)
            (board_serves store u.depth k j (queue_at u k) (point_at u k) ok.some_depth (ok.place i j hi hj) (ok.two_places i j hi hj) (λ _. room_there i j hi hj c))

        go : (c : Option ℕ) → choice_at (board_choices u) i ≡ c → Board b
        go None e =
            let a = moves_answer_idle n u.depth store (board_choices u) u.fabric.queues u.fabric.crosspoints i hi e in
            passed (λ c. idle_not_flow j (sym e ∙ c)) b (ap (λ (c : Option ℕ). services_of c j) e) (ap (cells_with j) a) (ap (empties j) a)
        go (Some g) e = at (ℕ_discrete g j)
          where
            at : Dec (g ≡ j) → Board b
            at (yes same) = let c = e ∙ ap Some same in subst Board (sym (ap (λ (c : Option ℕ). services_of c j) c ∙ flow_served j)) (serves c)
            at (no ne) =
                let m = moves_served n u.depth store (board_choices u) u.fabric.queues u.fabric.crosspoints boards_can ok.queues_size ok.points_size i g hi e in
                let silent = other_move u.depth g j _ (queue_at u (flow_of n i g)) (point_at u (flow_of n i g)) ne in
                passed (λ c. ne (flow_is g j (sym e ∙ c))) b (ap (λ (c : Option ℕ). services_of c j) e ∙ rw (ne_eqb g j ne) refl)
                (ap (cells_with j) m.answer ∙ silent.0) (ap (empties j) m.answer ∙ silent.1)

    abbrev Head : ℕ → Type 0
    Head services = HeadTurn y z services (cells_with i head_answer) (empties i head_answer)

    -- two cells at most after the moves
    y_size : length y.cells ≡ 2
    y_size = board_there.size

    y_small : y.count ≤ 2
    y_small =
        ⊎_elim
        (λ (none : b < 1). omega (arith, board_there.count, board_there.split, two_between ok i j hi hj))
        (λ (one : 1 ≤ b).
        let c = served_flow (choice_at (board_choices u) i) j (omega (arith, services_le_one (choice_at (board_choices u) i) j)) in
        omega (arith, board_there.count, board_there.split, services_le_one (choice_at (board_choices u) i) j, room_there i j hi hj c))
        (lt_or_le b 1)

    head_there : Head h
    head_there = go (choice_at (head_choices u) j) refl
      where
        passed : (choice_at (head_choices u) j ≡ Some i → ⊥) → (services : ℕ) → services ≡ 0 → cells_with i head_answer ≡ [] → empties i head_answer ≡ 0 → Head services
        passed ne services e none dry =
            rw (e, sends_passed n (head_choices u) moves.crosspoints i j hj ne, none, dry) (head_idle y y_size)

        serves : choice_at (head_choices u) j ≡ Some i → Head 1
        serves c =
            let m = sends_served n (head_choices u) moves.crosspoints heads_can points_full i j hj c in
            rw (m.point, m.answer) (head_serves i y y_size y_small)

        go : (c : Option ℕ) → choice_at (head_choices u) j ≡ c → Head h
        go None e =
            let a = sends_answer_idle n (head_choices u) moves.crosspoints j hj e in
            passed (λ c. idle_not_flow i (sym e ∙ c)) h (ap (λ (c : Option ℕ). services_of c i) e) (ap (cells_with i) a) (ap (empties i) a)
        go (Some g) e = at (ℕ_discrete g i)
          where
            at : Dec (g ≡ i) → Head h
            at (yes same) = let c = e ∙ ap Some same in subst Head (sym (ap (λ (c : Option ℕ). services_of c i) c ∙ flow_served i)) (serves c)
            at (no ne) =
                let m = sends_served n (head_choices u) moves.crosspoints heads_can points_full g j hj e in
                let silent = other_send g i (get_or moves.crosspoints (flow_of n g j) no_point) ne in
                passed (λ c. ne (flow_is g i (sym e ∙ c))) h (ap (λ (c : Option ℕ). services_of c i) e ∙ rw (ne_eqb g i ne) refl)
                (ap (cells_with i) m.answer ∙ silent.0) (ap (empties i) m.answer ∙ silent.1)

    -- the two counts of the flow, with this slot's services, in a frame that goes on or ends
    abbrev board_after : List ℕ
    board_after = counts_after (board_ks i) (choose_of (row i) (board_ks i) T u.slot)

    abbrev head_after : List ℕ
    head_after = counts_after (head_ks j) (choose_of (column j) (head_ks j) T u.slot)

    board_counted : get_or board_after j 0 ≡ board_count u i j + b
    board_counted =
        paced_count (ok.boards i hi) ok.in_frame j (omega (arith, row_is ok i j hi hj))
        ∙ ap (λ (c : Option ℕ). board_count u i j + services_of c j) (sym (board_chooses i hi))

    head_counted : get_or head_after i 0 ≡ head_count u i j + h
    head_counted =
        paced_count (ok.heads j hj) ok.in_frame i (omega (arith, column_is ok i j hi hj))
        ∙ ap (λ (c : Option ℕ). head_count u i j + services_of c i) (sym (head_chooses j hj))

  port_served : (e : Bool) (c : Option ℕ) (m : Multiplexer) → (port_after n e c m).served ≡ cond e (cleared_below (counts_after m.served c) (min n most_ports)) (counts_after m.served c)
  port_served true c m = refl
  port_served false c m = refl

  -- A port of n flows with rates rs and counts ks, after the slot: one slot on, or at the start of the next frame.
  abbrev port_next : Bool → List ℕ → List ℕ
  port_next last ks = cond last (cleared_below ks (min n most_ports)) ks

  abbrev slot_next : ℕ
  slot_next = (after_slot u store).slot

  slot_at : (e : Bool) → ends_frame u ≡ e → slot_next ≡ cond e 0 (u.slot + 1)
  unfolding after_slot
  slot_at e h = ap (λ (e : Bool). cond e 0 (u.slot + 1)) h

  port_paced : (rs ks : List ℕ) → length rs ≡ n → Paced rs T u.slot ks
      → Paced rs T slot_next (port_next (ends_frame u) (counts_after ks (choose_of rs ks T u.slot)))
  unfolding after_slot
  port_paced rs ks l p = go (ends_frame u)
    where
      next : Paced rs T (suc u.slot) (counts_after ks (choose_of rs ks T u.slot))
      next = paced_step p ok.in_frame

      go : (e : Bool) → Paced rs T (cond e 0 (u.slot + 1)) (port_next e (counts_after ks (choose_of rs ks T u.slot)))
      go true = paced_start (paced_fits p) (rw l (cleared_starts _ n (paced_full next) ok.plan.few_ports))
      go false = rw add-one next

  board_next : (i : ℕ) → i < n → (get_or (after_slot u store).fabric.boards i no_multiplexer).served ≡ port_next (ends_frame u) (counts_after (board_ks i) (choose_of (row i) (board_ks i) T u.slot))
  unfolding after_slot
  board_next i hi =
      ap (λ (m : Multiplexer). m.served) (counts_at_lem n (ends_frame u) (board_choices u) u.fabric.boards n i hi (omega (arith, ok.plan.few_ports, ok.boards_size)))
      ∙ rw (board_chooses i hi) (port_served (ends_frame u) _ _)

  head_next : (j : ℕ) → j < n → (get_or (after_slot u store).fabric.heads j no_multiplexer).served ≡ port_next (ends_frame u) (counts_after (head_ks j) (choose_of (column j) (head_ks j) T u.slot))
  unfolding after_slot
  head_next j hj =
      ap (λ (m : Multiplexer). m.served) (counts_at_lem n (ends_frame u) (head_choices u) u.fabric.heads n j hj (omega (arith, ok.plan.few_ports, ok.heads_size)))
      ∙ rw (head_chooses j hj) (port_served (ends_frame u) _ _)

  -- each port after the slot
  boards_paced : (i : ℕ) → i < n → Paced (row i) T slot_next (get_or (after_slot u store).fabric.boards i no_multiplexer).served
  boards_paced i hi = rw (board_next i hi) (port_paced (row i) (board_ks i) (row_length (plan_rates u.running) n i ok.plan.square hi) (ok.boards i hi))

  heads_paced : (j : ℕ) → j < n → Paced (column j) T slot_next (get_or (after_slot u store).fabric.heads j no_multiplexer).served
  heads_paced j hj = rw (head_next j hj) (port_paced (column j) (head_ks j) (column_length (plan_rates u.running) n j) (ok.heads j hj))

  -- at a frame's end a port has given each flow its rate
  port_full : (rs ks : List ℕ) → Paced rs T u.slot ks → suc u.slot ≡ T → (f : ℕ) → f < length rs
      → get_or (counts_after ks (choose_of rs ks T u.slot)) f 0 ≡ get_or rs f 0
  port_full rs ks p e f l =
      paced_end (subst (λ (t : ℕ). Paced rs T t (counts_after ks (choose_of rs ks T u.slot))) e (paced_step p ok.in_frame)) f l

  module _ (i j : ℕ) (hi : i < n) (hj : j < n) where
    abbrev NextThere : Type 0
    NextThere =
        Next T (rate_at u.running i j) u.slot (board_count u i j) (head_count u i j) (b i j hi hj) (h i j hi hj)
        slot_next (board_count (after_slot u store) i j) (head_count (after_slot u store) i j)

    head_near_after : Near T (rate_at u.running i j) (head_count (after_slot u store) i j) slot_next
    head_near_after =
        let e = column_rate (plan_rates u.running) n i j hi in
        record {
          early = rw e at (paced_early (heads_paced j hj) i (omega (arith, column_is ok i j hi hj)));
          late = rw e at (paced_late (heads_paced j hj) i (omega (arith, column_is ok i j hi hj)));
        }

    next_there : NextThere
    next_there = go (ends_frame u) refl
      where
        board_is : board_count (after_slot u store) i j ≡ get_or (port_next (ends_frame u) (board_after i j hi hj)) j 0
        board_is = ap (λ (ks : List ℕ). get_or ks j 0) (board_next i hi)

        head_is : head_count (after_slot u store) i j ≡ get_or (port_next (ends_frame u) (head_after i j hi hj)) i 0
        head_is = ap (λ (ks : List ℕ). get_or ks i 0) (head_next j hj)

        go : (e : Bool) → ends_frame u ≡ e → NextThere
        go true e =
            let last : suc u.slot ≡ T = sym (add-one u.slot) ∙ eqb-true (u.slot + 1) T e in
            ends last
            (sym (board_counted i j hi hj) ∙ port_full (row i) (board_ks i) (ok.boards i hi) last j (omega (arith, row_is ok i j hi hj)) ∙ row_rate (plan_rates u.running) n i j hj)
            (sym (head_counted i j hi hj) ∙ port_full (column j) (head_ks j) (ok.heads j hj) last i (omega (arith, column_is ok i j hi hj)) ∙ column_rate (plan_rates u.running) n i j hi)
            (slot_at true e)
            (board_is ∙ rw e (cleared_zero _ (min n most_ports) j (omega (arith, ok.plan.few_ports))))
            (head_is ∙ rw e (cleared_zero _ (min n most_ports) i (omega (arith, ok.plan.few_ports))))
        go false e =
            let more : suc u.slot ≡ T → ⊥ = λ l. eqb-false (u.slot + 1) T e (add-one u.slot ∙ l) in
            goes_on (omega (arith, ok.in_frame))
            (slot_at false e ∙ add-one u.slot)
            (board_is ∙ rw e (board_counted i j hi hj))
            (head_is ∙ rw e (head_counted i j hi hj))
            head_near_after

    pub flow_slot : FlowSlot store T (rate_at u.running i j) u.depth (flow_of n i j)
        u.slot slot_next (board_count u i j) (board_count (after_slot u store) i j) (head_count u i j) (head_count (after_slot u store) i j)
        (b i j hi hj) (h i j hi hj)
        (queue_at u (flow_of n i j)) (get_or (slot_moves u store).queues (flow_of n i j) no_queue)
        (point_at u (flow_of n i j)) (get_or (slot_moves u store).crosspoints (flow_of n i j) no_point) (get_or (slot_sends u store).crosspoints (flow_of n i j) no_point)
        (cells_with j (answer_of (slot_moves u store).answers i)) (cells_with i (answer_of (slot_sends u store).answers j))
        (empties j (answer_of (slot_moves u store).answers i)) (empties i (answer_of (slot_sends u store).answers j))
    flow_slot =
        record {
          some_slot = ok.plan.some_slot;
          board_near = board_near ok i j hi hj;
          head_near = head_near ok i j hi hj;
          board_once = services_le_one (choice_at (board_choices u) i) j;
          head_once = services_le_one (choice_at (head_choices u) j) i;
          board_eligible = λ (one : 1 ≤ b i j hi hj). board_may i j hi hj (served_flow (choice_at (board_choices u) i) j (omega (arith, services_le_one (choice_at (board_choices u) i) j)));
          head_eligible = λ (one : 1 ≤ h i j hi hj). head_may i j hi hj (served_flow (choice_at (head_choices u) j) i (omega (arith, services_le_one (choice_at (head_choices u) j) i)));
          balanced = ok.balanced i j hi hj;
          board = board_there i j hi hj;
          head = head_there i j hi hj;
          next = next_there;
        }

  slot_within : slot_next < T
  slot_within = go (ends_frame u) refl
    where
      go : (e : Bool) → ends_frame u ≡ e → slot_next < T
      go true e = omega (arith, slot_at true e, ok.plan.some_slot)
      go false e = let more = eqb-false (u.slot + 1) T e in omega (arith, slot_at false e, ok.in_frame)

  pub slot_sound : Sound (after_slot u store) store
  unfolding after_slot
  slot_sound =
      record {
        plan = ok.plan;
        waiting = ok.waiting;
        some_depth = ok.some_depth;
        few_cells = ok.few_cells;
        in_frame = slot_within;
        running_size = ok.running_size;
        waiting_size = ok.waiting_size;
        queues_size = (moves_length n u.depth store (board_choices u) u.fabric.queues u.fabric.crosspoints n).queues_kept ∙ ok.queues_size;
        points_size = (sends_length n (head_choices u) moves.crosspoints n).points_kept ∙ points_full;
        boards_size = counts_length n (ends_frame u) (board_choices u) u.fabric.boards n ∙ ok.boards_size;
        heads_size = counts_length n (ends_frame u) (head_choices u) u.fabric.heads n ∙ ok.heads_size;
        store_size = ok.store_size;
        place = λ i j hi hj. (board_there i j hi hj).place;
        queued = λ i j hi hj. omega (arith, (board_there i j hi hj).shorter, ok.queued i j hi hj);
        two_places = λ i j hi hj. (head_there i j hi hj).size;
        boards = boards_paced;
        heads = heads_paced;
        balanced = λ i j hi hj. slot_balanced (flow_slot i j hi hj);
      }
