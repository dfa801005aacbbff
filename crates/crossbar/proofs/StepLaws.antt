-- The step, put together from what its parts answer: the slot of the ports of a valid state, and the step that is refused,
-- in which no port acts.
use Prim.Native.Nat.{ℕ, zero, suc, ◌+◌, ◌*◌, ◌<◌, ◌≤◌}
use mathlib.Core.Path.{◌≡◌, refl, ap, sym, subst, ◌∙◌}
use mathlib.Core.Bool.{Bool, true, false, cond}
use mathlib.Core.Logic.{◌⊎◌, inl, inr, ⊎_elim}
use mathlib.Core.List.{List}
use native.Mathlib.Omega.{arith}
use lib.Dec.{eqb}
use lib.ListN.{length, take}
use lib.Seq.{length-take-le}
use borrow.Author.Tests.{eq-eqb, ne_eqb}
use Rattle.std.specs.Prelude.{Option, Ok}
use Rattle.refusal.specs.Verdict.{Verdict}
use Rattle.plan.specs.Range.{most_ports, most_flows}
use Rattle.plan.specs.Desk.{row_of, desk_of}
use Rattle.plan.specs.declared.Plan.{Plan}
use Rattle.plan.proofs.BelowLaws.{and_true, lt_or_le}
use Rattle.plan.proofs.DeskLaws.{desk_row}
use Rattle.plan.proofs.LineLaws.{square_small}
use Rattle.multiplexer.specs.Window.{column_of}
use Rattle.multiplexer.proofs.PortLaws.{row_length, column_length}
use Rattle.planpair.specs.Takeover.{replaced, cleared}
use Rattle.fabric.specs.Answer.{all_idle}
use Rattle.side.specs.Choices.{CanChoose, ServedAs}
use Rattle.side.specs.Columns.{transposed}
use Rattle.side.specs.Counts.{counts_of, ports_below}
use Rattle.fabric.specs.Moves.{room_for_all, CanMoveAll}
use Rattle.fabric.specs.Slot.{run_of}
use Rattle.side.specs.declared.choices.Side.{Side}
use Rattle.fabric.specs.declared.slot.AfterSlot.{AfterSlot}
use Rattle.side.proofs.ChoiceLaws.{served_ext, served_counts, desk_named}
use Rattle.side.proofs.ColumnLaws.{columns, columns_length, desk_columns}
use Rattle.fabric.proofs.MoveLaws.{room_none}
use Rattle.fabric.proofs.SlotLaws.{run_none, none_chooses}
use Rattle.crossbar.specs.State.{store_fits}
use Rattle.crossbar.specs.Valid.{valid_of, IsValid}
use Rattle.crossbar.specs.Takeover.{takes_over, takeover_of}
use Rattle.crossbar.specs.Step.{board_choices, head_choices, slot_moves, slot_sends, has_room, ends_frame, after_slot, slot_reply, refused_reply, verdict_by, step_verdict, step_of, Judged}
use Rattle.crossbar.specs.declared.state.SlotReply.{SlotReply}
use Rattle.crossbar.specs.declared.state.Switch.{Switch}
use Rattle.crossbar.proofs.OwnedLaws.{Sized}
use Rattle.crossbar.proofs.ValidLaws.{valid}
use Rattle.crossbar.proofs.StoreLaws.{store_length}
use Rattle.crossbar.proofs.TakeoverLaws.{taken, not_taken, takes_waiting, Ruled, ruled}

-- Lists of N × N out of the arrays of the plans.

-- the list that rules the slot
abbrev pub ruling : Switch → ℕ → List ℕ
ruling s n = cond (takes_over s) (take (n * n) s.waiting.rates) (take (n * n) s.running.rates)

module _ (s : Switch) (size : Sized s) (n : ℕ) (few : n ≤ most_ports) where
  pub running_part : length (take (n * n) s.running.rates) ≡ n * n
  running_part = length-take-le (n * n) s.running.rates (omega (arith, size.running, square_small n few))

  pub waiting_part : length (take (n * n) s.waiting.rates) ≡ n * n
  waiting_part = length-take-le (n * n) s.waiting.rates (omega (arith, size.waiting, square_small n few))

  pub ruling_part : length (ruling s n) ≡ n * n
  ruling_part = go (takes_over s)
    where
      go : (b : Bool) → length (cond b (take (n * n) s.waiting.rates) (take (n * n) s.running.rates)) ≡ n * n
      go true = waiting_part
      go false = running_part

-- its columns, as the rows of an array
abbrev pub columns_in : Switch → ℕ → List ℕ → List ℕ
columns_in s n zeros = columns (ruling s n) n zeros

-- A slot in which all ports of a valid state choose.
module _ (s : Switch) (size : Sized s) (v : IsValid s) (store : List ℕ) (boards heads : Side) where
  abbrev n : ℕ
  n = s.running.ports

  abbrev T : ℕ
  T = s.running.frame

  abbrev u : Switch
  u = takeover_of s

  r : Ruled s u
  r = ruled s size v

  few : n ≤ most_ports
  few = v.running.few_ports

  rows : (p : ℕ) → p < n → length (row_of (ruling s n) n p) ≡ n
  rows p l = row_length (ruling s n) n p (ruling_part s size n few) l

  module _ (by-desk : ServedAs (λ p. desk_of (take (n * n) s.running.rates) (take (n * n) s.waiting.rates) n p (takes_over s)) s.fabric.boards T s.slot n boards) where
    by_rows : ServedAs (row_of (ruling s n) n) s.fabric.boards T s.slot n boards
    by_rows =
        served_ext _ _ _ _ _ _ _
        (λ p l. desk_row _ _ n p (takes_over s) few l (running_part s size n few) (waiting_part s size n few))
        by-desk

    boards_are : boards.choices ≡ board_choices u
    unfolding board_choices
    boards_are = by_rows.choices ∙ (rw (r.rates, r.ports, r.frame, r.slot, r.fabric) refl)

    -- number 13 is judged of the plan after a takeover
    pub room_is : room_for_all n boards.choices s.fabric.queues s.fabric.crosspoints ≡ has_room u
    room_is = rw (boards_are, r.ports, r.fabric) refl

    module _ (zeros : List ℕ) (full : length zeros ≡ most_flows)
        (by-columns : ServedAs (λ p. desk_of (columns (ruling s n) n zeros) (columns (ruling s n) n zeros) n p false) s.fabric.heads T s.slot n heads)
      where
        by_heads : ServedAs (column_of (ruling s n) n) s.fabric.heads T s.slot n heads
        by_heads = served_ext _ _ _ _ _ _ _ (λ p l. desk_columns (ruling s n) n zeros few full p l) by-columns

        heads_are : heads.choices ≡ head_choices u
        unfolding head_choices
        heads_are = by_heads.choices ∙ (rw (r.rates, r.ports, r.frame, r.slot, r.fabric) refl)

        board_counts : ports_below boards.ports s.fabric.boards n ≡ counts_of n (eqb (s.slot + 1) T) (board_choices u) s.fabric.boards n
        board_counts =
            served_counts _ _ T s.slot n boards few rows by_rows
            ∙ ap (λ (c : List (Option ℕ)). counts_of n (eqb (s.slot + 1) T) c s.fabric.boards n) (sym by_rows.choices ∙ boards_are)

        head_counts : ports_below heads.ports s.fabric.heads n ≡ counts_of n (eqb (s.slot + 1) T) (head_choices u) s.fabric.heads n
        head_counts =
            served_counts _ _ T s.slot n heads few (λ p l. column_length (ruling s n) n p) by_heads
            ∙ ap (λ (c : List (Option ℕ)). counts_of n (eqb (s.slot + 1) T) c s.fabric.heads n) (sym by_heads.choices ∙ heads_are)

        pub ran : run_of n s.depth store boards heads s.fabric
            ≡ record { fabric = (after_slot u store).fabric; moves = (slot_moves u store).answers; sends = (slot_sends u store).answers }
        unfolding after_slot
        ran = rw (boards_are, heads_are, board_counts, head_counts, r.ports, r.frame, r.depth, r.slot, r.fabric) refl

some_square : (n k : ℕ) → k < n * n → 1 ≤ n
some_square zero k l = absurd (omega arith)
some_square (suc n) k l = omega arith

-- What is known once 12 and 7 are judged.
module _ (s : Switch) (len n : ℕ) (valid? fits : Bool) (j : Judged s len n valid? fits) where
  -- the state is valid, the store has its length, and all ports choose
  pub record Fits : Type 0 where
    pub passed : valid_of s ≡ true
    pub fitting : store_fits s.running.ports s.depth len ≡ true
    pub all : n ≡ s.running.ports

  fits_well : fits ≡ true → Fits
  fits_well e =
      let both = and_true valid? (store_fits s.running.ports s.depth len) (sym j.fits_is ∙ e) in
      record { passed = sym j.valid_is ∙ both.0; fitting = both.1; all = j.choosing ∙ (rw e refl) }

  pub none_choose : fits ≡ false → n ≡ 0
  none_choose e = j.choosing ∙ (rw e refl)

  pub some_choose : 1 ≤ n → Fits
  some_choose l = go fits refl
    where
      go : (b : Bool) → fits ≡ b → Fits
      go true e = fits_well e
      go false e = absurd (omega (arith, none_choose e))

  pub few_choose : n ≤ most_ports
  few_choose = go fits refl
    where
      go : (b : Bool) → fits ≡ b → n ≤ most_ports
      go true e = let f = fits_well e in omega (arith, f.all, (valid s f.passed).running.few_ports)
      go false e = omega (arith, none_choose e)

-- The step, by what its tests show.
module _ (s : Switch) (store : List ℕ) where
  step_invalid : valid_of s ≡ false → refused_reply s (verdict_by false false true) ≡ step_of s store
  unfolding step_of step_verdict
  step_invalid e = simp e

  step_misfit : valid_of s ≡ true → store_fits s.running.ports s.depth (length store) ≡ false → refused_reply s (verdict_by true false true) ≡ step_of s store
  unfolding step_of step_verdict
  step_misfit e f = simp (e, f)

  step_full : valid_of s ≡ true → store_fits s.running.ports s.depth (length store) ≡ true → has_room (takeover_of s) ≡ false
      → refused_reply s (verdict_by true true false) ≡ step_of s store
  unfolding step_of step_verdict
  step_full e f g = simp (e, f, g)

  pub step_done : valid_of s ≡ true → store_fits s.running.ports s.depth (length store) ≡ true → has_room (takeover_of s) ≡ true
      → slot_reply (takeover_of s) store ≡ step_of s store
  unfolding step_of step_verdict
  step_done e f g = simp (e, f, g)

-- The slot, as the code puts it together: of the n ports that choose, m act.
module _
    (s : Switch) (store : List ℕ) (size : Sized s)
    (n : ℕ) (valid? fits : Bool) (j : Judged s (length store) n valid? fits)
    (boards : Side)
    (by-desk : ServedAs (λ p. desk_of (take (n * n) s.running.rates) (take (n * n) s.waiting.rates) n p (takes_over s)) s.fabric.boards s.running.frame s.slot n boards)
  where
    abbrev board_choices_lem : List (Option ℕ)
    board_choices_lem = boards.choices

    few_ports : n ≤ most_ports
    few_ports = few_choose s (length store) n valid? fits j

    pub boards_can : CanChoose n board_choices_lem
    boards_can =
        subst (CanChoose n) (sym by-desk.choices)
        (desk_named _ _ (takes_over s) s.fabric.boards s.running.frame s.slot n few_ports (running_part s size n few_ports) (waiting_part s size n few_ports))

    module _ (room : Bool) (room-test : room ≡ room_for_all n board_choices_lem s.fabric.queues s.fabric.crosspoints) (m : ℕ) (acting-is : m ≡ cond room n 0) where
      -- where a port acts, the step is accepted
      pub record Acts : Type 0 where
        pub fit : Fits s (length store) n valid? fits j
        pub rules : IsValid s
        pub roomy : room ≡ true
        pub same : m ≡ n

      pub acts : 1 ≤ m → Acts
      acts l = go room refl
        where
          go : (b : Bool) → room ≡ b → Acts
          go true e =
              let same : m ≡ n = acting-is ∙ (rw e refl) in
              let f = some_choose s (length store) n valid? fits j (omega arith) in
              record { fit = f; rules = valid s f.passed; roomy = e; same = same }
          go false e = let none : m ≡ 0 = acting-is ∙ (rw e refl) in absurd (omega arith)

      -- a plan that takes over is that of a valid state
      pub few_taken : takes_over s ≡ true → 1 ≤ m → s.waiting.ports ≤ most_ports
      few_taken e l = ((acts l).rules.waiting (takes_waiting s e)).few_ports

      -- and so is a slot that goes on
      pub next_fits : 1 ≤ m → s.slot + 1 ≤ 4294967295
      next_fits l = let v = (acts l).rules in omega (arith, v.in_frame, v.running.few_slots)

      pub few_act : m ≤ most_ports
      few_act = go room refl
        where
          go : (b : Bool) → room ≡ b → m ≤ most_ports
          go true e = let same : m ≡ n = acting-is ∙ (rw e refl) in omega (arith, few_ports)
          go false e = let none : m ≡ 0 = acting-is ∙ (rw e refl) in omega arith

      pub moves_can : CanMoveAll m s.depth (length store) board_choices_lem s.fabric.queues s.fabric.crosspoints
      moves_can = go room refl
        where
          f : 1 ≤ n → Fits s (length store) n valid? fits j
          f l = some_choose s (length store) n valid? fits j l

          go : (b : Bool) → room ≡ b → CanMoveAll m s.depth (length store) board_choices_lem s.fabric.queues s.fabric.crosspoints
          go true e =
              let same : m ≡ n = acting-is ∙ (rw e refl) in
              rw same
              record {
                choosing = boards_can;
                some_depth = λ l. (valid s (f l).passed).some_place;
                few_cells = λ l. (valid s (f l).passed).few_places;
                fits = λ l. store_length _ _ _ (f l).fitting ∙ (rw (f l).all refl);
                room = sym room-test ∙ e;
                places = λ k l. let w = f (some_square n k l) in (valid s w.passed).queue_place k (rw w.all at l);
              }
          go false e =
              let none : m ≡ 0 = acting-is ∙ (rw e refl) in
              rw none
              record {
                choosing = none_chooses board_choices_lem;
                some_depth = λ l. absurd (omega arith);
                few_cells = λ l. absurd (omega arith);
                fits = λ l. absurd (omega arith);
                room = room_none 0 board_choices_lem s.fabric.queues s.fabric.crosspoints;
                places = λ k l. absurd (omega arith);
              }

      module _
          (zeros columns : List ℕ) (full : length zeros ≡ most_flows) (are-columns : columns ≡ transposed (ruling s n) n zeros n)
          (heads : Side)
          (by-columns : ServedAs (λ p. desk_of (take (m * m) columns) (take (m * m) columns) m p false) s.fabric.heads s.running.frame s.slot m heads)
        where
          -- the heads that act are all, or none
          heads_by : m ≡ n → ServedAs (λ p. desk_of (columns_in s n zeros) (columns_in s n zeros) n p false) s.fabric.heads s.running.frame s.slot n heads
          heads_by same = rw (are-columns, same) at by-columns

          pub heads_can : CanChoose m heads.choices
          heads_can = go room refl
            where
              go : (b : Bool) → room ≡ b → CanChoose m heads.choices
              go true e =
                  let same : m ≡ n = acting-is ∙ (rw e refl) in
                  let long = columns_length (ruling s n) n zeros few_ports full in
                  rw (same, (heads_by same).choices) (desk_named _ _ false s.fabric.heads s.running.frame s.slot n few_ports long long)
              go false e =
                  let none : m ≡ 0 = acting-is ∙ (rw e refl) in
                  rw none (none_chooses heads.choices)

          module _
              (run : AfterSlot) (run_is : run ≡ run_of m s.depth store boards heads s.fabric)
              (slot : ℕ) (slot_is : slot ≡ cond (eqb m 0) s.slot (cond (eqb (s.slot + 1) s.running.frame) 0 (s.slot + 1)))
              (verdict : Verdict) (verdict_is : verdict ≡ verdict_by valid? fits room)
            where
              -- what the code answers, with these plans
              abbrev answer : Plan → Plan → ℕ → SlotReply
              answer running waiting waits =
                  record {
                    state = record { running = running; waiting = waiting; waits = waits; depth = s.depth; slot = slot; fabric = run.fabric };
                    verdict = verdict;
                    moves = run.moves;
                    sends = run.sends;
                  }

              -- all ports act
              module _ (a : Acts) where
                all : n ≡ s.running.ports
                all = a.fit.all

                by_rows' : ServedAs (λ p. desk_of (take (s.running.ports * s.running.ports) s.running.rates) (take (s.running.ports * s.running.ports) s.waiting.rates) s.running.ports p (takes_over s)) s.fabric.boards s.running.frame s.slot s.running.ports boards
                by_rows' = rw all at by-desk

                ran' : run ≡ record { fabric = (after_slot (takeover_of s) store).fabric; moves = (slot_moves (takeover_of s) store).answers; sends = (slot_sends (takeover_of s) store).answers }
                ran' = run_is ∙ (rw (a.same, all) (ran s size a.rules store boards heads by_rows' zeros full (rw all at (heads_by a.same))))

              accepted : 1 ≤ m → answer (takeover_of s).running (takeover_of s).waiting (takeover_of s).waits ≡ step_of s store
              unfolding after_slot
              accepted l = whole ∙ step_done s store a.fit.passed a.fit.fitting roomy
                where
                  a : Acts
                  a = acts l

                  k : Ruled s (takeover_of s)
                  k = ruled s size a.rules

                  roomy : has_room (takeover_of s) ≡ true
                  roomy = sym (room_is s size a.rules store boards heads (by_rows' a)) ∙ (rw (← all a) (sym room-test ∙ a.roomy))

                  told : verdict ≡ Ok tt
                  told =
                      let v : valid? ≡ true = j.valid_is ∙ a.fit.passed in
                      let f : fits ≡ true = j.fits_is ∙ (rw (v, a.fit.fitting) refl) in
                      verdict_is ∙ (rw (v, f, a.roomy) refl)

                  next : slot ≡ cond (ends_frame (takeover_of s)) 0 ((takeover_of s).slot + 1)
                  next = slot_is ∙ (rw (ne_eqb m 0 (λ e. omega arith), k.slot, k.frame) refl)

                  whole : answer (takeover_of s).running (takeover_of s).waiting (takeover_of s).waits ≡ slot_reply (takeover_of s) store
                  whole = rw (ran' a, told, next, k.depth) refl

              refused : m ≡ 0 → answer s.running s.waiting s.waits ≡ step_of s store
              refused none = unchanged ∙ by_tests valid? fits room refl refl refl
                where
                  unchanged : answer s.running s.waiting s.waits ≡ refused_reply s (verdict_by valid? fits room)
                  unchanged =
                      let still : run ≡ record { fabric = s.fabric; moves = all_idle; sends = all_idle } = run_is ∙ (rw none (run_none _ _ _ _ _)) in
                      let here : slot ≡ s.slot = slot_is ∙ (rw (eq-eqb m 0 none) refl) in
                      rw (still, here, verdict_is) refl

                  by_tests : (a b c : Bool) → valid? ≡ a → fits ≡ b → room ≡ c → refused_reply s (verdict_by a b c) ≡ step_of s store
                  by_tests false b c ev ef er = step_invalid s store (sym j.valid_is ∙ ev)
                  by_tests true false c ev ef er = step_misfit s store (sym j.valid_is ∙ ev) (sym (rw ev at j.fits_is) ∙ ef)
                  by_tests true true false ev ef er =
                      let f = fits_well s (length store) n valid? fits j ef in
                      let r = rw f.all at by-desk in
                      step_full s store f.passed f.fitting
                      (sym (room_is s size (valid s f.passed) store boards heads r) ∙ (rw (← f.all) (sym room-test ∙ er)))
                  by_tests true true true ev ef er =
                      let f = fits_well s (length store) n valid? fits j ef in
                      let same : m ≡ n = acting-is ∙ (rw er refl) in
                      absurd (omega (arith, f.all, (valid s f.passed).running.some_port))

              -- a plan takes over in an accepted step
              pub step_takes : takes_over s ≡ true → 1 ≤ m → answer (replaced s.running s.waiting) (cleared s.waiting) 0 ≡ step_of s store
              step_takes e l = rw (taken s e) at (accepted l)

              -- otherwise the plans stay
              pub step_keeps : (takes_over s ≡ false) ⊎ (m ≡ 0) → answer s.running s.waiting s.waits ≡ step_of s store
              step_keeps (inr none) = refused none
              step_keeps (inl e) =
                  ⊎_elim
                  (λ (h : 0 < m). rw (not_taken s e) at (accepted h))
                  (λ (h : m ≤ 0). refused (omega arith))
                  (lt_or_le 0 m)
