-- From one event to every run: where each event keeps what is known of the switch, and each flow's books, the promise holds.
use Prim.Native.Nat.{ℕ, ◌+◌, ◌*◌, ◌<◌, ◌≤◌}
use mathlib.Core.Path.{◌≡◌, ap, sym, subst, ◌∙◌}
use mathlib.Core.Logic.{⊎_elim}
use mathlib.Core.List.{List, [], ◌∷◌, ◌++◌, append_assoc, append-nil}
use native.Mathlib.Nat.{le-mul_of_pos_right, zero-mul, zero-div}
use native.Mathlib.Omega.{arith}
use lib.ListN.{length, length-append}
use Rattle.plan.specs.Lines.{flow_of}
use Rattle.plan.proofs.BelowLaws.{lt_or_le}
use Rattle.crossbar.specs.declared.state.Switch.{Switch}
use Rattle.runs.specs.Event.{Event, state_after, store_after}
use Rattle.runs.specs.Run.{Happens, Follow, final_state, final_store}
use Rattle.runs.specs.Flow.{collect, accepted_in, moved_in, left_in, accepted, moved, left, slots, NeverEmpty, HasRate, share_up, share_down}
use Rattle.runs.specs.Promise.{point_cells, queue_cells, Holds}
use Rattle.runs.proofs.RunLaws.{collect_append, final_state_append, follow_append}
use Rattle.runs.proofs.ShareLaws.{share_at_most, share_at_least, share_whole}
use Rattle.runs.proofs.LedgerLaws.{held, by_board, by_head, head_services, AtRest, NearEnds, Ledger, ledger_none, ledger_append}

-- one event, for the flow (i, j) of a switch of n ports and frames of T slots
pub record EventLaw (n T i j : ℕ) (s : Switch) (store : List ℕ) (e : Event) : Type 0 where
  pub ledger : Ledger n T i j s (state_after e) (e ∷ [])
  -- the crosspoint after the moves
  pub room : held n T i j s + length (moved_in i j e) ≤ 2
  pub crossing : point_cells s (flow_of n i j) ++ moved_in i j e ≡ left_in i j e ++ point_cells (state_after e) (flow_of n i j)
  pub queue : queue_cells s store (flow_of n i j) ++ accepted_in i j e ≡ moved_in i j e ++ queue_cells (state_after e) (store_after store e) (flow_of n i j)

-- what is known of one flow between two calls
pub record FlowState (n T i j : ℕ) (s : Switch) : Type 0 where
  -- no more cells in the crosspoint than the board is ahead of the head, and one
  pub balanced : held n T i j s + by_head n T i j s ≤ by_board n T i j s + 1
  pub board_ahead : by_board n T i j s ≤ by_head n T i j s + 1
  pub room : held n T i j s ≤ 2

module _
    (n T i j : ℕ)
    (some_slot : 1 ≤ T)
    (Sound : Switch → List ℕ → Type 0)
    (keeps : (s : Switch) (store : List ℕ) (e : Event) → Sound s store → Happens s store e → Sound (state_after e) (store_after store e))
    (knows : (s : Switch) (store : List ℕ) → Sound s store → FlowState n T i j s)
    (law : (s : Switch) (store : List ℕ) (e : Event) → Sound s store → Happens s store e → EventLaw n T i j s store e)
  where
    sound_run : (s : Switch) (store : List ℕ) (es : List Event) → Sound s store → Follow s store es → Sound (final_state s es) (final_store store es)
    sound_run s store [] ok h = ok
    sound_run s store (e ∷ es) ok h = sound_run (state_after e) (store_after store e) es (keeps s store e ok h.0) h.1

    ledger_run : (s : Switch) (store : List ℕ) (es : List Event) → Sound s store → Follow s store es → Ledger n T i j s (final_state s es) es
    ledger_run s store [] ok h = ledger_none n T i j s
    ledger_run s store (e ∷ es) ok h =
        ledger_append n T i j (e ∷ []) es (law s store e ok h.0).ledger
        (ledger_run (state_after e) (store_after store e) es (keeps s store e ok h.0) h.1)

    pub crossing_run : (s : Switch) (store : List ℕ) (es : List Event) → Sound s store → Follow s store es
        → point_cells s (flow_of n i j) ++ moved i j es ≡ left i j es ++ point_cells (final_state s es) (flow_of n i j)
    unfolding collect
    crossing_run s store [] ok h = append-nil _
    crossing_run s store (e ∷ es) ok h =
        rw (
          ← append_assoc,
          (law s store e ok h.0).crossing,
          append_assoc,
          crossing_run (state_after e) (store_after store e) es (keeps s store e ok h.0) h.1,
          append_assoc,
        )

    pub queue_run : (s : Switch) (store : List ℕ) (es : List Event) → Sound s store → Follow s store es
        → queue_cells s store (flow_of n i j) ++ accepted i j es ≡ moved i j es ++ queue_cells (final_state s es) (final_store store es) (flow_of n i j)
    unfolding collect
    queue_run s store [] ok h = append-nil _
    queue_run s store (e ∷ es) ok h =
        rw (
          ← append_assoc,
          (law s store e ok h.0).queue,
          append_assoc,
          queue_run (state_after e) (store_after store e) es (keeps s store e ok h.0) h.1,
          append_assoc,
        )

    -- Stretches of a run that begins in s₀ with a store, where the flow has no cell yet.
    module _
        (s₀ : Switch)
        (store₀ : List ℕ)
        (sound : Sound s₀ store₀)
        (no_cell : held n T i j s₀ ≡ 0)
        (es : List Event)
        (follow : Follow s₀ store₀ es)
      where
        -- a first part of the run
        module _ (before after : List Event) (cut : es ≡ before ++ after) where
          follows : Follow s₀ store₀ before × Follow (final_state s₀ before) (final_store store₀ before) after
          follows = follow_append s₀ store₀ before after (subst (Follow s₀ store₀) cut follow)

          sound_there : Sound (final_state s₀ before) (final_store store₀ before)
          sound_there = sound_run s₀ store₀ before sound follows.0

          known_there : FlowState n T i j (final_state s₀ before)
          known_there = knows _ _ sound_there

          ledger_there : Ledger n T i j s₀ (final_state s₀ before) before
          ledger_there = ledger_run s₀ store₀ before sound follows.0

          pub holds_between : Holds i j before before
          holds_between =
              record {
                never_below = omega (arith, ledger_there.cells, no_cell);
                two_at_most = omega (arith, ledger_there.cells, no_cell, known_there.room);
              }

        pub holds_midway : (before : List Event) (e : Event) (after : List Event) → es ≡ before ++ (e ∷ after) → Holds i j (before ++ (e ∷ [])) before
        unfolding collect
        holds_midway before e after cut =
            let one = law _ _ e (sound_there before (e ∷ after) cut) (follows before (e ∷ after) cut).1.0 in
            let books = ledger_there before (e ∷ after) cut in
            let into = ap length (collect_append (moved_in i j) before (e ∷ [])) ∙ length-append (moved i j before) (moved_in i j e ++ []) in
            let last = length-append (moved_in i j e) [] in
            record {
              never_below = omega (arith, books.cells, no_cell);
              two_at_most = omega (arith, books.cells, no_cell, one.room);
            }

        module _ (before stretch after : List Event) (a : ℕ) (cut : es ≡ before ++ (stretch ++ after)) (rate : HasRate i j a stretch) where
          from : Switch
          from = final_state s₀ before

          upto : Switch
          upto = final_state from stretch

          joined : es ≡ (before ++ stretch) ++ after
          joined = cut ∙ sym (append_assoc before stretch after)

          there : Follow from (final_store store₀ before) stretch
          unfolding from
          there = (follow_append _ _ stretch after (follows before (stretch ++ after) cut).1).0

          known_from : FlowState n T i j from
          unfolding from
          known_from = known_there before (stretch ++ after) cut

          known_upto : FlowState n T i j upto
          unfolding from upto
          known_upto = subst (FlowState n T i j) (final_state_append s₀ before stretch) (known_there (before ++ stretch) after joined)

          books : Ledger n T i j from upto stretch
          unfolding from upto
          books = ledger_run from (final_store store₀ before) stretch (sound_there before (stretch ++ after) cut) there

          S : ℕ
          S = head_services n T i j stretch

          at_rest : slots stretch ≡ 0 → by_head n T i j upto ≡ by_head n T i j from → upto.slot ≡ from.slot → S ≡ 0
          unfolding S
          at_rest p d t =
              omega (
                arith,
                books.share a rate,
                ap (λ (x : ℕ). x * a) p,
                ap (λ (x : ℕ). x * T) d,
                ap (λ (x : ℕ). x * a) t,
                le-mul_of_pos_right {m = T} (head_services n T i j stretch) some_slot,
              )

          pub at_most : length (left i j stretch) ≤ share_up (slots stretch) a T + 1
          unfolding S
          at_most =
              ⊎_elim
              (λ (p : AtRest n T i j from upto stretch). omega (arith, at_rest p.0 p.1 p.2))
              (λ (p : NearEnds n T i j a from upto).
              omega (arith, share_at_most T a _ _ _ _ _ _ (books.share a rate) p.0 p.1))
              (books.edges a rate)

          services_at_least : share_down (slots stretch) a T ≤ S + 1
          unfolding S
          services_at_least =
              ⊎_elim
              (λ (p : AtRest n T i j from upto stretch). rw (p.0, zero-mul, zero-div) (omega arith))
              (λ (p : NearEnds n T i j a from upto).
              share_at_least T a _ _ _ _ _ _ (books.share a rate) p.0 p.1)
              (books.edges a rate)

          -- where the board begins ahead, the head has not passed its share
          services_whole : by_head n T i j from < by_board n T i j from → share_down (slots stretch) a T ≤ S
          unfolding S
          services_whole ahead =
              ⊎_elim
              (λ (p : AtRest n T i j from upto stretch). rw (p.0, zero-mul, zero-div) (omega arith))
              (λ (p : NearEnds n T i j a from upto).
              let one : by_board n T i j from ≡ by_head n T i j from + 1 = omega (arith, known_from.board_ahead) in
              share_whole T a _ _ _ _ _ _ (books.share a rate) p.0 p.1 (omega (arith, p.2, ap (λ (x : ℕ). x * T) one)))
              (books.edges a rate)

          -- The head is empty twice at most, and once at most where the board doesn't begin ahead.
          pub at_least : NeverEmpty i j stretch → share_down (slots stretch) a T ≤ length (left i j stretch) + 2
          unfolding S
          at_least never =
              ⊎_elim
              (λ (ahead : by_head n T i j from < by_board n T i j from).
              omega (arith, services_whole ahead, books.empties, never, known_from.board_ahead, known_upto.balanced))
              (λ (level : by_board n T i j from ≤ by_head n T i j from).
              omega (arith, services_at_least, books.empties, never, known_upto.balanced))
              (lt_or_le (by_head n T i j from) (by_board n T i j from))
