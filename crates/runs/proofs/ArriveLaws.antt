-- An arrival keeps the switch sound, and adds its cell to one queue.
use Prim.Native.Nat.{ℕ, ◌+◌, ◌*◌, ◌<◌, ◌≤◌}
use mathlib.Core.Path.{◌≡◌, refl, sym, ◌∙◌}
use mathlib.Core.Bool.{Bool, true, false, cond, ◌&&◌}
use mathlib.Core.List.{List, [], ◌∷◌, ◌++◌, append-nil}
use native.Mathlib.Decide.{ℕ_discrete}
use native.Mathlib.Nat.{mod-lt}
use native.Mathlib.Omega.{arith}
use lib.Dec.{eqb}
use lib.ListN.{length, set, length-set}
use lib.Seq.{get_or-set_same, get_or-set_other}
use borrow.Author.Tests.{eqb-true, eq-eqb}
use Rattle.refusal.specs.Verdict.{Verdict}
use Rattle.std.specs.Prelude.{Ok, Err}
use Rattle.plan.specs.Lines.{flow_of}
use Rattle.plan.proofs.LineLaws.{flow_below, flow_one, square_small, row_within}
use Rattle.fabric.specs.Flow.{no_queue, cell_place}
use Rattle.crossbar.specs.State.{queue_at}
use Rattle.crossbar.specs.Arrive.{with_queues, longer, arrive_verdict, arrive_of, CanArrive}
use Rattle.crossbar.proofs.ArriveLaws.{can_arrive}
use Rattle.fabric.specs.declared.flow.Queue.{Queue}
use Rattle.crossbar.specs.declared.state.Switch.{Switch}
use Rattle.runs.specs.Event.{Event, state_after, store_after}
use Rattle.runs.specs.Event.Lent.{own, other}
use Rattle.runs.specs.Event.Call.{arrive}
use Rattle.runs.specs.Run.{OtherLength, answered}
use Rattle.runs.specs.Promise.{queue_cells}
use Rattle.runs.proofs.CellLaws.{ring_longer, ring_other}
use Rattle.runs.proofs.LedgerLaws.{ledger_still}
use Rattle.runs.proofs.SoundLaws.{Sound, two_between}
use Rattle.runs.proofs.FlowPromiseLaws.{EventLaw}
use Rattle.runs.proofs.QuietLaws.{refused_law, refused_arrival}

module _ {s : Switch} {store : List ℕ} (ok : Sound s store) (p q cell : ℕ) (a : CanArrive s (length store) p q) where
  abbrev n : ℕ
  n = s.running.ports

  abbrev k : ℕ
  k = flow_of s.running.ports p q

  abbrev waiting : Queue
  waiting = queue_at s k

  abbrev next : Switch
  next = with_queues s (set s.fabric.queues k (longer waiting))

  abbrev filled_store : List ℕ
  filled_store = set store (cell_place s.depth k waiting waiting.count) cell

  k_small : k < length s.fabric.queues
  k_small = omega (arith, flow_below n p q a.board a.head, square_small n ok.plan.few_ports, ok.queues_size)

  place_small : cell_place s.depth k waiting waiting.count < length store
  place_small =
      omega (
        arith,
        row_within k (n * n) s.depth (flow_below n p q a.board a.head),
        mod-lt (waiting.place + waiting.count) {m = s.depth} ok.some_depth,
        ok.store_size,
      )

  -- the queue of a flow, after the arrival
  queue_after : (i j : ℕ) → j < n → (flow_of n i j ≡ k → ⊥) → queue_at next (flow_of n i j) ≡ queue_at s (flow_of n i j)
  queue_after i j hj ne = get_or-set_other s.fabric.queues k (flow_of n i j) (longer waiting) no_queue ne

  queue_same : queue_at next k ≡ longer waiting
  queue_same = get_or-set_same s.fabric.queues k (longer waiting) no_queue k_small

  -- a fact of every queue, from the one that changed and those that did not
  each : (P : Queue → Type 0) → ((i j : ℕ) → i < n → j < n → P (queue_at s (flow_of n i j))) → P (longer waiting) → (i j : ℕ) → i < n → j < n → P (queue_at next (flow_of n i j))
  each P old new i j hi hj = go (ℕ_discrete (flow_of n i j) k)
    where
      go : Dec (flow_of n i j ≡ k) → P (queue_at next (flow_of n i j))
      go (yes e) = rw (e, queue_same) new
      go (no ne) = rw (queue_after i j hj ne) (old i j hi hj)

  sound_arrive : Sound next filled_store
  sound_arrive =
      record {
        plan = ok.plan;
        waiting = ok.waiting;
        some_depth = ok.some_depth;
        few_cells = ok.few_cells;
        in_frame = ok.in_frame;
        running_size = ok.running_size;
        waiting_size = ok.waiting_size;
        queues_size = length-set s.fabric.queues k (longer waiting) ∙ ok.queues_size;
        points_size = ok.points_size;
        boards_size = ok.boards_size;
        heads_size = ok.heads_size;
        store_size = length-set store (cell_place s.depth k waiting waiting.count) cell ∙ ok.store_size;
        place = each (λ (x : Queue). x.place < s.depth) ok.place (ok.place p q a.board a.head);
        queued = each (λ (x : Queue). x.count ≤ s.depth) ok.queued (omega (arith, a.room));
        two_places = ok.two_places;
        boards = ok.boards;
        heads = ok.heads;
        balanced = ok.balanced;
      }

  module _ (i j : ℕ) (hi : i < n) (hj : j < n) where
    abbrev mine : Bool
    mine = eqb p i && eqb q j

    mine_true : flow_of n i j ≡ k → mine ≡ true
    mine_true e = let same = flow_one n i j p q hj a.head e in rw (eq-eqb p i (sym same.0), eq-eqb q j (sym same.1)) refl

    mine_false : (flow_of n i j ≡ k → ⊥) → mine ≡ false
    mine_false ne = go (eqb p i) refl (eqb q j) refl
      where
        go : (b : Bool) → eqb p i ≡ b → (c : Bool) → eqb q j ≡ c → (b && c) ≡ false
        go true e true f = absurd (ne (rw (eqb-true p i e, eqb-true q j f) refl))
        go true e false f = refl
        go false e c f = refl

    -- the flow's cells are those before and, if it is this flow's, the one that arrived
    queue_arrive : queue_cells s store (flow_of n i j) ++ cond mine (cell ∷ []) [] ≡ queue_cells next filled_store (flow_of n i j)
    queue_arrive = go (ℕ_discrete (flow_of n i j) k)
      where
        go : Dec (flow_of n i j ≡ k) → queue_cells s store (flow_of n i j) ++ cond mine (cell ∷ []) [] ≡ queue_cells next filled_store (flow_of n i j)
        go (yes e) = rw (mine_true e, e, queue_same) (sym (ring_longer store s.depth k cell waiting (ok.place p q a.board a.head) a.room place_small))
        go (no ne) =
            rw (mine_false ne, queue_after i j hj ne)
            (append-nil _ ∙ sym (ring_other store s.depth (flow_of n i j) k _ cell (queue_at s (flow_of n i j)) ne (mod-lt (waiting.place + waiting.count) ok.some_depth)))

-- The call as a whole, on the run's own store or on a list of another length.
module _ {s : Switch} {store : List ℕ} (ok : Sound s store) (p q cell : ℕ) where
  abbrev Kept : Event → Type 0
  Kept e = Sound (state_after e) (store_after store e)

  pub arrive_own_keeps : Kept (answered s store (arrive own p q cell))
  unfolding arrive_of
  arrive_own_keeps = go (arrive_verdict s (length store) p q) refl
    where
      go : (v : Verdict) → arrive_verdict s (length store) p q ≡ v → Kept (answered s store (arrive own p q cell))
      go (Ok _) e = rw e (sound_arrive ok p q cell (can_arrive s (length store) p q e))
      go (Err r) e = rw e ok

  -- a list of another length is refused
  other_refused : (l : List ℕ) → OtherLength l store → arrive_verdict s (length l) p q ≡ Ok tt → ⊥
  other_refused l ne e = ne ((can_arrive s (length l) p q e).store ∙ sym ok.store_size)

  pub arrive_other_keeps : (l : List ℕ) → OtherLength l store → Kept (answered s store (arrive (other l) p q cell))
  unfolding arrive_of
  arrive_other_keeps l ne = go (arrive_verdict s (length l) p q) refl
    where
      go : (v : Verdict) → arrive_verdict s (length l) p q ≡ v → Kept (answered s store (arrive (other l) p q cell))
      go (Ok _) e = absurd (other_refused l ne e)
      go (Err r) e = rw e ok

  module _ (i j : ℕ) (hi : i < s.running.ports) (hj : j < s.running.ports) where
    abbrev Law : Event → Type 0
    Law e = EventLaw s.running.ports s.running.frame i j s store e

    pub arrive_own_law : Law (answered s store (arrive own p q cell))
    unfolding arrive_of
    arrive_own_law = go (arrive_verdict s (length store) p q) refl
      where
        go : (v : Verdict) → arrive_verdict s (length store) p q ≡ v → Law (answered s store (arrive own p q cell))
        go (Ok _) e =
            rw e (
            record {
              ledger = ledger_still s.running.ports s.running.frame i j s _ _ refl refl refl refl refl refl refl refl refl;
              room = omega (arith, two_between ok i j hi hj);
              crossing = append-nil _;
              queue = queue_arrive ok p q cell (can_arrive s (length store) p q e) i j hi hj;
            }
            )
        go (Err r) e = rw e (refused_law ok i j hi hj _ refl refl (refused_arrival i j _ p q cell r s _))

    pub arrive_other_law : (l : List ℕ) → OtherLength l store → Law (answered s store (arrive (other l) p q cell))
    unfolding arrive_of
    arrive_other_law l ne = go (arrive_verdict s (length l) p q) refl
      where
        go : (v : Verdict) → arrive_verdict s (length l) p q ≡ v → Law (answered s store (arrive (other l) p q cell))
        go (Ok _) e = absurd (other_refused l ne e)
        go (Err r) e = rw e (refused_law ok i j hi hj _ refl refl (refused_arrival i j _ p q cell r s _))
