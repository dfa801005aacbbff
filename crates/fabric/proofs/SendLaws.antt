-- The heads' services, head by head: what the crosspoints, answers and lists are after them.
use Prim.Native.Nat.{ℕ, zero, suc, ◌+◌, ◌*◌, ◌<◌, ◌≤◌}
use mathlib.Core.Path.{◌≡◌, refl, ap, sym, ◌∙◌}
use mathlib.Core.Bool.{Bool, true, false}
use mathlib.Core.List.{List}
use native.Mathlib.Numerals.{add-one}
use native.Mathlib.Omega.{arith}
use lib.Dec.{eqb}
use lib.ListN.{length, get_or, set, length-set}
use lib.Seq.{get_or-set_same, get_or-set_other}
use borrow.Author.Tests.{eqb-true, eqb-false}
use Rattle.std.specs.Prelude.{Option, Some, None}
use Rattle.plan.specs.Range.{most_ports, most_flows}
use Rattle.plan.specs.Lines.{flow_of}
use Rattle.plan.proofs.LineLaws.{flow_below, flow_one}
use Rattle.multiplexer.specs.declared.Multiplexer.{Multiplexer}
use Rattle.fabric.specs.Flow.{no_point}
use Rattle.fabric.specs.Answer.{answer_of}
use Rattle.side.specs.Choices.{choice_at, NamesBelow, CanChoose}
use Rattle.fabric.specs.Sends.{Sends, send_none, send_cell, send_of, head_sends, sends_of}
use Rattle.fabric.specs.declared.flow.Crosspoint.{Crosspoint}
use Rattle.fabric.specs.declared.flow.Answer.{Answer}
use Rattle.fabric.specs.declared.flow.Answer.TheVariants as answer
use Rattle.fabric.specs.declared.sends.Send.{Send}
use Rattle.fabric.specs.declared.AfterServices.{AfterServices}
use Rattle.fabric.specs.declared.flow.Queue.{Queue}
use Rattle.fabric.specs.declared.Fabric.{Fabric}
use Rattle.side.proofs.ListLaws.{get_d_repeated}
use Rattle.side.proofs.PlaceLaws.{flow_small}
use Rattle.side.proofs.TouchLaws.{untouched, settled, not_yet, done}

-- what holds of a service that finds no cell, and of one that finds one, holds of a service
pub send_case : (P : Send → Type 0) (i : ℕ) (x : Crosspoint) → (x.count ≡ 0 → P (send_none i x)) → (1 ≤ x.count → P (send_cell i x)) → P (send_of i x)
unfolding send_of
send_case P i x none some = go (eqb x.count 0) refl
  where
    go : (b : Bool) → eqb x.count 0 ≡ b → P (send_of i x)
    go true e = rw e (none (eqb-true x.count 0 e))
    go false e = let ne = eqb-false x.count 0 e in rw e (some (omega arith))

-- a service is not answered by "idle"
pub send_serves : (i : ℕ) (x : Crosspoint) → (send_of i x).answer ≡ answer.Idle → ⊥
send_serves i x =
    send_case (λ r. r.answer ≡ answer.Idle → ⊥) i x
    (λ _ (e : answer.Empty i ≡ answer.Idle). let z : ◌≡◌ {A = ℕ} 0 1 = cc in omega arith)
    (λ _ (e : answer.Moved i (get_or x.cells 0 0) ≡ answer.Idle). let z : ◌≡◌ {A = ℕ} 0 1 = cc in omega arith)

-- flow (i, j)'s send from the crosspoints given
abbrev pub flow_send : ℕ → List Crosspoint → ℕ → ℕ → Send
flow_send n points i j = send_of i (get_or points (flow_of n i j) no_point)

abbrev pub with_send : ℕ → ℕ → Sends → Send → Sends
with_send j k f r = record { crosspoints = set f.crosspoints k r.point; answers = set f.answers j r.answer }

module _ (n : ℕ) (choices : List (Option ℕ)) (points : List Crosspoint) where
  -- the heads below m
  abbrev after : ℕ → Sends
  after m = sends_of n choices points m

  -- one head more, by its choice
  pub sends_idle_step : (m : ℕ) (f : Sends) → f ≡ after m → choice_at choices m ≡ None → f ≡ after (m + 1)
  unfolding sends_of head_sends
  sends_idle_step m f e c = rw (add-one, c) e

  pub sends_flow_step : (m i k : ℕ) (f : Sends) (r : Send) → f ≡ after m → choice_at choices m ≡ Some i → k ≡ flow_of n i m
      → r ≡ send_of i (get_or f.crosspoints k no_point) → with_send m k f r ≡ after (m + 1)
  unfolding sends_of head_sends
  sends_flow_step m i k f r e c ek er = rw (add-one, c, er, ek, e)

  -- head m serves flow k
  abbrev serves : ℕ → ℕ → Type 0
  serves m k = (i : ℕ) × (choice_at choices m ≡ Some i) × (flow_of n i m ≡ k)

  point_other : (m k : ℕ) → (serves m k → ⊥) → get_or (after (suc m)).crosspoints k no_point ≡ get_or (after m).crosspoints k no_point
  unfolding sends_of head_sends
  point_other m k h = go (choice_at choices m) refl
    where
      go : (c : Option ℕ) → choice_at choices m ≡ c → get_or (head_sends n m c (after m)).crosspoints k no_point ≡ get_or (after m).crosspoints k no_point
      go None e = refl
      go (Some i) e = get_or-set_other (after m).crosspoints (flow_of n i m) k _ no_point (λ x. h (i, e, sym x))

  answer_other : (m p : ℕ) → (p ≡ m → ⊥) → answer_of (after (suc m)).answers p ≡ answer_of (after m).answers p
  unfolding sends_of head_sends
  answer_other m p h = go (choice_at choices m)
    where
      go : (c : Option ℕ) → answer_of (head_sends n m c (after m)).answers p ≡ answer_of (after m).answers p
      go None = refl
      go (Some i) = get_or-set_other (after m).answers m p _ answer.Idle h

  -- flow (i, j) is served by head j alone
  only : (p i j : ℕ) → p < n → j < n → serves p (flow_of n i j) → (p ≡ j) × (choice_at choices p ≡ Some i)
  only p i j hp hj (g, e, same) = let both = flow_one n g p i j hp hj same in (both.1, e ∙ ap Some both.0)

  -- a crosspoint that no head below m serves stays as it was
  kept : (m k : ℕ) → ((p : ℕ) → p < m → serves p k → ⊥) → get_or (after m).crosspoints k no_point ≡ get_or points k no_point
  unfolding sends_of
  kept m k h = untouched (λ m k. get_or (after m).crosspoints k no_point) serves point_other m k h

  pub record SendLengths (f : Sends) : Type 0 where
    pub points_kept : length f.crosspoints ≡ length points
    pub all_ports : length f.answers ≡ most_ports

  length_step : (m : ℕ) (c : Option ℕ) (f : Sends) → SendLengths f → SendLengths (head_sends n m c f)
  unfolding head_sends
  length_step m None f h = h
  length_step m (Some i) f h =
      record { points_kept = length-set f.crosspoints _ _ ∙ h.points_kept; all_ports = length-set f.answers _ _ ∙ h.all_ports }

  pub sends_length : (m : ℕ) → SendLengths (after m)
  unfolding sends_of
  sends_length zero = record { points_kept = refl; all_ports = refl }
  sends_length (suc m) = length_step m (choice_at choices m) (after m) (sends_length m)

  -- head m's service, with what it finds
  served_step : (m i : ℕ) → m < n → choice_at choices m ≡ Some i
      → after (suc m) ≡ with_send m (flow_of n i m) (after m) (flow_send n points i m)
  unfolding sends_of head_sends
  served_step m i l c =
      let is = kept m (flow_of n i m) (λ p h s. omega (arith, (only p i m (omega arith) l s).0)) in
      rw (c, is)

  sends_answer_past : (m p : ℕ) → m ≤ p → answer_of (after m).answers p ≡ answer.Idle
  unfolding sends_of
  sends_answer_past m p l =
      not_yet (λ m p. answer_of (after m).answers p) answer_other m p l
      ∙ get_d_repeated most_ports p answer.Idle

  pub sends_answer_idle : (j : ℕ) → j < n → choice_at choices j ≡ None → answer_of (after n).answers j ≡ answer.Idle
  unfolding sends_of head_sends
  sends_answer_idle j l c = done (λ m p. answer_of (after m).answers p) answer_other n j l ∙ rw c (sends_answer_past j j (omega arith))

  -- the flow that head j serves, and its answer
  pub record Sent (i j : ℕ) : Type 0 where
    pub point : get_or (after n).crosspoints (flow_of n i j) no_point ≡ (flow_send n points i j).point
    pub answer : answer_of (after n).answers j ≡ (flow_send n points i j).answer

  pub sends_served : CanChoose n choices → length points ≡ most_flows → (i j : ℕ) → j < n → choice_at choices j ≡ Some i → Sent i j
  sends_served h full i j l c =
      let k = flow_of n i j in
      let r = flow_send n points i j in
      let e = served_step j i l c in
      let small = flow_small n i j h.few_ports (h.named j i l c) l in
      let size = sends_length j in
      record {
        point =
            settled (λ m k. get_or (after m).crosspoints k no_point) serves point_other n j k l (λ q lo hi s. omega (arith, (only q i j hi l s).0))
            ∙ ap (λ (f : Sends). get_or f.crosspoints k no_point) e
            ∙ get_or-set_same (after j).crosspoints k r.point no_point (omega (arith, size.points_kept));
        answer =
            done (λ m p. answer_of (after m).answers p) answer_other n j l
            ∙ ap (λ (f : Sends). answer_of f.answers j) e
            ∙ get_or-set_same (after j).answers j r.answer answer.Idle (omega (arith, size.all_ports, h.few_ports));
      }

  -- a flow that its head doesn't serve
  pub sends_passed : (i j : ℕ) → j < n → (choice_at choices j ≡ Some i → ⊥)
      → get_or (after n).crosspoints (flow_of n i j) no_point ≡ get_or points (flow_of n i j) no_point
  sends_passed i j hj otherwise =
      kept n (flow_of n i j) (λ p l s. let at = only p i j l hj s in otherwise (ap (choice_at choices) (sym at.0) ∙ at.1))

  -- "What the state holds for ports from N up is neither looked at nor changed."
  pub sends_past : NamesBelow n choices → (k : ℕ) → n * n ≤ k → get_or (after n).crosspoints k no_point ≡ get_or points k no_point
  sends_past named k h = kept n k (λ p l (i, c, e). omega (arith, flow_below n i p (named p i l c) l))

-- the fabric after the sends, put together from the lists that they change and those that stay
pub sent_whole : (a b : Fabric) (answers : List Answer) (s : Sends) → a.queues ≡ b.queues → a.boards ≡ b.boards → a.heads ≡ b.heads
    → ◌≡◌ {A = Sends} (record { crosspoints = a.crosspoints; answers = answers }) s
    → ◌≡◌ {A = AfterServices} (record { fabric = a; answers = answers })
    (record { fabric = record { queues = b.queues; crosspoints = s.crosspoints; boards = b.boards; heads = b.heads }; answers = s.answers })
sent_whole a b answers s eq eb eh e =
    ap {A = List Queue} {B = AfterServices} (λ x. record { fabric = record { queues = x; crosspoints = a.crosspoints; boards = a.boards; heads = a.heads }; answers = answers }) eq
    ∙ ap {A = List Multiplexer} {B = AfterServices} (λ x. record { fabric = record { queues = b.queues; crosspoints = a.crosspoints; boards = x; heads = a.heads }; answers = answers }) eb
    ∙ ap {A = List Multiplexer} {B = AfterServices} (λ x. record { fabric = record { queues = b.queues; crosspoints = a.crosspoints; boards = b.boards; heads = x }; answers = answers }) eh
    ∙ ap {A = Sends} {B = AfterServices} (λ x. record { fabric = record { queues = b.queues; crosspoints = x.crosspoints; boards = b.boards; heads = b.heads }; answers = x.answers }) e
