-- A takeover keeps the switch sound: it falls in slot 0, where every port begins a frame.
use Prim.Native.Nat.{ℕ, ◌*◌, ◌<◌}
use mathlib.Core.Path.{◌≡◌, refl, sym, subst, subst₂, ◌∙◌}
use mathlib.Core.Bool.{Bool, true, false, false≢true}
use mathlib.Core.List.{List, []}
use native.Mathlib.Nat.{lt_of_mul-lt-mul_right}
use native.Mathlib.Omega.{arith}
use lib.Dec.{eqb}
use lib.ListN.{length, get_or}
use borrow.Author.Tests.{eqb-true}
use Rattle.plan.specs.Desk.{row_of}
use Rattle.plan.specs.Accept.{IsPlan}
use Rattle.plan.specs.declared.Plan.{Plan}
use Rattle.plan.proofs.BelowLaws.{and_true}
use Rattle.multiplexer.specs.Window.{column_of, FrameStart}
use Rattle.multiplexer.proofs.PacedLaws.{Paced, paced_start, paced_early, paced_full}
use Rattle.multiplexer.proofs.PortLaws.{row_length, row_fits, column_length, column_fits}
use Rattle.side.specs.Choices.{no_multiplexer}
use Rattle.planpair.specs.Rates.{plan_rates}
use Rattle.crossbar.specs.State.{has_waiting}
use Rattle.crossbar.specs.Load.{with_plans}
use Rattle.planpair.specs.Takeover.{replaced, cleared}
use Rattle.crossbar.specs.Takeover.{takes_over, takeover_of}
use Rattle.crossbar.specs.declared.state.Switch.{Switch}
use Rattle.planpair.proofs.RateLaws.{overlaid_length}
use Rattle.planpair.proofs.TakeoverLaws.{taken_rates}
use Rattle.crossbar.proofs.TakeoverLaws.{taken, not_taken}
use Rattle.runs.proofs.SoundLaws.{Sound, PlanIn}

-- in slot 0 a paced port begins its frame
begins : {rs ks : List ℕ} {T : ℕ} → Paced rs T 0 ks → (m : ℕ) → m ≡ length rs → FrameStart ks m
begins {rs} {ks} {T} p m e =
    record {
      full = paced_full p;
      zeros = λ f l.
          let close : get_or ks f 0 * T < 1 * T = omega (arith, paced_early p f (omega arith)) in
          omega (arith, lt_of_mul-lt-mul_right T {m = get_or ks f 0} {n = 1} close);
    }

module _ {s : Switch} {store : List ℕ} (ok : Sound s store) (zero-slot : s.slot ≡ 0) (waits : has_waiting s ≡ true) where
  abbrev n : ℕ
  n = s.running.ports

  abbrev ruling : Plan
  ruling = replaced s.running s.waiting

  abbrev next : Switch
  next = with_plans s ruling (cleared s.waiting) 0

  here : PlanIn s.running.ports s.running.frame s.waiting
  here = ok.waiting waits

  rates_are : plan_rates ruling ≡ plan_rates s.waiting
  rates_are = taken_rates s.running s.waiting (rw here.ports ok.plan.few_ports) ok.running_size ok.waiting_size

  -- the plan that takes over, with its own N and T
  own_plan : IsPlan s.waiting.ports s.waiting.frame (plan_rates ruling)
  own_plan =
      rw rates_are
      (subst₂ (λ (m t : ℕ). IsPlan m t (plan_rates s.waiting)) (sym here.ports) (sym here.frame) here.plan)

  board_starts : (i : ℕ) → i < s.waiting.ports → FrameStart (get_or s.fabric.boards i no_multiplexer).served s.waiting.ports
  board_starts i hi =
      let below : i < n = omega (arith, here.ports) in
      begins (subst (λ (t : ℕ). Paced (row_of (plan_rates s.running) n i) s.running.frame t (get_or s.fabric.boards i no_multiplexer).served) zero-slot (ok.boards i below))
      _ (here.ports ∙ sym (row_length (plan_rates s.running) n i ok.plan.square below))

  head_starts : (j : ℕ) → j < s.waiting.ports → FrameStart (get_or s.fabric.heads j no_multiplexer).served s.waiting.ports
  head_starts j hj =
      let below : j < n = omega (arith, here.ports) in
      begins (subst (λ (t : ℕ). Paced (column_of (plan_rates s.running) n j) s.running.frame t (get_or s.fabric.heads j no_multiplexer).served) zero-slot (ok.heads j below))
      _ (here.ports ∙ sym (column_length (plan_rates s.running) n j))

  sound_taken : Sound next store
  sound_taken =
      record {
        plan = own_plan;
        waiting = λ (h : false ≡ true). absurd (false≢true h);
        some_depth = ok.some_depth;
        few_cells = ok.few_cells;
        in_frame = rw here.frame ok.in_frame;
        running_size = overlaid_length s.running.rates s.waiting.rates _ ∙ ok.running_size;
        waiting_size = overlaid_length s.waiting.rates [] _ ∙ ok.waiting_size;
        queues_size = ok.queues_size;
        points_size = ok.points_size;
        boards_size = ok.boards_size;
        heads_size = ok.heads_size;
        store_size = rw here.ports ok.store_size;
        place = rw here.ports ok.place;
        queued = rw here.ports ok.queued;
        two_places = rw here.ports ok.two_places;
        boards = λ i hi. rw zero-slot (paced_start (row_fits _ _ (plan_rates ruling) own_plan i hi)
            (subst (FrameStart (get_or s.fabric.boards i no_multiplexer).served) (sym (row_length (plan_rates ruling) s.waiting.ports i own_plan.square hi)) (board_starts i hi)));
        heads = λ j hj. rw zero-slot (paced_start (column_fits _ _ (plan_rates ruling) own_plan j hj)
            (subst (FrameStart (get_or s.fabric.heads j no_multiplexer).served) (sym (column_length (plan_rates ruling) s.waiting.ports j)) (head_starts j hj)));
        balanced = rw here.ports ok.balanced;
      }

-- only the plans differ, and not in N or T
pub record OtherPlan (s u : Switch) : Type 0 where
  pub ports : u.running.ports ≡ s.running.ports
  pub frame : u.running.frame ≡ s.running.frame
  pub depth : u.depth ≡ s.depth
  pub slot : u.slot ≡ s.slot
  pub queues : u.fabric.queues ≡ s.fabric.queues
  pub points : u.fabric.crosspoints ≡ s.fabric.crosspoints
  pub boards : u.fabric.boards ≡ s.fabric.boards
  pub heads : u.fabric.heads ≡ s.fabric.heads

module _ {s : Switch} {store : List ℕ} (ok : Sound s store) where
  same : OtherPlan s s
  same = record { ports = refl; frame = refl; depth = refl; slot = refl; queues = refl; points = refl; boards = refl; heads = refl }

  other : has_waiting s ≡ true → OtherPlan s (with_plans s (replaced s.running s.waiting) (cleared s.waiting) 0)
  other w =
      let p = ok.waiting w in
      record { ports = p.ports; frame = p.frame; depth = refl; slot = refl; queues = refl; points = refl; boards = refl; heads = refl }

  pub takeover_sound : Sound (takeover_of s) store × OtherPlan s (takeover_of s)
  takeover_sound = go (takes_over s) refl
    where
      go : (b : Bool) → takes_over s ≡ b → Sound (takeover_of s) store × OtherPlan s (takeover_of s)
      go true e =
          let both = and_true (eqb s.slot 0) (has_waiting s) e in
          rw (taken s e) (sound_taken ok (eqb-true s.slot 0 both.0) both.1, other both.1)
      go false e = rw (not_taken s e) (ok, same)
