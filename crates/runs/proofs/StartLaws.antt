-- A run begins soundly.
use Prim.Native.Nat.{ℕ, ◌*◌, ◌<◌}
use mathlib.Core.Path.{◌≡◌, refl, ap, ◌∙◌}
use mathlib.Core.Bool.{true, false, false≢true}
use mathlib.Core.List.{List}
use native.Mathlib.Omega.{arith}
use lib.ListN.{length, get_or, replicate, length-replicate, get_or-replicate}
use Rattle.plan.specs.Range.{most_ports, most_flows}
use Rattle.plan.specs.Lines.{flow_of}
use Rattle.plan.proofs.LineLaws.{flow_below, square_small}
use Rattle.multiplexer.specs.Window.{FrameStart}
use Rattle.multiplexer.proofs.PacedLaws.{paced_start}
use Rattle.multiplexer.proofs.PortLaws.{row_length, row_fits, column_length, column_fits}
use Rattle.side.specs.Choices.{no_multiplexer}
use Rattle.fabric.specs.Flow.{no_queue, no_point}
use Rattle.crossbar.specs.State.{queue_at, point_at, head_count}
use Rattle.crossbar.specs.Start.{empty_queue, empty_point, rested_port, fresh_with, plan_of, CanStart}
use Rattle.fabric.specs.declared.flow.Crosspoint.{Crosspoint}
use Rattle.crossbar.specs.declared.state.Switch.{Switch}
use Rattle.planpair.proofs.RateLaws.{overlaid_length}
use Rattle.crossbar.proofs.StartLaws.{started_rates}
use Rattle.runs.proofs.SoundLaws.{Sound}

module _ (n t : ℕ) (rates : List ℕ) (depth : ℕ) (store : List ℕ) (ok : CanStart n t rates depth (length store)) where
  abbrev pub fresh : Switch
  fresh = fresh_with (plan_of n t rates) depth

  small : (i j : ℕ) → i < n → j < n → flow_of n i j < most_flows
  small i j hi hj = omega (arith, flow_below n i j hi hj, square_small n ok.plan.few_ports)

  pub queue_is : (i j : ℕ) → i < n → j < n → queue_at fresh (flow_of n i j) ≡ empty_queue
  unfolding fresh_with
  queue_is i j hi hj = get_or-replicate most_flows (flow_of n i j) empty_queue no_queue (small i j hi hj)

  pub point_is : (i j : ℕ) → i < n → j < n → point_at fresh (flow_of n i j) ≡ empty_point
  unfolding fresh_with
  point_is i j hi hj = get_or-replicate most_flows (flow_of n i j) empty_point no_point (small i j hi hj)

  port_is : (p : ℕ) → p < n → get_or (replicate most_ports rested_port) p no_multiplexer ≡ rested_port
  port_is p h = get_or-replicate most_ports p rested_port no_multiplexer (omega (arith, ok.plan.few_ports))

  head_zero : (i j : ℕ) → i < n → j < n → head_count fresh i j ≡ 0
  unfolding fresh_with
  head_zero i j hi hj = rw (port_is j hj) (get_or-replicate most_ports i 0 0 (omega (arith, ok.plan.few_ports)))

  rested : (m : ℕ) → m ≡ n → FrameStart (replicate most_ports 0) m
  rested m e = record { full = length-replicate {A = ℕ} most_ports 0; zeros = λ f l. get_or-replicate most_ports f 0 0 (omega (arith, ok.plan.few_ports)) }

  pub sound_start : Sound fresh store
  unfolding fresh_with
  sound_start =
      let p = started_rates n t rates ok.plan in
      record {
        plan = rw p ok.plan;
        waiting = λ (h : false ≡ true). absurd (false≢true h);
        some_depth = ok.some_cell;
        few_cells = ok.few_cells;
        in_frame = omega (arith, ok.plan.some_slot);
        running_size = overlaid_length (replicate most_flows 0) rates (n * n) ∙ length-replicate {A = ℕ} most_flows 0;
        waiting_size = length-replicate {A = ℕ} most_flows 0;
        queues_size = length-replicate most_flows empty_queue;
        points_size = length-replicate most_flows empty_point;
        boards_size = length-replicate most_ports rested_port;
        heads_size = length-replicate most_ports rested_port;
        store_size = ok.store;
        place = λ i j hi hj. rw (queue_is i j hi hj) ok.some_cell;
        queued = λ i j hi hj. rw (queue_is i j hi hj) (omega arith);
        two_places = λ i j hi hj. rw (point_is i j hi hj) refl;
        boards = λ i hi. rw (p, port_is i hi) (paced_start (row_fits n t rates ok.plan i hi) (rested _ (row_length rates n i ok.plan.square hi)));
        heads = λ j hj. rw (p, port_is j hj) (paced_start (column_fits n t rates ok.plan j hj) (rested _ (column_length rates n j)));
        balanced = λ i j hi hj. omega (arith, ap (λ (x : Crosspoint). x.count) (point_is i j hi hj), head_zero i j hi hj);
      }
