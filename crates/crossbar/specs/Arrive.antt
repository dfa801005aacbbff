-- "An arrival puts one cell into a queue between slots." "Only an accepted arrival writes the store, in that one place."
-- Order: 12, 7, 10, 11.
use Rattle.std.specs.Prelude.{ℕ, ◌+◌, ◌*◌, ◌<◌, ◌≡◌, true, not, ◌&&◌, List, ltb, leb, length, set, Ok}
use Rattle.refusal.specs.Chain.{refuse_if, if_accepted}
use Rattle.refusal.specs.declared.Refusal.TheVariants.{StateInvalid, StoreLength, NoSuchPort, QueueFull}
use Rattle.refusal.specs.Verdict.{Verdict}
use Rattle.plan.specs.Lines.{flow_of}
use Rattle.crossbar.specs.State.{queue_at, store_fits}
use Rattle.fabric.specs.Flow.{cell_place}
use Rattle.crossbar.specs.Valid.{valid_of}
use Rattle.fabric.specs.declared.flow.Queue.{Queue}
use Rattle.crossbar.specs.declared.state.Switch.{Switch}
use Rattle.crossbar.specs.declared.state.Reply.{Reply}

abbrev pub with_queues : Switch → List Queue → Switch
with_queues s queues =
    record {
      running = s.running;
      waiting = s.waiting;
      waits = s.waits;
      depth = s.depth;
      slot = s.slot;
      fabric = record { queues = queues; crosspoints = s.fabric.crosspoints; boards = s.fabric.boards; heads = s.fabric.heads };
    }

abbrev pub longer : Queue → Queue
longer q = record { place = q.place; count = q.count + 1 }

unfoldable pub arrive_verdict : Switch → ℕ → ℕ → ℕ → Verdict
arrive_verdict s len i j =
    let n = s.running.ports in
    refuse_if (not (valid_of s)) StateInvalid
    (refuse_if (not (store_fits n s.depth len)) StoreLength
    (refuse_if (not (ltb i n && ltb j n)) NoSuchPort
    (refuse_if (leb s.depth (queue_at s (flow_of n i j)).count) QueueFull
    (Ok tt))))

-- When an arrival is accepted. proofs/ArriveLaws.antt has that it is then, and only then.
pub record CanArrive (s : Switch) (len i j : ℕ) : Type 0 where
  pub valid : valid_of s ≡ true
  pub store : len ≡ s.running.ports * s.running.ports * s.depth
  pub board : i < s.running.ports
  pub head : j < s.running.ports
  pub room : (queue_at s (flow_of s.running.ports i j)).count < s.depth

-- a reply, and the store as the call leaves it
pub record Arrival : Type 0 where
  pub reply : Reply
  pub store : List ℕ

unfoldable pub arrive_of : Switch → List ℕ → ℕ → ℕ → ℕ → Arrival
arrive_of s store i j cell =
    let k = flow_of s.running.ports i j in
    let q = queue_at s k in
    let v = arrive_verdict s (length store) i j in
    record {
      reply = record { verdict = v; state = if_accepted v (with_queues s (set s.fabric.queues k (longer q))) s };
      store = if_accepted v (set store (cell_place s.depth k q q.count) cell) store;
    }

-- what `arrive` ensures
abbrev pub Arrives : Switch → List ℕ → ℕ → ℕ → ℕ → Reply → List ℕ → Type 0
Arrives s store i j cell r left = ◌≡◌ {A = Arrival} (record { reply = r; store = left }) (arrive_of s store i j cell)
