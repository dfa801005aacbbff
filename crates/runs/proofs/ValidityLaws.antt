-- A sound switch is valid: number 12 has no reason.
use Prim.Native.Nat.{ℕ, ◌*◌, ◌/◌, ◌%◌, ◌<◌, ◌≤◌}
use mathlib.Core.Path.{◌≡◌, ap, sym, subst, subst₂}
use mathlib.Core.Bool.{true}
use mathlib.Core.List.{List}
use native.Mathlib.Nat.{lt_of_mul-lt-mul_right, div-add-mod', div-lt_iff_lt-mul, mod-lt}
use native.Mathlib.Omega.{arith}
use Rattle.plan.specs.Lines.{flow_of}
use Rattle.plan.specs.Accept.{IsPlan}
use Rattle.planpair.specs.Rates.{plan_rates}
use Rattle.crossbar.specs.State.{queue_at, point_at}
use Rattle.crossbar.specs.Valid.{valid_of}
use Rattle.crossbar.specs.declared.state.Switch.{Switch}
use Rattle.crossbar.proofs.ValidLaws.{is_valid}
use Rattle.runs.proofs.ShareLaws.{Near}
use Rattle.runs.proofs.SoundLaws.{Sound, board_near, head_near, board_within, head_within, two_between}

-- each number below n × n is a flow's
by_flow : (n : ℕ) → 1 ≤ n → (P : ℕ → Type 0) → ((i j : ℕ) → i < n → j < n → P (flow_of n i j)) → (k : ℕ) → k < n * n → P k
by_flow n some P h k l = subst P (div-add-mod' k n) (h (k / n) (k % n) ((div-lt_iff_lt-mul {k = n} {x = k} {y = n} some).1 l) (mod-lt k some))

-- in slot 0 nobody is served yet
none_yet : {T a d t : ℕ} → Near T a d t → t ≡ 0 → d ≡ 0
none_yet {T} {a} {d} {t} near e =
    let close : d * T < 1 * T = omega (arith, near.early, ap (λ (x : ℕ). x * a) e) in
    omega (arith, lt_of_mul-lt-mul_right T {m = d} {n = 1} close)

pub sound_valid : {s : Switch} {store : List ℕ} → Sound s store → valid_of s ≡ true
sound_valid {s} ok =
    let n = s.running.ports in
    let flows = by_flow n ok.plan.some_port in
    is_valid s (
    record {
      running = ok.plan;
      waiting = λ w. let p = ok.waiting w in subst₂ (λ (m t : ℕ). IsPlan m t (plan_rates s.waiting)) (sym p.ports) (sym p.frame) p.plan;
      ports_agree = λ w. sym (ok.waiting w).ports;
      same_frame = λ w. sym (ok.waiting w).frame;
      some_place = ok.some_depth;
      few_places = ok.few_cells;
      in_frame = ok.in_frame;
      queue_place = flows (λ (k : ℕ). (queue_at s k).place < s.depth) ok.place;
      queue_count = flows (λ (k : ℕ). (queue_at s k).count ≤ s.depth) ok.queued;
      crosspoint_count = flows (λ (k : ℕ). (point_at s k).count ≤ 2) (two_between ok);
      board_count_within = board_within ok;
      head_count_within = head_within ok;
      board_zero = λ z i j hi hj. none_yet (board_near ok i j hi hj) z;
      head_zero = λ z i j hi hj. none_yet (head_near ok i j hi hj) z;
    }
    )
