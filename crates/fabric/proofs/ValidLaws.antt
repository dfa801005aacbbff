-- What valid flows are known to have, and that these are the valid ones.
use Prim.Native.Nat.{ℕ, zero, suc, ◌*◌, ◌<◌, ◌≤◌}
use mathlib.Core.Path.{◌≡◌, refl, sym, ap, ◌∙◌}
use mathlib.Core.Bool.{Bool, true, ◌&&◌, and-true}
use Rattle.std.proofs.Math.Bool.{and_assoc}
use mathlib.Core.List.{List, [], ◌∷◌}
use native.Mathlib.Omega.{arith}
use lib.Dec.{ltb, leb}
use lib.ListN.{length, get_or, take}
use Rattle.std.specs.List.{list_all, zip}
use borrow.Author.Tests.{ltb-true, leb-true, lt-ltb, le-leb}
use Rattle.plan.specs.Below.{all_below}
use Rattle.plan.proofs.BelowLaws.{and_true, all_holds, all_intro}
use Rattle.fabric.specs.Flow.{crosspoint_depth, no_queue, no_point}
use Rattle.fabric.specs.Valid.{flow_valid, flows_valid}
use Rattle.fabric.specs.declared.flow.Queue.{Queue}
use Rattle.fabric.specs.declared.flow.Crosspoint.{Crosspoint}

abbrev pub FlowWithin : ℕ → Queue → Crosspoint → Type 0
FlowWithin depth q x = (q.place < depth) × (q.count ≤ depth) × (x.count ≤ crosspoint_depth)

flow_valid_lem : (depth : ℕ) (q : Queue) (x : Crosspoint) → flow_valid depth q x ≡ true → FlowWithin depth q x
flow_valid_lem depth q x e =
    let last = and_true (ltb q.place depth && leb q.count depth) (leb x.count crosspoint_depth) e in
    let both = and_true (ltb q.place depth) (leb q.count depth) last.0 in
    (ltb-true _ _ both.0, leb-true _ _ both.1, leb-true _ _ last.1)

flow_is_valid : (depth : ℕ) (q : Queue) (x : Crosspoint) → FlowWithin depth q x → flow_valid depth q x ≡ true
flow_is_valid depth q x h = simp (lt-ltb _ _ h.0, le-leb _ _ h.1, le-leb _ _ h.2)

module _ (queues : List Queue) (points : List Crosspoint) (n depth : ℕ) where
  pub flows_valid_lem : flows_valid queues points n depth ≡ true → (k : ℕ) → k < n * n → FlowWithin depth (get_or queues k no_queue) (get_or points k no_point)
  unfolding flows_valid
  flows_valid_lem e k l = flow_valid_lem depth (get_or queues k no_queue) (get_or points k no_point) (all_holds _ (n * n) e k l)

  pub flows_are_valid : ((k : ℕ) → k < n * n → FlowWithin depth (get_or queues k no_queue) (get_or points k no_point)) → flows_valid queues points n depth ≡ true
  unfolding flows_valid
  flows_are_valid h = all_intro _ (n * n) (λ k l. flow_is_valid depth (get_or queues k no_queue) (get_or points k no_point) (h k l))

-- the numbers below n + 1, from the first one on
all_first : (p : ℕ → Bool) (n : ℕ) → all_below p (suc n) ≡ (p 0 && all_below (λ k. p (suc k)) n)
all_first p zero = sym (and-true (p 0))
all_first p (suc n) = ap (λ (t : Bool). t && p (suc n)) (all_first p n) ∙ and_assoc (p 0) (all_below (λ k. p (suc k)) n) (p (suc n))

-- the first m pairs of two lists, tested place by place
all_pairs : {A B : Type 0} (p : A → B → Bool) (xs : List A) (ys : List B) (a : A) (b : B) (m : ℕ) → m ≤ length xs → m ≤ length ys
    → list_all (λ x. p x.0 x.1) (take m (zip xs ys)) ≡ all_below (λ k. p (get_or xs k a) (get_or ys k b)) m
all_pairs p xs ys a b zero h k = refl
all_pairs p [] ys a b (suc m) h k = absurd (omega arith)
all_pairs p (x ∷ xs) [] a b (suc m) h k = absurd (omega arith)
all_pairs p (x ∷ xs) (y ∷ ys) a b (suc m) h k =
    ap (λ (t : Bool). p x y && t) (all_pairs p xs ys a b m (omega arith) (omega arith))
    ∙ sym (all_first (λ k. p (get_or (x ∷ xs) k a) (get_or (y ∷ ys) k b)) m)

-- as the code tests them, pair by pair
pub pairs_valid : (queues : List Queue) (points : List Crosspoint) (n depth : ℕ) → n * n ≤ length queues → n * n ≤ length points
    → list_all (λ x. flow_valid depth x.0 x.1) (take (n * n) (zip queues points)) ≡ flows_valid queues points n depth
unfolding flows_valid
pairs_valid queues points n depth h k = all_pairs (flow_valid depth) queues points no_queue no_point (n * n) h k
