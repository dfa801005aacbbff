-- The choices of a side's ports: each is its own, and names a port; and the slot of its ports, as the code keeps it.
use Prim.Native.Nat.{ℕ, zero, suc, ◌+◌, ◌*◌, ◌<◌, ◌≤◌}
use mathlib.Core.Path.{◌≡◌, refl, ap, sym, ◌∙◌}
use mathlib.Core.Bool.{Bool, true, false}
use mathlib.Core.Logic.{⊎_elim}
use mathlib.Core.List.{List}
use native.Mathlib.Numerals.{add-one}
use native.Mathlib.Omega.{arith}
use lib.Dec.{eqb}
use lib.ListN.{length, get_or, set, replicate, length-set}
use lib.Seq.{get_or-set_same, get_or-set_other}
use Rattle.std.specs.Prelude.{Option, None}
use Rattle.plan.specs.Range.{most_ports}
use Rattle.plan.specs.Desk.{desk_of}
use Rattle.plan.proofs.BelowLaws.{below_or_last}
use Rattle.plan.proofs.DeskLaws.{desk_row}
use Rattle.multiplexer.specs.Choose.{choose_of}
use Rattle.multiplexer.specs.Serve.{serve_of}
use Rattle.multiplexer.specs.declared.Multiplexer.{Multiplexer}
use Rattle.multiplexer.specs.declared.Served.{Served}
use Rattle.multiplexer.proofs.PacedLaws.{chosen_eligible}
use Rattle.multiplexer.proofs.PortLaws.{row_length}
use Rattle.side.specs.Choices.{no_multiplexer, choices_of, choice_at, CanChoose, ServedAs}
use Rattle.side.specs.Counts.{counts_of, ports_below}
use Rattle.side.specs.declared.choices.Side.{Side}
use Rattle.side.proofs.CountLaws.{counted_is}
use Rattle.side.proofs.TouchLaws.{done}

module _ (line : ℕ → List ℕ) (ports : List Multiplexer) (t slot : ℕ) where
  -- the ports below m
  abbrev after : ℕ → List (Option ℕ)
  after m = choices_of line ports t slot m

  -- port p's own choice
  abbrev choice : ℕ → Option ℕ
  choice p = choose_of (line p) (get_or ports p no_multiplexer).served t slot

  choices_length : (m : ℕ) → length (after m) ≡ most_ports
  unfolding choices_of
  choices_length zero = refl
  choices_length (suc m) = length-set (after m) m (choice m) ∙ choices_length m

  other : (m k : ℕ) → (k ≡ m → ⊥) → choice_at (after (suc m)) k ≡ choice_at (after m) k
  unfolding choices_of
  other m k h = get_or-set_other (after m) m k (choice m) None h

  pub choices_at : (m p : ℕ) → p < m → m ≤ most_ports → choice_at (after m) p ≡ choice p
  unfolding choices_of
  choices_at m p l few = done (λ m k. choice_at (after m) k) other m p l ∙ get_or-set_same (after p) p (choice p) None (omega (arith, choices_length p))

  -- a port of n flows names one of them
  pub choices_named : (n : ℕ) → n ≤ most_ports → ((p : ℕ) → p < n → length (line p) ≡ n) → CanChoose n (after n)
  choices_named n few lines =
      record {
        few_ports = few;
        named = λ p q l is. omega (arith, (chosen_eligible (line p) (get_or ports p no_multiplexer).served t slot q (sym (choices_at n p l few) ∙ is)).0, lines p l);
      }

choices_ext : (line line' : ℕ → List ℕ) (ports : List Multiplexer) (t slot m : ℕ) → ((p : ℕ) → p < m → line p ≡ line' p)
    → choices_of line ports t slot m ≡ choices_of line' ports t slot m
unfolding choices_of
choices_ext line line' ports t slot zero h = refl
choices_ext line line' ports t slot (suc m) h = rw (choices_ext line line' ports t slot m (λ p l. h p (omega arith)), h m (omega arith)) refl

-- The slot of a side's ports, as the code keeps it.
module _ (line : ℕ → List ℕ) (ports : List Multiplexer) (t slot : ℕ) where
  -- the ports below m have had their slot
  pub record ServedBelow (m : ℕ) (s : Side) : Type 0 where
    pub so_far : ServedAs line ports t slot m s
    pub full : length s.ports ≡ most_ports

  pub served_none : length ports ≡ most_ports → ServedBelow 0 (record { ports = ports; choices = replicate most_ports None })
  unfolding choices_of
  served_none full =
      record {
        so_far = record { choices = refl; served = λ p l. absurd (omega arith) };
        full = full;
      }

  -- one port more
  module _ (m : ℕ) (s : Side) (before : ServedBelow m s) (rates : List ℕ) (r : Served) (choice : Option ℕ)
      (small : m < most_ports) (rules : rates ≡ line m) (is : r ≡ serve_of (get_or ports m no_multiplexer) rates t slot) (says : choice ≡ r.choice)
    where
      own : r ≡ serve_of (get_or ports m no_multiplexer) (line m) t slot
      own = is ∙ (rw rules refl)

      pub served_next : ServedBelow (m + 1) (record { ports = set s.ports m r.port; choices = set s.choices m choice })
      unfolding choices_of
      served_next =
          record {
            so_far =
                record {
                  choices = rw (add-one, says, before.so_far.choices, own) refl;
                  served = λ p l.
                      ⊎_elim
                      (λ (b : p < m). get_or-set_other s.ports m p r.port no_multiplexer (λ e. omega arith) ∙ before.so_far.served p b)
                      (λ (e : p ≡ m). rw (e, get_or-set_same s.ports m r.port no_multiplexer (omega (arith, before.full)), own) refl)
                      (below_or_last p m (omega arith));
                };
            full = length-set s.ports m r.port ∙ before.full;
          }

-- what holds by one list of lines holds by another that has the same lines below n
pub served_ext : (line line' : ℕ → List ℕ) (ports : List Multiplexer) (t slot n : ℕ) (s : Side) → ((p : ℕ) → p < n → line p ≡ line' p)
    → ServedAs line ports t slot n s → ServedAs line' ports t slot n s
served_ext line line' ports t slot n s same a =
    record {
      choices = a.choices ∙ choices_ext line line' ports t slot n same;
      served = λ p l. a.served p l ∙ (rw (same p l) refl);
    }

-- the counts that a side's own slots leave are those that its choices make
pub served_counts : (line : ℕ → List ℕ) (ports : List Multiplexer) (t slot n : ℕ) (s : Side) → n ≤ most_ports → ((p : ℕ) → p < n → length (line p) ≡ n)
    → ServedAs line ports t slot n s → ports_below s.ports ports n ≡ counts_of n (eqb (slot + 1) t) (choices_of line ports t slot n) ports n
served_counts line ports t slot n s few long a =
    counted_is n (eqb (slot + 1) t) (choices_of line ports t slot n) ports s.ports
    (λ p l. a.served p l ∙ (rw (long p l, choices_at line ports t slot n p l few) refl))
    n (omega arith)

-- boards that choose by the desk view name ports below n
pub desk_named : (running waiting : List ℕ) (takeover : Bool) (ports : List Multiplexer) (t slot n : ℕ) → n ≤ most_ports → length running ≡ n * n → length waiting ≡ n * n
    → CanChoose n (choices_of (λ p. desk_of running waiting n p takeover) ports t slot n)
desk_named running waiting takeover ports t slot n few er ew = choices_named (λ p. desk_of running waiting n p takeover) ports t slot n few (λ p l. long takeover p l)
  where
    long : (b : Bool) (p : ℕ) → p < n → length (desk_of running waiting n p b) ≡ n
    long true p l = ap length (desk_row running waiting n p true few l er ew) ∙ row_length waiting n p ew l
    long false p l = ap length (desk_row running waiting n p false few l er ew) ∙ row_length running n p er l
