-- "All 2N ports choose."
use Rattle.std.specs.Prelude.{ℕ, zero, suc, ◌<◌, ◌≤◌, ◌≡◌, List, [], get_or, set, replicate, Option, Some, None}
use Rattle.plan.specs.Range.{most_ports}
use Rattle.multiplexer.specs.Choose.{choose_of}
use Rattle.multiplexer.specs.Serve.{serve_of}
use Rattle.multiplexer.specs.declared.Multiplexer.{Multiplexer}
use Rattle.side.specs.declared.choices.Side.{Side}

-- what a place past the end of a list of ports reads as
abbrev pub no_multiplexer : Multiplexer
no_multiplexer = record { served = [] }

-- the choices of the ports below m, where port p has the rates `line p`; those from m up are idle
unfoldable pub choices_of : (ℕ → List ℕ) → List Multiplexer → ℕ → ℕ → ℕ → List (Option ℕ)
choices_of line ports t slot zero = replicate most_ports None
choices_of line ports t slot (suc m) =
    set (choices_of line ports t slot m) m (choose_of (line m) (get_or ports m no_multiplexer).served t slot)

-- the choice of one port
abbrev pub choice_at : List (Option ℕ) → ℕ → Option ℕ
choice_at choices p = get_or choices p None

-- each port below n that serves a flow serves a port below n
abbrev pub NamesBelow : ℕ → List (Option ℕ) → Type 0
NamesBelow n choices = (p q : ℕ) → p < n → choice_at choices p ≡ Some q → q < n

-- For the code: what it asks of the choices that it acts on.
pub record CanChoose (n : ℕ) (choices : List (Option ℕ)) : Type 0 where
  pub few_ports : n ≤ most_ports
  pub named : NamesBelow n choices

-- For the code: a choice names a port that a switch can have, if it names one.
abbrev pub ChoosesPort : Option ℕ → Type 0
ChoosesPort None = Unit {0}
ChoosesPort (Some other) = other < most_ports

-- For the code: one side after the slot of its ports below n, where port p has the rates `line p`.
pub record ServedAs (line : ℕ → List ℕ) (ports : List Multiplexer) (t slot n : ℕ) (s : Side) : Type 0 where
  pub choices : s.choices ≡ choices_of line ports t slot n
  pub served : (p : ℕ) → p < n → get_or s.ports p no_multiplexer ≡ (serve_of (get_or ports p no_multiplexer) (line p) t slot).port
