-- From services counted in frames to shares of a stretch: the arithmetic of demand 3, over plain numbers.
use Prim.Native.Nat.{ℕ, ◌+◌, ◌-◌, ◌*◌, ◌<◌, ◌≤◌}
use mathlib.Core.Path.{◌≡◌}
use native.Mathlib.Nat.{lt_of_mul-lt-mul_right, div-mul-le_self, lt-div-mul-add}
use native.Mathlib.Omega.{arith}
use Rattle.runs.specs.Flow.{share_up, share_down}

-- d services in the first t slots of a frame of T, at rate a: less than one ahead of the share, and less than one behind
pub record Near (T a d t : ℕ) : Type 0 where
  pub early : d * T < t * a + T
  pub late : t * a < (d + 1) * T

-- S services in l slots, from d₀ services in t₀ slots of a frame to d₁ in t₁ of the same or a later one
abbrev pub Share : ℕ → ℕ → ℕ → ℕ → ℕ → ℕ → ℕ → ℕ → Type 0
Share T a S l d₀ t₀ d₁ t₁ = S * T + d₀ * T + t₁ * a ≡ l * a + t₀ * a + d₁ * T

pub share_join : (T a S l d₀ t₀ d₁ t₁ S' l' d₂ t₂ : ℕ) → Share T a S l d₀ t₀ d₁ t₁ → Share T a S' l' d₁ t₁ d₂ t₂ → Share T a (S + S') (l + l') d₀ t₀ d₂ t₂
share_join T a S l d₀ t₀ d₁ t₁ S' l' d₂ t₂ p q = omega arith

module _ (T a S l d₀ t₀ d₁ t₁ : ℕ) (share : Share T a S l d₀ t₀ d₁ t₁) (begin : Near T a d₀ t₀) (end : Near T a d₁ t₁) where
  pos : 1 ≤ T
  pos = omega (arith, begin.early, begin.late)

  pub share_at_most : S ≤ share_up l a T + 1
  share_at_most =
      let up = lt-div-mul-add {a = l * a + (T - 1)} {b = T} pos in
      let close : S * T < (share_up l a T + 2) * T = omega (arith, begin.late, end.early) in
      omega (arith, lt_of_mul-lt-mul_right T {m = S} {n = share_up l a T + 2} close)

  pub share_at_least : share_down l a T ≤ S + 1
  share_at_least =
      let close : share_down l a T * T < (S + 2) * T = omega (arith, div-mul-le_self (l * a) T, begin.early, end.late) in
      omega (arith, lt_of_mul-lt-mul_right T {m = share_down l a T} {n = S + 2} close)

  -- begun where the share was not yet passed, no service is missing
  pub share_whole : d₀ * T ≤ t₀ * a → share_down l a T ≤ S
  share_whole behind =
      let close : share_down l a T * T < (S + 1) * T = omega (arith, div-mul-le_self (l * a) T, behind, end.late) in
      omega (arith, lt_of_mul-lt-mul_right T {m = share_down l a T} {n = S + 1} close)
