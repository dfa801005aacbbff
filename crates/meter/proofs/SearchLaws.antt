-- Looking at one place after another finds the first best: one argument for the fewest and for the most services.
use Prim.Native.Nat.{ℕ, zero, suc, ◌<◌, ◌≤◌}
use mathlib.Core.Bool.{Bool, true, false}
use mathlib.Core.Path.{◌≡◌, refl, ap, sym, subst, ◌∙◌}
use mathlib.Core.Logic.{◌⊎◌, inl, inr, ⊎_elim}
use native.Mathlib.Omega.{arith}
use borrow.Author.Tests.{ltb-true, ltb-false}
use Rattle.plan.proofs.BelowLaws.{lt_or_le}
use Rattle.meter.specs.Cover.{FirstBest}
use Rattle.meter.specs.Search.{fewer, more, or_better, kept_to}
use Rattle.meter.specs.declared.Stretch.{Stretch}

abbrev stretch : ℕ → ℕ → Stretch
stretch services place = record { services = services; place = place }

pub better_taken : (better : ℕ → ℕ → Bool) (s : Stretch) (services place : ℕ) → better services s.services ≡ true → or_better better s services place ≡ stretch services place
unfolding or_better
better_taken better s services place e = rw e refl

pub better_kept : (better : ℕ → ℕ → Bool) (s : Stretch) (services place : ℕ) → better services s.services ≡ false → or_better better s services place ≡ s
unfolding or_better
better_kept better s services place e = rw e refl

-- the order of "no better than"
pub record Order (R : ℕ → ℕ → Type 0) : Type 0 where
  itself : (x : ℕ) → R x x
  through : (x y z : ℕ) → R x y → R y z → R x z
  both : (x y : ℕ) → R x y → R y x → x ≡ y

-- a stretch is kept where the new one is no better, and given up for one that is better
abbrev pub Keeps : (ℕ → ℕ → Type 0) → (ℕ → ℕ → Bool) → Type 0
Keeps R better = (s : Stretch) (services place : ℕ)
    → (R services s.services × (or_better better s services place ≡ s))
    ⊎ (R s.services services × (services ≡ s.services → ⊥) × (or_better better s services place ≡ stretch services place))

pub at_least : Order (λ x best. best ≤ x)
at_least = record { itself = λ x. omega arith; through = λ x y z p q. omega arith; both = λ x y p q. omega arith }

pub at_most : Order (λ x best. x ≤ best)
at_most = record { itself = λ x. omega arith; through = λ x y z p q. omega arith; both = λ x y p q. omega arith }

keeps_by : (R : ℕ → ℕ → Type 0) (better : ℕ → ℕ → Bool)
    → ((x y : ℕ) → better x y ≡ true → R y x × (x ≡ y → ⊥)) → ((x y : ℕ) → better x y ≡ false → R x y) → Keeps R better
keeps_by R better taken kept s services place = go (better services s.services) refl
  where
    go : (b : Bool) → better services s.services ≡ b
        → (R services s.services × (or_better better s services place ≡ s))
        ⊎ (R s.services services × (services ≡ s.services → ⊥) × (or_better better s services place ≡ stretch services place))
    go true e = let known = taken services s.services e in inr (known.0, known.1, better_taken better s services place e)
    go false e = inl (kept services s.services e, better_kept better s services place e)

pub less_keeps : Keeps (λ x best. best ≤ x) fewer
less_keeps = keeps_by _ fewer (λ x y e. let l = ltb-true x y e in (omega (arith, l), (λ s. omega (arith, l, s)))) (λ x y e. ltb-false x y e)

pub more_keeps : Keeps (λ x best. x ≤ best) more
more_keeps = keeps_by _ more (λ x y e. let l = ltb-true y x e in (omega (arith, l), (λ s. omega (arith, l, s)))) (λ x y e. ltb-false y x e)

module _ {R : ℕ → ℕ → Type 0} (order : Order R) where
  -- the places 0, .., p
  abbrev Upto : ℕ → ℕ → Type 0
  Upto p t = t ≤ p

  module _ (better : ℕ → ℕ → Bool) (keeps : Keeps R better) (c : ℕ → ℕ) where
    abbrev or : Stretch → ℕ → ℕ → Stretch
    or = or_better better

    first_next : (s : Stretch) (p : ℕ) → FirstBest R (Upto p) c s → FirstBest R (Upto (suc p)) c (or s (c (suc p)) (suc p))
    first_next s p b = ⊎_elim kept taken (keeps s (c (suc p)) (suc p))
      where
        -- what holds up to p and of suc p holds up to suc p
        upto : (P : ℕ → Type 0) → ((t : ℕ) → t ≤ p → P t) → P (suc p) → (t : ℕ) → t ≤ suc p → P t
        upto P h last t l = ⊎_elim (λ (m : t < suc p). h t (omega arith)) (λ (m : suc p ≤ t). let e : suc p ≡ t = omega arith in subst P e last) (lt_or_le t (suc p))

        kept : R (c (suc p)) s.services × (or s (c (suc p)) (suc p) ≡ s) → FirstBest R (Upto (suc p)) c (or s (c (suc p)) (suc p))
        kept k =
            rw k.1
            record {
              inside = omega (arith, b.inside);
              there = b.there;
              none_better = upto (λ t. R (c t) s.services) b.none_better k.0;
              none_earlier = upto (λ t. c t ≡ s.services → s.place ≤ t) b.none_earlier (λ _. omega (arith, b.inside));
            }

        taken : R s.services (c (suc p)) × (c (suc p) ≡ s.services → ⊥) × (or s (c (suc p)) (suc p) ≡ stretch (c (suc p)) (suc p))
            → FirstBest R (Upto (suc p)) c (or s (c (suc p)) (suc p))
        taken k =
            rw k.2
            record {
              inside = omega arith;
              there = refl;
              none_better = upto (λ t. R (c t) (c (suc p))) (λ t l. order.through (c t) s.services (c (suc p)) (b.none_better t l) k.0) (order.itself (c (suc p)));
              none_earlier = upto (λ t. c t ≡ c (suc p) → suc p ≤ t)
                  (λ t l e. absurd (k.1 (order.both (c (suc p)) s.services (subst (λ (x : ℕ). R x s.services) e (b.none_better t l)) k.0)))
                  (λ _. omega arith);
            }

    pub kept_first : (p : ℕ) → FirstBest R (Upto p) c (kept_to better c p)
    unfolding kept_to
    kept_first zero =
        record {
          inside = omega arith;
          there = refl;
          none_better = λ t l. let e : 0 ≡ t = omega arith in subst (λ (u : ℕ). R (c u) (c 0)) e (order.itself (c 0));
          none_earlier = λ t l e. omega arith;
        }
    kept_first (suc p) = first_next (kept_to better c p) p (kept_first p)

  -- there is one first best
  pub first_only : (In : ℕ → Type 0) (c : ℕ → ℕ) (s s' : Stretch) → FirstBest R In c s → FirstBest R In c s' → s ≡ s'
  first_only In c s s' b b' =
      let worse : R s'.services s.services = subst (λ (x : ℕ). R x s.services) (sym b'.there) (b.none_better s'.place b'.inside) in
      let better : R s.services s'.services = subst (λ (x : ℕ). R x s'.services) (sym b.there) (b'.none_better s.place b.inside) in
      let same : s.services ≡ s'.services = order.both s.services s'.services better worse in
      let early : s.place ≤ s'.place = b.none_earlier s'.place b'.inside (sym b'.there ∙ sym same) in
      let late : s'.place ≤ s.place = b'.none_earlier s.place b.inside (sym b.there ∙ same) in
      let there : s.place ≡ s'.place = omega arith in
      ap (λ (x : ℕ). stretch x s.place) same ∙ ap (stretch s'.services) there

-- the same places said otherwise
pub first_in : {R : ℕ → ℕ → Type 0} {In In' : ℕ → Type 0} {c : ℕ → ℕ} {s : Stretch}
    → ((t : ℕ) → In t → In' t) → ((t : ℕ) → In' t → In t) → FirstBest R In c s → FirstBest R In' c s
first_in {s = s} to from b =
    record {
      inside = to s.place b.inside;
      there = b.there;
      none_better = λ t l. b.none_better t (from t l);
      none_earlier = λ t l. b.none_earlier t (from t l);
    }
