-- A rule as a function beside the same rule as a grammar: what it means that the two agree, for a mark, for one rule behind
-- another, and for a series of items.
use Prim.Native.Nat.{ℕ, zero, suc}
use mathlib.Core.Path.{◌≡◌, refl, ap, sym, subst, ◌∙◌}
use mathlib.Core.Bool.{Bool, true, false}
use mathlib.Core.List.{List, [], ◌∷◌, ◌++◌, append_assoc, append-nil}
use lib.Dec.{eqb}
use Rattle.std.specs.Prelude.{None, Some}
use Rattle.std.proofs.lemmas.Option.{some_pair_parts}
use borrow.Author.Tests.{eqb-true, eq-eqb}
use Rattle.plantext.specs.Bytes.{is_digit}
use Rattle.plantext.specs.Grammar.{Series, one, more}
use Rattle.plantext.specs.Values.{Parsed, parsed, prefixed, followed_by, skip, before, series}

-- a piece at the beginning of a text that has these values by the grammar, and what is left behind it
pub record Taken (Piece : List ℕ → List ℕ → Type 0) (text values rest : List ℕ) : Type 0 where
  pub piece : List ℕ
  pub split : text ≡ piece ++ rest
  pub holds : Piece piece values

-- what the function takes is in the grammar
abbrev pub Sound : (List ℕ → Parsed) → (List ℕ → List ℕ → Type 0) → Type 0
Sound rule Piece = (text values rest : List ℕ) → rule text ≡ parsed values rest → Taken Piece text values rest

-- a text that doesn't begin with a digit: a number ends before it
abbrev pub NoDigit : List ℕ → Type 0
NoDigit [] = Unit {0}
NoDigit (b ∷ text) = is_digit b ≡ false

-- what is in the grammar, the function takes
abbrev pub Complete : (List ℕ → Parsed) → (List ℕ → List ℕ → Type 0) → Type 0
Complete rule Piece = (piece values rest : List ℕ) → Piece piece values → NoDigit rest → rule (piece ++ rest) ≡ parsed values rest

pub never : {values rest : List ℕ} → None ≡ parsed values rest → ⊥
never e = cc

-- Two rules behind one another took something: what each of them took.
pub record Both (first : Parsed) (rule : List ℕ → Parsed) (values rest : List ℕ) : Type 0 where
  pub early : List ℕ
  pub middle : List ℕ
  pub late : List ℕ
  pub first_took : first ≡ parsed early middle
  pub then_took : rule middle ≡ parsed late rest
  pub together : values ≡ early ++ late

pub then_both : (first : Parsed) (rule : List ℕ → Parsed) (values rest : List ℕ) → followed_by first rule ≡ parsed values rest → Both first rule values rest
then_both None rule values rest e = absurd (never e)
then_both (Some (early, middle)) rule values rest e = go (rule middle) refl
  where
    go : (second : Parsed) → rule middle ≡ second → Both (parsed early middle) rule values rest
    go None h = absurd (never (sym (ap (prefixed early) h) ∙ e))
    go (Some (late, left)) h =
        let same = some_pair_parts _ _ _ _ (sym (ap (prefixed early) h) ∙ e) in
        record {
          early = early;
          middle = middle;
          late = late;
          first_took = refl;
          then_took = cc;
          together = cc;
        }

pub skip_sound : (mark text values rest : List ℕ) → skip mark text ≡ parsed values rest → (values ≡ []) × (text ≡ mark ++ rest)
unfolding skip
skip_sound [] text values rest e = let same = some_pair_parts _ _ _ _ e in (cc, cc)
skip_sound (m ∷ mark) [] values rest e = absurd (never e)
skip_sound (m ∷ mark) (b ∷ text) values rest e = go (eqb b m) refl (skip_sound mark text values rest)
  where
    go : (same : Bool) → eqb b m ≡ same → (skip mark text ≡ parsed values rest → (values ≡ []) × (text ≡ mark ++ rest))
        → (values ≡ []) × (b ∷ text ≡ m ∷ (mark ++ rest))
    go true h behind-it =
        let later = behind-it (rw h at e) in
        let same = eqb-true b m h in
        (later.0, cc)
    go false h behind-it = absurd (never (rw h at e))

skip_complete : (mark rest : List ℕ) → skip mark (mark ++ rest) ≡ parsed [] rest
unfolding skip
skip_complete [] rest = refl
skip_complete (m ∷ mark) rest = rw (eq-eqb m m refl) (skip_complete mark rest)

pub prefixed_none : (p : Parsed) → prefixed [] p ≡ p
prefixed_none None = refl
prefixed_none (Some (values, rest)) = refl

-- A series of items whose function and grammar agree, with a mark that begins with no digit.
module _ (item : List ℕ → Parsed) (Item : List ℕ → List ℕ → Type 0) (mark : List ℕ) where
  -- what was taken, a mark, and one item more
  taken_next : {k : ℕ} {text values middle left new rest : List ℕ} → Taken (Series Item mark k) text values middle → middle ≡ mark ++ left
      → Taken Item left new rest → Taken (Series Item mark (suc k)) text (values ++ new) rest
  taken_next most e last =
      record {
        piece = most.piece ++ mark ++ last.piece;
        split =
            most.split
            ∙ ap (λ (l : List ℕ). most.piece ++ l) (e ∙ ap (λ (l : List ℕ). mark ++ l) last.split)
            ∙ simp append_assoc;
        holds = more most.holds last.holds;
      }

  pub series_sound : Sound item Item → (k : ℕ) → Sound (series item mark (suc k)) (Series Item mark (suc k))
  unfolding series skip
  series_sound sound zero text values rest e =
      let taken = sound text values rest (sym (prefixed_none (item text)) ∙ e) in
      record { piece = taken.piece; split = taken.split; holds = one taken.holds }
  series_sound sound (suc k) text values rest e =
      let outer = then_both (followed_by (series item mark (suc k) text) (skip mark)) item values rest e in
      let inner = then_both (series item mark (suc k) text) (skip mark) outer.early outer.middle outer.first_took in
      let passed = skip_sound mark inner.middle inner.late outer.middle inner.then_took in
      let most = series_sound sound k text inner.early inner.middle inner.first_took in
      let last = sound outer.middle outer.late rest outer.then_took in
      let all : inner.early ++ outer.late ≡ values = cc (append-nil inner.early) in
      subst (λ (v : List ℕ). Taken (Series Item mark (suc (suc k))) text v rest) all (taken_next most passed.1 last)

  some_items : {k : ℕ} {text values : List ℕ} → Series Item mark k text values → before mark k ≡ mark
  some_items (one h) = refl
  some_items (more s h) = refl

  pub series_complete : Complete item Item → ((text : List ℕ) → NoDigit (mark ++ text)) → (k : ℕ) → Complete (series item mark k) (Series Item mark k)
  unfolding series skip
  series_complete complete stops k piece values rest (one {text = text} h) clear = prefixed_none (item (text ++ rest)) ∙ complete text values rest h clear
  series_complete complete stops k piece values rest (more {k = j} {text = text} {values = early} {last = last} {new = new} s h) clear =
      let most = series_complete complete stops j text early (mark ++ (last ++ rest)) s (stops (last ++ rest)) in
      rw (append_assoc, append_assoc, most, some_items s, skip_complete, complete last new rest h clear, append-nil) refl
