-- The two forms of the rules agree, rule by rule: fields, records, and the text as a whole.
use Prim.Native.Nat.{ℕ, zero, suc}
use mathlib.Core.Path.{◌≡◌, refl, ap, sym, subst, ◌∙◌}
use mathlib.Core.Bool.{Bool, true, false, cond, ◌||◌}
use mathlib.Core.List.{List, [], ◌∷◌, ◌++◌, append_assoc, append-nil}
use mathlib.Core.Logic.{◌⊎◌, inl, inr, ⊎_elim}
use native.Mathlib.Omega.{arith}
use lib.Dec.{eqb}
use Rattle.std.specs.Prelude.{None, Some}
use Rattle.std.proofs.lemmas.Option.{some_pair_parts}
use borrow.Author.Tests.{eqb-true}
use Rattle.plantext.specs.Bytes.{is_digit, comma, quote, line_end}
use Rattle.plantext.specs.Grammar.{Number, Field, plain, quoted, Record, Records, Text, unended, ended}
use Rattle.plantext.specs.Values.{Parsed, parsed, skip, digits_from, number, field_behind, field, record_of, records_of, at_end, ends, whole, values_of, SameRules, OneReading}
use Rattle.plantext.proofs.RuleLaws.{Taken, Sound, Complete, never, then_both, skip_sound, series_sound, series_complete}
use Rattle.plantext.proofs.NumberLaws.{number_sound, number_complete}

quoted_taken : {text inside values middle rest : List ℕ} → text ≡ quote ++ inside → Taken Number inside values middle → middle ≡ quote ++ rest → Taken Field text values rest
quoted_taken e taken f =
    record {
      piece = quote ++ taken.piece ++ quote;
      split = e ∙ ap (λ (l : List ℕ). quote ++ l) (taken.split ∙ ap (λ (l : List ℕ). taken.piece ++ l) f ∙ sym (append_assoc taken.piece quote _));
      holds = quoted taken.holds;
    }

field_sound : Sound field Field
unfolding field
field_sound text values rest e = go (skip quote text) refl e
  where
    go : (opening : Parsed) → skip quote text ≡ opening → field_behind opening text ≡ parsed values rest → Taken Field text values rest
    go None h f =
        let taken = number_sound text values rest f in
        record { piece = taken.piece; split = taken.split; holds = plain taken.holds }
    go (Some (before, inside)) h f =
        let both = then_both (number inside) (skip quote) values rest f in
        let opened = skip_sound quote text before inside h in
        let closed = skip_sound quote both.middle both.late rest both.then_took in
        let all : both.early ≡ values = cc (append-nil both.early) in
        subst (λ (v : List ℕ). Taken Field text v rest) all (quoted_taken opened.1 (number_sound inside both.early both.middle both.first_took) closed.1)

-- a number begins with a digit, and with no quote
no_quote : (text values rest : List ℕ) → number text ≡ parsed values rest → skip quote text ≡ None
unfolding number digits_from skip is_digit
no_quote [] values rest e = refl
no_quote (b ∷ text) values rest e = go (eqb b 34) refl
  where
    go : (is : Bool) → eqb b 34 ≡ is → cond (eqb b 34) (parsed [] text) None ≡ None
    go true h = absurd (never (subst (λ (c : ℕ). number (c ∷ text) ≡ parsed values rest) (eqb-true b 34 h) e))
    go false h = rw h refl

field_complete : Complete field Field
unfolding field skip is_digit
field_complete piece values rest (plain {text = text} h) clear =
    let e = number_complete text values rest h clear in
    rw (no_quote (text ++ rest) values rest e) e
field_complete piece values rest (quoted {text = text} h) clear =
    rw (append_assoc text quote rest, number_complete text values (quote ++ rest) h refl, append-nil) refl

record_sound : (m : ℕ) → Sound (record_of (suc m)) (Record (suc m))
record_sound m = series_sound field Field comma field_sound m

record_complete : (n : ℕ) → Complete (record_of n) (Record n)
unfolding is_digit
record_complete n = series_complete field Field comma field_complete (λ _. refl) n

records_sound : (m : ℕ) → Sound (records_of (suc m)) (Records (suc m))
records_sound m = series_sound (record_of (suc m)) (Record (suc m)) line_end (record_sound m) m

records_complete : (n : ℕ) → Complete (records_of n) (Records n)
unfolding is_digit
records_complete n = series_complete (record_of n) (Record n) line_end (record_complete n) (λ _. refl) n

at_end_lem : (p : Parsed) → at_end p ≡ true → (values : List ℕ) × (p ≡ parsed values [])
at_end_lem None e = cc
at_end_lem (Some (values, [])) e = (values, refl)
at_end_lem (Some (values, b ∷ rest)) e = cc

or_true : (a b : Bool) → (a || b) ≡ true → (a ≡ true) ⊎ (b ≡ true)
or_true true b e = inl refl
or_true false b e = inr e

-- "the last one with or without"
ends_cases : (rest : List ℕ) → ends rest ≡ true → (rest ≡ []) ⊎ (rest ≡ line_end)
unfolding ends
ends_cases rest e =
    ⊎_elim
    (λ (h : at_end (parsed [] rest) ≡ true). inl (some_pair_parts _ _ _ _ (at_end_lem (parsed [] rest) h).1).1)
    (λ (h : at_end (skip line_end rest) ≡ true). let left = at_end_lem (skip line_end rest) h in inr (skip_sound line_end rest left.0 [] left.1).1)
    (or_true (at_end (parsed [] rest)) (at_end (skip line_end rest)) e)

text_taken : (n : ℕ) {text values rest : List ℕ} → Taken (Records n) text values rest → (rest ≡ []) ⊎ (rest ≡ line_end) → Text n text values
text_taken n {text} {values} {rest} taken end =
    ⊎_elim
    (λ (e : rest ≡ []). as_text (append-nil taken.piece) e (unended taken.holds))
    (λ (e : rest ≡ line_end). as_text refl e (ended taken.holds))
    end
  where
    as_text : {left whole : List ℕ} → taken.piece ++ left ≡ whole → rest ≡ left → Text n whole values → Text n text values
    as_text w e h = subst (λ (l : List ℕ). Text n l values) (sym (taken.split ∙ ap (λ (l : List ℕ). taken.piece ++ l) e ∙ w)) h

text_sound : (m : ℕ) (text values : List ℕ) → values_of (suc m) text ≡ Some values → Text (suc m) text values
unfolding values_of
text_sound m text values e = go (records_of (suc m) text) refl e
  where
    at : (early rest : List ℕ) → records_of (suc m) text ≡ parsed early rest → (is : Bool) → ends rest ≡ is → cond is (Some early) None ≡ Some values → Text (suc m) text values
    at early rest h true end f =
        let same : early ≡ values = cc in
        text_taken (suc m) (records_sound m text values rest (h ∙ ap (λ (l : List ℕ). parsed l rest) same)) (ends_cases rest end)
    at early rest h false end f = cc

    go : (p : Parsed) → records_of (suc m) text ≡ p → whole p ≡ Some values → Text (suc m) text values
    go None h f = cc
    go (Some (early, rest)) h f = at early rest h (ends rest) refl f

text_complete : (n : ℕ) (text values : List ℕ) → Text n text values → values_of n text ≡ Some values
unfolding values_of ends skip is_digit
text_complete n text values (unended {text = lines} h) =
    let all : records_of n lines ≡ parsed values [] = subst (λ (l : List ℕ). records_of n l ≡ parsed values []) (append-nil lines) (records_complete n lines values [] h tt) in
    rw all refl
text_complete n text values (ended {text = lines} h) = rw (records_complete n lines values line_end h refl) refl

pub same_rules : SameRules
same_rules zero text values some_port = absurd (omega arith)
same_rules (suc m) text values some_port = (text_sound m text values, text_complete (suc m) text values)

-- a text has one reading
pub one_reading : OneReading
one_reading n text values other h g = let e = text_complete n text values h in let f = text_complete n text other g in cc
