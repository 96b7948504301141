-- The meaning of names depends only on which of AND, OR, PLUS and TIMES take two arguments.
use Rattle.std.proofs.Common.{◌≡◌, ℕ, Bool, true, false, refl, ap, sym, ◌∙◌}
use Rattle.std.specs.Prelude.{Option, None, Some, ◌||◌, if◌then◌else◌, List, bytes_eq, codes}
use Rattle.std.proofs.lemmas.Slice.Eq.{bytes_eq-Decides}
use Rattle.nq_logic.specs.Terms.{Name}
use Rattle.nq_language.specs.Abbreviations.{Word, Listing, Conditional, Choice, Binding, Quotation, Nesting, Path, Outside, Plain, is_word, is_nesting, other_word, path_of, path_or, nesting_by, word_of, word_by, word_in}
use Rattle.nq_abbrev.specs.declared.arities.Nests.{Nests}
use Rattle.nq_abbrev.specs.Nests.{two_if, is_two, nest_arity, Agrees}

two_back : (b : Bool) → is_two (two_if b) ≡ b
two_back true = refl
two_back false = refl

nesting_two : (o : Option ℕ) → nesting_by o ≡ (if is_two o then Nesting else Plain)
nesting_two None = refl
nesting_two (Some n) = refl

chosen_nesting : (b c d e g n o : Bool) → (if b then Listing else (if c then Conditional else (if d then Choice else (if e then Binding else (if g then Quotation else (if n then Nesting else (if o then Outside else Plain))))))) ≡ Nesting → n ≡ true
chosen_nesting true c d e g n o h = absurd (cc)
chosen_nesting false true d e g n o h = absurd (cc)
chosen_nesting false false true e g n o h = absurd (cc)
chosen_nesting false false false true g n o h = absurd (cc)
chosen_nesting false false false false true n o h = absurd (cc)
chosen_nesting false false false false false true o h = refl
chosen_nesting false false false false false false true h = absurd (cc)
chosen_nesting false false false false false false false h = absurd (cc)

no_path : (w : Word) (o : Option (List ℕ)) → path_or w o ≡ Nesting → w ≡ Nesting
no_path w None h = h
no_path w (Some letters) h = absurd (cc)

nesting_named : (f : Name) → word_of f ≡ Nesting → is_nesting f ≡ true
unfolding word_of
nesting_named f h = chosen_nesting (is_word "LIST" f) (is_word "COND" f) (is_word "CASE" f) (is_word "LET" f) (is_word "QUOTE" f) (is_nesting f) _ (no_path (other_word f) (path_of f) h)

by_names : (b c d e : Bool) (n : Nests) (x : Bool) → (b ≡ true → n.and ≡ x) → (c ≡ true → n.or ≡ x) → (d ≡ true → n.plus ≡ x) → (e ≡ true → n.times ≡ x) → (b || c || d || e) ≡ true
    → is_two (if b then two_if n.and else (if c then two_if n.or else (if d then two_if n.plus else (if e then two_if n.times else None)))) ≡ x
by_names true c d e n x h i j k any = two_back n.and ∙ h refl
by_names false true d e n x h i j k any = two_back n.or ∙ i refl
by_names false false true e n x h i j k any = two_back n.plus ∙ j refl
by_names false false false true n x h i j k any = two_back n.times ∙ k refl
by_names false false false false n x h i j k any = absurd (cc)

module _ (n : Nests) (arity : Name → Option ℕ) (and_is : n.and ≡ is_two (arity (codes "AND"))) (or_is : n.or ≡ is_two (arity (codes "OR"))) (plus_is : n.plus ≡ is_two (arity (codes "PLUS"))) (times_is : n.times ≡ is_two (arity (codes "TIMES"))) where
  named : (f g : Name) (b : Bool) → b ≡ is_two (arity g) → bytes_eq f g ≡ true → b ≡ is_two (arity f)
  named f g b h same = h ∙ ap (λ z. is_two (arity z)) (sym ((bytes_eq-Decides f g).0 same))

  two_same : (f : Name) → is_nesting f ≡ true → is_two (nest_arity n f) ≡ is_two (arity f)
  two_same f any = by_names (is_word "AND" f) (is_word "OR" f) (is_word "PLUS" f) (is_word "TIMES" f) n (is_two (arity f)) (named f (codes "AND") n.and and_is) (named f (codes "OR") n.or or_is) (named f (codes "PLUS") n.plus plus_is) (named f (codes "TIMES") n.times times_is) any

  agrees_at : (f : Name) (w : Word) → word_of f ≡ w → word_by w (nest_arity n f) ≡ word_by w (arity f)
  agrees_at f Listing h = refl
  agrees_at f Conditional h = refl
  agrees_at f Choice h = refl
  agrees_at f Binding h = refl
  agrees_at f Quotation h = refl
  agrees_at f Nesting h = nesting_two (nest_arity n f) ∙ ap (λ b. if b then Nesting else Plain) (two_same f (nesting_named f h)) ∙ sym (nesting_two (arity f))
  agrees_at f (Path letters) h = refl
  agrees_at f Outside h = refl
  agrees_at f Plain h = refl

  pub agrees : Agrees n arity
  unfolding word_in
  agrees f = agrees_at f (word_of f) refl
