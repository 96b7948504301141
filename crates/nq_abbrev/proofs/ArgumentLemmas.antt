-- Calls whose arguments are terms: how many there are, and how deep they are.
use Rattle.std.proofs.Common.{◌≡◌, ℕ, zero, suc, ◌<◌, ◌≤◌, Bool, true, false, nat_eq, List, [], ◌∷◌, ◌++◌, length, get_or, drop, ◌+◌, refl, ap, sym, ◌∙◌, subst, arith, cond, append_assoc, append-nil}
use Rattle.std.proofs.lemmas.Bool.{eqb-true}
use Rattle.std.proofs.lemmas.List.{drop_all}
use Rattle.std.specs.Prelude.{Option, None, Some, codes}
use Rattle.nq_logic.specs.Terms.{Name, Term, Substitution}
use Rattle.nq_logic.specs.Sizes.{depth_of, depth_limit}
use Rattle.nq_form.specs.Form.{Form, Forms, end, dotted, next}
use Rattle.nq_language.specs.Abbreviations.{Word, Listing, Conditional, Choice, Binding, Quotation, Nesting, Path, Outside, Plain}
use Rattle.nq_language.specs.Translation.{list_term, nested_term, path_call}
use Rattle.nq_language.specs.Refusals.{Refusal, WrongArity, count, own_met, met, all_met}
use Rattle.nq_language.specs.Scopes.{translated_in, all_translated_in}
use Rattle.nq_sexp.specs.declared.Sexp.{Sexp}
use Rattle.nq_sexp.specs.Tree.{tree, trees}
use Rattle.nq_bank.specs.declared.node.TermId.{TermId}
use Rattle.nq_bank.specs.Content.{Content, term_at, terms_at}
use Rattle.nq_bank.proofs.DeepLemmas.{deep_argument}
use Rattle.nq_abbrev.specs.Nests.{applied_term, takes_terms}
use Rattle.nq_abbrev.proofs.MakingLemmas.{deep_first, deep_second}
use Rattle.nq_abbrev.proofs.NestLemmas.{deep_path_end}
use Rattle.nq_abbrev.proofs.RefusalLemmas.{at_place}
use Rattle.nq_abbrev.proofs.ClauseLemmas.{first_unmet}

deep_in_list : (ts : List Term) (k : ℕ) (d : Term) → k < length ts → depth_limit < depth_of (get_or ts k d) → depth_limit < depth_of (list_term ts)
deep_in_list [] k d lt h = absurd (omega arith)
deep_in_list (t ∷ ts) zero d lt h = deep_first (codes "CONS") t (list_term ts) h
deep_in_list (t ∷ ts) (suc k) d lt h = deep_second (codes "CONS") t (list_term ts) (deep_in_list ts k d (omega arith) h)

deep_in_nest : (f : Name) (ts : List Term) (k : ℕ) (d : Term) → k < length ts → depth_limit < depth_of (get_or ts k d) → depth_limit < depth_of (nested_term f ts)
deep_in_nest f [] k d lt h = absurd (omega arith)
deep_in_nest f (t ∷ []) k d lt h = deep_argument f (t ∷ []) k d lt h
deep_in_nest f (t ∷ u ∷ []) k d lt h = deep_argument f (t ∷ u ∷ []) k d lt h
deep_in_nest f (t ∷ u ∷ v ∷ ts) zero d lt h = deep_first f t (nested_term f (u ∷ v ∷ ts)) h
deep_in_nest f (t ∷ u ∷ v ∷ ts) (suc k) d lt h = deep_second f t (nested_term f (u ∷ v ∷ ts)) (deep_in_nest f (u ∷ v ∷ ts) k d (omega arith) h)

deep_in_path : (letters : List ℕ) (ts : List Term) (k : ℕ) (d : Term) → length ts ≡ 1 → k < length ts → depth_limit < depth_of (get_or ts k d) → depth_limit < depth_of (path_call letters ts)
deep_in_path letters [] k d one lt h = absurd (omega arith)
deep_in_path letters (t ∷ ts) zero d one lt h = deep_path_end letters t h
deep_in_path letters (t ∷ ts) (suc k) d one lt h = absurd (omega (arith, one, lt))

-- the count of terms that a word wants, where it wants just so many
abbrev pub is_counted : Word → ℕ → Type 0
is_counted (Path letters) n = n ≡ 1
is_counted w n = Unit {0}

-- a call with an argument that is too deep
pub deep_applied : (w : Word) (f : Name) (ts : List Term) (k : ℕ) (d : Term) → takes_terms w ≡ true → is_counted w (length ts) → k < length ts → depth_limit < depth_of (get_or ts k d) → depth_limit < depth_of (applied_term w f ts)
deep_applied Listing f ts k d takes one lt h = deep_in_list ts k d lt h
deep_applied Conditional f ts k d takes one lt h = absurd (cc)
deep_applied Choice f ts k d takes one lt h = absurd (cc)
deep_applied Binding f ts k d takes one lt h = absurd (cc)
deep_applied Quotation f ts k d takes one lt h = absurd (cc)
deep_applied Nesting f ts k d takes one lt h = deep_in_nest f ts k d lt h
deep_applied (Path letters) f ts k d takes one lt h = deep_in_path letters ts k d one lt h
deep_applied Outside f ts k d takes one lt h = absurd (cc)
deep_applied Plain f ts k d takes one lt h = deep_argument f ts k d lt h

counted_unmet : (b : Bool) (n wanted : ℕ) (r : Refusal) → nat_eq n wanted ≡ b → cond b None (Some r) ≡ None → n ≡ wanted
counted_unmet true n wanted r is h = eqb-true n wanted is
counted_unmet false n wanted r is h = absurd (cc)

-- a call that isn't refused has the count that its word wants
counts : (w : Word) (o : Option ℕ) (f : Name) (fs : Forms) → own_met w o f fs ≡ None → is_counted w (count fs)
counts Listing o f fs h = tt
counts Conditional o f fs h = tt
counts Choice o f fs h = tt
counts Binding o f fs h = tt
counts Quotation o f fs h = tt
counts Nesting o f fs h = tt
counts (Path letters) o f fs h = counted_unmet (nat_eq (count fs) 1) (count fs) 1 (WrongArity f (count fs) 1) refl h
counts Outside o f fs h = tt
counts Plain o f fs h = tt

pub terms_more : (bank : Content) (ids : List TermId) (id : TermId) → terms_at bank (ids ++ id ∷ []) ≡ terms_at bank ids ++ term_at bank id ∷ []
terms_more bank [] id = refl
terms_more bank (i ∷ ids) id = ap (λ (z : List Term). term_at bank i ∷ z) (terms_more bank ids id)

at_middle : (a : List Term) (t : Term) (b : List Term) (d : Term) → get_or (a ++ t ∷ b) (length a) d ≡ t
at_middle [] t b d = refl
at_middle (u ∷ a) t b d = at_middle a t b d

within_middle : (a : List Term) (t : Term) (b : List Term) → length a < length (a ++ t ∷ b)
within_middle [] t b = omega arith
within_middle (u ∷ a) t b = let rest = within_middle a t b in omega (arith, rest)

module _ (arity : Name → Option ℕ) where
  all_unmet : (items : List Sexp) (place : ℕ) (x : Sexp) → place < length items → x ≡ get_or items place x → all_met arity (trees items end) ≡ None → met arity (tree x) ≡ None
  unfolding met
  all_unmet [] place x lt is h = absurd (omega arith)
  all_unmet (y ∷ items) zero x lt is h = ap (λ (z : Sexp). met arity (tree z)) is ∙ (first_unmet (met arity (tree y)) (all_met arity (trees items end)) h).0
  all_unmet (y ∷ items) (suc place) x lt is h = all_unmet items place x (omega arith) is (first_unmet (met arity (tree y)) (all_met arity (trees items end)) h).1

  -- an argument of a call that isn't refused
  pub argument_unmet : (from : ℕ) (items : List Sexp) (place : ℕ) (x : Sexp) → from ≤ place → place < length items → x ≡ get_or items place x → all_met arity (trees (drop from items) end) ≡ None → met arity (tree x) ≡ None
  argument_unmet zero items place x lo lt is h = all_unmet items place x lt is h
  argument_unmet (suc from) [] place x lo lt is h = absurd (omega arith)
  argument_unmet (suc from) (y ∷ items) zero x lo lt is h = absurd (omega arith)
  argument_unmet (suc from) (y ∷ items) (suc place) x lo lt is h = argument_unmet from items place x (omega arith) (omega arith) is h

  module _ (s : Substitution) where
    count_terms : (fs : Forms) → length (all_translated_in arity s fs) ≡ count fs
    unfolding translated_in
    count_terms end = refl
    count_terms (dotted f) = refl
    count_terms (next f fs) = ap suc (count_terms fs)

    no_terms : all_translated_in arity s end ≡ []
    unfolding translated_in
    no_terms = refl

    next_terms : (f : Form) (fs : Forms) → all_translated_in arity s (next f fs) ≡ translated_in arity s f ∷ all_translated_in arity s fs
    unfolding translated_in
    next_terms f fs = refl

    -- the terms from a place on
    terms_at_place : (items : List Sexp) (place : ℕ) (x : Sexp) → place < length items → x ≡ get_or items place x
        → all_translated_in arity s (trees (drop place items) end) ≡ translated_in arity s (tree x) ∷ all_translated_in arity s (trees (drop (place + 1) items) end)
    terms_at_place items place x lt is =
        ap (λ (z : List Sexp). all_translated_in arity s (trees z end)) (at_place items place x lt is) ∙ next_terms (tree x) (trees (drop (place + 1) items) end)

    -- the terms so far, and those from a place on, where one is too deep
    pub deep_at : (w : Word) (f : Name) (items : List Sexp) (place : ℕ) (x : Sexp) (made : List Term) → takes_terms w ≡ true → own_met w (arity f) f (trees (drop 1 items) end) ≡ None → place < length items → x ≡ get_or items place x
        → made ++ all_translated_in arity s (trees (drop place items) end) ≡ all_translated_in arity s (trees (drop 1 items) end)
        → depth_limit < depth_of (translated_in arity s (tree x)) → depth_limit < depth_of (applied_term w f (all_translated_in arity s (trees (drop 1 items) end)))
    deep_at w f items place x made takes own lt is e h =
        let t = translated_in arity s (tree x) in
        let rest = all_translated_in arity s (trees (drop (place + 1) items) end) in
        let all = all_translated_in arity s (trees (drop 1 items) end) in
        let here : made ++ t ∷ rest ≡ all = ap (λ (z : List Term). made ++ z) (sym (terms_at_place items place x lt is)) ∙ e in
        let counted = subst (λ n. is_counted w n) (sym (count_terms (trees (drop 1 items) end))) (counts w (arity f) f (trees (drop 1 items) end) own) in
        let fits = subst (λ (z : List Term). is_counted w (length z)) (sym here) counted in
        subst (λ (z : List Term). depth_limit < depth_of (applied_term w f z)) here
        (deep_applied w f (made ++ t ∷ rest) (length made) t takes fits (within_middle made t rest) (subst (λ (z : Term). depth_limit < depth_of z) (sym (at_middle made t rest t)) h))

    -- one more term is made
    pub one_made : (items : List Sexp) (place : ℕ) (x : Sexp) (made all : List Term) (t : Term) → place < length items → x ≡ get_or items place x → t ≡ translated_in arity s (tree x)
        → made ++ all_translated_in arity s (trees (drop place items) end) ≡ all
        → (made ++ t ∷ []) ++ all_translated_in arity s (trees (drop (place + 1) items) end) ≡ all
    one_made items place x made all t lt is same e =
        append_assoc made (t ∷ []) (all_translated_in arity s (trees (drop (place + 1) items) end))
        ∙ ap (λ (z : Term). made ++ z ∷ all_translated_in arity s (trees (drop (place + 1) items) end)) same
        ∙ ap (λ (z : List Term). made ++ z) (sym (terms_at_place items place x lt is)) ∙ e

    -- all terms are made
    pub all_made : (items : List Sexp) (place : ℕ) (made all : List Term) → length items ≤ place → made ++ all_translated_in arity s (trees (drop place items) end) ≡ all → made ≡ all
    all_made items place made all le e =
        let nothing : drop place items ≡ [] = drop_all place items le in
        sym (append-nil made) ∙ ap (λ (z : List Term). made ++ z) (sym (ap (λ (z : List Sexp). all_translated_in arity s (trees z end)) nothing ∙ no_terms)) ∙ e
