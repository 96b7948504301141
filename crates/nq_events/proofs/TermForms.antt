-- The term of a form that isn't refused is over the functions whose arities are known.
use Rattle.std.proofs.Common.{◌≡◌, ℕ, suc, Bool, true, false, List, [], ◌∷◌, length, refl, sym, ap, subst, nat_eq}
use Rattle.std.specs.Prelude.{Option, None, Some, if◌then◌else◌}
use Rattle.std.proofs.lemmas.Bool.{eqb-true}
use Rattle.nq_logic.specs.Terms.{Name, Symbol, Term, Function, call, IsAmong}
use Rattle.nq_logic.specs.Words.{equal_term}
use Rattle.nq_form.specs.Form.{Form, Forms, symbol, numeral as number, text, quoted, listed, end, dotted, next}
use Rattle.nq_language.specs.Abbreviations.{Word, Listing, Conditional, Choice, Binding, Quotation, Nesting, Path, Outside, Plain, word_of, word_in, word_by}
use Rattle.nq_language.specs.Objects.{nil_term, value}
use Rattle.nq_language.specs.Translation.{list_term, nested_term, path_call, quoted_term, translated, all_translated, conditional_term, choice_term, keyed_term, binding_term, bound}
use Rattle.nq_language.specs.Refusals.{Met, Refusal, WrongArity, first, own_met, counted, nested_counted, known, count, is_dotted, bad, met, all_met, clauses_met, choice_met, keyed_met, binding_met, bound_met, objects_met, object_met}
use Rattle.nq_events.proofs.TermParts.{HasBasics, Stands, AllStand, PairsStand, applied_stands, substituted_stands, nil_stands, number_stands, value_stands, quoted_stands, list_stands, nested_stands, path_call_stands, symbol_stands, if_stands, equal_stands}

-- neither of two is met
first_left : (a b : Met) → first a b ≡ None → a ≡ None
first_left None b e = refl
first_left (Some r) b e = e

first_right : (a b : Met) → first a b ≡ None → b ≡ None
first_right None b e = e
first_right (Some r) b e = absurd (cc)

-- two numbers are one where their comparison refuses nothing
same_count : (b : Bool) (m n : ℕ) (r : Refusal) → nat_eq m n ≡ b → (if b then None else Some r) ≡ None → m ≡ n
same_count true m n r same e = eqb-true m n same
same_count false m n r same e = absurd (cc)

counted_is : (f : Name) (wanted given : ℕ) → counted f wanted given ≡ None → given ≡ wanted
counted_is f wanted given e = same_count (nat_eq given wanted) given wanted (WrongArity f given wanted) refl e

known_is : (f : Name) (o : Option ℕ) (given : ℕ) → known f o given ≡ None → o ≡ Some given
known_is f None given e = absurd (cc)
known_is f (Some wanted) given e = ap (λ (n : ℕ). Some n) (sym (counted_is f wanted given e))

-- a name with nested arguments takes two
two_by_test : (b : Bool) (n : ℕ) → nat_eq n 2 ≡ b → (if b then Nesting else Plain) ≡ Nesting → Some n ≡ Some 2
two_by_test true n same e = ap (λ (m : ℕ). Some m) (eqb-true n 2 same)
two_by_test false n same e = absurd (cc)

takes_two : (w : Word) (o : Option ℕ) → word_by w o ≡ Nesting → o ≡ Some 2
takes_two Nesting None e = absurd (cc)
takes_two Nesting (Some n) e = two_by_test (nat_eq n 2) n refl e
takes_two Listing o e = absurd (cc)
takes_two Conditional o e = absurd (cc)
takes_two Choice o e = absurd (cc)
takes_two Binding o e = absurd (cc)
takes_two Quotation o e = absurd (cc)
takes_two (Path letters) o e = absurd (cc)
takes_two Outside o e = absurd (cc)
takes_two Plain o e = absurd (cc)

module _ (symbols : List Symbol) (arity : Name → Option ℕ) (basics : HasBasics symbols) (known_symbols : (f : Name) (n : ℕ) → arity f ≡ Some n → IsAmong (f, n) symbols) where
  count_is : (fs : Forms) → count fs ≡ length (all_translated arity fs)
  unfolding all_translated
  count_is end = refl
  count_is (dotted f) = refl
  count_is (next f fs) = ap (λ (n : ℕ). suc n) (count_is fs)

  call_stands : (f : Name) (ts : List Term) → known f (arity f) (length ts) ≡ None → AllStand symbols ts → Stands symbols (call f ts) 0
  call_stands f ts e all = applied_stands symbols (Function f) ts (known_symbols f (length ts) (known_is f (arity f) (length ts) e)) all

  nest_stands : (f : Name) (ts : List Term) → arity f ≡ Some 2 → nested_counted f (length ts) ≡ None → AllStand symbols ts → Stands symbols (nested_term f ts) 0
  nest_stands f [] two e all = absurd (cc)
  nest_stands f (t ∷ []) two e all = absurd (cc)
  nest_stands f (t ∷ u ∷ ts) two e all = nested_stands symbols basics f t u ts (known_symbols f 2 two) all

  -- a call that isn't refused, by the meaning of its name
  by_word : (w : Word) (f : Name) (fs : Forms) → word_in arity f ≡ w
      → first (own_met w (arity f) f fs) (elim w [
        | Quotation ↦ objects_met fs
        | Conditional ↦ clauses_met arity fs
        | Choice ↦ choice_met arity fs
        | Binding ↦ binding_met arity fs
        | _ ↦ all_met arity fs
      ]) ≡ None
      → (all_met arity fs ≡ None → AllStand symbols (all_translated arity fs)) → (clauses_met arity fs ≡ None → Stands symbols (conditional_term arity fs) 0)
      → (choice_met arity fs ≡ None → Stands symbols (choice_term arity fs) 0) → (binding_met arity fs ≡ None → Stands symbols (binding_term arity fs) 0)
      → Stands symbols (elim w [
        | Listing ↦ list_term (all_translated arity fs)
        | Conditional ↦ conditional_term arity fs
        | Choice ↦ choice_term arity fs
        | Binding ↦ binding_term arity fs
        | Quotation ↦ quoted_term fs
        | Nesting ↦ nested_term f (all_translated arity fs)
        | Path letters ↦ path_call letters (all_translated arity fs)
        | Outside ↦ nil_term
        | Plain ↦ call f (all_translated arity fs)
      ]) 0
  unfolding word_in
  by_word Listing f fs is e all clauses choice binding = list_stands symbols basics (all_translated arity fs) (all e)
  by_word Conditional f fs is e all clauses choice binding = clauses (first_right (own_met Conditional (arity f) f fs) (clauses_met arity fs) e)
  by_word Choice f fs is e all clauses choice binding = choice (first_right (own_met Choice (arity f) f fs) (choice_met arity fs) e)
  by_word Binding f fs is e all clauses choice binding = binding (first_right (own_met Binding (arity f) f fs) (binding_met arity fs) e)
  by_word Quotation f fs is e all clauses choice binding = quoted_stands symbols basics fs
  by_word Nesting f fs is e all clauses choice binding =
      let own = first_left (nested_counted f (count fs)) (all_met arity fs) e in
      nest_stands f (all_translated arity fs) (takes_two (word_of f) (arity f) is) (subst (λ (n : ℕ). nested_counted f n ≡ None) (count_is fs) own) (all (first_right (nested_counted f (count fs)) (all_met arity fs) e))
  by_word (Path letters) f fs is e all clauses choice binding =
      path_call_stands symbols basics letters (all_translated arity fs) (all (first_right (counted f 1 (count fs)) (all_met arity fs) e))
  by_word Outside f fs is e all clauses choice binding = nil_stands symbols basics
  by_word Plain f fs is e all clauses choice binding =
      let own = first_left (known f (arity f) (count fs)) (all_met arity fs) e in
      call_stands f (all_translated arity fs) (subst (λ (n : ℕ). known f (arity f) n ≡ None) (count_is fs) own) (all (first_right (known f (arity f) (count fs)) (all_met arity fs) e))

  -- a call that is dotted is refused
  not_dotted : (b : Bool) (own : Met) → (if b then bad "FORM" else own) ≡ None → own ≡ None
  not_dotted true own e = absurd (cc)
  not_dotted false own e = e

  mutual
    unfolding met translated

    pub form_stands : (f : Form) → met arity f ≡ None → Stands symbols (translated arity f) 0
    form_stands (symbol x) e = symbol_stands symbols basics x
    form_stands (number negative n) e = number_stands symbols basics negative n
    form_stands (text bytes) e = nil_stands symbols basics
    form_stands (quoted f) e = value_stands symbols basics f
    form_stands (listed end) e = nil_stands symbols basics
    form_stands (listed (next (symbol f) fs)) e =
        by_word (word_in arity f) f fs refl (not_dotted (is_dotted fs) _ e) (all_stand fs) (clauses_stand fs) (choice_stands fs) (binding_stands fs)
    form_stands (listed fs) e = nil_stands symbols basics

    all_stand : (fs : Forms) → all_met arity fs ≡ None → AllStand symbols (all_translated arity fs)
    all_stand end e = tt
    all_stand (dotted f) e = tt
    all_stand (next f fs) e = (form_stands f (first_left (met arity f) (all_met arity fs) e), all_stand fs (first_right (met arity f) (all_met arity fs) e))

    clauses_stand : (fs : Forms) → clauses_met arity fs ≡ None → Stands symbols (conditional_term arity fs) 0
    clauses_stand (next (listed (next t (next v end))) end) e = form_stands v e
    clauses_stand (next (listed (next t (next v end))) fs) e =
        let more = first_right (met arity t) (first (met arity v) (clauses_met arity fs)) e in
        if_stands symbols basics (translated arity t) (translated arity v) (conditional_term arity fs) (form_stands t (first_left (met arity t) (first (met arity v) (clauses_met arity fs)) e))
        (form_stands v (first_left (met arity v) (clauses_met arity fs) more)) (clauses_stand fs (first_right (met arity v) (clauses_met arity fs) more))
    clauses_stand _ e = nil_stands symbols basics

    choice_stands : (fs : Forms) → choice_met arity fs ≡ None → Stands symbols (choice_term arity fs) 0
    choice_stands (next x fs) e = keyed_stands (translated arity x) fs (form_stands x (first_left (met arity x) (keyed_met arity fs) e)) (first_right (met arity x) (keyed_met arity fs) e)
    choice_stands _ e = nil_stands symbols basics

    keyed_stands : (x : Term) (fs : Forms) → Stands symbols x 0 → keyed_met arity fs ≡ None → Stands symbols (keyed_term arity x fs) 0
    keyed_stands x (next (listed (next k (next v end))) end) s e = form_stands v e
    keyed_stands x (next (listed (next k (next v end))) fs) s e =
        let more = first_right (object_met k) (first (met arity v) (keyed_met arity fs)) e in
        if_stands symbols basics (equal_term x (value k)) (translated arity v) (keyed_term arity x fs) (equal_stands symbols basics x (value k) s (value_stands symbols basics k))
        (form_stands v (first_left (met arity v) (keyed_met arity fs) more)) (keyed_stands x fs s (first_right (met arity v) (keyed_met arity fs) more))
    keyed_stands x _ s e = nil_stands symbols basics

    binding_stands : (fs : Forms) → binding_met arity fs ≡ None → Stands symbols (binding_term arity fs) 0
    binding_stands (next (listed bindings) (next body end)) e =
        substituted_stands symbols (bound arity bindings) (translated arity body) 0 (bound_stand bindings (first_left (bound_met arity bindings) (met arity body) e))
        (form_stands body (first_right (bound_met arity bindings) (met arity body) e))
    binding_stands _ e = nil_stands symbols basics

    bound_stand : (fs : Forms) → bound_met arity fs ≡ None → PairsStand symbols (bound arity fs)
    bound_stand (next (listed (next (symbol x) (next t end))) fs) e =
        (form_stands t (first_left (met arity t) (bound_met arity fs) e), bound_stand fs (first_right (met arity t) (bound_met arity fs) e))
    bound_stand _ e = tt
