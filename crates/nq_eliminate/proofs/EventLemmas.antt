-- The term of an axiom or a lemma of a ready history is found by its name.
use Rattle.std.proofs.Common.{◌≡◌, Bool, true, false, ◌||◌, Some, None, List, [], ◌∷◌, ◌++◌, refl, sym, ap, ◌∙◌, subst, inl, inr, append_assoc}
use Rattle.std.specs.Prelude.{bytes_eq, ◌⊎◌}
use Rattle.std.proofs.lemmas.List.{append-nil}
use Rattle.nq_logic.specs.Terms.{Name, Term, IsAmong}
use Rattle.nq_logic.specs.Histories.{History, RuleClass, Event, AddShell, Declaration, Defines, Axiom, Lemma, Toggle}
use Rattle.nq_logic.specs.Names.{event_name, event_names, events_names, has_name, is_in_use, is_reserved}
use Rattle.nq_logic.specs.Ground.{all_events, ground_history}
use Rattle.nq_bank.proofs.Texts.{eq-bytes_eq}
use Rattle.nq_proof.specs.Rules.{event_term, term_if}
use Rattle.nq_kernel.specs.Ready.{IsReady, ReadyFrom}
use Rattle.nq_eliminate.proofs.Names.{among_either}

-- an axiom or a lemma among events
abbrev pub IsStated : Name → List RuleClass → Term → List Event → Type 0
IsStated n classes t es = IsAmong (Axiom n classes t) es ⊎ IsAmong (Lemma n classes t) es

abbrev AllFound : List Event → Type 0
AllFound es = (n : Name) (classes : List RuleClass) (t : Term) → IsStated n classes t es → event_term n es ≡ Some t

found_more : (n : Name) (es more : List Event) (t : Term) → event_term n es ≡ Some t → event_term n (es ++ more) ≡ Some t
found_more n [] more t e = absurd (cc)
found_more n (AddShell s ∷ es) more t e = found_more n es more t e
found_more n (Declaration f a ∷ es) more t e = found_more n es more t e
found_more n (Defines d ∷ es) more t e = found_more n es more t e
found_more n (Axiom x classes u ∷ es) more t e = by_test (bytes_eq n x) (λ k. found_more n es more t k) e
  where
    by_test : (b : Bool) → (event_term n es ≡ Some t → event_term n (es ++ more) ≡ Some t) → term_if b u (event_term n es) ≡ Some t → term_if b u (event_term n (es ++ more)) ≡ Some t
    by_test true later k = k
    by_test false later k = later k
found_more n (Lemma x classes u ∷ es) more t e = by_test (bytes_eq n x) (λ k. found_more n es more t k) e
  where
    by_test : (b : Bool) → (event_term n es ≡ Some t → event_term n (es ++ more) ≡ Some t) → term_if b u (event_term n es) ≡ Some t → term_if b u (event_term n (es ++ more)) ≡ Some t
    by_test true later k = k
    by_test false later k = later k
found_more n (Toggle x old disabled ∷ es) more t e = found_more n es more t e

or_neither : (a b : Bool) → (a || b) ≡ false → (a ≡ false) × (b ≡ false)
or_neither true b e = absurd (cc)
or_neither false b e = (refl, e)

none_right : (n : Name) (xs ys : List Name) → has_name n (xs ++ ys) ≡ false → has_name n ys ≡ false
none_right n [] ys e = e
none_right n (x ∷ xs) ys e = none_right n xs ys (or_neither (bytes_eq n x) (has_name n (xs ++ ys)) e).1

-- what has another name goes before the last
found_last : (n : Name) (es : List Event) (e : Event) → has_name n (events_names es) ≡ false → event_term n (es ++ e ∷ []) ≡ event_term n (e ∷ [])
found_last n [] e none = refl
found_last n (AddShell s ∷ es) e none = found_last n es e (none_right n (event_names (AddShell s)) (events_names es) none)
found_last n (Declaration f a ∷ es) e none = found_last n es e (none_right n (event_names (Declaration f a)) (events_names es) none)
found_last n (Defines d ∷ es) e none = found_last n es e (none_right n (event_names (Defines d)) (events_names es) none)
found_last n (Axiom x classes u ∷ es) e none =
    let first = (or_neither (bytes_eq n x) (has_name n (events_names es)) none) in
    ap (λ b. term_if b u (event_term n (es ++ e ∷ []))) first.0 ∙ found_last n es e first.1
found_last n (Lemma x classes u ∷ es) e none =
    let first = (or_neither (bytes_eq n x) (has_name n (events_names es)) none) in
    ap (λ b. term_if b u (event_term n (es ++ e ∷ []))) first.0 ∙ found_last n es e first.1
found_last n (Toggle x old disabled ∷ es) e none = found_last n es e (none_right n (event_names (Toggle x old disabled)) (events_names es) none)

names_join : (g h : List Event) → events_names (g ++ h) ≡ events_names g ++ events_names h
names_join [] h = refl
names_join (e ∷ g) h = ap (λ names. event_names e ++ names) (names_join g h) ∙ sym (append_assoc (event_names e) (events_names g) (events_names h))

new_name : (b : History) (n : Name) → is_in_use n b ≡ false → has_name n (events_names b) ≡ false
new_name b n unused = none_right n (events_names ground_history) (events_names b) (ap (has_name n) (sym (names_join ground_history b)) ∙ (or_neither (is_reserved n) (has_name n (events_names (all_events b))) unused).1)

found_axiom : (b : History) (n : Name) (classes : List RuleClass) (t : Term) → is_in_use n b ≡ false → event_term n (b ++ Axiom n classes t ∷ []) ≡ Some t
found_axiom b n classes t unused = found_last n b (Axiom n classes t) (new_name b n unused) ∙ ap (λ c. term_if c t None) (eq-bytes_eq n n refl)

found_lemma : (b : History) (n : Name) (classes : List RuleClass) (t : Term) → is_in_use n b ≡ false → event_term n (b ++ Lemma n classes t ∷ []) ≡ Some t
found_lemma b n classes t unused = found_last n b (Lemma n classes t) (new_name b n unused) ∙ ap (λ c. term_if c t None) (eq-bytes_eq n n refl)

found_from : (b h : History) → ReadyFrom b h → AllFound b → AllFound (b ++ h)
found_from b [] ready found = subst AllFound (sym (append-nil b)) found
found_from b (e ∷ h) ready found = subst AllFound (append_assoc b (e ∷ []) h) (found_from (b ++ e ∷ []) h ready.1 next)
  where
    named : (f : Event) → f ≡ e → is_in_use (event_name f) b ≡ false
    named f same = ap (λ (g : Event). is_in_use (event_name g) b) same ∙ ready.0.unused

    next : AllFound (b ++ e ∷ [])
    next n classes t (inl axiom_one) =
        elim (among_either (Axiom n classes t) b (e ∷ []) axiom_one) [
          | inl here ↦ found_more n b (e ∷ []) t (found n classes t (inl here))
          | inr there ↦ elim there [ inl same ↦ subst (λ f. event_term n (b ++ f ∷ []) ≡ Some t) same (found_axiom b n classes t (named (Axiom n classes t) same)) | inr none ↦ absurd none ]
        ]
    next n classes t (inr lemma_one) =
        elim (among_either (Lemma n classes t) b (e ∷ []) lemma_one) [
          | inl here ↦ found_more n b (e ∷ []) t (found n classes t (inr here))
          | inr there ↦ elim there [ inl same ↦ subst (λ f. event_term n (b ++ f ∷ []) ≡ Some t) same (found_lemma b n classes t (named (Lemma n classes t) same)) | inr none ↦ absurd none ]
        ]

none_found : AllFound []
none_found n classes t (inl m) = absurd m
none_found n classes t (inr m) = absurd m

pub term_found : (h : History) (n : Name) (classes : List RuleClass) (t : Term) → IsReady h → IsStated n classes t h → event_term n h ≡ Some t
term_found h n classes t ready stated = found_from [] h ready none_found n classes t stated
