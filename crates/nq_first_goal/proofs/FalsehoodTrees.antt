-- The steps from a proposition over variables, over a bank.
use Rattle.std.proofs.Common.{◌≡◌, ◌∙◌, ◌≤◌, Bool, true, false, ◌&&◌, ◌||◌, None, List, [], ◌∷◌, length, map, refl, sym, ap, subst, arith}
use Rattle.std.specs.Prelude.{All, not, bytes_eq}
use Rattle.nq_logic.specs.Terms.{Name, Term, Variable, IsTerm, IsAmong, Each}
use Rattle.nq_logic.specs.Words.{not_term}
use Rattle.nq_logic.specs.Ground.{symbols_of}
use Rattle.nq_logic.specs.Names.{are_distinct, has_name}
use Rattle.nq_logic.specs.Histories.{History}
use Rattle.nq_proof.specs.Clauses.{distinct, has_term}
use Rattle.nq_proof.proofs.Tests.{distinct_in}
use Rattle.nq_bank.specs.declared.node.TermId.{TermId}
use Rattle.nq_bank.specs.Content.{Content, Grows, Stands, term_at, terms_at}
use Rattle.nq_bank.proofs.Growth.{Stands-grown, term_at-grown}
use Rattle.nq_history.specs.declared.entry.Entry.{Entry}
use Rattle.nq_history.specs.declared.hints.Hints.{Hints}
use Rattle.nq_history.specs.Events.{events_at, HistoryStands}
use Rattle.nq_history.specs.Hints.{HintsStand}
use Rattle.nq_history.proofs.HistoryLemmas.{events_at-grown}
use Rattle.nq_comment.specs.Reports.{ShownStep as ToldStep}
use Rattle.nq_events.specs.Events as model
use Rattle.nq_event.specs.EventsAt.{hints_at}
use Rattle.nq_event.proofs.GrownLemmas.{terms_stay, all_keep, map_grown}
use Rattle.nq_event.proofs.HintSumLemmas.{hints_same}
use Rattle.nq_fragments.specs.Propositions.{proposition_of, others_in}
use Rattle.nq_goals.specs.Decided.{IsVariable}
use Rattle.nq_goals.specs.Spent.{IsFalse}
use Rattle.nq_answers.specs.Shown.{shown_steps}
use Rattle.nq_kernel.specs.Over.{IsTermOf, IsVariable as IsSpelled}
use Rattle.nq_ground_goals.specs.Literals.{IsLiteral}
use Rattle.nq_quick.specs.Coverings.{AreDifferent}
use Rattle.nq_quick.proofs.CoveringLemmas.{distinct_different}
use Rattle.nq_decided.specs.FailedFalsehoods.{falsehood_steps, IsStuckName}
use Rattle.nq_decided.proofs.FailedTrees.{falsehoods_fail}
use Rattle.nq_first_goal.specs.Falsehoods.{AreNots, AreVariablesOf, FailsBy, IsLoneStuck}

-- ---- names of variables

record Named (ts : List Term) : Type 0 where
  pub names : List Name
  pub is : ts ≡ map Variable names

named : (ts : List Term) → Each IsVariable ts → Named ts
named [] each = record { names = []; is = refl }
named (t ∷ ts) each =
    let rest = named ts each.1 in
    record { names = each.0.name ∷ rest.names; is = ap (λ (u : Term). u ∷ ts) each.0.is ∙ ap (λ (us : List Term). Variable each.0.name ∷ us) rest.is }

has_same : (x : Name) (xs : List Name) → has_term (Variable x) (map Variable xs) ≡ has_name x xs
has_same x [] = refl
has_same x (y ∷ ys) = ap (λ (b : Bool). bytes_eq x y || b) (has_same x ys)

different_names : (xs : List Name) → AreDifferent (map Variable xs) → are_distinct xs ≡ true
different_names [] d = refl
different_names (x ∷ xs) d = by_value (has_name x xs) (sym (has_same x xs) ∙ d.0) (different_names xs d.1)
  where
    by_value : (b : Bool) → b ≡ false → are_distinct xs ≡ true → (not b && are_distinct xs) ≡ true
    by_value true e rest = absurd cc
    by_value false e rest = rest

some_name : (x : Name) (xs : List Name) → x ∷ xs ≡ [] → ⊥
some_name x xs e = cc

-- ---- literals alone

module _ (h : History) (hints : model.Hints) where
  not_false : (x : Name) → IsFalse h (Variable x ∷ []) → ⊥
  not_false x f = some_name x [] f.0.ground

  denied_not_false : (x : Name) → IsFalse h (not_term (Variable x) ∷ []) → ⊥
  denied_not_false x f = some_name x [] f.0.ground

  stuck_names : (xs : List Name) → Each (IsLoneStuck h hints) (map Variable xs) → Each (IsLoneStuck h hints) (map not_term (map Variable xs)) → Each (IsStuckName h hints) xs
  stuck_names [] held denied = tt
  stuck_names (x ∷ xs) held denied = ((held.0 (not_false x), denied.0 (denied_not_false x)), stuck_names xs held.1 denied.1)

  -- the steps of a proposition over variables of these names
  fails_by_names : (t : Term) (xs : List Name) (shown : List ToldStep) → IsTerm (symbols_of h) t → hints.induct ≡ None → map Variable xs ≡ distinct (others_in (proposition_of t)) → (xs ≡ [] → ⊥)
      → Each (IsLoneStuck h hints) (map Variable xs) → Each (IsLoneStuck h hints) (map not_term (map Variable xs)) → shown ≡ shown_steps (falsehood_steps (map Variable xs) (proposition_of t)) → FailsBy h hints t shown
  fails_by_names t [] shown ot free are some held denied is = absurd (some refl)
  fails_by_names t (x ∷ xs) shown ot free are some held denied is =
      let us = others_in (proposition_of t) in
      let apart : are_distinct (x ∷ xs) ≡ true = different_names (x ∷ xs) (subst AreDifferent (sym are) (distinct_different us)) in
      let within : (u : Term) → IsAmong u us → IsAmong u (map Variable (x ∷ xs)) = λ u m. subst (IsAmong u) (sym are) (distinct_in u us m) in
      λ there. record {
        steps = falsehood_steps (map Variable (x ∷ xs)) (proposition_of t);
        tree = falsehoods_fail h hints t x xs ot free apart within (stuck_names (x ∷ xs) held denied) (λ none. there (is ∙ ap shown_steps none));
        shown_is = is;
      }

none_named : (bank : Content) (ids : List TermId) (xs : List Name) → terms_at bank ids ≡ map Variable xs → 1 ≤ length ids → xs ≡ [] → ⊥
none_named bank [] xs is some none = absurd (omega (arith, some))
none_named bank (t ∷ ids) xs is some none = let both : term_at bank t ∷ terms_at bank ids ≡ [] = is ∙ ap (map Variable) none in absurd cc

-- what is shown of a lemma over a bank
pub fails_over : (h : History) (hints : model.Hints) (bank : Content) (t : TermId) (variables nots : List TermId) (shown : List ToldStep) → IsTerm (symbols_of h) (term_at bank t) → hints.induct ≡ None
    → AreVariablesOf bank t variables → AreNots bank (terms_at bank variables) nots → Each (IsLoneStuck h hints) (terms_at bank variables) → Each (IsLoneStuck h hints) (terms_at bank nots)
    → shown ≡ shown_steps (falsehood_steps (terms_at bank variables) (proposition_of (term_at bank t))) → FailsBy h hints (term_at bank t) shown
fails_over h hints bank t variables nots shown ot free are denials held denied is =
    let names = named (terms_at bank variables) are.variables in
    let xs = names.names in
    fails_by_names h hints (term_at bank t) xs shown ot free (sym names.is ∙ are.are) (none_named bank variables xs names.is are.some) (subst (Each (IsLoneStuck h hints)) names.is held)
    (subst (Each (IsLoneStuck h hints)) (denials.are ∙ ap (map not_term) names.is) denied) (is ∙ ap (λ (ts : List Term). shown_steps (falsehood_steps ts (proposition_of (term_at bank t)))) names.is)

-- ---- over a bank that grew

module _ (old new : Content) (grows : Grows old new) (history : List Entry) (hints : Hints) (stands : HistoryStands old history) (hold : HintsStand old hints) where
  pub literal_kept : (t : TermId) → IsLiteral old history t → IsLiteral new history t
  literal_kept t l = record {
    stands = Stands-grown old new t grows l.stands;
    over =
        subst (λ (u : Term). IsTermOf IsSpelled (symbols_of (events_at new history)) u) (sym (term_at-grown old new t grows l.stands))
        (subst (λ (k : History). IsTermOf IsSpelled (symbols_of k) (term_at old t)) (sym (events_at-grown old new grows history stands.entries)) l.over);
  }

  pub terms_same : (ids : List TermId) → All (Stands old) ids → terms_at new ids ≡ terms_at old ids
  terms_same ids all = map_grown Stands term_at terms_stay old new grows ids all

  pub variables_kept : (t : TermId) (ids : List TermId) → Stands old t → AreVariablesOf old t ids → AreVariablesOf new t ids
  variables_kept t ids there are = record {
    stand = all_keep Stands term_at terms_stay old new grows ids are.stand;
    are = terms_same ids are.stand ∙ (are.are ∙ ap (λ (u : Term). distinct (others_in (proposition_of u))) (sym (term_at-grown old new t grows there)));
    variables = subst (Each IsVariable) (sym (terms_same ids are.stand)) are.variables;
    some = are.some;
  }

  pub free_kept : (hints_at old hints).induct ≡ None → (hints_at new hints).induct ≡ None
  free_kept free = ap (λ (k : model.Hints). k.induct) (hints_same old new grows hints hold) ∙ free

  pub fails_before : (t : TermId) (shown : List ToldStep) → Stands old t → FailsBy (events_at new history) (hints_at new hints) (term_at new t) shown → FailsBy (events_at old history) (hints_at old hints) (term_at old t) shown
  fails_before t shown there fails =
      let here = subst (λ (k : History). FailsBy k (hints_at new hints) (term_at new t) shown) (events_at-grown old new grows history stands.entries) fails in
      let also = subst (λ (k : model.Hints). FailsBy (events_at old history) k (term_at new t) shown) (hints_same old new grows hints hold) here in
      subst (λ (u : Term). FailsBy (events_at old history) (hints_at old hints) u shown) (term_at-grown old new t grows there) also
