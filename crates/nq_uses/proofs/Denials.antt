-- The negated instances, one after another.
use Rattle.std.proofs.Common.{◌≡◌, ◌∙◌, ◌+◌, ◌<◌, ◌≤◌, ℕ, suc, Option, Some, None, List, [], ◌∷◌, ◌++◌, length, get_or, drop, map, append-nil, append_assoc, drop-cons, add-one, refl, ap, sym, subst}
use Rattle.std.specs.Prelude.{All, IfSome}
use Rattle.std.specs.Option.{option_map}
use Rattle.std.proofs.lemmas.List.{map-append, drop_all}
use Rattle.nq_logic.specs.Terms.{Term}
use Rattle.nq_logic.specs.Words.{not_term}
use Rattle.nq_logic.specs.Histories.{History}
use Rattle.nq_bank.specs.declared.node.TermId.{TermId}
use Rattle.nq_bank.specs.Content.{Content, Grows, Stands, term_at, terms_at}
use Rattle.nq_bank.proofs.Standing.{All-push}
use Rattle.nq_history.specs.declared.hints.Instance.{Instance}
use Rattle.nq_events.specs.Events as model
use Rattle.nq_events.specs.HintRefusals.{instance_term}
use Rattle.nq_event.specs.EventsAt.{instance_at}
use Rattle.nq_event.proofs.GrownLemmas.{all_keep, map_grown, terms_stay}
use Rattle.nq_goals.specs.Hints.{denied_before, denied_instances}
use Rattle.nq_uses.specs.Found.{found_ids}

abbrev found_terms : Option Term → List Term
found_terms None = []
found_terms (Some t) = t ∷ []

found_at : (bank : Content) (found : Option TermId) → terms_at bank (found_ids found) ≡ found_terms (option_map (term_at bank) found)
found_at bank None = refl
found_at bank (Some id) = refl

found_before : (o : Option Term) (literals : List Term) → denied_before o literals ≡ found_terms (option_map not_term o) ++ literals
found_before None literals = refl
found_before (Some t) literals = refl

-- the negations behind those that stand
pub denial_step : (h : History) (start new : Content) (xs : List Instance) (i : ℕ) (x : Instance) (before now all : List Term) (found : Option TermId) → i < length xs → x ≡ get_or xs i x
    → before ++ denied_instances h (map (instance_at start) (drop i xs)) [] ≡ all
    → option_map (term_at new) found ≡ option_map not_term (instance_term h (instance_at start x)) → now ≡ before ++ terms_at new (found_ids found)
    → now ++ denied_instances h (map (instance_at start) (drop (i + 1) xs)) [] ≡ all
denial_step h start new xs i x before now all found lt is so told put =
    let rest : List Term = denied_instances h (map (instance_at start) (drop (i + 1) xs)) [] in
    let here : List Term = found_terms (option_map not_term (instance_term h (instance_at start x))) in
    let these : terms_at new (found_ids found) ≡ here = found_at new found ∙ ap found_terms told in
    let next : denied_instances h (map (instance_at start) (drop i xs)) [] ≡ here ++ rest =
    ap (λ (ys : List Instance). denied_instances h (map (instance_at start) ys) []) (drop-cons xs i x lt)
    ∙ ap (λ (y : Instance). denied_instances h (map (instance_at start) (y ∷ drop (suc i) xs)) []) (sym is)
    ∙ ap (λ (n : ℕ). denied_instances h (map (instance_at start) (x ∷ drop n xs)) []) (sym (add-one i))
    ∙ found_before (instance_term h (instance_at start x)) rest in
    ap (λ (ts : List Term). ts ++ rest) put ∙ append_assoc before (terms_at new (found_ids found)) rest ∙ ap (λ (ts : List Term). before ++ (ts ++ rest)) these
    ∙ ap (λ (ts : List Term). before ++ ts) (sym next) ∙ so

-- all of them
pub denials_all : (h : History) (start : Content) (xs : List Instance) (i : ℕ) (before all : List Term) → length xs ≤ i → before ++ denied_instances h (map (instance_at start) (drop i xs)) [] ≡ all → before ≡ all
denials_all h start xs i before all past so =
    sym (append-nil before) ∙ ap (λ (ys : List Instance). before ++ denied_instances h (map (instance_at start) ys) []) (sym (drop_all i xs past)) ∙ so

-- the lemma behind them
pub denied_last : (h : History) (instances : List model.Instance) (literals : List Term) → denied_instances h instances [] ++ literals ≡ denied_instances h instances literals
denied_last h [] literals = refl
denied_last h (i ∷ instances) literals = by_term (instance_term h i) (denied_last h instances literals)
  where
    by_term : (o : Option Term) → denied_instances h instances [] ++ literals ≡ denied_instances h instances literals
        → denied_before o (denied_instances h instances []) ++ literals ≡ denied_before o (denied_instances h instances literals)
    by_term None rest = rest
    by_term (Some t) rest = ap (λ (ts : List Term). not_term t ∷ ts) rest

-- ids that stood, and one that was found
pub found_stand : (old new : Content) (grows : Grows old new) (ids pushed : List TermId) (found : Option TermId) → All (Stands old) ids → IfSome found (Stands new) → pushed ≡ ids ++ found_ids found → All (Stands new) pushed
found_stand old new grows ids pushed None all some put = subst (All (Stands new)) (sym (put ∙ append-nil ids)) (all_keep Stands term_at terms_stay old new grows ids all)
found_stand old new grows ids pushed (Some id) all some put = subst (All (Stands new)) (sym put) (All-push (Stands new) ids id (all_keep Stands term_at terms_stay old new grows ids all) some)

pub found_terms_at : (old new : Content) (grows : Grows old new) (ids pushed : List TermId) (found : Option TermId) → All (Stands old) ids → pushed ≡ ids ++ found_ids found
    → terms_at new pushed ≡ terms_at old ids ++ terms_at new (found_ids found)
found_terms_at old new grows ids pushed found all put =
    ap (terms_at new) put ∙ map-append (term_at new) ids (found_ids found) ∙ ap (λ (ts : List Term). ts ++ terms_at new (found_ids found)) (map_grown Stands term_at terms_stay old new grows ids all)
