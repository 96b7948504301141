-- The hints of a lemma, read one by one.
use Rattle.std.proofs.Common.{◌≡◌, ℕ, suc, ◌+◌, ◌<◌, ◌≤◌, Bool, ◌&&◌, not, List, ◌∷◌, length, get_or, drop, refl, sym, ap, ◌∙◌, subst, drop-cons, add-one, Bor}
use Rattle.std.specs.Prelude.{Option, None, Some, if◌then◌else◌}
use Rattle.std.proofs.lemmas.List.{drop_all}
use Rattle.nq_logic.specs.Histories.{History}
use Rattle.nq_bank.specs.Content.{Content, Grows}
use Rattle.nq_bank.proofs.Growth.{Grows-refl, Grows-trans}
use Rattle.nq_sexp.specs.declared.Sexp.{Sexp}
use Rattle.nq_sexp.specs.Tree.{tree}
use Rattle.nq_events.specs.Refusals.{BadHint}
use Rattle.nq_events.specs.WrittenHints.{WrittenHint, hint_in}
use Rattle.nq_events.specs.TermRefusals.{arity_of, first, hint_forms, hints_forms, terms_refusal}
use Rattle.nq_events.specs.HintTerms.{hints_given}
use Rattle.nq_events.specs.HintRefusals.{first_bad, hints_refusal, is_good_hint, stands_twice}
use Rattle.nq_history.specs.declared.hints.Hints.{Hints as KeptHints}
use Rattle.nq_event.specs.declared.fault.EventFault.{EventFault}
use Rattle.nq_history.specs.Hints.{HintsStand}
use Rattle.nq_event.specs.EventsAt.{hints_at as hints_of}
use Rattle.nq_event.specs.Hints.{hints_at, no_hint, words_at}
use Rattle.nq_event.specs.HintSums.{bad_hint, hint_given, joined, no_hints, IsAdded, AreHintsRead}
use Rattle.nq_event.specs.Reads.{value_or}
use Rattle.nq_event.specs.Readings.{IsToldOf}
use Rattle.nq_event.proofs.HintSumLemmas.{bad_more, given_more, joined_assoc, joined_none}
use Rattle.nq_event.proofs.ToldLemmas.{first_assoc, first_none, terms_append, told_first}

-- the first hints are read, with the first bad one among them
pub record HintsSoFar (h : History) (start now : Content) (forms : List Sexp) (i : ℕ) (hints : KeptHints) (bad : Option (Bor (List ℕ))) : Type 0 where
  pub grows : Grows start now
  pub stand : HintsStand now hints
  pub are : hints_given h (hints_at forms) ≡ joined (hints_of now hints) (hints_given h (hints_at (drop i forms)))
  pub refused : terms_refusal (arity_of h) (hints_forms (hints_at forms)) ≡ terms_refusal (arity_of h) (hints_forms (hints_at (drop i forms)))
  pub bad_is : hints_refusal h (hints_at forms) ≡ first (bad_hint bad) (first_bad h (words_at forms) (hints_at (drop i forms)))

module _ (h : History) (start : Content) (forms : List Sexp) where
  abbrev all : List WrittenHint
  all = hints_at forms

  pub no_hint_so_far : (hints : KeptHints) (bad : Option (Bor (List ℕ))) → HintsStand start hints → hints_of start hints ≡ no_hints → bad ≡ None → HintsSoFar h start start forms 0 hints bad
  no_hint_so_far hints bad stand are none = record {
    grows = Grows-refl start;
    stand = stand;
    are = ap (λ z. joined z (hints_given h all)) (sym are);
    refused = refl;
    bad_is = ap (λ z. first (bad_hint z) (first_bad h (words_at forms) all)) (sym none);
  }

  module _ (now new : Content) (i : ℕ) (f : Sexp) (hints after : KeptHints) (bad : Option (Bor (List ℕ))) (lt : i < length forms) (is : f ≡ get_or forms i f) (so_far : HintsSoFar h start now forms i hints bad) where
    abbrev hint : WrittenHint
    hint = value_or no_hint (hint_in (tree f))

    abbrev rest : List WrittenHint
    rest = hints_at (drop (i + 1) forms)

    here : hints_at (drop i forms) ≡ hint ∷ rest
    here =
        ap hints_at (drop-cons forms i f lt) ∙ ap (λ (z : Sexp). value_or no_hint (hint_in (tree z)) ∷ hints_at (drop (suc i) forms)) (sym is) ∙
        ap (λ n. hint ∷ hints_at (drop n forms)) (sym (add-one i))

    refusal_here : terms_refusal (arity_of h) (hints_forms all) ≡ first (terms_refusal (arity_of h) (hint_forms hint.kind)) (terms_refusal (arity_of h) (hints_forms rest))
    refusal_here = so_far.refused ∙ ap (λ z. terms_refusal (arity_of h) (hints_forms z)) here ∙ terms_append (arity_of h) (hint_forms hint.kind) (hints_forms rest)

    pub one_hint : (after_bad : Option (Bor (List ℕ))) (good twice : Bool) → Grows now new → IsAdded h now new hint.kind hints after good → twice ≡ stands_twice hint.word (words_at forms)
        → bad_hint after_bad ≡ first (bad_hint bad) (if good && not twice then None else Some (BadHint hint.word)) → HintsSoFar h start new forms (i + 1) after after_bad
    one_hint after_bad good twice grows added words bads = record {
      grows = Grows-trans start now new so_far.grows grows;
      stand = added.stand;
      are =
          so_far.are ∙ ap (λ z. joined (hints_of now hints) (hints_given h z)) here ∙ ap (joined (hints_of now hints)) (given_more h hint rest) ∙
          sym (joined_assoc (hints_of now hints) (hint_given h hint.kind) (hints_given h rest)) ∙ ap (λ z. joined z (hints_given h rest)) (sym added.are);
      refused = refusal_here ∙ ap (λ z. first z (terms_refusal (arity_of h) (hints_forms rest))) added.unrefused;
      bad_is =
          so_far.bad_is ∙ ap (λ z. first (bad_hint bad) (first_bad h (words_at forms) z)) here ∙
          ap (first (bad_hint bad)) (bad_more h (words_at forms) hint rest (good && not twice) (ap (λ z. z && not twice) added.good_is ∙ ap (λ z. is_good_hint h hint.kind && not z) words)) ∙
          sym (first_assoc (bad_hint bad) (if good && not twice then None else Some (BadHint hint.word)) (first_bad h (words_at forms) rest)) ∙
          ap (λ z. first z (first_bad h (words_at forms) rest)) (sym bads);
    }

    pub one_hint_told : (fault : EventFault) → IsToldOf (terms_refusal (arity_of h) (hint_forms hint.kind)) fault → IsToldOf (terms_refusal (arity_of h) (hints_forms all)) fault
    one_hint_told fault told = subst (λ r. IsToldOf r fault) (sym refusal_here) (told_first (terms_refusal (arity_of h) (hint_forms hint.kind)) (terms_refusal (arity_of h) (hints_forms rest)) fault told)

  pub all_hints : (now : Content) (i : ℕ) (hints : KeptHints) (bad : Option (Bor (List ℕ))) → length forms ≤ i → HintsSoFar h start now forms i hints bad → AreHintsRead h now all hints bad
  all_hints now i hints bad past so_far =
      let none = drop_all i forms past in
      record {
        stand = so_far.stand;
        unrefused = so_far.refused ∙ ap (λ z. terms_refusal (arity_of h) (hints_forms (hints_at z))) none;
        are = sym (so_far.are ∙ ap (λ z. joined (hints_of now hints) (hints_given h (hints_at z))) none ∙ joined_none (hints_of now hints));
        bad_is = sym (so_far.bad_is ∙ ap (λ z. first (bad_hint bad) (first_bad h (words_at forms) (hints_at z))) none ∙ first_none (bad_hint bad));
      }
