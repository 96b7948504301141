use Rattle.std.proofs.Common.{◌≡◌, ℕ, ◌+◌, ◌-◌, ◌<◌, List, [], ◌∷◌, ◌++◌, length, refl, sym, ap, ◌∙◌, subst, drop, arith, append-nil}
use Rattle.std.proofs.lemmas.List.{drop_all}
use Rattle.std.specs.Prelude.{Option, None, Some, All}
use Rattle.nq_logic.specs.Terms.{Term, Substitution}
use Rattle.nq_logic.specs.Words.{if_term}
use Rattle.nq_logic.specs.Sizes.{depth_of, depth_limit}
use Rattle.nq_form.specs.Form.{listed, end}
use Rattle.nq_language.specs.Abbreviations.{Word, Listing, Nesting, Path, Plain, word_of, word_by}
use Rattle.nq_language.specs.Refusals.{met, own_met, all_met, is_pair}
use Rattle.nq_language.specs.Scopes.{translated_in, all_translated_in, conditional_term_in, keyed_term_in, bound_in}
use Rattle.nq_bank.specs.declared.node.TermId.{TermId}
use Rattle.nq_bank.specs.Content.{Stands, IsIdOf, term_at, terms_at}
use Rattle.nq_bank.proofs.Growth.{Grows-refl, Grows-trans, term_at-grown, terms_at-grown}
use Rattle.nq_bank.proofs.Standing.{All-push, stand_grown}
use Rattle.nq_sexp.specs.declared.Sexp.{Sexp}
use Rattle.nq_sexp.specs.Tree.{tree, trees}
use Rattle.nq_abbrev.specs.declared.scope.Binding.{Binding}
use Rattle.nq_abbrev.specs.Nests.{applied_term}
use Rattle.nq_abbrev.specs.Pairs.{name_at}
use Rattle.nq_abbrev.specs.Words.{word_at}
use Rattle.nq_abbrev.specs.Scope.{scope_at, bound_term, BindingStands}
use Rattle.nq_abbrev.specs.Parts.{key_met, test_met, value_met}
use Rattle.nq_abbrev.specs.InScope.{test_term_in, value_term_in, key_term, parts_refused, called_term_in, IsLike}
use Rattle.nq_abbrev.proofs.PairLemmas.{list_is, first_of_two, second_of_two, no_pair_few, no_pair_many, no_pair_dotted}
use Rattle.nq_sexp.proofs.Trees.{tree-Symbol, tree-Numeral, tree-Str, tree-Quote, tree-List}
use Rattle.nq_abbrev.proofs.BindingLemmas.{two_refused, many_refused, unlisted_refused, let_unmet, bound_unmet, bound_more, no_bindings}
use Rattle.nq_abbrev.proofs.RefusalLemmas.{met_dotted, met_called}
use Rattle.nq_abbrev.proofs.CallLemmas.{parts_listing, parts_nesting, parts_path, parts_plain, arguments_met, applied_by, conditional_unmet, choice_unmet, binding_unmet, term_called}
use Rattle.nq_abbrev.proofs.TermLemmas.{refused, makes_same, makes_nil, makes_err, call_makes, kept_like, three_are, test_nil, value_nil}
use Rattle.nq_abbrev.proofs.ClauseLemmas.{first_unmet, pair_at, value_unmet_at, test_unmet_before, branches, branches_last, branches_at, whole_last, whole_nest, whole_value, whole_test, conditional_pairs, conditional_unmet_in, conditional_branches, keyed_pairs, keyed_unmet_in, keyed_branches}
use Rattle.nq_abbrev.proofs.ArgumentLemmas.{argument_unmet, deep_at, terms_more, one_made, all_made}
use Rattle.nq_abbrev.proofs.LikeLemmas.{translated_like, makes_like, like_refl, like_append, scope_append, scope_grown, bound_grown, bindings_grown, stand_more, all_append}
use Rattle.nq_abbrev.proofs.ChoiceLemmas.{case_unmet, keyed_like}
use Rattle.nq_abbrev.proofs.terms.+terms.Goals as goal

pub arguments_in-returns-in_err-term-clause-right : goal.arguments_in-returns-in_err-term-clause-right
arguments_in-returns-in_err-term-clause-right t c =
    λ arity agrees h.
    let items = c.args.items.now in
    let f = c.args.f.now in
    let w = word_at c.args.word in
    let s = scope_at c.args.bank.now c.args.scope.now in
    let x = c.index-items-place.result in
    let parts = first_unmet (own_met w (arity f) f (trees (drop 1 items) end)) (all_met arity (trees (drop 1 items) end)) h in
    let same = scope_grown c.args.bank.now c.loop-place.bank c.args.scope.now c.loop-place.invariant.grows c.requires.scope in
    let unmet = argument_unmet arity 1 items c.loop-place.place x (omega arith) c.loop-place-test.true c.index-items-place.is parts.1 in
    let made = makes_same _ _ _ _ (ap (λ (z : Substitution). translated_in arity z (tree x)) same) (c.term_in.ensures.right arity agrees unmet) in
    makes_err _ _ c.term_in.result c.from_residual.result c.in_err-term.field-0.0 _ _ c.in_err-term.was c.from_residual.ensures.1 made
    (deep_at arity s w f items c.loop-place.place x (terms_at c.loop-place.bank c.loop-place.terms.items) c.requires.word parts.0 c.loop-place-test.true c.index-items-place.is (c.loop-place.invariant.right arity agrees h))

pub arguments_in-loop-place-preserved : goal.arguments_in-loop-place-preserved
arguments_in-loop-place-preserved t c =
    let items = c.args.items.now in
    let f = c.args.f.now in
    let w = word_at c.args.word in
    let s = scope_at c.args.bank.now c.args.scope.now in
    let x = c.index-items-place.result in
    let old = c.loop-place.bank in
    let new = c.term_in.new.bank in
    let ids = c.loop-place.terms.items in
    let id = c.in_ok-term.term in
    let grown = c.in_ok-term.ensures.grows in
    record {
      stand = subst (λ (z : List TermId). All (Stands new) z) (sym c.in_ok-add_term.ensures.ok) (All-push (Stands new) ids id (stand_grown old new ids grown c.loop-place.invariant.stand) c.in_ok-term.ensures.stands);
      grows = Grows-trans c.args.bank.now old new c.loop-place.invariant.grows grown;
      right = λ arity agrees h.
          let parts = first_unmet (own_met w (arity f) f (trees (drop 1 items) end)) (all_met arity (trees (drop 1 items) end)) h in
          let same = scope_grown c.args.bank.now old c.args.scope.now c.loop-place.invariant.grows c.requires.scope in
          let unmet = argument_unmet arity 1 items c.loop-place.place x (omega arith) c.loop-place-test.true c.index-items-place.is parts.1 in
          let term = (c.in_ok-term.ensures.right arity agrees unmet).ok.denotes ∙ ap (λ (z : Substitution). translated_in arity z (tree x)) same in
          let made = ap (λ (z : List Term). z ++ term_at new id ∷ []) (terms_at-grown old new ids grown c.loop-place.invariant.stand) in
          ap (λ (z : List TermId). terms_at new z ++ all_translated_in arity s (trees (drop (c.loop-place.place + 1) items) end)) c.in_ok-add_term.ensures.ok
          ∙ ap (λ (z : List Term). z ++ all_translated_in arity s (trees (drop (c.loop-place.place + 1) items) end)) (terms_more new ids id ∙ made)
          ∙ one_made arity s items c.loop-place.place x (terms_at old ids) (all_translated_in arity s (trees (drop 1 items) end)) (term_at new id) c.loop-place-test.true c.index-items-place.is term (c.loop-place.invariant.right arity agrees h);
    }

pub arguments_in-returns-clause-right : goal.arguments_in-returns-clause-right
arguments_in-returns-clause-right t c =
    λ arity agrees h.
    let items = c.args.items.now in
    let s = scope_at c.args.bank.now c.args.scope.now in
    let bank = c.loop-place.bank in
    let ids = c.as_slice.result.now in
    let all = all_translated_in arity s (trees (drop 1 items) end) in
    let made = all_made arity s items c.loop-place.place (terms_at bank c.loop-place.terms.items) all (omega arith) (c.loop-place.invariant.right arity agrees h) in
    let same = ap (terms_at bank) c.as_slice.ensures.value ∙ made in
    makes_same c.applied_of.new.bank c.applied_of.result (applied_term (word_at c.args.word) c.args.f.now (terms_at bank ids)) (applied_term (word_at c.args.word) c.args.f.now all) (ap (λ (z : List Term). applied_term (word_at c.args.word) c.args.f.now z) same)
    (call_makes c.applied_of.new.bank c.applied_of.result (applied_term (word_at c.args.word) c.args.f.now (terms_at bank ids)) c.applied_of.ensures.ok c.applied_of.ensures.deep)

pub binding_in-returns-in-len2-clause-right : goal.binding_in-returns-in-len2-clause-right
binding_in-returns-in-len2-clause-right t c = λ arity agrees h. absurd (two_refused arity c.args.items.now c.in-len2.len_below h)

pub binding_in-returns-in_ok-inner-in-List-clause-right : goal.binding_in-returns-in_ok-inner-in-List-clause-right
binding_in-returns-in_ok-inner-in-List-clause-right t c =
    λ arity agrees h.
    let s = scope_at c.args.bank.now c.args.scope.now in
    let bindings = c.in-List.bindings.now in
    let whole = let_unmet arity c.args.items.now bindings c.in-List.field-1 c.bindings-item.result c.body-item.result c.in-len3.len_at_least c.in-len3.len_below c.bindings-item.is c.body-item.is (ap tree c.in-List.is ∙ tree-List c.in-List.bindings c.in-List.field-1) h in
    let like = c.in_ok-inner-in-List.ensures.right arity agrees whole.shape whole.bound in
    let body = tree c.body-item.result in
    let inner = scope_at c.bound_in.new.bank c.as_slice.result.now in
    let outer = bound_in arity s (trees bindings end) ++ s in
    let same = subst (λ (z : List Binding). IsLike (scope_at c.bound_in.new.bank z) outer) (sym c.as_slice.ensures.value) like in
    makes_same _ _ _ _ (whole.term s)
    (makes_like c.term_in-term.new.bank c.term_in-term.result (translated_in arity inner body) (translated_in arity outer body) c.is_sound.ensures (translated_like arity inner outer body same) (c.term_in-term.ensures.right arity agrees whole.body_met))

pub binding_in-returns-in-Symbol-clause-right : goal.binding_in-returns-in-Symbol-clause-right
binding_in-returns-in-Symbol-clause-right t c =
    λ arity agrees h. absurd (unlisted_refused arity c.args.items.now c.bindings-item.result _ c.in-len3.len_at_least c.in-len3.len_below c.bindings-item.is (ap tree c.in-Symbol.is ∙ tree-Symbol c.in-Symbol.field-0) refl h)

pub binding_in-returns-in-Numeral-clause-right : goal.binding_in-returns-in-Numeral-clause-right
binding_in-returns-in-Numeral-clause-right t c =
    λ arity agrees h. absurd (unlisted_refused arity c.args.items.now c.bindings-item.result _ c.in-len3.len_at_least c.in-len3.len_below c.bindings-item.is (ap tree c.in-Numeral.is ∙ tree-Numeral c.in-Numeral.field-0 c.in-Numeral.field-1) refl h)

pub binding_in-returns-in-Str-clause-right : goal.binding_in-returns-in-Str-clause-right
binding_in-returns-in-Str-clause-right t c =
    λ arity agrees h. absurd (unlisted_refused arity c.args.items.now c.bindings-item.result _ c.in-len3.len_at_least c.in-len3.len_below c.bindings-item.is (ap tree c.in-Str.is ∙ tree-Str c.in-Str.field-0) refl h)

pub binding_in-returns-in-Quote-clause-right : goal.binding_in-returns-in-Quote-clause-right
binding_in-returns-in-Quote-clause-right t c =
    λ arity agrees h. absurd (unlisted_refused arity c.args.items.now c.bindings-item.result _ c.in-len3.len_at_least c.in-len3.len_below c.bindings-item.is (ap tree c.in-Quote.is ∙ tree-Quote c.in-Quote.field-0) refl h)

pub binding_in-returns-in-len4-up-clause-right : goal.binding_in-returns-in-len4-up-clause-right
binding_in-returns-in-len4-up-clause-right t c = λ arity agrees h. absurd (many_refused arity c.args.items.now c.in-len4-up.len_at_least h)

pub bound_in-loop-binding-init : goal.bound_in-loop-binding-init
bound_in-loop-binding-init t c =
    let nothing = c.new-inner.ensures.items in
    record {
      stand = subst (λ (z : List Binding). All (BindingStands c.args.bank.now) z) (sym nothing) (λ k d below. absurd (omega arith));
      grows = Grows-refl c.args.bank.now;
      right = λ arity agrees shape h.
          let bound = bound_in arity (scope_at c.args.bank.now c.args.scope.now) (trees c.args.bindings.now end) in
          subst (λ (z : List Binding). IsLike (scope_at c.args.bank.now z ++ bound) bound) (sym nothing) (like_refl bound);
    }

pub bound_in-loop-binding-preserved : goal.bound_in-loop-binding-preserved
bound_in-loop-binding-preserved t c =
    let items = c.args.bindings.now in
    let s = scope_at c.args.bank.now c.args.scope.now in
    let b = c.binding-item.result in
    let old = c.loop-binding.bank in
    let new = c.value_in-made.new.bank in
    let xs = c.loop-binding.inner.items in
    let o = c.in_ok-term.term in
    let name = c.bound_name.result in
    let grown = c.value_in-made.ensures.grows in
    let keeps = sym c.kept.ensures.is ∙ c.in_ok-term.was in
    record {
      stand = subst (λ (z : List Binding). All (BindingStands new) z) (sym c.in_ok-add_binding.ensures.ok) (stand_more new xs name o (bindings_grown old new xs grown c.loop-binding.invariant.stand) c.in_ok-term.ensures.stands);
      grows = Grows-trans c.args.bank.now old new c.loop-binding.invariant.grows grown;
      right = λ arity agrees shape h.
          let bound = bound_in arity s (trees items end) in
          let rest = bound_in arity s (trees (drop (c.loop-binding.binding-index + 1) items) end) in
          let same = scope_grown c.args.bank.now old c.args.scope.now c.loop-binding.invariant.grows c.requires in
          let unmet = bound_unmet arity items c.loop-binding.binding-index b c.loop-binding-test.true c.binding-item.is shape h in
          let made = makes_same _ _ _ _ (ap (λ (z : Substitution). value_term_in arity z (tree b)) same) (c.value_in-made.ensures.right arity agrees unmet) in
          let before = subst (λ (z : Substitution). IsLike (z ++ bound_in arity s (trees (drop c.loop-binding.binding-index items) end)) bound) (sym (scope_grown old new xs grown c.loop-binding.invariant.stand)) (c.loop-binding.invariant.right arity agrees shape h) in
          subst (λ (z : List Binding). IsLike (scope_at new z ++ rest) bound) (sym c.in_ok-add_binding.ensures.ok)
          (bound_more arity s new items c.loop-binding.binding-index b xs name o bound c.loop-binding-test.true c.binding-item.is shape c.bound_name.ensures (kept_like new c.value_in-made.result o (value_term_in arity s (tree b)) keeps made) before);
    }

pub bound_in-returns-clause-right : goal.bound_in-returns-clause-right
bound_in-returns-clause-right t c =
    λ arity agrees shape h.
    let items = c.args.bindings.now in
    let bank = c.loop-binding.bank in
    let s = scope_at c.args.bank.now c.args.scope.now in
    let xs = c.loop-binding.inner.items in
    let bound = bound_in arity s (trees items end) in
    let last : drop c.loop-binding.binding-index items ≡ [] = drop_all c.loop-binding.binding-index items (omega arith) in
    let ends = ap (λ (z : List Sexp). bound_in arity s (trees z end)) last ∙ no_bindings arity s in
    let whole = ap (λ (z : Substitution). scope_at bank xs ++ z) ends ∙ append-nil (scope_at bank xs) in
    let made = subst (λ (z : Substitution). IsLike z bound) whole (c.loop-binding.invariant.right arity agrees shape h) in
    let same = scope_grown c.args.bank.now bank c.args.scope.now c.loop-binding.invariant.grows c.requires in
    let all = ap (scope_at bank) c.in_ok-add_outer.ensures.ok ∙ scope_append bank xs c.args.scope.now ∙ ap (λ (z : Substitution). scope_at bank xs ++ z) same in
    subst (λ (z : Substitution). IsLike z (bound ++ s)) (sym all) (like_append (scope_at bank xs) bound s made)

pub bound_in-returns-clause-stands : goal.bound_in-returns-clause-stands
bound_in-returns-clause-stands t c =
    let bank = c.loop-binding.bank in
    subst (λ (z : List Binding). All (BindingStands bank) z) (sym c.in_ok-add_outer.ensures.ok)
    (all_append bank c.loop-binding.inner.items c.args.scope.now c.loop-binding.invariant.stand (bindings_grown c.args.bank.now bank c.args.scope.now c.loop-binding.invariant.grows c.requires))

pub call_in-returns-in-Conditional-clause-right : goal.call_in-returns-in-Conditional-clause-right
call_in-returns-in-Conditional-clause-right t c =
    λ arity agrees h.
    let is = ap word_at c.in-Conditional.is in
    makes_same _ _ _ _ (sym (ap (λ (w : Word). called_term_in arity (scope_at c.args.bank.now c.args.scope.now) w c.args.f.now (trees (drop 1 c.args.items.now) end)) is)) (c.conditional_in.ensures.right arity agrees (conditional_unmet arity (scope_at c.args.bank.now c.args.scope.now) c.args.f.now (trees (drop 1 c.args.items.now) end) (word_at c.args.word) is h))

pub call_in-returns-in-Choice-clause-right : goal.call_in-returns-in-Choice-clause-right
call_in-returns-in-Choice-clause-right t c =
    λ arity agrees h.
    let is = ap word_at c.in-Choice.is in
    makes_same _ _ _ _ (sym (ap (λ (w : Word). called_term_in arity (scope_at c.args.bank.now c.args.scope.now) w c.args.f.now (trees (drop 1 c.args.items.now) end)) is)) (c.choice_in.ensures.right arity agrees (choice_unmet arity (scope_at c.args.bank.now c.args.scope.now) c.args.f.now (trees (drop 1 c.args.items.now) end) (word_at c.args.word) is h))

pub call_in-returns-in-Binding-clause-right : goal.call_in-returns-in-Binding-clause-right
call_in-returns-in-Binding-clause-right t c =
    λ arity agrees h.
    let is = ap word_at c.in-Binding.is in
    makes_same _ _ _ _ (sym (ap (λ (w : Word). called_term_in arity (scope_at c.args.bank.now c.args.scope.now) w c.args.f.now (trees (drop 1 c.args.items.now) end)) is)) (c.binding_in.ensures.right arity agrees (binding_unmet arity (scope_at c.args.bank.now c.args.scope.now) c.args.f.now (trees (drop 1 c.args.items.now) end) (word_at c.args.word) is h))

pub call_in-returns-in-Listing-clause-right : goal.call_in-returns-in-Listing-clause-right
call_in-returns-in-Listing-clause-right t c =
    λ arity agrees h.
    let is = ap word_at c.in-Listing.is in
    makes_same _ _ _ _ (applied_by arity (scope_at c.args.bank.now c.args.scope.now) c.args.f.now (trees (drop 1 c.args.items.now) end) (word_at c.args.word) Listing is refl) (c.arguments_in.ensures.right arity agrees (arguments_met arity (scope_at c.args.bank.now c.args.scope.now) c.args.f.now (trees (drop 1 c.args.items.now) end) (word_at c.args.word) Listing is (parts_listing arity (scope_at c.args.bank.now c.args.scope.now) c.args.f.now (trees (drop 1 c.args.items.now) end)) h))

pub call_in-returns-in-Nesting-clause-right : goal.call_in-returns-in-Nesting-clause-right
call_in-returns-in-Nesting-clause-right t c =
    λ arity agrees h.
    let is = ap word_at c.in-Nesting.is in
    makes_same _ _ _ _ (applied_by arity (scope_at c.args.bank.now c.args.scope.now) c.args.f.now (trees (drop 1 c.args.items.now) end) (word_at c.args.word) Nesting is refl) (c.arguments_in-in-Nesting.ensures.right arity agrees (arguments_met arity (scope_at c.args.bank.now c.args.scope.now) c.args.f.now (trees (drop 1 c.args.items.now) end) (word_at c.args.word) Nesting is (parts_nesting arity (scope_at c.args.bank.now c.args.scope.now) c.args.f.now (trees (drop 1 c.args.items.now) end)) h))

pub call_in-returns-in-Path-clause-right : goal.call_in-returns-in-Path-clause-right
call_in-returns-in-Path-clause-right t c =
    λ arity agrees h.
    let is = ap word_at c.in-Path.is in
    makes_same _ _ _ _ (applied_by arity (scope_at c.args.bank.now c.args.scope.now) c.args.f.now (trees (drop 1 c.args.items.now) end) (word_at c.args.word) (Path c.in-Path.field-0.now) is refl) (c.arguments_in-in-Path.ensures.right arity agrees (arguments_met arity (scope_at c.args.bank.now c.args.scope.now) c.args.f.now (trees (drop 1 c.args.items.now) end) (word_at c.args.word) (Path c.in-Path.field-0.now) is (parts_path arity (scope_at c.args.bank.now c.args.scope.now) c.args.f.now (trees (drop 1 c.args.items.now) end) c.in-Path.field-0.now) h))

pub call_in-returns-in-Plain-clause-right : goal.call_in-returns-in-Plain-clause-right
call_in-returns-in-Plain-clause-right t c =
    λ arity agrees h.
    let is = ap word_at c.in-Plain.is in
    makes_same _ _ _ _ (applied_by arity (scope_at c.args.bank.now c.args.scope.now) c.args.f.now (trees (drop 1 c.args.items.now) end) (word_at c.args.word) Plain is refl) (c.arguments_in-in-Plain.ensures.right arity agrees (arguments_met arity (scope_at c.args.bank.now c.args.scope.now) c.args.f.now (trees (drop 1 c.args.items.now) end) (word_at c.args.word) Plain is (parts_plain arity (scope_at c.args.bank.now c.args.scope.now) c.args.f.now (trees (drop 1 c.args.items.now) end)) h))

pub choice_in-returns-in_ok-selector-in-len2-up-clause-right : goal.choice_in-returns-in_ok-selector-in-len2-up-clause-right
choice_in-returns-in_ok-selector-in-len2-up-clause-right t c =
    λ arity agrees h.
    let items = c.args.items.now in
    let s = scope_at c.args.bank.now c.args.scope.now in
    let x = tree c.selector-item.result in
    let o = c.in_ok-selector-in-len2-up.selector in
    let whole = case_unmet arity items c.selector-item.result c.in-len2-up.len_at_least c.selector-item.is h in
    let keeps = sym c.kept.ensures.is ∙ c.in_ok-selector-in-len2-up.was in
    let like = kept_like c.term_in-made.new.bank c.term_in-made.result o (translated_in arity s x) keeps (c.term_in-made.ensures.right arity agrees whole.selector_met) in
    let same = scope_grown c.args.bank.now c.term_in-made.new.bank c.args.scope.now c.term_in-made.ensures.grows c.requires in
    let a = bound_term c.term_in-made.new.bank o in
    let made = makes_same _ _ _ _ (ap (λ (z : Substitution). keyed_term_in arity z a (trees (drop 2 items) end)) same) (c.keyed_in-term.ensures.right arity agrees whole.clauses) in
    makes_same _ _ _ _ (whole.term s)
    (makes_like c.keyed_in-term.new.bank c.keyed_in-term.result (keyed_term_in arity s a (trees (drop 2 items) end)) (keyed_term_in arity s (translated_in arity s x) (trees (drop 2 items) end)) c.is_sound.ensures
    (keyed_like arity s a (translated_in arity s x) (drop 2 items) like (keyed_pairs arity (drop 2 items) whole.clauses)) made)

pub conditional_in-returns-in_err-rest-clause-right : goal.conditional_in-returns-in_err-rest-clause-right
conditional_in-returns-in_err-rest-clause-right t c =
    λ arity agrees h.
    let items = c.args.items.now in
    let s = scope_at c.args.bank.now c.args.scope.now in
    let x = c.index-items-place.result in
    let whole = conditional_branches arity s (drop 1 items) (conditional_pairs arity (drop 1 items) h) in
    let met = conditional_unmet_in arity (drop 1 items) h in
    let unmet = value_unmet_at (test_met arity) (value_met arity) 1 items (length items - 1) x (omega arith) (omega arith) c.index-items-place.is met in
    makes_err _ _ c.value_in.result c.from_residual.result c.in_err-rest.field-0.0 _ _ c.in_err-rest.was c.from_residual.ensures.1 (c.value_in.ensures.right arity agrees unmet)
    (whole_last (test_term_in arity s) (value_term_in arity s) 1 items (conditional_term_in arity s (trees (drop 1 items) end)) whole (length items - 1) x (omega arith) (omega arith) (omega arith) c.index-items-place.is)

pub conditional_in-loop-place-init : goal.conditional_in-loop-place-init
conditional_in-loop-place-init t c =
    let items = c.args.items.now in
    let s = scope_at c.args.bank.now c.args.scope.now in
    let x = c.index-items-place.result in
    record {
      low = omega arith;
      high = omega arith;
      stands = c.in_ok-rest.ensures.stands;
      grows = c.in_ok-rest.ensures.grows;
      right = λ arity agrees h.
          let met = conditional_unmet_in arity (drop 1 items) h in
          let unmet = value_unmet_at (test_met arity) (value_met arity) 1 items (length items - 1) x (omega arith) (omega arith) c.index-items-place.is met in
          let last = branches_last (test_term_in arity s) (value_term_in arity s) items (length items - 1) x (omega arith) (omega arith) c.index-items-place.is in
          subst (λ (z : Term). IsIdOf c.value_in.new.bank c.in_ok-rest.rest z) (sym last) (c.in_ok-rest.ensures.right arity agrees unmet).ok;
    }

pub conditional_in-returns-in_err-value-clause-right : goal.conditional_in-returns-in_err-value-clause-right
conditional_in-returns-in_err-value-clause-right t c =
    λ arity agrees h.
    let items = c.args.items.now in
    let s = scope_at c.args.bank.now c.args.scope.now in
    let x = c.index-items-place-in-loop-place.result in
    let p = c.loop-place.place - 1 in
    let q = c.loop-place.place in
    let old = c.loop-place.bank in
    let inv = c.loop-place.invariant in
    let whole = conditional_branches arity s (drop 1 items) (conditional_pairs arity (drop 1 items) h) in
    let met = conditional_unmet_in arity (drop 1 items) h in
    let same = scope_grown c.args.bank.now old c.args.scope.now inv.grows c.requires in
    let unmet = value_unmet_at (test_met arity) (value_met arity) 1 items p x (omega arith) (omega arith) c.index-items-place-in-loop-place.is met in
    let made = makes_same _ _ _ _ (ap (λ (z : Substitution). value_term_in arity z (tree x)) same) (c.value_in-in-loop-place.ensures.right arity agrees unmet) in
    makes_err _ _ c.value_in-in-loop-place.result c.from_residual-in_err-value.result c.in_err-value.field-0.0 _ _ c.in_err-value.was c.from_residual-in_err-value.ensures.1 made
    (whole_value (test_term_in arity s) (value_term_in arity s) 1 items (conditional_term_in arity s (trees (drop 1 items) end)) whole p q x (omega arith) (omega arith) inv.high c.index-items-place-in-loop-place.is)

pub conditional_in-returns-in_err-test-clause-right : goal.conditional_in-returns-in_err-test-clause-right
conditional_in-returns-in_err-test-clause-right t c =
    λ arity agrees h.
    let items = c.args.items.now in
    let s = scope_at c.args.bank.now c.args.scope.now in
    let x = c.index-items-place-in-loop-place.result in
    let p = c.loop-place.place - 1 in
    let q = c.loop-place.place in
    let old = c.loop-place.bank in
    let inv = c.loop-place.invariant in
    let whole = conditional_branches arity s (drop 1 items) (conditional_pairs arity (drop 1 items) h) in
    let met = conditional_unmet_in arity (drop 1 items) h in
    let mid = c.value_in-in-loop-place.new.bank in
    let to_mid = Grows-trans c.args.bank.now old mid inv.grows c.in_ok-value.ensures.grows in
    let same_mid = scope_grown c.args.bank.now mid c.args.scope.now to_mid c.requires in
    let unmet_test = test_unmet_before (test_met arity) (value_met arity) 1 items p q x (omega arith) (omega arith) inv.high c.index-items-place-in-loop-place.is met in
    let test = makes_same _ _ _ _ (ap (λ (z : Substitution). test_term_in arity z (tree x)) same_mid) (c.test_in.ensures.right arity agrees unmet_test) in
    makes_err _ _ c.test_in.result c.from_residual-in_err-test.result c.in_err-test.field-0.0 _ _ c.in_err-test.was c.from_residual-in_err-test.ensures.1 test
    (whole_test (test_term_in arity s) (value_term_in arity s) 1 items (conditional_term_in arity s (trees (drop 1 items) end)) whole p q x (omega arith) (omega arith) inv.high c.index-items-place-in-loop-place.is)

pub conditional_in-returns-in_err-rest-2-clause-right : goal.conditional_in-returns-in_err-rest-2-clause-right
conditional_in-returns-in_err-rest-2-clause-right t c =
    λ arity agrees h.
    let items = c.args.items.now in
    let s = scope_at c.args.bank.now c.args.scope.now in
    let x = c.index-items-place-in-loop-place.result in
    let p = c.loop-place.place - 1 in
    let q = c.loop-place.place in
    let old = c.loop-place.bank in
    let inv = c.loop-place.invariant in
    let whole = conditional_branches arity s (drop 1 items) (conditional_pairs arity (drop 1 items) h) in
    let met = conditional_unmet_in arity (drop 1 items) h in
    let mid = c.value_in-in-loop-place.new.bank in
    let bank = c.test_in.new.bank in
    let to_mid = Grows-trans c.args.bank.now old mid inv.grows c.in_ok-value.ensures.grows in
    let to_bank = c.in_ok-test.ensures.grows in
    let same = scope_grown c.args.bank.now old c.args.scope.now inv.grows c.requires in
    let unmet = value_unmet_at (test_met arity) (value_met arity) 1 items p x (omega arith) (omega arith) c.index-items-place-in-loop-place.is met in
    let value_id = (c.in_ok-value.ensures.right arity agrees unmet).ok in
    let value = term_at-grown mid bank c.in_ok-value.value to_bank value_id.stands ∙ value_id.denotes ∙ ap (λ (z : Substitution). value_term_in arity z (tree x)) same in
    let rest_id = inv.right arity agrees h in
    let rest = term_at-grown old bank c.loop-place.rest (Grows-trans old mid bank c.in_ok-value.ensures.grows to_bank) rest_id.stands ∙ rest_id.denotes in
    let same_mid = scope_grown c.args.bank.now mid c.args.scope.now to_mid c.requires in
    let unmet_test = test_unmet_before (test_met arity) (value_met arity) 1 items p q x (omega arith) (omega arith) inv.high c.index-items-place-in-loop-place.is met in
    let test = makes_same _ _ _ _ (ap (λ (z : Substitution). test_term_in arity z (tree x)) same_mid) (c.in_ok-test.ensures.right arity agrees unmet_test) in
    let three = three_are bank c.in_ok-test.test c.in_ok-value.value c.loop-place.rest ((test_term_in arity s) (tree x)) (value_term_in arity s (tree x)) (branches (test_term_in arity s) (value_term_in arity s) (drop q items)) test.ok.denotes value rest in
    makes_err _ _ c.call_three.result c.from_residual-in_err-rest-2.result c.in_err-rest-2.field-0.0 (if_term (term_at bank c.in_ok-test.test) (term_at bank c.in_ok-value.value) (term_at bank c.loop-place.rest)) _ c.in_err-rest-2.was c.from_residual-in_err-rest-2.ensures.1 (call_makes c.call_three.new.bank c.call_three.result _ c.call_three.ensures.ok c.call_three.ensures.deep)
    (λ d. whole_nest (test_term_in arity s) (value_term_in arity s) 1 items (conditional_term_in arity s (trees (drop 1 items) end)) whole p q x (omega arith) (omega arith) inv.high c.index-items-place-in-loop-place.is (subst (λ (z : Term). depth_limit < depth_of z) three d))

pub conditional_in-loop-place-preserved : goal.conditional_in-loop-place-preserved
conditional_in-loop-place-preserved t c =
    let items = c.args.items.now in
    let s = scope_at c.args.bank.now c.args.scope.now in
    let x = c.index-items-place-in-loop-place.result in
    let p = c.loop-place.place - 1 in
    let q = c.loop-place.place in
    let old = c.loop-place.bank in
    let inv = c.loop-place.invariant in
    record {
      low = omega arith;
      high = omega arith;
      stands = c.in_ok-rest-2.ensures.ok.stands;
      grows = Grows-trans c.args.bank.now c.test_in.new.bank c.call_three.new.bank (Grows-trans c.args.bank.now c.value_in-in-loop-place.new.bank c.test_in.new.bank (Grows-trans c.args.bank.now old c.value_in-in-loop-place.new.bank inv.grows c.in_ok-value.ensures.grows) c.in_ok-test.ensures.grows) c.in_ok-rest-2.ensures.grows;
      right = λ arity agrees h.
          let met = conditional_unmet_in arity (drop 1 items) h in
          let mid = c.value_in-in-loop-place.new.bank in
          let bank = c.test_in.new.bank in
          let to_mid = Grows-trans c.args.bank.now old mid inv.grows c.in_ok-value.ensures.grows in
          let to_bank = c.in_ok-test.ensures.grows in
          let same = scope_grown c.args.bank.now old c.args.scope.now inv.grows c.requires in
          let unmet = value_unmet_at (test_met arity) (value_met arity) 1 items p x (omega arith) (omega arith) c.index-items-place-in-loop-place.is met in
          let value_id = (c.in_ok-value.ensures.right arity agrees unmet).ok in
          let value = term_at-grown mid bank c.in_ok-value.value to_bank value_id.stands ∙ value_id.denotes ∙ ap (λ (z : Substitution). value_term_in arity z (tree x)) same in
          let rest_id = inv.right arity agrees h in
          let rest = term_at-grown old bank c.loop-place.rest (Grows-trans old mid bank c.in_ok-value.ensures.grows to_bank) rest_id.stands ∙ rest_id.denotes in
          let same_mid = scope_grown c.args.bank.now mid c.args.scope.now to_mid c.requires in
          let unmet_test = test_unmet_before (test_met arity) (value_met arity) 1 items p q x (omega arith) (omega arith) inv.high c.index-items-place-in-loop-place.is met in
          let test = makes_same _ _ _ _ (ap (λ (z : Substitution). test_term_in arity z (tree x)) same_mid) (c.in_ok-test.ensures.right arity agrees unmet_test) in
          let three = three_are bank c.in_ok-test.test c.in_ok-value.value c.loop-place.rest ((test_term_in arity s) (tree x)) (value_term_in arity s (tree x)) (branches (test_term_in arity s) (value_term_in arity s) (drop q items)) test.ok.denotes value rest in
          let here = branches_at (test_term_in arity s) (value_term_in arity s) items p q x (omega arith) inv.high c.index-items-place-in-loop-place.is in
          subst (λ (z : Term). IsIdOf c.call_three.new.bank c.in_ok-rest-2.rest z) (three ∙ sym here) c.in_ok-rest-2.ensures.ok;
    }

pub conditional_in-returns-clause-right : goal.conditional_in-returns-clause-right
conditional_in-returns-clause-right t c =
    λ arity agrees h.
    let items = c.args.items.now in
    let s = scope_at c.args.bank.now c.args.scope.now in
    let whole = conditional_branches arity s (drop 1 items) (conditional_pairs arity (drop 1 items) h) in
    let one : c.loop-place.place ≡ 1 = omega arith in
    record {
      ok = subst (λ (z : Term). IsIdOf c.loop-place.bank c.loop-place.rest z) (ap (λ k. branches (test_term_in arity s) (value_term_in arity s) (drop k items)) one ∙ whole) (c.loop-place.invariant.right arity agrees h);
      deep = λ e. absurd (cc);
    }

pub keyed_in-returns-in_err-rest-clause-right : goal.keyed_in-returns-in_err-rest-clause-right
keyed_in-returns-in_err-rest-clause-right t c =
    λ arity agrees h.
    let items = c.args.items.now in
    let s = scope_at c.args.bank.now c.args.scope.now in
    let a = bound_term c.args.bank.now c.args.selector in
    let x = c.index-items-place.result in
    let whole = keyed_branches arity s a (drop 2 items) (keyed_pairs arity (drop 2 items) h) in
    let met = keyed_unmet_in arity (drop 2 items) h in
    let unmet = value_unmet_at key_met (value_met arity) 2 items (length items - 1) x (omega arith) (omega arith) c.index-items-place.is met in
    makes_err _ _ c.value_in.result c.from_residual.result c.in_err-rest.field-0.0 _ _ c.in_err-rest.was c.from_residual.ensures.1 (c.value_in.ensures.right arity agrees unmet)
    (whole_last (key_term a) (value_term_in arity s) 2 items (keyed_term_in arity s a (trees (drop 2 items) end)) whole (length items - 1) x (omega arith) (omega arith) (omega arith) c.index-items-place.is)

pub keyed_in-loop-place-init : goal.keyed_in-loop-place-init
keyed_in-loop-place-init t c =
    let items = c.args.items.now in
    let s = scope_at c.args.bank.now c.args.scope.now in
    let a = bound_term c.args.bank.now c.args.selector in
    let x = c.index-items-place.result in
    record {
      low = omega arith;
      high = omega arith;
      stands = c.in_ok-rest.ensures.stands;
      grows = c.in_ok-rest.ensures.grows;
      right = λ arity agrees h.
          let met = keyed_unmet_in arity (drop 2 items) h in
          let unmet = value_unmet_at key_met (value_met arity) 2 items (length items - 1) x (omega arith) (omega arith) c.index-items-place.is met in
          let last = branches_last (key_term a) (value_term_in arity s) items (length items - 1) x (omega arith) (omega arith) c.index-items-place.is in
          subst (λ (z : Term). IsIdOf c.value_in.new.bank c.in_ok-rest.rest z) (sym last) (c.in_ok-rest.ensures.right arity agrees unmet).ok;
    }

pub keyed_in-returns-in_err-value-clause-right : goal.keyed_in-returns-in_err-value-clause-right
keyed_in-returns-in_err-value-clause-right t c =
    λ arity agrees h.
    let items = c.args.items.now in
    let s = scope_at c.args.bank.now c.args.scope.now in
    let a = bound_term c.args.bank.now c.args.selector in
    let x = c.index-items-place-in-loop-place.result in
    let p = c.loop-place.place - 1 in
    let q = c.loop-place.place in
    let old = c.loop-place.bank in
    let inv = c.loop-place.invariant in
    let whole = keyed_branches arity s a (drop 2 items) (keyed_pairs arity (drop 2 items) h) in
    let met = keyed_unmet_in arity (drop 2 items) h in
    let same = scope_grown c.args.bank.now old c.args.scope.now inv.grows c.requires.scope in
    let unmet = value_unmet_at key_met (value_met arity) 2 items p x (omega arith) (omega arith) c.index-items-place-in-loop-place.is met in
    let made = makes_same _ _ _ _ (ap (λ (z : Substitution). value_term_in arity z (tree x)) same) (c.value_in-in-loop-place.ensures.right arity agrees unmet) in
    makes_err _ _ c.value_in-in-loop-place.result c.from_residual-in_err-value.result c.in_err-value.field-0.0 _ _ c.in_err-value.was c.from_residual-in_err-value.ensures.1 made
    (whole_value (key_term a) (value_term_in arity s) 2 items (keyed_term_in arity s a (trees (drop 2 items) end)) whole p q x (omega arith) (omega arith) inv.high c.index-items-place-in-loop-place.is)

pub keyed_in-returns-in_err-test-clause-right : goal.keyed_in-returns-in_err-test-clause-right
keyed_in-returns-in_err-test-clause-right t c =
    λ arity agrees h.
    let items = c.args.items.now in
    let s = scope_at c.args.bank.now c.args.scope.now in
    let a = bound_term c.args.bank.now c.args.selector in
    let x = c.index-items-place-in-loop-place.result in
    let p = c.loop-place.place - 1 in
    let q = c.loop-place.place in
    let old = c.loop-place.bank in
    let inv = c.loop-place.invariant in
    let whole = keyed_branches arity s a (drop 2 items) (keyed_pairs arity (drop 2 items) h) in
    let met = keyed_unmet_in arity (drop 2 items) h in
    let mid = c.value_in-in-loop-place.new.bank in
    let to_mid = Grows-trans c.args.bank.now old mid inv.grows c.in_ok-value.ensures.grows in
    let same_a = bound_grown c.args.bank.now mid c.args.selector to_mid c.requires.selector in
    let pair = pair_at 2 items p x (omega arith) (omega arith) c.index-items-place-in-loop-place.is (keyed_pairs arity (drop 2 items) h) in
    let test = makes_same _ _ _ _ (ap (λ (z : Term). key_term z (tree x)) same_a) (c.key_test.ensures.right pair) in
    makes_err _ _ c.key_test.result c.from_residual-in_err-test.result c.in_err-test.field-0.0 _ _ c.in_err-test.was c.from_residual-in_err-test.ensures.1 test
    (whole_test (key_term a) (value_term_in arity s) 2 items (keyed_term_in arity s a (trees (drop 2 items) end)) whole p q x (omega arith) (omega arith) inv.high c.index-items-place-in-loop-place.is)

pub keyed_in-returns-in_err-rest-2-clause-right : goal.keyed_in-returns-in_err-rest-2-clause-right
keyed_in-returns-in_err-rest-2-clause-right t c =
    λ arity agrees h.
    let items = c.args.items.now in
    let s = scope_at c.args.bank.now c.args.scope.now in
    let a = bound_term c.args.bank.now c.args.selector in
    let x = c.index-items-place-in-loop-place.result in
    let p = c.loop-place.place - 1 in
    let q = c.loop-place.place in
    let old = c.loop-place.bank in
    let inv = c.loop-place.invariant in
    let whole = keyed_branches arity s a (drop 2 items) (keyed_pairs arity (drop 2 items) h) in
    let met = keyed_unmet_in arity (drop 2 items) h in
    let mid = c.value_in-in-loop-place.new.bank in
    let bank = c.key_test.new.bank in
    let to_mid = Grows-trans c.args.bank.now old mid inv.grows c.in_ok-value.ensures.grows in
    let to_bank = c.in_ok-test.ensures.grows in
    let same = scope_grown c.args.bank.now old c.args.scope.now inv.grows c.requires.scope in
    let unmet = value_unmet_at key_met (value_met arity) 2 items p x (omega arith) (omega arith) c.index-items-place-in-loop-place.is met in
    let value_id = (c.in_ok-value.ensures.right arity agrees unmet).ok in
    let value = term_at-grown mid bank c.in_ok-value.value to_bank value_id.stands ∙ value_id.denotes ∙ ap (λ (z : Substitution). value_term_in arity z (tree x)) same in
    let rest_id = inv.right arity agrees h in
    let rest = term_at-grown old bank c.loop-place.rest (Grows-trans old mid bank c.in_ok-value.ensures.grows to_bank) rest_id.stands ∙ rest_id.denotes in
    let same_a = bound_grown c.args.bank.now mid c.args.selector to_mid c.requires.selector in
    let pair = pair_at 2 items p x (omega arith) (omega arith) c.index-items-place-in-loop-place.is (keyed_pairs arity (drop 2 items) h) in
    let test = makes_same _ _ _ _ (ap (λ (z : Term). key_term z (tree x)) same_a) (c.in_ok-test.ensures.right pair) in
    let three = three_are bank c.in_ok-test.test c.in_ok-value.value c.loop-place.rest ((key_term a) (tree x)) (value_term_in arity s (tree x)) (branches (key_term a) (value_term_in arity s) (drop q items)) test.ok.denotes value rest in
    makes_err _ _ c.call_three.result c.from_residual-in_err-rest-2.result c.in_err-rest-2.field-0.0 (if_term (term_at bank c.in_ok-test.test) (term_at bank c.in_ok-value.value) (term_at bank c.loop-place.rest)) _ c.in_err-rest-2.was c.from_residual-in_err-rest-2.ensures.1 (call_makes c.call_three.new.bank c.call_three.result _ c.call_three.ensures.ok c.call_three.ensures.deep)
    (λ d. whole_nest (key_term a) (value_term_in arity s) 2 items (keyed_term_in arity s a (trees (drop 2 items) end)) whole p q x (omega arith) (omega arith) inv.high c.index-items-place-in-loop-place.is (subst (λ (z : Term). depth_limit < depth_of z) three d))

pub keyed_in-loop-place-preserved : goal.keyed_in-loop-place-preserved
keyed_in-loop-place-preserved t c =
    let items = c.args.items.now in
    let s = scope_at c.args.bank.now c.args.scope.now in
    let a = bound_term c.args.bank.now c.args.selector in
    let x = c.index-items-place-in-loop-place.result in
    let p = c.loop-place.place - 1 in
    let q = c.loop-place.place in
    let old = c.loop-place.bank in
    let inv = c.loop-place.invariant in
    record {
      low = omega arith;
      high = omega arith;
      stands = c.in_ok-rest-2.ensures.ok.stands;
      grows = Grows-trans c.args.bank.now c.key_test.new.bank c.call_three.new.bank (Grows-trans c.args.bank.now c.value_in-in-loop-place.new.bank c.key_test.new.bank (Grows-trans c.args.bank.now old c.value_in-in-loop-place.new.bank inv.grows c.in_ok-value.ensures.grows) c.in_ok-test.ensures.grows) c.in_ok-rest-2.ensures.grows;
      right = λ arity agrees h.
          let met = keyed_unmet_in arity (drop 2 items) h in
          let mid = c.value_in-in-loop-place.new.bank in
          let bank = c.key_test.new.bank in
          let to_mid = Grows-trans c.args.bank.now old mid inv.grows c.in_ok-value.ensures.grows in
          let to_bank = c.in_ok-test.ensures.grows in
          let same = scope_grown c.args.bank.now old c.args.scope.now inv.grows c.requires.scope in
          let unmet = value_unmet_at key_met (value_met arity) 2 items p x (omega arith) (omega arith) c.index-items-place-in-loop-place.is met in
          let value_id = (c.in_ok-value.ensures.right arity agrees unmet).ok in
          let value = term_at-grown mid bank c.in_ok-value.value to_bank value_id.stands ∙ value_id.denotes ∙ ap (λ (z : Substitution). value_term_in arity z (tree x)) same in
          let rest_id = inv.right arity agrees h in
          let rest = term_at-grown old bank c.loop-place.rest (Grows-trans old mid bank c.in_ok-value.ensures.grows to_bank) rest_id.stands ∙ rest_id.denotes in
          let same_a = bound_grown c.args.bank.now mid c.args.selector to_mid c.requires.selector in
          let pair = pair_at 2 items p x (omega arith) (omega arith) c.index-items-place-in-loop-place.is (keyed_pairs arity (drop 2 items) h) in
          let test = makes_same _ _ _ _ (ap (λ (z : Term). key_term z (tree x)) same_a) (c.in_ok-test.ensures.right pair) in
          let three = three_are bank c.in_ok-test.test c.in_ok-value.value c.loop-place.rest ((key_term a) (tree x)) (value_term_in arity s (tree x)) (branches (key_term a) (value_term_in arity s) (drop q items)) test.ok.denotes value rest in
          let here = branches_at (key_term a) (value_term_in arity s) items p q x (omega arith) inv.high c.index-items-place-in-loop-place.is in
          subst (λ (z : Term). IsIdOf c.call_three.new.bank c.in_ok-rest-2.rest z) (three ∙ sym here) c.in_ok-rest-2.ensures.ok;
    }

pub keyed_in-returns-clause-right : goal.keyed_in-returns-clause-right
keyed_in-returns-clause-right t c =
    λ arity agrees h.
    let items = c.args.items.now in
    let s = scope_at c.args.bank.now c.args.scope.now in
    let a = bound_term c.args.bank.now c.args.selector in
    let whole = keyed_branches arity s a (drop 2 items) (keyed_pairs arity (drop 2 items) h) in
    let one : c.loop-place.place ≡ 2 = omega arith in
    record {
      ok = subst (λ (z : Term). IsIdOf c.loop-place.bank c.loop-place.rest z) (ap (λ k. branches (key_term a) (value_term_in arity s) (drop k items)) one ∙ whole) (c.loop-place.invariant.right arity agrees h);
      deep = λ e. absurd (cc);
    }

pub list_in-returns-in-Some-clause-right : goal.list_in-returns-in-Some-clause-right
list_in-returns-in-Some-clause-right t c =
    λ arity agrees h.
    let f = c.in-Some.f.now in
    let named = ap name_at (sym c.in-Some.is) ∙ c.symbol_of.ensures in
    let is = c.word_in-word.ensures ∙ ap (λ (z : Option ℕ). word_by (word_of f) z) c.arity.ensures ∙ agrees f in
    let parts = sym (met_called arity c.args.items.now c.first-item.result f c.in-len1-up.len_at_least c.first-item.is named) ∙ h in
    makes_same _ _ _ _ (ap (λ (w : Word). called_term_in arity (scope_at c.args.bank.now c.args.scope.now) w f (trees (drop 1 c.args.items.now) end)) is ∙ sym (term_called arity (scope_at c.args.bank.now c.args.scope.now) c.args.items.now c.first-item.result f c.in-len1-up.len_at_least c.first-item.is named))
    (c.call_in.ensures.right arity agrees (ap (λ (w : Word). parts_refused arity w f (trees (drop 1 c.args.items.now) end)) is ∙ parts))

pub term_in-returns-in-Some-clause-right : goal.term_in-returns-in-Some-clause-right
term_in-returns-in-Some-clause-right t c =
    λ arity agrees h.
    absurd (refused _ (sym (ap (met arity) (list_is _ c.in-List.items c.in-List.tail (Some c.in-Some.field-0) c.in-List.is c.in-Some.is) ∙ met_dotted arity c.in-List.items.now (tree c.in-Some.field-0.now)) ∙ h))

pub test_in-returns-in-empty-clause-right : goal.test_in-returns-in-empty-clause-right
test_in-returns-in-empty-clause-right t c =
    λ arity agrees h.
    makes_nil _ _ _ (test_nil arity (scope_at c.args.bank.now c.args.scope.now) (tree c.args.clause.now) (ap is_pair (list_is _ c.in-List.items c.in-List.tail None c.in-List.is c.in-None.is) ∙ no_pair_few c.in-List.items.now c.in-empty.len_below)) c.nil.ensures.ok c.nil.ensures.not_deep

pub test_in-returns-in-len2-clause-right : goal.test_in-returns-in-len2-clause-right
test_in-returns-in-len2-clause-right t c =
    λ arity agrees h.
    let whole = list_is _ c.in-List.items c.in-List.tail None c.in-List.is c.in-None.is ∙ ap listed (first_of_two c.in-List.items.now c.test-item.result c.test-item.is c.in-len2.len_at_least c.in-len2.len_below) in
    makes_same _ _ _ _ (sym (ap (test_term_in arity (scope_at c.args.bank.now c.args.scope.now)) whole)) (c.term_in.ensures.right arity agrees (sym (ap (test_met arity) whole) ∙ h))

pub test_in-returns-in-len3-up-clause-right : goal.test_in-returns-in-len3-up-clause-right
test_in-returns-in-len3-up-clause-right t c =
    λ arity agrees h.
    makes_nil _ _ _ (test_nil arity (scope_at c.args.bank.now c.args.scope.now) (tree c.args.clause.now) (ap is_pair (list_is _ c.in-List.items c.in-List.tail None c.in-List.is c.in-None.is) ∙ no_pair_many c.in-List.items.now c.in-len3-up.len_at_least)) c.nil-in-len3-up.ensures.ok c.nil-in-len3-up.ensures.not_deep

pub test_in-returns-in-Some-clause-right : goal.test_in-returns-in-Some-clause-right
test_in-returns-in-Some-clause-right t c =
    λ arity agrees h.
    makes_nil _ _ _ (test_nil arity (scope_at c.args.bank.now c.args.scope.now) (tree c.args.clause.now) (ap is_pair (list_is _ c.in-List.items c.in-List.tail (Some c.in-Some.field-0) c.in-List.is c.in-Some.is) ∙ no_pair_dotted c.in-List.items.now (tree c.in-Some.field-0.now))) c.nil-in-Some.ensures.ok c.nil-in-Some.ensures.not_deep

pub value_in-returns-in-empty-clause-right : goal.value_in-returns-in-empty-clause-right
value_in-returns-in-empty-clause-right t c =
    λ arity agrees h.
    makes_nil _ _ _ (value_nil arity (scope_at c.args.bank.now c.args.scope.now) (tree c.args.clause.now) (ap is_pair (list_is _ c.in-List.items c.in-List.tail None c.in-List.is c.in-None.is) ∙ no_pair_few c.in-List.items.now c.in-empty.len_below)) c.nil.ensures.ok c.nil.ensures.not_deep

pub value_in-returns-in-len2-clause-right : goal.value_in-returns-in-len2-clause-right
value_in-returns-in-len2-clause-right t c =
    λ arity agrees h.
    let whole = list_is _ c.in-List.items c.in-List.tail None c.in-List.is c.in-None.is ∙ ap listed (second_of_two c.in-List.items.now c.value-item.result c.value-item.is c.in-len2.len_at_least c.in-len2.len_below) in
    makes_same _ _ _ _ (sym (ap (value_term_in arity (scope_at c.args.bank.now c.args.scope.now)) whole)) (c.term_in.ensures.right arity agrees (sym (ap (value_met arity) whole) ∙ h))

pub value_in-returns-in-len3-up-clause-right : goal.value_in-returns-in-len3-up-clause-right
value_in-returns-in-len3-up-clause-right t c =
    λ arity agrees h.
    makes_nil _ _ _ (value_nil arity (scope_at c.args.bank.now c.args.scope.now) (tree c.args.clause.now) (ap is_pair (list_is _ c.in-List.items c.in-List.tail None c.in-List.is c.in-None.is) ∙ no_pair_many c.in-List.items.now c.in-len3-up.len_at_least)) c.nil-in-len3-up.ensures.ok c.nil-in-len3-up.ensures.not_deep

pub value_in-returns-in-Some-clause-right : goal.value_in-returns-in-Some-clause-right
value_in-returns-in-Some-clause-right t c =
    λ arity agrees h.
    makes_nil _ _ _ (value_nil arity (scope_at c.args.bank.now c.args.scope.now) (tree c.args.clause.now) (ap is_pair (list_is _ c.in-List.items c.in-List.tail (Some c.in-Some.field-0) c.in-List.is c.in-Some.is) ∙ no_pair_dotted c.in-List.items.now (tree c.in-Some.field-0.now))) c.nil-in-Some.ensures.ok c.nil-in-Some.ensures.not_deep
