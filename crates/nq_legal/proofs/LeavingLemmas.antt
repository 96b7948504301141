-- Why goals are left over.
use Rattle.std.proofs.Common.{◌≡◌, ◌<◌, ◌≤◌, Bool, true, false, Option, Some, None, List, [], ◌∷◌, ◌++◌, length, refl, sym, ap, subst, ◌∙◌, arith, lit<}
use Rattle.std.specs.Prelude.{◌↔◌, IsTrue, if◌then◌else◌}
use Rattle.std.specs.Option.{option_map}
use Rattle.nq_logic.specs.Terms.{Term, IsAmong}
use Rattle.nq_events.specs.Inductions.{suggests_induction}
use Rattle.nq_bank.specs.declared.node.TermId.{TermId}
use Rattle.nq_bank.specs.Content.{Content, term_at, terms_at}
use Rattle.nq_proof.specs.Clauses.{Clause}
use Rattle.nq_history.specs.declared.entry.Entry.{Entry}
use Rattle.nq_history.specs.declared.hints.Hints.{Hints}
use Rattle.nq_history.specs.Events.{events_at}
use Rattle.nq_event.specs.EventsAt.{hints_at}
use Rattle.nq_kernel.specs.declared.verdict.Cause.TheVariants as causes
use Rattle.nq_goals.specs.Inducting.{hinted_call, hinted_or, hinted_term, scheme_calls, suggesting_among, suggesting_in, suggestions}
use Rattle.nq_goals.specs.Moves.{IsSubsumed, induction_limit, no_candidate}
use Rattle.nq_goals.specs.Paths.{inducted_goals, inductions}
use Rattle.nq_goals.specs.Spent.{normal}
use Rattle.nq_waterfall.specs.declared.trail.Ancestor.{Ancestor}
use Rattle.nq_waterfall.specs.Trails.{above_at}
use Rattle.nq_waterfall.specs.Turns.{SpentAt}
use Rattle.nq_legal.specs.Leaving.{IsFreeAt, IsHintedAt, IsStuck, IsToHint, IsToInduct}

free_none : (o : Option Term) (gs : List Clause) → o ≡ None → hinted_term o gs ≡ []
free_none None gs e = refl
free_none (Some t) gs e = absurd cc

free_some : (o : Option Term) (gs : List Clause) → 0 < length gs → hinted_term o gs ≡ []
free_some None gs k = refl
free_some (Some t) [] k = absurd (omega (arith, k))
free_some (Some t) (g ∷ gs) k = refl

-- without a hint, or below an induction, no hint says how the next one goes
pub unhinted : (bank : Content) (hints : Hints) (path : List Ancestor) → hints.induct ≡ None → IsFreeAt bank hints path
unhinted bank hints path e = free_none (hints_at bank hints).induct (inducted_goals (above_at bank path)) (ap (option_map (term_at bank)) e)

pub below_induction : (bank : Content) (hints : Hints) (path : List Ancestor) → 0 < inductions (above_at bank path) → IsFreeAt bank hints path
below_induction bank hints path k = free_some (hints_at bank hints).induct (inducted_goals (above_at bank path)) k

-- before the first induction the hint says how it goes
pub first_hinted : (bank : Content) (hints : Hints) (path : List Ancestor) (t : TermId) → hints.induct ≡ Some t → inductions (above_at bank path) ≡ 0 → IsHintedAt bank hints path t
first_hinted bank hints path t e k = by_option (hints_at bank hints).induct (inducted_goals (above_at bank path)) (ap (option_map (term_at bank)) e) k
  where
    by_option : (o : Option Term) (gs : List Clause) → o ≡ Some (term_at bank t) → length gs ≡ 0 → hinted_term o gs ≡ term_at bank t ∷ []
    by_option None gs e k = absurd cc
    by_option (Some u) [] e k = ap (λ (v : Term). v ∷ []) (let same : u ≡ term_at bank t = cc in same)
    by_option (Some u) (g ∷ gs) e k = absurd cc

-- then there is none above
none_above : (o : Option Term) (gs : List Clause) (t : Term) → hinted_term o gs ≡ t ∷ [] → gs ≡ []
none_above None gs t e = absurd cc
none_above (Some u) [] t e = refl
none_above (Some u) (g ∷ gs) t e = absurd cc

-- what is not told to be there is not there
pub none_suggest : (ts : List Term) (answer : Bool) → answer ≡ false → (IsTrue answer ↔ (ts ≡ [] → ⊥)) → ts ≡ []
none_suggest [] answer e k = refl
none_suggest (t ∷ ts) answer e k = absurd (apart answer e (k.1 (λ f. absurd cc)))
  where
    apart : (b : Bool) → b ≡ false → b ≡ true → ⊥
    apart true e t = absurd cc
    apart false e t = absurd cc

module _ (bank : Content) (history : List Entry) (hints : Hints) (path : List Ancestor) (goal : List TermId) (free : IsFreeAt bank hints path) where
  no_hint : hinted_call (events_at bank history) (hints_at bank hints) (above_at bank path) ≡ []
  no_hint = ap (suggesting_among (events_at bank history)) free

  free_suggestions : suggestions (events_at bank history) (hints_at bank hints) (above_at bank path) (terms_at bank goal) ≡ suggesting_in (events_at bank history) (terms_at bank goal)
  free_suggestions = ap (λ (ts : List Term). ts ++ suggesting_in (events_at bank history) (terms_at bank goal)) no_hint

  free_calls : scheme_calls (events_at bank history) (hints_at bank hints) (above_at bank path) (terms_at bank goal) ≡ suggesting_in (events_at bank history) (terms_at bank goal)
  free_calls = ap (λ (ts : List Term). hinted_or ts (suggesting_in (events_at bank history) (terms_at bank goal))) no_hint

  module _ (stuck : IsStuck bank history hints goal) where
    pub left_for_want : suggesting_in (events_at bank history) (terms_at bank goal) ≡ [] → SpentAt bank history hints path goal causes.NoInduction
    left_for_want e = record { form = normal stuck.normal; holds = (stuck.none, free_suggestions ∙ e); first = (stuck.not_false, tt) }

    module _ (suggested : suggesting_in (events_at bank history) (terms_at bank goal) ≡ [] → ⊥) where
      pub left_in_loop : IsSubsumed (above_at bank path) (terms_at bank goal) → SpentAt bank history hints path goal causes.Loop
      left_in_loop s = record { form = normal stuck.normal; holds = (stuck.none, s); first = (stuck.not_false, ((λ k. suggested (sym free_suggestions ∙ k.1)), tt)) }

      module _ (new : IsSubsumed (above_at bank path) (terms_at bank goal) → ⊥) where
        pub left_forbidden : hints.no_induct ≡ true → SpentAt bank history hints path goal causes.Forbidden
        left_forbidden e =
            record { form = normal stuck.normal; holds = (stuck.none, e); first = (stuck.not_false, ((λ k. suggested (sym free_suggestions ∙ k.1)), ((λ k. new k.1), tt))) }

        module _ (allowed : hints.no_induct ≡ false) where
          pub left_deep : induction_limit ≤ inductions (above_at bank path) → SpentAt bank history hints path goal causes.Depth
          left_deep k =
              record {
                form = normal stuck.normal;
                holds = (stuck.none, k);
                first = (stuck.not_false, ((λ j. suggested (sym free_suggestions ∙ j.1)), ((λ j. new j.1), ((λ j. absurd (apart hints.no_induct allowed j.1)), tt))));
              }
            where
              apart : (b : Bool) → b ≡ false → b ≡ true → ⊥
              apart true e t = absurd cc
              apart false e t = absurd cc

          pub to_induct : inductions (above_at bank path) < induction_limit → IsToInduct bank history hints path goal
          to_induct k = record { starts = record { allowed = allowed; due = no_candidate stuck.none; no_loop = new; not_deep = k }; calls = free_calls }

module _ (bank : Content) (history : List Entry) (hints : Hints) (path : List Ancestor) (goal : List TermId) (call : TermId) (hinted : IsHintedAt bank hints path call) (suggests : suggests_induction (events_at bank history) (term_at bank call) ≡ true) (stuck : IsStuck bank history hints goal) where
  the_hint : hinted_call (events_at bank history) (hints_at bank hints) (above_at bank path) ≡ term_at bank call ∷ []
  the_hint = ap (suggesting_among (events_at bank history)) hinted ∙ ap (λ (b : Bool). if b then term_at bank call ∷ [] else []) suggests

  no_inductions : inducted_goals (above_at bank path) ≡ []
  no_inductions = none_above (hints_at bank hints).induct (inducted_goals (above_at bank path)) (term_at bank call) hinted

  unsubsumed : IsSubsumed (above_at bank path) (terms_at bank goal) → ⊥
  unsubsumed s = subst (IsAmong s.earlier) no_inductions s.inducted

  some_suggestion : suggestions (events_at bank history) (hints_at bank hints) (above_at bank path) (terms_at bank goal) ≡ [] → ⊥
  some_suggestion e = absurd (never (sym (ap (λ (ts : List Term). ts ++ suggesting_in (events_at bank history) (terms_at bank goal)) the_hint) ∙ e))
    where
      never : term_at bank call ∷ suggesting_in (events_at bank history) (terms_at bank goal) ≡ [] → ⊥
      never e = absurd cc

  pub hint_forbidden : hints.no_induct ≡ true → SpentAt bank history hints path goal causes.Forbidden
  hint_forbidden e = record { form = normal stuck.normal; holds = (stuck.none, e); first = (stuck.not_false, ((λ k. some_suggestion k.1), ((λ k. unsubsumed k.1), tt))) }

  pub to_hint : hints.induct ≡ Some call → hints.no_induct ≡ false → IsToHint bank history hints path goal call
  to_hint is allowed = record {
    hint = is;
    starts = record { allowed = allowed; due = no_candidate stuck.none; no_loop = unsubsumed; not_deep = subst (λ (gs : List Clause). length gs < induction_limit) (sym no_inductions) (lit< tt) };
    calls = ap (λ (ts : List Term). hinted_or ts (suggesting_in (events_at bank history) (terms_at bank goal))) the_hint;
  }

-- no goal above subsumes the goal
pub not_told : (b : Bool) (P : Type 0) → b ≡ false → (IsTrue b ↔ P) → P → ⊥
not_told true P e k p = absurd cc
not_told false P e k p = absurd (never (k.1 p))
  where
    never : false ≡ true → ⊥
    never e = absurd cc
