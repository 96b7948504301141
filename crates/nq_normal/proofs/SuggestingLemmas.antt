-- Where calls that suggest an induction stand.
use Rattle.std.proofs.Common.{◌≡◌, ℕ, ◌+◌, ◌-◌, ◌<◌, ◌≤◌, Bool, true, false, ◌||◌, List, [], ◌∷◌, ◌++◌, length, get_or, take, drop, refl, sym, ap, ap₂, ◌∙◌, inl, inr, arith}
use Rattle.std.specs.Prelude.{nat_eq, not, IsTrue, ◌↔◌, if◌then◌else◌, None, Some}
use Rattle.std.specs.List.{list_any}
use Rattle.std.proofs.lemmas.List.{take_all}
use Rattle.std.specs.HashMap.{Updates}
use Rattle.nq_logic.specs.Terms.{Name, Term, Variable, Function, Applied, applied, call}
use Rattle.nq_logic.specs.Numerals.{number_of}
use Rattle.nq_logic.specs.Histories.{History}
use Rattle.nq_logic.specs.RuleShapes.{inner_terms}
use Rattle.nq_bank.specs.declared.node.TermId.{TermId}
use Rattle.nq_bank.specs.Parts.{parts_of}
use Rattle.nq_bank.specs.Content.{Content, term_at, terms_at, term_from, terms_from}
use Rattle.nq_bank.proofs.ArgumentLemmas.{terms_from-take}
use Rattle.nq_clause.proofs.Lookups.{kept_or_stood}
use Rattle.nq_events.specs.Inductions.{definition_if, head_of, suggests_induction, suggests_of}
use Rattle.nq_event.proofs.DefinitionLemmas.{arguments_call, head_call}
use Rattle.nq_goals.specs.Inducting.{suggesting_among, suggesting_in}
use Rattle.nq_goals.specs.Normal.{is_without}
use Rattle.nq_goals.specs.Replacing.{parts_in, parts_in_all}
use Rattle.nq_normal.specs.Sought.{Answers}
use Rattle.nq_normal.specs.Suggesting.{has_suggesting, HasSuggestions}
use Rattle.nq_normal.proofs.Walks.{any_joined}

or_false : (b : Bool) → (b || false) ≡ b
or_false true = refl
or_false false = refl

or_assoc : (a b d : Bool) → ((a || b) || d) ≡ (a || (b || d))
or_assoc true b d = refl
or_assoc false b d = refl

module _ (h : History) where
  abbrev pub any_suggesting : List Term → Bool
  any_suggesting [] = false
  any_suggesting (t ∷ ts) = has_suggesting h t || any_suggesting ts

  inner_applied : (t : Term) (us : List Term) → list_any (suggests_induction h) (inner_terms (applied t us)) ≡ (list_any (suggests_induction h) (inner_terms t) || any_suggesting us)
  unfolding has_suggesting
  inner_applied t [] = sym (or_false (list_any (suggests_induction h) (inner_terms t)))
  inner_applied t (u ∷ us) =
      inner_applied (Applied t u) us
      ∙ (ap (λ b. b || any_suggesting us) (any_joined (suggests_induction h) (inner_terms t) (parts_in u))
      ∙ or_assoc (list_any (suggests_induction h) (inner_terms t)) (list_any (suggests_induction h) (parts_in u)) (any_suggesting us))

  pub suggesting_variable : (x : Name) → has_suggesting h (Variable x) ≡ false
  unfolding has_suggesting
  suggesting_variable x = refl

  -- a call
  suggesting_call : (t : Term) (f : Name) (us : List Term) → t ≡ call f us → has_suggesting h t ≡ (suggests_induction h t || any_suggesting us)
  unfolding has_suggesting
  suggesting_call t f us e = ap (λ b. suggests_induction h t || b) (ap (λ z. list_any (suggests_induction h) (inner_terms z)) e ∙ inner_applied (Function f) us)

  any_push : (ts : List Term) (t : Term) → any_suggesting (ts ++ (t ∷ [])) ≡ (any_suggesting ts || has_suggesting h t)
  any_push [] t = or_false (has_suggesting h t)
  any_push (u ∷ ts) t = ap (λ b. has_suggesting h u || b) (any_push ts t) ∙ sym (or_assoc (has_suggesting h u) (any_suggesting ts) (has_suggesting h t))

  -- a call before its arguments
  pub suggesting_start : (t : Term) (f : Name) (us : List Term) (answer : Bool) → t ≡ call f (parts_of t) → number_of t ≡ None → us ≡ parts_of t → answer ≡ suggests_of (definition_if h (Some f)) us →
      answer ≡ (suggests_induction h t || false)
  suggesting_start t f us answer is none parts told =
      told
      ∙ (ap₂ (λ o ts. suggests_of (definition_if h o) ts) (sym (ap head_of is ∙ head_call f (parts_of t))) (parts ∙ sym (arguments_call t none)) ∙ sym (or_false (suggests_induction h t)))

  -- one more argument
  pub suggesting_more : (ts : List Term) (ids : List TermId) (i : ℕ) (d : TermId) (own before here : Bool) → i < length ids → before ≡ (own || any_suggesting (terms_from ts (take i ids))) →
      here ≡ has_suggesting h (term_from ts (get_or ids i d)) → (before || here) ≡ (own || any_suggesting (terms_from ts (take (i + 1) ids)))
  suggesting_more ts ids i d own before here below was is =
      ap₂ (λ a b. a || b) was is
      ∙ (or_assoc own (any_suggesting (terms_from ts (take i ids))) (has_suggesting h (term_from ts (get_or ids i d)))
      ∙ ap (λ b. own || b) (sym (ap any_suggesting (terms_from-take ts ids i d below) ∙ any_push (terms_from ts (take i ids)) (term_from ts (get_or ids i d)))))

  -- all arguments
  pub suggesting_all : (bank : Content) (t : Term) (f : Name) (ids : List TermId) (i : ℕ) (answer : Bool) → t ≡ call f (parts_of t) → terms_at bank ids ≡ parts_of t → length ids ≤ i →
      answer ≡ (suggests_induction h t || any_suggesting (terms_at bank (take i ids))) → answer ≡ has_suggesting h t
  suggesting_all bank t f ids i answer is tells all so_far =
      so_far
      ∙ (ap (λ xs. suggests_induction h t || any_suggesting (terms_at bank xs)) (take_all i ids all)
      ∙ (ap (λ us. suggests_induction h t || any_suggesting us) tells ∙ sym (suggesting_call t f (parts_of t) is)))

  -- an answer that is kept is right
  pub suggestions_kept : (bank : Content) (old new : Answers) (t : TermId) (answer : Bool) → HasSuggestions bank h old → Updates nat_eq old new t.0 (Some answer) →
      answer ≡ has_suggesting h (term_at bank t) → HasSuggestions bank h new
  suggestions_kept bank old new t answer a updates is =
      record {
        right = λ q b found.
            elim (kept_or_stood old new t.0 q.0 answer b updates found) [
              | inl here ↦ sym here.1 ∙ is ∙ ap (λ k. has_suggesting h (term_at bank (record { 0 = k }))) here.0
              | inr there ↦ a.right q b there
            ];
      }

  module _ (bank : Content) where
    abbrev any_in : List TermId → Bool
    any_in ids = list_any (suggests_induction h) (parts_in_all (terms_at bank ids))

    first_literal : (ids : List TermId) (d : TermId) → 1 ≤ length ids → any_in ids ≡ (has_suggesting h (term_at bank (get_or ids 0 d)) || any_in (take (length ids - 1) (drop 1 ids)))
    unfolding has_suggesting
    first_literal [] d l = absurd (omega (arith, l))
    first_literal (i ∷ ids) d l =
        any_joined (suggests_induction h) (parts_in (term_at bank i)) (parts_in_all (terms_at bank ids))
        ∙ ap (λ xs. list_any (suggests_induction h) (parts_in (term_at bank i)) || any_in xs) (sym (take_all (length (i ∷ ids) - 1) ids (omega arith)))

    pub suggesting_first : (ids : List TermId) (d : TermId) (here : Bool) → 1 ≤ length ids → here ≡ has_suggesting h (term_at bank (get_or ids 0 d)) → here ≡ true → true ≡ any_in ids
    suggesting_first ids d here l e t = sym (first_literal ids d l ∙ ap (λ b. b || any_in (take (length ids - 1) (drop 1 ids))) (sym (sym t ∙ e)))

    pub suggesting_later : (ids : List TermId) (d : TermId) (here : Bool) → 1 ≤ length ids → here ≡ has_suggesting h (term_at bank (get_or ids 0 d)) → here ≡ false →
        any_in ids ≡ any_in (take (length ids - 1) (drop 1 ids))
    suggesting_later ids d here l e t = first_literal ids d l ∙ ap (λ b. b || any_in (take (length ids - 1) (drop 1 ids))) (sym (sym t ∙ e))

  among_told : (ts : List Term) → list_any (suggests_induction h) ts ≡ not (is_without (suggesting_among h ts))
  among_told [] = refl
  among_told (t ∷ ts) = of_bool (suggests_induction h t) (among_told ts)
    where
      of_bool : (b : Bool) → list_any (suggests_induction h) ts ≡ not (is_without (suggesting_among h ts)) →
          (b || list_any (suggests_induction h) ts) ≡ not (is_without (if b then t ∷ suggesting_among h ts else suggesting_among h ts))
      of_bool true e = refl
      of_bool false e = e

  pub suggesting_told : (answer : Bool) (goal : List Term) → answer ≡ list_any (suggests_induction h) (parts_in_all goal) → IsTrue answer ↔ (suggesting_in h goal ≡ [] → ⊥)
  suggesting_told answer goal e = of_bools answer (suggesting_in h goal) (e ∙ among_told (parts_in_all goal))
    where
      of_bools : (b : Bool) (ts : List Term) → b ≡ not (is_without ts) → IsTrue b ↔ (ts ≡ [] → ⊥)
      of_bools b [] e = ((λ t. absurd (cc)), (λ n. absurd (n refl)))
      of_bools b (t ∷ ts) e = ((λ u f. cc), (λ n. e))
