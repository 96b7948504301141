-- Instances of defining equations, and terms that pass the limits.
use Rattle.std.proofs.Common.{◌≡◌, ◌<◌, Bool, true, false, ◌||◌, List, [], ◌∷◌, map, refl, sym, ap, ◌∙◌, subst, arith, codes}
use Rattle.std.specs.Prelude.{nat_lt, All}
use Rattle.std.proofs.lemmas.Bool.{lt-ltb}
use Rattle.nq_logic.specs.Terms.{Term, Variable, Function, Applied, Substitution, call, substituted, value_at}
use Rattle.nq_logic.specs.Histories.{Definition}
use Rattle.nq_logic.specs.Sizes.{depth_of, depth_limit}
use Rattle.nq_language.specs.Limits.{is_large, is_too_large}
use Rattle.nq_bank.proofs.DeepLemmas.{deep_argument}
use Rattle.nq_clause.proofs.SubstitutionLemmas.{substituted-call}
use Rattle.nq_events.specs.HintRefusals.{defining_equation}
use Rattle.nq_bank.specs.declared.node.Sym.{Sym}
use Rattle.nq_bank.specs.declared.node.TermId.{TermId}
use Rattle.nq_bank.specs.Content.{Content, Grows, text_at, term_at, terms_at}
use Rattle.nq_bank.specs.Shells.{texts_at}
use Rattle.nq_bank.specs.Soundness.{IsSound}
use Rattle.nq_bank.proofs.Growth.{text_at-grown, term_at-grown}
use Rattle.nq_bank.proofs.SoundLemmas.{IsNamed-ground, text_at-ground}
use Rattle.nq_event.specs.declared.definitions.Definition.{Definition as KeptDefinition}
use Rattle.nq_clause.specs.declared.substitution.Pair.{Pair}
use Rattle.nq_event.specs.Definitions.{definition_at, DefinitionStands}
use Rattle.nq_clause.specs.Substitution.{PairStands}
use Rattle.nq_event.specs.EventsAt.{pair_at}
use Rattle.nq_event.proofs.GrownLemmas.{map_map, map_grown, pairs_stay}

-- a term that is too deep for a bank is too large
or_true : (b c : Bool) → c ≡ true → (b || c) ≡ true
or_true true c h = refl
or_true false c h = h

pub deep_is_large : (t : Term) → depth_limit < depth_of t → is_too_large t ≡ true
deep_is_large t deep = or_true (is_large t) (nat_lt 2000 (depth_of t)) (lt-ltb 2000 (depth_of t) (omega (arith, deep)))

module _ (s : Substitution) (d : Definition) where
  abbrev called : Term
  called = call d.function (map (value_at s) d.formals)

  pub equation_is : substituted s (defining_equation d) ≡ call (codes "EQUAL") (called ∷ substituted s d.body ∷ [])
  equation_is =
      let whole : Term → Term = λ a. Applied (Applied (Function (codes "EQUAL")) a) (substituted s d.body) in
      ap whole (substituted-call s d.function (map Variable d.formals) ∙ ap (call d.function) (map_map (substituted s) Variable d.formals))

  pub deep_call : depth_limit < depth_of called → depth_limit < depth_of (substituted s (defining_equation d))
  deep_call deep = subst (λ (t : Term). depth_limit < depth_of t) (sym equation_is) (deep_argument (codes "EQUAL") (called ∷ substituted s d.body ∷ []) 0 called (omega arith) deep)

  pub deep_body : depth_limit < depth_of (substituted s d.body) → depth_limit < depth_of (substituted s (defining_equation d))
  deep_body deep = subst (λ (t : Term). depth_limit < depth_of t) (sym equation_is) (deep_argument (codes "EQUAL") (called ∷ substituted s d.body ∷ []) 1 called (omega arith) deep)

-- an instance of a kept definition, in a bank that grew
module _ (start now : Content) (grows : Grows start now) (pairs : List Pair) (all : All (PairStands start) pairs) (d : KeptDefinition) (stands : DefinitionStands start d) where
  abbrev by : Substitution
  by = map (pair_at start) pairs

  pub call_same : (ids values : List TermId) → ids ≡ values → terms_at now values ≡ map (value_at by) (texts_at start d.formals.now) → call (text_at now d.name) (terms_at now ids) ≡ called by (definition_at start d)
  call_same ids values is are = ap (λ x. call x (terms_at now ids)) (text_at-grown start now d.name grows stands.name) ∙ ap (call (text_at start d.name)) (ap (terms_at now) is ∙ are)

  pub body_same : substituted (map (pair_at now) pairs) (term_at now d.body) ≡ substituted by (term_at start d.body)
  body_same = ap (λ z. substituted z (term_at now d.body)) (map_grown PairStands pair_at pairs_stay start now grows pairs all) ∙ ap (substituted by) (term_at-grown start now d.body grows stands.body)

  pub equation_made : (known : Sym) (f b : TermId) → IsSound start → known ≡ (record { 0 = 4 }) → term_at now f ≡ called by (definition_at start d) → term_at now b ≡ substituted by (term_at start d.body)
      → call (text_at now known) (terms_at now (f ∷ b ∷ [])) ≡ substituted by (defining_equation (definition_at start d))
  equation_made known f b sound is first second =
      let equal : Sym = record { 0 = 4 } in
      let name = ap (text_at now) is ∙ text_at-grown start now equal grows (IsNamed-ground start equal sound (omega arith)) ∙ text_at-ground start equal sound (omega arith) in
      ap (λ x. call x (term_at now f ∷ term_at now b ∷ [])) name ∙ ap (λ t. call (codes "EQUAL") (t ∷ term_at now b ∷ [])) first ∙ ap (λ t. call (codes "EQUAL") (called by (definition_at start d) ∷ t ∷ [])) second ∙
      sym (equation_is by (definition_at start d))
