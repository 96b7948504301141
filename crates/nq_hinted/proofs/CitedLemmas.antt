-- What an axiom, a lemma or a definition says, as the conclusion of a rule.
use Rattle.std.proofs.Common.{◌≡◌, ◌∙◌, Bool, true, false, ℕ, Option, Some, None, List, [], ◌∷◌, ◌++◌, refl, sym, ap, subst}
use Rattle.std.specs.Prelude.{IsSome, bytes_eq, if◌then◌else◌}
use Rattle.std.specs.Option.{option_and_then}
use Rattle.nq_logic.specs.Terms.{Name, Term, substituted}
use Rattle.nq_logic.specs.Ground.{ground_shells, all_events}
use Rattle.nq_logic.specs.Histories.{History, Definition, Event, AddShell, Declaration, Defines, Axiom, Lemma, Toggle, events_shells}
use Rattle.nq_logic.specs.Names.{event_in, looked_up}
use Rattle.nq_proof.specs.Rules.{event_term, term_if}
use Rattle.nq_proof.specs.Rows.{axiom_clause, shell_found}
use Rattle.nq_eval.proofs.DefinedLemmas.{definition_row}
use Rattle.nq_events.specs.Events.{Instance}
use Rattle.nq_events.specs.HintRefusals.{cited_term, defining_equation, instance_term, term_named}
use Rattle.nq_kernel.specs.declared.work.Work.{Work}
use Rattle.nq_kernel.specs.Growing.{LineHolds, LineStands}
use Rattle.nq_lines.specs.Lines.{LineHasOnly}
use Rattle.nq_lines.proofs.LineLemmas.{only_stands}
use Rattle.nq_hinted.specs.Cited.{is_defining, is_definition}

-- the term of an axiom or a lemma
abbrev pub formula_of : Event → Option Term
formula_of (AddShell s) = None
formula_of (Declaration f n) = None
formula_of (Defines d) = None
formula_of (Axiom n classes t) = Some t
formula_of (Lemma n classes t) = Some t
formula_of (Toggle n old disabled) = None

one : {X : Type 0} (x y : X) → Some x ≡ Some y → x ≡ y
one x y e = cc

none : {X : Type 0} (x : X) → None ≡ Some x → ⊥
none x e = cc

-- an axiom or a lemma that is looked up has its name's term
module _ (f : Name) (e : Event) (t : Term) (formula : formula_of e ≡ Some t) where
  passed : (b : Bool) (x : Event) (es : List Event) → formula_of x ≡ None → (if b then Some x else event_in f es) ≡ Some e → (event_in f es ≡ Some e → event_term f es ≡ Some t) → event_term f es ≡ Some t
  passed true x es other is rest = absurd (none t (sym other ∙ ap formula_of (one x e is) ∙ formula))
  passed false x es other is rest = rest is

  taken : (b : Bool) (x : Event) (u : Term) (es : List Event) → formula_of x ≡ Some u → (if b then Some x else event_in f es) ≡ Some e → (event_in f es ≡ Some e → event_term f es ≡ Some t) → term_if b u (event_term f es) ≡ Some t
  taken true x u es own is rest = sym own ∙ ap formula_of (one x e is) ∙ formula
  taken false x u es own is rest = rest is

  formula_in : (es : List Event) → event_in f es ≡ Some e → event_term f es ≡ Some t
  formula_in [] is = absurd (none e is)
  formula_in (AddShell s ∷ es) is = passed (bytes_eq f s.constructor) (AddShell s) es refl is (formula_in es)
  formula_in (Declaration g n ∷ es) is = passed (bytes_eq f g) (Declaration g n) es refl is (formula_in es)
  formula_in (Defines d ∷ es) is = passed (bytes_eq f d.function) (Defines d) es refl is (formula_in es)
  formula_in (Axiom n classes u ∷ es) is = taken (bytes_eq f n) (Axiom n classes u) u es refl is (formula_in es)
  formula_in (Lemma n classes u ∷ es) is = taken (bytes_eq f n) (Lemma n classes u) u es refl is (formula_in es)
  formula_in (Toggle n old disabled ∷ es) is = passed (bytes_eq f n) (Toggle n old disabled) es refl is (formula_in es)

-- the ground history has no axioms and lemmas of its own
past_ground : (f : Name) (h : History) → event_term f (all_events h) ≡ event_term f h
past_ground f h = refl

cited_formula : (e : Event) (t : Term) → is_defining e ≡ false → cited_term e ≡ Some t → formula_of e ≡ Some t
cited_formula (AddShell s) t other is = is
cited_formula (Declaration f n) t other is = is
cited_formula (Defines d) t other is = absurd cc
cited_formula (Axiom n classes u) t other is = is
cited_formula (Lemma n classes u) t other is = is
cited_formula (Toggle n old disabled) t other is = is

module _ (h : History) (f : Name) where
  -- what an axiom or a lemma says is the term of its name
  pub term_of_event : (t : Term) → is_definition (looked_up f h) ≡ false → term_named h f ≡ Some t → event_term f h ≡ Some t
  term_of_event t other is = by_event (looked_up f h) refl other is
    where
      by_event : (o : Option Event) → looked_up f h ≡ o → is_definition o ≡ false → option_and_then cited_term o ≡ Some t → event_term f h ≡ Some t
      by_event None e other is = absurd (none t is)
      by_event (Some x) e other is = sym (past_ground f h) ∙ formula_in f x t (cited_formula x t other is) (all_events h) e

  pub has_event : is_definition (looked_up f h) ≡ false → IsSome (term_named h f) → IsSome (event_term f h)
  has_event other some = by_term (term_named h f) refl some
    where
      by_term : (o : Option Term) → term_named h f ≡ o → IsSome o → IsSome (event_term f h)
      by_term None e k = absurd cc
      by_term (Some t) e k = subst IsSome (sym (term_of_event t other e)) refl

  -- what a definition says is the row of its name
  pub row_of_definition : (t : Term) → is_definition (looked_up f h) ≡ true → term_named h f ≡ Some t → axiom_clause h f 1 0 ≡ Some (t ∷ [])
  row_of_definition t defines is = by_event (looked_up f h) refl defines is
    where
      of_definition : (d : Definition) → looked_up f h ≡ Some (Defines d) → defining_equation d ≡ t → axiom_clause h f 1 0 ≡ Some (t ∷ [])
      of_definition d e same = definition_row f d h e (shell_found f 1 0 [] (ground_shells ++ events_shells h)) ∙ ap (λ (u : Term). Some (u ∷ [])) same

      by_event : (o : Option Event) → looked_up f h ≡ o → is_definition o ≡ true → option_and_then cited_term o ≡ Some t → axiom_clause h f 1 0 ≡ Some (t ∷ [])
      by_event None e defines is = absurd (none t is)
      by_event (Some (Defines d)) e defines is = of_definition d e (one (defining_equation d) t is)
      by_event (Some (AddShell s)) e defines is = absurd cc
      by_event (Some (Declaration g n)) e defines is = absurd cc
      by_event (Some (Axiom n classes u)) e defines is = absurd cc
      by_event (Some (Lemma n classes u)) e defines is = absurd cc
      by_event (Some (Toggle n old disabled)) e defines is = absurd cc

  pub has_row : is_definition (looked_up f h) ≡ true → IsSome (term_named h f) → IsSome (axiom_clause h f 1 0)
  has_row defines some = by_term (term_named h f) refl some
    where
      by_term : (o : Option Term) → term_named h f ≡ o → IsSome o → IsSome (axiom_clause h f 1 0)
      by_term None e k = absurd cc
      by_term (Some t) e k = subst IsSome (sym (row_of_definition t defines e)) refl

-- a line that holds a term alone has only the term
pub holds_one : (work : Work) (n : ℕ) (t : Term) → LineHolds work n (t ∷ []) → LineHasOnly work n (t ∷ [])
holds_one work n t h = record { literals = t ∷ []; stands = h; only = λ u m. m }

-- ---- instances

pub named_of_instance : (h : History) (i : Instance) → IsSome (instance_term h i) → IsSome (term_named h i.name)
named_of_instance h i some = by_term (term_named h i.name) some
  where
    by_term : (o : Option Term) → IsSome (option_and_then (λ (t : Term). Some (substituted i.pairs t)) o) → IsSome o
    by_term None k = k
    by_term (Some t) k = refl

-- the term of the event, of which the instance is one
pub record InstanceOf (h : History) (i : Instance) (t : Term) : Type 0 where
  pub pattern : Term
  pub named : term_named h i.name ≡ Some pattern
  pub gives : substituted i.pairs pattern ≡ t

pub instance_of : (h : History) (i : Instance) (t : Term) → instance_term h i ≡ Some t → InstanceOf h i t
instance_of h i t is = by_term (term_named h i.name) refl is
  where
    by_term : (o : Option Term) → term_named h i.name ≡ o → option_and_then (λ (t : Term). Some (substituted i.pairs t)) o ≡ Some t → InstanceOf h i t
    by_term None e k = absurd (none t k)
    by_term (Some u) e k = record { pattern = u; named = e; gives = one (substituted i.pairs u) t k }

-- a line of what is stated stands
pub stated_stands : (h : History) (f : Name) (work : Work) (n : ℕ) → IsSome (term_named h f) → ((t : Term) → term_named h f ≡ Some t → LineHasOnly work n (t ∷ [])) → LineStands work n
stated_stands h f work n some line = by_term (term_named h f) refl some
  where
    by_term : (o : Option Term) → term_named h f ≡ o → IsSome o → LineStands work n
    by_term None e k = absurd cc
    by_term (Some t) e k = only_stands work n (t ∷ []) (line t e)

pub instance_stands : (h : History) (i : Instance) (work : Work) (n : ℕ) (t : Term) → instance_term h i ≡ Some t → ((t : Term) → instance_term h i ≡ Some t → LineHasOnly work n (t ∷ [])) → LineStands work n
instance_stands h i work n t is line = only_stands work n (t ∷ []) (line t is)
