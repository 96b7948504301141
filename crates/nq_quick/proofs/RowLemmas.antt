-- The clauses of axioms.
use Rattle.std.proofs.Common.{◌≡◌, ◌≤◌, ℕ, Option, Some, List, [], ◌∷◌, refl, ap, ◌∙◌, lit≤}
use Rattle.std.specs.Prelude.{codes}
use Rattle.nq_logic.specs.Terms.{Each}
use Rattle.nq_logic.specs.Numerals.{number_of}
use Rattle.nq_logic.specs.Sizes.{tree_depth, depth_of, depth_limit}
use Rattle.nq_logic.specs.Words.{true_term, false_term, not_term}
use Rattle.nq_proof.specs.Clauses.{Clause}
use Rattle.nq_proof.specs.Rows.{opening}
use Rattle.nq_proof.specs.Rules as tree
use Rattle.nq_bank.specs.declared.node.Sym.{Sym}
use Rattle.nq_bank.specs.Content.{text_at}
use Rattle.nq_history.specs.declared.entry.Entry.{Entry}
use Rattle.nq_history.specs.Events.{events_at}
use Rattle.nq_kernel.specs.declared.work.Work.{Work}
use Rattle.nq_kernel.specs.declared.rule.Rule.TheVariants.{AxiomRow}
use Rattle.nq_kernel.specs.Meaning.{conclusion_at, clause_at}
use Rattle.nq_fragments.specs.declared.connective.Connective.{Connective}
use Rattle.nq_fragments.specs.declared.connective.Connective.TheVariants.{And, Or, Implies, Iff}
use Rattle.nq_quick.specs.Lines.{IsShallow, definition_of}
use Rattle.nq_quick.proofs.DepthLemmas.{each_shallow, truth_shallow, falsity_shallow}

openings_shallow : (c : Connective) → Each (λ u. depth_of u ≤ depth_limit) (opening (definition_of c))
unfolding number_of tree_depth
openings_shallow And = (lit≤ tt, tt)
openings_shallow Or = (lit≤ tt, tt)
openings_shallow Implies = (lit≤ tt, tt)
openings_shallow Iff = (lit≤ tt, tt)

module _ (history : List Entry) (work : Work) where
  abbrev row_clause : List ℕ → Option Clause
  row_clause x = tree.conclusion (events_at work.bank history) (clause_at work.bank work.log) (tree.AxiomRow x 1 0)

  pub truth_given : (name : Sym) → text_at work.bank name ≡ codes "TRUE" → conclusion_at work.bank history work.log (AxiomRow name 1 0) ≡ Some (true_term ∷ [])
  unfolding conclusion_at
  truth_given name e = ap row_clause e

  pub truth_row_shallow : (name : Sym) → text_at work.bank name ≡ codes "TRUE" → IsShallow (conclusion_at work.bank history work.log (AxiomRow name 1 0))
  truth_row_shallow name e = each_shallow (conclusion_at work.bank history work.log (AxiomRow name 1 0)) (true_term ∷ []) (truth_given name e) (truth_shallow, tt)

  pub falsity_given : (name : Sym) → text_at work.bank name ≡ codes "FALSE" → conclusion_at work.bank history work.log (AxiomRow name 1 0) ≡ Some (not_term false_term ∷ [])
  unfolding conclusion_at
  falsity_given name e = ap row_clause e

  pub falsity_row_shallow : (name : Sym) → text_at work.bank name ≡ codes "FALSE" → IsShallow (conclusion_at work.bank history work.log (AxiomRow name 1 0))
  falsity_row_shallow name e = each_shallow (conclusion_at work.bank history work.log (AxiomRow name 1 0)) (not_term false_term ∷ []) (falsity_given name e) (falsity_shallow, tt)

  opening_found : (c : Connective) → row_clause (definition_of c).function ≡ Some (opening (definition_of c))
  opening_found And = refl
  opening_found Or = refl
  opening_found Implies = refl
  opening_found Iff = refl

  pub opening_given : (c : Connective) (name : Sym) → text_at work.bank name ≡ (definition_of c).function → conclusion_at work.bank history work.log (AxiomRow name 1 0) ≡ Some (opening (definition_of c))
  unfolding conclusion_at
  opening_given c name e = ap row_clause e ∙ opening_found c

  pub opening_shallow : (c : Connective) (name : Sym) → text_at work.bank name ≡ (definition_of c).function → IsShallow (conclusion_at work.bank history work.log (AxiomRow name 1 0))
  opening_shallow c name e = each_shallow (conclusion_at work.bank history work.log (AxiomRow name 1 0)) (opening (definition_of c)) (opening_given c name e) (openings_shallow c)
