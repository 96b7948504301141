-- The lines of rows of the tables of axioms, and of their instances.
use Rattle.std.proofs.Common.{◌≡◌, ◌≤◌, ℕ, Option, Some, None, List, [], ◌∷◌, map, refl, sym, ap, ◌∙◌, subst, lit≤}
use Rattle.std.specs.Prelude.{codes, All, IfOk, OnErr, Result, Ok, Err, Vec, IsSome}
use Rattle.std.specs.declared.alloc.Global.{Global}
use Rattle.nq_logic.specs.Terms.{Substitution, substituted}
use Rattle.nq_logic.specs.Words.{false_term, not_term}
use Rattle.nq_logic.specs.Numerals.{number_of}
use Rattle.nq_logic.specs.Sizes.{depth_of, depth_limit, tree_depth}
use Rattle.nq_bank.specs.declared.node.Sym.{Sym}
use Rattle.nq_bank.specs.Content.{Content, Grows, Names, text_at}
use Rattle.nq_bank.proofs.Growth.{Grows-refl}
use Rattle.nq_clause.specs.declared.substitution.Pair.{Pair}
use Rattle.nq_clause.specs.Substitution.{substitution_at, PairStands}
use Rattle.nq_clause.proofs.SubstitutionLemmas.{substitution_at-grown, pairs_grown}
use Rattle.nq_proof.specs.Clauses.{Clause, distinct}
use Rattle.nq_proof.specs.Rules.{given, when, is_substitution}
use Rattle.nq_proof.specs.Rules as tree
use Rattle.nq_history.specs.declared.entry.Entry.{Entry}
use Rattle.nq_history.specs.Events.{events_at, HistoryStands}
use Rattle.nq_history.proofs.HistoryLemmas.{events_at-grown}
use Rattle.nq_kernel.specs.declared.work.Work.{Work}
use Rattle.nq_kernel.specs.declared.rule.Rule.TheVariants.{AxiomRow, Instance}
use Rattle.nq_kernel.specs.Meaning.{conclusion_at, clause_at}
use Rattle.nq_kernel.specs.Over.{RuleIsIn}
use Rattle.nq_eval.specs.Lines.{IsShallow}
use Rattle.nq_eval.specs.Rows.{row_at, row_instance, ArePairsIn}
use Rattle.nq_eval.proofs.LineLemmas.{each_shallow}

pub names_grow : {E : Type 0} (old new : Content) (r : Result Sym E) (text : List ℕ) → IfOk r (λ s. Names old new s text) → OnErr r (new ≡ old) → Grows old new
names_grow old new (Ok s) text h k = h.grows
names_grow old new (Err e) text h k = subst (Grows old) (sym k) (Grows-refl old)

module _ (history : List Entry) (work : Work) where
  pub row_given : (name : Sym) (row : ℕ) → conclusion_at work.bank history work.log (AxiomRow name row 0) ≡ row_at work.bank history name row
  unfolding conclusion_at
  row_given name row = refl

  pub falsity_given : (name : Sym) → text_at work.bank name ≡ codes "FALSE" → conclusion_at work.bank history work.log (AxiomRow name 1 0) ≡ Some (not_term false_term ∷ [])
  unfolding conclusion_at
  falsity_given name e = ap (λ x. tree.conclusion (events_at work.bank history) (clause_at work.bank work.log) (tree.AxiomRow x 1 0)) e

  falsity_shallow : depth_of (not_term false_term) ≤ depth_limit
  unfolding number_of tree_depth
  falsity_shallow = lit≤ tt

  pub falsity_row_shallow : (name : Sym) → text_at work.bank name ≡ codes "FALSE" → IsShallow (conclusion_at work.bank history work.log (AxiomRow name 1 0))
  falsity_row_shallow name e = each_shallow (conclusion_at work.bank history work.log (AxiomRow name 1 0)) (not_term false_term ∷ []) (falsity_given name e) (falsity_shallow, tt)

-- the instance of a row whose line was added
module _ (history : List Entry) (bank : Content) (new : Work) (name : Sym) (row line : ℕ) (pairs : Vec Pair Global) (grows : Grows bank new.bank) (stands : HistoryStands bank history) (are : ArePairsIn bank history pairs.items) (holds : clause_at new.bank new.log line ≡ row_at bank history name row) where
  same_pairs : substitution_at new.bank pairs.items ≡ substitution_at bank pairs.items
  same_pairs = substitution_at-grown bank new.bank pairs.items grows are.stand

  same_events : events_at new.bank history ≡ events_at bank history
  same_events = events_at-grown bank new.bank grows history stands.entries

  pub instance_given : conclusion_at new.bank history new.log (Instance line pairs) ≡ row_instance bank history name row (substitution_at bank pairs.items)
  unfolding conclusion_at
  instance_given =
      let s : Substitution = substitution_at bank pairs.items in
      ap (λ s. given (clause_at new.bank new.log line) (λ c. when (is_substitution s) (distinct (map (substituted s) c)))) same_pairs ∙
      ap (λ o. given o (λ c. when (is_substitution s) (distinct (map (substituted s) c)))) holds ∙
      ap (λ b. given (row_at bank history name row) (λ c. when b (distinct (map (substituted s) c)))) are.distinct

  pub instance_stands : All (PairStands new.bank) pairs.items
  instance_stands = pairs_grown bank new.bank pairs.items grows are.stand

  pub instance_in : RuleIsIn new.bank history (Instance line pairs)
  instance_in =
      let e = same_pairs in
      let h = same_events in
      record { terms = rw (e, h) are.terms; names = rw e are.names }

row_some : (o : Option Clause) (s : Substitution) → IsSome o → IsSome (given o (λ c. Some (distinct (map (substituted s) c))))
row_some (Some c) s h = refl
row_some None s h = absurd cc

pub instance_there : (bank : Content) (history : List Entry) (name : Sym) (row : ℕ) (s : Substitution) → IsSome (row_at bank history name row) → IsSome (row_instance bank history name row s)
instance_there bank history name row s h = row_some (row_at bank history name row) s h
