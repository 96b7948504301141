-- What is kept of an elimination.
use Rattle.std.specs.Prelude.{◌≡◌, List, ◌∷◌, ◌++◌, length, map, All, Vec}
use Rattle.std.specs.declared.alloc.Global.{Global}
use Rattle.nq_bank.specs.declared.node.TermId.{TermId}
use Rattle.nq_logic.specs.Words.{equal_term, not_term}
use Rattle.nq_bank.specs.Content.{term_at, terms_at}
use Rattle.nq_clause.specs.Substitution.{substitution_at}
use Rattle.nq_proof.specs.Rules.{pair_terms}
use Rattle.nq_history.specs.declared.entry.Entry.{Entry}
use Rattle.nq_kernel.specs.declared.work.Work.{Work}
use Rattle.nq_kernel.specs.Over.{pair_names}
use Rattle.nq_lines.specs.Lines.{IsTermIn}
use Rattle.nq_goals.specs.NewVariables.{clause_variables, new_variables}
use Rattle.nq_moves.specs.Naming.{IsRenaming}
use Rattle.nq_moves.specs.declared.moved.Eliminated.{Eliminated}
use Rattle.nq_moves.specs.declared.naming.Renaming.{Renaming}
use Rattle.nq_eliminate.specs.declared.instances.Instance.{Instance}
use Rattle.nq_eliminate.specs.declared.making.Prepared.{Prepared}

-- of an instance of a rule, its equation, and the renamed terms
abbrev pub kept_of : Instance → TermId → Renaming → TermId → TermId → Vec TermId Global → Eliminated
kept_of r equation renaming made_of denial renamed =
    record {
      name = r.name;
      variable = r.variable;
      equation = equation;
      hypotheses = r.hypotheses;
      line = r.line;
      pairs = renaming.pairs;
      made_of = made_of;
      denial = denial;
      renamed = renamed;
    }

-- the renamed terms are the whole, the NOT of the equation, and the other literals
pub record IsKept (r : Instance) (equation : TermId) (renaming : Renaming) (d : Eliminated) : Type 0 where
  pub is : d ≡ kept_of r equation renaming d.made_of d.denial d.renamed
  pub renamed : renaming.literals.items ≡ d.made_of ∷ d.denial ∷ d.renamed.items

-- the equation, and the whole, the equation's NOT, the goal's literals and the hypotheses' NOTs
pub record IsPrepared (history : List Entry) (work : Work) (goal : List TermId) (r : Instance) (p : Prepared) : Type 0 where
  pub equation : IsTermIn history work p.equation
  pub equation_is : term_at work.bank p.equation ≡ equal_term (term_at work.bank r.whole) (term_at work.bank r.variable)
  pub literals : All (IsTermIn history work) p.literals.items
  pub all : terms_at work.bank p.literals.items ≡ term_at work.bank r.whole ∷ not_term (term_at work.bank p.equation) ∷ (terms_at work.bank goal ++ map not_term (terms_at work.bank r.hypotheses.items))

-- what was kept is of a renaming of the calls, with the first variables that the known terms do not have
pub record IsRenamedBy (history : List Entry) (old new : Work) (known : List TermId) (r : Instance) (p : Prepared) (d : Eliminated) : Type 0 where
  pub renaming : Renaming
  pub kept : IsKept r p.equation renaming d
  pub is : IsRenaming history new p.literals.items renaming
  pub names : pair_names (substitution_at new.bank renaming.pairs.items) ≡ new_variables (clause_variables (terms_at old.bank known)) (length r.calls.items)
  pub terms : pair_terms (substitution_at new.bank renaming.pairs.items) ≡ terms_at old.bank r.calls.items
