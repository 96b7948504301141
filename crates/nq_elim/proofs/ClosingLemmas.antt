-- Lines of goals, from those of the goals to which eliminations led.
use Rattle.std.proofs.Common.{◌≡◌, ◌<◌, ◌≤◌, ◌-◌, take, ℕ, zero, suc, List, [], ◌∷◌, ◌++◌, length, map, get_or, drop, refl, sym, ap, ap₂, ◌∙◌, subst, inl, inr, arith}
use Rattle.std.specs.Prelude.{All, Vec}
use Rattle.std.proofs.lemmas.List.{take_all}
use Rattle.std.specs.declared.alloc.Global.{Global}
use Rattle.nq_logic.specs.Terms.{Term, IsAmong}
use Rattle.nq_logic.specs.Words.{not_term}
use Rattle.nq_bank.specs.declared.node.TermId.{TermId}
use Rattle.nq_bank.specs.Content.{Content, term_at, terms_at}
use Rattle.nq_clause.specs.declared.substitution.Pair.{Pair}
use Rattle.nq_clause.specs.Substitution.{substitution_at}
use Rattle.nq_clause.proofs.SubstitutionLemmas.{substitution_at-grown}
use Rattle.nq_proof.specs.Clauses.{Clause}
use Rattle.nq_proof.specs.Rules.{pair_terms}
use Rattle.nq_history.specs.declared.entry.Entry.{Entry}
use Rattle.nq_kernel.specs.declared.work.Work.{Work}
use Rattle.nq_kernel.specs.Growing.{WorkStands, WorkGrows}
use Rattle.nq_kernel.specs.Over.{pair_names}
use Rattle.nq_lines.specs.Lines.{AreAmong, IsTermIn, LineHasOnly}
use Rattle.nq_lines.proofs.LineLemmas.{only_more, only_grown}
use Rattle.nq_moves.specs.declared.naming.Renaming.{Renaming}
use Rattle.nq_moves.specs.Dropped.{HoldChildren}
use Rattle.nq_moves.specs.Found.{goals_at}
use Rattle.nq_moves.specs.Renamed.{ComesBack}
use Rattle.nq_moves.proofs.NamingLemmas.{terms_for_own}
use Rattle.nq_elim.specs.declared.cases.Case.{Case}
use Rattle.nq_elim.specs.declared.making.Elimination.{Elimination}
use Rattle.nq_elim.specs.Cases.{CaseStands, CaseCloses, literals_at, next_ids, case_goals}
use Rattle.nq_elim.specs.Eliminations.{IsRenamedClause, IsEliminationWay, ids_of}
use Rattle.nq_elim.proofs.GoalLemmas.{goals_ids, case_goals_ids}

-- the literals come back
pub clause_back : (history : List Entry) (old mid new : Work) (c : Clause) (r : Renaming) (line n : ℕ) → WorkGrows history old mid → IsRenamedClause history old c r → ComesBack mid new r.pairs.items line n → LineHasOnly mid line (terms_at old.bank r.literals.items) → LineHasOnly new n c
clause_back history old mid new c r line n grows h back has =
    let s = substitution_at old.bank r.pairs.items in
    let same : substitution_at mid.bank r.pairs.items ≡ s = substitution_at-grown old.bank mid.bank r.pairs.items grows.bank h.over.stand in
    back (pair_names s) (pair_terms s) c (same ∙ terms_for_own s) h.apart h.new (subst (LineHasOnly mid line) h.renamed has)

-- the lines of the goals of an elimination
module _ (history : List Entry) (work : Work) (goal : List TermId) (e : Elimination) (h : IsEliminationWay history work goal e) where
  nexts_told : goals_at work.bank e.nexts.items ≡ terms_at work.bank h.first ∷ case_goals work.bank e.reason.cases.items (terms_at work.bank goal)
  nexts_told =
      goals_ids work.bank e.nexts.items ∙ ap (map (terms_at work.bank)) h.nexts_are ∙
      ap (λ gs. terms_at work.bank h.first ∷ gs) (case_goals_ids work.bank e.reason.cases.items goal)

  moved_told : goals_at work.bank e.moved.children.items ≡ terms_at work.bank h.first ∷ []
  moved_told = goals_ids work.bank e.moved.children.items ∙ ap (map (terms_at work.bank)) h.moved_to

  pub first_line : (n : ℕ) (lines : List ℕ) → HoldChildren work (goals_at work.bank e.nexts.items) (n ∷ lines) → HoldChildren work (goals_at work.bank e.moved.children.items) (n ∷ [])
  first_line n lines k =
      let both = subst (λ gs. HoldChildren work gs (n ∷ lines)) nexts_told k in
      subst (λ gs. HoldChildren work gs (n ∷ [])) (sym moved_told) (both.0, tt)

  pub other_lines : (n : ℕ) (lines : List ℕ) → HoldChildren work (goals_at work.bank e.nexts.items) (n ∷ lines) → HoldChildren work (case_goals work.bank e.reason.cases.items (terms_at work.bank goal)) lines
  other_lines n lines k = (subst (λ gs. HoldChildren work gs (n ∷ lines)) nexts_told k).1

  pub some_line : (lines : List ℕ) → HoldChildren work (goals_at work.bank e.nexts.items) lines → 0 < length lines
  some_line [] k = absurd (subst (λ gs. HoldChildren work gs []) nexts_told k)
  some_line (n ∷ lines) k = omega arith

-- the lines, of which there is one
pub split_lines : (lines : List ℕ) (d : ℕ) → 1 ≤ length lines → lines ≡ get_or lines 0 d ∷ take (length lines - 1) (drop 1 lines)
split_lines [] d h = absurd (omega (arith, h))
split_lines (n ∷ lines) d h = ap (λ ns. n ∷ ns) (sym (take_all (length (n ∷ lines) - 1) lines (omega arith)))
