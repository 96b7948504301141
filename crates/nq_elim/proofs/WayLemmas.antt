-- Ways back from eliminations.
use Rattle.std.proofs.Common.{◌≡◌, ◌<◌, ℕ, zero, suc, List, [], ◌∷◌, ◌++◌, length, map, get_or, refl, sym, ap, ap₂, ◌∙◌, subst, inl, inr, arith}
use Rattle.std.specs.Prelude.{All, Vec}
use Rattle.std.specs.declared.alloc.Global.{Global}
use Rattle.nq_logic.specs.Admissible.{AreDistinct}
use Rattle.nq_bank.specs.declared.node.TermId.{TermId}
use Rattle.nq_bank.specs.Content.{terms_at}
use Rattle.nq_bank.proofs.NodesLemmas.{All-head}
use Rattle.nq_clause.specs.Substitution.{substitution_at}
use Rattle.nq_clause.proofs.SubstitutionLemmas.{substitution_at-grown}
use Rattle.nq_proof.specs.Clauses.{Clause}
use Rattle.nq_history.specs.declared.entry.Entry.{Entry}
use Rattle.nq_kernel.specs.declared.work.Work.{Work}
use Rattle.nq_kernel.specs.Growing.{WorkStands, WorkGrows}
use Rattle.nq_kernel.specs.Over.{pair_names}
use Rattle.nq_lines.specs.Lines.{IsTermIn}
use Rattle.nq_lines.proofs.InstanceLemmas.{pairs_in_grown}
use Rattle.nq_goals.specs.Replacing.{exchanged}
use Rattle.nq_moves.specs.declared.moved.Moved.{Moved}
use Rattle.nq_moves.specs.declared.naming.Renaming.{Renaming}
use Rattle.nq_moves.specs.Naming.{IsRenaming, exchange_by}
use Rattle.nq_moves.specs.Renamed.{AreNewIn}
use Rattle.nq_moves.specs.Ways.{IsMove}
use Rattle.nq_elim.proofs.GrownLemmas.{same_terms, terms_grown}
use Rattle.nq_moves.proofs.WayLemmas.{way_lasts}
use Rattle.nq_elim.specs.declared.making.Elimination.{Elimination}
use Rattle.nq_elim.specs.declared.reasons.Reason.{Reason}
use Rattle.nq_elim.specs.Cases.{next_ids}
use Rattle.nq_elim.specs.Reasons.{IsReason, whole_at}
use Rattle.nq_elim.specs.Eliminations.{IsRenamedClause, IsEliminationWay, EliminationsLast, ids_of}
use Rattle.nq_elim.proofs.ListLemmas.{all_cons}
use Rattle.nq_elim.proofs.CaseLemmas.{next_ids_in}
use Rattle.nq_elim.proofs.GoalLemmas.{all_ids, ids_all}
use Rattle.nq_elim.proofs.ReasonLemmas.{same_whole, reason_grown}

-- a renaming of literals is one of their clause
pub renamed_clause : (history : List Entry) (work : Work) (whole : List TermId) (c : Clause) (r : Renaming) → terms_at work.bank whole ≡ c → IsRenaming history work whole r → IsRenamedClause history work c r
renamed_clause history work whole c r is h =
    record {
      over = h.over;
      apart = h.apart;
      new = subst (AreNewIn (pair_names (substitution_at work.bank r.pairs.items))) is h.new;
      renamed = h.renamed ∙ ap (map (exchanged (exchange_by (substitution_at work.bank r.pairs.items)))) is;
      literals_in = h.literals_in;
    }

module _ (history : List Entry) (old new : Work) (stands : WorkStands history old) (grows : WorkGrows history old new) where
  -- it stays one however the work grows
  pub renamed_clause_grown : (c : Clause) (r : Renaming) → IsRenamedClause history old c r → IsRenamedClause history new c r
  renamed_clause_grown c r h =
      let same : substitution_at new.bank r.pairs.items ≡ substitution_at old.bank r.pairs.items = substitution_at-grown old.bank new.bank r.pairs.items grows.bank h.over.stand in
      record {
        over = pairs_in_grown history old new r.pairs.items stands grows h.over;
        apart = subst (λ s. AreDistinct (pair_names s)) (sym same) h.apart;
        new = subst (λ s. AreNewIn (pair_names s) c) (sym same) h.new;
        renamed = same_terms history old new stands grows r.literals.items h.literals_in ∙ h.renamed ∙ ap (λ s. map (exchanged (exchange_by s)) c) (sym same);
        literals_in = terms_grown history old new stands grows r.literals.items h.literals_in;
      }

  -- and goals stay over the history
  pub goals_in_grown : (goals : List (Vec TermId Global)) → All (λ g. All (IsTermIn history old) g.items) goals → All (λ g. All (IsTermIn history new) g.items) goals
  goals_in_grown goals h = λ i d below. terms_grown history old new stands grows (get_or goals i d).items (h i d below)

  -- a move serves however the work grows
  pub move_grown : (goal : List TermId) (moved : Moved) → All (IsTermIn history old) goal → IsMove history old goal moved → IsMove history new goal moved
  move_grown goal moved all h = record { way = way_lasts history old new stands grows goal all moved h.way; children_in = goals_in_grown moved.children.items h.children_in }

  pub elimination_grown : (goal : List TermId) (e : Elimination) → All (IsTermIn history old) goal → IsEliminationWay history old goal e → IsEliminationWay history new goal e
  elimination_grown goal e all h =
      let r : Reason = e.reason in
      record {
        reason = reason_grown history old new stands grows goal all r h.reason;
        renaming =
            subst (λ (c : Clause). IsRenamedClause history new c e.renaming) (sym (same_whole history old new stands grows goal all r h.reason))
            (renamed_clause_grown (whole_at old.bank r) e.renaming h.renaming);
        moved = move_grown e.renaming.literals.items e.moved h.renaming.literals_in h.moved;
        first = h.first;
        moved_to = h.moved_to;
        nexts_are = h.nexts_are;
        nexts_in = goals_in_grown e.nexts.items h.nexts_in;
      }

pub eliminations_last : EliminationsLast
eliminations_last history old new goal e stands grows all h = elimination_grown history old new stands grows goal e all h

-- an elimination from its parts
pub way_made : (history : List Entry) (work : Work) (goal : List TermId) (e : Elimination) (first : List TermId) → All (IsTermIn history work) goal → IsReason history work goal e.reason →
    IsRenamedClause history work (whole_at work.bank e.reason) e.renaming → IsMove history work e.renaming.literals.items e.moved →
    ids_of e.moved.children.items ≡ first ∷ [] → ids_of e.nexts.items ≡ first ∷ next_ids e.reason.cases.items goal → IsEliminationWay history work goal e
way_made history work goal e first all reason renaming moved to are =
    let Q : List TermId → Type 0 = All (IsTermIn history work) in
    let children : All Q (first ∷ []) = subst (All Q) to (all_ids Q e.moved.children.items moved.children_in) in
    let whole : All Q (first ∷ next_ids e.reason.cases.items goal) = all_cons Q first (next_ids e.reason.cases.items goal) (All-head Q first [] children) (next_ids_in history work e.reason.cases.items goal reason.cases all) in
    record {
      reason = reason;
      renaming = renaming;
      moved = moved;
      first = first;
      moved_to = to;
      nexts_are = are;
      nexts_in = ids_all Q e.nexts.items (subst (All Q) (sym are) whole);
    }
