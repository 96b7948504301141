-- What each simplification uses, as the work grows.
use Rattle.std.proofs.Common.{◌≡◌, ℕ, List, [], ◌∷◌, sym, ◌∙◌, subst}
use Rattle.std.specs.Prelude.{codes, true, false}
use Rattle.nq_logic.specs.Words.{not_term, equal_term, true_term, false_term}
use Rattle.nq_bank.specs.declared.node.TermId.{TermId}
use Rattle.nq_bank.specs.Content.{IsIdOf, term_at}
use Rattle.nq_history.specs.declared.entry.Entry.{Entry}
use Rattle.nq_kernel.specs.declared.work.Work.{Work}
use Rattle.nq_kernel.specs.Growing.{WorkStands, WorkGrows}
use Rattle.nq_kernel.proofs.GrowingLemmas.{WorkGrows-trans, LineHolds-grown}
use Rattle.nq_lines.specs.Lines.{LineHasOnly, LineLeads, IsTermIn, MakesOf}
use Rattle.nq_lines.proofs.LineLemmas.{only_grown, leads_only}
use Rattle.nq_lines.proofs.TermLemmas.{term_grown, same_term_grown}
use Rattle.nq_lines.proofs.PairLemmas.{name_grown}
use Rattle.nq_simplify.specs.declared.rows.IfRows.{IfRows}
use Rattle.nq_simplify.specs.declared.basis.Basis.{Basis}
use Rattle.nq_simplify.specs.BranchRows.{if_row, RowsStand}
use Rattle.nq_simplify.specs.Simplified.{BasisStands}

pub rows_grown : (history : List Entry) (old new : Work) (r : IfRows) → WorkStands history old → WorkGrows history old new → RowsStand old r → RowsStand new r
rows_grown history old new r stands grows h =
    record {
      x = name_grown old.bank new.bank r.names.x (codes "X") grows.bank h.x;
      y = name_grown old.bank new.bank r.names.y (codes "Y") grows.bank h.y;
      z = name_grown old.bank new.bank r.names.z (codes "Z") grows.bank h.z;
      first = LineHolds-grown history old new r.first (if_row true) stands grows h.first;
      second = LineHolds-grown history old new r.second (if_row false) stands grows h.second;
    }

pub basis_grown : (history : List Entry) (old new : Work) (b : Basis) → WorkStands history old → WorkGrows history old new → BasisStands history old b → BasisStands history new b
basis_grown history old new b stands grows h =
    record {
      rows = rows_grown history old new b.rows stands grows h.rows;
      truth = term_grown history old new b.truth stands grows h.truth;
      truth_is = same_term_grown history old new b.truth grows h.truth ∙ h.truth_is;
      falsity = term_grown history old new b.falsity stands grows h.falsity;
      falsity_is = same_term_grown history old new b.falsity grows h.falsity ∙ h.falsity_is;
      not_false = only_grown history old new b.not_false (not_term false_term ∷ []) stands grows h.not_false;
    }

-- what is made one after the other stands at the end
pub basis_is : (history : List Entry) (w1 w2 w3 w4 w5 : Work) (rows : IfRows) (t f : TermId) (same n : ℕ) → WorkStands history w1 → WorkStands history w2 → WorkStands history w3 → WorkStands history w4 →
    WorkGrows history w1 w2 → WorkGrows history w2 w3 → WorkGrows history w3 w4 → WorkGrows history w4 w5 → RowsStand w1 rows → IsTermIn history w2 t → IsIdOf w2.bank t true_term → IsTermIn history w3 f → IsIdOf w3.bank f false_term →
    LineLeads w4 same (equal_term (term_at w3.bank f) (term_at w3.bank f)) [] → MakesOf w4 w5 (equal_term (term_at w4.bank f) false_term) (not_term (term_at w4.bank f)) same n →
    BasisStands history w5 (record { rows = rows; truth = t; falsity = f; not_false = n })
basis_is history w1 w2 w3 w4 w5 rows t f same n s1 s2 s3 s4 g12 g23 g34 g45 r t_in t_id f_in f_id leads makes =
    let g35 : WorkGrows history w3 w5 = WorkGrows-trans history w3 w4 w5 g34 g45 in
    let g25 : WorkGrows history w2 w5 = WorkGrows-trans history w2 w3 w5 g23 g35 in
    let g15 : WorkGrows history w1 w5 = WorkGrows-trans history w1 w2 w5 g12 g25 in
    let f4 : term_at w4.bank f ≡ false_term = same_term_grown history w3 w4 f g34 f_in ∙ f_id.denotes in
    let line : LineHasOnly w4 same (equal_term false_term false_term ∷ []) = subst (λ u. LineHasOnly w4 same (equal_term u u ∷ [])) f_id.denotes (leads_only w4 same (equal_term (term_at w3.bank f) (term_at w3.bank f)) [] leads) in
    record {
      rows = rows_grown history w1 w5 rows s1 g15 r;
      truth = term_grown history w2 w5 t s2 g25 t_in;
      truth_is = same_term_grown history w2 w5 t g25 t_in ∙ t_id.denotes;
      falsity = term_grown history w3 w5 f s3 g35 f_in;
      falsity_is = same_term_grown history w3 w5 f g35 f_in ∙ f_id.denotes;
      not_false = subst (λ u. LineHasOnly w5 n (not_term u ∷ [])) f4 (makes [] (subst (λ u. LineHasOnly w4 same (equal_term u false_term ∷ [])) (sym f4) line));
    }
