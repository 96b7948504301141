-- The size of a variable, and the line that it is an ordinal.
use Rattle.std.proofs.Common.{◌≡◌, ◌≤◌, ◌∙◌, ℕ, [], ◌∷◌, List, sym, ap, subst, arith}
use Rattle.nq_logic.specs.Terms.{Name, Term, Variable}
use Rattle.nq_logic.specs.Numerals.{number_of}
use Rattle.nq_logic.specs.Words.{call1, true_term}
use Rattle.nq_logic.specs.Sizes.{depth_of, tree_depth}
use Rattle.nq_bank.specs.declared.node.TermId.{TermId}
use Rattle.nq_bank.specs.Content.{IsIdOf, term_at}
use Rattle.nq_history.specs.declared.entry.Entry.{Entry}
use Rattle.nq_kernel.specs.declared.work.Work.{Work}
use Rattle.nq_kernel.specs.Growing.{WorkGrows}
use Rattle.nq_lines.specs.Lines.{IsTermIn, LineHasOnly}
use Rattle.nq_lines.proofs.TermLemmas.{same_term_grown}
use Rattle.nq_decrease.specs.LawLines.{term_room}
use Rattle.nq_decrease.proofs.NestLines.{variable_room}

pub variable_shallow : (work : Work) (t : TermId) (x : Name) → term_at work.bank t ≡ Variable x → depth_of (term_at work.bank t) ≤ term_room
variable_shallow work t x is = subst (λ (u : Term). depth_of u ≤ term_room) (sym is) (variable_room x)

pub truth_shallow : (work : Work) (t : TermId) → term_at work.bank t ≡ true_term → depth_of (term_at work.bank t) ≤ term_room
unfolding number_of tree_depth
truth_shallow work t is = subst (λ (u : Term). depth_of u ≤ term_room) (sym is) (omega arith)

-- the line was made of the variable, and speaks of the measure
pub ordinal_kept : (history : List Entry) (w0 w1 w2 : Work) (v m : TermId) (n : ℕ) → WorkGrows history w0 w1 → WorkGrows history w1 w2 → IsTermIn history w0 v → IsTermIn history w1 m →
    IsIdOf w1.bank m (call1 "COUNT" (term_at w0.bank v)) → LineHasOnly w2 n (call1 "ORDINALP" (call1 "COUNT" (term_at w1.bank v)) ∷ []) → LineHasOnly w2 n (call1 "ORDINALP" (term_at w2.bank m) ∷ [])
ordinal_kept history w0 w1 w2 v m n g1 g2 vin min is line =
    let same : term_at w2.bank m ≡ call1 "COUNT" (term_at w1.bank v) =
    same_term_grown history w1 w2 m g2 min ∙ is.denotes ∙ ap (λ (t : Term). call1 "COUNT" t) (sym (same_term_grown history w0 w1 v g1 vin)) in
    subst (λ (t : Term). LineHasOnly w2 n (call1 "ORDINALP" t ∷ [])) (sym same) line
