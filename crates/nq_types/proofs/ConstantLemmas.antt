-- T and F, and their recognizers.
use Rattle.std.proofs.Common.{◌≡◌, ◌∷◌, ◌∙◌, ℕ, Bool, true, false, List, [], map, Some, refl}
use Rattle.std.specs.Prelude.{codes}
use Rattle.nq_logic.specs.Terms.{Name, Term, IsAmong, substituted}
use Rattle.nq_logic.specs.Words.{equal_term}
use Rattle.nq_logic.specs.Ground.{symbols_of, x_term}
use Rattle.nq_logic.specs.Histories.{History}
use Rattle.nq_logic.proofs.Symbols.{truep_symbol, falsep_symbol}
use Rattle.nq_bank.specs.declared.node.Sym.{Sym}
use Rattle.nq_bank.specs.declared.node.TermId.{TermId}
use Rattle.nq_bank.specs.Soundness.{ground_text}
use Rattle.nq_bank.specs.Content.{term_at}
use Rattle.nq_proof.specs.Rules.{Backwards}
use Rattle.nq_proof.specs.Rows.{axiom_clause}
use Rattle.nq_history.specs.declared.entry.Entry.{Entry}
use Rattle.nq_history.specs.Events.{events_at}
use Rattle.nq_kernel.specs.declared.work.Work.{Work}
use Rattle.nq_kernel.specs.Over.{IsTermOf, IsVariable}
use Rattle.nq_kernel.specs.Growing.{WorkGrows, WorkStands}
use Rattle.nq_lines.specs.Lines.{IsTermIn, LineHasOnly, MakesOf, RewritesTo}
use Rattle.nq_lines.proofs.Among.{beside, none_among}
use Rattle.nq_lines.proofs.LineLemmas.{only_grown, only_more}
use Rattle.nq_types.specs.Parts.{constant_of, recognizer_of}
use Rattle.nq_types.specs.TypeSets.{recognized_by}

pub name_is : (text : Name) (truth : Bool) (known : Sym) → text ≡ ground_text known → ground_text known ≡ recognizer_of truth → text ≡ recognizer_of truth
name_is text truth known reads is = reads ∙ is

recognizer_symbol : (h : History) (truth : Bool) → IsAmong (recognizer_of truth, 1) (symbols_of h)
recognizer_symbol h true = truep_symbol h
recognizer_symbol h false = falsep_symbol h

pub recognized_over : (history : List Entry) (work : Work) (truth : Bool) (t : TermId) → IsTermIn history work t → IsTermOf IsVariable (symbols_of (events_at work.bank history)) (recognized_by (recognizer_of truth) (term_at work.bank t))
recognized_over history work truth t there = record { over = (recognizer_symbol (events_at work.bank history) truth, there.over.over); variables = (tt, there.over.variables) }

-- the row of the recognizer
pub recognizer_row : (h : History) (truth : Bool) → axiom_clause h (recognizer_of truth) 1 0 ≡ Some (equal_term (recognized_by (recognizer_of truth) x_term) (equal_term x_term (constant_of truth)) ∷ [])
recognizer_row h true = refl
recognizer_row h false = refl

pub equation_turned : (history : List Entry) (w0 w3 w4 : Work) (eq rec : Term) (line law n : ℕ) → WorkStands history w0 → WorkGrows history w0 w3 → RewritesTo w3 w4 Backwards eq rec line law n → LineHasOnly w3 law (equal_term rec eq ∷ []) → MakesOf w0 w4 eq rec line n
equation_turned history w0 w3 w4 eq rec line law n stands grows f shown =
    λ these here. f these (only_grown history w0 w3 line (eq ∷ these) stands grows here) (only_more w3 law (equal_term rec eq ∷ []) (equal_term rec eq ∷ these) (beside (equal_term rec eq) [] these (none_among these)) shown)

-- a constant stays under a substitution
pub constant_kept : (truth : Bool) (t : Term) (P : List Term → Type 0) → P (map (substituted ((codes "X", t) ∷ [])) (equal_term (recognized_by (recognizer_of truth) x_term) (equal_term x_term (constant_of truth)) ∷ [])) → P (equal_term (recognized_by (recognizer_of truth) t) (equal_term t (constant_of truth)) ∷ [])
constant_kept true t P h = h
constant_kept false t P h = h
