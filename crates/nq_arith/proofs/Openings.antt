-- Definitions and rows of shells, at terms.
use Rattle.std.proofs.Common.{◌≡◌, Bool, true, false, List, [], ◌∷◌, ◌++◌, map, length, if◌then◌else◌, inl, inr, refl, sym, ap, ap₂, ◌∙◌, subst}
use Rattle.std.specs.Prelude.{bytes_eq}
use Rattle.std.proofs.lemmas.Slice.Eq.{bytes_eq-Decides}
use Rattle.nq_logic.specs.Terms.{Name, Term, Variable, Function, call, IsTerm, IsAmong, Each, Substitution, value_at, substituted}
use Rattle.nq_logic.specs.Words.{equal_term}
use Rattle.nq_logic.specs.Formulas.{Equation, holds, clause}
use Rattle.nq_logic.specs.Histories.{events_definitions}
use Rattle.nq_logic.specs.Ground.{symbols_of, ground_definitions}
use Rattle.nq_logic.specs.Admissible.{AreDistinct, matched}
use Rattle.nq_logic.specs.Derivations.{Derivable, definition}
use Rattle.nq_logic.specs.Laws.{IsClause}
use Rattle.nq_logic.proofs.Lists.{each_at}
use Rattle.nq_logic.proofs.Basic.{detached}
use Rattle.nq_logic.proofs.Equality.{axiom_here}
use Rattle.nq_logic.proofs.Replacements.{equal_holds}
use Rattle.nq_proof.specs.Rows.{opening}
use Rattle.nq_proof.specs.Rules.{pair_terms}
use Rattle.nq_proof.proofs.Tests.{names_same}
use Rattle.nq_proof.proofs.ShellSymbols.{shells_over}
use Rattle.nq_proof.proofs.KeptSymbols.{definitions_over}
use Rattle.nq_arith.proofs.PartNames.{applied_at}
use Rattle.nq_arith.proofs.Rows.{derived_at, row_at}
use Rattle.nq_arith.specs.Openings.{DefinitionAtTerms, RowAtTerms}

-- a name that is not among these changes nothing of their terms
not_replaced : (x : Name) (t : Term) (s : Substitution) (ys : List Name) → (IsAmong x ys → ⊥) → map (substituted ((x, t) ∷ s)) (map Variable ys) ≡ map (substituted s) (map Variable ys)
not_replaced x t s [] apart = refl
not_replaced x t s (y ∷ ys) apart = by_name (bytes_eq y x) refl (not_replaced x t s ys (λ m. apart (inr m)))
  where
    by_name : (b : Bool) → bytes_eq y x ≡ b → map (substituted ((x, t) ∷ s)) (map Variable ys) ≡ map (substituted s) (map Variable ys) →
        (if b then t else value_at s y) ∷ map (substituted ((x, t) ∷ s)) (map Variable ys) ≡ value_at s y ∷ map (substituted s) (map Variable ys)
    by_name true e rest = absurd (apart (inl (sym (names_same y x e))))
    by_name false e rest = ap (λ us. value_at s y ∷ us) rest

-- each formal gives its argument
arguments_back : (xs : List Name) (ts : List Term) → AreDistinct xs → length ts ≡ length xs → map (substituted (matched xs ts)) (map Variable xs) ≡ ts
arguments_back [] [] distinct e = refl
arguments_back [] (t ∷ ts) distinct e = absurd cc
arguments_back (x ∷ xs) [] distinct e = absurd cc
arguments_back (x ∷ xs) (t ∷ ts) distinct e =
    let itself : bytes_eq x x ≡ true = (bytes_eq-Decides x x).1 refl in
    let fewer : length ts ≡ length xs = cc in
    ap₂ (λ b us. (if b then t else value_at (matched xs ts) x) ∷ us) itself (not_replaced x t (matched xs ts) xs distinct.0 ∙ arguments_back xs ts distinct.1 fewer)

matched_over : (P : Term → Type 0) (xs : List Name) (ts : List Term) → Each P ts → Each P (pair_terms (matched xs ts))
matched_over P [] ts all = tt
matched_over P (x ∷ xs) [] all = tt
matched_over P (x ∷ xs) (t ∷ ts) all = (all.0, matched_over P xs ts all.1)

pub definition_law : DefinitionAtTerms
definition_law h d ts closed m distinct e over =
    let s = matched d.formals ts in
    let a = call d.function (map Variable d.formals) in
    let o = each_at (λ d. IsClause h (opening d)) d (ground_definitions ++ events_definitions h) (definitions_over h closed) m in
    let opened = detached h (Equation a d.body) (holds (equal_term a d.body)) (axiom_here h (Equation a d.body) (o.0.0.1, o.0.1) (definition d m)) (equal_holds h a d.body o.0.0.1 o.0.1) in
    let at_terms = derived_at h s (matched_over (IsTerm (symbols_of h)) d.formals ts over) (opening d) o opened in
    let called : substituted s a ≡ call d.function ts = subst (λ us. substituted s a ≡ call d.function us) (arguments_back d.formals ts distinct e) (applied_at s (Function d.function) (map Variable d.formals)) in
    subst (λ u. Derivable h (clause (equal_term u (substituted s d.body) ∷ []))) called at_terms

pub row_law : RowAtTerms
row_law h earlier later s row part c pairs closed at is terms = row_at h (shells_over h closed) earlier later s at pairs terms row part c is
