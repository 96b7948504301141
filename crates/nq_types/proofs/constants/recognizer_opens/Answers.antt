use Rattle.std.proofs.Common.{◌≡◌, ◌∷◌, ◌∙◌, [], Some, map, sym, ap, subst}
use Rattle.std.specs.Prelude.{IsSome, codes, is_some}
use Rattle.nq_logic.specs.Terms.{Substitution, Term, substituted}
use Rattle.nq_logic.specs.Words.{equal_term}
use Rattle.nq_logic.specs.Ground.{x_term}
use Rattle.nq_proof.specs.Rows.{axiom_clause}
use Rattle.nq_rule.proofs.Made.{for_ok}
use Rattle.nq_bank.specs.Content.{term_at, text_at}
use Rattle.nq_clause.specs.Substitution.{substitution_at}
use Rattle.nq_history.specs.Events.{events_at}
use Rattle.nq_kernel.specs.declared.work.Work.{Work}
use Rattle.nq_kernel.proofs.GrowingLemmas.{WorkGrows-trans}
use Rattle.nq_lines.specs.Lines.{LineHasOnly}
use Rattle.nq_lines.specs.Instances.{HasRow}
use Rattle.nq_types.specs.Parts.{constant_of, recognizer_of}
use Rattle.nq_types.specs.TypeSets.{recognized_by}
use Rattle.nq_types.proofs.ConstantLemmas.{constant_kept, name_is, recognizer_row}
use Rattle.nq_types.proofs.constants.recognizer_opens.Goals as goal

pub axiom_row-requires-clause-axiom : goal.axiom_row-requires-clause-axiom
axiom_row-requires-clause-axiom c =
    let w1 : Work = c.pair_of_x.new.work in
    let text = text_at w1.bank c.ground_name-name.result in
    let es = events_at w1.bank c.args.history.now in
    let name : text ≡ recognizer_of c.args.truth = name_is text c.args.truth c.recognizer.result c.ground_name-name.ensures.reads c.recognizer.ensures.name in
    subst (λ x. IsSome (axiom_clause es x 1 0)) (sym name) (ap is_some (recognizer_row es c.args.truth))

pub returns-clause-grows : goal.returns-clause-grows
returns-clause-grows c = WorkGrows-trans c.args.history.now c.args.work.now c.pair_of_x.new.work c.axiom_row.new.work c.pair_of_x.ensures.grows c.axiom_row.ensures.grows

pub returns-clause-line : goal.returns-clause-line
returns-clause-line c =
    let h = c.args.history.now in
    let w1 : Work = c.pair_of_x.new.work in
    let w2 : Work = c.axiom_row.new.work in
    let t : Term = term_at c.args.work.now.bank c.args.t in
    let text = text_at w1.bank c.ground_name-name.result in
    let es = events_at w1.bank h in
    let R = recognizer_of c.args.truth in
    let K : Term = constant_of c.args.truth in
    let name : text ≡ R = name_is text c.args.truth c.recognizer.result c.ground_name-name.ensures.reads c.recognizer.ensures.name in
    let literal : Term = equal_term (recognized_by R x_term) (equal_term x_term K) in
    let row : axiom_clause es text 1 0 ≡ Some (literal ∷ []) = ap (λ x. axiom_clause es x 1 0) name ∙ recognizer_row es c.args.truth in
    let s : Substitution = (codes "X", t) ∷ [] in
    for_ok c.axiom_row.result (HasRow h w1 w2 text 1 0 (substitution_at w1.bank c.in_ok-pairs.pairs.items)) (λ n. LineHasOnly w2 n (equal_term (recognized_by R t) (equal_term t K) ∷ [])) (λ n f.
    constant_kept c.args.truth t (LineHasOnly w2 n) (subst (λ v. LineHasOnly w2 n (map (substituted v) (literal ∷ []))) c.in_ok-pairs.ensures.pairs (f (literal ∷ []) row))) c.axiom_row.ensures.line
