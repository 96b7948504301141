use Rattle.std.proofs.Common.{◌≡◌, ◌∷◌, [], ◌∙◌, ap, subst, Some}
use Rattle.nq_logic.specs.Terms.{Term}
use Rattle.nq_logic.specs.Words.{not_term, equal_term}
use Rattle.nq_bank.specs.Content.{term_at}
use Rattle.nq_rule.proofs.Made.{for_ok}
use Rattle.nq_proof.specs.Rules.{Forwards}
use Rattle.nq_kernel.specs.declared.work.Work.{Work}
use Rattle.nq_kernel.specs.Growing.{WorkGrows}
use Rattle.nq_kernel.proofs.GrowingLemmas.{WorkGrows-trans, WorkGrows-refl}
use Rattle.nq_lines.specs.Lines.{LineLeads, ReplacesTo}
use Rattle.nq_lines.proofs.TermLemmas.{term_grown, same_term_grown}
use Rattle.nq_bank.specs.Parts.{parts_of}
use Rattle.nq_proof.specs.Clauses.{literal_at}
use Rattle.nq_proof.specs.Paths.{replaced_at}
use Rattle.nq_rule.specs.Results.{with_argument}
use Rattle.nq_lines.proofs.ArgumentLemmas.{literal_there, second_replaced}
use Rattle.nq_lines.proofs.calls.congruence.Goals as goal

pub returns-in_err-path-clause-grows : goal.returns-in_err-path-clause-grows
returns-in_err-path-clause-grows c = WorkGrows-refl c.args.history.now c.args.work.now c.requires.stands

pub replace_first-requires-clause-term : goal.replace_first-requires-clause-term
replace_first-requires-clause-term c = term_grown c.args.history.now c.args.work.now c.reflexive.new.work c.args.u c.requires.stands c.reflexive.ensures.grows c.requires.argument

pub replace_first-requires-clause-can : goal.replace_first-requires-clause-can
replace_first-requires-clause-can c =
    let t = term_at c.args.work.now.bank c.args.t in
    let u = term_at c.reflexive.new.work.bank c.args.u in
    let there = literal_there c.args.place (parts_of t) c.requires.place in
    record { first = equal_term t t; these = []; leads = c.in_ok-line.ensures.line; change = (there.0, equal_term t (with_argument c.args.place u t)); changed = ap (λ p. replaced_at p u (equal_term t t)) c.in_ok-path.ensures.path ∙ second_replaced c.args.place u t there.0 there.1 }

pub returns-clause-grows : goal.returns-clause-grows
returns-clause-grows c = (WorkGrows-trans c.args.history.now c.args.work.now c.reflexive.new.work c.replace_first.new.work c.reflexive.ensures.grows c.replace_first.ensures.grows)

pub returns-clause-line : goal.returns-clause-line
returns-clause-line c =
    let h = c.args.history.now in
    let w0 : Work = c.args.work.now in
    let w1 : Work = c.reflexive.new.work in
    let w2 : Work = c.replace_first.new.work in
    let g01 : WorkGrows h w0 w1 = c.reflexive.ensures.grows in
    let g02 : WorkGrows h w0 w2 = (WorkGrows-trans c.args.history.now c.args.work.now c.reflexive.new.work c.replace_first.new.work c.reflexive.ensures.grows c.replace_first.ensures.grows) in
    let g12 : WorkGrows h w1 w2 = c.replace_first.ensures.grows in
    let t = term_at w0.bank c.args.t in
    let u = term_at w0.bank c.args.u in
    let u1 = term_at w1.bank c.args.u in
    let e : u1 ≡ u = same_term_grown h w0 w1 c.args.u g01 c.requires.argument in
    for_ok c.replace_first.result (ReplacesTo w1 w2 c.in_ok-line.line c.in_ok-path.path.items u1 Forwards) (λ n. (a : Term) → literal_at c.args.place (parts_of t) ≡ Some a → LineLeads w2 n (equal_term t (with_argument c.args.place u t)) (not_term (equal_term a u) ∷ [])) (λ n f a at.
    subst (λ v. LineLeads w2 n (equal_term t (with_argument c.args.place v t)) (not_term (equal_term a v) ∷ [])) e
    (f (equal_term t t) (a, equal_term t (with_argument c.args.place u1 t)) [] c.in_ok-line.ensures.line (ap (λ p. replaced_at p u1 (equal_term t t)) c.in_ok-path.ensures.path ∙ second_replaced c.args.place u1 t a at))) c.replace_first.ensures.line
