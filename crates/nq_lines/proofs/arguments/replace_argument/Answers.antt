use Rattle.std.proofs.Common.{◌≡◌, ◌∷◌, ◌∙◌, ap, subst}
use Rattle.nq_logic.specs.Terms.{Term}
use Rattle.nq_logic.specs.Words.{not_term, equal_term}
use Rattle.nq_bank.specs.Content.{term_at}
use Rattle.nq_bank.specs.Parts.{parts_of}
use Rattle.nq_bank.proofs.Standing.{id_grown}
use Rattle.nq_rule.specs.Results.{with_argument}
use Rattle.nq_kernel.specs.declared.work.Work.{Work}
use Rattle.nq_kernel.specs.Growing.{WorkGrows}
use Rattle.nq_kernel.proofs.GrowingLemmas.{WorkGrows-trans, WorkGrows-refl}
use Rattle.nq_lines.specs.Lines.{LineLeads}
use Rattle.nq_lines.proofs.LineLemmas.{leads_grown}
use Rattle.nq_lines.proofs.TermLemmas.{term_grown, same_term_grown}
use Rattle.nq_proof.specs.Paths.{replaced_at}
use Rattle.nq_lines.proofs.ArgumentLemmas.{literal_there, argument_replaced}
use Rattle.nq_lines.proofs.ManyLemmas.{second_changed}
use Rattle.nq_lines.proofs.arguments.replace_argument.Goals as goal

pub returns-in_err-path-clause-grows : goal.returns-in_err-path-clause-grows
returns-in_err-path-clause-grows c = (WorkGrows-refl c.args.history.now c.args.work.now c.requires.stands)

pub replace_first-requires-clause-term : goal.replace_first-requires-clause-term
replace_first-requires-clause-term c = (term_grown c.args.history.now c.args.work.now c.changed_call.new.work c.args.u c.requires.stands c.changed_call.ensures.grows c.requires.argument)

pub replace_first-requires-clause-can : goal.replace_first-requires-clause-can
replace_first-requires-clause-can c =
    let h = c.args.history.now in
    let w0 : Work = c.args.work.now in
    let w1 : Work = c.changed_call.new.work in
    let t : Term = term_at w0.bank c.args.t in
    let u : Term = term_at w1.bank c.args.u in
    let line = c.requires.line in
    let there = literal_there c.args.place (parts_of t) c.requires.place in
    record {
      first = equal_term line.left t;
      these = line.these;
      leads = leads_grown h w0 w1 c.args.line (equal_term line.left t) line.these c.requires.stands c.changed_call.ensures.grows line.leads;
      change = (there.0, equal_term line.left (with_argument c.args.place u t));
      changed = ap (λ p. replaced_at p u (equal_term line.left t)) c.in_ok-path.ensures.path ∙ second_changed c.args.place u line.left t there.0 (argument_replaced c.args.place u t there.0 there.1);
    }

pub returns-in_err-law-clause-grows : goal.returns-in_err-law-clause-grows
returns-in_err-law-clause-grows c = (WorkGrows-trans c.args.history.now c.args.work.now c.changed_call.new.work c.replace_first.new.work c.changed_call.ensures.grows c.replace_first.ensures.grows)

pub returns-clause-grows : goal.returns-clause-grows
returns-clause-grows c = (WorkGrows-trans c.args.history.now c.args.work.now c.changed_call.new.work c.replace_first.new.work c.changed_call.ensures.grows c.replace_first.ensures.grows)

pub returns-clause-call : goal.returns-clause-call
returns-clause-call c = id_grown c.changed_call.new.work.bank c.replace_first.new.work.bank c.in_ok-term.term _ c.replace_first.ensures.grows.bank c.in_ok-term.ensures.call

pub returns-clause-over : goal.returns-clause-over
returns-clause-over c = (term_grown c.args.history.now c.changed_call.new.work c.replace_first.new.work c.in_ok-term.term c.changed_call.ensures.grows.stands c.replace_first.ensures.grows c.in_ok-term.ensures.over)

pub returns-clause-line : goal.returns-clause-line
returns-clause-line c =
    let h = c.args.history.now in
    let w0 : Work = c.args.work.now in
    let w1 : Work = c.changed_call.new.work in
    let w2 : Work = c.replace_first.new.work in
    let g01 : WorkGrows h w0 w1 = c.changed_call.ensures.grows in
    let t : Term = term_at w0.bank c.args.t in
    let u : Term = term_at w0.bank c.args.u in
    let u1 : Term = term_at w1.bank c.args.u in
    let e : u1 ≡ u = same_term_grown h w0 w1 c.args.u g01 c.requires.argument in
    λ left a these at leads.
    subst (λ v. LineLeads w2 c.in_ok-law.law (equal_term left (with_argument c.args.place v t)) (not_term (equal_term a v) ∷ these)) e
    (c.in_ok-law.ensures.line (equal_term left t) (a, equal_term left (with_argument c.args.place u1 t)) these (leads_grown h w0 w1 c.args.line (equal_term left t) these c.requires.stands g01 leads)
    (ap (λ p. replaced_at p u1 (equal_term left t)) c.in_ok-path.ensures.path ∙ second_changed c.args.place u1 left t a (argument_replaced c.args.place u1 t a at)))
