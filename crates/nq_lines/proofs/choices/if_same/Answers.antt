use Rattle.std.proofs.Common.{◌∷◌, [], subst}
use Rattle.nq_logic.specs.Terms.{Term}
use Rattle.nq_logic.specs.Words.{not_term, equal_term, if_term}
use Rattle.nq_bank.specs.Content.{term_at}
use Rattle.nq_rule.proofs.Made.{for_ok}
use Rattle.nq_kernel.specs.declared.work.Work.{Work}
use Rattle.nq_kernel.specs.Growing.{WorkGrows}
use Rattle.nq_kernel.proofs.GrowingLemmas.{WorkGrows-trans}
use Rattle.nq_lines.specs.Lines.{LineHasOnly, CutsTo}
use Rattle.nq_lines.proofs.LineLemmas.{only_grown, line_grown, only_stands}
use Rattle.nq_lines.proofs.TermLemmas.{term_grown, same_term_grown}
use Rattle.nq_lines.proofs.Chains.{cuts_by}
use Rattle.nq_lines.proofs.choices.if_same.Goals as goal

pub second_chosen-requires-clause-test : goal.second_chosen-requires-clause-test
second_chosen-requires-clause-test c = (term_grown c.args.history.now c.args.work.now c.first_chosen.new.work c.args.p c.requires.stands c.first_chosen.ensures.grows c.requires.test)

pub second_chosen-requires-clause-first : goal.second_chosen-requires-clause-first
second_chosen-requires-clause-first c = (term_grown c.args.history.now c.args.work.now c.first_chosen.new.work c.args.x c.requires.stands c.first_chosen.ensures.grows c.requires.part)

pub second_chosen-requires-clause-second : goal.second_chosen-requires-clause-second
second_chosen-requires-clause-second c = (term_grown c.args.history.now c.args.work.now c.first_chosen.new.work c.args.x c.requires.stands c.first_chosen.ensures.grows c.requires.part)

pub cut-requires-clause-first : goal.cut-requires-clause-first
cut-requires-clause-first c = only_stands c.second_chosen.new.work c.in_ok-second.second _ c.in_ok-second.ensures.line

pub cut-requires-clause-second : goal.cut-requires-clause-second
cut-requires-clause-second c = (line_grown c.args.history.now c.first_chosen.new.work c.second_chosen.new.work c.in_ok-first.first c.first_chosen.ensures.grows.stands c.second_chosen.ensures.grows (only_stands c.first_chosen.new.work c.in_ok-first.first _ c.in_ok-first.ensures.line))

pub cut-requires-clause-term : goal.cut-requires-clause-term
cut-requires-clause-term c = (term_grown c.args.history.now c.args.work.now c.second_chosen.new.work c.args.p c.requires.stands (WorkGrows-trans c.args.history.now c.args.work.now c.first_chosen.new.work c.second_chosen.new.work c.first_chosen.ensures.grows c.second_chosen.ensures.grows) c.requires.test)

pub returns-in_err-second-clause-grows : goal.returns-in_err-second-clause-grows
returns-in_err-second-clause-grows c = (WorkGrows-trans c.args.history.now c.args.work.now c.first_chosen.new.work c.second_chosen.new.work c.first_chosen.ensures.grows c.second_chosen.ensures.grows)

pub returns-clause-grows : goal.returns-clause-grows
returns-clause-grows c = (WorkGrows-trans c.args.history.now c.args.work.now c.first_chosen.new.work c.cut.new.work c.first_chosen.ensures.grows (WorkGrows-trans c.args.history.now c.first_chosen.new.work c.second_chosen.new.work c.cut.new.work c.second_chosen.ensures.grows c.cut.ensures.grows))

pub returns-clause-line : goal.returns-clause-line
returns-clause-line c =
    let h = c.args.history.now in
    let w0 : Work = c.args.work.now in
    let w1 : Work = c.first_chosen.new.work in
    let w2 : Work = c.second_chosen.new.work in
    let w3 : Work = c.cut.new.work in
    let g01 : WorkGrows h w0 w1 = c.first_chosen.ensures.grows in
    let g02 : WorkGrows h w0 w2 = (WorkGrows-trans c.args.history.now c.args.work.now c.first_chosen.new.work c.second_chosen.new.work c.first_chosen.ensures.grows c.second_chosen.ensures.grows) in
    let g12 : WorkGrows h w1 w2 = c.second_chosen.ensures.grows in
    let p : Term = term_at w0.bank c.args.p in
    let x : Term = term_at w0.bank c.args.x in
    let e : Term = equal_term (if_term p x x) x in
    let second : LineHasOnly w2 c.in_ok-second.second (p ∷ e ∷ []) = (subst (λ z. LineHasOnly w2 c.in_ok-second.second ((term_at w0.bank c.args.p) ∷ equal_term (if_term (term_at w0.bank c.args.p) z z) z ∷ [])) (same_term_grown h w0 w1 c.args.x g01 c.requires.part) (subst (λ z. LineHasOnly w2 c.in_ok-second.second (z ∷ equal_term (if_term z (term_at w1.bank c.args.x) (term_at w1.bank c.args.x)) (term_at w1.bank c.args.x) ∷ [])) (same_term_grown h w0 w1 c.args.p g01 c.requires.test) c.in_ok-second.ensures.line)) in
    let first : LineHasOnly w2 c.in_ok-first.first (not_term p ∷ e ∷ []) = only_grown h w1 w2 c.in_ok-first.first (not_term p ∷ e ∷ []) c.first_chosen.ensures.grows.stands g12 c.in_ok-first.ensures.line in
    for_ok c.cut.result (CutsTo w2 w3 (term_at w2.bank c.args.p) c.in_ok-second.second c.in_ok-first.first) (λ n. LineHasOnly w3 n (e ∷ [])) (λ n f.
    cuts_by w2 w3 (term_at w2.bank c.args.p) p c.in_ok-second.second c.in_ok-first.first n (same_term_grown h w0 w2 c.args.p g02 c.requires.test) f (e ∷ []) second first) c.cut.ensures.line
