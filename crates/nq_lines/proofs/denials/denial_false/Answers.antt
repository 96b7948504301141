use Rattle.std.proofs.Common.{◌≡◌, ◌∷◌, [], subst}
use Rattle.nq_logic.specs.Terms.{Term}
use Rattle.nq_logic.specs.Words.{not_term, equal_term, false_term}
use Rattle.nq_bank.specs.Content.{term_at}
use Rattle.nq_rule.proofs.Made.{for_ok}
use Rattle.nq_kernel.specs.declared.work.Work.{Work}
use Rattle.nq_kernel.specs.Growing.{WorkGrows}
use Rattle.nq_kernel.proofs.GrowingLemmas.{WorkGrows-trans}
use Rattle.nq_lines.specs.Lines.{LineHasOnly, CutsTo, MakesOf}
use Rattle.nq_lines.proofs.LineLemmas.{line_grown, only_stands}
use Rattle.nq_lines.proofs.TermLemmas.{term_grown, same_term_grown}
use Rattle.nq_lines.proofs.Chains.{cuts_by, made_by_cut}
use Rattle.nq_lines.proofs.denials.denial_false.Goals as goal

pub cut-requires-clause-first : goal.cut-requires-clause-first
cut-requires-clause-first c = (line_grown c.args.history.now c.args.work.now c.true_or_false.new.work c.args.line c.requires.stands (WorkGrows-trans c.args.history.now c.args.work.now c.deny.new.work c.true_or_false.new.work c.deny.ensures.grows c.true_or_false.ensures.grows) c.requires.line)

pub cut-requires-clause-second : goal.cut-requires-clause-second
cut-requires-clause-second c = only_stands c.true_or_false.new.work c.in_ok-law.law _ c.in_ok-law.ensures.line

pub cut-requires-clause-term : goal.cut-requires-clause-term
cut-requires-clause-term c = (term_grown c.args.history.now c.args.work.now c.true_or_false.new.work c.args.p c.requires.stands (WorkGrows-trans c.args.history.now c.args.work.now c.deny.new.work c.true_or_false.new.work c.deny.ensures.grows c.true_or_false.ensures.grows) c.requires.term)

pub returns-in_err-law-clause-grows : goal.returns-in_err-law-clause-grows
returns-in_err-law-clause-grows c = (WorkGrows-trans c.args.history.now c.args.work.now c.deny.new.work c.true_or_false.new.work c.deny.ensures.grows c.true_or_false.ensures.grows)

pub returns-clause-grows : goal.returns-clause-grows
returns-clause-grows c = (WorkGrows-trans c.args.history.now c.args.work.now c.deny.new.work c.cut.new.work c.deny.ensures.grows (WorkGrows-trans c.args.history.now c.deny.new.work c.true_or_false.new.work c.cut.new.work c.true_or_false.ensures.grows c.cut.ensures.grows))

pub returns-clause-line : goal.returns-clause-line
returns-clause-line c =
    let h = c.args.history.now in
    let w0 : Work = c.args.work.now in
    let w1 : Work = c.deny.new.work in
    let w2 : Work = c.true_or_false.new.work in
    let w3 : Work = c.cut.new.work in
    let g02 : WorkGrows h w0 w2 = (WorkGrows-trans c.args.history.now c.args.work.now c.deny.new.work c.true_or_false.new.work c.deny.ensures.grows c.true_or_false.ensures.grows) in
    let p : Term = term_at w0.bank c.args.p in
    let id = c.in_ok-denied.denied in
    let denotes : term_at w1.bank id ≡ not_term p = c.in_ok-denied.ensures.denied.denotes in
    let same : term_at w2.bank c.args.p ≡ p = (same_term_grown c.args.history.now c.args.work.now c.true_or_false.new.work c.args.p (WorkGrows-trans c.args.history.now c.args.work.now c.deny.new.work c.true_or_false.new.work c.deny.ensures.grows c.true_or_false.ensures.grows) c.requires.term) in
    let law : LineHasOnly w2 c.in_ok-law.law (not_term p ∷ equal_term (not_term p) false_term ∷ []) = subst (λ v. LineHasOnly w2 c.in_ok-law.law (v ∷ equal_term v false_term ∷ [])) denotes c.in_ok-law.ensures.line in
    for_ok c.cut.result (CutsTo w2 w3 (term_at w2.bank c.args.p) c.args.line c.in_ok-law.law) (MakesOf w0 w3 (p) (equal_term (not_term p) false_term) c.args.line) (λ n f.
    made_by_cut h w0 w2 w3 (p) (equal_term (not_term p) false_term) c.args.line c.in_ok-law.law n c.requires.stands g02 law (cuts_by w2 w3 (term_at w2.bank c.args.p) (p) c.args.line c.in_ok-law.law n same f)) c.cut.ensures.line
