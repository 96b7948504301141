use Rattle.std.proofs.Common.{◌≡◌, ◌∷◌, ◌∙◌, [], ap, subst}
use Rattle.nq_logic.specs.Terms.{Term}
use Rattle.nq_logic.specs.Words.{equal_term}
use Rattle.nq_proof.specs.Rules.{Backwards}
use Rattle.nq_rule.proofs.Made.{for_ok}
use Rattle.nq_bank.specs.Content.{term_at}
use Rattle.nq_kernel.specs.declared.work.Work.{Work}
use Rattle.nq_kernel.specs.Growing.{WorkGrows}
use Rattle.nq_kernel.proofs.GrowingLemmas.{WorkGrows-trans}
use Rattle.nq_lines.specs.Lines.{LineHasOnly, MakesOf, RewritesTo}
use Rattle.nq_lines.proofs.LineLemmas.{line_grown}
use Rattle.nq_lines.proofs.TermLemmas.{same_term_grown, term_grown}
use Rattle.nq_types.specs.Parts.{constant_of, recognizer_of}
use Rattle.nq_types.specs.TypeSets.{recognized_by}
use Rattle.nq_types.proofs.ConstantLemmas.{equation_turned}
use Rattle.nq_types.proofs.constants.by_equation.Goals as goal

pub recognized-requires-clause-term : goal.recognized-requires-clause-term
recognized-requires-clause-term c = term_grown c.args.history.now c.args.work.now c.equate.new.work c.args.t c.requires.stands c.equate.ensures.grows c.requires.term

pub recognizer_opens-requires-clause-term : goal.recognizer_opens-requires-clause-term
recognizer_opens-requires-clause-term c =
    term_grown c.args.history.now c.args.work.now c.recognized.new.work c.args.t c.requires.stands (WorkGrows-trans c.args.history.now c.args.work.now c.equate.new.work c.recognized.new.work c.equate.ensures.grows c.recognized.ensures.grows) c.requires.term

pub returns-in_err-r-clause-grows : goal.returns-in_err-r-clause-grows
returns-in_err-r-clause-grows c = WorkGrows-trans c.args.history.now c.args.work.now c.equate.new.work c.recognized.new.work c.equate.ensures.grows c.recognized.ensures.grows

pub returns-in_err-law-clause-grows : goal.returns-in_err-law-clause-grows
returns-in_err-law-clause-grows c =
    WorkGrows-trans c.args.history.now c.args.work.now c.equate.new.work c.recognizer_opens.new.work c.equate.ensures.grows (WorkGrows-trans c.args.history.now c.equate.new.work c.recognized.new.work c.recognizer_opens.new.work c.recognized.ensures.grows c.recognizer_opens.ensures.grows)

pub rewrite_literal-requires-clause-left : goal.rewrite_literal-requires-clause-left
rewrite_literal-requires-clause-left c =
    term_grown c.args.history.now c.equate.new.work c.recognizer_opens.new.work c.in_ok-e.e c.equate.ensures.grows.stands (WorkGrows-trans c.args.history.now c.equate.new.work c.recognized.new.work c.recognizer_opens.new.work c.recognized.ensures.grows c.recognizer_opens.ensures.grows) c.in_ok-e.ensures.over

pub rewrite_literal-requires-clause-right : goal.rewrite_literal-requires-clause-right
rewrite_literal-requires-clause-right c = term_grown c.args.history.now c.recognized.new.work c.recognizer_opens.new.work c.in_ok-r.r c.recognized.ensures.grows.stands c.recognizer_opens.ensures.grows c.in_ok-r.ensures.over

pub rewrite_literal-requires-clause-line : goal.rewrite_literal-requires-clause-line
rewrite_literal-requires-clause-line c =
    line_grown c.args.history.now c.args.work.now c.recognizer_opens.new.work c.args.line c.requires.stands (WorkGrows-trans c.args.history.now c.args.work.now c.equate.new.work c.recognizer_opens.new.work c.equate.ensures.grows (WorkGrows-trans c.args.history.now c.equate.new.work c.recognized.new.work c.recognizer_opens.new.work c.recognized.ensures.grows c.recognizer_opens.ensures.grows)) c.requires.line

pub returns-clause-grows : goal.returns-clause-grows
returns-clause-grows c =
    WorkGrows-trans c.args.history.now c.args.work.now c.equate.new.work c.rewrite_literal.new.work c.equate.ensures.grows (WorkGrows-trans c.args.history.now c.equate.new.work c.recognized.new.work c.rewrite_literal.new.work c.recognized.ensures.grows
    (WorkGrows-trans c.args.history.now c.recognized.new.work c.recognizer_opens.new.work c.rewrite_literal.new.work c.recognizer_opens.ensures.grows c.rewrite_literal.ensures.grows))

pub returns-clause-line : goal.returns-clause-line
returns-clause-line c =
    let h = c.args.history.now in
    let w0 : Work = c.args.work.now in
    let w1 : Work = c.equate.new.work in
    let w2 : Work = c.recognized.new.work in
    let w3 : Work = c.recognizer_opens.new.work in
    let w4 : Work = c.rewrite_literal.new.work in
    let g01 : WorkGrows h w0 w1 = c.equate.ensures.grows in
    let g13 : WorkGrows h w1 w3 = WorkGrows-trans h w1 w2 w3 c.recognized.ensures.grows c.recognizer_opens.ensures.grows in
    let g02 : WorkGrows h w0 w2 = WorkGrows-trans h w0 w1 w2 g01 c.recognized.ensures.grows in
    let g03 : WorkGrows h w0 w3 = WorkGrows-trans h w0 w1 w3 g01 g13 in
    let t : Term = term_at w0.bank c.args.t in
    let K : Term = constant_of c.args.truth in
    let R = recognizer_of c.args.truth in
    let e = c.in_ok-e.e in
    let r = c.in_ok-r.r in
    let law = c.in_ok-law.law in
    let eq : Term = equal_term t K in
    let rec : Term = recognized_by R t in
    let e3 : term_at w3.bank e ≡ eq = same_term_grown h w1 w3 e g13 c.in_ok-e.ensures.over ∙ c.in_ok-e.ensures.equation.denotes ∙ ap (equal_term t) c.requires.denotes in
    let r3 : term_at w3.bank r ≡ rec = same_term_grown h w2 w3 r c.recognizer_opens.ensures.grows c.in_ok-r.ensures.over ∙ c.in_ok-r.ensures.call.denotes ∙ ap (recognized_by R) (same_term_grown h w0 w1 c.args.t g01 c.requires.term) in
    let shown : LineHasOnly w3 law (equal_term rec eq ∷ []) = subst (λ u. LineHasOnly w3 law (equal_term (recognized_by R u) (equal_term u K) ∷ [])) (same_term_grown h w0 w2 c.args.t g02 c.requires.term) c.in_ok-law.ensures.line in
    for_ok c.rewrite_literal.result (RewritesTo w3 w4 Backwards (term_at w3.bank e) (term_at w3.bank r) c.args.line law) (MakesOf w0 w4 eq rec c.args.line) (λ n f.
    equation_turned h w0 w3 w4 eq rec c.args.line law n c.requires.stands g03
    (subst (λ u. RewritesTo w3 w4 Backwards eq u c.args.line law n) r3 (subst (λ v. RewritesTo w3 w4 Backwards v (term_at w3.bank r) c.args.line law n) e3 f)) shown) c.rewrite_literal.ensures.line
