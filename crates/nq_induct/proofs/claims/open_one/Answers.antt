use Rattle.std.proofs.Common.{◌≡◌, ◌∷◌, ◌∙◌, [], subst}
use Rattle.nq_logic.specs.Terms.{Term}
use Rattle.nq_logic.specs.Words.{if_term, true_term, equal_term}
use Rattle.nq_bank.specs.Content.{term_at}
use Rattle.nq_proof.specs.Rules.{Forwards}
use Rattle.nq_rule.proofs.Made.{for_ok}
use Rattle.nq_kernel.specs.declared.work.Work.{Work}
use Rattle.nq_kernel.specs.Growing.{WorkGrows}
use Rattle.nq_kernel.proofs.GrowingLemmas.{WorkGrows-trans}
use Rattle.nq_lines.specs.Lines.{LineHasOnly, RewritesTo}
use Rattle.nq_lines.proofs.LineLemmas.{line_grown, only_stands}
use Rattle.nq_lines.proofs.TermLemmas.{term_grown, same_term_grown}
use Rattle.nq_induct.specs.Claims.{OpensTo}
use Rattle.nq_induct.proofs.ClaimLemmas.{opened_one}
use Rattle.nq_induct.proofs.claims.open_one.Goals as goal

pub second_chosen-requires-clause-first : goal.second_chosen-requires-clause-first
second_chosen-requires-clause-first c = c.requires.truth.term

pub rewrite_literal-requires-clause-left : goal.rewrite_literal-requires-clause-left
rewrite_literal-requires-clause-left c = term_grown c.args.history.now c.args.work.now c.second_chosen.new.work c.args.whole c.requires.stands c.second_chosen.ensures.grows c.requires.over

pub rewrite_literal-requires-clause-right : goal.rewrite_literal-requires-clause-right
rewrite_literal-requires-clause-right c = term_grown c.args.history.now c.args.work.now c.second_chosen.new.work c.args.u c.requires.stands c.second_chosen.ensures.grows c.requires.second

pub rewrite_literal-requires-clause-line : goal.rewrite_literal-requires-clause-line
rewrite_literal-requires-clause-line c = line_grown c.args.history.now c.args.work.now c.second_chosen.new.work c.args.line c.requires.stands c.second_chosen.ensures.grows c.requires.line

pub rewrite_literal-requires-clause-equation : goal.rewrite_literal-requires-clause-equation
rewrite_literal-requires-clause-equation c = only_stands c.second_chosen.new.work c.in_ok-equation.equation _ c.in_ok-equation.ensures.line

pub returns-clause-grows : goal.returns-clause-grows
returns-clause-grows c = WorkGrows-trans c.args.history.now c.args.work.now c.second_chosen.new.work c.rewrite_literal.new.work c.second_chosen.ensures.grows c.rewrite_literal.ensures.grows

pub returns-clause-line : goal.returns-clause-line
returns-clause-line c =
    let h = c.args.history.now in
    let w0 : Work = c.args.work.now in
    let w1 : Work = c.second_chosen.new.work in
    let w2 : Work = c.rewrite_literal.new.work in
    let g01 : WorkGrows h w0 w1 = c.second_chosen.ensures.grows in
    let t : Term = term_at w0.bank c.args.t in
    let u : Term = term_at w0.bank c.args.u in
    let whole : term_at w1.bank c.args.whole ≡ if_term t true_term u = same_term_grown h w0 w1 c.args.whole g01 c.requires.over ∙ c.requires.whole.denotes in
    let second : term_at w1.bank c.args.u ≡ u = same_term_grown h w0 w1 c.args.u g01 c.requires.second in
    let shown : LineHasOnly w1 c.in_ok-equation.equation (t ∷ equal_term (if_term t true_term u) u ∷ []) = subst (λ (v : Term). LineHasOnly w1 c.in_ok-equation.equation (t ∷ equal_term (if_term t v u) u ∷ [])) c.requires.truth.is.denotes c.in_ok-equation.ensures.line in
    for_ok c.rewrite_literal.result (RewritesTo w1 w2 Forwards (term_at w1.bank c.args.whole) (term_at w1.bank c.args.u) c.args.line c.in_ok-equation.equation) (OpensTo w0 w2 (if_term t true_term u) (u ∷ t ∷ []) c.args.line) (λ n f.
    opened_one h w0 w1 w2 c.requires.stands t u (term_at w1.bank c.args.whole) c.args.line c.in_ok-equation.equation n whole g01 shown
    (subst (λ (v : Term). RewritesTo w1 w2 Forwards (term_at w1.bank c.args.whole) v c.args.line c.in_ok-equation.equation n) second f)) c.rewrite_literal.ensures.line
