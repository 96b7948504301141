use Rattle.std.proofs.Common.{◌∷◌, subst}
use Rattle.nq_logic.specs.Words.{equal_term}
use Rattle.nq_bank.specs.Content.{term_at}
use Rattle.nq_rule.proofs.Made.{for_ok}
use Rattle.nq_kernel.specs.declared.work.Work.{Work}
use Rattle.nq_kernel.specs.Growing.{WorkGrows}
use Rattle.nq_kernel.proofs.GrowingLemmas.{WorkGrows-trans}
use Rattle.nq_lines.specs.Lines.{JoinsTo, MeetsIn}
use Rattle.nq_lines.proofs.LineLemmas.{only_grown, line_grown}
use Rattle.nq_lines.proofs.TermLemmas.{term_grown, same_term_grown}
use Rattle.nq_lines.proofs.equality.meet.Goals as goal

pub transitive-requires-clause-left : goal.transitive-requires-clause-left
transitive-requires-clause-left c = (term_grown c.args.history.now c.args.work.now c.symmetric.new.work c.args.t c.requires.stands c.symmetric.ensures.grows c.requires.left)

pub transitive-requires-clause-middle : goal.transitive-requires-clause-middle
transitive-requires-clause-middle c = (term_grown c.args.history.now c.args.work.now c.symmetric.new.work c.args.u c.requires.stands c.symmetric.ensures.grows c.requires.middle)

pub transitive-requires-clause-right : goal.transitive-requires-clause-right
transitive-requires-clause-right c = (term_grown c.args.history.now c.args.work.now c.symmetric.new.work c.args.v c.requires.stands c.symmetric.ensures.grows c.requires.right)

pub transitive-requires-clause-first : goal.transitive-requires-clause-first
transitive-requires-clause-first c = (line_grown c.args.history.now c.args.work.now c.symmetric.new.work c.args.first c.requires.stands c.symmetric.ensures.grows c.requires.first)

pub returns-clause-grows : goal.returns-clause-grows
returns-clause-grows c = (WorkGrows-trans c.args.history.now c.args.work.now c.symmetric.new.work c.transitive.new.work c.symmetric.ensures.grows c.transitive.ensures.grows)

pub returns-clause-line : goal.returns-clause-line
returns-clause-line c =
    let h = c.args.history.now in
    let w0 : Work = c.args.work.now in
    let w1 : Work = c.symmetric.new.work in
    let w2 : Work = c.transitive.new.work in
    let g01 : WorkGrows h w0 w1 = c.symmetric.ensures.grows in
    for_ok c.transitive.result (JoinsTo w1 w2 (term_at w1.bank c.args.t) (term_at w1.bank c.args.u) (term_at w1.bank c.args.v) c.args.first c.in_ok-turned.turned) (MeetsIn w0 w2 (term_at w0.bank c.args.t) (term_at w0.bank c.args.u) (term_at w0.bank c.args.v) c.args.first c.args.second) (λ n f these one two.
    (subst (λ z. JoinsTo w1 w2 (term_at w0.bank c.args.t) (term_at w0.bank c.args.u) z c.args.first c.in_ok-turned.turned n) (same_term_grown h w0 w1 c.args.v g01 c.requires.right) (subst (λ z. JoinsTo w1 w2 (term_at w0.bank c.args.t) z (term_at w1.bank c.args.v) c.args.first c.in_ok-turned.turned n) (same_term_grown h w0 w1 c.args.u g01 c.requires.middle) (subst (λ z. JoinsTo w1 w2 z (term_at w1.bank c.args.u) (term_at w1.bank c.args.v) c.args.first c.in_ok-turned.turned n) (same_term_grown h w0 w1 c.args.t g01 c.requires.left) f))) these (only_grown h w0 w1 c.args.first (equal_term (term_at w0.bank c.args.t) (term_at w0.bank c.args.u) ∷ these) c.requires.stands g01 one) (c.in_ok-turned.ensures.line these two)) c.transitive.ensures.line
