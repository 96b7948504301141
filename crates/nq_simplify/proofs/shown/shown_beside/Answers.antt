use Rattle.std.proofs.Common.{◌≡◌, List, ◌∷◌, ◌∙◌, sym, subst, ap}
use Rattle.nq_logic.specs.Words.{not_term}
use Rattle.nq_bank.specs.declared.node.TermId.{TermId}
use Rattle.nq_bank.specs.Content.{term_at, terms_at}
use Rattle.nq_kernel.specs.declared.work.Work.{Work}
use Rattle.nq_kernel.specs.Growing.{WorkGrows}
use Rattle.nq_kernel.proofs.GrowingLemmas.{WorkGrows-trans}
use Rattle.nq_lines.specs.Lines.{LineHasOnly}
use Rattle.nq_lines.proofs.FactLemmas.{own_terms_grown}
use Rattle.nq_lines.proofs.TermLemmas.{term_grown, same_term_grown}
use Rattle.nq_simplify.specs.Simplified.{IsNewLiteral}
use Rattle.nq_simplify.proofs.SimplifiedLemmas.{goal_grown, goal_in}
use Rattle.nq_simplify.proofs.OutcomeLemmas.{if_some}
use Rattle.nq_simplify.proofs.shown.shown_beside.Goals as goal

pub denied_twice-requires-clause-term : goal.denied_twice-requires-clause-term
denied_twice-requires-clause-term g c =
    term_grown c.args.history.now c.args.work.now c.truth.new.work c.args.t c.requires.stands c.truth.ensures.grows c.requires.term

pub returns-in_err-twice-clause-grows : goal.returns-in_err-twice-clause-grows
returns-in_err-twice-clause-grows g c =
    WorkGrows-trans c.args.history.now c.args.work.now c.truth.new.work c.denied_twice.new.work c.truth.ensures.grows c.denied_twice.ensures.grows

pub rewrite-requires-clause-ready : goal.rewrite-requires-clause-ready
rewrite-requires-clause-ready g c =
    own_terms_grown c.args.history.now c.args.work.now c.denied_twice.new.work (WorkGrows-trans c.args.history.now c.args.work.now c.truth.new.work c.denied_twice.new.work c.truth.ensures.grows c.denied_twice.ensures.grows) c.requires.stands c.requires.ready

pub rewrite-requires-clause-others : goal.rewrite-requires-clause-others
rewrite-requires-clause-others g c =
    goal_in c.args.history.now c.args.work.now c.denied_twice.new.work c.args.others.now c.requires.stands (WorkGrows-trans c.args.history.now c.args.work.now c.truth.new.work c.denied_twice.new.work c.truth.ensures.grows c.denied_twice.ensures.grows) c.requires.others

pub returns-in_err-found-clause-grows : goal.returns-in_err-found-clause-grows
returns-in_err-found-clause-grows g c =
    let h = c.args.history.now in
    let w0 : Work = c.args.work.now in
    let w1 : Work = c.truth.new.work in
    let w2 : Work = c.denied_twice.new.work in
    let w3 : Work = c.rewrite.new.work in
    let g02 : WorkGrows h w0 w2 = WorkGrows-trans h w0 w1 w2 c.truth.ensures.grows c.denied_twice.ensures.grows in
    let g03 : WorkGrows h w0 w3 = WorkGrows-trans h w0 w2 w3 g02 c.rewrite.ensures.grows in
    g03

pub undenied-requires-clause-others : goal.undenied-requires-clause-others
undenied-requires-clause-others g c =
    let h = c.args.history.now in
    let w0 : Work = c.args.work.now in
    let w1 : Work = c.truth.new.work in
    let w2 : Work = c.denied_twice.new.work in
    let w3 : Work = c.rewrite.new.work in
    let g02 : WorkGrows h w0 w2 = WorkGrows-trans h w0 w1 w2 c.truth.ensures.grows c.denied_twice.ensures.grows in
    let g03 : WorkGrows h w0 w3 = WorkGrows-trans h w0 w2 w3 g02 c.rewrite.ensures.grows in
    goal_in h w0 w3 c.args.others.now c.requires.stands g03 c.requires.others

pub undenied-requires-clause-term : goal.undenied-requires-clause-term
undenied-requires-clause-term g c =
    let h = c.args.history.now in
    let w0 : Work = c.args.work.now in
    let w1 : Work = c.truth.new.work in
    let w2 : Work = c.denied_twice.new.work in
    let w3 : Work = c.rewrite.new.work in
    let g02 : WorkGrows h w0 w2 = WorkGrows-trans h w0 w1 w2 c.truth.ensures.grows c.denied_twice.ensures.grows in
    let g03 : WorkGrows h w0 w3 = WorkGrows-trans h w0 w2 w3 g02 c.rewrite.ensures.grows in
    term_grown h w0 w3 c.args.t c.requires.stands g03 c.requires.term

pub undenied-requires-clause-twice : goal.undenied-requires-clause-twice
undenied-requires-clause-twice g c =
    let h = c.args.history.now in
    let w0 : Work = c.args.work.now in
    let w1 : Work = c.truth.new.work in
    let w2 : Work = c.denied_twice.new.work in
    let w3 : Work = c.rewrite.new.work in
    let g02 : WorkGrows h w0 w2 = WorkGrows-trans h w0 w1 w2 c.truth.ensures.grows c.denied_twice.ensures.grows in
    let g03 : WorkGrows h w0 w3 = WorkGrows-trans h w0 w2 w3 g02 c.rewrite.ensures.grows in
    term_grown h w2 w3 c.in_ok-twice.twice g02.stands c.rewrite.ensures.grows c.in_ok-twice.ensures.over

pub undenied-requires-clause-is : goal.undenied-requires-clause-is
undenied-requires-clause-is g c =
    let h = c.args.history.now in
    let w0 : Work = c.args.work.now in
    let w1 : Work = c.truth.new.work in
    let w2 : Work = c.denied_twice.new.work in
    let w3 : Work = c.rewrite.new.work in
    let g02 : WorkGrows h w0 w2 = WorkGrows-trans h w0 w1 w2 c.truth.ensures.grows c.denied_twice.ensures.grows in
    let g03 : WorkGrows h w0 w3 = WorkGrows-trans h w0 w2 w3 g02 c.rewrite.ensures.grows in
    let same : term_at w3.bank c.in_ok-twice.twice ≡ term_at w2.bank c.in_ok-twice.twice = same_term_grown h w2 w3 c.in_ok-twice.twice c.rewrite.ensures.grows c.in_ok-twice.ensures.over in
    let then : term_at w1.bank c.args.t ≡ term_at w0.bank c.args.t = same_term_grown h w0 w1 c.args.t c.truth.ensures.grows c.requires.term in
    let now : term_at w3.bank c.args.t ≡ term_at w0.bank c.args.t = same_term_grown h w0 w3 c.args.t g03 c.requires.term in
    same ∙ c.in_ok-twice.ensures.is ∙ ap (λ u. not_term (not_term u)) (then ∙ sym now)

pub undenied-requires-clause-found : goal.undenied-requires-clause-found
undenied-requires-clause-found g c =
    let h = c.args.history.now in
    let w0 : Work = c.args.work.now in
    let w1 : Work = c.truth.new.work in
    let w2 : Work = c.denied_twice.new.work in
    let w3 : Work = c.rewrite.new.work in
    let g02 : WorkGrows h w0 w2 = WorkGrows-trans h w0 w1 w2 c.truth.ensures.grows c.denied_twice.ensures.grows in
    let g03 : WorkGrows h w0 w3 = WorkGrows-trans h w0 w2 w3 g02 c.rewrite.ensures.grows in
    let same : term_at w3.bank c.in_ok-twice.twice ≡ term_at w2.bank c.in_ok-twice.twice = same_term_grown h w2 w3 c.in_ok-twice.twice c.rewrite.ensures.grows c.in_ok-twice.ensures.over in
    let others : List TermId = c.args.others.now in
    let base : IsNewLiteral h w3 (terms_at w2.bank others) (term_at w2.bank c.in_ok-twice.twice) c.in-Some.found =
    if_some c.in_ok-found.field-0 (IsNewLiteral h w3 (terms_at w2.bank others) (term_at w2.bank c.in_ok-twice.twice)) c.in-Some.found c.in_ok-found.ensures.new c.in-Some.is in
    subst (λ ts. IsNewLiteral h w3 ts (term_at w3.bank c.in_ok-twice.twice) c.in-Some.found) (sym (goal_grown h w2 w3 others c.rewrite.ensures.grows (goal_in h w0 w2 others c.requires.stands g02 c.requires.others)))
    (subst (λ u. IsNewLiteral h w3 (terms_at w2.bank others) u c.in-Some.found) (sym same) base)

pub returns-in_err-line-in-Some-clause-grows : goal.returns-in_err-line-in-Some-clause-grows
returns-in_err-line-in-Some-clause-grows g c =
    let h = c.args.history.now in
    let w0 : Work = c.args.work.now in
    let w1 : Work = c.truth.new.work in
    let w2 : Work = c.denied_twice.new.work in
    let w3 : Work = c.rewrite.new.work in
    let g02 : WorkGrows h w0 w2 = WorkGrows-trans h w0 w1 w2 c.truth.ensures.grows c.denied_twice.ensures.grows in
    let g03 : WorkGrows h w0 w3 = WorkGrows-trans h w0 w2 w3 g02 c.rewrite.ensures.grows in
    let w4 : Work = c.undenied.new.work in
    WorkGrows-trans h w0 w3 w4 g03 c.undenied.ensures.grows

pub returns-in_ok-line-in-Some-clause-grows : goal.returns-in_ok-line-in-Some-clause-grows
returns-in_ok-line-in-Some-clause-grows g c =
    let h = c.args.history.now in
    let w0 : Work = c.args.work.now in
    let w1 : Work = c.truth.new.work in
    let w2 : Work = c.denied_twice.new.work in
    let w3 : Work = c.rewrite.new.work in
    let g02 : WorkGrows h w0 w2 = WorkGrows-trans h w0 w1 w2 c.truth.ensures.grows c.denied_twice.ensures.grows in
    let g03 : WorkGrows h w0 w3 = WorkGrows-trans h w0 w2 w3 g02 c.rewrite.ensures.grows in
    let w4 : Work = c.undenied.new.work in
    WorkGrows-trans h w0 w3 w4 g03 c.undenied.ensures.grows

pub returns-in_ok-line-in-Some-clause-line : goal.returns-in_ok-line-in-Some-clause-line
returns-in_ok-line-in-Some-clause-line g c =
    let h = c.args.history.now in
    let w0 : Work = c.args.work.now in
    let w1 : Work = c.truth.new.work in
    let w2 : Work = c.denied_twice.new.work in
    let w3 : Work = c.rewrite.new.work in
    let g02 : WorkGrows h w0 w2 = WorkGrows-trans h w0 w1 w2 c.truth.ensures.grows c.denied_twice.ensures.grows in
    let g03 : WorkGrows h w0 w3 = WorkGrows-trans h w0 w2 w3 g02 c.rewrite.ensures.grows in
    let w4 : Work = c.undenied.new.work in
    let others : List TermId = c.args.others.now in
    let now : term_at w3.bank c.args.t ≡ term_at w0.bank c.args.t = same_term_grown h w0 w3 c.args.t g03 c.requires.term in
    let rest : terms_at w3.bank others ≡ terms_at w0.bank others = goal_grown h w0 w3 others g03 c.requires.others in
    subst (λ u. LineHasOnly w4 c.in_ok-line-in-Some.line (u ∷ terms_at w0.bank others)) now
    (subst (λ ts. LineHasOnly w4 c.in_ok-line-in-Some.line (term_at w3.bank c.args.t ∷ ts)) rest c.in_ok-line-in-Some.ensures.line)

pub returns-else-eq-clause-grows : goal.returns-else-eq-clause-grows
returns-else-eq-clause-grows g c =
    let h = c.args.history.now in
    let w0 : Work = c.args.work.now in
    let w1 : Work = c.truth.new.work in
    let w2 : Work = c.denied_twice.new.work in
    let w3 : Work = c.rewrite.new.work in
    let g02 : WorkGrows h w0 w2 = WorkGrows-trans h w0 w1 w2 c.truth.ensures.grows c.denied_twice.ensures.grows in
    let g03 : WorkGrows h w0 w3 = WorkGrows-trans h w0 w2 w3 g02 c.rewrite.ensures.grows in
    g03

pub returns-in-None-clause-grows : goal.returns-in-None-clause-grows
returns-in-None-clause-grows g c =
    let h = c.args.history.now in
    let w0 : Work = c.args.work.now in
    let w1 : Work = c.truth.new.work in
    let w2 : Work = c.denied_twice.new.work in
    let w3 : Work = c.rewrite.new.work in
    let g02 : WorkGrows h w0 w2 = WorkGrows-trans h w0 w1 w2 c.truth.ensures.grows c.denied_twice.ensures.grows in
    let g03 : WorkGrows h w0 w3 = WorkGrows-trans h w0 w2 w3 g02 c.rewrite.ensures.grows in
    g03
