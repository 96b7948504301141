use Rattle.std.proofs.Common.{◌≡◌, ◌∷◌, ◌∙◌, [], subst}
use Rattle.nq_logic.specs.Terms.{Term}
use Rattle.nq_logic.specs.Words.{equal_term}
use Rattle.nq_rule.proofs.Made.{for_ok}
use Rattle.nq_bank.specs.Content.{term_at}
use Rattle.nq_kernel.specs.declared.work.Work.{Work}
use Rattle.nq_kernel.proofs.GrowingLemmas.{WorkGrows-trans}
use Rattle.nq_lines.specs.Lines.{LineHasOnly, MakesOf}
use Rattle.nq_lines.proofs.LineLemmas.{leads_only}
use Rattle.nq_lines.proofs.TermLemmas.{same_term_grown, term_grown}
use Rattle.nq_types.specs.Parts.{constant_of, recognizer_of}
use Rattle.nq_types.specs.TypeSets.{recognized_by}
use Rattle.nq_types.proofs.constants.constant_line.Goals as goal

pub by_equation-requires-clause-term : goal.by_equation-requires-clause-term
by_equation-requires-clause-term c = term_grown c.args.history.now c.args.work.now c.reflexive.new.work c.args.c c.requires.stands c.reflexive.ensures.grows c.requires.constant

pub by_equation-requires-clause-constant : goal.by_equation-requires-clause-constant
by_equation-requires-clause-constant c = term_grown c.args.history.now c.args.work.now c.reflexive.new.work c.args.c c.requires.stands c.reflexive.ensures.grows c.requires.constant

pub by_equation-requires-clause-denotes : goal.by_equation-requires-clause-denotes
by_equation-requires-clause-denotes c = same_term_grown c.args.history.now c.args.work.now c.reflexive.new.work c.args.c c.reflexive.ensures.grows c.requires.constant ∙ c.requires.denotes

pub returns-clause-grows : goal.returns-clause-grows
returns-clause-grows c = WorkGrows-trans c.args.history.now c.args.work.now c.reflexive.new.work c.by_equation.new.work c.reflexive.ensures.grows c.by_equation.ensures.grows

pub returns-clause-line : goal.returns-clause-line
returns-clause-line c =
    let h = c.args.history.now in
    let w0 : Work = c.args.work.now in
    let w1 : Work = c.reflexive.new.work in
    let w2 : Work = c.by_equation.new.work in
    let t : Term = term_at w0.bank c.args.c in
    let K : Term = constant_of c.args.truth in
    let R = recognizer_of c.args.truth in
    let line = c.in_ok-line.line in
    let same : term_at w1.bank c.args.c ≡ t = same_term_grown h w0 w1 c.args.c c.reflexive.ensures.grows c.requires.constant in
    for_ok c.by_equation.result (MakesOf w1 w2 (equal_term (term_at w1.bank c.args.c) K) (recognized_by R (term_at w1.bank c.args.c)) line) (λ n. LineHasOnly w2 n (recognized_by R t ∷ [])) (λ n f.
    let g : MakesOf w1 w2 (equal_term t K) (recognized_by R t) line n = subst (λ u. MakesOf w1 w2 (equal_term u K) (recognized_by R u) line n) same f in
    g [] (subst (λ u. LineHasOnly w1 line (equal_term t u ∷ [])) c.requires.denotes (leads_only w1 line (equal_term t t) [] c.in_ok-line.ensures.line))) c.by_equation.ensures.line
