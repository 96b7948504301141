use Rattle.nq_bank.specs.Content.{term_at}
use Rattle.nq_kernel.proofs.GrowingLemmas.{WorkGrows-trans}
use Rattle.nq_lines.specs.Lines.{CutsTo}
use Rattle.nq_lines.proofs.LineLemmas.{line_grown, only_stands}
use Rattle.nq_lines.proofs.TermLemmas.{term_grown}
use Rattle.nq_rule.proofs.Made.{for_ok}
use Rattle.nq_replay.specs.LawClauses.{implication_opens_clause}
use Rattle.nq_eliminate.specs.Supposing.{OpensTo}
use Rattle.nq_eliminate.proofs.SupposingLemmas.{holds_only, opens_made}
use Rattle.nq_eliminate.proofs.supposing.opened.Goals as goal

pub law_at-requires-clause-law : goal.law_at-requires-clause-law
law_at-requires-clause-law c = only_stands c.implication_law.new.work c.in_ok-law.law implication_opens_clause (holds_only c.implication_law.new.work c.in_ok-law.law implication_opens_clause c.in_ok-law.ensures.line)

pub law_at-requires-clause-left : goal.law_at-requires-clause-left
law_at-requires-clause-left c = term_grown c.args.history.now c.args.work.now c.implication_law.new.work c.args.p c.requires.stands c.implication_law.ensures.grows c.requires.left

pub law_at-requires-clause-right : goal.law_at-requires-clause-right
law_at-requires-clause-right c = term_grown c.args.history.now c.args.work.now c.implication_law.new.work c.args.q c.requires.stands c.implication_law.ensures.grows c.requires.right

pub returns-in_err-here-clause-grows : goal.returns-in_err-here-clause-grows
returns-in_err-here-clause-grows c = WorkGrows-trans c.args.history.now c.args.work.now c.implication_law.new.work c.law_at.new.work c.implication_law.ensures.grows c.law_at.ensures.grows

pub cut-requires-clause-first : goal.cut-requires-clause-first
cut-requires-clause-first c =
    let grows = WorkGrows-trans c.args.history.now c.args.work.now c.implication_law.new.work c.law_at.new.work c.implication_law.ensures.grows c.law_at.ensures.grows in
    line_grown c.args.history.now c.args.work.now c.law_at.new.work c.args.line c.requires.stands grows c.requires.line

pub cut-requires-clause-second : goal.cut-requires-clause-second
cut-requires-clause-second c =
    only_stands c.law_at.new.work c.in_ok-here.here _ (c.in_ok-here.ensures.line implication_opens_clause (holds_only c.implication_law.new.work c.in_ok-law.law implication_opens_clause c.in_ok-law.ensures.line))

pub cut-requires-clause-term : goal.cut-requires-clause-term
cut-requires-clause-term c =
    let grows = WorkGrows-trans c.args.history.now c.args.work.now c.implication_law.new.work c.law_at.new.work c.implication_law.ensures.grows c.law_at.ensures.grows in
    term_grown c.args.history.now c.args.work.now c.law_at.new.work c.args.whole c.requires.stands grows c.requires.whole

pub returns-clause-line : goal.returns-clause-line
returns-clause-line c =
    let h = c.args.history.now in
    let w0 = c.args.work.now in
    let w1 = c.implication_law.new.work in
    let w2 = c.law_at.new.work in
    let w3 = c.cut.new.work in
    for_ok c.cut.result (CutsTo w2 w3 (term_at w2.bank c.args.whole) c.args.line c.in_ok-here.here) (OpensTo w0 w3 (term_at w0.bank c.args.p) (term_at w0.bank c.args.q) c.args.line)
    (λ n cuts. opens_made h w0 w1 w2 w3 c.requires.stands c.implication_law.ensures.grows c.law_at.ensures.grows c.args.p c.args.q c.requires.left c.requires.right c.args.whole c.args.line c.in_ok-law.law c.in_ok-here.here n c.requires.whole c.requires.whole_is c.in_ok-law.ensures.line c.in_ok-here.ensures.line cuts) c.cut.ensures.line

pub returns-clause-grows : goal.returns-clause-grows
returns-clause-grows c =
    let grows = WorkGrows-trans c.args.history.now c.args.work.now c.implication_law.new.work c.law_at.new.work c.implication_law.ensures.grows c.law_at.ensures.grows in
    WorkGrows-trans c.args.history.now c.args.work.now c.law_at.new.work c.cut.new.work grows c.cut.ensures.grows
