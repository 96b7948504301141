use Rattle.nq_bank.specs.Content.{term_at}
use Rattle.nq_kernel.proofs.GrowingLemmas.{WorkGrows-trans}
use Rattle.nq_lines.specs.Lines.{CutsTo}
use Rattle.nq_lines.proofs.LineLemmas.{line_grown, only_stands}
use Rattle.nq_lines.proofs.TermLemmas.{term_grown}
use Rattle.nq_rule.proofs.Made.{for_ok}
use Rattle.nq_replay.specs.LawClauses.{pair_holds_clause}
use Rattle.nq_eliminate.specs.Supposing.{PairsTo}
use Rattle.nq_eliminate.proofs.SupposingLemmas.{holds_only, pairs_made}
use Rattle.nq_eliminate.proofs.supposing.joined.Goals as goal

pub law_at-requires-clause-law : goal.law_at-requires-clause-law
law_at-requires-clause-law c = only_stands c.pair_law.new.work c.in_ok-law.law pair_holds_clause (holds_only c.pair_law.new.work c.in_ok-law.law pair_holds_clause c.in_ok-law.ensures.line)

pub law_at-requires-clause-left : goal.law_at-requires-clause-left
law_at-requires-clause-left c = term_grown c.args.history.now c.args.work.now c.pair_law.new.work c.args.p c.requires.stands c.pair_law.ensures.grows c.requires.left

pub law_at-requires-clause-right : goal.law_at-requires-clause-right
law_at-requires-clause-right c = term_grown c.args.history.now c.args.work.now c.pair_law.new.work c.args.q c.requires.stands c.pair_law.ensures.grows c.requires.right

pub returns-in_err-here-clause-grows : goal.returns-in_err-here-clause-grows
returns-in_err-here-clause-grows c = WorkGrows-trans c.args.history.now c.args.work.now c.pair_law.new.work c.law_at.new.work c.pair_law.ensures.grows c.law_at.ensures.grows

pub cut-requires-clause-first : goal.cut-requires-clause-first
cut-requires-clause-first c =
    let grows = WorkGrows-trans c.args.history.now c.args.work.now c.pair_law.new.work c.law_at.new.work c.pair_law.ensures.grows c.law_at.ensures.grows in
    line_grown c.args.history.now c.args.work.now c.law_at.new.work c.args.first c.requires.stands grows c.requires.first

pub cut-requires-clause-second : goal.cut-requires-clause-second
cut-requires-clause-second c =
    only_stands c.law_at.new.work c.in_ok-here.here _ (c.in_ok-here.ensures.line pair_holds_clause (holds_only c.pair_law.new.work c.in_ok-law.law pair_holds_clause c.in_ok-law.ensures.line))

pub cut-requires-clause-term : goal.cut-requires-clause-term
cut-requires-clause-term c =
    let grows = WorkGrows-trans c.args.history.now c.args.work.now c.pair_law.new.work c.law_at.new.work c.pair_law.ensures.grows c.law_at.ensures.grows in
    term_grown c.args.history.now c.args.work.now c.law_at.new.work c.args.p c.requires.stands grows c.requires.left

pub returns-in_err-rest-clause-grows : goal.returns-in_err-rest-clause-grows
returns-in_err-rest-clause-grows c =
    let grows = WorkGrows-trans c.args.history.now c.args.work.now c.pair_law.new.work c.law_at.new.work c.pair_law.ensures.grows c.law_at.ensures.grows in
    WorkGrows-trans c.args.history.now c.args.work.now c.law_at.new.work c.cut.new.work grows c.cut.ensures.grows

pub cut-requires-2-clause-first : goal.cut-requires-2-clause-first
cut-requires-2-clause-first c =
    let grows = WorkGrows-trans c.args.history.now c.args.work.now c.pair_law.new.work c.law_at.new.work c.pair_law.ensures.grows c.law_at.ensures.grows in
    let on = WorkGrows-trans c.args.history.now c.args.work.now c.law_at.new.work c.cut.new.work grows c.cut.ensures.grows in
    line_grown c.args.history.now c.args.work.now c.cut.new.work c.args.second c.requires.stands on c.requires.second

pub cut-requires-2-clause-term : goal.cut-requires-2-clause-term
cut-requires-2-clause-term c =
    let grows = WorkGrows-trans c.args.history.now c.args.work.now c.pair_law.new.work c.law_at.new.work c.pair_law.ensures.grows c.law_at.ensures.grows in
    let on = WorkGrows-trans c.args.history.now c.args.work.now c.law_at.new.work c.cut.new.work grows c.cut.ensures.grows in
    term_grown c.args.history.now c.args.work.now c.cut.new.work c.args.q c.requires.stands on c.requires.right

pub returns-clause-line : goal.returns-clause-line
returns-clause-line c =
    let h = c.args.history.now in
    let w0 = c.args.work.now in
    let w1 = c.pair_law.new.work in
    let w2 = c.law_at.new.work in
    let w3 = c.cut.new.work in
    let w4 = c.cut-2.new.work in
    for_ok c.cut-2.result (CutsTo w3 w4 (term_at w3.bank c.args.q) c.args.second c.in_ok-rest.rest) (PairsTo w0 w4 (term_at w0.bank c.args.p) (term_at w0.bank c.args.q) c.args.first c.args.second)
    (λ n cuts. pairs_made h w0 w1 w2 w3 c.requires.stands c.pair_law.ensures.grows c.law_at.ensures.grows c.args.p c.args.q c.requires.left c.requires.right w4 c.cut.ensures.grows c.args.first c.args.second c.in_ok-law.law c.in_ok-here.here c.in_ok-rest.rest n c.in_ok-law.ensures.line c.in_ok-here.ensures.line c.in_ok-rest.ensures.line cuts) c.cut-2.ensures.line

pub returns-clause-grows : goal.returns-clause-grows
returns-clause-grows c =
    let grows = WorkGrows-trans c.args.history.now c.args.work.now c.pair_law.new.work c.law_at.new.work c.pair_law.ensures.grows c.law_at.ensures.grows in
    let on = WorkGrows-trans c.args.history.now c.args.work.now c.law_at.new.work c.cut.new.work grows c.cut.ensures.grows in
    WorkGrows-trans c.args.history.now c.args.work.now c.cut.new.work c.cut-2.new.work on c.cut-2.ensures.grows
