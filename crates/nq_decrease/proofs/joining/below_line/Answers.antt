use Rattle.std.proofs.Common.{subst}
use Rattle.nq_bank.specs.Content.{term_at}
use Rattle.nq_rule.proofs.Made.{for_ok}
use Rattle.nq_arith.specs.Nests.{is_smaller}
use Rattle.nq_lines.specs.Lines.{CutsTo}
use Rattle.nq_lines.proofs.TermLemmas.{term_grown}
use Rattle.nq_replay.proofs.UncountedLemmas.{grown_trans}
use Rattle.nq_decrease.specs.Nests.{Lowers}
use Rattle.nq_decrease.proofs.DescentLemmas.{lowered, smaller_grown}
use Rattle.nq_decrease.proofs.joining.below_line.Goals as goal

pub cut_smaller-requires-clause-left : goal.cut_smaller-requires-clause-left
cut_smaller-requires-clause-left c = term_grown c.args.history.now c.args.work.now c.below_at.new.work c.args.t c.requires.stands c.below_at.ensures.grows.grows c.requires.first

pub cut_smaller-requires-clause-right : goal.cut_smaller-requires-clause-right
cut_smaller-requires-clause-right c = term_grown c.args.history.now c.args.work.now c.below_at.new.work c.args.z c.requires.stands c.below_at.ensures.grows.grows c.requires.second

pub returns-clause-line : goal.returns-clause-line
returns-clause-line c =
    let h = c.args.history.now in
    let old = c.args.work.now in
    let one = c.below_at.new.work in
    let two = c.cut_smaller.new.work in
    let t = term_at old.bank c.args.t in
    let z = term_at old.bank c.args.z in
    let grows = c.below_at.ensures.grows.grows in
    let same = smaller_grown h old one grows c.args.t c.args.z c.requires.first c.requires.second in
    for_ok c.cut_smaller.result (CutsTo one two (is_smaller (term_at one.bank c.args.t) (term_at one.bank c.args.z)) c.args.line c.in_ok-law.law) (Lowers old two t z c.args.line) (λ n k.
    lowered h old one two t z c.args.line c.in_ok-law.law n c.requires.stands grows c.in_ok-law.ensures.line (subst (λ v. CutsTo one two v c.args.line c.in_ok-law.law n) same k)) c.cut_smaller.ensures.line

pub returns-clause-grows : goal.returns-clause-grows
returns-clause-grows c = grown_trans c.args.history.now c.args.work.now c.below_at.new.work c.cut_smaller.new.work c.below_at.ensures.grows c.cut_smaller.ensures.grows
