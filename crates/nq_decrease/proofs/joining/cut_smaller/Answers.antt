use Rattle.std.proofs.Common.{subst}
use Rattle.nq_bank.specs.Content.{term_at}
use Rattle.nq_rule.proofs.Made.{for_ok}
use Rattle.nq_arith.specs.Nests.{is_smaller}
use Rattle.nq_lines.specs.Lines.{CutsTo}
use Rattle.nq_replay.proofs.UncountedLemmas.{grown_trans}
use Rattle.nq_decrease.proofs.DescentLemmas.{cut_since}
use Rattle.nq_decrease.proofs.joining.cut_smaller.Goals as goal

pub returns-clause-line : goal.returns-clause-line
returns-clause-line c =
    let old = c.args.work.now in
    let mid = c.smaller_term.new.work in
    let new = c.cut.new.work in
    let v = is_smaller (term_at old.bank c.args.t) (term_at old.bank c.args.u) in
    for_ok c.cut.result (CutsTo mid new (term_at mid.bank c.in_ok-smaller.smaller) c.args.a c.args.b) (CutsTo old new v c.args.a c.args.b) (λ n h.
    cut_since c.args.history.now old mid c.smaller_term.ensures.grows.grows v c.args.a c.args.b n new c.requires.stands (subst (λ u. CutsTo mid new u c.args.a c.args.b n) c.in_ok-smaller.ensures.smaller.denotes h)) c.cut.ensures.line

pub returns-clause-grows : goal.returns-clause-grows
returns-clause-grows c = grown_trans c.args.history.now c.args.work.now c.smaller_term.new.work c.cut.new.work c.smaller_term.ensures.grows c.cut.ensures.grows
