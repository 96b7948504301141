use Rattle.std.proofs.Common.{List, ap, sym}
use Rattle.nq_logic.specs.Terms.{Term}
use Rattle.nq_logic.specs.Words.{if_term, not_term}
use Rattle.nq_bank.specs.Content.{Content, term_at, terms_at}
use Rattle.nq_kernel.specs.declared.work.Work.{Work}
use Rattle.nq_reduce.specs.Rewriting.{branch_of}
use Rattle.nq_reduce.proofs.RewritingLemmas.{known_true, known_untrue, taken}
use Rattle.nq_reduce.proofs.branches.chosen.Goals as goal

pub returns-in_ok-line-clause-ok : goal.returns-in_ok-line-clause-ok
returns-in_ok-line-clause-ok c =
    let old : Work = c.args.work.now in
    let bank : Content = old.bank in
    let hyps : List Term = terms_at bank c.args.assumed.now in
    let p : Term = term_at bank c.args.parts.test in
    let whole : Term = if_term p (term_at bank c.args.parts.first) (term_at bank c.args.parts.second) in
    taken c.args.history.now old c.if_true.new.work hyps (term_at bank c.args.t) c.args.parts.first p whole c.args.known.line c.in_ok-line.line c.requires.can.stands c.if_true.ensures.grows c.requires.parts.first c.requires.parts.whole (known_true old hyps p c.args.known c.if-known.true c.requires.known) c.in_ok-line.ensures.line

pub returns-in_ok-line-2-clause-ok : goal.returns-in_ok-line-2-clause-ok
returns-in_ok-line-2-clause-ok c =
    let old : Work = c.args.work.now in
    let bank : Content = old.bank in
    let hyps : List Term = terms_at bank c.args.assumed.now in
    let p : Term = term_at bank c.args.parts.test in
    let whole : Term = if_term p (term_at bank c.args.parts.first) (term_at bank c.args.parts.second) in
    taken c.args.history.now old c.if_false.new.work hyps (term_at bank c.args.t) c.args.parts.second (not_term p) whole c.args.known.line c.in_ok-line-2.line c.requires.can.stands c.if_false.ensures.grows c.requires.parts.second c.requires.parts.whole (known_untrue old hyps p c.args.known c.if-known.false c.requires.known) c.in_ok-line-2.ensures.line

pub returns-in_ok-line-clause-term : goal.returns-in_ok-line-clause-term
returns-in_ok-line-clause-term c = ap (branch_of c.args.parts) (sym c.if-known.true)

pub returns-in_ok-line-2-clause-term : goal.returns-in_ok-line-2-clause-term
returns-in_ok-line-2-clause-term c = ap (branch_of c.args.parts) (sym c.if-known.false)
