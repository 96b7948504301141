use Rattle.std.proofs.Common.{◌∷◌, subst}
use Rattle.std.specs.Prelude.{IfSome}
use Rattle.nq_logic.specs.Words.{not_term}
use Rattle.nq_bank.specs.Content.{term_at, terms_at}
use Rattle.nq_kernel.proofs.GrowingLemmas.{WorkGrows-trans}
use Rattle.nq_lines.specs.Lines.{LineHasOnly}
use Rattle.nq_reduce.specs.Rewriting.{denials}
use Rattle.nq_reduce.proofs.RewritingLemmas.{can_grown, can_term, terms_same}
use Rattle.nq_rewrite.proofs.arithmetic.false_by_arithmetic.Goals as goal

pub line_by_arithmetic-requires : goal.line_by_arithmetic-requires
line_by_arithmetic-requires c = record { can = can_term c.args.history.now c.deny.new.work c.args.assumed.now c.args.t c.in_ok-denial.denial (can_grown c.args.history.now c.args.work.now c.deny.new.work c.deny.ensures.grows c.args.assumed.now c.args.t c.requires.can) c.in_ok-denial.ensures.over }

pub returns-in_err-line-clause-grows : goal.returns-in_err-line-clause-grows
returns-in_err-line-clause-grows c = WorkGrows-trans c.args.history.now c.args.work.now c.deny.new.work c.line_by_arithmetic.new.work c.deny.ensures.grows c.line_by_arithmetic.ensures.grows

pub returns-in-Some-clause-known : goal.returns-in-Some-clause-known
returns-in-Some-clause-known c =
    let old = c.args.work.now in
    let one = c.deny.new.work in
    let two = c.line_by_arithmetic.new.work in
    let hyps = c.args.assumed.now in
    record {
      shown =
          subst (λ ts. LineHasOnly two c.in-Some.line (not_term (term_at old.bank c.args.t) ∷ denials ts)) (terms_same c.args.history.now old one c.deny.ensures.grows hyps c.requires.can.hypotheses) (
          subst (λ u. LineHasOnly two c.in-Some.line (u ∷ denials (terms_at one.bank hyps))) c.in_ok-denial.ensures.denied.denotes (
          subst (λ o. IfSome o (λ n. LineHasOnly two n (term_at one.bank c.in_ok-denial.denial ∷ denials (terms_at one.bank hyps)))) c.in-Some.is c.in_ok-line.ensures.line));
    }

pub returns-in-Some-clause-grows : goal.returns-in-Some-clause-grows
returns-in-Some-clause-grows c = WorkGrows-trans c.args.history.now c.args.work.now c.deny.new.work c.line_by_arithmetic.new.work c.deny.ensures.grows c.line_by_arithmetic.ensures.grows

pub returns-in-None-clause-grows : goal.returns-in-None-clause-grows
returns-in-None-clause-grows c = WorkGrows-trans c.args.history.now c.args.work.now c.deny.new.work c.line_by_arithmetic.new.work c.deny.ensures.grows c.line_by_arithmetic.ensures.grows
