use Rattle.std.proofs.Common.{sym, subst}
use Rattle.std.specs.Prelude.{All}
use Rattle.nq_lines.proofs.TermLemmas.{term_grown}
use Rattle.nq_induct.specs.Schemes.{IsCaseIn}
use Rattle.nq_schemes.specs.Single.{HasSteps}
use Rattle.nq_schemes.proofs.GrownLemmas.{basis_grown, one_all}
use Rattle.nq_schemes.proofs.SingleLemmas.{some_one}
use Rattle.nq_schemes.proofs.single.single_scheme.Goals as goal

pub returns-clause-scheme : goal.returns-clause-scheme
returns-clause-scheme c =
    let h = c.args.history.now in
    let w1 = c.single_case.new.work in
    let m = c.args.basis.now.measure in
    record {
      measure = term_grown h c.args.work.now w1 m c.requires.stands c.single_case.ensures.grows c.requires.basis.measure;
      ordinal = (basis_grown h c.args.work.now w1 c.requires.stands c.single_case.ensures.grows c.args.basis.now c.requires.basis).ordinal;
      cases = subst (All (IsCaseIn h w1 m)) (sym c.in_ok-cases.ensures.is) (one_all (IsCaseIn h w1 m) c.in_ok-case.case c.in_ok-case.ensures.case);
    }

pub returns-clause-cases : goal.returns-clause-cases
returns-clause-cases c = some_one c.in_ok-cases.cases.items c.in_ok-case.case c.in_ok-cases.ensures.is

pub returns-clause-steps : goal.returns-clause-steps
returns-clause-steps c = subst (All HasSteps) (sym c.in_ok-cases.ensures.is) (one_all HasSteps c.in_ok-case.case c.in_ok-case.ensures.steps)
