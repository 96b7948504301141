use Rattle.nq_bank.specs.Content.{term_at, terms_at}
use Rattle.nq_kernel.proofs.GrowingLemmas.{WorkGrows-refl}
use Rattle.nq_reduce.proofs.RewritingLemmas.{cut_cases, unused}
use Rattle.nq_reduce.proofs.whole.close_both.Goals as goal

pub returns-in-None-clause-ok : goal.returns-in-None-clause-ok
returns-in-None-clause-ok c = unused c.args.history.now c.args.work.now (terms_at c.args.work.now.bank c.args.assumed.now) (term_at c.args.work.now.bank c.args.denied) (term_at c.args.work.now.bank c.args.t) c.args.two c.in-None.is c.requires.second

pub returns-in-None-clause-grows : goal.returns-in-None-clause-grows
returns-in-None-clause-grows c = WorkGrows-refl c.args.history.now c.args.work.now c.requires.can.stands

pub returns-in_ok-line-in-Some-clause-ok : goal.returns-in_ok-line-in-Some-clause-ok
returns-in_ok-line-in-Some-clause-ok c =
    cut_cases c.args.history.now c.args.work.now c.cut.new.work (terms_at c.args.work.now.bank c.args.assumed.now) (term_at c.args.work.now.bank c.args.t) (term_at c.args.work.now.bank c.args.test) c.args.denied c.args.other c.args.one c.args.two c.args.first c.in-Some.second c.in_ok-line-in-Some.line c.requires.can.stands c.cut.ensures.grows c.requires.denied.denotes c.requires.over c.requires.first c.requires.second c.requires.first_same c.requires.second_same c.requires.line c.in-Some.is c.in_ok-line-in-Some.ensures.line
