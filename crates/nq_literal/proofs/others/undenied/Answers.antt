use Rattle.nq_bank.specs.Content.{term_at}
use Rattle.nq_kernel.proofs.GrowingLemmas.{WorkGrows-refl}
use Rattle.nq_literal.proofs.LiteralLemmas.{undenied_by, unshown}
use Rattle.nq_literal.proofs.others.undenied.Goals as goal

pub returns-in-None-clause-ok : goal.returns-in-None-clause-ok
returns-in-None-clause-ok c = unshown c.args.history.now c.args.work.now (term_at c.args.work.now.bank c.args.literal) (term_at c.args.work.now.bank c.args.t) c.args.new c.in-None.is

pub returns-in-None-clause-grows : goal.returns-in-None-clause-grows
returns-in-None-clause-grows c = WorkGrows-refl c.args.history.now c.args.work.now c.requires.stands

pub returns-in_ok-n-in-Some-clause-ok : goal.returns-in_ok-n-in-Some-clause-ok
returns-in_ok-n-in-Some-clause-ok c =
    undenied_by c.args.history.now c.args.work.now c.undeny.new.work (term_at c.args.work.now.bank c.args.literal) (term_at c.args.work.now.bank c.args.t) c.args.new c.in-Some.line c.in_ok-n-in-Some.n c.requires.stands c.undeny.ensures.grows c.in-Some.is c.in_ok-n-in-Some.ensures.line
