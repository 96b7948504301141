use Rattle.nq_bank.specs.Content.{term_at, terms_at}
use Rattle.nq_kernel.proofs.GrowingLemmas.{WorkGrows-refl}
use Rattle.nq_lines.proofs.LineLemmas.{only_stands}
use Rattle.nq_reduce.proofs.RewritingLemmas.{unused}
use Rattle.nq_rewrite.proofs.KindLemmas.{kind_cut, shown_stands}
use Rattle.nq_rewrite.proofs.kinded.without_kind.Goals as goal

pub cut-requires-clause-first : goal.cut-requires-clause-first
cut-requires-clause-first c = only_stands c.args.work.now c.args.fact.line _ c.requires.fact.line

pub cut-requires-clause-second : goal.cut-requires-clause-second
cut-requires-clause-second c = shown_stands c.args.history.now c.args.work.now _ _ c.args.new c.in-Some.n c.in-Some.is c.requires.new

pub cut-requires-clause-term : goal.cut-requires-clause-term
cut-requires-clause-term c = c.requires.fact.term

pub returns-in_ok-line-in-Some-clause-ok : goal.returns-in_ok-line-in-Some-clause-ok
returns-in_ok-line-in-Some-clause-ok c =
    kind_cut c.args.history.now c.args.work.now c.cut.new.work (terms_at c.args.work.now.bank c.args.assumed.now) (term_at c.args.work.now.bank c.args.t) c.args.fact c.args.new c.in-Some.n c.in_ok-line-in-Some.line c.requires.can.stands c.cut.ensures.grows c.requires.fact c.requires.new c.in-Some.is
    c.in_ok-line-in-Some.ensures.line

pub returns-in-None-clause-ok : goal.returns-in-None-clause-ok
returns-in-None-clause-ok c = unused c.args.history.now c.args.work.now (terms_at c.args.work.now.bank c.args.assumed.now) (term_at c.args.work.now.bank c.args.fact.term) (term_at c.args.work.now.bank c.args.t) c.args.new c.in-None.is c.requires.new

pub returns-in-None-clause-grows : goal.returns-in-None-clause-grows
returns-in-None-clause-grows c = WorkGrows-refl c.args.history.now c.args.work.now c.requires.can.stands
