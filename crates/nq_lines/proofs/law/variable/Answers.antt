use Rattle.std.proofs.Common.{subst}
use Rattle.nq_logic.specs.Terms.{Variable}
use Rattle.nq_bank.specs.Content.{IsIdOf, text_at}
use Rattle.nq_steps.proofs.NameLemmas.{only_terms}
use Rattle.nq_kernel.proofs.GrowingLemmas.{WorkGrows-trans, bank_grows, uncounted}
use Rattle.nq_lines.proofs.TermLemmas.{id_in}
use Rattle.nq_lines.proofs.MatchLemmas.{gives_grow}
use Rattle.nq_lines.proofs.law.variable.Goals as goal

pub var-requires : goal.var-requires
var-requires c = c.in_ok-s.ensures.name.named

pub returns-in-Ok-clause-variable : goal.returns-in-Ok-clause-variable
returns-in-Ok-clause-variable c = subst (λ x. IsIdOf c.var.new.self c.in-Ok.t (Variable x)) c.in_ok-s.ensures.name.reads c.in-Ok.ensures.ok.id

pub returns-in-Ok-clause-over : goal.returns-in-Ok-clause-over
returns-in-Ok-clause-over c = id_in c.args.history.now (record c.symbol.new.work { bank = c.var.new.self }) c.in-Ok.t (Variable c.args.name.now) (subst (λ x. IsIdOf c.var.new.self c.in-Ok.t (Variable x)) c.in_ok-s.ensures.name.reads c.in-Ok.ensures.ok.id) (record { over = tt; variables = c.requires.name })

pub returns-in-Ok-clause-grows : goal.returns-in-Ok-clause-grows
returns-in-Ok-clause-grows c = WorkGrows-trans c.args.history.now c.args.work.now c.symbol.new.work (record c.symbol.new.work { bank = c.var.new.self }) c.symbol.ensures.grows
    (bank_grows c.args.history.now c.symbol.new.work c.var.new.self c.symbol.new.work.counter c.symbol.ensures.grows.stands (gives_grow c.symbol.new.work.bank c.var.new.self c.var.result (Variable (text_at c.symbol.new.work.bank c.in_ok-s.s)) c.var.ensures.ok c.var.ensures.err) (only_terms c.symbol.new.work.bank c.var.new.self c.var.result (Variable (text_at c.symbol.new.work.bank c.in_ok-s.s)) c.var.ensures.ok c.var.ensures.err) (uncounted c.symbol.new.work.counter))

pub returns-in-Err-clause-grows : goal.returns-in-Err-clause-grows
returns-in-Err-clause-grows c = WorkGrows-trans c.args.history.now c.args.work.now c.symbol.new.work (record c.symbol.new.work { bank = c.var.new.self }) c.symbol.ensures.grows
    (bank_grows c.args.history.now c.symbol.new.work c.var.new.self c.symbol.new.work.counter c.symbol.ensures.grows.stands (gives_grow c.symbol.new.work.bank c.var.new.self c.var.result (Variable (text_at c.symbol.new.work.bank c.in_ok-s.s)) c.var.ensures.ok c.var.ensures.err) (only_terms c.symbol.new.work.bank c.var.new.self c.var.result (Variable (text_at c.symbol.new.work.bank c.in_ok-s.s)) c.var.ensures.ok c.var.ensures.err) (uncounted c.symbol.new.work.counter))
