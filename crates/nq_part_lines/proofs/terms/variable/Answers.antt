use Rattle.nq_logic.specs.Terms.{Variable}
use Rattle.nq_bank.specs.Content.{Gives, IsIdOf, text_at}
use Rattle.nq_rule.proofs.Made.{for_ok}
use Rattle.nq_steps.proofs.NameLemmas.{no_names}
use Rattle.nq_lines.specs.Lines.{IsTermIn}
use Rattle.nq_lines.proofs.TermLemmas.{id_in}
use Rattle.nq_replay.proofs.UncountedLemmas.{bank_uncounted}
use Rattle.nq_part_lines.proofs.TermLemmas.{gives_grow, gives_names}
use Rattle.nq_part_lines.proofs.terms.variable.Goals as goal

pub returns-clause-variable : goal.returns-clause-variable
returns-clause-variable c =
    let v = Variable (text_at c.args.work.now.bank c.args.x) in
    for_ok c.var.result (λ t. Gives c.args.work.now.bank c.var.new.self t v) (λ t. IsIdOf c.var.new.self t v) (λ t g. g.id) c.var.ensures.ok

pub returns-clause-over : goal.returns-clause-over
returns-clause-over c =
    let v = Variable (text_at c.args.work.now.bank c.args.x) in
    let new = record c.args.work.now { bank = c.var.new.self } in
    for_ok c.var.result (λ t. Gives c.args.work.now.bank c.var.new.self t v) (λ t. IsTermIn c.args.history.now new t) (λ t g. id_in c.args.history.now new t v g.id (record { over = tt; variables = c.requires.variable })) c.var.ensures.ok

pub returns-clause-grows : goal.returns-clause-grows
returns-clause-grows c =
    let v = Variable (text_at c.args.work.now.bank c.args.x) in
    bank_uncounted c.args.history.now c.args.work.now c.var.new.self c.requires.stands (gives_grow c.args.work.now.bank c.var.new.self c.var.result v c.var.ensures.ok c.var.ensures.err) (no_names c.args.work.now.bank c.var.new.self (gives_names c.args.work.now.bank c.var.new.self c.var.result v c.var.ensures.ok c.var.ensures.err))
