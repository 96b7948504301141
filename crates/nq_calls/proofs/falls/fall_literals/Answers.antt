use Rattle.nq_bank.specs.Content.{Content}
use Rattle.nq_calls.specs.Calls.{guards_at}
use Rattle.nq_calls.proofs.FallLemmas.{clause_more, clause_stands}
use Rattle.nq_calls.proofs.falls.fall_literals.Goals as goal

pub returns-clause-ok : goal.returns-clause-ok
returns-clause-ok c =
    let old : Content = c.args.bank.now in
    let bank : Content = c.deny_guards.new.bank in
    clause_more old bank c.below.new.bank c.args.smaller c.args.measure (guards_at old c.args.guards.now) c.in_ok-literals.literals.items c.add_id.new.ids.items c.in_ok-last.last
    c.deny_guards.ensures.grows c.below.ensures.grows c.requires.smaller c.requires.measure c.in_ok-literals.ensures.stand c.in_ok-add_id.ensures c.in_ok-last.ensures.ok c.in_ok-literals.ensures.ok

pub returns-clause-stand : goal.returns-clause-stand
returns-clause-stand c =
    let old : Content = c.args.bank.now in
    let bank : Content = c.deny_guards.new.bank in
    clause_stands old bank c.below.new.bank c.args.smaller c.args.measure (guards_at old c.args.guards.now) c.in_ok-literals.literals.items c.add_id.new.ids.items c.in_ok-last.last
    c.deny_guards.ensures.grows c.below.ensures.grows c.requires.smaller c.requires.measure c.in_ok-literals.ensures.stand c.in_ok-add_id.ensures c.in_ok-last.ensures.ok
