use Rattle.std.proofs.Common.{◌∙◌, ◌+◌, ◌-◌, sym, ap, length, take, drop, ◌&&◌, not}
use Rattle.nq_bank.specs.declared.node.Sym.{Sym}
use Rattle.nq_bank.specs.declared.node.TermId.{TermId}
use Rattle.nq_clause.specs.declared.substitution.Pair.{Pair}
use Rattle.nq_clause.specs.Substitution.{substitution_at}
use Rattle.nq_proof.specs.Rules.{is_substitution}
use Rattle.nq_rule.proofs.NameLemmas.{distinct_step, rest_is}
use Rattle.nq_rule.proofs.instances.are_distinct_variables.Goals as goal

pub returns-then-has_variable : goal.returns-then-has_variable
returns-then-has_variable c =
    let symbol : Sym = record { 0 = 0 } in
    let id : TermId = record { 0 = 0 } in
    let first : Pair = record { variable = symbol; term = id } in
    let rest = rest_is c.args.pairs.now c.loop-i.i in
    let step = distinct_step c.args.bank.now c.args.pairs.now (take (length c.args.pairs.now - (c.loop-i.i + 1)) (drop (c.loop-i.i + 1) c.args.pairs.now)) c.loop-i.i first c.has_variable.result c.loop-i-test.true rest c.has_variable.ensures in
    sym (c.loop-i.invariant ∙ step ∙ ap (λ b. not b && is_substitution (substitution_at c.args.bank.now (drop (c.loop-i.i + 1) c.args.pairs.now))) c.if-has_variable.true)

pub loop-i-preserved : goal.loop-i-preserved
loop-i-preserved c =
    let symbol : Sym = record { 0 = 0 } in
    let id : TermId = record { 0 = 0 } in
    let first : Pair = record { variable = symbol; term = id } in
    let rest = rest_is c.args.pairs.now c.loop-i.i in
    let step = distinct_step c.args.bank.now c.args.pairs.now (take (length c.args.pairs.now - (c.loop-i.i + 1)) (drop (c.loop-i.i + 1) c.args.pairs.now)) c.loop-i.i first c.has_variable.result c.loop-i-test.true rest c.has_variable.ensures in
    c.loop-i.invariant ∙ step ∙ ap (λ b. not b && is_substitution (substitution_at c.args.bank.now (drop (c.loop-i.i + 1) c.args.pairs.now))) c.if-has_variable.false
