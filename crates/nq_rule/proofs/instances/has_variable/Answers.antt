use Rattle.nq_bank.specs.Content.{text_at}
use Rattle.nq_bank.specs.declared.node.Sym.{Sym}
use Rattle.nq_bank.specs.declared.node.TermId.{TermId}
use Rattle.nq_clause.specs.declared.substitution.Pair.{Pair}
use Rattle.nq_rule.proofs.NameLemmas.{has_name-more}
use Rattle.nq_rule.proofs.instances.has_variable.Goals as goal

pub loop-p-preserved : goal.loop-p-preserved
loop-p-preserved c =
    let symbol : Sym = record { 0 = 0 } in
    let id : TermId = record { 0 = 0 } in
    let first : Pair = record { variable = symbol; term = id } in
    has_name-more c.args.bank.now (text_at c.args.bank.now c.args.variable) c.args.pairs.now c.loop-p.p-index first c.loop-p.found c.is_same_name-same.result c.is_either-found.result c.loop-p-test.true c.loop-p.invariant c.is_same_name-same.ensures c.is_either-found.ensures
