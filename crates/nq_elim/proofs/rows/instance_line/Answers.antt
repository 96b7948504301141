use Rattle.nq_rule.proofs.Made.{for_ok}
use Rattle.nq_clause.specs.Substitution.{substitution_at}
use Rattle.nq_rule.specs.Results.{instance_of}
use Rattle.nq_kernel.specs.Growing.{LineHolds, held}
use Rattle.nq_reduce.specs.Clauses.{LineIsIn}
use Rattle.nq_reduce.proofs.ClauseLemmas.{instance_in, in_stands}
use Rattle.nq_elim.proofs.rows.instance_line.Goals as goal

pub find_instance-requires-clause-line : goal.find_instance-requires-clause-line
find_instance-requires-clause-line c = in_stands c.args.history.now c.args.work.now c.args.line c.requires.line

pub returns-clause-line : goal.returns-clause-line
returns-clause-line c =
    let old = c.args.work.now in
    let new = c.find_instance.new.self in
    for_ok c.find_instance.result (λ n. LineHolds new n (instance_of (substitution_at old.bank c.args.pairs.items) (held old c.args.line))) (LineIsIn c.args.history.now new)
    (λ n holds. instance_in c.args.history.now old new c.find_instance.ensures.grows c.args.line n c.args.pairs.items c.requires.stands c.requires.line c.requires.pairs holds) c.find_instance.ensures.line
