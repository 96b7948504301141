use Rattle.std.proofs.Common.{rules}
use Rattle.nq_quick.specs.Answers.{IsQuickProof}
use Rattle.nq_quick.proofs.FirstPassLemmas.{only_told}
use Rattle.nq_quick.proofs.first_pass_prover.FirstPassProver.prove.Goals as goal

pub returns-in-Some-clause-told : goal.returns-in-Some-clause-told
returns-in-Some-clause-told c =
    let proof : IsQuickProof c.args.history.now c.args.work.now c.quick.new.work c.args.goal c.in-Some.way c.in-Some.line = search rules in
    only_told _ _ proof.holds
