use Rattle.nq_proof.proofs.Classes.{classes_law}
use Rattle.nq_proof.proofs.rule_classes.Goals as goal

pub returns : goal.returns
returns c = classes_law
