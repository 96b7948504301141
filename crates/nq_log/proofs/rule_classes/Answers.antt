use Rattle.nq_log.proofs.RuleClasses.{steps_ignore_classes_law}
use Rattle.nq_log.proofs.rule_classes.Goals as goal

pub returns : goal.returns
returns c = steps_ignore_classes_law
