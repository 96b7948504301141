use Rattle.std.proofs.Common.{◌≡◌, take, map}
use Rattle.nq_bank.specs.Content.{text_at}
use Rattle.nq_logic.specs.Names.{has_name}
use Rattle.nq_rule.proofs.instances.has_variable.Given as goal

abbrev pub invariant-loop-p : goal.invariant-loop-p
invariant-loop-p l = l.found ≡ has_name (text_at l.bank l.variable) (map (λ p. text_at l.bank p.variable) (take l.p-index l.pairs))
