use Rattle.std.proofs.Common.{◌+◌, ◌*◌}
use Rattle.nq_quick.specs.Decisions.{weight_at}
use Rattle.nq_quick.proofs.decisions.+decisions.Given as goal

abbrev pub decreases-decide : goal.decreases-decide
decreases-decide l = 3 * weight_at l.work.now.bank l.t + 2

abbrev pub decreases-decide_anew : goal.decreases-decide_anew
decreases-decide_anew l = 3 * weight_at l.work.now.bank l.t + 1

abbrev pub decreases-decide_choice : goal.decreases-decide_choice
decreases-decide_choice l = 3 * weight_at l.work.now.bank l.t

abbrev pub decreases-decide_denial : goal.decreases-decide_denial
decreases-decide_denial l = 3 * weight_at l.work.now.bank l.t

abbrev pub decreases-decide_joined : goal.decreases-decide_joined
decreases-decide_joined l = 3 * weight_at l.work.now.bank l.t

abbrev pub decreases-decide_right : goal.decreases-decide_right
decreases-decide_right l = 3 * weight_at l.work.now.bank l.q + 3

-- the body of a connective weighs at most 3
abbrev pub decreases-instance_line : goal.decreases-instance_line
decreases-instance_line l = 14

abbrev pub decreases-case_line : goal.decreases-case_line
decreases-case_line l = 13

abbrev pub decreases-case_line_anew : goal.decreases-case_line_anew
decreases-case_line_anew l = 12
