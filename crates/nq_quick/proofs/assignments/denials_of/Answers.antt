use Rattle.std.proofs.Common.{◌<◌, sym, subst}
use Rattle.nq_logic.specs.Terms.{Term}
use Rattle.nq_logic.specs.Sizes.{depth_of, depth_limit}
use Rattle.nq_bank.proofs.Growth.{Stands-grown, term_at-grown}
use Rattle.nq_quick.proofs.LineLemmas.{grown_trans}
use Rattle.nq_quick.proofs.assignments.denials_of.Goals as goal

pub denial_of-requires-2-clause-room : goal.denial_of-requires-2-clause-room
denial_of-requires-2-clause-room c = subst (λ (u : Term). depth_of u < depth_limit) (sym (term_at-grown c.args.work.now.bank c.denial_of.new.work.bank c.args.q c.denial_of.ensures.grows.grows.bank c.requires.right)) c.requires.right_room

pub denial_of-requires-2-clause-term : goal.denial_of-requires-2-clause-term
denial_of-requires-2-clause-term c = Stands-grown c.args.work.now.bank c.denial_of.new.work.bank c.args.q c.denial_of.ensures.grows.grows.bank c.requires.right

pub returns-clause-grows : goal.returns-clause-grows
returns-clause-grows c = grown_trans c.args.history.now c.args.work.now c.denial_of.new.work c.denial_of-2.new.work c.denial_of.ensures.grows c.denial_of-2.ensures.grows

pub returns-in_err-right-clause-grows : goal.returns-in_err-right-clause-grows
returns-in_err-right-clause-grows c = grown_trans c.args.history.now c.args.work.now c.denial_of.new.work c.denial_of-2.new.work c.denial_of.ensures.grows c.denial_of-2.ensures.grows

pub returns-in_err-vec-clause-grows : goal.returns-in_err-vec-clause-grows
returns-in_err-vec-clause-grows c = grown_trans c.args.history.now c.args.work.now c.denial_of.new.work c.denial_of-2.new.work c.denial_of.ensures.grows c.denial_of-2.ensures.grows
