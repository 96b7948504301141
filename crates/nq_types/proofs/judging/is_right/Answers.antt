use Rattle.std.proofs.Common.{◌∙◌, sym}
use Rattle.nq_bank.specs.Content.{term_at, terms_at}
use Rattle.nq_history.specs.Events.{events_at}
use Rattle.nq_types.specs.TypeSets.{denials, is_in, members, recognizers}
use Rattle.nq_types.proofs.JudgeLemmas.{either_there}
use Rattle.nq_types.proofs.judging.is_right.Goals as goal

pub returns : goal.returns
returns c =
    let bank = c.args.bank.now in
    let h = events_at bank c.args.history.now in
    λ e. record {
      there = either_there (term_at bank c.args.literal) (members (is_in c.args.set.0) 0 (recognizers h) (term_at bank c.args.t)) (denials (terms_at bank c.args.assumed.now)) c.is_member-member.result c.is_denial-denial.result c.is_member-member.ensures c.is_denial-denial.ensures (sym c.is_either.ensures ∙ e);
    }
