use Rattle.std.proofs.Common.{ap}
use Rattle.std.specs.Option.{option_map}
use Rattle.nq_bank.specs.Content.{term_at, terms_at}
use Rattle.nq_history.specs.Events.{events_at}
use Rattle.nq_types.specs.Shown.{allowed_literals}
use Rattle.nq_types.proofs.JudgeLemmas.{each_allowed}
use Rattle.nq_types.proofs.judging.has_type.Goals as goal

pub returns : goal.returns
returns c =
    let bank = c.args.work.now.bank in
    let h = events_at bank c.args.history.now in
    let found = c.clause_over-literals.result.now in
    λ e. record {
      literals = terms_at bank found;
      stands = ap (option_map (terms_at bank)) c.clause_over-literals.ensures.clause;
      only = each_allowed bank (allowed_literals h c.args.set.0 (terms_at bank c.args.assumed.now) (term_at bank c.args.t)) found (c.are_right.ensures e);
    }
