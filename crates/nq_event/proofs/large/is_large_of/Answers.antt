use Rattle.std.proofs.Common.{sym, ap, ◌∙◌, map}
use Rattle.std.specs.Prelude.{Err}
use Rattle.nq_logic.specs.Terms.{substituted}
use Rattle.nq_event.specs.EventsAt.{pair_at}
use Rattle.nq_event.specs.Stated.{stated_term}
use Rattle.nq_event.proofs.LargeLemmas.{deep_is_large}
use Rattle.nq_event.proofs.large.is_large_of.Goals as goal

pub returns-in-Err-Deep-clause-is : goal.returns-in-Err-Deep-clause-is
returns-in-Err-Deep-clause-is c =
    sym (deep_is_large (substituted (map (pair_at c.args.bank.now) c.args.pairs.now) (stated_term c.args.bank.now c.args.stated.now)) (c.instance_id.ensures.deep (c.in-Err-Deep.is ∙ ap Err c.in-Err-Deep.field-0-is)))
