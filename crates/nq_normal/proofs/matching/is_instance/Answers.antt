use Rattle.nq_bank.specs.Content.{term_at}
use Rattle.nq_normal.proofs.MatchLemmas.{match_tells}
use Rattle.nq_normal.proofs.matching.is_instance.Goals as goal

pub returns : goal.returns
returns c =
    let bank = c.args.bank.now in
    match_tells c.in_ok-found.found bank (term_at bank c.args.pattern) (term_at bank c.args.t) _ _ c.in_ok-found.ensures.ok search
