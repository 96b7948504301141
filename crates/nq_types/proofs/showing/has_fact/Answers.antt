use Rattle.std.proofs.Common.{◌∷◌, ap}
use Rattle.std.specs.Option.{option_map}
use Rattle.nq_bank.specs.Content.{term_at, terms_at}
use Rattle.nq_types.specs.TypeSets.{denials}
use Rattle.nq_types.proofs.JudgeLemmas.{each_allowed}
use Rattle.nq_types.proofs.showing.has_fact.Goals as goal

pub returns : goal.returns
returns c =
    let bank = c.args.work.now.bank in
    let found = c.clause_over-literals.result.now in
    λ e. record {
      literals = terms_at bank found;
      stands = ap (option_map (terms_at bank)) c.clause_over-literals.ensures.clause;
      only = each_allowed bank (term_at bank c.args.fact ∷ denials (terms_at bank c.args.assumed.now)) found (c.are_fact_or_denials.ensures e);
    }
