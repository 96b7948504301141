use Rattle.std.proofs.Common.{◌∷◌, [], ◌∙◌, ap, inl, sym}
use Rattle.nq_bank.specs.Content.{term_at, terms_at}
use Rattle.nq_types.specs.TypeSets.{denials}
use Rattle.nq_types.proofs.JudgeLemmas.{either_there}
use Rattle.nq_types.proofs.showing.is_fact_or_denial.Goals as goal

pub returns : goal.returns
returns c =
    let bank = c.args.bank.now in
    λ e. record {
      there = either_there (term_at bank c.args.literal) (term_at bank c.args.fact ∷ []) (denials (terms_at bank c.args.assumed.now)) c.is_same-same.result c.is_denial-denial.result (λ same. inl (ap (term_at bank) (c.is_same-same.ensures same))) c.is_denial-denial.ensures (sym c.is_either.ensures ∙ e);
    }
