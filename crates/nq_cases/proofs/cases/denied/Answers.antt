use Rattle.std.proofs.Common.{[], ◌∷◌, ap, arith}
use Rattle.nq_logic.specs.Terms.{call}
use Rattle.nq_logic.specs.Sizes.{depth_of}
use Rattle.nq_bank.specs.Content.{term_at}
use Rattle.nq_cases.proofs.CaseLemmas.{denial_depth}
use Rattle.nq_cases.proofs.cases.denied.Goals as goal

pub returns-clause-not_deep : goal.returns-clause-not_deep
returns-clause-not_deep c =
    λ e.
    let deep = c.app.ensures.deep.0 e in
    let most = denial_depth (term_at c.args.bank.now c.args.t) c.requires.shallow in
    let is = ap (λ f. depth_of (call f (term_at c.args.bank.now c.args.t ∷ []))) c.ground_name-name.ensures.reads in
    absurd (omega (arith, deep, most, is))
