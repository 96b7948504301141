use Rattle.std.proofs.Common.{◌≡◌, ◌∷◌, [], sym, subst, ◌∙◌}
use Rattle.std.specs.Prelude.{IfOk}
use Rattle.nq_logic.specs.Terms.{Term}
use Rattle.nq_logic.specs.Words.{not_term}
use Rattle.nq_bank.specs.Content.{term_at}
use Rattle.nq_proof.specs.Clauses.{Clause, distinct}
use Rattle.nq_kernel.specs.Growing.{LineHolds}
use Rattle.nq_quick.specs.Lines.{LineHasOnly, if_at}
use Rattle.nq_quick.proofs.LineLemmas.{grown_trans}
use Rattle.nq_quick.proofs.ChoiceLemmas.{split_same, if_same}
use Rattle.nq_quick.proofs.choices.add_split.Goals as goal

pub split_either-requires-clause-either : goal.split_either-requires-clause-either
split_either-requires-clause-either c =
    let same : term_at c.args.work.now.bank c.args.t ≡ if_at c.add_either.new.work.bank c.args.parts = c.requires.whole.denotes ∙ sym (if_same c.args.work.now.bank c.add_either.new.work.bank c.add_either.ensures.grows.grows.bank c.args.parts c.requires.parts) in
    subst (λ (w : Term). LineHolds c.add_either.new.work c.in_ok-either.either (distinct (w ∷ not_term w ∷ []))) same c.in_ok-either.ensures.line

pub returns-clause-line : goal.returns-clause-line
returns-clause-line c =
    subst (λ (ls : Clause). IfOk c.split_either.result (λ n. LineHasOnly c.split_either.new.work n ls)) (split_same c.args.work.now.bank c.add_either.new.work.bank c.args.parts c.args.test c.add_either.ensures.grows.grows.bank c.requires.parts) c.split_either.ensures.line

pub returns-clause-grows : goal.returns-clause-grows
returns-clause-grows c = grown_trans c.args.history.now c.args.work.now c.add_either.new.work c.split_either.new.work c.add_either.ensures.grows c.split_either.ensures.grows
