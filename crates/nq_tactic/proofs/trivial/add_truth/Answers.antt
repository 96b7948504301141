use Rattle.std.proofs.Common.{◌∷◌, [], refl, sym, ap, subst}
use Rattle.std.specs.Prelude.{IsSome, IfOk}
use Rattle.nq_logic.specs.Words.{true_term}
use Rattle.nq_proof.specs.Rows.{axiom_clause}
use Rattle.nq_history.specs.Events.{events_at}
use Rattle.nq_tactic.proofs.LineLemmas.{truth_has}
use Rattle.nq_tactic.proofs.TacticLemmas.{if_ok}
use Rattle.nq_tactic.proofs.trivial.add_truth.Goals as goal

pub row_line-requires-clause-axiom : goal.row_line-requires-clause-axiom
row_line-requires-clause-axiom c = subst (λ x. IsSome (axiom_clause (events_at c.args.work.now.bank c.args.history.now) x 1 0)) (sym c.ground_name-name.ensures.reads) refl

pub returns-clause-line : goal.returns-clause-line
returns-clause-line c =
    if_ok c.row_line.result _ _ (λ n says.
    truth_has c.args.history.now c.args.work.now c.row_line.new.work n c.args._shown c.args.goal.now c.row_line.ensures.grows c.requires.truth c.requires.among
    (says (true_term ∷ []) (ap (λ x. axiom_clause (events_at c.args.work.now.bank c.args.history.now) x 1 0) c.ground_name-name.ensures.reads)))
    c.row_line.ensures.line
