use Rattle.std.proofs.Common.{◌∷◌, [], refl, sym, ap, subst}
use Rattle.std.specs.Prelude.{IsSome}
use Rattle.nq_logic.specs.Words.{true_term}
use Rattle.nq_proof.specs.Rows.{axiom_clause}
use Rattle.nq_history.specs.Events.{events_at}
use Rattle.nq_bank.specs.Content.{term_at, terms_at}
use Rattle.nq_lines.proofs.LineLemmas.{leads_distinct}
use Rattle.nq_reduce.proofs.HeldLemmas.{truth_by_row}
use Rattle.nq_reduce.proofs.knowledge.known_true_value.Goals as goal

pub row_line-requires-clause-axiom : goal.row_line-requires-clause-axiom
row_line-requires-clause-axiom c = subst (λ x. IsSome (axiom_clause (events_at c.args.work.now.bank c.args.history.now) x 1 0)) (sym c.ground_name-name.ensures.reads) refl

pub returns-clause-known : goal.returns-clause-known
returns-clause-known c =
    truth_by_row c.row_line.new.work (terms_at c.args.work.now.bank c.args.assumed.now) (term_at c.args.work.now.bank c.args.t) c.in_ok-line.line c.requires.is
    (leads_distinct c.row_line.new.work c.in_ok-line.line true_term [] [] (c.in_ok-line.ensures.line (true_term ∷ []) (ap (λ x. axiom_clause (events_at c.args.work.now.bank c.args.history.now) x 1 0) c.ground_name-name.ensures.reads)) (λ t m. m))
