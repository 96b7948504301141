use Rattle.std.proofs.Common.{◌≡◌, ◌∷◌, [], Some, sym, ap, subst, refl}
use Rattle.std.specs.Prelude.{IsSome}
use Rattle.nq_logic.specs.Words.{true_term}
use Rattle.nq_proof.specs.Rows.{axiom_clause}
use Rattle.nq_bank.specs.Content.{text_at}
use Rattle.nq_history.specs.Events.{events_at}
use Rattle.nq_types.proofs.SetLemmas.{any_shown}
use Rattle.nq_types.proofs.ShellLemmas.{one_literal}
use Rattle.nq_types.proofs.types.any_type.Goals as goal

pub row_line-requires-clause-axiom : goal.row_line-requires-clause-axiom
row_line-requires-clause-axiom c = subst (λ x. IsSome (axiom_clause (events_at c.args.work.now.bank c.args.history.now) x 1 0)) (sym c.ground_name-name.ensures.reads) refl

pub returns-clause-shown : goal.returns-clause-shown
returns-clause-shown c =
    let bank = c.args.work.now.bank in
    let h = events_at bank c.args.history.now in
    let row : axiom_clause h (text_at bank c.ground_name-name.result) 1 0 ≡ Some (true_term ∷ []) = ap (λ x. axiom_clause h x 1 0) c.ground_name-name.ensures.reads in
    λ assumed t. any_shown h c.row_line.new.work assumed t (c.everything.result, c.in_ok-line.line) c.requires.room c.everything.ensures (one_literal c.row_line.new.work c.in_ok-line.line true_term true_term refl (c.in_ok-line.ensures.line (true_term ∷ []) row))
