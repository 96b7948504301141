use Rattle.std.proofs.Common.{◌≡◌, ◌∷◌, ◌∙◌, ◌+◌, [], Some, sym, ap, subst}
use Rattle.std.specs.Prelude.{IsSome, is_some}
use Rattle.nq_logic.specs.Terms.{Function, Term}
use Rattle.nq_logic.specs.Shells.{recognizes}
use Rattle.nq_proof.specs.Clauses.{Clause, distinct}
use Rattle.nq_proof.specs.Rows.{axiom_clause}
use Rattle.nq_rule.proofs.Made.{for_ok}
use Rattle.nq_bank.specs.Content.{term_at, text_at}
use Rattle.nq_history.specs.Events.{events_at}
use Rattle.nq_kernel.specs.Growing.{LineHolds}
use Rattle.nq_types.specs.Shown.{IsRecognized}
use Rattle.nq_types.specs.TypeSets.{recognized_by}
use Rattle.nq_types.proofs.RowLemmas.{base_row}
use Rattle.nq_types.proofs.ShellLemmas.{recognizer_told, one_literal}
use Rattle.nq_types.proofs.making.base_line.Goals as goal

pub row_line-requires-clause-axiom : goal.row_line-requires-clause-axiom
row_line-requires-clause-axiom c =
    let bank = c.args.work.now.bank in
    let h = events_at bank c.args.history.now in
    let b = c.requires.base in
    subst (λ x. IsSome (axiom_clause h x 3 0)) (sym (c.constructor_at-name.ensures.name b.shell b.at)) (ap is_some (base_row h c.requires.ready c.args.place b.shell b.at b.base b.has))

pub returns-clause-line : goal.returns-clause-line
returns-clause-line c =
    let bank = c.args.work.now.bank in
    let h = events_at bank c.args.history.now in
    let t = term_at bank c.args.t in
    let name = text_at bank c.constructor_at-name.result in
    let new = c.row_line.new.work in
    let b = c.requires.base in
    let literal : Term = recognizes b.shell (Function b.base) in
    let row : axiom_clause h name 3 0 ≡ Some (literal ∷ []) = ap (λ x. axiom_clause h x 3 0) (c.constructor_at-name.ensures.name b.shell b.at) ∙ base_row h c.requires.ready c.args.place b.shell b.at b.base b.has in
    for_ok c.row_line.result (λ n. (cl : Clause) → axiom_clause h name 3 0 ≡ Some cl → LineHolds new n (distinct cl)) (IsRecognized h new t (c.args.place + 2)) (λ n f.
    λ r there. one_literal new n literal (recognized_by r t) (ap (λ x. recognized_by x (Function b.base)) (recognizer_told h c.args.place b.shell r b.at there) ∙ ap (recognized_by r) (sym b.is)) (f (literal ∷ []) row)) c.row_line.ensures.line
