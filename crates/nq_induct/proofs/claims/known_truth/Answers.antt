use Rattle.std.proofs.Common.{◌∷◌, [], refl, sym, ap, subst}
use Rattle.std.specs.Prelude.{IsSome}
use Rattle.nq_logic.specs.Words.{true_term}
use Rattle.nq_proof.specs.Rows.{axiom_clause}
use Rattle.nq_history.specs.Events.{events_at}
use Rattle.nq_kernel.proofs.GrowingLemmas.{WorkGrows-trans}
use Rattle.nq_lines.proofs.LineLemmas.{only_grown}
use Rattle.nq_induct.proofs.claims.known_truth.Goals as goal

pub row_line-requires-clause-axiom : goal.row_line-requires-clause-axiom
row_line-requires-clause-axiom c = subst (λ x. IsSome (axiom_clause (events_at c.args.work.now.bank c.args.history.now) x 1 0)) (sym c.ground_name-name.ensures.reads) refl

pub returns-in_err-term-clause-grows : goal.returns-in_err-term-clause-grows
returns-in_err-term-clause-grows c = WorkGrows-trans c.args.history.now c.args.work.now c.row_line.new.work c.truth.new.work c.row_line.ensures.grows c.truth.ensures.grows

pub returns-clause-grows : goal.returns-clause-grows
returns-clause-grows c = WorkGrows-trans c.args.history.now c.args.work.now c.row_line.new.work c.truth.new.work c.row_line.ensures.grows c.truth.ensures.grows

pub returns-clause-truth : goal.returns-clause-truth
returns-clause-truth c =
    record {
      truth = record { term = c.in_ok-term.ensures.over; is = c.in_ok-term.ensures.term };
      line =
          only_grown c.args.history.now c.row_line.new.work c.truth.new.work c.in_ok-line.line (true_term ∷ []) c.row_line.ensures.grows.stands c.truth.ensures.grows
          (record { literals = true_term ∷ []; stands = c.in_ok-line.ensures.line (true_term ∷ []) (ap (λ x. axiom_clause (events_at c.args.work.now.bank c.args.history.now) x 1 0) c.ground_name-name.ensures.reads); only = λ t m. m });
    }
