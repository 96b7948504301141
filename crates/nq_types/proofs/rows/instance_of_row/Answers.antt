use Rattle.std.proofs.Common.{map}
use Rattle.nq_logic.specs.Terms.{substituted}
use Rattle.nq_proof.specs.Rows.{axiom_clause}
use Rattle.nq_bank.specs.Content.{text_at}
use Rattle.nq_clause.specs.Substitution.{substitution_at}
use Rattle.nq_history.specs.Events.{events_at}
use Rattle.nq_kernel.proofs.GrowingLemmas.{WorkGrows-refl}
use Rattle.nq_types.proofs.TypeLemmas.{row_stands}
use Rattle.nq_types.proofs.rows.instance_of_row.Goals as goal

pub returns-in_err-has_row-clause-grows : goal.returns-in_err-has_row-clause-grows
returns-in_err-has_row-clause-grows c = WorkGrows-refl c.args.history.now c.args.work.now c.requires.stands

pub returns-in_ok-line-clause-line : goal.returns-in_ok-line-clause-line
returns-in_ok-line-clause-line c =
    let bank = c.args.work.now.bank in
    row_stands c.axiom_row.new.work c.in_ok-line.line (axiom_clause (events_at bank c.args.history.now) (text_at bank c.args.name) c.args.row c.args.part) (map (substituted (substitution_at bank c.args.pairs.items))) (c.in_ok-has_row.ensures.row c.if-branch.true) c.in_ok-line.ensures.line

pub returns-else-branch-clause-grows : goal.returns-else-branch-clause-grows
returns-else-branch-clause-grows c = WorkGrows-refl c.args.history.now c.args.work.now c.requires.stands
