use Rattle.std.proofs.Common.{◌≡◌, ◌∷◌, [], ◌+◌, Some, refl}
use Rattle.std.specs.Prelude.{slice_get}
use Rattle.nq_logic.specs.Terms.{Function}
use Rattle.nq_logic.specs.Words.{equal_term}
use Rattle.nq_logic.specs.Histories.{Part}
use Rattle.nq_logic.specs.Shells.{made}
use Rattle.nq_bank.specs.Content.{text_at}
use Rattle.nq_bank.specs.Shells.{shell_at}
use Rattle.nq_proof.specs.Clauses.{Clause, distinct}
use Rattle.nq_proof.specs.Rows.{axiom_clause}
use Rattle.nq_history.specs.Events.{events_at}
use Rattle.nq_rule.proofs.Made.{for_ok}
use Rattle.nq_kernel.specs.Growing.{LineHolds}
use Rattle.nq_arith.specs.Nests.{accessor_of}
use Rattle.nq_lines.specs.Lines.{LineHasOnly}
use Rattle.nq_part_lines.specs.Known.{allowed}
use Rattle.nq_part_lines.proofs.PartLemmas.{known_part, row_next, two_line}
use Rattle.nq_part_lines.proofs.defaulted.wrong_line.Goals as goal

pub row_line-requires-clause-row : goal.row_line-requires-clause-row
row_line-requires-clause-row c =
    let w = c.args.work.now in
    let place = c.args.place in
    let s = shell_at w.bank c.args.shell.now in
    let k = known_part w.bank c.args.shell.now.parts.items place s refl c.requires.place c.requires.known in
    let literals = allowed place k.0 ∷ equal_term (accessor_of k.0 (made s)) (Function k.0.default) ∷ [] in
    record { clause = literals; there = row_next (events_at w.bank c.args.history.now) (text_at w.bank c.args.shell.now.constructor) 7 place literals k.2.wrong }

pub returns-clause-line : goal.returns-clause-line
returns-clause-line c =
    let w = c.args.work.now in
    let new = c.row_line.new.work in
    let h = events_at w.bank c.args.history.now in
    let place = c.args.place in
    let s = shell_at w.bank c.args.shell.now in
    let name = text_at w.bank c.args.shell.now.constructor in
    for_ok c.row_line.result (λ n. (k : Clause) → axiom_clause h name 7 (place + 1) ≡ Some k → LineHolds new n (distinct k)) (λ n. (q : Part) → slice_get s.parts place ≡ Some q → LineHasOnly new n (allowed place q ∷ equal_term (accessor_of q (made s)) (Function q.default) ∷ [])) (λ n f q e.
    two_line new n (allowed place q) (equal_term (accessor_of q (made s)) (Function q.default)) (allowed place q) (equal_term (accessor_of q (made s)) (Function q.default)) refl refl (f (allowed place q ∷ equal_term (accessor_of q (made s)) (Function q.default) ∷ []) (row_next h name 7 place (allowed place q ∷ equal_term (accessor_of q (made s)) (Function q.default) ∷ []) (c.requires.known.parts place q e).wrong).is)) c.row_line.ensures.line
