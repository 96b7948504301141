use Rattle.std.proofs.Common.{◌≡◌, ◌∷◌, [], ◌∙◌, false, sym, ap, subst}
use Rattle.std.specs.Prelude.{IfOk, bytes_eq, not}
use Rattle.nq_logic.specs.Words.{not_term}
use Rattle.nq_bank.specs.Content.{text_at}
use Rattle.nq_proof.proofs.Tests.{names_same}
use Rattle.nq_history.specs.Events.{events_at}
use Rattle.nq_kernel.specs.Growing.{LineHolds}
use Rattle.nq_part_lines.specs.Decisions.{is_of}
use Rattle.nq_part_lines.specs.Defaults.{truth_kind}
use Rattle.nq_part_lines.proofs.KindLemmas.{shells_kind}
use Rattle.nq_part_lines.proofs.kinds.other_line.Goals as goal

pub shell_line-requires-clause-kind : goal.shell_line-requires-clause-kind
shell_line-requires-clause-kind c =
    let w = c.args.work.now in
    let r = text_at w.bank c.args.r in
    let apart : bytes_eq (truth_kind (not c.args.value)) r ≡ false = ap (λ k. bytes_eq k r) (sym c.kind_symbol-opposite.ensures.reads) ∙ sym c.is_same_name.ensures ∙ c.if-is_same_name.false in
    shells_kind (events_at w.bank c.args.history.now) r c.args.value c.requires.kind c.requires.other apart

pub returns-then-is_same_name-clause-line : goal.returns-then-is_same_name-clause-line
returns-then-is_same_name-clause-line c =
    let w = c.args.work.now in
    let r = text_at w.bank c.args.r in
    let opposite = text_at w.bank c.kind_symbol-opposite.result in
    let same : opposite ≡ r = names_same opposite r (sym c.is_same_name.ensures ∙ c.if-is_same_name.true) in
    subst (λ k. IfOk c.opposite_line.result (λ n. LineHolds c.opposite_line.new.work n (not_term (is_of k c.args.value) ∷ []))) (sym c.kind_symbol-opposite.ensures.reads ∙ same) c.opposite_line.ensures.line
