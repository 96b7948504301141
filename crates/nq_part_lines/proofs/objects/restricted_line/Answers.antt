use Rattle.std.proofs.Common.{◌≡◌, ◌∙◌, true, false, ap, sym, subst}
use Rattle.std.specs.Prelude.{bytes_eq, codes}
use Rattle.nq_logic.specs.ShellPrinciple.{shells_of}
use Rattle.nq_bank.specs.Content.{text_at}
use Rattle.nq_bank.specs.Shells.{part_at, shells_at}
use Rattle.nq_proof.proofs.Tests.{some_same}
use Rattle.nq_history.specs.Events.{events_at}
use Rattle.nq_part_lines.specs.Defaults.{has_base}
use Rattle.nq_part_lines.proofs.DefaultLemmas.{base_there}
use Rattle.nq_part_lines.proofs.DefaultedLemmas.{truth_default}
use Rattle.nq_part_lines.proofs.PartLemmas.{part_read}
use Rattle.nq_part_lines.proofs.objects.restricted_line.Goals as goal

pub default_line-requires-clause-base : goal.default_line-requires-clause-base
default_line-requires-clause-base c q e =
    let w = c.args.work.now in
    let p = c.index.result.now in
    let there = part_read w.bank c.args.shell.now.parts.items c.args.place p c.requires.place c.index.ensures in
    let same : part_at w.bank p ≡ q = some_same _ _ (sym there ∙ e) in
    let shells = shells_at w.bank c.shells.result.now in
    let b = c.in-Some.ensures in
    let here : has_base (text_at w.bank p.default) shells ≡ true = base_there (text_at w.bank p.default) shells b.shell b.among b.base_is in
    subst (λ r. has_base r.default (shells_of (events_at w.bank c.args.history.now)) ≡ true) same (subst (λ ss. has_base (text_at w.bank p.default) ss ≡ true) (c.shells.ensures.logic w.bank c.requires.stands.history) here)

pub truth_default_line-requires-clause-default : goal.truth_default_line-requires-clause-default
truth_default_line-requires-clause-default c q e =
    let w = c.args.work.now in
    let p = c.index.result.now in
    let h = events_at w.bank c.args.history.now in
    let there = part_read w.bank c.args.shell.now.parts.items c.args.place p c.requires.place c.index.ensures in
    let same : part_at w.bank p ≡ q = some_same _ _ (sym there ∙ e) in
    let none : has_base (text_at w.bank p.default) (shells_at w.bank c.shells.result.now) ≡ false = c.in-None.ensures in
    let base : has_base q.default (shells_of h) ≡ false = subst (λ r. has_base r.default (shells_of h) ≡ false) same (subst (λ ss. has_base (text_at w.bank p.default) ss ≡ false) (c.shells.ensures.logic w.bank c.requires.stands.history) none) in
    truth_default h q c.is_truth-yes.result (c.requires.restricted q e) base (c.requires.known.parts c.args.place q e).default_is (c.is_truth-yes.ensures ∙ ap (λ r. bytes_eq r.default (codes "TRUE")) same)
