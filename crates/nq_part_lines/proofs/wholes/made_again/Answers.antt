use Rattle.std.proofs.Common.{◌≡◌, ◌∙◌, List, sym, ap, subst}
use Rattle.std.specs.Prelude.{All}
use Rattle.nq_logic.specs.Terms.{Each, IsAmong}
use Rattle.nq_logic.specs.Ground.{symbols_of}
use Rattle.nq_logic.specs.Histories.{Shell}
use Rattle.nq_logic.specs.Shells.{accessed, remade, whole}
use Rattle.nq_bank.specs.declared.shell.Part.{Part as PartOfIds}
use Rattle.nq_bank.specs.Content.{IsIdOf, terms_at}
use Rattle.nq_bank.specs.Shells.{PartStands, parts_at, shell_at}
use Rattle.nq_history.specs.Events.{events_at}
use Rattle.nq_history.proofs.ShellLemmas.{ShellStands-grown, shell_at-grown}
use Rattle.nq_kernel.specs.declared.work.Work.{Work}
use Rattle.nq_replay.proofs.UncountedLemmas.{grown_trans}
use Rattle.nq_part_lines.specs.Small.{IsSmallIn}
use Rattle.nq_part_lines.proofs.KnownGrowth.{known_grown, rows_grown}
use Rattle.nq_part_lines.proofs.PartCallLemmas.{calls_grown, same_calls}
use Rattle.nq_part_lines.proofs.RemadeLemmas.{remade_grown}
use Rattle.nq_part_lines.proofs.wholes.made_again.Goals as goal

pub returns-in_err-line-clause-grows : goal.returns-in_err-line-clause-grows
returns-in_err-line-clause-grows c = grown_trans c.args.history.now c.args.work.now c.calls_on.new.work c.remade_line.new.work c.calls_on.ensures.grows c.remade_line.ensures.grows

pub returns-in_err-object-clause-grows : goal.returns-in_err-object-clause-grows
returns-in_err-object-clause-grows c = grown_trans c.args.history.now c.args.work.now c.calls_on.new.work c.made_of.new.work c.calls_on.ensures.grows (grown_trans c.args.history.now c.calls_on.new.work c.remade_line.new.work c.made_of.new.work c.remade_line.ensures.grows c.made_of.ensures.grows)

pub returns-clause-grows : goal.returns-clause-grows
returns-clause-grows c = grown_trans c.args.history.now c.args.work.now c.calls_on.new.work c.made_of.new.work c.calls_on.ensures.grows (grown_trans c.args.history.now c.calls_on.new.work c.remade_line.new.work c.made_of.new.work c.remade_line.ensures.grows c.made_of.ensures.grows)

pub calls_on-requires-clause-parts : goal.calls_on-requires-clause-parts
calls_on-requires-clause-parts c = subst (All (PartStands c.args.work.now.bank)) (sym c.as_slice.ensures.value) c.requires.shell.parts

pub calls_on-requires-clause-accessors : goal.calls_on-requires-clause-accessors
calls_on-requires-clause-accessors c =
    let w0 : Work = c.args.work.now in
    subst (λ (ps : List PartOfIds). Each (λ part. IsAmong (part.accessor, 1) (symbols_of (events_at w0.bank c.args.history.now))) (parts_at w0.bank ps)) (sym c.as_slice.ensures.value) c.requires.known.accessors

pub remade_line-requires-clause-shell : goal.remade_line-requires-clause-shell
remade_line-requires-clause-shell c = ShellStands-grown c.args.work.now.bank c.calls_on.new.work.bank c.calls_on.ensures.grows.grows.bank c.args.shell.now c.requires.shell

pub remade_line-requires-clause-known : goal.remade_line-requires-clause-known
remade_line-requires-clause-known c = known_grown c.args.history.now c.args.work.now c.calls_on.new.work c.requires.stands c.calls_on.ensures.grows.grows c.args.shell.now c.requires.shell c.requires.known

pub remade_line-requires-clause-rows : goal.remade_line-requires-clause-rows
remade_line-requires-clause-rows c = rows_grown c.args.history.now c.args.work.now c.calls_on.new.work c.requires.stands c.calls_on.ensures.grows.grows c.requires.rows

pub made_of-requires-clause-shell : goal.made_of-requires-clause-shell
made_of-requires-clause-shell c = ShellStands-grown c.args.work.now.bank c.remade_line.new.work.bank (grown_trans c.args.history.now c.args.work.now c.calls_on.new.work c.remade_line.new.work c.calls_on.ensures.grows c.remade_line.ensures.grows).grows.bank c.args.shell.now c.requires.shell

pub made_of-requires-clause-known : goal.made_of-requires-clause-known
made_of-requires-clause-known c = known_grown c.args.history.now c.args.work.now c.remade_line.new.work c.requires.stands (grown_trans c.args.history.now c.args.work.now c.calls_on.new.work c.remade_line.new.work c.calls_on.ensures.grows c.remade_line.ensures.grows).grows c.args.shell.now c.requires.shell c.requires.known

pub made_of-requires-clause-rows : goal.made_of-requires-clause-rows
made_of-requires-clause-rows c = rows_grown c.args.history.now c.args.work.now c.remade_line.new.work c.requires.stands (grown_trans c.args.history.now c.args.work.now c.calls_on.new.work c.remade_line.new.work c.calls_on.ensures.grows c.remade_line.ensures.grows).grows c.requires.rows

pub remade_line-requires-clause-calls : goal.remade_line-requires-clause-calls
remade_line-requires-clause-calls c =
    let w0 : Work = c.args.work.now in
    let w1 : Work = c.calls_on.new.work in
    let told : terms_at w1.bank c.in_ok-calls.calls.items ≡ accessed whole (shell_at w0.bank c.args.shell.now).parts = c.in_ok-calls.ensures.calls ∙ ap (λ (ps : List PartOfIds). accessed whole (parts_at w0.bank ps)) c.as_slice.ensures.value in
    ap (terms_at w1.bank) c.as_slice-2.ensures.value ∙ told ∙ sym (ap (λ (s : Shell). accessed whole s.parts) (shell_at-grown c.args.work.now.bank c.calls_on.new.work.bank c.calls_on.ensures.grows.grows.bank c.args.shell.now c.requires.shell))

pub remade_line-requires-clause-small : goal.remade_line-requires-clause-small
remade_line-requires-clause-small c = subst (All (IsSmallIn c.args.history.now c.calls_on.new.work)) (sym c.as_slice-2.ensures.value) c.in_ok-calls.ensures.small

pub made_of-requires-clause-calls : goal.made_of-requires-clause-calls
made_of-requires-clause-calls c =
    let w0 : Work = c.args.work.now in
    let w1 : Work = c.calls_on.new.work in
    let told : terms_at w1.bank c.in_ok-calls.calls.items ≡ accessed whole (shell_at w0.bank c.args.shell.now).parts = c.in_ok-calls.ensures.calls ∙ ap (λ (ps : List PartOfIds). accessed whole (parts_at w0.bank ps)) c.as_slice.ensures.value in
    let w2 : Work = c.remade_line.new.work in
    let kept = same_calls c.args.history.now w1 w2 c.calls_on.ensures.grows.grows.stands c.remade_line.ensures.grows.grows c.in_ok-calls.calls.items c.in_ok-calls.ensures.small in
    ap (terms_at w2.bank) c.as_slice-3.ensures.value ∙ kept ∙ told ∙ sym (ap (λ (s : Shell). accessed whole s.parts) (shell_at-grown c.args.work.now.bank c.remade_line.new.work.bank (grown_trans c.args.history.now c.args.work.now c.calls_on.new.work c.remade_line.new.work c.calls_on.ensures.grows c.remade_line.ensures.grows).grows.bank c.args.shell.now c.requires.shell))

pub made_of-requires-clause-small : goal.made_of-requires-clause-small
made_of-requires-clause-small c = subst (All (IsSmallIn c.args.history.now c.remade_line.new.work)) (sym c.as_slice-3.ensures.value) (calls_grown c.args.history.now c.calls_on.new.work c.remade_line.new.work c.calls_on.ensures.grows.grows.stands c.remade_line.ensures.grows.grows c.in_ok-calls.calls.items c.in_ok-calls.ensures.small)

pub returns-clause-object : goal.returns-clause-object
returns-clause-object c = subst (λ (s : Shell). IsIdOf c.made_of.new.work.bank c.in_ok-object.object (remade s)) (shell_at-grown c.args.work.now.bank c.remade_line.new.work.bank (grown_trans c.args.history.now c.args.work.now c.calls_on.new.work c.remade_line.new.work c.calls_on.ensures.grows c.remade_line.ensures.grows).grows.bank c.args.shell.now c.requires.shell) c.in_ok-object.ensures.made

pub returns-clause-line : goal.returns-clause-line
returns-clause-line c = remade_grown c.args.history.now c.remade_line.new.work c.made_of.new.work (grown_trans c.args.history.now c.args.work.now c.calls_on.new.work c.remade_line.new.work c.calls_on.ensures.grows c.remade_line.ensures.grows).grows.stands c.made_of.ensures.grows.grows (shell_at c.calls_on.new.work.bank c.args.shell.now) (shell_at c.args.work.now.bank c.args.shell.now) c.args.place c.in_ok-line.line (sym (shell_at-grown c.args.work.now.bank c.calls_on.new.work.bank c.calls_on.ensures.grows.grows.bank c.args.shell.now c.requires.shell)) c.in_ok-line.ensures.line
