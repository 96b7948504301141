use Rattle.std.proofs.Common.{refl, sym, ◌∙◌}
use Rattle.nq_bank.specs.Content.{Content}
use Rattle.nq_bank.proofs.Growth.{Grows-trans, text_at-grown}
use Rattle.nq_check.proofs.ContextLemmas.{parts_grown}
use Rattle.nq_check.proofs.shell_lines.shell_of.Goals as goal

pub returns-clause-shell : goal.returns-clause-shell
returns-clause-shell c =
    let old : Content = c.args.bank.now in
    let first : Content = c.name.new.self in
    let second : Content = c.name-2.new.self in
    let third : Content = c.base_of.new.bank in
    let of_constructor = c.in_ok-constructor.ensures.ok in
    let of_recognizer = c.in_ok-recognizer.ensures.ok in
    let last = c.base_of.ensures.grows in
    let later = Grows-trans first second third of_recognizer.grows last in
    let constructor = text_at-grown first third c.in_ok-constructor.constructor later of_constructor.named ∙ of_constructor.reads in
    let recognizer = text_at-grown second third c.in_ok-recognizer.recognizer last of_recognizer.named ∙ of_recognizer.reads in
    let parts = sym (parts_grown old third (Grows-trans old first third of_constructor.grows later) c.args.parts.items c.requires.parts) in
    rw (constructor, c.in_ok-base.ensures.base, recognizer, parts) refl
