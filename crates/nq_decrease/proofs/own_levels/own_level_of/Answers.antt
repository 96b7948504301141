use Rattle.std.proofs.Common.{sym, subst}
use Rattle.nq_bank.specs.Content.{term_at, terms_at, text_at}
use Rattle.nq_bank.specs.Shells.{parts_at, shell_at}
use Rattle.nq_decrease.specs.OwnLevels.{HasAccessor, IsNoAccessor}
use Rattle.nq_decrease.proofs.OwnPlaceLemmas.{level_found, no_accessor_level, no_guard_level}
use Rattle.nq_decrease.proofs.own_levels.own_level_of.Goals as goal

pub returns-in-None : goal.returns-in-None
returns-in-None c =
    let b = c.args.bank.now in
    no_accessor_level (shell_at b c.args.shell.now) (text_at b c.args.f) (term_at b c.args.y) (terms_at b c.args.tests.now) (subst (λ ps. IsNoAccessor (parts_at b ps) (text_at b c.args.f)) c.as_slice.ensures.value c.in-None.ensures)

pub returns-in-None-own_guard : goal.returns-in-None-own_guard
returns-in-None-own_guard c =
    let b = c.args.bank.now in
    no_guard_level (shell_at b c.args.shell.now) (text_at b c.args.f) (term_at b c.args.y) (terms_at b c.args.tests.now) c.requires.user (sym c.in-None-own_guard.ensures)

pub returns-in-Some-own_guard : goal.returns-in-Some-own_guard
returns-in-Some-own_guard c =
    let b = c.args.bank.now in
    level_found (shell_at b c.args.shell.now) (term_at b c.args.y) (terms_at b c.args.tests.now) c.in-Some-own_guard.guard (text_at b c.args.f) c.in-Some.place c.requires.user (subst (λ ps. HasAccessor (parts_at b ps) (text_at b c.args.f) c.in-Some.place) c.as_slice.ensures.value c.in-Some.ensures) (sym c.in-Some-own_guard.ensures)
