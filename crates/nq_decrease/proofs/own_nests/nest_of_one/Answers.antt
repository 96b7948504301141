use Rattle.std.proofs.Common.{Option, ℕ}
use Rattle.std.specs.Prelude.{MatchOption}
use Rattle.nq_bank.specs.Content.{term_at, terms_at}
use Rattle.nq_bank.specs.Shells.{shell_at}
use Rattle.nq_rule.proofs.Made.{for_ok}
use Rattle.nq_history.specs.Events.{events_at}
use Rattle.nq_decrease.specs.Nests.{IsNestOf, IsNestLine, IsShellNestLine}
use Rattle.nq_decrease.proofs.OwnPlaceLemmas.{option_both}
use Rattle.nq_decrease.proofs.OwnShellLemmas.{own_found, user_shell}
use Rattle.nq_decrease.proofs.own_nests.nest_of_one.Goals as goal

pub own_descend-requires-clause-known : goal.own_descend-requires-clause-known
own_descend-requires-clause-known c =
    let b = c.args.work.now.bank in
    c.known_shells.ensures.known (events_at b c.args.history.now) (shell_at b c.args.shell.now) c.requires.ready c.requires.own

pub own_descend-requires-clause-rows : goal.own_descend-requires-clause-rows
own_descend-requires-clause-rows c =
    let b = c.args.work.now.bank in
    c.known_shells.ensures.rows (events_at b c.args.history.now) c.requires.ready (c.own_terms.ensures b c.args.history.now c.requires.ready)

pub own_descend-requires-clause-user : goal.own_descend-requires-clause-user
own_descend-requires-clause-user c =
    let b = c.args.work.now.bank in
    user_shell c.known_shells.ensures.names (events_at b c.args.history.now) (shell_at b c.args.shell.now) c.requires.ready c.requires.own

pub returns-clause-answer : goal.returns-clause-answer
returns-clause-answer c =
    let b = c.args.work.now.bank in
    let h = events_at b c.args.history.now in
    let s = shell_at b c.args.shell.now in
    let tests = terms_at b c.args.tests.now in
    let x = term_at b c.args.whole in
    let t = term_at b c.args.t in
    let new = c.own_descend.new.work in
    let P : Option ℕ → Type 0 = λ r. MatchOption r (IsNestOf s tests x t → ⊥) (IsNestLine new s tests x t) in
    let Q : Option ℕ → Type 0 = λ r. MatchOption r (IsNestOf s tests x t → ⊥) (IsShellNestLine h new tests x t) in
    for_ok c.own_descend.result P Q (λ r f.
    option_both r (IsNestOf s tests x t → ⊥) (IsNestOf s tests x t → ⊥) (IsNestLine new s tests x t) (IsShellNestLine h new tests x t) (λ none n. none n) (λ n line. own_found h new tests x t s n c.requires.own line) f) c.own_descend.ensures.answer
