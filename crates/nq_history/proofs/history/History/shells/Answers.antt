use Rattle.std.proofs.Common.{sym, ap, ◌∙◌, subst}
use Rattle.std.specs.Prelude.{All}
use Rattle.nq_logic.specs.Histories.{events_shells}
use Rattle.nq_bank.specs.Shells.{shells_at, ShellStands}
use Rattle.nq_history.specs.ShellLists.{shells_brought, AreCopies}
use Rattle.nq_history.proofs.CopyLemmas.{copies_same, copies_stand, shells_are, shells_stand}
use Rattle.nq_history.proofs.LookupLemmas.{all_events_are}
use Rattle.nq_history.proofs.history.History.shells.Goals as goal

pub returns-clause-shells : goal.returns-clause-shells
returns-clause-shells c =
    λ bank.
    let listed = c.self.inside.index.shells.items in
    let copies = subst (λ es. AreCopies (shells_brought es) listed) c.self.view_is c.self.invariant.1.shells in
    ap (shells_at bank) c.as_slice.ensures.value ∙ copies_same bank (shells_brought c.args.self.now) listed copies ∙ shells_are bank c.args.self.now

pub returns-clause-logic : goal.returns-clause-logic
returns-clause-logic c =
    λ bank stands.
    let listed = c.self.inside.index.shells.items in
    let copies = subst (λ es. AreCopies (shells_brought es) listed) c.self.view_is c.self.invariant.1.shells in
    ap (shells_at bank) c.as_slice.ensures.value ∙ copies_same bank (shells_brought c.args.self.now) listed copies ∙ shells_are bank c.args.self.now ∙
    ap events_shells (sym (all_events_are bank c.args.self.now stands))

pub returns-clause-stand : goal.returns-clause-stand
returns-clause-stand c =
    λ bank stands.
    let listed = c.self.inside.index.shells.items in
    let copies = subst (λ es. AreCopies (shells_brought es) listed) c.self.view_is c.self.invariant.1.shells in
    subst (All (ShellStands bank)) (sym c.as_slice.ensures.value) (copies_stand bank (shells_brought c.args.self.now) listed copies (shells_stand bank c.args.self.now stands.entries))
