use Rattle.std.proofs.Common.{[], ◌∷◌, ◌++◌, sym, ap, ◌∙◌, subst}
use Rattle.std.specs.Prelude.{option_to_list}
use Rattle.std.specs.Option.{option_copied}
use Rattle.nq_history.specs.ShellLists.{AreCopies, IsShellCopy}
use Rattle.nq_history.proofs.CopyLemmas.{pairwise_push}
use Rattle.nq_history.proofs.shell_list.put_shell.Goals as goal

pub returns-in_ok-push-clause-ok : goal.returns-in_ok-push-clause-ok
returns-in_ok-push-clause-ok c =
    λ shells before.
    let shell = c.in-Some.shell.now in
    let old = c.args.shells.now.items in
    let new = c.push.new.self.items in
    subst (λ o. AreCopies (shells ++ option_to_list o) new) (sym (ap option_copied c.in-Some.is) ∙ c.shell_of_entry.ensures)
    (subst (AreCopies (shells ++ shell ∷ [])) (sym c.in_ok-push.ensures.items) (pairwise_push IsShellCopy shells old shell c.in_ok-copy.copy before c.in_ok-copy.ensures))
