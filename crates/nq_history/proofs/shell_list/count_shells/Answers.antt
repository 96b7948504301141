use Rattle.std.proofs.Common.{◌≡◌, true, false, Option, Some, None, Bor, is_some, length, refl, sym, ◌∙◌, arith}
use Rattle.std.specs.Prelude.{option_to_list}
use Rattle.std.specs.Option.{option_copied}
use Rattle.nq_bank.specs.declared.shell.Shell.{Shell}
use Rattle.nq_history.proofs.CopyLemmas.{shells_counted}
use Rattle.nq_history.proofs.shell_list.count_shells.Goals as goal
use Rattle.nq_history.proofs.shell_list.count_shells.Goals.{then-is_some, else-is_some}

-- an entry brings one shell or none
one_shell : (found : Option (Bor Shell)) (brought : Option Shell) → option_copied found ≡ brought → is_some found ≡ true → length (option_to_list brought) ≡ 1
one_shell None brought same some = absurd cc
one_shell (Some x) None same some = absurd cc
one_shell (Some x) (Some s) same some = refl

no_shell : (found : Option (Bor Shell)) (brought : Option Shell) → option_copied found ≡ brought → is_some found ≡ false → length (option_to_list brought) ≡ 0
no_shell None None same none = refl
no_shell None (Some s) same none = absurd cc
no_shell (Some x) brought same none = absurd cc

pub loop-e-preserved : goal.loop-e-preserved
loop-e-preserved c =
    let es = c.args.entries.now in
    let i = c.loop-e.e-index in
    let more = shells_counted es i c.e-item.result c.loop-e-test.true c.e-item.is in
    elim c.if-is_some.branch [
      | then-is_some w ↦
          let one = one_shell c.shell_of_entry.result _ c.shell_of_entry.ensures (sym c.is_some.ensures ∙ w.if-is_some.true) in
          record { counted = omega (arith, more, one, w.count-is, c.loop-e.invariant.counted); few = omega (arith, w.count-is, c.loop-e.invariant.few) }
      | else-is_some w ↦
          let none = no_shell c.shell_of_entry.result _ c.shell_of_entry.ensures (sym c.is_some.ensures ∙ w.if-is_some.false) in
          record { counted = omega (arith, more, none, w.count-is, c.loop-e.invariant.counted); few = omega (arith, w.count-is, c.loop-e.invariant.few) }
    ]
