-- The first free variable is in the arguments that are left.
use Rattle.std.proofs.Common.{◌≡◌, List, drop}
use Rattle.nq_logic.specs.ShellPrinciple.{first_outside}
use Rattle.nq_bank.specs.declared.node.Sym.{Sym}
use Rattle.nq_bank.specs.Content.{terms_at}
use Rattle.nq_bank.specs.Shells.{texts_at}
use Rattle.nq_admit.specs.Formals.{IsSetOf}
use Rattle.nq_admit.proofs.TermLemmas.{all_variables}
use Rattle.nq_admit.proofs.terms.+first_free.Given as goal

abbrev pub decreases-first_free : goal.decreases-first_free
decreases-first_free l = l.t.0

abbrev pub invariant-loop-a : goal.invariant-loop-a
invariant-loop-a l =
    (names : List Sym) → IsSetOf l.bank names l.formals
    → first_outside (texts_at l.bank names) (all_variables (terms_at l.bank (drop l.a-index l.a-items))) ≡ first_outside (texts_at l.bank names) (all_variables (terms_at l.bank l.a-items))
