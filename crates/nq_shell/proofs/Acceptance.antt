-- What the answer of the test of a shell tells, by any test of names that agrees with the names in use.
use Rattle.std.proofs.Common.{◌≡◌, ◌<◌, Bool, List, [], ◌∷◌, length, refl, sym, ap, ◌∙◌, subst}
use Rattle.std.specs.Prelude.{◌↔◌, Some, None, Result, Ok, Err, if◌then◌else◌}
use Rattle.std.proofs.lemmas.List.{length-map}
use Rattle.nq_logic.specs.Terms.{Name, Each}
use Rattle.nq_logic.specs.Histories.{Shell}
use Rattle.nq_logic.specs.ShellPrinciple.{first_used, shell_names, shell_limit, shell_refusal, IsShellAccepted}
use Rattle.nq_logic.proofs.ShellTests.{shells_refused_law}
use Rattle.nq_bank.specs.declared.node.Sym.{Sym}
use Rattle.nq_bank.specs.declared.shell.Shell.{Shell as BankShell}
use Rattle.nq_bank.specs.Content.{Content}
use Rattle.nq_bank.specs.Shells.{shell_at, shells_at}
use Rattle.nq_shell.specs.declared.admission.ShellFault.{ShellFault}
use Rattle.nq_shell.specs.Admission.{answer_at, refusal_at, is_used, AreUsed}

first_same : (in_use other : Name → Bool) (names : List Name) → Each (λ name. in_use name ≡ other name) names → first_used in_use names ≡ first_used other names
first_same in_use other [] h = refl
first_same in_use other (n ∷ names) h =
    ap (λ b. if b then Some n else first_used in_use names) h.0 ∙ ap (λ o. if other n then Some n else o) (first_same in_use other names h.1)

-- the refusal is the same for each test that agrees on the names of the shell
refusal_same : (in_use other : Name → Bool) (earlier : List Shell) (s : Shell) → Each (λ name. in_use name ≡ other name) (shell_names s) → shell_refusal in_use earlier s ≡ shell_refusal other earlier s
refusal_same in_use other earlier s h = rw (first_same in_use other (shell_names s) h) refl

no_some : {X : Type 0} (x : X) → Some x ≡ None → ⊥
no_some x h = cc

not_ok : (fault : ShellFault) → ◌≡◌ {A = Result (Unit {0}) ShellFault} (Err fault) (Ok (tt {0})) → ⊥
not_ok fault h = cc

-- an answer that refuses nothing is Ok
pub ok_answer : (bank : Content) (r : Result (Unit {0}) ShellFault) → (r ≡ Ok tt) ↔ (answer_at bank r ≡ None)
ok_answer bank (Ok tt) = ((λ h. refl), (λ h. refl))
ok_answer bank (Err fault) = ((λ h. absurd (not_ok fault h)), (λ h. absurd (no_some (refusal_at bank fault) h)))

pub refusal_told : (bank : Content) (used : List Sym) (in_use : Name → Bool) (earlier : List Shell) (s : Shell) (r : Result (Unit {0}) ShellFault) → AreUsed bank used in_use s → answer_at bank r ≡ shell_refusal (is_used bank used) earlier s → answer_at bank r ≡ shell_refusal in_use earlier s
refusal_told bank used in_use earlier s r agree is = is ∙ sym (refusal_same in_use (is_used bank used) earlier s agree.told)

-- the answer is Ok exactly where the shell is accepted and there is room
pub acceptance_told : (bank : Content) (in_use : Name → Bool) (history : List BankShell) (s : Shell) (r : Result (Unit {0}) ShellFault) → answer_at bank r ≡ shell_refusal in_use (shells_at bank history) s → (r ≡ Ok tt) ↔ (IsShellAccepted in_use (shells_at bank history) s × (length history < shell_limit))
acceptance_told bank in_use history s r is =
    let law = shells_refused_law in_use (shells_at bank history) s in
    let answer = ok_answer bank r in
    let count : length (shells_at bank history) ≡ length history = length-map history (shell_at bank) in (
      (λ h. let told = law.0 (sym is ∙ answer.0 h) in (told.0, subst (λ n. n < shell_limit) count told.1)),
      (λ h. answer.1 (is ∙ law.1 (h.0, subst (λ n. n < shell_limit) (sym count) h.1))),
    )
