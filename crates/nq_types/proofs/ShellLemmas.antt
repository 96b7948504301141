-- The shells of a history over a bank.
use Rattle.std.proofs.Common.{◌≡◌, ◌≤◌, ◌∙◌, ℕ, zero, suc, Some, List, [], ◌∷◌, length, map, sym, ap, subst, inl, inr, arith, ◌+◌}
use Rattle.std.specs.Prelude.{slice_get, slice_index_or}
use Rattle.nq_logic.specs.Histories as logic
use Rattle.nq_logic.specs.Histories.{History}
use Rattle.nq_logic.specs.Terms.{Name, Term}
use Rattle.nq_logic.specs.ShellPrinciple.{shells_of}
use Rattle.nq_kernel.specs.declared.work.Work.{Work}
use Rattle.nq_kernel.specs.Growing.{LineHolds}
use Rattle.nq_proof.specs.Clauses.{distinct}
use Rattle.nq_lines.specs.Lines.{LineHasOnly}
use Rattle.nq_types.specs.TypeSets.{recognizers}
use Rattle.nq_bank.specs.declared.shell.Shell.{Shell}
use Rattle.nq_bank.specs.Content.{Content, text_at}
use Rattle.nq_bank.specs.Shells.{shell_at, shells_at}
use Rattle.nq_proof.proofs.Tests.{some_same, none_is_not_some}

shell_told : (bank : Content) (shells : List Shell) (place : ℕ) (d : Shell) (s : logic.Shell) → slice_get (shells_at bank shells) place ≡ Some s → shell_at bank (slice_index_or shells place d) ≡ s
shell_told bank [] place d s e = absurd (none_is_not_some s e)
shell_told bank (q ∷ shells) zero d s e = some_same (shell_at bank q) s e
shell_told bank (q ∷ shells) (suc place) d s e = shell_told bank shells place d s e

pub constructor_told : (bank : Content) (shells : List Shell) (all : List logic.Shell) (place : ℕ) (d : Shell) (s : logic.Shell) → shells_at bank shells ≡ all → slice_get all place ≡ Some s → text_at bank (slice_index_or shells place d).constructor ≡ s.constructor
constructor_told bank shells all place d s same e =
    ap (λ q. q.constructor) (shell_told bank shells place d s (subst (λ xs. slice_get xs place ≡ Some s) (sym same) e))

pub place_below : (bank : Content) (shells : List Shell) (all : List logic.Shell) (place : ℕ) (s : logic.Shell) → shells_at bank shells ≡ all → slice_get all place ≡ Some s → length shells ≤ place → ⊥
place_below bank shells all place s same e past = further shells place (subst (λ xs. slice_get xs place ≡ Some s) (sym same) e) past
  where
    further : (shells : List Shell) (place : ℕ) → slice_get (shells_at bank shells) place ≡ Some s → length shells ≤ place → ⊥
    further [] place e past = none_is_not_some s e
    further (q ∷ shells) zero e past = omega (arith, past)
    further (q ∷ shells) (suc place) e past = further shells place e (omega (arith, past))

-- the recognizer of a shell stands behind TRUEP and FALSEP
pub recognizer_told : (h : History) (place : ℕ) (s : logic.Shell) (r : Name) → slice_get (shells_of h) place ≡ Some s → slice_get (recognizers h) (place + 2) ≡ Some r → s.recognizer ≡ r
recognizer_told h place s r at there =
    let places : place + 2 ≡ suc (suc place) = omega arith in
    further (shells_of h) place at (subst (λ n. slice_get (recognizers h) n ≡ Some r) places there)
  where
    further : (shells : List logic.Shell) (place : ℕ) → slice_get shells place ≡ Some s → slice_get (map (λ s. s.recognizer) shells) place ≡ Some r → s.recognizer ≡ r
    further [] place at there = absurd (none_is_not_some s at)
    further (q ∷ shells) zero at there = ap (λ x. x.recognizer) (sym (some_same q s at)) ∙ some_same q.recognizer r there
    further (q ∷ shells) (suc place) at there = further shells place at there

-- a line of one literal that is this one
pub one_literal : (work : Work) (n : ℕ) (p q : Term) → p ≡ q → LineHolds work n (distinct (p ∷ [])) → LineHasOnly work n (q ∷ [])
one_literal work n p q same holds = record { literals = p ∷ []; stands = holds; only = λ u m. elim m [ inl e ↦ inl (e ∙ same) | inr none ↦ absurd none ] }
