-- What the calls of a goal access.
use Rattle.std.proofs.Common.{◌≡◌, ◌<◌, ◌+◌, ℕ, Bool, true, false, ◌||◌, ◌&&◌, Option, Some, None, List, ◌∷◌, length, map, drop, get_or, refl, sym, ap, ◌∙◌, subst, inr}
use Rattle.std.specs.Prelude.{MatchOption, Result, Ok, Err, IfOk}
use Rattle.nq_kernel.specs.declared.work.Stop.{Stop}
use Rattle.nq_logic.specs.Histories.{History}
use Rattle.nq_logic.specs.ShellPrinciple.{shells_of}
use Rattle.nq_stuck.specs.Calls.{HoldsAll}
use Rattle.nq_eliminate.proofs.ShellLemmas.{candidate_found, none_found}
use Rattle.std.specs.List.{list_any}
use Rattle.std.proofs.lemmas.List.{at_drop_more}
use Rattle.nq_logic.specs.Terms.{Name, Term, Function, Applied, IsAmong}
use Rattle.nq_logic.specs.Names.{has_name}
use Rattle.nq_logic.specs.Histories.{Shell as ShellOfTexts}
use Rattle.nq_logic.specs.Values.{is_value}
use Rattle.nq_bank.specs.declared.node.TermId.{TermId}
use Rattle.nq_bank.specs.declared.shell.Shell.{Shell}
use Rattle.nq_bank.specs.declared.shell.Part.{Part}
use Rattle.nq_bank.specs.Content.{Content, term_at, terms_at}
use Rattle.nq_bank.specs.Shells.{parts_at, shell_at, shells_at}
use Rattle.nq_proof.specs.Clauses.{Clause}
use Rattle.nq_goals.specs.Functions.{accessors}
use Rattle.nq_stuck.specs.Destructors.{is_accessor_call, is_variable}
use Rattle.nq_stuck.proofs.Names.{accessors_later}
use Rattle.nq_stuck.proofs.EliminationLemmas.{call_no_value}
use Rattle.nq_eliminate.specs.declared.accesses.Access.{Access}
use Rattle.nq_eliminate.specs.Shells.{HasAccessor, HasNoneOfShells, IsAccess, IsAccessIn, IsShellCandidate, is_access_in}

-- an accessor of a later shell than the first
module _ (bank : Content) (x : Name) (shells : List Shell) (s : Shell) (parts : List Part) (rest : List Shell) where
  pub accessor_later : {B : Type 0} (b : Bool) (found : Option B) (now : B → Shell) → shells ≡ s ∷ rest → parts ≡ s.parts.items → b ≡ false → b ≡ has_name x (map (λ part. part.accessor) (parts_at bank parts)) →
      MatchOption found (has_name x (accessors (shells_at bank rest)) ≡ false) (λ r. HasAccessor bank (shells_at bank rest) x (now r)) → MatchOption found (has_name x (accessors (shells_at bank shells)) ≡ false) (λ r. HasAccessor bank (shells_at bank shells) x (now r))
  accessor_later b None now e p t h told =
      subst (λ z. has_name x (accessors (shells_at bank z)) ≡ false) (sym e)
      (accessors_later x (shell_at bank s) (shells_at bank rest) (subst (λ ps. has_name x (map (λ part. part.accessor) (parts_at bank ps)) ≡ false) p (sym h ∙ t)) ∙ told)
  accessor_later b (Some found) now e p t h told =
      record {
        among = subst (λ z. IsAmong (shell_at bank (now found)) (shells_at bank z)) (sym e) (inr told.among);
        named = told.named;
        stands = told.stands;
      }

-- a call on no variable
pub not_variable : (shells : List ShellOfTexts) (f : Name) (t : Term) → is_variable t ≡ false → is_accessor_call shells (Applied (Function f) t) ≡ false
not_variable shells f t e = ap (λ b. b && has_name f (accessors shells)) e

-- an access is no value
pub access_no_value : (bank : Content) (shells : List ShellOfTexts) (t : Term) (a : Access) → IsAccess bank shells t a → is_value t ≡ false
access_no_value bank shells t a is = ap is_value is.is ∙ call_no_value is.accessor _

or_false : (b : Bool) → (b || false) ≡ b
or_false true = refl
or_false false = refl

-- one more that gives none
pub none_more : (test : Term → Bool) (bank : Content) (ids : List TermId) (i : ℕ) (d : TermId) → i < length ids → list_any test (terms_at bank (drop i ids)) ≡ list_any test (terms_at bank ids) → test (term_at bank (get_or ids i d)) ≡ false →
    list_any test (terms_at bank (drop (i + 1) ids)) ≡ list_any test (terms_at bank ids)
none_more test bank ids i d below left none =
    sym (ap (λ b. b || list_any test (terms_at bank (drop (i + 1) ids))) none) ∙ (sym (at_drop_more (λ xs. list_any test (terms_at bank xs)) ids i d below) ∙ left)

-- what the calls of a goal access is a candidate, and there is none where they access nothing
pub found_all : (bank : Content) (h : History) (calls these : List TermId) (goal : Clause) (shells : List ShellOfTexts) (r : Result (Option Access) Stop) → HoldsAll bank calls goal → shells ≡ shells_of h → these ≡ calls →
    IfOk r (λ found. MatchOption found (list_any (is_access_in shells goal) (terms_at bank these) ≡ false) (IsAccessIn bank shells goal)) → IfOk r (λ found. MatchOption found (HasNoneOfShells h goal) (IsShellCandidate bank h goal))
found_all bank h calls these goal shells (Ok None) held are slice told =
    none_found bank h calls goal held (subst (λ ss. list_any (is_access_in ss goal) (terms_at bank calls) ≡ false) are (subst (λ ids. list_any (is_access_in shells goal) (terms_at bank ids) ≡ false) slice told))
found_all bank h calls these goal shells (Ok (Some a)) held are slice told = candidate_found bank h goal a (subst (λ ss. IsAccessIn bank ss goal a) are told)
found_all bank h calls these goal shells (Err e) held are slice told = told
