-- Calls and their parts.
use Rattle.std.proofs.Common.{◌≡◌, ◌<◌, ◌-◌, ◌∙◌, ℕ, zero, suc, Option, Some, None, List, [], ◌∷◌, ◌++◌, length, get_or, refl, sym, ap, subst, arith}
use Rattle.std.specs.Prelude.{All, codes, if◌then◌else◌, Bool, true, false}
use Rattle.nq_logic.specs.Terms.{Name, Term, Variable, Function, Applied, Symbol, Takes, Each, applied, call}
use Rattle.nq_logic.specs.Words.{numeral}
use Rattle.nq_logic.specs.Numerals.{is_numeral}
use Rattle.nq_logic.specs.Ground.{symbols_of}
use Rattle.nq_bank.specs.declared.node.TermId.{TermId}
use Rattle.nq_bank.specs.Parts.{parts_of, arguments_before}
use Rattle.nq_bank.specs.Content.{IsIdOf, term_at, terms_at}
use Rattle.nq_bank.proofs.Standing.{All-push}
use Rattle.nq_history.specs.declared.entry.Entry.{Entry}
use Rattle.nq_history.specs.Events.{events_at}
use Rattle.nq_kernel.specs.Over.{IsTermOf, IsVariable, VariablesAre}
use Rattle.nq_kernel.specs.declared.work.Work.{Work}
use Rattle.nq_kernel.specs.Growing.{WorkStands, WorkGrows}
use Rattle.nq_lines.specs.Lines.{IsTermIn}
use Rattle.nq_lines.proofs.TermLemmas.{id_in, same_term_grown, term_grown}

-- the function of a call
abbrev pub head_of : Term → Option Name
head_of (Variable x) = None
head_of (Function f) = Some f
head_of (Applied t u) = head_of t

head_applied : (t : Term) (ts : List Term) → head_of (applied t ts) ≡ head_of t
head_applied t [] = refl
head_applied t (u ∷ ts) = head_applied (Applied t u) ts

pub head_call : (f : Name) (ts : List Term) → head_of (call f ts) ≡ Some f
head_call f ts = head_applied (Function f) ts

-- the arguments of a call are read back
before_applied : (t : Term) (ts others : List Term) → arguments_before (applied t ts) others ≡ arguments_before t (ts ++ others)
before_applied t [] others = refl
before_applied t (u ∷ ts) others = before_applied (Applied t u) ts others

append_none : (ts : List Term) → ts ++ [] ≡ ts
append_none [] = refl
append_none (t ∷ ts) = ap (λ xs. t ∷ xs) (append_none ts)

pub call_arguments : (f : Name) (ts : List Term) → arguments_before (call f ts) [] ≡ ts
call_arguments f ts = before_applied (Function f) ts [] ∙ append_none ts

pub same_arguments : (f g : Name) (ts us : List Term) → call f ts ≡ call g us → ts ≡ us
same_arguments f g ts us e = sym (call_arguments f ts) ∙ ap (λ t. arguments_before t []) e ∙ call_arguments g us

pub same_function : (f g : Name) (ts us : List Term) → call f ts ≡ call g us → f ≡ g
same_function f g ts us e =
    let heads : Some f ≡ Some g = sym (head_call f ts) ∙ ap head_of e ∙ head_call g us in
    cc

pub no_variable : (x f : Name) (ts : List Term) → Variable x ≡ call f ts → ⊥
no_variable x f ts e =
    let heads : None ≡ Some f = ap head_of e ∙ head_call f ts in
    absurd cc

pub no_arguments : (ts : List Term) → length ts ≡ 0 → ts ≡ []
no_arguments [] e = refl
no_arguments (t ∷ ts) e = absurd (omega (arith, e))

-- the arguments of a term are over the functions that it is over
arguments_over : (symbols : List Symbol) (t : Term) (n : ℕ) (others : List Term) → Takes symbols t n → VariablesAre IsVariable t → Each (IsTermOf IsVariable symbols) others → Each (IsTermOf IsVariable symbols) (arguments_before t others)
arguments_over symbols (Variable x) n others takes variables rest = rest
arguments_over symbols (Function f) n others takes variables rest = rest
arguments_over symbols (Applied t u) n others takes variables rest = arguments_over symbols t (suc n) (u ∷ others) takes.0 variables.0 (record { over = takes.1; variables = variables.1 }, rest)

parts_over : (symbols : List Symbol) (t : Term) → IsTermOf IsVariable symbols t → Each (IsTermOf IsVariable symbols) (parts_of t)
parts_over symbols t h = by_test (is_numeral t)
  where
    by_test : (b : Bool) → Each (IsTermOf IsVariable symbols) (if b then [] else arguments_before t [])
    by_test true = tt
    by_test false = arguments_over symbols t 0 [] h.over h.variables tt

ids_over : (work : Work) (symbols : List Symbol) (ids : List TermId) (d : TermId) (k : ℕ) → Each (IsTermOf IsVariable symbols) (terms_at work.bank ids) → k < length ids → IsTermOf IsVariable symbols (term_at work.bank (get_or ids k d))
ids_over work symbols [] d k each below = absurd (omega arith)
ids_over work symbols (t ∷ ids) d zero each below = each.0
ids_over work symbols (t ∷ ids) d (suc k) each below = ids_over work symbols ids d k each.1 (omega arith)

-- so are their ids
pub parts_in : (history : List Entry) (work : Work) (t : TermId) (ids : List TermId) → IsTermIn history work t → terms_at work.bank ids ≡ parts_of (term_at work.bank t) → All (λ a. a.0 < t.0) ids → All (IsTermIn history work) ids
parts_in history work t ids there parts earlier =
    let symbols : List Symbol = symbols_of (events_at work.bank history) in
    let each : Each (IsTermOf IsVariable symbols) (terms_at work.bank ids) = subst (Each (IsTermOf IsVariable symbols)) (sym parts) (parts_over symbols (term_at work.bank t) there.over) in
    λ k d below. record { stands = omega (arith, earlier k d below, there.stands); over = ids_over work symbols ids d k each below }

-- a number above zero is a call of ADD1
pub number_call : (n : ℕ) → 0 < n → numeral n ≡ call (codes "ADD1") (numeral (n - 1) ∷ [])
unfolding numeral
number_call zero h = absurd (omega (arith, h))
number_call (suc n) h = ap (λ m. Applied (Function (codes "ADD1")) (numeral m)) (omega arith)

pub zero_call : (n : ℕ) → n ≡ 0 → numeral n ≡ call (codes "ZERO") []
unfolding numeral
zero_call zero e = refl
zero_call (suc n) e = absurd (omega (arith, e))

-- the number below one is over the history too
pub less_in : (history : List Entry) (old new : Work) (t u : TermId) (n : ℕ) → WorkStands history old → WorkGrows history old new → IsTermIn history old t → term_at old.bank t ≡ numeral n → 0 < n → IsIdOf new.bank u (numeral (n - 1)) → IsTermIn history new u
less_in history old new t u n stands grows there is more id =
    let after : IsTermIn history new t = term_grown history old new t stands grows there in
    let called : term_at new.bank t ≡ call (codes "ADD1") (numeral (n - 1) ∷ []) = same_term_grown history old new t grows there ∙ is ∙ number_call n more in
    let over = subst (IsTermOf IsVariable (symbols_of (events_at new.bank history))) called after.over in
    id_in history new u (numeral (n - 1)) id (record { over = over.over.1; variables = over.variables.1 })

pub one_in : (history : List Entry) (work : Work) (ids : List TermId) (u : TermId) → ids ≡ u ∷ [] → IsTermIn history work u → All (IsTermIn history work) ids
one_in history work ids u same there = subst (All (IsTermIn history work)) (sym same) (All-push (IsTermIn history work) [] u (λ i d below. absurd (omega arith)) there)
