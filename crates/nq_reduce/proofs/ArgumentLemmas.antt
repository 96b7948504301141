-- Arguments of calls.
use Rattle.std.proofs.Common.{◌≡◌, ◌∷◌, [], ◌<◌, ◌≤◌, ◌-◌, ℕ, zero, suc, Bool, true, false, List, Some, length, get_or, refl, sym, ap, ◌∙◌, subst, arith}
use Rattle.std.specs.Prelude.{All, slice_get, if◌then◌else◌}
use Rattle.nq_logic.specs.Ground.{symbols_of}
use Rattle.nq_proof.specs.Clauses.{literal_at}
use Rattle.nq_history.specs.Events.{events_at}
use Rattle.nq_kernel.specs.Over.{IsTermOf, IsVariable, VariablesAre}
use Rattle.nq_reduce.specs.Rewriting.{IsArgument}
use Rattle.nq_logic.specs.Terms.{Term, Variable, Function, Applied, Symbol, Takes, Each}
use Rattle.nq_bank.specs.declared.node.TermId.{TermId}
use Rattle.nq_bank.specs.Parts.{parts_of, arguments_before}
use Rattle.nq_logic.specs.Numerals.{is_numeral}
use Rattle.nq_bank.specs.Content.{term_at, terms_at}
use Rattle.nq_history.specs.declared.entry.Entry.{Entry}
use Rattle.nq_kernel.specs.declared.work.Work.{Work}
use Rattle.nq_lines.specs.Lines.{IsTermIn}

-- the arguments of a term are over the functions that it is over
arguments_over : (symbols : List Symbol) (t : Term) (n : ℕ) (others : List Term) → Takes symbols t n → VariablesAre IsVariable t → Each (IsTermOf IsVariable symbols) others → Each (IsTermOf IsVariable symbols) (arguments_before t others)
arguments_over symbols (Variable x) n others takes variables rest = rest
arguments_over symbols (Function f) n others takes variables rest = rest
arguments_over symbols (Applied t u) n others takes variables rest = arguments_over symbols t (suc n) (u ∷ others) takes.0 variables.0 (record { over = takes.1; variables = variables.1 }, rest)

parts_over : (symbols : List Symbol) (t : Term) → IsTermOf IsVariable symbols t → Each (IsTermOf IsVariable symbols) (parts_of t)
parts_over symbols t h = by_test (is_numeral t)
  where
    by_test : (b : Bool) → Each (IsTermOf IsVariable symbols) (if b then [] else arguments_before t [])
    by_test true = tt
    by_test false = arguments_over symbols t 0 [] h.over h.variables tt

each_get : (P : Term → Type 0) (xs : List Term) (i : ℕ) (x : Term) → Each P xs → slice_get xs i ≡ Some x → P x
each_get P [] i x h e = absurd cc
each_get P (y ∷ xs) zero x h e = let same : y ≡ x = cc in subst P same h.0
each_get P (y ∷ xs) (suc i) x h e = each_get P xs i x h.1 e

get_terms : (work : Work) (ids : List TermId) (i : ℕ) (d : TermId) → i < length ids → slice_get (terms_at work.bank ids) i ≡ Some (term_at work.bank (get_or ids i d))
get_terms work [] i d h = absurd (omega arith)
get_terms work (x ∷ ids) zero d h = refl
get_terms work (x ∷ ids) (suc i) d h = get_terms work ids i d (omega arith)

literal_is : (xs : List Term) (place : ℕ) (x : Term) → 1 ≤ place → slice_get xs (place - 1) ≡ Some x → literal_at place xs ≡ Some x
literal_is xs zero x least e = absurd (omega arith)
literal_is xs (suc k) x least e = let same : k ≡ suc k - 1 = omega arith in ap (slice_get xs) same ∙ e

-- an argument of a call
pub argument_told : (history : List Entry) (work : Work) (t : TermId) (ids : List TermId) (place : ℕ) (d : TermId) → IsTermIn history work t → terms_at work.bank ids ≡ parts_of (term_at work.bank t) → All (λ a. a.0 < t.0) ids → 1 ≤ place → place ≤ length ids → IsArgument history work t place (get_or ids (place - 1) d)
argument_told history work t ids place d there parts earlier least most =
    let a : TermId = get_or ids (place - 1) d in
    let below : place - 1 < length ids = omega arith in
    let before : a.0 < t.0 = earlier (place - 1) d below in
    let at : slice_get (parts_of (term_at work.bank t)) (place - 1) ≡ Some (term_at work.bank a) = ap (λ xs. slice_get xs (place - 1)) (sym parts) ∙ get_terms work ids (place - 1) d below in
    let symbols : List Symbol = symbols_of (events_at work.bank history) in
    record {
      argument = record { stands = omega (arith, before, there.stands); over = each_get (IsTermOf IsVariable symbols) (parts_of (term_at work.bank t)) (place - 1) (term_at work.bank a) (parts_over symbols (term_at work.bank t) there.over) at };
      at = literal_is (parts_of (term_at work.bank t)) place (term_at work.bank a) least at;
    }
