-- The arguments of a call over symbols, with variables of one kind, are so too.
use Rattle.std.proofs.Common.{◌≡◌, List, [], ◌∷◌, length, sym, subst}
use Rattle.nq_logic.specs.Terms.{Name, Term, Function, Applied, applied, call, Symbol, Takes, IsTerm, IsAmong, Each}
use Rattle.nq_kernel.specs.Over.{VariablesAre, IsTermOf}

parts_over : (symbols : List Symbol) (t : Term) (us : List Term) → IsTerm symbols (applied t us) → Takes symbols t (length us) × Each (IsTerm symbols) us
parts_over symbols t [] o = (o, tt)
parts_over symbols t (u ∷ us) o = let w = parts_over symbols (Applied t u) us o in (w.0.0, (w.0.1, w.1))

parts_variables : (P : Name → Type 0) (t : Term) (us : List Term) → VariablesAre P (applied t us) → VariablesAre P t × Each (VariablesAre P) us
parts_variables P t [] o = (o, tt)
parts_variables P t (u ∷ us) o = let w = parts_variables P (Applied t u) us o in (w.0.0, (w.0.1, w.1))

both : (P : Name → Type 0) (symbols : List Symbol) (ts : List Term) → Each (IsTerm symbols) ts → Each (VariablesAre P) ts → Each (IsTermOf P symbols) ts
both P symbols [] over variables = tt
both P symbols (t ∷ ts) over variables = (record { over = over.0; variables = variables.0 }, both P symbols ts over.1 variables.1)

-- the function of a call is one of the symbols, and its arguments are over them
pub call_parts : (P : Name → Type 0) (symbols : List Symbol) (f : Name) (ts : List Term) → IsTermOf P symbols (call f ts) → IsAmong (f, length ts) symbols × Each (IsTermOf P symbols) ts
call_parts P symbols f ts w =
    let over = parts_over symbols (Function f) ts w.over in
    (over.0, both P symbols ts over.1 (parts_variables P (Function f) ts w.variables).1)

-- the same of a term that is such a call
pub arguments_over : (P : Name → Type 0) (symbols : List Symbol) (t : Term) (f : Name) (parts ts : List Term) → t ≡ call f parts → ts ≡ parts → IsTermOf P symbols t → Each (IsTermOf P symbols) ts
arguments_over P symbols t f parts ts is same over = subst (Each (IsTermOf P symbols)) (sym same) (call_parts P symbols f parts (subst (IsTermOf P symbols) is over)).1
