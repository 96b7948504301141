-- The function that a block introduces is none of the history's, and its name is a symbol.
use Rattle.std.proofs.Common.{◌≡◌, ℕ, zero, suc, Bool, true, false, ◌||◌, ◌&&◌, Option, Some, None, List, [], ◌∷◌, ◌++◌, inl, inr, sym, ap, subst, ◌∙◌, refl}
use Rattle.std.proofs.lemmas.Slice.Eq.{bytes_eq-Decides}
use Rattle.std.specs.Prelude.{bytes_eq, IsTrue, not}
use Rattle.nq_logtext.specs.Symbols.{is_symbol}
use Rattle.nq_logic.specs.Terms.{Name, Symbol, Term, Variable, Function, Applied, Takes, IsAmong, Each}
use Rattle.nq_logic.specs.Histories.{History}
use Rattle.nq_logic.specs.Ground.{all_events, symbols_of}
use Rattle.nq_logic.specs.Names.{events_names, has_name, is_reserved, is_in_use}
use Rattle.nq_logic.specs.Admissible.{mentions}
use Rattle.nq_logic.proofs.Lists.{among_right}
use Rattle.nq_logic.proofs.Tests.{names_found_law, true_not_false}
use Rattle.nq_kernel.specs.Over.{IsTermOf, IsVariable}
use Rattle.nq_log.specs.States.{introduced_symbols}
use Rattle.nq_log.specs.RuleLines.{are_without}
use Rattle.nq_log.proofs.Options.{neither_right}
use Rattle.nq_block.specs.Names.{HasSymbols}
use Rattle.nq_block.specs.Writing.{IsNew}
use Rattle.nq_block.proofs.Named.{function_named, function_spelled}

-- a name that is not in use is that of no function
no_function : (h : History) (f g : Name) (n : ℕ) → is_in_use f h ≡ false → IsAmong (g, n) (symbols_of h) → bytes_eq f g ≡ false
no_function h f g n unused m = by_test (bytes_eq f g) refl
  where
    names : List Name
    names = events_names (all_events h)

    by_test : (b : Bool) → bytes_eq f g ≡ b → b ≡ false
    by_test false e = refl
    by_test true e =
        let among : IsAmong f names = subst (λ x. IsAmong x names) (sym ((bytes_eq-Decides f g).0 e)) (function_named h (g, n) m) in
        absurd (true_not_false (has_name f names) ((names_found_law f names).1 among) (neither_right (is_reserved f) (has_name f names) unused))

-- no term over the history's functions mentions it
pub not_mentioned : (h : History) (f : Name) (t : Term) (n : ℕ) → is_in_use f h ≡ false → Takes (symbols_of h) t n → mentions f t ≡ false
not_mentioned h f (Variable x) n unused o = refl
not_mentioned h f (Function g) n unused o = no_function h f g n unused o
not_mentioned h f (Applied t u) n unused o = ap (λ b. b || mentions f u) (not_mentioned h f t (suc n) unused o.0) ∙ not_mentioned h f u zero unused o.1

none_introduced : (ts : List Term) → are_without None ts ≡ true
none_introduced [] = refl
none_introduced (t ∷ ts) = none_introduced ts

pub without_new : (h : History) (introduced : Option Symbol) (ts : List Term) → IsNew h introduced → Each (IsTermOf IsVariable (symbols_of h)) ts → are_without introduced ts ≡ true
without_new h None ts new over = none_introduced ts
without_new h (Some s) [] new over = refl
without_new h (Some s) (t ∷ ts) new over = ap (λ b. not b && are_without (Some s) ts) (not_mentioned h s.0 t zero new.free.unused over.0.over) ∙ without_new h (Some s) ts new over.1

takes_more : (more symbols : List Symbol) (t : Term) (n : ℕ) → Takes symbols t n → Takes (more ++ symbols) t n
takes_more more symbols (Variable x) zero o = tt
takes_more more symbols (Variable x) (suc n) o = absurd o
takes_more more symbols (Function f) n o = among_right (f, n) more symbols o
takes_more more symbols (Applied t u) n o = (takes_more more symbols t (suc n) o.0, takes_more more symbols u zero o.1)

-- a term over the history's functions is one over the block's
pub over_more : (more symbols : List Symbol) (t : Term) → IsTermOf IsVariable symbols t → IsTermOf IsVariable (more ++ symbols) t
over_more more symbols t w = record { over = takes_more more symbols t zero w.over; variables = w.variables }

-- the name of a function of the block is spelled
pub block_function_spelled : (h : History) (introduced : Option Symbol) (s : Symbol) → HasSymbols h → IsNew h introduced → IsAmong s (introduced_symbols introduced ++ symbols_of h) → IsTrue (is_symbol s.0)
block_function_spelled h None s w new m = function_spelled h s w m
block_function_spelled h (Some i) s w new (inl same) = subst (λ (q : Symbol). IsTrue (is_symbol q.0)) (sym same) new.free.symbol
block_function_spelled h (Some i) s w new (inr m) = function_spelled h s w m
