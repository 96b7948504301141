-- Terms without a function are over the other symbols.
use Rattle.std.proofs.Common.{◌≡◌, false, ℕ, zero, suc, List, ◌∷◌, inl, inr, sym, ap}
use Rattle.std.specs.Prelude.{bytes_eq}
use Rattle.std.proofs.lemmas.Slice.Eq.{bytes_eq-Decides}
use Rattle.nq_logic.specs.Terms.{Name, Term, Variable, Function, Applied, Symbol, Takes}
use Rattle.nq_logic.specs.Admissible.{mentions}
use Rattle.nq_logic.proofs.Tests.{true_not_false}
use Rattle.nq_log.proofs.Options.{neither_left, neither_right}

-- terms without the function f are over the other symbols
pub without_function : (f : Name) (n : ℕ) (symbols : List Symbol) (t : Term) (k : ℕ) → mentions f t ≡ false → Takes ((f, n) ∷ symbols) t k → Takes symbols t k
without_function f n symbols (Variable x) zero e o = tt
without_function f n symbols (Variable x) (suc k) e o = absurd o
without_function f n symbols (Function g) k e (inl same) = absurd (true_not_false (bytes_eq f g) ((bytes_eq-Decides f g).1 (sym (ap (λ (s : Symbol). s.0) same))) e)
without_function f n symbols (Function g) k e (inr m) = m
without_function f n symbols (Applied t u) k e o =
    (without_function f n symbols t (suc k) (neither_left (mentions f t) (mentions f u) e) o.0, without_function f n symbols u zero (neither_right (mentions f t) (mentions f u) e) o.1)
