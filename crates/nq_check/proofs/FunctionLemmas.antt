-- What the line of a function, and that of a measure, lead to.
use Rattle.std.proofs.Common.{◌≡◌, ℕ, ◌^◌, Bool, true, false, List, ◌∷◌, [], refl, sym, ap, ◌∙◌, subst}
use Rattle.std.specs.Prelude.{Option, Some, None, ◌&&◌, not, nat_lt, Vec}
use Rattle.std.specs.declared.alloc.Global.{Global}
use Rattle.std.specs.List.{flat_map}
use Rattle.nq_logtext.specs.Reading.{◌>>=◌}
use Rattle.nq_logtext.specs.Fields.{name, number}
use Rattle.nq_logtext.specs.Views.{one_number}
use Rattle.nq_logic.specs.Terms.{Name}
use Rattle.nq_logic.specs.Names.{is_in_use}
use Rattle.nq_log.specs.States.{Block, Continues, State, Step, has_line, has_term_at, have_lines, is_untouched, only_when}
use Rattle.nq_log.specs.States as logs
use Rattle.nq_log.specs.Logs.{continued}
use Rattle.nq_log.specs.TermLines.{function_line}
use Rattle.nq_log.specs.ClosingLines.{measure_line}
use Rattle.nq_check.specs.declared.context.Context.{Context}
use Rattle.nq_check.specs.declared.waiting.MeasureLine.{MeasureLine}
use Rattle.nq_check.specs.Contexts.{state_of, IsWhole}
use Rattle.nq_check.specs.Judging.{GoesOn}
use Rattle.nq_check.proofs.NumberLemmas.{numbers_again}

-- ---- F

-- the name is told apart
apart : (untouched free small : Bool) → (untouched && small) ≡ true → (untouched && free && small) ≡ free
apart true true true e = refl
apart true false true e = refl
apart true free false e = absurd cc
apart false free small e = absurd cc

denied : (untouched free small : Bool) → (untouched && small) ≡ false → (untouched && free && small) ≡ false
denied false free small e = refl
denied true true false e = refl
denied true false false e = refl
denied true free true e = absurd cc

module _ (s : State) (f : Name) (k : ℕ) where
  abbrev with_function : Block
  with_function = record s.block { introduced = Some (f, k) }

  pub function_denied : (is_untouched s.block && nat_lt k (2 ^ 32)) ≡ false → continued (function_line s (name f ∷ number k ∷ [])) ≡ None
  function_denied e = ap (λ b. continued (only_when b with_function)) (denied (is_untouched s.block) (not (is_in_use f s.history)) (nat_lt k (2 ^ 32)) e)

  pub function_led : (is_untouched s.block && nat_lt k (2 ^ 32)) ≡ true → continued (function_line s (name f ∷ number k ∷ [])) ≡ continued (only_when (not (is_in_use f s.history)) with_function)
  function_led e = ap (λ b. continued (only_when b with_function)) (apart (is_untouched s.block) (not (is_in_use f s.history)) (nat_lt k (2 ^ 32)) e)

-- ---- MEASURE

module _ (s : State) (m o : ℕ) (ns : List ℕ) where
  abbrev stand : Bool
  stand = has_term_at s.block m && has_line s.block o && have_lines s.block ns

  abbrev measured : List ℕ → Block
  measured rs = record s.block { measure = Some (record { measure = m; ordinal = o; falls = rs }) }

  measure_is : continued (measure_line s (number m ∷ number o ∷ flat_map one_number ns)) ≡ continued (only_when stand (measured ns))
  measure_is = ap (λ (o2 : Option (List ℕ)). continued (o2 >>= λ rs. only_when (has_term_at s.block m && has_line s.block o && have_lines s.block rs) (measured rs))) (numbers_again ns)

  pub measure_denied : stand ≡ false → continued (measure_line s (number m ∷ number o ∷ flat_map one_number ns)) ≡ None
  measure_denied e = measure_is ∙ ap (λ b. continued (only_when b (measured ns))) e

pub measure_goes_on : (old : Context) (m o : ℕ) (ns : List ℕ) (falls : Vec ℕ Global) → IsWhole old → (has_term_at (state_of old).block m && has_line (state_of old).block o && have_lines (state_of old).block ns) ≡ true → falls.items ≡ ns →
    GoesOn (state_of old) (continued (measure_line (state_of old) (number m ∷ number o ∷ flat_map one_number ns))) (record old { measure = Some (record { measure = m; ordinal = o; falls = falls }) })
measure_goes_on old m o ns falls whole e same = record {
  whole = record { history = whole.history; introduced = whole.introduced; terms = whole.terms; lines = whole.lines; parts = whole.parts };
  step = measure_is (state_of old) m o ns ∙ ap (λ b. continued (only_when b (measured (state_of old) m o ns ns))) e ∙ ap (λ (rs : List ℕ). Some (Continues (measured (state_of old) m o ns rs))) (sym same);
  history = refl;
}
