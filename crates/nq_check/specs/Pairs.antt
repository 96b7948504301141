-- Bindings of a line, each a variable with its term.
use Rattle.std.specs.Prelude.{ℕ, Option, Some}
use Rattle.nq_logtext.specs.Reading.{◌>>=◌}
use Rattle.nq_logic.specs.Terms.{Name, Term}
use Rattle.nq_bank.specs.Content.{Content, text_at, term_at}
use Rattle.nq_clause.specs.declared.substitution.Pair.{Pair}
use Rattle.nq_log.specs.States.{Block, term_at as term_of_block, variable_at}

-- the variable and the term that two numbers name
abbrev pub bound_at : Block → ℕ × ℕ → Option (Name × Term)
bound_at block pair = variable_at block pair.0 >>= λ x. term_of_block block pair.1 >>= λ t. Some (x, t)

-- the variable and the term of a pair
abbrev pub pair_at : Content → Pair → Name × Term
pair_at bank p = (text_at bank p.variable, term_at bank p.term)
