-- The lines of a block that give its terms.
use Rattle.std.specs.Prelude.{◌^◌, nat_lt, ◌&&◌, not, List, [], ◌∷◌, ◌++◌, length, Option, Some, None}
use Rattle.nq_logtext.specs.Reading.{◌>>=◌}
use Rattle.nq_logtext.specs.Fields.{Field, number, numeral, name}
use Rattle.nq_logic.specs.Terms.{Term, Variable, call}
use Rattle.nq_logic.specs.Words.{numeral as numeral_term}
use Rattle.nq_logic.specs.Names.{has_name, constant_names, is_in_use}
use Rattle.nq_proof.specs.Logs.{has_symbol}
use Rattle.nq_log.specs.Sizes.{is_shallow}
use Rattle.nq_log.specs.States.{Block, State, block_symbols, terms_at, is_untouched, only_when}
use Rattle.nq_log.specs.Fields.{numbers_in}

abbrev pub with_term : Block → Term → Block
with_term block t = record block { terms = block.terms ++ (t ∷ []) }

-- F f k: no term, and only as the first line of a block that a definition of f ends; f is not in use, k is below 2^32
abbrev pub function_line : State → List Field → Option Block
function_line s (name f ∷ number k ∷ []) =
    only_when (is_untouched s.block && not (is_in_use f s.history) && nat_lt k (2 ^ 32)) (record s.block { introduced = Some (f, k) })
function_line s fields = None

-- V x: the variable x, which is not T, F or NIL
abbrev pub variable_line : State → List Field → Option Block
variable_line s (name x ∷ []) = only_when (not (has_name x constant_names)) (with_term s.block (Variable x))
variable_line s fields = None

-- N n: the numeral n
abbrev pub numeral_line : State → List Field → Option Block
numeral_line s (numeral n ∷ []) = Some (with_term s.block (numeral_term n))
numeral_line s fields = None

-- A f t1 ... tk: a call, not more than 4,000 deep; f has arity k in the history, or is the block's F
abbrev pub call_line : State → List Field → Option Block
call_line s (name f ∷ fields) =
    numbers_in fields >>= λ ns. terms_at s.block ns >>= λ ts.
    only_when (has_symbol f (length ts) (block_symbols s) && is_shallow (call f ts)) (with_term s.block (call f ts))
call_line s fields = None
