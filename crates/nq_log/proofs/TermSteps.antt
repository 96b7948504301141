-- The lines of terms keep a block right.
use Rattle.std.proofs.Common.{◌≡◌, true, ℕ, zero, suc, List, [], ◌∷◌, ◌&&◌, length, nat_lt, ◌^◌, not, subst}
use Rattle.std.specs.Prelude.{Option, Some, is_none, codes}
use Rattle.nq_logtext.specs.Fields.{Field, number, name, numeral}
use Rattle.nq_logtext.specs.Reading.{◌>>=◌}
use Rattle.nq_logic.specs.Terms.{Term, Variable, Function, Applied, applied, call, Symbol, Takes, IsTerm, Each}
use Rattle.nq_logic.specs.Words.{numeral as numeral_term}
use Rattle.nq_logic.specs.Formulas.{clause}
use Rattle.nq_logic.specs.Histories.{History}
use Rattle.nq_logic.specs.Ground.{symbols_of}
use Rattle.nq_logic.specs.Derivations.{Derivable}
use Rattle.nq_logic.proofs.Lists.{among_right, each_append, each_at, among_at}
use Rattle.nq_logic.proofs.Symbols.{zero_symbol, add1_symbol}
use Rattle.nq_proof.specs.Logs.{has_symbol}
use Rattle.nq_proof.proofs.Tests.{and_left, and_right}
use Rattle.nq_proof.proofs.TermTests.{symbol_found}
use Rattle.nq_logic.specs.Names.{has_name, constant_names, is_in_use}
use Rattle.nq_log.specs.Sizes.{is_shallow}
use Rattle.nq_log.specs.States.{is_empty, Block, State, introduced_symbols, block_symbols, term_at, terms_at, is_untouched, only_when}
use Rattle.nq_log.specs.Fields.{numbers_in}
use Rattle.nq_log.specs.TermLines.{with_term, function_line, variable_line, numeral_line, call_line}
use Rattle.nq_log.specs.Laws.{IsSound}
use Rattle.nq_log.proofs.Options.{nothing_found, found_same, bound, allowed, each_empty}

-- a line, if it was not dropped, is derivable
abbrev pub Stands : History → Option (List Term) → Type 0
Stands h o = (c : List Term) → o ≡ Some c → Derivable h (clause c)

-- The history's events hold, the block's terms are over its functions, and its lines are derivable.
pub record IsRight (s : State) : Type 0 where
  pub sound : IsSound s.history
  pub terms : Each (IsTerm (block_symbols s)) s.block.terms
  pub lines : Each (Stands s.history) s.block.lines

-- the state with another block
abbrev pub with_block : State → Block → State
with_block s block = record s { block = block }

pub term_over : (s : State) → IsRight s → (n : ℕ) (t : Term) → term_at s.block n ≡ Some t → IsTerm (block_symbols s) t
term_over s w zero t e = absurd (nothing_found t e)
term_over s w (suc n) t e = each_at (IsTerm (block_symbols s)) t s.block.terms w.terms (among_at t s.block.terms n e)

pub terms_over : (s : State) → IsRight s → (ns : List ℕ) (ts : List Term) → terms_at s.block ns ≡ Some ts → Each (IsTerm (block_symbols s)) ts
terms_over s w [] ts e = subst (Each (IsTerm (block_symbols s))) (found_same [] ts e) tt
terms_over s w (n ∷ ns) ts e =
    let a = bound (term_at s.block n) (λ t. terms_at s.block ns >>= λ ts. Some (t ∷ ts)) ts e in
    let b = bound (terms_at s.block ns) (λ ts. Some (a.0 ∷ ts)) ts a.2 in
    subst (Each (IsTerm (block_symbols s))) (found_same (a.0 ∷ b.0) ts b.2) (term_over s w n a.0 a.1, terms_over s w ns b.0 b.1)

applied_over : (symbols : List Symbol) (t : Term) (ts : List Term) → Takes symbols t (length ts) → Each (IsTerm symbols) ts → IsTerm symbols (applied t ts)
applied_over symbols t [] o all = o
applied_over symbols t (u ∷ ts) o all = applied_over symbols (Applied t u) ts (o, all.0) all.1

numeral_over : (s : State) (n : ℕ) → IsTerm (block_symbols s) (numeral_term n)
unfolding numeral_term
numeral_over s zero = among_right (codes "ZERO", 0) (introduced_symbols s.block.introduced) (symbols_of s.history) (zero_symbol s.history)
numeral_over s (suc n) = (among_right (codes "ADD1", 1) (introduced_symbols s.block.introduced) (symbols_of s.history) (add1_symbol s.history), numeral_over s n)

-- one term more
one_term : (s : State) → IsRight s → (t : Term) (block : Block) → IsTerm (block_symbols s) t → with_term s.block t ≡ block → IsRight (with_block s block)
one_term s w t block o e =
    subst (λ b. IsRight (with_block s b)) e (record { sound = w.sound; terms = each_append (IsTerm (block_symbols s)) s.block.terms (t ∷ []) w.terms (o, tt); lines = w.lines })

pub function_right : (s : State) → IsRight s → (fields : List Field) (block : Block) → function_line s fields ≡ Some block → IsRight (with_block s block)
function_right s w (name f ∷ number k ∷ []) block e =
    let new : Block = record s.block { introduced = Some (f, k) } in
    let a = allowed (is_untouched s.block && not (is_in_use f s.history) && nat_lt k (2 ^ 32)) new block e in
    let untouched = and_left (is_untouched s.block) (not (is_in_use f s.history)) (and_left (is_untouched s.block && not (is_in_use f s.history)) (nat_lt k (2 ^ 32)) a.0) in
    let no_terms : is_empty s.block.terms ≡ true = terms_empty s.block untouched in
    subst (λ b. IsRight (with_block s b)) a.1 (record { sound = w.sound; terms = each_empty (IsTerm (block_symbols (with_block s new))) s.block.terms no_terms; lines = w.lines })
  where
    terms_empty : (b : Block) → is_untouched b ≡ true → is_empty b.terms ≡ true
    terms_empty b e =
        and_right (is_none b.introduced) (is_empty b.terms)
        (and_left (is_none b.introduced && is_empty b.terms) (is_empty b.lines)
        (and_left (is_none b.introduced && is_empty b.terms && is_empty b.lines) (is_empty b.parts)
        (and_left (is_none b.introduced && is_empty b.terms && is_empty b.lines && is_empty b.parts) (is_empty b.cases)
        (and_left (is_none b.introduced && is_empty b.terms && is_empty b.lines && is_empty b.parts && is_empty b.cases) (is_none b.measure) e))))
function_right s w fields block e = absurd (nothing_found block e)

pub variable_right : (s : State) → IsRight s → (fields : List Field) (block : Block) → variable_line s fields ≡ Some block → IsRight (with_block s block)
variable_right s w (name x ∷ []) block e = one_term s w (Variable x) block tt (allowed (not (has_name x constant_names)) (with_term s.block (Variable x)) block e).1
variable_right s w fields block e = absurd (nothing_found block e)

pub numeral_right : (s : State) → IsRight s → (fields : List Field) (block : Block) → numeral_line s fields ≡ Some block → IsRight (with_block s block)
numeral_right s w (numeral n ∷ []) block e = one_term s w (numeral_term n) block (numeral_over s n) (found_same (with_term s.block (numeral_term n)) block e)
numeral_right s w fields block e = absurd (nothing_found block e)

pub call_right : (s : State) → IsRight s → (fields : List Field) (block : Block) → call_line s fields ≡ Some block → IsRight (with_block s block)
call_right s w (name f ∷ fields) block e =
    let next = λ (ts : List Term). only_when (has_symbol f (length ts) (block_symbols s) && is_shallow (call f ts)) (with_term s.block (call f ts)) in
    let a = bound (numbers_in fields) (λ ns. terms_at s.block ns >>= next) block e in
    let b = bound (terms_at s.block a.0) next block a.2 in
    let ts = b.0 in
    let c = allowed (has_symbol f (length ts) (block_symbols s) && is_shallow (call f ts)) (with_term s.block (call f ts)) block b.2 in
    let known = symbol_found f (length ts) (block_symbols s) (and_left (has_symbol f (length ts) (block_symbols s)) (is_shallow (call f ts)) c.0) in
    one_term s w (call f ts) block (applied_over (block_symbols s) (Function f) ts known (terms_over s w a.0 ts b.1)) c.1
call_right s w fields block e = absurd (nothing_found block e)
