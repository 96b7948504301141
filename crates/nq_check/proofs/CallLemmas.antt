-- The line of a call, over shared terms.
use Rattle.std.proofs.Common.{◌≡◌, ℕ, ◌<◌, Bool, true, false, List, [], ◌∷◌, ◌++◌, length, refl, sym, ap, ◌∙◌, subst, arith}
use Rattle.std.specs.Prelude.{Option, Some, None, All, nat_le, ◌&&◌, Vec}
use Rattle.std.specs.declared.alloc.Global.{Global}
use Rattle.std.specs.List.{flat_map}
use Rattle.std.proofs.lemmas.Bool.Decides.{nat_tests}
use Rattle.std.proofs.lemmas.List.{length-map}
use Rattle.nq_logtext.specs.Reading.{◌>>=◌}
use Rattle.nq_logtext.specs.Fields.{name}
use Rattle.nq_logtext.specs.Views.{one_number}
use Rattle.nq_logic.specs.Terms.{Name, Term, call}
use Rattle.nq_logic.specs.Sizes.{depth_of, depth_limit}
use Rattle.nq_bank.specs.declared.node.TermId.{TermId}
use Rattle.nq_bank.specs.declared.node.Sym.{Sym}
use Rattle.nq_bank.specs.Content.{Content, Stands, Grows, IsIdOf, Names, text_at, term_at, terms_at}
use Rattle.nq_bank.proofs.Growth.{terms_at-grown}
use Rattle.nq_logic.specs.Histories.{Event}
use Rattle.nq_logic.specs.Ground.{symbols_of}
use Rattle.nq_history.specs.Events.{events_at}
use Rattle.nq_proof.specs.Logs.{has_symbol}
use Rattle.nq_log.specs.Sizes.{is_shallow}
use Rattle.nq_log.specs.States.{Block, State, Step, Continues, block_symbols, only_when}
use Rattle.nq_log.specs.States as logs
use Rattle.nq_log.specs.Logs.{continued}
use Rattle.nq_log.specs.TermLines.{with_term, call_line}
use Rattle.nq_check.specs.declared.context.Context.{Context}
use Rattle.nq_check.specs.Contexts.{state_of, IsWhole}
use Rattle.nq_check.specs.Judging.{GoesOn}
use Rattle.nq_check.proofs.ContextLemmas.{term_goes_on, state_grown}
use Rattle.nq_check.proofs.NumberLemmas.{numbers_again}

module _ (s : State) (f : List ℕ) (ns : List ℕ) where
  pub call_terms : (o : Option (List Term)) → logs.terms_at s.block ns ≡ o → call_line s (name f ∷ flat_map one_number ns)
      ≡ (o >>= λ ts. only_when (has_symbol f (length ts) (block_symbols s) && is_shallow (call f ts)) (with_term s.block (call f ts)))
  call_terms o e =
      ap (λ (o : Option (List ℕ)). o >>= λ ns. logs.terms_at s.block ns >>= λ ts. only_when (has_symbol f (length ts) (block_symbols s) && is_shallow (call f ts)) (with_term s.block (call f ts))) (numbers_again ns)
      ∙ ap (λ (o : Option (List Term)). o >>= λ ts. only_when (has_symbol f (length ts) (block_symbols s) && is_shallow (call f ts)) (with_term s.block (call f ts))) e

  pub call_unnamed : logs.terms_at s.block ns ≡ None → continued (call_line s (name f ∷ flat_map one_number ns)) ≡ None
  call_unnamed e = ap continued (call_terms None e)

  pub call_unknown : (ts : List Term) → logs.terms_at s.block ns ≡ Some ts → has_symbol f (length ts) (block_symbols s) ≡ false → continued (call_line s (name f ∷ flat_map one_number ns)) ≡ None
  call_unknown ts e unknown = ap continued (call_terms (Some ts) e ∙ ap (λ b. only_when (b && is_shallow (call f ts)) (with_term s.block (call f ts))) unknown)

  pub call_known : (ts : List Term) (b : Bool) → logs.terms_at s.block ns ≡ Some ts → has_symbol f (length ts) (block_symbols s) ≡ true → is_shallow (call f ts) ≡ b →
      continued (call_line s (name f ∷ flat_map one_number ns)) ≡ continued (only_when b (with_term s.block (call f ts)))
  call_known ts b e known shallow =
      ap continued (call_terms (Some ts) e ∙ ap (λ b. only_when (b && is_shallow (call f ts)) (with_term s.block (call f ts))) known ∙ ap (λ b. only_when b (with_term s.block (call f ts))) shallow)

pub too_deep : (n m : ℕ) → m < n → nat_le n m ≡ false
too_deep n m h = grind (arith, nat_tests)

above : (n m : ℕ) → nat_le n m ≡ false → m < n
above n m h = grind (arith, nat_tests)

pub not_deep : (n m : ℕ) → (m < n → ⊥) → nat_le n m ≡ true
not_deep n m h = by_test (nat_le n m) refl
  where
    by_test : (b : Bool) → nat_le n m ≡ b → b ≡ true
    by_test true e = refl
    by_test false e = absurd (h (above n m e))

pub call_goes_on : (old : Context) (bank : Content) (terms : Vec TermId Global) (f : Name) (ns : List ℕ) (ts : List Term) (t : TermId) → logs.terms_at (state_of old).block ns ≡ Some ts → has_symbol f (length ts) (block_symbols (state_of old)) ≡ true →
    (depth_limit < depth_of (call f ts) → ⊥) → IsWhole old → Grows old.bank bank → IsIdOf bank t (call f ts) → terms.items ≡ old.terms.items ++ t ∷ [] →
    GoesOn (state_of old) (continued (call_line (state_of old) (name f ∷ flat_map one_number ns))) (record old { bank = bank; terms = terms })
call_goes_on old bank terms f ns ts t e known shallow whole h id pushed =
    subst (λ (o : Option Step). GoesOn (state_of old) o (record old { bank = bank; terms = terms })) (sym (call_known (state_of old) f ns ts true e known (not_deep (depth_of (call f ts)) depth_limit shallow)))
    (term_goes_on old bank terms t (call f ts) whole h id pushed)

-- ---- over the bank that has the function's name

pub arity_is : (c : Context) (bank : Content) (function : Name) (f : Sym) (ids slice : List TermId) (b : Bool) → IsWhole c → Names c.bank bank f function → slice ≡ ids →
    b ≡ has_symbol (text_at bank f) (length slice) (block_symbols (state_of (record c { bank = bank }))) → has_symbol function (length (terms_at c.bank ids)) (block_symbols (state_of c)) ≡ b
arity_is c bank function f ids slice b whole names same told =
    ap (λ n. has_symbol function n (block_symbols (state_of c))) (length-map ids (term_at c.bank) ∙ ap length (sym same))
    ∙ ap (λ (s : State). has_symbol function (length slice) (block_symbols s)) (state_grown c bank names.grows whole)
    ∙ ap (λ (n : Name). has_symbol n (length slice) (block_symbols (state_of (record c { bank = bank })))) (sym names.reads)
    ∙ sym told

pub call_is : (c : Context) (bank : Content) (function : Name) (f : Sym) (ids slice : List TermId) → Names c.bank bank f function → slice ≡ ids → All (Stands c.bank) ids →
    call (text_at bank f) (terms_at bank slice) ≡ call function (terms_at c.bank ids)
call_is c bank function f ids slice names same stand =
    ap (λ (ids : List TermId). call (text_at bank f) (terms_at bank ids)) same
    ∙ ap (λ (n : Name). call n (terms_at bank ids)) names.reads
    ∙ ap (λ (ts : List Term). call function ts) (terms_at-grown c.bank bank ids names.grows stand)
