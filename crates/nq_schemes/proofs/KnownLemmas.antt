-- Parts of terms, and pairs of variables and terms, over the history.
use Rattle.std.proofs.Common.{◌≡◌, ◌<◌, ◌∙◌, ℕ, zero, suc, Option, Some, None, List, [], ◌∷◌, length, get_or, sym, ap, subst, refl, arith}
use Rattle.std.specs.Prelude.{All, IfSome, IsTrue, slice_get}
use Rattle.std.specs.Option.{option_map}
use Rattle.std.proofs.lemmas.Option.{slice_get-map, slice_get-get_or, get_or_from_slice_get, slice_get_within}
use Rattle.nq_logic.specs.Terms.{Each, Variable}
use Rattle.nq_logic.specs.Ground.{symbols_of}
use Rattle.nq_bank.specs.declared.node.TermId.{TermId}
use Rattle.nq_bank.specs.declared.node.Sym.{Sym}
use Rattle.nq_bank.specs.Content.{IsNamed, text_at, term_at, terms_at}
use Rattle.nq_bank.specs.Parts.{parts_of}
use Rattle.nq_bank.proofs.NodesLemmas.{All-head, All-tail}
use Rattle.nq_clause.specs.declared.substitution.Pair.{Pair}
use Rattle.nq_clause.specs.Substitution.{substitution_at}
use Rattle.nq_proof.specs.Rules.{is_substitution, pair_terms}
use Rattle.nq_history.specs.declared.entry.Entry.{Entry}
use Rattle.nq_history.specs.Events.{events_at}
use Rattle.nq_kernel.specs.declared.work.Work.{Work}
use Rattle.nq_kernel.specs.Over.{IsVariable, IsTermOf, pair_names}
use Rattle.nq_lines.specs.Lines.{IsTermIn}
use Rattle.nq_lines.specs.Instances.{ArePairsIn}
use Rattle.nq_lines.proofs.ArgumentLemmas.{argument_over}
use Rattle.nq_schemes.specs.Known.{IsNameOf, IsPairIn}

-- an argument of a term
pub record IsArgument (history : List Entry) (work : Work) (s a : TermId) : Type 0 where
  pub over : IsTermIn history work a
  pub earlier : a.0 < s.0

pub argument_in : (history : List Entry) (work : Work) (s a : TermId) (ids : List TermId) (i : ℕ) → IsTermIn history work s → terms_at work.bank ids ≡ parts_of (term_at work.bank s) → All (λ a. a.0 < s.0) ids → i < length ids → a ≡ get_or ids i a → IsArgument history work s a
argument_in history work s a ids i h tells earlier below got =
    let found : slice_get ids i ≡ Some a = slice_get-get_or ids i a below ∙ ap Some (sym got) in
    let less : a.0 < s.0 = subst (λ x. x.0 < s.0) (get_or_from_slice_get ids i a a found) (earlier i a (slice_get_within ids i a found)) in
    let at : slice_get (parts_of (term_at work.bank s)) i ≡ Some (term_at work.bank a) = ap (λ ts. slice_get ts i) (sym tells) ∙ slice_get-map (term_at work.bank) ids i ∙ ap (option_map (term_at work.bank)) found in
    record {
      over = record { stands = omega (arith, less, h.stands); over = argument_over (symbols_of (events_at work.bank history)) (term_at work.bank s) (suc i) (term_at work.bank a) h.over at };
      earlier = less;
    }

pub same_default : (xs : List TermId) (i : ℕ) (d e : TermId) → i < length xs → get_or xs i d ≡ get_or xs i e
same_default [] i d e below = absurd (omega (arith, below))
same_default (x ∷ xs) zero d e below = refl
same_default (x ∷ xs) (suc i) d e below = same_default xs i d e (omega (arith, below))

-- pairs, one after the other
module _ (history : List Entry) (work : Work) where
  terms_in : (pairs : List Pair) → All (IsPairIn history work) pairs → Each (IsTermOf IsVariable (symbols_of (events_at work.bank history))) (pair_terms (substitution_at work.bank pairs))
  terms_in [] k = tt
  terms_in (p ∷ pairs) k = ((All-head (IsPairIn history work) p pairs k).over.term, terms_in pairs (All-tail (IsPairIn history work) p pairs k))

  names_in : (pairs : List Pair) → All (IsPairIn history work) pairs → Each IsVariable (pair_names (substitution_at work.bank pairs))
  names_in [] k = tt
  names_in (p ∷ pairs) k = ((All-head (IsPairIn history work) p pairs k).over.variable, names_in pairs (All-tail (IsPairIn history work) p pairs k))

  pub pairs_in : (pairs : List Pair) → All (IsPairIn history work) pairs → IsTrue (is_substitution (substitution_at work.bank pairs)) → ArePairsIn history work pairs
  pairs_in pairs k distinct = record { stand = λ n d below. (k n d below).stands; distinct = distinct; terms = terms_in pairs k; names = names_in pairs k }

-- the name of a variable that is known
pub name_known : (history : List Entry) (work : Work) (t : TermId) (found : Option Sym) → IsTermIn history work t → IfSome found (λ x. IsNamed work.bank x) → IfSome found (λ x. term_at work.bank t ≡ Variable (text_at work.bank x)) → IfSome found (IsNameOf history work t)
name_known history work t None h named same = tt
name_known history work t (Some x) h named same = record { term = h; named = named; names = same }
