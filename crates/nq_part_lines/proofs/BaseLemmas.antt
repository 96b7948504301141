-- The shell that has a base, and that the size of a base is 0.
use Rattle.std.proofs.Common.{◌≡◌, ◌≤◌, ℕ, true, Some, List, [], ◌∷◌, length, get_or, inl, refl, sym, ap, ◌∙◌, subst, arith}
use Rattle.std.specs.Prelude.{All, bytes_eq}
use Rattle.nq_logic.specs.Terms.{Name, Term, Function, IsAmong}
use Rattle.nq_logic.specs.Words.{call1, equal_term, zero_term}
use Rattle.nq_logic.specs.Histories.{History}
use Rattle.nq_logic.specs.ShellPrinciple.{shells_of}
use Rattle.nq_bank.specs.declared.node.Sym.{Sym}
use Rattle.nq_bank.specs.declared.node.TermId.{TermId}
use Rattle.nq_bank.specs.declared.shell.Shell.{Shell}
use Rattle.nq_bank.specs.Content.{Content, IsNamed, term_at, text_at}
use Rattle.nq_bank.specs.Parts.{parts_of}
use Rattle.nq_bank.specs.Shells.{ShellStands, shell_at, shells_at, text_if}
use Rattle.nq_bank.proofs.NodesLemmas.{All-head}
use Rattle.nq_proof.specs.Clauses.{literal_at}
use Rattle.nq_proof.proofs.Tests.{names_same}
use Rattle.nq_history.specs.declared.entry.Entry.{Entry}
use Rattle.nq_kernel.specs.declared.work.Work.{Work}
use Rattle.nq_kernel.specs.Growing.{LineHolds}
use Rattle.nq_part_lines.specs.Known.{HasKnownRows, IsRow}
use Rattle.nq_part_lines.specs.Objects.{HasThisBase, IsZeroBase}
use Rattle.nq_part_lines.specs.Small.{IsSmallIn}
use Rattle.nq_part_lines.proofs.ReadingLemmas.{count_parts, equal_parts, there}

-- the first of some shells has this base
pub found_here : (bank : Content) (shells : List Shell) (d : Name) (s : Shell) (b : Sym) → 1 ≤ length shells → s ≡ get_or shells 0 s → All (ShellStands bank) shells → s.base ≡ Some b → bytes_eq d (text_at bank b) ≡ true → HasThisBase bank (shells_at bank shells) d s.constructor
found_here bank [] d s b l is stand base same = absurd (omega (arith, l))
found_here bank (x ∷ xs) d s b l is stand base same =
    record {
      named = subst (λ (y : Shell). IsNamed bank y.constructor) (sym is) (All-head (ShellStands bank) x xs stand).constructor;
      shell = shell_at bank x;
      among = inl refl;
      constructor_is = ap (λ (y : Shell). text_at bank y.constructor) (sym is);
      base_is = ap (λ (y : Shell). text_if bank y.base) (sym is) ∙ ap (text_if bank) base ∙ ap Some (sym (names_same d (text_at bank b) same));
    }

-- that the size of a base is 0
abbrev pub zero_size : Name → Term
zero_size d = equal_term (call1 "COUNT" (Function d)) zero_term

-- the row of the shell that has the base
pub zero_row : (h : History) (bank : Content) (d : Name) (c : Sym) → HasKnownRows h → HasThisBase bank (shells_of h) d c → IsRow h (text_at bank c) 15 0 (zero_size d ∷ [])
zero_row h bank d c known b = subst (λ n. IsRow h n 15 0 (zero_size d ∷ [])) b.constructor_is (known.bases b.shell d b.among b.base_is)

pub zero_count : (d : Name) (t : Term) → t ≡ zero_size d → literal_at 1 (parts_of t) ≡ Some (call1 "COUNT" (Function d))
zero_count d t e = there 1 t (zero_size d) (call1 "COUNT" (Function d)) (call1 "COUNT" (Function d) ∷ zero_term ∷ []) e (equal_parts (call1 "COUNT" (Function d)) zero_term) refl

pub zero_constant : (d : Name) (t : Term) → t ≡ call1 "COUNT" (Function d) → literal_at 1 (parts_of t) ≡ Some (Function d)
zero_constant d t e = there 1 t (call1 "COUNT" (Function d)) (Function d) (Function d ∷ []) e (count_parts (Function d)) refl

pub zero_told : (history : List Entry) (work : Work) (d : Name) (base none : TermId) (line : ℕ) → IsSmallIn history work base → term_at work.bank base ≡ Function d → IsSmallIn history work none → term_at work.bank none ≡ zero_size d → LineHolds work line (zero_size d ∷ []) →
    IsZeroBase history work d (record { base = base; none = none; line = line })
zero_told history work d base none line small base_is small_none none_is holds =
    record {
      base = small;
      base_is = base_is;
      none = small_none;
      none_is = none_is ∙ sym (ap (λ t. equal_term (call1 "COUNT" t) zero_term) base_is);
      line = record { literals = zero_size d ∷ []; stands = holds; only = λ v m. subst (λ t. IsAmong v (t ∷ [])) (sym none_is) m };
    }
