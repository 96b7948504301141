-- Whether T, or F, is of a kind: rows of shells, recognizers, and what lines tell.
use Rattle.std.proofs.Common.{◌≡◌, ◌≤◌, ℕ, Bool, true, false, List, [], ◌∷◌, length, get_or, inl, inr, refl, sym, ap, ◌∙◌, subst, arith}
use Rattle.std.specs.Prelude.{All, bytes_eq, codes, not}
use Rattle.std.proofs.lemmas.Slice.Eq.{bytes_eq-Decides}
use Rattle.nq_logic.specs.Terms.{Name, Term, Each, IsAmong}
use Rattle.nq_logic.specs.Ground.{symbols_of}
use Rattle.nq_logic.specs.Names.{has_name}
use Rattle.nq_logic.specs.Histories.{History, Shell as ShellOfTexts}
use Rattle.nq_logic.specs.ShellPrinciple.{recognizers, shells_of}
use Rattle.nq_logic.specs.Shells.{recognizes}
use Rattle.nq_logic.specs.Words.{not_term, true_term}
use Rattle.nq_logic.proofs.Lists.{each_at}
use Rattle.nq_logic.proofs.Symbols.{true_symbol, false_symbol, truep_symbol, falsep_symbol}
use Rattle.nq_logic.proofs.Tests.{names_found_law}
use Rattle.nq_bank.specs.declared.node.Sym.{Sym}
use Rattle.nq_bank.specs.declared.shell.Shell.{Shell}
use Rattle.nq_bank.specs.Content.{Content, IsNamed, text_at}
use Rattle.nq_bank.specs.Shells.{ShellStands, shell_at, shells_at}
use Rattle.nq_bank.proofs.NodesLemmas.{All-head}
use Rattle.nq_bank.proofs.Growth.{text_at-grown}
use Rattle.nq_proof.proofs.Tests.{names_same}
use Rattle.nq_history.specs.declared.entry.Entry.{Entry}
use Rattle.nq_history.specs.Events.{events_at}
use Rattle.nq_history.proofs.HistoryLemmas.{events_at-grown}
use Rattle.nq_kernel.specs.declared.work.Work.{Work}
use Rattle.nq_kernel.specs.Growing.{WorkStands, WorkGrows, LineHolds}
use Rattle.nq_lines.specs.Lines.{LineHasOnly}
use Rattle.nq_lines.specs.OwnTerms.{IsOver}
use Rattle.nq_part_lines.specs.Decisions.{HasThisKind, is_of, told}
use Rattle.nq_part_lines.specs.Defaults.{IsKind, truth_kind, truth_name, truth_term}
use Rattle.nq_part_lines.specs.Known.{AreNoObjects, HasKnownRows, IsRow}

-- T and F are constants of every history
pub truth_known : (h : History) (value : Bool) → IsAmong (truth_name value, 0) (symbols_of h)
truth_known h true = true_symbol h
truth_known h false = false_symbol h

-- the shell of a recognizer
pub record HasShell (r : Name) (shells : List ShellOfTexts) : Type 0 where
  pub shell : ShellOfTexts
  pub among : IsAmong shell shells
  pub is : r ≡ shell.recognizer

shell_named : (r : Name) (shells : List ShellOfTexts) → IsAmong r (recognizers shells) → HasShell r shells
shell_named r [] m = absurd m
shell_named r (s ∷ shells) (inl e) = record { shell = s; among = inl refl; is = e }
shell_named r (s ∷ shells) (inr m) = let rest = shell_named r shells m in record { shell = rest.shell; among = inr rest.among; is = rest.is }

-- what a restriction may name is a function of one argument
pub kind_known : (h : History) (r : Name) → HasKnownRows h → IsKind h r → IsAmong (r, 1) (symbols_of h)
kind_known h r known (inl e) = subst (λ n. IsAmong (n, 1) (symbols_of h)) (sym e) (truep_symbol h)
kind_known h r known (inr (inl e)) = subst (λ n. IsAmong (n, 1) (symbols_of h)) (sym e) (falsep_symbol h)
kind_known h r known (inr (inr m)) =
    let found = shell_named r (shells_of h) m in
    let none : AreNoObjects h found.shell = each_at (AreNoObjects h) found.shell (shells_of h) known.truths found.among in
    let row : List Term = not_term (recognizes found.shell true_term) ∷ [] in
    let over : Each (IsOver h) row = known.own.rows found.shell.constructor 11 0 row none.truth.is in
    subst (λ n. IsAmong (n, 1) (symbols_of h)) (sym found.is) over.0.over.1.0

-- the shell that has this recognizer
pub kind_here : (bank : Content) (shells : List Shell) (r : Name) (s : Shell) → 1 ≤ length shells → s ≡ get_or shells 0 s → All (ShellStands bank) shells → bytes_eq r (text_at bank s.recognizer) ≡ true → HasThisKind bank (shells_at bank shells) r s.constructor
kind_here bank [] r s l is stand same = absurd (omega (arith, l))
kind_here bank (x ∷ xs) r s l is stand same =
    record {
      named = subst (λ (y : Shell). IsNamed bank y.constructor) (sym is) (All-head (ShellStands bank) x xs stand).constructor;
      shell = shell_at bank x;
      among = inl refl;
      constructor_is = ap (λ (y : Shell). text_at bank y.constructor) (sym is);
      recognizer_is = ap (λ (y : Shell). text_at bank y.recognizer) (sym is) ∙ sym (names_same r (text_at bank s.recognizer) same);
    }

-- the row that says that T, or F, is no object of a shell
abbrev pub none_row : Bool → ℕ
none_row true = 11
none_row false = 12

none_there : (h : History) (s : ShellOfTexts) (value : Bool) → AreNoObjects h s → IsRow h s.constructor (none_row value) 0 (not_term (recognizes s (truth_term value)) ∷ [])
none_there h s true k = k.truth
none_there h s false k = k.falsity

pub shell_row : (h : History) (bank : Content) (r : Name) (c : Sym) (value : Bool) → HasKnownRows h → HasThisKind bank (shells_of h) r c → IsRow h (text_at bank c) (none_row value) 0 (not_term (is_of r value) ∷ [])
shell_row h bank r c value known k =
    let none : AreNoObjects h k.shell = each_at (AreNoObjects h) k.shell (shells_of h) known.truths k.among in
    subst (λ n. IsRow h n (none_row value) 0 (not_term (is_of r value) ∷ [])) k.constructor_is (
    subst (λ n. IsRow h k.shell.constructor (none_row value) 0 (not_term (is_of n value) ∷ [])) k.recognizer_is (none_there h k.shell value none))

-- a kind that is neither T's nor F's is a shell's
not_itself : (a b : Name) → b ≡ a → bytes_eq a b ≡ false → ⊥
not_itself a b e f = let same : bytes_eq a b ≡ true = (bytes_eq-Decides a b).1 (sym e) in cc

pub shells_kind : (h : History) (r : Name) (value : Bool) → IsKind h r → bytes_eq (truth_kind value) r ≡ false → bytes_eq (truth_kind (not value)) r ≡ false → has_name r (recognizers (shells_of h)) ≡ true
shells_kind h r true (inl e) own other = absurd (not_itself (codes "TRUEP") r e own)
shells_kind h r false (inl e) own other = absurd (not_itself (codes "TRUEP") r e other)
shells_kind h r true (inr (inl e)) own other = absurd (not_itself (codes "FALSEP") r e other)
shells_kind h r false (inr (inl e)) own other = absurd (not_itself (codes "FALSEP") r e own)
shells_kind h r value (inr (inr m)) own other = (names_found_law r (recognizers (shells_of h))).1 m

-- what lines of one literal tell
module _ (work : Work) (n : ℕ) where
  only_one : (t u : Term) → u ≡ t → LineHolds work n (t ∷ []) → LineHasOnly work n (u ∷ [])
  only_one t u e holds = record { literals = t ∷ []; stands = holds; only = λ v m. subst (λ w. IsAmong v (w ∷ [])) (sym e) m }

  pub own_told : (r : Name) (value b : Bool) → b ≡ true → r ≡ truth_kind value → LineHolds work n (is_of (truth_kind value) value ∷ []) → LineHasOnly work n (told b (is_of r value) ∷ [])
  own_told r value true e same holds = only_one (is_of (truth_kind value) value) (is_of r value) (ap (λ k. is_of k value) same) holds
  own_told r value false e same holds = absurd cc

  pub other_told : (r : Name) (value b : Bool) → b ≡ false → LineHolds work n (not_term (is_of r value) ∷ []) → LineHasOnly work n (told b (is_of r value) ∷ [])
  other_told r value true e holds = absurd cc
  other_told r value false e holds = only_one (not_term (is_of r value)) (not_term (is_of r value)) refl holds

-- a kind stays one as the work grows
pub kind_grown : (history : List Entry) (old new : Work) (r : Sym) → WorkStands history old → WorkGrows history old new → IsNamed old.bank r → IsKind (events_at old.bank history) (text_at old.bank r) → IsKind (events_at new.bank history) (text_at new.bank r)
kind_grown history old new r stands grows named k =
    subst (IsKind (events_at new.bank history)) (sym (text_at-grown old.bank new.bank r grows.bank named)) (
    subst (λ es. IsKind es (text_at old.bank r)) (sym (events_at-grown old.bank new.bank grows.bank history stands.history.entries)) k)
