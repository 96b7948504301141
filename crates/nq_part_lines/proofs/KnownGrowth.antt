-- What is known of shells and of objects, however the work grows.
use Rattle.std.proofs.Common.{◌≡◌, ◌+◌, ℕ, List, [], ◌∷◌, length, sym, ap, ap₂, ◌∙◌, subst, arith}
use Rattle.nq_logic.specs.Terms.{Name, Term, IsAmong}
use Rattle.nq_logic.specs.Ground.{symbols_of}
use Rattle.nq_logic.specs.Words.{call1, equal_term, zero_term}
use Rattle.nq_logic.specs.Histories.{Shell as ShellOfTexts}
use Rattle.nq_bank.specs.declared.node.Sym.{Sym}
use Rattle.nq_bank.specs.declared.node.TermId.{TermId}
use Rattle.nq_bank.specs.declared.shell.Shell.{Shell}
use Rattle.nq_bank.specs.Content.{IsNamed, term_at, text_at}
use Rattle.nq_bank.specs.Shells.{ShellStands, shell_at}
use Rattle.nq_bank.proofs.Growth.{text_at-grown}
use Rattle.nq_proof.specs.Clauses.{Clause}
use Rattle.nq_history.specs.declared.entry.Entry.{Entry}
use Rattle.nq_history.specs.Events.{events_at}
use Rattle.nq_history.proofs.HistoryLemmas.{events_at-grown}
use Rattle.nq_history.proofs.ShellLemmas.{shell_at-grown, ShellStands-grown}
use Rattle.nq_kernel.specs.declared.work.Work.{Work}
use Rattle.nq_kernel.specs.Growing.{WorkStands, WorkGrows}
use Rattle.nq_arith.specs.Nests.{is_smaller}
use Rattle.nq_lines.specs.Lines.{LineHasOnly}
use Rattle.nq_lines.proofs.LineLemmas.{only_grown}
use Rattle.nq_lines.proofs.TermLemmas.{same_term_grown}
use Rattle.nq_replay.specs.Uncounted.{GrowsUncounted}
use Rattle.nq_replay.proofs.UncountedLemmas.{grown_trans}
use Rattle.nq_part_lines.specs.Known.{HasKnownRows, IsKnownShell, IsRow}
use Rattle.nq_part_lines.specs.Objects.{IsAccessed, IsSized, IsZeroBase}
use Rattle.nq_part_lines.specs.Pieces.{IsPiece}
use Rattle.nq_part_lines.specs.Small.{IsSmallIn}
use Rattle.nq_part_lines.specs.declared.objects.Sized.{Sized}
use Rattle.nq_part_lines.specs.declared.objects.ZeroBase.{ZeroBase}
use Rattle.nq_part_lines.proofs.ReadingLemmas.{small_grown}
use Rattle.nq_part_lines.proofs.TakenLemmas.{piece_grown}

-- work that grew in several steps
module _ (history : List Entry) (a b c d : Work) (first : GrowsUncounted history a b) (second : GrowsUncounted history b c) (third : GrowsUncounted history c d) where
  pub three_steps : GrowsUncounted history a d
  three_steps = grown_trans history a b d first (grown_trans history b c d second third)

  pub four_steps : (e : Work) → GrowsUncounted history d e → GrowsUncounted history a e
  four_steps e fourth = grown_trans history a d e three_steps fourth

  pub five_steps : (e f : Work) → GrowsUncounted history d e → GrowsUncounted history e f → GrowsUncounted history a f
  five_steps e f fourth fifth = grown_trans history a e f (four_steps e fourth) fifth

module _ (history : List Entry) (old new : Work) (stands : WorkStands history old) (grows : WorkGrows history old new) where
  pub rows_grown : HasKnownRows (events_at old.bank history) → HasKnownRows (events_at new.bank history)
  rows_grown h = subst HasKnownRows (sym (events_at-grown old.bank new.bank grows.bank history stands.history.entries)) h

  pub shell_stands : (s : Shell) → ShellStands old.bank s → ShellStands new.bank s
  shell_stands s h = ShellStands-grown old.bank new.bank grows.bank s h

  pub known_grown : (s : Shell) → ShellStands old.bank s → IsKnownShell (events_at old.bank history) (shell_at old.bank s) → IsKnownShell (events_at new.bank history) (shell_at new.bank s)
  known_grown s h k =
      subst (λ u. IsKnownShell (events_at new.bank history) u) (sym (shell_at-grown old.bank new.bank grows.bank s h)) (
      subst (λ es. IsKnownShell es (shell_at old.bank s)) (sym (events_at-grown old.bank new.bank grows.bank history stands.history.entries)) k)

  pub shell_same : (s : Shell) → ShellStands old.bank s → shell_at new.bank s ≡ shell_at old.bank s
  shell_same s h = shell_at-grown old.bank new.bank grows.bank s h

  -- a function of the history
  pub symbol_grown : (f : Sym) (n : ℕ) → IsNamed old.bank f → IsAmong (text_at old.bank f, n) (symbols_of (events_at old.bank history)) → IsAmong (text_at new.bank f, n) (symbols_of (events_at new.bank history))
  symbol_grown f n named m =
      subst (λ name. IsAmong (name, n) (symbols_of (events_at new.bank history))) (sym (text_at-grown old.bank new.bank f grows.bank named)) (
      subst (λ es. IsAmong (text_at old.bank f, n) (symbols_of es)) (sym (events_at-grown old.bank new.bank grows.bank history stands.history.entries)) m)

  -- a row under the text of a name
  pub row_grown : (name : Sym) (row i : ℕ) (c : Clause) → IsNamed old.bank name → IsRow (events_at old.bank history) (text_at old.bank name) row i c → IsRow (events_at new.bank history) (text_at new.bank name) row i c
  row_grown name row i c named k =
      subst (λ n. IsRow (events_at new.bank history) n row i c) (sym (text_at-grown old.bank new.bank name grows.bank named)) (
      subst (λ es. IsRow es (text_at old.bank name) row i c) (sym (events_at-grown old.bank new.bank grows.bank history stands.history.entries)) k)

  -- a line of one term
  pub one_grown : (n : ℕ) (t : TermId) → IsSmallIn history old t → LineHasOnly old n (term_at old.bank t ∷ []) → LineHasOnly new n (term_at new.bank t ∷ [])
  one_grown n t small h =
      subst (λ u. LineHasOnly new n (u ∷ [])) (sym (same_term_grown history old new t grows small.inside)) (only_grown history old new n (term_at old.bank t ∷ []) stands grows h)

  pub sized_grown : (s : ShellOfTexts) (place : ℕ) (z : Sized) → IsSized history old s place z → IsSized history new s place z
  sized_grown s place z k =
      record {
        more = k.more;
        count = k.count;
        piece = piece_grown history old new stands grows place k.more z.piece k.piece;
        object_is = same_term_grown history old new z.piece.object grows k.piece.object.inside ∙ k.object_is;
        allowed_is = λ part e. same_term_grown history old new z.piece.allowed grows k.piece.allowed.inside ∙ k.allowed_is part e;
        variable_is = same_term_grown history old new z.piece.variable grows k.piece.variable.inside ∙ k.variable_is;
        line = one_grown z.line z.piece.equation k.piece.equation k.line;
      }

  pub accessed_grown : (s : ShellOfTexts) (place : ℕ) (t : TermId) → IsAccessed history old s place t → IsAccessed history new s place t
  accessed_grown s place t k =
      record { small = small_grown history old new t stands grows k.small; is = λ part e. same_term_grown history old new t grows k.small.inside ∙ k.is part e }

  pub zero_grown : (d : Name) (z : ZeroBase) → IsZeroBase history old d z → IsZeroBase history new d z
  zero_grown d z k =
      record {
        base = small_grown history old new z.base stands grows k.base;
        base_is = same_term_grown history old new z.base grows k.base.inside ∙ k.base_is;
        none = small_grown history old new z.none stands grows k.none;
        none_is = same_term_grown history old new z.none grows k.none.inside ∙ k.none_is ∙ sym (ap (λ t. equal_term (call1 "COUNT" t) zero_term) (same_term_grown history old new z.base grows k.base.inside));
        line = one_grown z.line z.none k.none k.line;
      }

  -- a line that speaks of an allowed part and of a smaller term
  pub smaller_moved : (w : Work) (n : ℕ) (F : Term → Term) (a t o : TermId) → IsSmallIn history old a → IsSmallIn history old t → IsSmallIn history old o → LineHasOnly w n (F (term_at new.bank a) ∷ is_smaller (term_at new.bank t) (term_at new.bank o) ∷ []) →
      LineHasOnly w n (F (term_at old.bank a) ∷ is_smaller (term_at old.bank t) (term_at old.bank o) ∷ [])
  smaller_moved w n F a t o ka kt ko k =
      let first : term_at new.bank a ≡ term_at old.bank a = same_term_grown history old new a grows ka.inside in
      let second : is_smaller (term_at new.bank t) (term_at new.bank o) ≡ is_smaller (term_at old.bank t) (term_at old.bank o) = ap₂ is_smaller (same_term_grown history old new t grows kt.inside) (same_term_grown history old new o grows ko.inside) in
      subst (LineHasOnly w n) (ap₂ (λ u v. F u ∷ v ∷ []) first second) k

  -- the terms of the part at a place, behind which so many stand
  pub piece_at : (s : ShellOfTexts) (place more : ℕ) (z : Sized) → length s.parts ≡ place + more + 1 → IsSized history old s place z → IsPiece history new place more z.piece
  piece_at s place more z count k =
      let here = k.count in
      let same : k.more ≡ more = omega (arith, count, here) in
      subst (λ n. IsPiece history new place n z.piece) same (piece_grown history old new stands grows place k.more z.piece k.piece)
