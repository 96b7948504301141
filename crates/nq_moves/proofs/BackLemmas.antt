-- Literals that are carried back.
use Rattle.std.proofs.Common.{◌≡◌, ◌<◌, ◌+◌, ℕ, zero, suc, Bool, true, false, List, length, arith, [], ◌∷◌, ◌++◌, map, drop, get_or, refl, sym, ap, ◌∙◌, subst, inl, inr}
use Rattle.std.proofs.lemmas.List.{at_drop_more}
use Rattle.nq_logic.specs.Terms.{Term, IsAmong}
use Rattle.nq_logic.specs.Numerals.{numeral_limit}
use Rattle.nq_logic.specs.Words.{not_term, equal_term, numeral}
use Rattle.nq_bank.specs.declared.node.TermId.{TermId}
use Rattle.nq_bank.specs.Content.{Stands, term_at, terms_at}
use Rattle.nq_bank.proofs.Growth.{Stands-grown, term_at-grown}
use Rattle.nq_proof.specs.Clauses.{same_term}
use Rattle.nq_rule.proofs.LiteralLemmas.{true_same}
use Rattle.nq_history.specs.declared.entry.Entry.{Entry}
use Rattle.nq_kernel.specs.declared.work.Work.{Work}
use Rattle.nq_kernel.specs.Growing.{WorkStands, WorkGrows}
use Rattle.nq_lines.specs.declared.calls.Equated.{Equated}
use Rattle.nq_lines.specs.Lines.{LineHasOnly, IsTermIn, AreAmong}
use Rattle.nq_lines.proofs.LineLemmas.{only_grown, only_more}
use Rattle.nq_lines.proofs.TermLemmas.{term_grown, same_term_grown}
use Rattle.nq_lines.proofs.Among.{and_among, none_among, on_right, beside}
use Rattle.nq_goals.specs.Replacing.{exchanged}
use Rattle.nq_moves.specs.declared.equal.Swap.{Swap}
use Rattle.nq_moves.specs.Equal.{swap_at, SwapStands, IsEqual}
use Rattle.nq_moves.specs.Back.{Denies, BackTo, IsBack}
use Rattle.nq_moves.proofs.EqualLemmas.{same_swap}

module _ (history : List Entry) (old mid new : Work) (stood : WorkStands history old) (grows : WorkGrows history old mid) (w : Swap) (l : TermId) (e : Equated) (line n : ℕ) where
  pub back_one : SwapStands history old w → IsTermIn history old l → IsEqual history mid w l e → BackTo mid new l e line n → IsBack old new w l line n
  back_one swap over equal back these among has =
      let whole : term_at mid.bank l ≡ term_at old.bank l = same_term_grown history old mid l grows over in
      let hypothesis : term_at mid.bank w.hypothesis ≡ term_at old.bank w.hypothesis = term_at-grown old.bank mid.bank w.hypothesis grows.bank swap.hypothesis in
      let is : term_at mid.bank e.term ≡ exchanged (swap_at old.bank w) (term_at old.bank l) =
      equal.is ∙ ap (λ es. exchanged es (term_at mid.bank l)) (same_swap history old mid stood grows w swap) ∙ ap (exchanged (swap_at old.bank w)) whole in
      let equation : Term = equal_term (term_at mid.bank l) (term_at mid.bank e.term) in
      let there : IsAmong (term_at mid.bank w.hypothesis) these = subst (λ t. IsAmong t these) (sym hypothesis) among in
      let first : LineHasOnly mid line (term_at mid.bank e.term ∷ these) = subst (λ t. LineHasOnly mid line (t ∷ these)) (sym is) (only_grown history old mid line _ stood grows has) in
      let second : LineHasOnly mid e.line (equation ∷ these) =
      only_more mid e.line (equation ∷ term_at mid.bank w.hypothesis ∷ []) (equation ∷ these) (beside equation (term_at mid.bank w.hypothesis ∷ []) these (and_among (term_at mid.bank w.hypothesis) [] these there (none_among these))) equal.says in
      subst (λ t. LineHasOnly new n (t ∷ these)) whole (back these first second)

-- the literals from number i on, with the one term in place of the other, and then all
abbrev pub left_of : Work → Swap → List TermId → List Term → List Term
left_of old w ids all = map (exchanged (swap_at old.bank w)) (terms_at old.bank ids) ++ all

abbrev pub AreBackSoFar : Work → Work → Swap → List TermId → ℕ → ℕ → ℕ → Type 0
AreBackSoFar old new w literals i line n =
    (all : List Term) → IsAmong (term_at old.bank w.hypothesis) all → AreAmong (terms_at old.bank literals) all →
    LineHasOnly old line (left_of old w literals all) → LineHasOnly new n (left_of old w (drop i literals) all)

literal_there : (old : Work) (literals : List TermId) (i : ℕ) (d : TermId) → i < length literals → IsAmong (term_at old.bank (get_or literals i d)) (terms_at old.bank literals)
literal_there old [] i d below = absurd (omega (arith, below))
literal_there old (x ∷ literals) zero d below = inl refl
literal_there old (x ∷ literals) (suc i) d below = inr (literal_there old literals i d (omega (arith, below)))

-- one more literal
module _ (history : List Entry) (old mid new : Work) (stood : WorkStands history old) (grows : WorkGrows history old mid) (w : Swap) (literals : List TermId) (i : ℕ) (d : TermId) (line so_far n : ℕ) where
  pub back_next : SwapStands history old w → IsTermIn history old (get_or literals i d) → i < length literals → AreBackSoFar old mid w literals i line so_far → IsBack mid new w (get_or literals i d) so_far n → AreBackSoFar old new w literals (i + 1) line n
  back_next swap over below before here all among within has =
      let l : TermId = get_or literals i d in
      let whole : term_at mid.bank l ≡ term_at old.bank l = same_term_grown history old mid l grows over in
      let hypothesis : term_at mid.bank w.hypothesis ≡ term_at old.bank w.hypothesis = term_at-grown old.bank mid.bank w.hypothesis grows.bank swap.hypothesis in
      let rest : List Term = left_of old w (drop (i + 1) literals) all in
      let X : Term → Term = exchanged (swap_at old.bank w) in
      let now : LineHasOnly mid so_far (X (term_at old.bank l) ∷ rest) =
      subst (λ c. LineHasOnly mid so_far c) (at_drop_more (λ ids. left_of old w ids all) literals i d below) (before all among within has) in
      let is : exchanged (swap_at mid.bank w) (term_at mid.bank l) ≡ X (term_at old.bank l) = ap (λ es. exchanged es (term_at mid.bank l)) (same_swap history old mid stood grows w swap) ∙ ap X whole in
      let there : IsAmong (term_at mid.bank w.hypothesis) rest =
      on_right (map X (terms_at old.bank (drop (i + 1) literals))) all (term_at mid.bank w.hypothesis) (subst (λ t. IsAmong t all) (sym hypothesis) among) in
      let made : LineHasOnly new n (term_at mid.bank l ∷ rest) = here rest there (subst (λ t. LineHasOnly mid so_far (t ∷ rest)) (sym is) now) in
      let member : IsAmong (term_at mid.bank l) rest =
      on_right (map X (terms_at old.bank (drop (i + 1) literals))) all (term_at mid.bank l) (within (term_at mid.bank l) (subst (λ t. IsAmong t (terms_at old.bank literals)) (sym whole) (literal_there old literals i d below))) in
      only_more new n (term_at mid.bank l ∷ rest) rest (and_among (term_at mid.bank l) rest rest member (λ t m. m)) made

-- the other order, where it is not the one
pub other_order : (literal a b denied : Term) → Denies literal a b → denied ≡ not_term (equal_term a b) → same_term denied literal ≡ false → literal ≡ not_term (equal_term b a)
other_order literal a b denied (inl is) made differs = absurd (no_both (same_term denied literal) (true_same denied literal (made ∙ sym is)) differs)
  where
    no_both : (t : Bool) → t ≡ true → t ≡ false → ⊥
    no_both true h k = absurd cc
    no_both false h k = absurd cc
other_order literal a b denied (inr is) made differs = is

-- the swap of an equation's sides
pub swap_made : (history : List Entry) (old new : Work) → WorkStands history old → WorkGrows history old new → (from into literal : TermId) (line : ℕ) → Stands old.bank literal → IsTermIn history old from → IsTermIn history old into → ((n : ℕ) → n < numeral_limit → exchanged ((term_at old.bank from, term_at old.bank into) ∷ []) (numeral n) ≡ numeral n) → LineHasOnly new line (equal_term (term_at old.bank from) (term_at old.bank into) ∷ term_at old.bank literal ∷ []) → SwapStands history new (record { from = from; into = into; hypothesis = literal; line = line })
swap_made history old new stood grows from into literal line stands left right numerals has =
    let same_from = same_term_grown history old new from grows left in
    let same_into = same_term_grown history old new into grows right in
    let same_literal = term_at-grown old.bank new.bank literal grows.bank stands in
    record {
      from = Stands-grown old.bank new.bank from grows.bank left.stands;
      into = term_grown history old new into stood grows right;
      hypothesis = Stands-grown old.bank new.bank literal grows.bank stands;
      numerals = λ n small. ap (λ t. exchanged ((t, term_at new.bank into) ∷ []) (numeral n)) same_from ∙ ap (λ t. exchanged ((term_at old.bank from, t) ∷ []) (numeral n)) same_into ∙ numerals n small;
      says =
          subst (λ t. LineHasOnly new line (equal_term t (term_at new.bank into) ∷ term_at new.bank literal ∷ [])) (sym same_from)
          (subst (λ t. LineHasOnly new line (equal_term (term_at old.bank from) t ∷ term_at new.bank literal ∷ [])) (sym same_into)
          (subst (λ t. LineHasOnly new line (equal_term (term_at old.bank from) (term_at old.bank into) ∷ t ∷ [])) (sym same_literal) has));
    }
