-- Pairs of variables and terms.
use Rattle.std.proofs.Common.{◌≡◌, ℕ, true, List, [], ◌∷◌, refl, sym, ap, ap₂, ◌∙◌, subst, arith}
use Rattle.std.specs.Prelude.{All, codes}
use Rattle.nq_logic.specs.Terms.{Each}
use Rattle.nq_logic.specs.Ground.{symbols_of}
use Rattle.nq_bank.specs.declared.node.Sym.{Sym}
use Rattle.nq_bank.specs.declared.node.TermId.{TermId}
use Rattle.nq_bank.specs.Content.{Content, Grows, NamesText, text_at, term_at}
use Rattle.nq_bank.proofs.Growth.{IsNamed-grown, text_at-grown}
use Rattle.nq_bank.proofs.Standing.{All-push}
use Rattle.nq_clause.specs.declared.substitution.Pair.{Pair}
use Rattle.nq_clause.specs.Substitution.{substitution_at, PairStands}
use Rattle.nq_proof.specs.Rules.{is_substitution, pair_terms}
use Rattle.nq_history.specs.declared.entry.Entry.{Entry}
use Rattle.nq_history.proofs.HistoryLemmas.{events_at-grown}
use Rattle.nq_kernel.specs.declared.work.Work.{Work}
use Rattle.nq_kernel.specs.Over.{IsVariable, IsTermOf, pair_names}
use Rattle.nq_kernel.specs.Growing.{WorkStands, WorkGrows}
use Rattle.nq_lines.specs.Lines.{IsTermIn}
use Rattle.nq_lines.specs.Instances.{ArePairsIn}
use Rattle.nq_lines.proofs.TermLemmas.{IsOver, term_grown, same_term_grown}

pub name_grown : (old new : Content) (s : Sym) (text : List ℕ) → Grows old new → NamesText old s text → NamesText new s text
name_grown old new s text h k = record { named = IsNamed-grown old new s h k.named; reads = text_at-grown old new s h k.named ∙ k.reads }

-- a term stays over the history's functions
pub over_still : (history : List Entry) (old new : Work) (t : TermId) → WorkStands history old → WorkGrows history old new → IsTermIn history old t → IsOver history new (term_at old.bank t)
over_still history old new t stands grows h = subst (λ es. IsTermOf IsVariable (symbols_of es) (term_at old.bank t)) (sym (events_at-grown old.bank new.bank grows.bank history stands.history.entries)) h.over

pub x_plain : IsVariable (codes "X")
x_plain = record { symbol = refl; other = refl }

pub y_plain : IsVariable (codes "Y")
y_plain = record { symbol = refl; other = refl }

z_plain : IsVariable (codes "Z")
z_plain = record { symbol = refl; other = refl }

module _ (history : List Entry) (old new : Work) (stands : WorkStands history old) (grows : WorkGrows history old new) where
  one_stands : (a : Pair) → PairStands new.bank a → All (PairStands new.bank) (a ∷ [])
  one_stands a h = All-push (PairStands new.bank) [] a (λ i d below. absurd (omega arith)) h

  pub one_paired : (pairs : List Pair) (a : Sym) (x : TermId) → pairs ≡ record { variable = a; term = x } ∷ [] → NamesText new.bank a (codes "X") → IsTermIn history old x → substitution_at new.bank pairs ≡ (codes "X", term_at old.bank x) ∷ []
  one_paired pairs a x e name in_x = ap (substitution_at new.bank) e ∙ ap₂ (λ n t. (n, t) ∷ []) name.reads (same_term_grown history old new x grows in_x)

  pub one_in : (pairs : List Pair) (a : Sym) (x : TermId) → pairs ≡ record { variable = a; term = x } ∷ [] → NamesText new.bank a (codes "X") → IsTermIn history old x → ArePairsIn history new pairs
  one_in pairs a x e name in_x =
      let same : substitution_at new.bank pairs ≡ (codes "X", term_at old.bank x) ∷ [] = one_paired pairs a x e name in_x in
      record {
        stand = subst (All (PairStands new.bank)) (sym e) (one_stands (record { variable = a; term = x }) (record { variable = name.named; term = (term_grown history old new x stands grows in_x).stands }));
        distinct = subst (λ s. is_substitution s ≡ true) (sym same) refl;
        terms = subst (λ s. Each (IsOver history new) (pair_terms s)) (sym same) (over_still history old new x stands grows in_x, tt);
        names = subst (λ s. Each IsVariable (pair_names s)) (sym same) (x_plain, tt);
      }

  module _ (pairs : List Pair) (a b c : Sym) (x y z : TermId) (e : pairs ≡ record { variable = a; term = x } ∷ record { variable = b; term = y } ∷ record { variable = c; term = z } ∷ []) (first : NamesText new.bank a (codes "X")) (second : NamesText new.bank b (codes "Y")) (third : NamesText new.bank c (codes "Z")) (in_x : IsTermIn history old x) (in_y : IsTermIn history old y) (in_z : IsTermIn history old z) where
    pub three_paired : substitution_at new.bank pairs ≡ (codes "X", term_at old.bank x) ∷ (codes "Y", term_at old.bank y) ∷ (codes "Z", term_at old.bank z) ∷ []
    three_paired =
        ap (substitution_at new.bank) e
        ∙ ap₂ (λ n t. (n, t) ∷ (text_at new.bank b, term_at new.bank y) ∷ (text_at new.bank c, term_at new.bank z) ∷ []) first.reads (same_term_grown history old new x grows in_x)
        ∙ ap₂ (λ n t. (codes "X", term_at old.bank x) ∷ (n, t) ∷ (text_at new.bank c, term_at new.bank z) ∷ []) second.reads (same_term_grown history old new y grows in_y)
        ∙ ap₂ (λ n t. (codes "X", term_at old.bank x) ∷ (codes "Y", term_at old.bank y) ∷ (n, t) ∷ []) third.reads (same_term_grown history old new z grows in_z)

    pub three_in : ArePairsIn history new pairs
    three_in =
        let p : Pair = record { variable = a; term = x } in
        let q : Pair = record { variable = b; term = y } in
        let r : Pair = record { variable = c; term = z } in
        let P : Pair → Type 0 = PairStands new.bank in
        let hp : P p = record { variable = first.named; term = (term_grown history old new x stands grows in_x).stands } in
        let hq : P q = record { variable = second.named; term = (term_grown history old new y stands grows in_y).stands } in
        let hr : P r = record { variable = third.named; term = (term_grown history old new z stands grows in_z).stands } in
        record {
          stand = subst (All P) (sym e) (All-push P (p ∷ q ∷ []) r (All-push P (p ∷ []) q (one_stands p hp) hq) hr);
          distinct = subst (λ s. is_substitution s ≡ true) (sym three_paired) refl;
          terms = subst (λ s. Each (IsOver history new) (pair_terms s)) (sym three_paired) (over_still history old new x stands grows in_x, (over_still history old new y stands grows in_y, (over_still history old new z stands grows in_z, tt)));
          names = subst (λ s. Each IsVariable (pair_names s)) (sym three_paired) (x_plain, (y_plain, (z_plain, tt)));
        }
