-- Tautologies whose other terms become true or false, one after the other.
use Rattle.std.proofs.Common.{◌≡◌, ◌≤◌, ◌<◌, ℕ, true, false, List, [], ◌∷◌, ◌++◌, refl, sym, ap, ap₂, ◌∙◌, subst, inl, inr, arith}
use Rattle.std.specs.Prelude.{All}
use Rattle.nq_logic.specs.Terms.{Term, IsAmong}
use Rattle.nq_logic.specs.Ground.{symbols_of}
use Rattle.nq_logic.specs.Sizes.{depth_of, depth_limit}
use Rattle.nq_logic.specs.Words.{not_term}
use Rattle.nq_proof.specs.Clauses.{Clause, has_term, distinct}
use Rattle.nq_bank.specs.declared.node.TermId.{TermId}
use Rattle.nq_bank.specs.Content.{Content, Stands, IsIdOf, Grows, term_at, terms_at}
use Rattle.nq_bank.specs.Soundness.{IsSound}
use Rattle.nq_bank.proofs.Growth.{Stands-grown, term_at-grown, terms_at-grown}
use Rattle.nq_bank.proofs.Standing.{stand_grown, All-push}
use Rattle.nq_bank.proofs.NodesLemmas.{All-head, All-tail}
use Rattle.std.proofs.lemmas.List.{map_push}
use Rattle.nq_kernel.specs.declared.work.Work.{Work}
use Rattle.nq_quick.specs.declared.assignments.Assignment.{Assignment}
use Rattle.nq_quick.specs.Answers.{IsTautologyOver}
use Rattle.nq_fragments.specs.Propositions.{Proposition, proposition_of, others_in}
use Rattle.nq_fragments.specs.Tautologies.{IsSmallTautology}
use Rattle.nq_quick.specs.Lines.{LineHasOnly}
use Rattle.nq_quick.specs.Decisions.{AssignmentStands, IsInHistory, CanDecide, trues_at, denials_at, truth_at}
use Rattle.nq_quick.specs.Coverings.{Covers, CanProve}
use Rattle.nq_quick.proofs.DepthLemmas.{stand_shallow}
use Rattle.nq_quick.proofs.DecisionLemmas.{assignment_grown, trues_same, denials_same}
use Rattle.nq_quick.proofs.ChoiceLemmas.{only_wider}
use Rattle.nq_quick.proofs.CoveringLemmas.{covers_none, covers_true, covers_false}
use Rattle.nq_quick.proofs.InLemmas.{in_grown, others_over}
use Rattle.nq_quick.proofs.OtherLemmas.{tautology_deeper}
use Rattle.nq_quick.proofs.LineLemmas.{from_distinct, only_grown}
use Rattle.nq_history.specs.declared.entry.Entry.{Entry}
use Rattle.nq_history.specs.Events.{events_at}
use Rattle.nq_kernel.specs.Over.{TermIsIn}
use Rattle.nq_kernel.specs.Growing.{WorkStands, WorkGrows}

pub can_prove_grown : {history : List Entry} (old new : Content) (t : TermId) (others : List TermId) (a : Assignment) → Grows old new → CanProve old history t others a → CanProve new history t others a
can_prove_grown old new t others a h can =
    let term : term_at new t ≡ term_at old t = term_at-grown old new t h can.goal in
    let ids : terms_at new others ≡ terms_at old others = terms_at-grown old new others h can.atoms in
    let trues : trues_at new a ≡ trues_at old a = trues_same old new h a can.assignment in
    let denials : denials_at new a ≡ denials_at old a = denials_same old new h a can.assignment in
    record {
      goal = Stands-grown old new t h can.goal;
      over = in_grown old new _ t h can.goal can.over;
      tautology = subst IsSmallTautology (sym term) can.tautology;
      atoms = stand_grown old new others h can.atoms;
      assignment = assignment_grown old new h a can.assignment;
      covers =
          subst (λ ts. Covers ts (trues_at new a) (denials_at new a) (proposition_of (term_at new t))) (sym ids) (
          subst (λ ts. Covers (terms_at old others) ts (denials_at new a) (proposition_of (term_at new t))) (sym trues) (
          subst (λ ts. Covers (terms_at old others) (trues_at old a) ts (proposition_of (term_at new t))) (sym denials) (
          subst (λ u. Covers (terms_at old others) (trues_at old a) (denials_at old a) (proposition_of u)) (sym term) can.covers)));
    }

-- where no term is left, the goal is decided, and true
module _ {history : List Entry} (bank : Content) (t : TermId) (a : Assignment) (can : CanProve bank history t [] a) where
  pub goal_true : truth_at bank a t ≡ true
  goal_true = can.tautology.always_true (λ u. has_term u (trues_at bank a))

  pub goal_can : IsSound bank → CanDecide bank history a t
  goal_can sound =
      record {
        term = can.goal;
        assignment = can.assignment;
        over = can.over;
        denied = λ u m. elim (can.covers.covered u m) [ inl none ↦ absurd none | inr k ↦ k ];
        shallow = stand_shallow bank t sound can.goal;
        room = λ e. (let no : true ≡ false = sym goal_true ∙ e in absurd cc);
      }

pushed_terms : (bank : Content) (ids more : List TermId) (t : TermId) → more ≡ ids ++ t ∷ [] → terms_at bank more ≡ terms_at bank ids ++ term_at bank t ∷ []
pushed_terms bank ids more t e = ap (terms_at bank) e ∙ map_push (term_at bank) ids t

pushed_stand : (bank : Content) (ids more : List TermId) (t : TermId) → more ≡ ids ++ t ∷ [] → All (Stands bank) ids → Stands bank t → All (Stands bank) more
pushed_stand bank ids more t e stand here = subst (All (Stands bank)) (sym e) (All-push (Stands bank) ids t stand here)

module _ {history : List Entry} (bank : Content) (t atom : TermId) (rest : List TermId) (a b : Assignment) (can : CanProve bank history t (atom ∷ rest) a) where
  pub atom_stands : Stands bank atom
  atom_stands = All-head (Stands bank) atom rest can.atoms

  pub atom_in : TermIsIn bank history atom
  atom_in = others_over (symbols_of (events_at bank history)) (term_at bank t) (term_at bank atom) can.over.over (can.covers.others (term_at bank atom) (inl refl))

  pub atom_room : depth_of (term_at bank atom) < depth_limit
  atom_room = can.covers.shallow (term_at bank atom) (inl refl)

  pub true_denials : (denied : TermId) → b.denials.items ≡ a.denials.items ++ denied ∷ [] → IsIdOf bank denied (not_term (term_at bank atom)) → denials_at bank b ≡ denials_at bank a ++ not_term (term_at bank atom) ∷ []
  true_denials denied e is = pushed_terms bank a.denials.items b.denials.items denied e ∙ ap (λ u. denials_at bank a ++ u ∷ []) is.denotes

  pub true_can : (denied : TermId) → b.trues.items ≡ a.trues.items ++ atom ∷ [] → b.denials.items ≡ a.denials.items ++ denied ∷ [] → IsIdOf bank denied (not_term (term_at bank atom)) → CanProve bank history t rest b
  true_can denied e f is =
      let u : Term = term_at bank atom in
      let p : Proposition = proposition_of (term_at bank t) in
      record {
        goal = can.goal;
        over = can.over;
        tautology = can.tautology;
        atoms = All-tail (Stands bank) atom rest can.atoms;
        assignment = record { trues = pushed_stand bank a.trues.items b.trues.items atom e can.assignment.trues atom_stands; denials = pushed_stand bank a.denials.items b.denials.items denied f can.assignment.denials is.stands };
        covers =
            subst (λ ts. Covers (terms_at bank rest) ts (denials_at bank b) p) (sym (pushed_terms bank a.trues.items b.trues.items atom e)) (
            subst (λ ts. Covers (terms_at bank rest) (trues_at bank a ++ u ∷ []) ts p) (sym (true_denials denied f is)) (
            covers_true u (terms_at bank rest) (trues_at bank a) (denials_at bank a) p can.covers));
      }

  pub false_denials : b.denials.items ≡ a.denials.items ++ atom ∷ [] → denials_at bank b ≡ denials_at bank a ++ term_at bank atom ∷ []
  false_denials e = pushed_terms bank a.denials.items b.denials.items atom e

  pub false_can : b.trues.items ≡ a.trues.items → b.denials.items ≡ a.denials.items ++ atom ∷ [] → CanProve bank history t rest b
  false_can e f =
      let u : Term = term_at bank atom in
      let p : Proposition = proposition_of (term_at bank t) in
      record {
        goal = can.goal;
        over = can.over;
        tautology = can.tautology;
        atoms = All-tail (Stands bank) atom rest can.atoms;
        assignment = record { trues = subst (All (Stands bank)) (sym e) can.assignment.trues; denials = pushed_stand bank a.denials.items b.denials.items atom f can.assignment.denials atom_stands };
        covers =
            subst (λ ts. Covers (terms_at bank rest) ts (denials_at bank b) p) (sym (ap (terms_at bank) e)) (
            subst (λ ts. Covers (terms_at bank rest) (trues_at bank a) ts p) (sym (false_denials f)) (
            covers_false u (terms_at bank rest) (trues_at bank a) (denials_at bank a) p can.covers));
      }

-- the last of some literals first
pub last_first : (work : Work) (n : ℕ) (t u : Term) (these : Clause) → LineHasOnly work n (t ∷ (these ++ u ∷ [])) → LineHasOnly work n (u ∷ t ∷ these)
last_first work n t u these h = only_wider work n (t ∷ (these ++ u ∷ [])) (u ∷ t ∷ these) (λ v m. elim m [ inl e ↦ inr (inl e) | inr k ↦ by_end these v k ]) h
  where
    by_end : (ts : Clause) (v : Term) → IsAmong v (ts ++ u ∷ []) → IsAmong v (u ∷ t ∷ ts)
    by_end [] v (inl e) = inl e
    by_end [] v (inr none) = absurd none
    by_end (w ∷ ts) v (inl e) = inr (inr (inl e))
    by_end (w ∷ ts) v (inr m) = elim (by_end ts v m) [ inl e ↦ inl e | inr k ↦ elim k [ inl e ↦ inr (inl e) | inr l ↦ inr (inr (inr l)) ] ]

-- a tautology over its other terms can be proved
pub can_prove : {history : List Entry} (bank : Content) (t : TermId) (others : List TermId) (a : Assignment) → IsSound bank → Stands bank t → IsInHistory bank history t → IsTautologyOver bank t others → a.trues.items ≡ [] → a.denials.items ≡ [] → CanProve bank history t others a
can_prove bank t others a sound stands over h e f =
    let p : Proposition = proposition_of (term_at bank t) in
    let deep : depth_of (term_at bank t) ≤ depth_limit = stand_shallow bank t sound stands in
    record {
      goal = stands;
      over = over;
      tautology = h.small;
      atoms = h.others.stand;
      assignment = record { trues = subst (All (Stands bank)) (sym e) (λ i d below. absurd (omega arith)); denials = subst (All (Stands bank)) (sym f) (λ i d below. absurd (omega arith)) };
      covers =
          subst (λ ts. Covers ts (trues_at bank a) (denials_at bank a) p) (sym h.others.are) (
          subst (λ ts. Covers (distinct (others_in p)) ts (denials_at bank a) p) (sym (ap (terms_at bank) e)) (
          subst (λ ts. Covers (distinct (others_in p)) [] ts p) (sym (ap (terms_at bank) f)) (
          covers_none p (λ u m. let below = tautology_deeper (term_at bank t) u h.small (from_distinct u (others_in p) m) in omega (arith, below, deep)))));
    }

-- the goal and the denials, in a bank that grew
abbrev pub goal_literals : Content → TermId → Assignment → Clause
goal_literals bank t a = term_at bank t ∷ denials_at bank a

pub goal_same : (old new : Content) (t : TermId) (a : Assignment) → Grows old new → Stands old t → AssignmentStands old a → goal_literals new t a ≡ goal_literals old t a
goal_same old new t a h stands k = ap₂ (λ u us. u ∷ us) (term_at-grown old new t h stands) (denials_same old new h a k)

-- the id of the NOT of a term, in a bank that grew
pub denied_grown : (old new : Content) (atom denied : TermId) → Grows old new → Stands old atom → IsIdOf new denied (not_term (term_at old atom)) → IsIdOf new denied (not_term (term_at new atom))
denied_grown old new atom denied h stands is = record { stands = is.stands; denotes = is.denotes ∙ ap not_term (sym (term_at-grown old new atom h stands)) }

-- a line that holds the NOT of a term, as the work grows
pub first_grown : (history : List Entry) (old new : Work) (n : ℕ) (t atom : TermId) (a : Assignment) → WorkStands history old → WorkGrows history old new → Stands old.bank t → Stands old.bank atom → AssignmentStands old.bank a → LineHasOnly old n (not_term (term_at old.bank atom) ∷ goal_literals old.bank t a) → LineHasOnly new n (not_term (term_at new.bank atom) ∷ goal_literals new.bank t a)
first_grown history old new n t atom a stands grows one two k h =
    subst (λ u. LineHasOnly new n (not_term u ∷ goal_literals new.bank t a)) (sym (term_at-grown old.bank new.bank atom grows.bank two)) (
    subst (λ us. LineHasOnly new n (not_term (term_at old.bank atom) ∷ us)) (sym (goal_same old.bank new.bank t a grows.bank one k)) (
    only_grown history old new n (not_term (term_at old.bank atom) ∷ goal_literals old.bank t a) stands grows h))
