-- The conclusion of a term under its hypotheses, as a line.
use Rattle.std.proofs.Common.{◌≡◌, ◌<◌, ℕ, Bool, true, false, if◌then◌else◌, List, [], ◌∷◌, ◌++◌, map, refl, sym, ap, ap₂, ◌∙◌, subst, inl, inr, arith, append_assoc}
use Rattle.std.specs.Prelude.{All, bytes_eq, codes}
use Rattle.nq_logic.specs.Terms.{Each, Term, Variable, Function, Applied, substituted}
use Rattle.nq_logic.specs.RuleShapes.{and_parts, is_function_named, rule_parts, supposing}
use Rattle.nq_logic.specs.Words.{and_term, implies_term, not_term}
use Rattle.nq_bank.specs.declared.node.Sym.{Sym}
use Rattle.nq_bank.specs.declared.node.TermId.{TermId}
use Rattle.nq_bank.specs.Content.{Content, NamesText, term_at, text_at}
use Rattle.nq_bank.proofs.Standing.{All-push}
use Rattle.nq_bank.proofs.Texts.{bytes_eq-true}
use Rattle.nq_clause.specs.declared.substitution.Pair.{Pair}
use Rattle.nq_clause.specs.Substitution.{PairStands, substitution_at}
use Rattle.nq_proof.specs.Clauses.{Clause}
use Rattle.nq_proof.specs.Rules.{is_substitution, pair_terms}
use Rattle.nq_history.specs.declared.entry.Entry.{Entry}
use Rattle.nq_kernel.specs.declared.work.Work.{Work}
use Rattle.nq_kernel.specs.Growing.{LineHolds, WorkGrows, WorkStands}
use Rattle.nq_kernel.specs.Over.{IsVariable, pair_names}
use Rattle.nq_kernel.proofs.GrowingLemmas.{WorkGrows-trans}
use Rattle.nq_lines.specs.Instances.{ArePairsIn, InstancesTo}
use Rattle.nq_lines.specs.Lines.{CutsTo, IsTermIn, LineHasOnly}
use Rattle.nq_lines.proofs.LineLemmas.{among_either, only_grown, only_more}
use Rattle.nq_lines.proofs.PairLemmas.{over_still, x_plain, y_plain}
use Rattle.nq_lines.proofs.TermLemmas.{IsOver, same_term_grown, term_grown}
use Rattle.nq_replay.specs.LawClauses.{implication_opens_clause, pair_holds_clause}
use Rattle.nq_rules.specs.Heads.{IsNotTwoOf, IsTwoOf}
use Rattle.nq_eliminate.specs.Supposing.{OpensTo, PairsTo, SupposesTo, TakesTo}
use Rattle.nq_eliminate.proofs.Names.{among_first, among_second}

-- ---- the parts of a term

module _ (bank : Content) (t : TermId) where
  not_named : (f g p q : Term) (known : List ℕ) → IsNotTwoOf bank known t → term_at bank t ≡ Applied (Applied f p) q → is_function_named known f ≡ false
  not_named f g p q known none e = by_head f (λ h. none.none p q (e ∙ ap (λ k. Applied (Applied k p) q) h))
    where
      by_test : (b : Bool) → (b ≡ true → ⊥) → b ≡ false
      by_test true h = absurd (h refl)
      by_test false h = refl

      by_head : (f : Term) → (f ≡ Function known → ⊥) → is_function_named known f ≡ false
      by_head (Variable x) h = refl
      by_head (Function k) h = by_test (bytes_eq known k) (λ e. h (ap Function (sym (bytes_eq-true known k e))))
      by_head (Applied a b) h = refl

  pub parts_of_and : (p q : TermId) → IsTwoOf bank (codes "AND") t p q → and_parts (term_at bank t) ≡ and_parts (term_at bank p) ++ and_parts (term_at bank q)
  parts_of_and p q is = ap and_parts is.whole

  pub no_and : IsNotTwoOf bank (codes "AND") t → and_parts (term_at bank t) ≡ term_at bank t ∷ []
  no_and none = by_term (term_at bank t) refl
    where
      by_test : (b : Bool) (p q u : Term) → b ≡ false → (if b then and_parts p ++ and_parts q else u ∷ []) ≡ u ∷ []
      by_test true p q u h = absurd (cc)
      by_test false p q u h = refl

      by_term : (u : Term) → term_at bank t ≡ u → and_parts u ≡ u ∷ []
      by_term (Variable x) e = refl
      by_term (Function f) e = refl
      by_term (Applied (Variable x) u) e = refl
      by_term (Applied (Function f) u) e = refl
      by_term (Applied (Applied f p) q) e = by_test (is_function_named (codes "AND") f) p q (Applied (Applied f p) q) (not_named f f p q (codes "AND") none e)

  pub parts_of_rule : (p q : TermId) → IsTwoOf bank (codes "IMPLIES") t p q → rule_parts (term_at bank t) ≡ supposing (and_parts (term_at bank p)) (rule_parts (term_at bank q))
  parts_of_rule p q is = ap rule_parts is.whole

  pub no_rule : IsNotTwoOf bank (codes "IMPLIES") t → rule_parts (term_at bank t) ≡ record { hypotheses = []; conclusion = term_at bank t }
  no_rule none = by_term (term_at bank t) refl
    where
      by_test : (b : Bool) (p q u : Term) → b ≡ false → (if b then supposing (and_parts p) (rule_parts q) else record { hypotheses = []; conclusion = u }) ≡ record { hypotheses = []; conclusion = u }
      by_test true p q u h = absurd (cc)
      by_test false p q u h = refl

      by_term : (u : Term) → term_at bank t ≡ u → rule_parts u ≡ record { hypotheses = []; conclusion = u }
      by_term (Variable x) e = refl
      by_term (Function f) e = refl
      by_term (Applied (Variable x) u) e = refl
      by_term (Applied (Function f) u) e = refl
      by_term (Applied (Applied f p) q) e = by_test (is_function_named (codes "IMPLIES") f) p q (Applied (Applied f p) q) (not_named f f p q (codes "IMPLIES") none e)

-- the sides of a term that is in are in
pub left_in : (history : List Entry) (work : Work) (f : List ℕ) (t p q : TermId) → IsTermIn history work t → IsTwoOf work.bank f t p q → p.0 < t.0 → IsTermIn history work p
left_in history work f t p q h is before =
    let over : IsOver history work (Applied (Applied (Function f) (term_at work.bank p)) (term_at work.bank q)) = subst (IsOver history work) is.whole h.over in
    record { stands = let stands = h.stands in omega (arith, before, stands); over = record { over = over.over.0.1; variables = over.variables.0.1 } }

pub right_in : (history : List Entry) (work : Work) (f : List ℕ) (t p q : TermId) → IsTermIn history work t → IsTwoOf work.bank f t p q → q.0 < t.0 → IsTermIn history work q
right_in history work f t p q h is before =
    let over : IsOver history work (Applied (Applied (Function f) (term_at work.bank p)) (term_at work.bank q)) = subst (IsOver history work) is.whole h.over in
    record { stands = let stands = h.stands in omega (arith, before, stands); over = record { over = over.over.1; variables = over.variables.1 } }

-- ---- two terms in the places of X and Y

module _ (history : List Entry) (old new : Work) (stands : WorkStands history old) (grows : WorkGrows history old new) (pairs : List Pair) (a b : Sym) (x y : TermId) (e : pairs ≡ record { variable = a; term = x } ∷ record { variable = b; term = y } ∷ []) (first : NamesText new.bank a (codes "X")) (second : NamesText new.bank b (codes "Y")) (in_x : IsTermIn history old x) (in_y : IsTermIn history old y) where
  pub two_paired : substitution_at new.bank pairs ≡ (codes "X", term_at old.bank x) ∷ (codes "Y", term_at old.bank y) ∷ []
  two_paired =
      ap (substitution_at new.bank) e
      ∙ ap₂ (λ n t. (n, t) ∷ (text_at new.bank b, term_at new.bank y) ∷ []) first.reads (same_term_grown history old new x grows in_x)
      ∙ ap₂ (λ n t. (codes "X", term_at old.bank x) ∷ (n, t) ∷ []) second.reads (same_term_grown history old new y grows in_y)

  pub two_in : ArePairsIn history new pairs
  two_in =
      let p : Pair = record { variable = a; term = x } in
      let q : Pair = record { variable = b; term = y } in
      let P : Pair → Type 0 = PairStands new.bank in
      let hp : P p = record { variable = first.named; term = (term_grown history old new x stands grows in_x).stands } in
      let hq : P q = record { variable = second.named; term = (term_grown history old new y stands grows in_y).stands } in
      record {
        stand = subst (All P) (sym e) (All-push P (p ∷ []) q (All-push P [] p (λ i d below. absurd (omega arith)) hp) hq);
        distinct = subst (λ s. is_substitution s ≡ true) (sym two_paired) refl;
        terms = subst (λ s. Each (IsOver history new) (pair_terms s)) (sym two_paired) (over_still history old new x stands grows in_x, (over_still history old new y stands grows in_y, tt));
        names = subst (λ s. Each IsVariable (pair_names s)) (sym two_paired) (x_plain, (y_plain, tt));
      }

  pub takes_made : (last : Work) (law n : ℕ) → InstancesTo new last (substitution_at new.bank pairs) law n → TakesTo old last (term_at old.bank x) (term_at old.bank y) law n
  takes_made last law n made these h = subst (λ s. LineHasOnly last n (map (substituted s) these)) two_paired (made these (only_grown history old new law these stands grows h))

-- ---- lines

pub holds_only : (work : Work) (n : ℕ) (c : Clause) → LineHolds work n c → LineHasOnly work n c
holds_only work n c h = record { literals = c; stands = h; only = λ t m. m }

-- an implication that is opened
module _ (history : List Entry) (w0 w1 w2 w3 : Work) (stood : WorkStands history w0) (g01 : WorkGrows history w0 w1) (g12 : WorkGrows history w1 w2) (p q : TermId) (in_p : IsTermIn history w0 p) (in_q : IsTermIn history w0 q) where
  g02 : WorkGrows history w0 w2
  g02 = WorkGrows-trans history w0 w1 w2 g01 g12

  abbrev P : Term
  P = term_at w0.bank p

  abbrev Q : Term
  Q = term_at w0.bank q

  same_p : term_at w1.bank p ≡ P
  same_p = same_term_grown history w0 w1 p g01 in_p

  same_q : term_at w1.bank q ≡ Q
  same_q = same_term_grown history w0 w1 q g01 in_q

  pub opens_made : (whole : TermId) (line law here n : ℕ) → IsTermIn history w0 whole → term_at w0.bank whole ≡ implies_term P Q → LineHolds w1 law implication_opens_clause → TakesTo w1 w2 (term_at w1.bank p) (term_at w1.bank q) law here → CutsTo w2 w3 (term_at w2.bank whole) line here n → OpensTo w0 w3 P Q line n
  opens_made whole line law here n in_whole is told takes cuts these h =
      let taken : LineHasOnly w2 here (term_at w1.bank q ∷ not_term (term_at w1.bank p) ∷ not_term (implies_term (term_at w1.bank p) (term_at w1.bank q)) ∷ []) = takes implication_opens_clause (holds_only w1 law implication_opens_clause told) in
      let law_has : LineHasOnly w2 here (Q ∷ not_term P ∷ not_term (implies_term P Q) ∷ []) = subst (λ u. LineHasOnly w2 here (u ∷ not_term P ∷ not_term (implies_term P u) ∷ [])) same_q (subst (λ u. LineHasOnly w2 here (term_at w1.bank q ∷ not_term u ∷ not_term (implies_term u (term_at w1.bank q)) ∷ [])) same_p taken) in
      let w_is : term_at w2.bank whole ≡ implies_term P Q = same_term_grown history w0 w2 whole g02 in_whole ∙ is in
      let more : Clause = Q ∷ not_term P ∷ these in
      cuts more
      (subst (λ u. LineHasOnly w2 line (u ∷ more)) (sym w_is)
      (only_more w2 line (implies_term P Q ∷ these) (implies_term P Q ∷ more) (λ u m. elim m [ inl k ↦ inl k | inr k ↦ inr (inr (inr k)) ]) (only_grown history w0 w2 line (implies_term P Q ∷ these) stood g02 h)))
      (subst (λ u. LineHasOnly w2 here (not_term u ∷ more)) (sym w_is)
      (only_more w2 here (Q ∷ not_term P ∷ not_term (implies_term P Q) ∷ []) (not_term (implies_term P Q) ∷ more)
      (λ u m. elim m [ inl k ↦ inr (inl k) | inr k ↦ elim k [ inl l ↦ inr (inr (inl l)) | inr l ↦ elim l [ inl r ↦ inl r | inr none ↦ absurd none ] ] ]) law_has))

  -- two terms put together
  pub pairs_made : (w4 : Work) (g23 : WorkGrows history w2 w3) (first second law here rest n : ℕ) → LineHolds w1 law pair_holds_clause → TakesTo w1 w2 (term_at w1.bank p) (term_at w1.bank q) law here → CutsTo w2 w3 (term_at w2.bank p) first here rest → CutsTo w3 w4 (term_at w3.bank q) second rest n → PairsTo w0 w4 P Q first second n
  pairs_made w4 g23 first second law here rest n told takes cuts again these h k =
      let g03 : WorkGrows history w0 w3 = WorkGrows-trans history w0 w2 w3 g02 g23 in
      let taken : LineHasOnly w2 here (not_term (term_at w1.bank q) ∷ not_term (term_at w1.bank p) ∷ and_term (term_at w1.bank p) (term_at w1.bank q) ∷ []) = takes pair_holds_clause (holds_only w1 law pair_holds_clause told) in
      let law_has : LineHasOnly w2 here (not_term Q ∷ not_term P ∷ and_term P Q ∷ []) = subst (λ u. LineHasOnly w2 here (not_term u ∷ not_term P ∷ and_term P u ∷ [])) same_q (subst (λ u. LineHasOnly w2 here (not_term (term_at w1.bank q) ∷ not_term u ∷ and_term u (term_at w1.bank q) ∷ [])) same_p taken) in
      let p_is : term_at w2.bank p ≡ P = same_term_grown history w0 w2 p g02 in_p in
      let q_is : term_at w3.bank q ≡ Q = same_term_grown history w0 w3 q g03 in_q in
      let more : Clause = not_term Q ∷ and_term P Q ∷ these in
      let left : LineHasOnly w3 rest more =
      cuts more
      (subst (λ u. LineHasOnly w2 first (u ∷ more)) (sym p_is)
      (only_more w2 first (P ∷ these) (P ∷ more) (λ u m. elim m [ inl r ↦ inl r | inr r ↦ inr (inr (inr r)) ]) (only_grown history w0 w2 first (P ∷ these) stood g02 h)))
      (subst (λ u. LineHasOnly w2 here (not_term u ∷ more)) (sym p_is)
      (only_more w2 here (not_term Q ∷ not_term P ∷ and_term P Q ∷ []) (not_term P ∷ more)
      (λ u m. elim m [ inl r ↦ inr (inl r) | inr r ↦ elim r [ inl l ↦ inl l | inr l ↦ elim l [ inl z ↦ inr (inr (inl z)) | inr none ↦ absurd none ] ] ]) law_has)) in
      again (and_term P Q ∷ these)
      (subst (λ u. LineHasOnly w3 second (u ∷ and_term P Q ∷ these)) (sym q_is)
      (only_more w3 second (Q ∷ these) (Q ∷ and_term P Q ∷ these) (λ u m. elim m [ inl r ↦ inl r | inr r ↦ inr (inr r) ]) (only_grown history w0 w3 second (Q ∷ these) stood g03 k)))
      (subst (λ u. LineHasOnly w3 rest (not_term u ∷ and_term P Q ∷ these)) (sym q_is) left)

-- ---- the parts as hypotheses

mapped_joined : (c d : Clause) → map not_term (c ++ d) ≡ map not_term c ++ map not_term d
mapped_joined [] d = refl
mapped_joined (t ∷ c) d = ap (λ r. not_term t ∷ r) (mapped_joined c d)

pub pair_holds_made : (w w1 : Work) (t p q : Term) (first second n : ℕ) → t ≡ and_term p q → and_parts t ≡ and_parts p ++ and_parts q → LineHasOnly w first (p ∷ map not_term (and_parts p)) → LineHasOnly w second (q ∷ map not_term (and_parts q)) → PairsTo w w1 p q first second n → LineHasOnly w1 n (t ∷ map not_term (and_parts t))
pair_holds_made w w1 t p q first second n is parts h k pairs =
    let these : Clause = map not_term (and_parts p) ++ map not_term (and_parts q) in
    let made : LineHasOnly w1 n (and_term p q ∷ these) =
    pairs these
    (only_more w first (p ∷ map not_term (and_parts p)) (p ∷ these) (λ u m. elim m [ inl r ↦ inl r | inr r ↦ inr (among_first u (map not_term (and_parts p)) (map not_term (and_parts q)) r) ]) h)
    (only_more w second (q ∷ map not_term (and_parts q)) (q ∷ these) (λ u m. elim m [ inl r ↦ inl r | inr r ↦ inr (among_second u (map not_term (and_parts p)) (map not_term (and_parts q)) r) ]) k) in
    subst (λ u. LineHasOnly w1 n (u ∷ map not_term (and_parts t))) (sym is)
    (subst (λ c. LineHasOnly w1 n (and_term p q ∷ c)) (sym (ap (map not_term) parts ∙ mapped_joined (and_parts p) (and_parts q))) made)

pub one_holds_made : (w : Work) (t : Term) (n : ℕ) → and_parts t ≡ t ∷ [] → LineHasOnly w n (t ∷ not_term t ∷ []) → LineHasOnly w n (t ∷ map not_term (and_parts t))
one_holds_made w t n parts h = subst (λ c. LineHasOnly w n (t ∷ map not_term c)) (sym parts) h

pub supposes_made : (w0 w1 w2 w3 w4 : Work) (t p q : Term) (line shown under rest n : ℕ) → t ≡ implies_term p q → rule_parts t ≡ supposing (and_parts p) (rule_parts q) → ((these : Clause) → LineHasOnly w0 line these → LineHasOnly w1 line these) → ((these : Clause) → LineHasOnly w1 shown these → LineHasOnly w2 shown these) →
    LineHasOnly w1 shown (p ∷ map not_term (and_parts p)) → OpensTo w1 w2 p q line under → CutsTo w2 w3 p shown under rest → SupposesTo w3 w4 q rest n → SupposesTo w0 w4 t line n
supposes_made w0 w1 w2 w3 w4 t p q line shown under rest n is parts up on holds opens cuts supposes these h =
    let A : Clause = map not_term (and_parts p) in
    let B : Clause = map not_term (rule_parts q).hypotheses in
    let c : Term = (rule_parts q).conclusion in
    let start : LineHasOnly w1 line (implies_term p q ∷ these) = up (implies_term p q ∷ these) (subst (λ u. LineHasOnly w0 line (u ∷ these)) is h) in
    let opened : LineHasOnly w2 under (q ∷ not_term p ∷ these) = opens these start in
    let mid : Clause = q ∷ (A ++ these) in
    let left : LineHasOnly w3 rest mid =
    cuts mid
    (only_more w2 shown (p ∷ A) (p ∷ mid) (λ u m. elim m [ inl r ↦ inl r | inr r ↦ inr (inr (among_first u A these r)) ]) (on (p ∷ A) holds))
    (only_more w2 under (q ∷ not_term p ∷ these) (not_term p ∷ mid) (λ u m. elim m [ inl r ↦ inr (inl r) | inr r ↦ elim r [ inl l ↦ inl l | inr l ↦ inr (inr (among_second u A these l)) ] ]) opened) in
    let last : LineHasOnly w4 n (c ∷ (B ++ (A ++ these))) = supposes (A ++ these) left in
    let ordered : LineHasOnly w4 n (c ∷ ((A ++ B) ++ these)) =
    only_more w4 n (c ∷ (B ++ (A ++ these))) (c ∷ ((A ++ B) ++ these))
    (λ u m. elim m [
      | inl r ↦ inl r
      | inr r ↦
          elim (among_either u B (A ++ these) r) [
            | inl of_b ↦ inr (among_first u (A ++ B) these (among_second u A B of_b))
            | inr l ↦ elim (among_either u A these l) [ inl of_a ↦ inr (among_first u (A ++ B) these (among_first u A B of_a)) | inr of_these ↦ inr (among_second u (A ++ B) these of_these) ]
          ]
    ]) last in
    subst (λ r. LineHasOnly w4 n (r.conclusion ∷ (map not_term r.hypotheses ++ these))) (sym parts)
    (subst (λ d. LineHasOnly w4 n (c ∷ (d ++ these))) (sym (mapped_joined (and_parts p) (rule_parts q).hypotheses)) ordered)

pub supposes_itself : (w w1 : Work) (t : Term) (line : ℕ) → rule_parts t ≡ record { hypotheses = []; conclusion = t } → ((these : Clause) → LineHasOnly w line these → LineHasOnly w1 line these) → SupposesTo w w1 t line line
supposes_itself w w1 t line parts up these h = subst (λ r. LineHasOnly w1 line (r.conclusion ∷ (map not_term r.hypotheses ++ these))) (sym parts) (up (t ∷ these) h)

-- ---- ids of the parts

pub both_put : (old mid new first second whole : Clause) → mid ≡ old ++ first → new ≡ mid ++ second → whole ≡ first ++ second → new ≡ old ++ whole
both_put old mid new first second whole one two is = two ∙ ap (λ r. r ++ second) one ∙ append_assoc old first second ∙ ap (λ r. old ++ r) (sym is)

-- an implication, after its hypothesis is shown
module _ (history : List Entry) (w0 w1 w2 w3 w4 : Work) (stood : WorkStands history w0) (g01 : WorkGrows history w0 w1) (g12 : WorkGrows history w1 w2) (g23 : WorkGrows history w2 w3) (t p q : TermId) (in_t : IsTermIn history w0 t) (is : IsTwoOf w0.bank (codes "IMPLIES") t p q) where
  to_two : WorkGrows history w0 w2
  to_two = WorkGrows-trans history w0 w1 w2 g01 g12

  to_three : WorkGrows history w0 w3
  to_three = WorkGrows-trans history w0 w2 w3 to_two g23

  left_at_first : IsTermIn history w0 p
  left_at_first = left_in history w0 (codes "IMPLIES") t p q in_t is is.left

  right_at_first : IsTermIn history w0 q
  right_at_first = right_in history w0 (codes "IMPLIES") t p q in_t is is.right

  pub whole_still : term_at w1.bank t ≡ implies_term (term_at w1.bank p) (term_at w1.bank q)
  whole_still = same_term_grown history w0 w1 t g01 in_t ∙ (is.whole ∙ ap₂ implies_term (sym (same_term_grown history w0 w1 p g01 left_at_first)) (sym (same_term_grown history w0 w1 q g01 right_at_first)))

  pub left_at_one : IsTermIn history w1 p
  left_at_one = term_grown history w0 w1 p stood g01 left_at_first

  pub right_at_one : IsTermIn history w1 q
  right_at_one = term_grown history w0 w1 q stood g01 right_at_first

  pub left_at_two : IsTermIn history w2 p
  left_at_two = term_grown history w0 w2 p stood to_two left_at_first

  pub right_at_three : IsTermIn history w3 q
  right_at_three = term_grown history w0 w3 q stood to_three right_at_first

  pub supposed_made : (line shown under rest n : ℕ) → LineHasOnly w1 shown (term_at w0.bank p ∷ map not_term (and_parts (term_at w0.bank p))) → OpensTo w1 w2 (term_at w1.bank p) (term_at w1.bank q) line under → CutsTo w2 w3 (term_at w2.bank p) shown under rest → SupposesTo w3 w4 (term_at w3.bank q) rest n → SupposesTo w0 w4 (term_at w0.bank t) line n
  supposed_made line shown under rest n holds opens cuts supposes =
      let P : Term = term_at w0.bank p in
      let Q : Term = term_at w0.bank q in
      supposes_made w0 w1 w2 w3 w4 (term_at w0.bank t) P Q line shown under rest n is.whole (parts_of_rule w0.bank t p q is) (λ these h. only_grown history w0 w1 line these stood g01 h) (λ these h. only_grown history w1 w2 shown these g01.stands g12 h) holds
      (subst (λ u. OpensTo w1 w2 u Q line under) (same_term_grown history w0 w1 p g01 left_at_first) (subst (λ u. OpensTo w1 w2 (term_at w1.bank p) u line under) (same_term_grown history w0 w1 q g01 right_at_first) opens))
      (subst (λ u. CutsTo w2 w3 u shown under rest) (same_term_grown history w0 w2 p to_two left_at_first) cuts)
      (subst (λ u. SupposesTo w3 w4 u rest n) (same_term_grown history w0 w3 q to_three right_at_first) supposes)
