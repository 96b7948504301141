-- IFs that are joined from their branches.
use Rattle.std.proofs.Common.{◌≡◌, ℕ, true, Option, Some, None, List, [], ◌∷◌, ◌++◌, refl, sym, ap, ap₂, ◌∙◌, subst, inl, inr, arith}
use Rattle.std.specs.Prelude.{All, IsSome, codes}
use Rattle.std.proofs.lemmas.List.{map_push}
use Rattle.nq_logic.specs.Terms.{Name, Term, IsAmong, Each, Substitution}
use Rattle.nq_logic.specs.Words.{not_term, equal_term, if_term}
use Rattle.nq_logic.proofs.Symbols.{if_symbol}
use Rattle.nq_bank.specs.declared.node.Sym.{Sym}
use Rattle.nq_bank.specs.declared.node.TermId.{TermId}
use Rattle.nq_bank.specs.Content.{Content, IsIdOf, NamesText, term_at}
use Rattle.nq_bank.proofs.Standing.{All-push}
use Rattle.nq_clause.specs.declared.substitution.Pair.{Pair}
use Rattle.nq_clause.specs.Substitution.{substitution_at, PairStands}
use Rattle.nq_clause.proofs.SubstitutionLemmas.{substitution_at-grown, pairs_grown}
use Rattle.nq_proof.specs.Clauses.{Clause, without}
use Rattle.nq_proof.specs.Rules.{given, Forwards, is_substitution, pair_terms}
use Rattle.nq_rule.specs.declared.branching.Branches.{Branches}
use Rattle.nq_rule.specs.Results.{join_of}
use Rattle.nq_history.specs.declared.entry.Entry.{Entry}
use Rattle.nq_history.specs.Events.{events_at}
use Rattle.nq_kernel.specs.declared.work.Work.{Work}
use Rattle.nq_kernel.specs.declared.rule.Rule.TheVariants.{Join}
use Rattle.nq_kernel.specs.Meaning.{conclusion_at, clause_at}
use Rattle.nq_kernel.specs.Over.{IsVariable, pair_names}
use Rattle.nq_kernel.specs.Growing.{WorkStands, WorkGrows, LineStands}
use Rattle.nq_kernel.proofs.GrowingLemmas.{WorkGrows-trans}
use Rattle.nq_lines.specs.Lines.{HasOnly, IsTermIn, LineHasOnly, CutsTo, DischargesTo}
use Rattle.nq_lines.specs.Instances.{ArePairsIn}
use Rattle.nq_lines.specs.Branches.{AreBranchesIn, JoinsIf, if_at, joined_literals}
use Rattle.nq_lines.proofs.Among.{none_among, and_among, under, beside}
use Rattle.nq_lines.proofs.LineLemmas.{from_distinct, among_either, left_these, only_grown, only_more}
use Rattle.nq_lines.proofs.TermLemmas.{IsOver, term_grown, same_term_grown}

-- ---- the rule

join_literals : (p x y : Term) (c d these : Clause) → ((u : Term) → IsAmong u c → IsAmong u (x ∷ not_term p ∷ these)) → ((u : Term) → IsAmong u d → IsAmong u (y ∷ p ∷ these)) → (u : Term) → IsAmong u (join_of p x y c d) → IsAmong u (if_term p x y ∷ these)
join_literals p x y c d these first second u m =
    elim (among_either u (without (not_term p) (without x c)) (without p (without y d) ++ (if_term p x y ∷ [])) (from_distinct u (without (not_term p) (without x c) ++ (without p (without y d) ++ (if_term p x y ∷ []))) m)) [
      | inl k ↦ inr (left_these (not_term p) (without x c) these (left_these x c (not_term p ∷ these) first) u k)
      | inr k ↦ elim (among_either u (without p (without y d)) (if_term p x y ∷ []) k) [
        | inl l ↦ inr (left_these p (without y d) these (left_these y d (p ∷ these) second) u l)
        | inr l ↦ elim l [ inl e ↦ inl e | inr none ↦ absurd none ]
      ]
    ]

module _ (history : List Entry) (work : Work) where
  join_stands : (p x y : Term) (o q : Option Clause) → IsSome o → IsSome q → IsSome (given o (λ c. given q (λ d. Some (join_of p x y c d))))
  join_stands p x y None q h k = absurd cc
  join_stands p x y (Some c) None h k = absurd cc
  join_stands p x y (Some c) (Some d) h k = refl

  pub join_allowed : (a b : ℕ) (parts : Branches) → LineStands work a → LineStands work b → IsSome (conclusion_at work.bank history work.log (Join a b parts))
  unfolding conclusion_at
  join_allowed a b parts h k = join_stands (term_at work.bank parts.test) (term_at work.bank parts.first) (term_at work.bank parts.second) (clause_at work.bank work.log a) (clause_at work.bank work.log b) h k

  pub join_only : (a b : ℕ) (parts : Branches) (these : Clause) → LineHasOnly work a (term_at work.bank parts.first ∷ not_term (term_at work.bank parts.test) ∷ these) → LineHasOnly work b (term_at work.bank parts.second ∷ term_at work.bank parts.test ∷ these) → HasOnly (conclusion_at work.bank history work.log (Join a b parts)) (if_at work.bank parts ∷ these)
  unfolding conclusion_at
  join_only a b parts these h k =
      let p : Term = term_at work.bank parts.test in
      let x : Term = term_at work.bank parts.first in
      let y : Term = term_at work.bank parts.second in
      record {
        literals = join_of p x y h.literals k.literals;
        stands =
            ap (λ o. given o (λ c. given (clause_at work.bank work.log b) (λ d. Some (join_of p x y c d)))) h.stands ∙
            ap (λ o. given o (λ d. Some (join_of p x y h.literals d))) k.stands;
        only = join_literals p x y h.literals k.literals these h.only k.only;
      }

  pub if_over : (parts : Branches) → AreBranchesIn history work parts → IsOver history work (if_at work.bank parts)
  if_over parts h =
      record {
        over = (((if_symbol (events_at work.bank history), h.test.over.over), h.first.over.over), h.second.over.over);
        variables = (((tt, h.test.over.variables), h.first.over.variables), h.second.over.variables);
      }

pub branches_grown : (history : List Entry) (old new : Work) (parts : Branches) → WorkStands history old → WorkGrows history old new → AreBranchesIn history old parts → AreBranchesIn history new parts
branches_grown history old new parts stands grows h =
    record { test = term_grown history old new parts.test stands grows h.test; first = term_grown history old new parts.first stands grows h.first; second = term_grown history old new parts.second stands grows h.second }

-- the id of an equation, by terms as they were
pub equal_id : (old one new : Work) (e a b : TermId) → term_at one.bank a ≡ term_at old.bank a → term_at one.bank b ≡ term_at old.bank b → IsIdOf new.bank e (equal_term (term_at one.bank a) (term_at one.bank b)) → IsIdOf new.bank e (equal_term (term_at old.bank a) (term_at old.bank b))
equal_id old one new e a b left right is = subst (IsIdOf new.bank e) (ap₂ equal_term left right) is

pub if_id : (old one new : Work) (t : TermId) (parts : Branches) → term_at one.bank parts.test ≡ term_at old.bank parts.test → term_at one.bank parts.first ≡ term_at old.bank parts.first → term_at one.bank parts.second ≡ term_at old.bank parts.second → IsIdOf new.bank t (if_at one.bank parts) → IsIdOf new.bank t (if_at old.bank parts)
if_id old one new t parts a b c is =
    subst (λ p. IsIdOf new.bank t (if_term p (term_at old.bank parts.first) (term_at old.bank parts.second))) a
    (subst (λ x. IsIdOf new.bank t (if_term (term_at one.bank parts.test) x (term_at old.bank parts.second))) b
    (subst (λ y. IsIdOf new.bank t (if_term (term_at one.bank parts.test) (term_at one.bank parts.first) y)) c is))

-- ---- pairs

pub none_stand : (bank : Content) (pairs : List Pair) → pairs ≡ [] → All (PairStands bank) pairs
none_stand bank pairs e = subst (All (PairStands bank)) (sym e) (λ k d below. absurd (omega arith))

module _ (history : List Entry) (old new : Work) (pairs more : List Pair) (s : Sym) (t : TermId) (name : List ℕ) (stands : WorkStands history old) (grows : WorkGrows history old new) (h : All (PairStands old.bank) pairs) (named : NamesText new.bank s name) (there : IsTermIn history old t) (are : more ≡ pairs ++ record { variable = s; term = t } ∷ []) where
  pub pair_added : substitution_at new.bank more ≡ substitution_at old.bank pairs ++ (name, term_at old.bank t) ∷ []
  pair_added =
      ap (substitution_at new.bank) are ∙
      map_push _ pairs (record { variable = s; term = t }) ∙
      ap₂ (λ (q : Substitution) (p : Name × Term). q ++ p ∷ []) (substitution_at-grown old.bank new.bank pairs grows.bank h) (ap₂ (λ (n : Name) (u : Term). (n, u)) named.reads (same_term_grown history old new t grows there))

  pub pair_stands : All (PairStands new.bank) more
  pair_stands = subst (All (PairStands new.bank)) (sym are) (All-push (PairStands new.bank) pairs (record { variable = s; term = t }) (pairs_grown old.bank new.bank pairs grows.bank h) (record { variable = named.named; term = (term_grown history old new t stands grows there).stands }))

-- one more pair after those that are known
pub added_to : (s before known : Substitution) (name : Name) (t u : Term) → s ≡ before ++ (name, t) ∷ [] → before ≡ known → t ≡ u → s ≡ known ++ (name, u) ∷ []
added_to s before known name t u e f g = e ∙ ap₂ (λ (q : Substitution) (v : Term). q ++ (name, v) ∷ []) f g

-- pairs whose substitution is known
pub pairs_in_by : (history : List Entry) (work : Work) (pairs : List Pair) (s : Substitution) → substitution_at work.bank pairs ≡ s → All (PairStands work.bank) pairs → is_substitution s ≡ true → Each (IsOver history work) (pair_terms s) → Each IsVariable (pair_names s) → ArePairsIn history work pairs
pairs_in_by history work pairs s e stand once terms names =
    record {
      stand = stand;
      distinct = subst (λ q. is_substitution q ≡ true) (sym e) once;
      terms = subst (λ q. Each (IsOver history work) (pair_terms q)) (sym e) terms;
      names = subst (λ q. Each IsVariable (pair_names q)) (sym e) names;
    }

-- ---- the line

module _ (history : List Entry) (w0 w1 w2 w4 w5 w6 : Work) (p x y q u v : Term) (test first second chosen known rest n : ℕ) (stands : WorkStands history w0) (one : WorkGrows history w0 w1) (two : WorkGrows history w1 w2) (three : WorkGrows history w2 w4) (four : WorkGrows history w4 w5) where
  abbrev choice : Term
  choice = if_term (not_term q) (equal_term y v) (equal_term x u)

  abbrev goal : Term
  goal = equal_term (if_term p x y) (if_term q u v)

  abbrev used : Term
  used = not_term (equal_term p q)

  pub joined_by : JoinsIf w1 w2 (not_term q) (equal_term y v) (equal_term x u) second first chosen → LineHasOnly w4 known (joined_literals p x y q u v) → CutsTo w4 w5 choice chosen known rest → DischargesTo w5 w6 Forwards p q rest test n → (these : List Term) → LineHasOnly w0 test (equal_term p q ∷ these) → LineHasOnly w0 first (equal_term x u ∷ not_term q ∷ these) → LineHasOnly w0 second (equal_term y v ∷ not_term (not_term q) ∷ these) → LineHasOnly w6 n (goal ∷ these)
  joined_by joins law cuts discharges these ha hb hc =
      let more : List Term = goal ∷ used ∷ these in
      let made : LineHasOnly w2 chosen (choice ∷ these) = joins these (only_grown history w0 w1 second (equal_term y v ∷ not_term (not_term q) ∷ these) stands one hc) (only_grown history w0 w1 first (equal_term x u ∷ not_term q ∷ these) stands one hb) in
      let wider : LineHasOnly w4 chosen (choice ∷ more) = only_more w4 chosen (choice ∷ these) (choice ∷ more) (beside choice these more (under goal these (used ∷ these) (under used these these (λ t m. m)))) (only_grown history w2 w4 chosen (choice ∷ these) two.stands three made) in
      let denied : Term = not_term choice in
      let all : List Term = denied ∷ more in
      let whole : LineHasOnly w4 known all = only_more w4 known (goal ∷ used ∷ denied ∷ []) all (and_among goal (used ∷ denied ∷ []) all (inr (inl refl)) (and_among used (denied ∷ []) all (inr (inr (inl refl))) (and_among denied [] all (inl refl) (none_among all)))) law in
      discharges (goal ∷ these)
      (only_more w5 rest more (used ∷ goal ∷ these) (and_among goal (used ∷ these) (used ∷ goal ∷ these) (inr (inl refl)) (beside used these (goal ∷ these) (under goal these these (λ t m. m)))) (cuts more wider whole))
      (only_more w5 test (equal_term p q ∷ these) (equal_term p q ∷ goal ∷ these) (beside (equal_term p q) these (goal ∷ these) (under goal these these (λ t m. m)))
      (only_grown history w0 w5 test (equal_term p q ∷ these) stands (WorkGrows-trans history w0 w1 w5 one (WorkGrows-trans history w1 w2 w5 two (WorkGrows-trans history w2 w4 w5 three four))) ha))

-- ---- the variables of the law

pub p_plain : IsVariable (codes "P")
p_plain = record { symbol = refl; other = refl }

pub q_plain : IsVariable (codes "Q")
q_plain = record { symbol = refl; other = refl }

pub u_plain : IsVariable (codes "U")
u_plain = record { symbol = refl; other = refl }

pub v_plain : IsVariable (codes "V")
v_plain = record { symbol = refl; other = refl }
