-- The line of a value that is true.
use Rattle.std.proofs.Common.{◌≡◌, ◌≤◌, ◌+◌, ℕ, Bool, true, false, ◌&&◌, not, ap₂, max, Option, None, Some, List, [], ◌∷◌, ◌++◌, refl, sym, ap, ◌∙◌, subst, lit≤, arith}
use Rattle.std.specs.Prelude.{codes, if◌then◌else◌, Vec, All, is_some}
use Rattle.std.specs.declared.alloc.Global.{Global}
use Rattle.std.proofs.lemmas.Bool.{leb-true}
use Rattle.nq_logic.specs.Terms.{Term, Substitution, Each}
use Rattle.nq_logic.specs.Words.{false_term, not_term, equal_term}
use Rattle.nq_logic.specs.Numerals.{number_of}
use Rattle.nq_logic.specs.Values.{is_value, is_tree_value}
use Rattle.nq_logic.specs.Sizes.{depth_of, depth_limit, tree_depth}
use Rattle.nq_logic.specs.Ground.{symbols_of, x_term}
use Rattle.nq_bank.specs.declared.node.TermId.{TermId}
use Rattle.nq_bank.specs.declared.node.Sym.{Sym}
use Rattle.nq_bank.specs.Content.{Content, Stands, IsIdOf, NamesText, text_at, term_at}
use Rattle.nq_bank.proofs.Standing.{All-push}
use Rattle.nq_clause.specs.declared.substitution.Pair.{Pair}
use Rattle.nq_clause.specs.Substitution.{substitution_at, PairStands}
use Rattle.nq_bank.proofs.Numerals.{number_of-call, depth_of-other}
use Rattle.nq_proof.specs.Clauses.{Clause, same_term, without, distinct, literal_at, in_place}
use Rattle.nq_proof.specs.Paths.{replaced_at}
use Rattle.nq_proof.specs.Values.{value_of, is_true, truth}
use Rattle.nq_proof.specs.Rules.{given, used_equation, is_substitution, pair_terms}
use Rattle.nq_proof.specs.Rules as tree
use Rattle.nq_proof.specs.Rows.{axiom_clause}
use Rattle.nq_proof.proofs.Tests.{same_true}
use Rattle.nq_rule.specs.Results.{instance_of}
use Rattle.nq_rule.specs.declared.replacing.Side.TheVariants.{Forwards}
use Rattle.nq_history.specs.declared.entry.Entry.{Entry}
use Rattle.nq_history.specs.Events.{events_at}
use Rattle.nq_kernel.specs.declared.work.Work.{Work}
use Rattle.nq_kernel.specs.declared.rule.Rule.TheVariants.{Cut, Replace}
use Rattle.nq_kernel.specs.Meaning.{conclusion_at, clause_at}
use Rattle.nq_kernel.specs.Over.{IsVariable, IsTermOf, pair_names}
use Rattle.nq_kernel.specs.Growing.{WorkStands, LineHolds}
use Rattle.nq_fragments.specs.Outcomes.{is_small, term_depth}
use Rattle.nq_eval.specs.Lines.{GrowsUncounted, IsUsable}
use Rattle.nq_eval.specs.Rows.{row_at, row_instance, HasRow, ArePairsIn}
use Rattle.nq_eval.specs.Truths.{IsTruth, IsFalsity, IsDenied}
use Rattle.nq_eval.specs.declared.truths.Denied.{Denied}
use Rattle.nq_eval.proofs.LineLemmas.{each_shallow, depth_equal, equation_over, without_same}
use Rattle.nq_eval.proofs.ClosingLemmas.{value_over, small_shallow, small_usable, usable_after, same_after}

false_small : is_small false_term ≡ true
unfolding number_of is_tree_value tree_depth
false_small = refl

pub falsity_is : (bank : Content) (history : List Entry) (f : TermId) → IsIdOf bank f false_term → IsFalsity bank history f
falsity_is bank history f id = record { usable = small_usable bank history f id.stands (ap is_small id.denotes ∙ false_small); is = id.denotes }

pub small_depth : (t : Term) → is_small t ≡ true → depth_of t ≤ 1900
small_depth t e = leb-true (depth_of t) 1900 (small_shallow t e)

-- the equation of two usable terms, where it is not too deep
pub equation_usable : (bank : Content) (history : List Entry) (e t u : TermId) → IsIdOf bank e (equal_term (term_at bank t) (term_at bank u)) → IsUsable bank history t → IsUsable bank history u → depth_of (equal_term (term_at bank t) (term_at bank u)) ≤ term_depth → IsUsable bank history e
equation_usable bank history e t u id one two few =
    record {
      stands = id.stands;
      over = subst (IsTermOf IsVariable (symbols_of (events_at bank history))) (sym id.denotes) (equation_over (events_at bank history) (term_at bank t) (term_at bank u) one.over two.over);
      shallow = subst (λ v. depth_of v ≤ term_depth) (sym id.denotes) few;
    }

-- how deep the equations of a value and F are
pub false_depth : depth_of false_term ≡ 1
unfolding number_of tree_depth
false_depth = refl

pub first_depth : (v : Term) → depth_of v ≤ 1900 → depth_of (equal_term v false_term) ≤ 1901
first_depth v h = let one = depth_equal v false_term in let two = false_depth in omega (arith, one, two, h)

pub second_depth : (v : Term) → depth_of v ≤ 1900 → depth_of (equal_term (equal_term v false_term) false_term) ≤ 1902
second_depth v h = let one = depth_equal (equal_term v false_term) false_term in let two = false_depth in let few = first_depth v h in omega (arith, one, two, few)

module _ (history : List Entry) (old new : Work) (stands : WorkStands history old) (grown : GrowsUncounted history old new) where
  pub truth_after : (v : TermId) → IsTruth old.bank history v → IsTruth new.bank history v
  truth_after v k =
      let same = same_after history old new stands grown v k.usable in
      record { usable = usable_after history old new stands grown v k.usable; small = ap is_small same ∙ k.small; is_true = ap is_true same ∙ k.is_true }

  pub falsity_after : (f : TermId) → IsFalsity old.bank history f → IsFalsity new.bank history f
  falsity_after f k = record { usable = usable_after history old new stands grown f k.usable; is = same_after history old new stands grown f k.usable ∙ k.is }

-- values differ from what is none, and true ones from F
apart_if : (v u : Term) (b : Bool) → same_term v u ≡ b → is_value v ≡ true → is_value u ≡ false → b ≡ false
apart_if v u false e h k = refl
apart_if v u true e h k = let same : true ≡ false = sym h ∙ ap is_value (same_true v u e) ∙ k in absurd cc

apart : (v u : Term) → is_value v ≡ true → is_value u ≡ false → same_term v u ≡ false
apart v u h k = apart_if v u (same_term v u) refl h k

apart_back_if : (v u : Term) (b : Bool) → same_term u v ≡ b → is_value v ≡ true → is_value u ≡ false → b ≡ false
apart_back_if v u false e h k = refl
apart_back_if v u true e h k = let same : true ≡ false = sym h ∙ ap is_value (sym (same_true u v e)) ∙ k in absurd cc

apart_back : (v u : Term) → is_value v ≡ true → is_value u ≡ false → same_term u v ≡ false
apart_back v u h k = apart_back_if v u (same_term u v) refl h k

true_no_false : (b : Bool) → not b ≡ true → b ≡ false
true_no_false true e = absurd cc
true_no_false false e = refl

true_apart : (v : Term) → is_true v ≡ true → same_term v false_term ≡ false
true_apart v e = true_no_false (same_term v false_term) e

false_apart_if : (v : Term) (b : Bool) → same_term false_term v ≡ b → is_true v ≡ true → b ≡ false
false_apart_if v false e h = refl
false_apart_if v true e h = let same : false ≡ true = ap is_true (same_true false_term v e) ∙ h in absurd cc

false_apart : (v : Term) → is_true v ≡ true → same_term false_term v ≡ false
false_apart v e = false_apart_if v (same_term false_term v) refl e

equation_no_value : (t u : Term) → is_value (equal_term t u) ≡ false
unfolding number_of is_tree_value
equation_no_value t u = refl

denial_no_value : (t : Term) → is_value (not_term t) ≡ false
unfolding number_of is_tree_value
denial_no_value t = refl

abbrev pub equal_false : Term → Term
equal_false v = equal_term v false_term

-- (EQUAL (EQUAL v F) F) by the table
false_value : is_value false_term ≡ true
unfolding number_of is_tree_value
false_value = refl

pub equal_false_value : (v : Term) → is_value v ≡ true → is_true v ≡ true → value_of (equal_false v) ≡ Some false_term
equal_false_value v h e =
    ap₂ (λ a b. elim (a && b) as (λ b. Option Term) [ false ↦ None | true ↦ Some (truth (same_term v false_term)) ]) h false_value ∙
    ap (λ b. Some (truth b)) (true_apart v e)

module _ (bank : Content) (history : List Entry) (name : Sym) (reads : text_at bank name ≡ codes "FALSE") where
  either_row : row_at bank history name 2 ≡ Some (x_term ∷ equal_term x_term false_term ∷ [])
  either_row = ap (λ x. given (axiom_clause (events_at bank history) x 2 0) (λ c. Some (distinct c))) reads

  either_row_shallow : Each (λ u. depth_of u ≤ depth_limit) (x_term ∷ equal_term x_term false_term ∷ [])
  unfolding number_of tree_depth
  either_row_shallow = (lit≤ tt, (lit≤ tt, tt))

  pub either_instance : (v : Term) (s : Substitution) → is_value v ≡ true → s ≡ (codes "X", v) ∷ [] → row_instance bank history name 2 s ≡ Some (v ∷ equal_false v ∷ [])
  either_instance v s h e =
      ap (λ o. given o (λ c. Some (instance_of s c))) either_row ∙
      ap (λ s. Some (instance_of s (x_term ∷ equal_term x_term false_term ∷ []))) e ∙
      ap (λ b. Some (v ∷ (if b then [] else equal_false v ∷ []))) (apart v (equal_false v) h (equation_no_value v false_term))

  pub either_has : (v : Term) (s : Substitution) → is_value v ≡ true → depth_of v ≤ 1900 → s ≡ (codes "X", v) ∷ [] → HasRow bank history name 2 s
  either_has v s h few e =
      record {
        there = ap is_some either_row;
        shallow = each_shallow (row_at bank history name 2) (x_term ∷ equal_term x_term false_term ∷ []) either_row either_row_shallow;
        instance = each_shallow (row_instance bank history name 2 s) (v ∷ equal_false v ∷ []) (either_instance v s h e) (let two = first_depth v few in (omega (arith, few), (omega (arith, two), tt)));
      }

abbrev pub twice_false : Term → Term
twice_false v = equal_false (equal_false v)

module _ (history : List Entry) (work : Work) (v : Term) (value : is_value v ≡ true) (true_value : is_true v ≡ true) where
  pub replaced_truth : (line : ℕ) (path : Vec ℕ Global) (f : TermId) → path.items ≡ [] → term_at work.bank f ≡ false_term → LineHolds work line (v ∷ equal_false v ∷ []) →
      conclusion_at work.bank history work.log (Replace line 2 path f Forwards) ≡ Some (v ∷ false_term ∷ not_term (twice_false v) ∷ [])
  unfolding conclusion_at
  replaced_truth line path f empty is holds =
      let F : List ℕ → Term → Option Clause → Option Clause = λ p t o. given o (λ d. given (literal_at 2 d) (λ a. given (replaced_at p t a) (λ change. Some (distinct (in_place 2 (change.1 ∷ []) d ++ (used_equation tree.Forwards change.0 t ∷ [])))))) in
      ap (λ p. F p (term_at work.bank f) (clause_at work.bank work.log line)) empty ∙
      ap (λ t. F [] t (clause_at work.bank work.log line)) is ∙
      ap (F [] false_term) holds ∙
      ap (λ b. Some (v ∷ (if b then (if same_term v (not_term (twice_false v)) then [] else not_term (twice_false v) ∷ []) else false_term ∷ (if same_term v (not_term (twice_false v)) then [] else not_term (twice_false v) ∷ [])))) (true_apart v true_value) ∙
      ap (λ b. Some (v ∷ false_term ∷ (if b then [] else not_term (twice_false v) ∷ []))) (apart v (not_term (twice_false v)) value (denial_no_value (twice_false v)))

  pub truth_or_false : (first second : ℕ) (w : TermId) → term_at work.bank w ≡ twice_false v → LineHolds work first (term_at work.bank w ∷ []) → LineHolds work second (v ∷ false_term ∷ not_term (term_at work.bank w) ∷ []) →
      conclusion_at work.bank history work.log (Cut first second w) ≡ Some (v ∷ false_term ∷ [])
  unfolding conclusion_at
  truth_or_false first second w is one two =
      let t : Term = term_at work.bank w in
      let F : Option Clause → Option Clause → Option Clause = λ o q. given o (λ c. given q (λ d. Some (distinct (without t c ++ without (not_term t) d)))) in
      ap (λ o. F o (clause_at work.bank work.log second)) one ∙ ap (λ q. F (Some (t ∷ [])) q) two ∙
      ap (λ c. Some (distinct (c ++ without (not_term t) (v ∷ false_term ∷ not_term t ∷ [])))) (without_same history work t) ∙
      ap (λ b. Some (distinct (if b then false_term ∷ without (not_term t) (not_term t ∷ []) else v ∷ false_term ∷ without (not_term t) (not_term t ∷ [])))) (apart_back v (not_term t) value (denial_no_value t)) ∙
      ap (λ c. Some (distinct (v ∷ false_term ∷ c))) (without_same history work (not_term t)) ∙
      ap (λ b. Some (v ∷ (if b then [] else false_term ∷ []))) (true_apart v true_value)

  pub truth_alone : (first second : ℕ) (f : TermId) → term_at work.bank f ≡ false_term → LineHolds work first (v ∷ false_term ∷ []) → LineHolds work second (not_term false_term ∷ []) →
      conclusion_at work.bank history work.log (Cut first second f) ≡ Some (v ∷ [])
  unfolding conclusion_at
  truth_alone first second f is one two =
      let F : Term → Option Clause → Option Clause → Option Clause = λ t o q. given o (λ c. given q (λ d. Some (distinct (without t c ++ without (not_term t) d)))) in
      ap (λ t. F t (clause_at work.bank work.log first) (clause_at work.bank work.log second)) is ∙
      ap (λ o. F false_term o (clause_at work.bank work.log second)) one ∙
      ap (λ q. F false_term (Some (v ∷ false_term ∷ [])) q) two ∙
      ap (λ b. Some (distinct ((if b then [] else v ∷ []) ++ []))) (false_apart v true_value)

-- how deep the literals on the way to the line are
pub denial_depth : (t : Term) → depth_of (not_term t) ≡ max (depth_of t) 0 + 1
denial_depth t = depth_of-other (codes "NOT") (t ∷ []) (number_of-call (codes "NOT") (t ∷ []))

pub truth_literals_shallow : (v : Term) → is_small v ≡ true → Each (λ u. depth_of u ≤ depth_limit) (v ∷ false_term ∷ not_term (twice_false v) ∷ [])
truth_literals_shallow v small =
    let few = small_depth v small in
    let f = false_depth in
    let two = second_depth v few in
    let denied = denial_depth (twice_false v) in
    (omega (arith, few), (omega (arith, f), (omega (arith, two, denied), tt)))

pub two_literals_shallow : (v : Term) → is_small v ≡ true → Each (λ u. depth_of u ≤ depth_limit) (v ∷ false_term ∷ [])
two_literals_shallow v small =
    let few = small_depth v small in
    let f = false_depth in
    (omega (arith, few), (omega (arith, f), tt))

pub one_literal_shallow : (v : Term) → is_small v ≡ true → Each (λ u. depth_of u ≤ depth_limit) (v ∷ [])
one_literal_shallow v small = let few = small_depth v small in (omega (arith, few), tt)

module _ (history : List Entry) (old new : Work) (stands : WorkStands history old) (grown : GrowsUncounted history old new) where
  pub denied_after : (v : TermId) (d : Denied) → IsUsable old.bank history v → IsDenied old.bank history v d → IsDenied new.bank history v d
  denied_after v d usable k =
      let same = same_after history old new stands grown v usable in
      record {
        falsity = falsity_after history old new stands grown d.falsity k.falsity;
        equation = usable_after history old new stands grown d.equation k.equation;
        equation_is = same_after history old new stands grown d.equation k.equation ∙ k.equation_is ∙ ap equal_false (sym same);
        whole = usable_after history old new stands grown d.whole k.whole;
        whole_is = same_after history old new stands grown d.whole k.whole ∙ k.whole_is ∙ ap twice_false (sym same);
      }

-- the equation of a usable term and F, made from terms that stood before
pub with_false : (old new : Content) (e t f : TermId) (u : Term) → IsIdOf new e (equal_term (term_at old t) (term_at old f)) → term_at old t ≡ u → term_at old f ≡ false_term → term_at new e ≡ equal_term u false_term
with_false old new e t f u id one two = id.denotes ∙ ap (λ v. equal_term v (term_at old f)) one ∙ ap (equal_term u) two

pub equation_usable_from : (new : Content) (history : List Entry) (e : TermId) (u : Term) → Stands new e → term_at new e ≡ equal_term u false_term → IsTermOf IsVariable (symbols_of (events_at new history)) u → depth_of (equal_term u false_term) ≤ term_depth → IsUsable new history e
unfolding number_of is_tree_value
equation_usable_from new history e u stands is over few =
    record {
      stands = stands;
      over = subst (IsTermOf IsVariable (symbols_of (events_at new history))) (sym is) (equation_over (events_at new history) u false_term over (value_over (events_at new history) false_term refl));
      shallow = subst (λ v. depth_of v ≤ term_depth) (sym is) few;
    }

x_variable : IsVariable (codes "X")
x_variable = record { symbol = refl; other = refl }

pub one_pair : (bank : Content) (x : Sym) (v : TermId) (pairs : List Pair) → NamesText bank x (codes "X") → pairs ≡ record { variable = x; term = v } ∷ [] → substitution_at bank pairs ≡ (codes "X", term_at bank v) ∷ []
one_pair bank x v pairs named e = ap (substitution_at bank) e ∙ ap (λ t. (t, term_at bank v) ∷ []) named.reads

-- one term in place of X
pub pair_in : (bank : Content) (history : List Entry) (x : Sym) (v : TermId) (pairs : List Pair) → NamesText bank x (codes "X") → IsUsable bank history v → pairs ≡ record { variable = x; term = v } ∷ [] → ArePairsIn bank history pairs
pair_in bank history x v pairs named usable e =
    let reads = one_pair bank x v pairs named e in
    record {
      stand = subst (λ ps. All (PairStands bank) ps) (sym e) (All-push (PairStands bank) [] (record { variable = x; term = v }) (λ i d below. absurd (omega arith)) (record { variable = named.named; term = usable.stands }));
      distinct = ap is_substitution reads;
      terms = subst (λ s. Each (IsTermOf IsVariable (symbols_of (events_at bank history))) (pair_terms s)) (sym reads) (usable.over, tt);
      names = subst (λ s. Each IsVariable (pair_names s)) (sym reads) (x_variable, tt);
    }
