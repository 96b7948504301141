-- The lines of an IF and the side that its test chooses.
use Rattle.std.proofs.Common.{◌≡◌, ◌≤◌, ◌<◌, ℕ, Bool, true, false, Option, Some, None, List, [], ◌∷◌, ◌++◌, refl, sym, ap, ◌∙◌, subst, lit≤, arith}
use Rattle.std.specs.Prelude.{codes, if◌then◌else◌, All, not, is_some, Result, Ok, Err, OnOk, IfOk}
use Rattle.nq_logic.specs.Terms.{Term, Substitution, Each, call}
use Rattle.nq_logic.specs.Words.{false_term, not_term, equal_term, if_term}
use Rattle.nq_logic.specs.Numerals.{number_of}
use Rattle.nq_logic.specs.Sizes.{depth_of, depth_limit, tree_depth}
use Rattle.nq_logic.specs.Ground.{symbols_of, x_term, y_term, z_term}
use Rattle.nq_logic.proofs.Symbols.{if_symbol}
use Rattle.nq_bank.specs.declared.node.TermId.{TermId}
use Rattle.nq_bank.specs.declared.node.Sym.{Sym}
use Rattle.nq_bank.specs.Content.{Content, IsNamed, NamesText, text_at, term_at, terms_at}
use Rattle.nq_bank.proofs.Growth.{IsNamed-grown, text_at-grown}
use Rattle.nq_bank.proofs.Numerals.{number_of-call}
use Rattle.nq_history.proofs.Lists.{All-cons, All-none}
use Rattle.nq_clause.specs.declared.substitution.Pair.{Pair}
use Rattle.nq_clause.specs.Substitution.{substitution_at, PairStands}
use Rattle.nq_proof.specs.Clauses.{Clause, same_term, without, distinct}
use Rattle.nq_proof.specs.Values.{is_true}
use Rattle.nq_proof.specs.Rules.{given, is_substitution, pair_terms}
use Rattle.nq_proof.specs.Rows.{axiom_clause}
use Rattle.nq_proof.proofs.Tests.{same_true}
use Rattle.nq_rule.proofs.LiteralLemmas.{true_same}
use Rattle.nq_rule.specs.Results.{instance_of}
use Rattle.nq_rule.specs.declared.branching.Branches.{Branches}
use Rattle.nq_history.specs.declared.entry.Entry.{Entry}
use Rattle.nq_history.specs.Events.{events_at}
use Rattle.nq_kernel.specs.declared.work.Work.{Work}
use Rattle.nq_kernel.specs.declared.rule.Rule.TheVariants.{Cut}
use Rattle.nq_kernel.specs.Meaning.{conclusion_at, clause_at}
use Rattle.nq_kernel.specs.Over.{IsVariable, IsTermOf, pair_names}
use Rattle.nq_kernel.specs.Growing.{WorkStands, LineHolds}
use Rattle.nq_fragments.specs.Outcomes.{is_small, term_depth}
use Rattle.nq_eval.specs.Lines.{GrowsUncounted, IsUsable}
use Rattle.nq_eval.specs.Rows.{row_at, row_instance, HasRow, ArePairsIn}
use Rattle.nq_eval.specs.Choices.{for_choice, IsUsableChoice}
use Rattle.nq_eval.specs.Heads.{IsChoice}
use Rattle.nq_eval.specs.Gathered.{HasRoom}
use Rattle.nq_eval.specs.Reducing.{IsReducing}
use Rattle.nq_eval.specs.Sides.{side_if}
use Rattle.nq_eval.specs.declared.reducing.Reduced.{Reduced}
use Rattle.nq_eval.proofs.LineLemmas.{each_shallow, equation_shallow, without_same}
use Rattle.nq_eval.proofs.ClosingLemmas.{usable_after, same_after}
use Rattle.nq_eval.proofs.TruthLemmas.{denial_depth}
use Rattle.nq_eval.proofs.EvaluationLemmas.{IsPart, test_part, first_part, second_part}

-- ---- the pairs

x_variable : IsVariable (codes "X")
x_variable = record { symbol = refl; other = refl }

y_variable : IsVariable (codes "Y")
y_variable = record { symbol = refl; other = refl }

z_variable : IsVariable (codes "Z")
z_variable = record { symbol = refl; other = refl }

abbrev pub three_pairs : Sym → Sym → Sym → Branches → List Pair
three_pairs x y z parts = record { variable = x; term = parts.test } ∷ record { variable = y; term = parts.first } ∷ record { variable = z; term = parts.second } ∷ []

pub name_after : (history : List Entry) (old new : Work) (s : Sym) (text : List ℕ) → GrowsUncounted history old new → NamesText old.bank s text → NamesText new.bank s text
name_after history old new s text grown named = record { named = IsNamed-grown old.bank new.bank s grown.grows.bank named.named; reads = text_at-grown old.bank new.bank s grown.grows.bank named.named ∙ named.reads }

module _ (bank : Content) (history : List Entry) (x y z : Sym) (parts : Branches) (pairs : List Pair) (one : NamesText bank x (codes "X")) (two : NamesText bank y (codes "Y")) (three : NamesText bank z (codes "Z")) (items : pairs ≡ three_pairs x y z parts) where
  pub pairs_read : substitution_at bank pairs ≡ for_choice (term_at bank parts.test) (term_at bank parts.first) (term_at bank parts.second)
  pairs_read =
      let e = one.reads in
      let f = two.reads in
      let g = three.reads in
      ap (substitution_at bank) items ∙
      ap (λ t. (t, term_at bank parts.test) ∷ (text_at bank y, term_at bank parts.first) ∷ (text_at bank z, term_at bank parts.second) ∷ []) e ∙
      ap (λ t. (codes "X", term_at bank parts.test) ∷ (t, term_at bank parts.first) ∷ (text_at bank z, term_at bank parts.second) ∷ []) f ∙
      ap (λ t. (codes "X", term_at bank parts.test) ∷ (codes "Y", term_at bank parts.first) ∷ (t, term_at bank parts.second) ∷ []) g

  pub pairs_in : IsUsable bank history parts.test → IsUsable bank history parts.first → IsUsable bank history parts.second → ArePairsIn bank history pairs
  pairs_in p q r =
      record {
        stand = subst (λ (ps : List Pair). All (PairStands bank) ps) (sym items)
            (All-cons (PairStands bank) (record { variable = x; term = parts.test }) (record { variable = y; term = parts.first } ∷ record { variable = z; term = parts.second } ∷ []) (record { variable = one.named; term = p.stands })
            (All-cons (PairStands bank) (record { variable = y; term = parts.first }) (record { variable = z; term = parts.second } ∷ []) (record { variable = two.named; term = q.stands })
            (All-cons (PairStands bank) (record { variable = z; term = parts.second }) [] (record { variable = three.named; term = r.stands }) (All-none (PairStands bank)))));
        distinct = ap is_substitution pairs_read;
        terms = subst (λ s. Each (IsTermOf IsVariable (symbols_of (events_at bank history))) (pair_terms s)) (sym pairs_read) (p.over, (q.over, (r.over, tt)));
        names = subst (λ s. Each IsVariable (pair_names s)) (sym pairs_read) (x_variable, (y_variable, (z_variable, tt)));
      }

-- ---- the rows of IF

abbrev first_row : Clause
first_row = not_term x_term ∷ equal_term (if_term x_term y_term z_term) y_term ∷ []

abbrev second_row : Clause
second_row = x_term ∷ equal_term (if_term x_term y_term z_term) z_term ∷ []

module _ (bank : Content) (history : List Entry) (name : Sym) (reads : text_at bank name ≡ codes "IF") (s : Substitution) (v x y u : Term) (is : s ≡ for_choice v x y) (whole : u ≡ if_term v x y) where
  first_at : row_at bank history name 2 ≡ Some first_row
  first_at = ap (λ n. given (axiom_clause (events_at bank history) n 2 0) (λ c. Some (distinct c))) reads

  second_at : row_at bank history name 1 ≡ Some second_row
  second_at = ap (λ n. given (axiom_clause (events_at bank history) n 1 0) (λ c. Some (distinct c))) reads

  first_shallow : Each (λ t. depth_of t ≤ depth_limit) first_row
  unfolding number_of tree_depth
  first_shallow = (lit≤ tt, (lit≤ tt, tt))

  second_shallow : Each (λ t. depth_of t ≤ depth_limit) second_row
  unfolding number_of tree_depth
  second_shallow = (lit≤ tt, (lit≤ tt, tt))

  pub first_instance : row_instance bank history name 2 s ≡ Some (not_term v ∷ equal_term u x ∷ [])
  first_instance =
      ap (λ o. given o (λ c. Some (instance_of s c))) first_at ∙
      ap (λ s. Some (instance_of s first_row)) is ∙
      ap (λ t. Some (not_term v ∷ equal_term t x ∷ [])) (sym whole)

  pub first_has : depth_of v ≤ 1900 → depth_of u ≤ term_depth → depth_of x ≤ term_depth → HasRow bank history name 2 s
  first_has few one two =
      let denied = denial_depth v in
      record {
        there = ap is_some first_at;
        shallow = each_shallow (row_at bank history name 2) first_row first_at first_shallow;
        instance = each_shallow (row_instance bank history name 2 s) (not_term v ∷ equal_term u x ∷ []) first_instance (omega (arith, few, denied), (equation_shallow u x one two, tt));
      }

  false_instance : v ≡ false_term → row_instance bank history name 1 s ≡ Some (false_term ∷ equal_term u y ∷ [])
  false_instance e =
      ap (λ o. given o (λ c. Some (instance_of s c))) second_at ∙
      ap (λ s. Some (instance_of s second_row)) (is ∙ ap (λ t. for_choice t x y) e) ∙
      ap (λ t. Some (false_term ∷ equal_term t y ∷ [])) (sym (whole ∙ ap (λ t. if_term t x y) e))

  pub second_instance : v ≡ false_term → row_instance bank history name 1 s ≡ Some (v ∷ equal_term u y ∷ [])
  second_instance e = false_instance e ∙ ap (λ t. Some (t ∷ equal_term u y ∷ [])) (sym e)

  pub second_has : v ≡ false_term → depth_of v ≤ term_depth → depth_of u ≤ term_depth → depth_of y ≤ term_depth → HasRow bank history name 1 s
  second_has e few one two =
      record {
        there = ap is_some second_at;
        shallow = each_shallow (row_at bank history name 1) second_row second_at second_shallow;
        instance = each_shallow (row_instance bank history name 1 s) (v ∷ equal_term u y ∷ []) (second_instance e) (omega (arith, few), (equation_shallow u y one two, tt));
      }

-- ---- the cuts

module _ (history : List Entry) (work : Work) (first second : ℕ) (e : TermId) (u x : Term) where
  abbrev t : Term
  t = term_at work.bank e

  pub truth_cut : LineHolds work first (t ∷ []) → LineHolds work second (not_term t ∷ equal_term u x ∷ []) → conclusion_at work.bank history work.log (Cut first second e) ≡ Some (equal_term u x ∷ [])
  unfolding conclusion_at
  truth_cut one two =
      let F : Option Clause → Option Clause → Option Clause = λ o q. given o (λ c. given q (λ d. Some (distinct (without t c ++ without (not_term t) d)))) in
      ap (λ o. F o (clause_at work.bank work.log second)) one ∙ ap (λ q. F (Some (t ∷ [])) q) two ∙
      ap (λ c. Some (distinct (c ++ without (not_term t) (not_term t ∷ equal_term u x ∷ [])))) (without_same history work t) ∙
      ap (λ b. Some (distinct (if b then equal_term u x ∷ [] else not_term t ∷ equal_term u x ∷ []))) (true_same (not_term t) (not_term t) refl)

  pub falsity_cut : t ≡ false_term → LineHolds work first (t ∷ equal_term u x ∷ []) → LineHolds work second (not_term t ∷ []) → conclusion_at work.bank history work.log (Cut first second e) ≡ Some (equal_term u x ∷ [])
  unfolding conclusion_at
  falsity_cut is one two =
      let F : Term → Option Clause → Option Clause → Option Clause = λ t o q. given o (λ c. given q (λ d. Some (distinct (without t c ++ without (not_term t) d)))) in
      ap (λ o. F t o (clause_at work.bank work.log second)) one ∙ ap (λ q. F t (Some (t ∷ equal_term u x ∷ [])) q) two ∙
      ap (λ t. F t (Some (t ∷ equal_term u x ∷ [])) (Some (not_term t ∷ []))) is

-- ---- the test's value in its place

pub choice_after : (history : List Entry) (old new : Work) (u v x y : TermId) → WorkStands history old → GrowsUncounted history old new → IsUsableChoice old.bank history u v x y → IsUsableChoice new.bank history u v x y
choice_after history old new u v x y stands grown k =
    let a = same_after history old new stands grown u k.whole in
    let b = same_after history old new stands grown v k.test in
    let c = same_after history old new stands grown x k.first in
    let d = same_after history old new stands grown y k.second in
    record {
      whole = usable_after history old new stands grown u k.whole;
      test = usable_after history old new stands grown v k.test;
      first = usable_after history old new stands grown x k.first;
      second = usable_after history old new stands grown y k.second;
      is = rw (a, b, c, d) k.is;
    }

room_of : (bank : Content) (history : List Entry) (t a : TermId) → IsUsable bank history t → IsPart bank history t a → HasRoom bank history a
room_of bank history t a usable part = let few : depth_of (term_at bank t) ≤ term_depth = usable.shallow in let less : depth_of (term_at bank a) < depth_of (term_at bank t) = part.less in record { usable = part.usable; room = omega (arith, few, less) }

pub choice_reducing : (history : List Entry) (work : Work) (t : TermId) (f : Sym) (parts : Branches) (ids : List TermId) → IsNamed work.bank f → text_at work.bank f ≡ codes "IF" → IsUsable work.bank history t → is_small (term_at work.bank t) ≡ false → IsChoice work.bank t parts → ids ≡ parts.test ∷ parts.first ∷ parts.second ∷ [] →
    IsReducing history work t f ids (record { term = t; line = 0 })
choice_reducing history work t f parts ids named reads usable large head items =
    let rooms : All (HasRoom work.bank history) (parts.test ∷ parts.first ∷ parts.second ∷ []) =
    All-cons (HasRoom work.bank history) parts.test (parts.first ∷ parts.second ∷ []) (room_of work.bank history t parts.test usable (test_part work.bank history t parts usable large head))
    (All-cons (HasRoom work.bank history) parts.first (parts.second ∷ []) (room_of work.bank history t parts.first usable (first_part work.bank history t parts usable large head))
    (All-cons (HasRoom work.bank history) parts.second [] (room_of work.bank history t parts.second usable (second_part work.bank history t parts usable large head)) (All-none (HasRoom work.bank history)))) in
    subst (λ (xs : List TermId). IsReducing history work t f xs (record { term = t; line = 0 })) (sym items) (record {
      may = record { name = named; arity = rw reads (if_symbol (events_at work.bank history)); rooms = rooms };
      whole = usable;
      term = usable;
      is = rw reads head.is;
      line = λ differs. absurd (differs refl);
    })

pub reducing_choice : (history : List Entry) (work : Work) (t : TermId) (f : Sym) (v x y : TermId) (ids : List TermId) (r : Reduced) → text_at work.bank f ≡ codes "IF" → ids ≡ v ∷ x ∷ y ∷ [] → IsReducing history work t f ids r → IsUsableChoice work.bank history r.term v x y
reducing_choice history work t f v x y ids r reads items k =
    let here : IsReducing history work t f (v ∷ x ∷ y ∷ []) r = subst (λ (xs : List TermId). IsReducing history work t f xs r) items k in
    record {
      whole = here.term;
      test = (here.may.rooms 0 v (omega arith)).usable;
      first = (here.may.rooms 1 v (omega arith)).usable;
      second = (here.may.rooms 2 v (omega arith)).usable;
      is = here.is ∙ ap (λ n. call n (terms_at work.bank (v ∷ x ∷ y ∷ []))) reads;
    }

pub plain_choice : (bank : Content) (f : Sym) (ids : List TermId) (p x y : TermId) → ids ≡ p ∷ x ∷ y ∷ [] → number_of (call (text_at bank f) (terms_at bank ids)) ≡ None
plain_choice bank f ids p x y e = ap (λ (xs : List TermId). number_of (call (text_at bank f) (terms_at bank xs))) e ∙ number_of-call (text_at bank f) (term_at bank p ∷ term_at bank x ∷ term_at bank y ∷ [])

-- the side that F chooses, and that another value chooses
pub is_false : (v : Term) → true ≡ same_term v false_term → v ≡ false_term
is_false v e = same_true v false_term (sym e)

pub false_side : (parts : Branches) (v : Term) → true ≡ same_term v false_term → parts.second ≡ side_if (is_true v) parts
false_side parts v e = ap (λ b. side_if (not b) parts) e

pub true_side : (parts : Branches) (v : Term) → false ≡ same_term v false_term → parts.first ≡ side_if (is_true v) parts
true_side parts v e = ap (λ b. side_if (not b) parts) e

-- a side is what it is, whatever the test is
pub valued : (b : Bool) (parts : Branches) (v : TermId) → side_if b parts ≡ side_if b (record { test = v; first = parts.first; second = parts.second })
valued true parts v = refl
valued false parts v = refl

-- where an answer is Ok, both of what is known then
pub ok_given : {X E : Type 0} (r : Result X E) (P Q : X → Type 0) (A : Type 0) → OnOk r A → ((x : X) → A → P x → Q x) → IfOk r P → IfOk r Q
ok_given (Ok x) P Q A a f p = f x a p
ok_given (Err e) P Q A a f p = tt
