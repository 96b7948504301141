-- What COUNT of a value opens to.
use Rattle.std.proofs.Common.{◌≡◌, ◌≤◌, ◌<◌, ◌+◌, ℕ, max, true, false, ◌||◌, Option, Some, None, List, [], ◌∷◌, refl, sym, ap, ◌∙◌, subst, lit≤, arith}
use Rattle.std.specs.Prelude.{codes, All, bytes_eq, is_some, length, get_or}
use Rattle.nq_logic.specs.Terms.{Name, Term, Substitution, Each, call}
use Rattle.nq_logic.specs.Words.{call1, call2, true_term, false_term, equal_term, add1_term, numeral}
use Rattle.nq_logic.specs.Numerals.{number_of, numeral_limit}
use Rattle.nq_logic.proofs.Numbers.{numerals_have_numbers_law}
use Rattle.nq_logic.specs.Values.{is_tree_value}
use Rattle.nq_logic.specs.Sizes.{depth_of, tree_depth}
use Rattle.nq_logic.specs.Histories.{History, Shell, Definition, events_definitions}
use Rattle.nq_logic.specs.Ground.{symbols_of, pairs, atoms, negatives}
use Rattle.nq_logic.specs.Shells.{made, part_sizes, sum_of}
use Rattle.nq_logic.proofs.Symbols.{ground_terms}
use Rattle.nq_bank.specs.declared.node.TermId.{TermId}
use Rattle.nq_bank.specs.declared.node.Sym.{Sym}
use Rattle.nq_bank.specs.Content.{Content, IsNamed, NamesText, Stands, text_at, term_at, terms_at}
use Rattle.nq_bank.proofs.Growth.{Stands-grown, term_at-grown}
use Rattle.nq_bank.proofs.Numerals.{depth_of-other, number_of-call}
use Rattle.nq_history.proofs.Lists.{All-cons, All-none}
use Rattle.nq_clause.specs.declared.substitution.Pair.{Pair}
use Rattle.nq_clause.specs.Substitution.{substitution_at, PairStands}
use Rattle.nq_proof.specs.Clauses.{Clause, distinct}
use Rattle.nq_proof.proofs.Tests.{names_same}
use Rattle.nq_proof.specs.Rules.{given, is_substitution, pair_terms}
use Rattle.nq_proof.specs.Rows.{axiom_clause, opening_at, definition_found, first_found}
use Rattle.nq_proof.specs.Values.{value_of, only_if}
use Rattle.nq_value.specs.Objects.{DenotesValue}
use Rattle.nq_history.specs.declared.entry.Entry.{Entry}
use Rattle.nq_history.specs.Events.{events_at}
use Rattle.nq_kernel.specs.declared.work.Work.{Work}
use Rattle.nq_kernel.specs.Over.{IsVariable, IsTermOf, pair_names}
use Rattle.nq_kernel.specs.Growing.{WorkStands}
use Rattle.nq_fragments.specs.Outcomes.{is_small}
use Rattle.nq_fragments.specs.Openings.{Opening as OpeningOfTexts, opening_of, count_opening}
use Rattle.nq_eval.specs.Lines.{GrowsUncounted, IsUsable}
use Rattle.nq_eval.specs.Rows.{row_at, ArePairsIn}
use Rattle.nq_eval.specs.Opened.{IsOpening}
use Rattle.nq_eval.specs.Measured.{for_part, for_parts, IsPartOfSmall, IsMadeOf, IsMadeOfTwo, IsCount, IsCountCall}
use Rattle.nq_eval.specs.declared.openings.Opening.{Opening}
use Rattle.nq_eval.proofs.ClosingLemmas.{value_over, usable_after, same_after}
use Rattle.nq_eval.proofs.TruthLemmas.{small_depth}
use Rattle.nq_eval.proofs.CalledLemmas.{count_call}
use Rattle.std.proofs.lemmas.List.{length-map}

-- ---- the pairs

first_variable : IsVariable (codes "X1")
first_variable = record { symbol = refl; other = refl }

second_variable : IsVariable (codes "X2")
second_variable = record { symbol = refl; other = refl }

module _ (bank : Content) (history : List Entry) (x : Sym) (a : TermId) (ps : List Pair) (named : NamesText bank x (codes "X1")) (items : ps ≡ record { variable = x; term = a } ∷ []) where
  pub part_read : substitution_at bank ps ≡ for_part (term_at bank a)
  part_read = ap (substitution_at bank) items ∙ ap (λ t. (t, term_at bank a) ∷ []) named.reads

  pub part_in : IsUsable bank history a → ArePairsIn bank history ps
  part_in usable =
      record {
        stand = subst (λ (qs : List Pair). All (PairStands bank) qs) (sym items) (All-cons (PairStands bank) (record { variable = x; term = a }) [] (record { variable = named.named; term = usable.stands }) (All-none (PairStands bank)));
        distinct = ap is_substitution part_read;
        terms = subst (λ s. Each (IsTermOf IsVariable (symbols_of (events_at bank history))) (pair_terms s)) (sym part_read) (usable.over, tt);
        names = subst (λ s. Each IsVariable (pair_names s)) (sym part_read) (first_variable, tt);
      }

module _ (bank : Content) (history : List Entry) (x y : Sym) (a b : TermId) (ps : List Pair) (one : NamesText bank x (codes "X1")) (two : NamesText bank y (codes "X2")) (items : ps ≡ record { variable = x; term = a } ∷ record { variable = y; term = b } ∷ []) where
  pub parts_read : substitution_at bank ps ≡ for_parts (term_at bank a) (term_at bank b)
  parts_read =
      ap (substitution_at bank) items ∙
      ap (λ t. (t, term_at bank a) ∷ (text_at bank y, term_at bank b) ∷ []) one.reads ∙
      ap (λ t. (codes "X1", term_at bank a) ∷ (t, term_at bank b) ∷ []) two.reads

  pub parts_in : IsUsable bank history a → IsUsable bank history b → ArePairsIn bank history ps
  parts_in p q =
      record {
        stand = subst (λ (qs : List Pair). All (PairStands bank) qs) (sym items)
            (All-cons (PairStands bank) (record { variable = x; term = a }) (record { variable = y; term = b } ∷ []) (record { variable = one.named; term = p.stands })
            (All-cons (PairStands bank) (record { variable = y; term = b }) [] (record { variable = two.named; term = q.stands }) (All-none (PairStands bank))));
        distinct = ap is_substitution parts_read;
        terms = subst (λ s. Each (IsTermOf IsVariable (symbols_of (events_at bank history))) (pair_terms s)) (sym parts_read) (p.over, (q.over, tt));
        names = subst (λ s. Each IsVariable (pair_names s)) (sym parts_read) (first_variable, (second_variable, tt));
      }

-- ---- the rows

abbrev pub size_body : Shell → Term
size_body s = add1_term (sum_of (part_sizes 0 s.parts))

abbrev pub size_left : Shell → Term
size_left s = call1 "COUNT" (made s)

no_opening : (o : Option Definition) (other : Option Clause) → first_found (opening_at 14 o) other ≡ other
no_opening None other = refl
no_opening (Some d) other = refl

module _ (bank : Content) (history : List Entry) (name : Sym) where
  abbrev at : List ℕ → Option Clause
  at x = given (axiom_clause (events_at bank history) x 14 0) (λ c. Some (distinct c))

  pub pair_row : text_at bank name ≡ codes "CONS" → row_at bank history name 14 ≡ Some (equal_term (size_left pairs) (size_body pairs) ∷ [])
  pair_row e = ap at e ∙ ap (λ o. given o (λ c. Some (distinct c))) (no_opening (definition_found (codes "CONS") (events_definitions (events_at bank history))) (Some (equal_term (size_left pairs) (size_body pairs) ∷ [])))

  pub atom_row : text_at bank name ≡ codes "PACK" → row_at bank history name 14 ≡ Some (equal_term (size_left atoms) (size_body atoms) ∷ [])
  atom_row e = ap at e ∙ ap (λ o. given o (λ c. Some (distinct c))) (no_opening (definition_found (codes "PACK") (events_definitions (events_at bank history))) (Some (equal_term (size_left atoms) (size_body atoms) ∷ [])))

  pub negative_row : text_at bank name ≡ codes "MINUS" → row_at bank history name 14 ≡ Some (equal_term (size_left negatives) (size_body negatives) ∷ [])
  negative_row e = ap at e ∙ ap (λ o. given o (λ c. Some (distinct c))) (no_opening (definition_found (codes "MINUS") (events_definitions (events_at bank history))) (Some (equal_term (size_left negatives) (size_body negatives) ∷ [])))

-- ---- the openings

abbrev pub size_text : List ℕ → Substitution → Shell → OpeningOfTexts
size_text name s shell = record { name = name; row = 14; pairs = s; body = size_body shell }

pair_over : (h : History) → IsTermOf IsVariable (symbols_of h) (size_body pairs)
pair_over h = record { over = search ground_terms; variables = (tt, ((tt, (((tt, tt), (tt, first_variable)), tt)), (((tt, tt), (tt, second_variable)), tt))) }

atom_over : (h : History) → IsTermOf IsVariable (symbols_of h) (size_body atoms)
atom_over h = record { over = search ground_terms; variables = (tt, (((tt, tt), (tt, first_variable)), tt)) }

negative_over : (h : History) → IsTermOf IsVariable (symbols_of h) (size_body negatives)
negative_over h = record { over = search ground_terms; variables = (tt, (((tt, (tt, first_variable)), (tt, first_variable)), tt)) }

pair_shallow : (depth_of (size_left pairs) ≤ 3) × (depth_of (size_body pairs) ≤ 2000)
unfolding number_of tree_depth
pair_shallow = (lit≤ tt, lit≤ tt)

atom_shallow : (depth_of (size_left atoms) ≤ 3) × (depth_of (size_body atoms) ≤ 2000)
unfolding number_of tree_depth
atom_shallow = (lit≤ tt, lit≤ tt)

negative_shallow : (depth_of (size_left negatives) ≤ 3) × (depth_of (size_body negatives) ≤ 2000)
unfolding number_of tree_depth
negative_shallow = (lit≤ tt, lit≤ tt)

module _ (bank : Content) (history : List Entry) (u a : TermId) (o : Opening) (named : IsNamed bank o.name) (row : o.row ≡ 14) (are : ArePairsIn bank history o.pairs.items) where
  pub pair_opens : (b : TermId) → IsMadeOfTwo bank history u a b → text_at bank o.name ≡ codes "CONS" → substitution_at bank o.pairs.items ≡ for_parts (term_at bank a) (term_at bank b) → IsOpening bank history u o
  pair_opens b made reads is =
      record {
        opening = size_text (codes "CONS") (for_parts (term_at bank a) (term_at bank b)) pairs;
        is = ap (opening_of (events_at bank history)) made.is;
        name = named;
        pairs = are;
        reads = is;
        left = size_left pairs;
        row = ap (row_at bank history o.name) row ∙ pair_row bank history o.name reads;
        left_is = sym made.is;
        left_shallow = pair_shallow.0;
        body_over = pair_over (events_at bank history);
        body_shallow = pair_shallow.1;
        small = (made.first.shallow, (made.second.shallow, tt));
      }

  pub atom_opens : IsMadeOf bank history (codes "PACK") u a → text_at bank o.name ≡ codes "PACK" → substitution_at bank o.pairs.items ≡ for_part (term_at bank a) → IsOpening bank history u o
  atom_opens made reads is =
      record {
        opening = size_text (codes "PACK") (for_part (term_at bank a)) atoms;
        is = ap (opening_of (events_at bank history)) made.is;
        name = named;
        pairs = are;
        reads = is;
        left = size_left atoms;
        row = ap (row_at bank history o.name) row ∙ atom_row bank history o.name reads;
        left_is = sym made.is;
        left_shallow = atom_shallow.0;
        body_over = atom_over (events_at bank history);
        body_shallow = atom_shallow.1;
        small = (made.part.shallow, tt);
      }

  pub negative_opens : IsMadeOf bank history (codes "MINUS") u a → text_at bank o.name ≡ codes "MINUS" → substitution_at bank o.pairs.items ≡ for_part (term_at bank a) → IsOpening bank history u o
  negative_opens made reads is =
      record {
        opening = size_text (codes "MINUS") (for_part (term_at bank a)) negatives;
        is = ap (opening_of (events_at bank history)) made.is;
        name = named;
        pairs = are;
        reads = is;
        left = size_left negatives;
        row = ap (row_at bank history o.name) row ∙ negative_row bank history o.name reads;
        left_is = sym made.is;
        left_shallow = negative_shallow.0;
        body_over = negative_over (events_at bank history);
        body_shallow = negative_shallow.1;
        small = (made.part.shallow, tt);
      }

-- ---- as the work grows

module _ (history : List Entry) (old new : Work) (stands : WorkStands history old) (grown : GrowsUncounted history old new) where
  part_after : (a : TermId) → IsPartOfSmall old.bank history a → IsPartOfSmall new.bank history a
  part_after a k = record { usable = usable_after history old new stands grown a k.usable; shallow = subst (λ t. depth_of t ≤ 1900) (sym (same_after history old new stands grown a k.usable)) k.shallow }

  pub made_after : (c : Name) (u a : TermId) → IsMadeOf old.bank history c u a → IsMadeOf new.bank history c u a
  made_after c u a k =
      let one = term_at-grown old.bank new.bank u grown.grows.bank k.stands in
      let two = same_after history old new stands grown a k.part.usable in
      record { stands = Stands-grown old.bank new.bank u grown.grows.bank k.stands; is = rw (one, two) k.is; part = part_after a k.part }

  pub made_two_after : (u a b : TermId) → IsMadeOfTwo old.bank history u a b → IsMadeOfTwo new.bank history u a b
  made_two_after u a b k =
      let one = term_at-grown old.bank new.bank u grown.grows.bank k.stands in
      let two = same_after history old new stands grown a k.first.usable in
      let three = same_after history old new stands grown b k.second.usable in
      record { stands = Stands-grown old.bank new.bank u grown.grows.bank k.stands; is = rw (one, two, three) k.is; first = part_after a k.first; second = part_after b k.second }

-- ---- COUNT of a value, by its kind

value_usable : (bank : Content) (history : List Entry) (a : TermId) → DenotesValue bank a → depth_of (term_at bank a) ≤ 1900 → IsPartOfSmall bank history a
value_usable bank history a k few = record { usable = record { stands = k.stands; over = value_over (events_at bank history) (term_at bank a) k.value; shallow = omega (arith, few) }; shallow = few }

pack_depth : (t : Term) → depth_of (call1 "PACK" t) ≡ max (depth_of t) 0 + 1
unfolding number_of
pack_depth t = depth_of-other (codes "PACK") (t ∷ []) refl

minus_depth : (t : Term) → depth_of (call1 "MINUS" t) ≡ max (depth_of t) 0 + 1
unfolding number_of
minus_depth t = depth_of-other (codes "MINUS") (t ∷ []) refl

pair_depth : (t u : Term) → depth_of (call2 "CONS" t u) ≡ max (depth_of t) (max (depth_of u) 0) + 1
pair_depth t u = depth_of-other (codes "CONS") (t ∷ u ∷ []) (number_of-call (codes "CONS") (t ∷ u ∷ []))

module _ (bank : Content) (history : List Entry) (u v : TermId) (count : IsCount bank history u v) where
  few : depth_of (term_at bank v) ≤ 1900
  few = small_depth (term_at bank v) count.small

  counted : (t : Term) → term_at bank v ≡ t → term_at bank u ≡ call1 "COUNT" t
  counted t e = count.is ∙ ap (call1 "COUNT") e

  pub truth_unopened : term_at bank v ≡ true_term → opening_of (events_at bank history) (term_at bank u) ≡ None
  truth_unopened e = ap (opening_of (events_at bank history)) (counted true_term e)

  pub falsity_unopened : term_at bank v ≡ false_term → opening_of (events_at bank history) (term_at bank u) ≡ None
  falsity_unopened e = ap (opening_of (events_at bank history)) (counted false_term e)

  pub atom_made : (a : TermId) → DenotesValue bank a → term_at bank v ≡ call1 "PACK" (term_at bank a) → IsMadeOf bank history (codes "PACK") u a
  atom_made a k e =
      let whole = few in
      let here : depth_of (term_at bank v) ≡ depth_of (call1 "PACK" (term_at bank a)) = ap depth_of e in
      let deep = pack_depth (term_at bank a) in
      record { stands = count.usable.stands; is = counted (call1 "PACK" (term_at bank a)) e; part = value_usable bank history a k (omega (arith, whole, here, deep)) }

  pub negative_made : (a : TermId) → DenotesValue bank a → term_at bank v ≡ call1 "MINUS" (term_at bank a) → IsMadeOf bank history (codes "MINUS") u a
  negative_made a k e =
      let whole = few in
      let here : depth_of (term_at bank v) ≡ depth_of (call1 "MINUS" (term_at bank a)) = ap depth_of e in
      let deep = minus_depth (term_at bank a) in
      record { stands = count.usable.stands; is = counted (call1 "MINUS" (term_at bank a)) e; part = value_usable bank history a k (omega (arith, whole, here, deep)) }

  pub pair_made : (a b : TermId) → DenotesValue bank a → DenotesValue bank b → term_at bank v ≡ call2 "CONS" (term_at bank a) (term_at bank b) → IsMadeOfTwo bank history u a b
  pair_made a b k l e =
      let whole = few in
      let here : depth_of (term_at bank v) ≡ depth_of (call2 "CONS" (term_at bank a) (term_at bank b)) = ap depth_of e in
      let deep = pair_depth (term_at bank a) (term_at bank b) in
      record {
        stands = count.usable.stands;
        is = counted (call2 "CONS" (term_at bank a) (term_at bank b)) e;
        first = value_usable bank history a k (omega (arith, whole, here, deep));
        second = value_usable bank history b l (omega (arith, whole, here, deep));
      }

  some_none : (t : Term) → Some t ≡ None → ⊥
  some_none t e = cc

  number_row : (t : Term) (n : ℕ) → number_of t ≡ Some n → value_of (call1 "COUNT" t) ≡ Some t
  unfolding number_of is_tree_value
  number_row t n e = ap (λ m. elim (is_some m || is_tree_value t) as (λ b. Option Term) [ false ↦ None | true ↦ only_if (is_some m) t ]) e

  pub no_count_of_number : (n : ℕ) → n < numeral_limit → term_at bank v ≡ numeral n → ⊥
  no_count_of_number n below e = some_none (numeral n) (sym (number_row (numeral n) n (numerals_have_numbers_law n below)) ∙ sym (ap value_of (counted (numeral n) e)) ∙ count.row)

-- COUNT of none, or of more than one
pub count_of_none : (bank : Content) (history : List Entry) (u : TermId) (ids : List TermId) → IsCountCall bank history u ids → ids ≡ [] → opening_of (events_at bank history) (term_at bank u) ≡ None
count_of_none bank history u ids k e = ap (opening_of (events_at bank history)) (k.is ∙ ap (λ (xs : List TermId). call (codes "COUNT") (terms_at bank xs)) e)

count_more : (ids : List Term) → 2 ≤ length ids → count_opening ids ≡ None
count_more [] h = absurd (omega arith)
count_more (a ∷ []) h = absurd (omega arith)
count_more (a ∷ b ∷ ids) h = refl

pub count_of_more : (bank : Content) (history : List Entry) (u : TermId) (ids : List TermId) → IsCountCall bank history u ids → 2 ≤ length ids → opening_of (events_at bank history) (term_at bank u) ≡ None
count_of_more bank history u ids k more =
    ap (opening_of (events_at bank history)) k.is ∙ count_call (events_at bank history) (terms_at bank ids) ∙
    count_more (terms_at bank ids) (let same = length-map ids (term_at bank) in omega (arith, same, more))

-- COUNT of one
pub count_of_one : (bank : Content) (history : List Entry) (u : TermId) (ids : List TermId) → IsCountCall bank history u ids → 1 ≤ length ids → length ids < 2 → IsCount bank history u (get_or ids 0 (record { 0 = 0 }))
count_of_one bank history u [] k least below = absurd (omega arith)
count_of_one bank history u (v ∷ []) k least below =
    record { usable = k.usable; is = k.is; value = k.stand 0 v (omega arith); small = k.small 0 v (omega arith); row = k.row }
count_of_one bank history u (v ∷ w ∷ ids) k least below = absurd (omega arith)

-- a call of COUNT on values
pub count_called : (bank : Content) (history : List Entry) (u : TermId) (f : Sym) (ids : List TermId) → IsUsable bank history u → true ≡ bytes_eq (text_at bank f) (codes "COUNT") → term_at bank u ≡ call (text_at bank f) (terms_at bank ids) → All (Stands bank) ids → All (λ v. is_small (term_at bank v) ≡ true) ids → value_of (term_at bank u) ≡ None → IsCountCall bank history u ids
count_called bank history u f ids usable named is stand small row =
    record { usable = usable; is = is ∙ ap (λ g. call g (terms_at bank ids)) (names_same (text_at bank f) (codes "COUNT") (sym named)); stand = stand; small = small; row = row }
