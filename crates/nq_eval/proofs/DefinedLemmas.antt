-- What a call of a defined function opens to.
use Rattle.std.proofs.Common.{◌≡◌, ◌≤◌, ◌<◌, ◌+◌, ℕ, suc, Bool, true, false, ◌&&◌, ◌||◌, ◌⊎◌, Option, Some, None, List, [], ◌∷◌, ◌++◌, map, length, take, get_or, refl, sym, ap, ap₂, ◌∙◌, subst, inl, inr, arith}
use Rattle.std.specs.Prelude.{codes, All, bytes_eq, if◌then◌else◌, ◌==◌, not}
use Rattle.std.proofs.lemmas.List.{length-map, length-take-le, take_more, map_push}
use Rattle.std.proofs.lemmas.Bool.Decides.{Decides-eqb}
use Rattle.nq_logic.specs.Terms.{Name, Term, Variable, Function, Substitution, Each, call, value_at, substituted}
use Rattle.nq_logic.specs.Words.{equal_term}
use Rattle.nq_logic.specs.Numerals.{number_of}
use Rattle.nq_logic.specs.Sizes.{depth_of, tree_depth, greatest_depth}
use Rattle.nq_logic.specs.Histories.{History, Event, AddShell, Declaration, Defines, Axiom, Lemma, Toggle, Definition, events_definitions, events_shells}
use Rattle.nq_logic.specs.Ground.{symbols_of, all_events, ground_definitions, ground_shells}
use Rattle.nq_logic.specs.Names.{event_name, event_in, looked_up, has_name, are_distinct}
use Rattle.nq_logic.specs.Admissible.{matched}
use Rattle.nq_bank.specs.declared.node.TermId.{TermId}
use Rattle.nq_bank.specs.declared.node.Sym.{Sym}
use Rattle.nq_bank.specs.Content.{Content, IsNamed, text_at, term_at, terms_at}
use Rattle.nq_bank.specs.Shells.{texts_at}
use Rattle.nq_bank.proofs.Numerals.{depth_of-number, depth_of-other}
use Rattle.nq_bank.proofs.NodesLemmas.{All-head, All-tail}
use Rattle.std.proofs.lemmas.Slice.Eq.{bytes_eq-Decides}
use Rattle.nq_clause.specs.declared.substitution.Pair.{Pair}
use Rattle.nq_clause.specs.Substitution.{substitution_at, PairStands}
use Rattle.nq_proof.specs.Clauses.{Clause, distinct}
use Rattle.nq_proof.specs.Rules.{given, is_substitution, pair_terms}
use Rattle.nq_proof.specs.Rules as rules_of
use Rattle.nq_proof.specs.Rows.{GroundRow, ground_rows, row_found, definition_found, opening, opening_at, first_found, shell_found}
use Rattle.nq_proof.proofs.Tests.{names_same}
use Rattle.nq_history.specs.declared.entry.Entry.{Entry}
use Rattle.nq_history.specs.Events.{events_at}
use Rattle.nq_kernel.specs.Over.{IsVariable, IsTermOf}
use Rattle.nq_fragments.specs.Outcomes.{is_small, value_depth}
use Rattle.nq_fragments.specs.Openings.{Opening as OpeningOfTexts, event_opening, opening_of, if_same}
use Rattle.nq_eval.specs.Rows.{row_at}
use Rattle.nq_kernel.specs.Ready.{IsUsableDefinition}
use Rattle.nq_eval.specs.Opened.{IsDefinedBy, IsOtherName, IsOpening}
use Rattle.nq_eval.specs.declared.openings.Opening.{Opening}
use Rattle.nq_eval.proofs.ClosingLemmas.{value_over, small_value}
use Rattle.nq_eval.proofs.TruthLemmas.{small_depth}
use Rattle.nq_eval.proofs.CalledLemmas.{other_call}
use Rattle.nq_eval.proofs.SubstitutionLemmas.{applied_instance}

-- ---- pairs of names and terms

names_matched : (xs : List Name) (ts : List Term) → length ts ≡ length xs → map (λ (pair : List ℕ × Term). pair.0) (matched xs ts) ≡ xs
names_matched [] [] e = refl
names_matched [] (t ∷ ts) e = refl
names_matched (x ∷ xs) [] e = absurd cc
names_matched (x ∷ xs) (t ∷ ts) e = ap (λ ys. x ∷ ys) (names_matched xs ts (let k : suc (length ts) ≡ suc (length xs) = e in omega (arith, k)))

pub each_matched : (P : Term → Type 0) (xs : List Name) (ts : List Term) → Each P ts → Each P (pair_terms (matched xs ts))
each_matched P [] ts all = tt
each_matched P (x ∷ xs) [] all = tt
each_matched P (x ∷ xs) (t ∷ ts) all = (all.0, each_matched P xs ts all.1)

same_tests : (xs : List Name) → rules_of.are_distinct xs ≡ are_distinct xs
same_tests [] = refl
same_tests (x ∷ xs) = ap (λ b. not (has_name x xs) && b) (same_tests xs)

first_true : (b c : Bool) → (b && c) ≡ true → b ≡ true
first_true true c e = refl
first_true false c e = absurd cc

second_true : (b c : Bool) → (b && c) ≡ true → c ≡ true
second_true true c e = e
second_true false c e = absurd cc

-- each formal gives its argument
not_there : (x : Name) (t : Term) (s : Substitution) (ys : List Name) → has_name x ys ≡ false → map (substituted ((x, t) ∷ s)) (map Variable ys) ≡ map (substituted s) (map Variable ys)
not_there x t s [] none = refl
not_there x t s (y ∷ ys) none = by_name (bytes_eq x y) refl (bytes_eq y x) refl none (not_there x t s ys)
  where
    by_name : (b : Bool) → bytes_eq x y ≡ b → (d : Bool) → bytes_eq y x ≡ d → (b || has_name x ys) ≡ false → (has_name x ys ≡ false → map (substituted ((x, t) ∷ s)) (map Variable ys) ≡ map (substituted s) (map Variable ys)) →
        (if d then t else value_at s y) ∷ map (substituted ((x, t) ∷ s)) (map Variable ys) ≡ value_at s y ∷ map (substituted s) (map Variable ys)
    by_name true e d k none rest = absurd cc
    by_name false e false k none rest = ap (λ us. value_at s y ∷ us) (rest none)
    by_name false e true k none rest = let same : x ≡ y = sym (names_same y x k) in let itself : bytes_eq x x ≡ false = ap (bytes_eq x) same ∙ e in let other : bytes_eq x x ≡ true = ap (λ z. bytes_eq z x) same ∙ k in let both : true ≡ false = sym other ∙ itself in absurd cc

bytes_itself : (x : Name) → bytes_eq x x ≡ true
bytes_itself x = (bytes_eq-Decides x x).1 refl

pub arguments_back : (xs : List Name) (ts : List Term) → are_distinct xs ≡ true → length ts ≡ length xs → map (substituted (matched xs ts)) (map Variable xs) ≡ ts
arguments_back [] [] once e = refl
arguments_back [] (t ∷ ts) once e = absurd cc
arguments_back (x ∷ xs) [] once e = absurd cc
arguments_back (x ∷ xs) (t ∷ ts) once e =
    let fewer : length ts ≡ length xs = (let k : suc (length ts) ≡ suc (length xs) = e in omega (arith, k)) in
    let none : has_name x xs ≡ false = not_true (has_name x xs) (first_true (not (has_name x xs)) (are_distinct xs) once) in
    ap (λ b. (if b then t else value_at (matched xs ts) x) ∷ map (substituted ((x, t) ∷ matched xs ts)) (map Variable xs)) (bytes_itself x) ∙
    ap (λ us. t ∷ us) (not_there x t (matched xs ts) xs none ∙ arguments_back xs ts (second_true (not (has_name x xs)) (are_distinct xs) once) fewer)
  where
    not_true : (b : Bool) → not b ≡ true → b ≡ false
    not_true true k = absurd cc
    not_true false k = refl

-- ---- the row of a definition

-- no row of another name, or of another number
no_row_among : (f : Name) (rows : List GroundRow) → Each (λ r. (bytes_eq f r.name ≡ false) ⊎ ((1 == r.row) ≡ false)) rows → row_found f 1 rows ≡ None
no_row_among f [] all = refl
no_row_among f (r ∷ rows) (inl e, all) = ap (λ b. elim (b && (1 == r.row)) as (λ b. Option (List Term)) [ true ↦ Some r.literals | false ↦ row_found f 1 rows ]) e ∙ no_row_among f rows all
no_row_among f (r ∷ rows) (inr e, all) = by_name (bytes_eq f r.name) ∙ no_row_among f rows all
  where
    by_name : (b : Bool) → (elim (b && (1 == r.row)) as (λ b. Option (List Term)) [ true ↦ Some r.literals | false ↦ row_found f 1 rows ]) ≡ row_found f 1 rows
    by_name true = ap (λ b. elim b as (λ b. Option (List Term)) [ true ↦ Some r.literals | false ↦ row_found f 1 rows ]) e
    by_name false = refl

module _ (f : Name) (d : Definition) where
  named_definition : (es : List Event) → event_in f es ≡ Some (Defines d) → f ≡ d.function
  named_definition [] e = absurd cc
  named_definition (x ∷ es) e = by_name (bytes_eq f (event_name x)) refl e (named_definition es)
    where
      by_name : (b : Bool) → bytes_eq f (event_name x) ≡ b → (if b then Some x else event_in f es) ≡ Some (Defines d) → (event_in f es ≡ Some (Defines d) → f ≡ d.function) → f ≡ d.function
      by_name true k e rest = let same : x ≡ Defines d = cc in names_same f (event_name x) k ∙ ap event_name same
      by_name false k e rest = rest e

  skipped : (b : Bool) (x : Event) (o : Option Event) (found : Option Definition) → (Some x ≡ Some (Defines d) → ⊥) → (if b then Some x else o) ≡ Some (Defines d) → (o ≡ Some (Defines d) → found ≡ Some d) → found ≡ Some d
  skipped true x o found other e rest = absurd (other e)
  skipped false x o found other e rest = rest e

  taken : (b : Bool) (g : Definition) (o : Option Event) (found : Option Definition) → (if b then Some (Defines g) else o) ≡ Some (Defines d) → (o ≡ Some (Defines d) → found ≡ Some d) → (elim b as (λ b. Option Definition) [ true ↦ Some g | false ↦ found ]) ≡ Some d
  taken true g o found e rest = let same : Some (Defines g) ≡ Some (Defines d) = e in let one : g ≡ d = cc in ap Some one
  taken false g o found e rest = rest e

  pub definition_in : (es : List Event) → event_in f es ≡ Some (Defines d) → definition_found f (events_definitions es) ≡ Some d
  definition_in [] e = absurd cc
  definition_in (Defines g ∷ es) e = taken (bytes_eq f g.function) g (event_in f es) (definition_found f (events_definitions es)) e (definition_in es)
  definition_in (AddShell s ∷ es) e = skipped (bytes_eq f s.constructor) (AddShell s) (event_in f es) (definition_found f (events_definitions es)) (λ k. cc) e (definition_in es)
  definition_in (Declaration g n ∷ es) e = skipped (bytes_eq f g) (Declaration g n) (event_in f es) (definition_found f (events_definitions es)) (λ k. cc) e (definition_in es)
  definition_in (Axiom n classes t ∷ es) e = skipped (bytes_eq f n) (Axiom n classes t) (event_in f es) (definition_found f (events_definitions es)) (λ k. cc) e (definition_in es)
  definition_in (Lemma n classes t ∷ es) e = skipped (bytes_eq f n) (Lemma n classes t) (event_in f es) (definition_found f (events_definitions es)) (λ k. cc) e (definition_in es)
  definition_in (Toggle n old disabled ∷ es) e = skipped (bytes_eq f n) (Toggle n old disabled) (event_in f es) (definition_found f (events_definitions es)) (λ k. cc) e (definition_in es)

  module _ (h : History) (event : looked_up f h ≡ Some (Defines d)) where
    declared_not : (g : Name) (n : ℕ) → Some (Declaration g n) ≡ Some (Defines d) → ⊥
    declared_not g n e = cc

    other_name : (g : Name) → (looked_up g h ≡ Some (Defines d) → ⊥) → bytes_eq f g ≡ false
    other_name g none = by_test (bytes_eq f g) refl
      where
        by_test : (b : Bool) → bytes_eq f g ≡ b → b ≡ false
        by_test true e = absurd (none (subst (λ x. looked_up x h ≡ Some (Defines d)) (names_same f g e) event))
        by_test false e = refl

    no_row : row_found f 1 ground_rows ≡ None
    no_row =
        let a : bytes_eq f (codes "TRUE") ≡ false = other_name (codes "TRUE") (declared_not (codes "TRUE") 0) in
        let b : bytes_eq f (codes "FALSE") ≡ false = other_name (codes "FALSE") (declared_not (codes "FALSE") 0) in
        let c : bytes_eq f (codes "EQUAL") ≡ false = other_name (codes "EQUAL") (declared_not (codes "EQUAL") 2) in
        let i : bytes_eq f (codes "IF") ≡ false = other_name (codes "IF") (declared_not (codes "IF") 3) in
        let e : bytes_eq f (codes "COUNT") ≡ false = other_name (codes "COUNT") (declared_not (codes "COUNT") 1) in
        no_row_among f ground_rows (inl a, (inl b, (inl b, (inl c, (inl i, (inl i, (inl e, (inr refl, tt))))))))

    pub definition_row : (other : Option Clause) → first_found (row_found f 1 ground_rows) (first_found (opening_at 1 (definition_found f (ground_definitions ++ events_definitions h))) other) ≡ Some (opening d)
    definition_row other =
        ap (λ o. first_found o (first_found (opening_at 1 (definition_found f (ground_definitions ++ events_definitions h))) other)) no_row ∙
        ap (λ o. first_found (opening_at 1 o) other) (definition_in (all_events h) event)

-- the row is in the tables of axioms
pub definition_row_at : (bank : Content) (history : List Entry) (f : Sym) (d : Definition) → looked_up (text_at bank f) (events_at bank history) ≡ Some (Defines d) → row_at bank history f 1 ≡ Some (equal_term (call d.function (map Variable d.formals)) d.body ∷ [])
definition_row_at bank history f d event = ap (λ o. given o (λ c. Some (distinct c))) (definition_row (text_at bank f) d (events_at bank history) event (shell_found (text_at bank f) 1 0 [] (ground_shells ++ events_shells (events_at bank history))))

-- ---- how deep a call of variables is

variables_shallow : (xs : List Name) → greatest_depth (map Variable xs) ≤ 1
unfolding number_of tree_depth
variables_shallow [] = omega arith
variables_shallow (x ∷ xs) = let rest = variables_shallow xs in omega (arith, rest)

call_shallow : (f : Name) (ts : List Term) → greatest_depth ts ≤ 1 → depth_of (call f ts) ≤ 3
call_shallow f ts few = by_number (number_of (call f ts)) refl
  where
    by_number : (o : Option ℕ) → number_of (call f ts) ≡ o → depth_of (call f ts) ≤ 3
    by_number None e = let whole = depth_of-other f ts e in omega (arith, whole, few)
    by_number (Some n) e = let whole = depth_of-number (call f ts) n e in omega (arith, whole)

-- ---- the opening

values_over : (bank : Content) (h : History) (ids : List TermId) → All (λ v. is_small (term_at bank v) ≡ true) ids → Each (IsTermOf IsVariable (symbols_of h)) (terms_at bank ids)
values_over bank h [] small = tt
values_over bank h (a ∷ ids) small = (value_over h (term_at bank a) (small_value (term_at bank a) (All-head (λ v. is_small (term_at bank v) ≡ true) a ids small)), values_over bank h ids (All-tail (λ v. is_small (term_at bank v) ≡ true) a ids small))

values_shallow : (bank : Content) (ids : List TermId) → All (λ v. is_small (term_at bank v) ≡ true) ids → Each (λ t. depth_of t ≤ value_depth) (terms_at bank ids)
values_shallow bank [] small = tt
values_shallow bank (a ∷ ids) small = (small_depth (term_at bank a) (All-head (λ v. is_small (term_at bank v) ≡ true) a ids small), values_shallow bank ids (All-tail (λ v. is_small (term_at bank v) ≡ true) a ids small))

same_count : (m n : ℕ) (o : OpeningOfTexts) → m ≡ n → if_same m n o ≡ Some o
same_count m n o e = ap (λ b. elim b as (λ b. Option OpeningOfTexts) [ true ↦ Some o | false ↦ None ]) ((Decides-eqb m n).1 e)

other_count : (m n : ℕ) (o : OpeningOfTexts) → (m ≡ n → ⊥) → if_same m n o ≡ None
other_count m n o differs = by_test (m == n) refl
  where
    by_test : (b : Bool) → (m == n) ≡ b → (elim b as (λ b. Option OpeningOfTexts) [ true ↦ Some o | false ↦ None ]) ≡ None
    by_test true e = absurd (differs ((Decides-eqb m n).0 e))
    by_test false e = refl

module _ (bank : Content) (history : List Entry) (u : TermId) (f : Sym) (formals : List Sym) (values : List TermId) (other : IsOtherName bank f) (is : term_at bank u ≡ call (text_at bank f) (terms_at bank values)) (by : IsDefinedBy bank (events_at bank history) f formals) where
  abbrev h : History
  h = events_at bank history

  abbrev vs : List Term
  vs = terms_at bank values

  abbrev d : Definition
  d = by.definition

  abbrev text : OpeningOfTexts
  text = record { name = d.function; row = 1; pairs = matched d.formals vs; body = d.body }

  opened_as : opening_of h (term_at bank u) ≡ if_same (length vs) (length d.formals) text
  opened_as = ap (opening_of h) is ∙ other_call h (text_at bank f) vs other ∙ ap (event_opening vs) by.event

  pub unopened_count : (length formals ≡ length values → ⊥) → opening_of h (term_at bank u) ≡ None
  unopened_count differs = opened_as ∙ other_count (length vs) (length d.formals) text (λ e. differs (let one = length-map formals (text_at bank) in let two = length-map values (term_at bank) in let three = ap length by.reads in omega (arith, e, one, two, three)))

  pub defined_opens : (o : Opening) → length formals ≡ length values → o.name ≡ f → o.row ≡ 1 → IsNamed bank f → IsUsableDefinition h d → All (λ v. is_small (term_at bank v) ≡ true) values →
      All (PairStands bank) o.pairs.items → substitution_at bank o.pairs.items ≡ matched (texts_at bank formals) vs → IsOpening bank history u o
  defined_opens o same name row named usable small stand reads =
      let one = length-map formals (text_at bank) in
      let two = length-map values (term_at bank) in
      let three = ap length by.reads in
      let counts : length vs ≡ length d.formals = omega (arith, same, one, two, three) in
      let pairs : substitution_at bank o.pairs.items ≡ matched d.formals vs = reads ∙ ap (λ xs. matched xs vs) by.reads in
      let names : map (λ (pair : List ℕ × Term). pair.0) (substitution_at bank o.pairs.items) ≡ d.formals = ap (map (λ (pair : List ℕ × Term). pair.0)) pairs ∙ names_matched d.formals vs counts in
      record {
        opening = text;
        is = opened_as ∙ same_count (length vs) (length d.formals) text counts;
        name = subst (IsNamed bank) (sym name) named;
        pairs = record {
          stand = stand;
          distinct = ap rules_of.are_distinct names ∙ same_tests d.formals ∙ usable.distinct;
          terms = subst (λ s. Each (IsTermOf IsVariable (symbols_of h)) (pair_terms s)) (sym pairs) (each_matched (IsTermOf IsVariable (symbols_of h)) d.formals vs (values_over bank h values small));
          names = subst (Each IsVariable) (sym names) usable.spelled;
        };
        reads = pairs;
        left = call d.function (map Variable d.formals);
        row = ap₂ (λ n k. row_at bank history n k) name row ∙ definition_row_at bank history f d by.event;
        left_is = applied_instance (matched d.formals vs) (Function d.function) (map Variable d.formals) ∙
            ap (call d.function) (arguments_back d.formals vs usable.distinct counts) ∙
            ap (λ g. call g vs) (sym (named_definition (text_at bank f) d (all_events h) by.event)) ∙ sym is;
        left_shallow = call_shallow d.function (map Variable d.formals) (variables_shallow d.formals);
        body_over = usable.over;
        body_shallow = usable.shallow;
        small = each_matched (λ t. depth_of t ≤ value_depth) d.formals vs (values_shallow bank values small);
      }

-- no definition
pub undefined_unopened : (bank : Content) (history : List Entry) (u : TermId) (f : Sym) (values : List TermId) → IsOtherName bank f → term_at bank u ≡ call (text_at bank f) (terms_at bank values) →
    ((vs : List Term) → event_opening vs (looked_up (text_at bank f) (events_at bank history)) ≡ None) → opening_of (events_at bank history) (term_at bank u) ≡ None
undefined_unopened bank history u f values other is none = ap (opening_of (events_at bank history)) is ∙ other_call (events_at bank history) (text_at bank f) (terms_at bank values) other ∙ none (terms_at bank values)

-- ---- the pairs of formals and values

matched_more : (xs : List Name) (ts : List Term) (x : Name) (t : Term) → length xs ≡ length ts → matched (xs ++ x ∷ []) (ts ++ t ∷ []) ≡ matched xs ts ++ (x, t) ∷ []
matched_more [] [] x t e = refl
matched_more [] (u ∷ ts) x t e = absurd cc
matched_more (y ∷ xs) [] x t e = absurd cc
matched_more (y ∷ xs) (u ∷ ts) x t e = ap (λ s. (y, u) ∷ s) (matched_more xs ts x t (let k : suc (length xs) ≡ suc (length ts) = e in omega (arith, k)))

module _ (bank : Content) (formals : List Sym) (values : List TermId) (i : ℕ) (x : Sym) (t : TermId) (same : length formals ≡ length values) (below : i < length formals) where
  texts_more : texts_at bank (take (i + 1) formals) ≡ texts_at bank (take i formals) ++ text_at bank (get_or formals i x) ∷ []
  texts_more = ap (texts_at bank) (take_more formals i x below) ∙ map_push (text_at bank) (take i formals) (get_or formals i x)

  terms_more : terms_at bank (take (i + 1) values) ≡ terms_at bank (take i values) ++ term_at bank (get_or values i t) ∷ []
  terms_more = ap (terms_at bank) (take_more values i t (omega (arith, same, below))) ∙ map_push (term_at bank) (take i values) (get_or values i t)

  pub pairs_more : (ps qs : List Pair) → qs ≡ ps ++ record { variable = get_or formals i x; term = get_or values i t } ∷ [] → substitution_at bank ps ≡ matched (texts_at bank (take i formals)) (terms_at bank (take i values)) →
      substitution_at bank qs ≡ matched (texts_at bank (take (i + 1) formals)) (terms_at bank (take (i + 1) values))
  pairs_more ps qs items e =
      let one = length-take-le i formals (omega (arith, below)) in
      let two = length-take-le i values (omega (arith, same, below)) in
      let three = length-map (take i formals) (text_at bank) in
      let four = length-map (take i values) (term_at bank) in
      ap (substitution_at bank) items ∙
      map_push (λ (p : Pair). (text_at bank p.variable, term_at bank p.term)) ps (record { variable = get_or formals i x; term = get_or values i t }) ∙
      ap (λ s. s ++ (text_at bank (get_or formals i x), term_at bank (get_or values i t)) ∷ []) e ∙
      sym (ap₂ matched texts_more terms_more ∙ matched_more (texts_at bank (take i formals)) (terms_at bank (take i values)) (text_at bank (get_or formals i x)) (term_at bank (get_or values i t)) (omega (arith, one, two, three, four, same, below)))
