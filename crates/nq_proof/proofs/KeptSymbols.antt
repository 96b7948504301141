-- The clause of each rule is over the history's symbols.
use Rattle.std.proofs.Common.{◌≡◌, Bool, true, false, ℕ, zero, suc, List, [], ◌∷◌, ◌++◌, ◌⊎◌, ◌&&◌, map, length, if◌then◌else◌, inl, inr, refl, subst, ap}
use Rattle.std.specs.Prelude.{Option, Some, bytes_eq}
use Rattle.nq_logic.specs.Terms.{Name, Term, Variable, Function, Applied, applied, call, Symbol, Takes, IsTerm, IsAmong, Each, Substitution, substituted}
use Rattle.nq_logic.specs.Words.{equal_term, not_term, if_term, numeral, call1}
use Rattle.nq_logic.specs.Formulas.{clause}
use Rattle.nq_logic.specs.Histories.{History, AddShell, Declaration, Defines, Axiom, Lemma, Toggle, Definition, Shell, definition_symbol, shell_symbols, events_symbols, events_shells, events_definitions}
use Rattle.nq_logic.specs.Ground.{symbols_of, ground_symbols, ground_definitions, ground_shells}
use Rattle.nq_logic.specs.Laws.{IsClause, IsReplaced, here, same, parts}
use Rattle.nq_logic.proofs.Lists.{among_left, among_right, among_at, each_at, each_append, each_among}
use Rattle.nq_logic.proofs.Symbols.{ground_terms, equal_symbol, if_symbol, not_symbol}
use Rattle.nq_logic.proofs.Basic.{well_formed}
use Rattle.nq_logic.proofs.Clauses.{literals_over}
use Rattle.nq_logic.proofs.Additions.{takes_grows}
use Rattle.nq_proof.specs.Clauses.{Clause, same_term, without, distinct, has_opposite, literal_at, spliced, in_place}
use Rattle.nq_proof.specs.Paths.{replaced_at, if_parts, under_two_nots}
use Rattle.nq_proof.specs.Values.{value_of}
use Rattle.nq_proof.specs.Rows.{ground_rows, row_found, definition_found, opening, opening_at, shell_found, without_part, first_found, axiom_clause}
use Rattle.nq_proof.specs.Rules.{Side, Forwards, Backwards, Rule, Taut, AxiomRow, EventTerm, Weaken, Cut, Instance, Reflexive, Replace, Join, SplitFirst, SplitSecond, NotNot, Value, Linear, Induct, term_if, event_term, is_substitution, when, given, used_equation, has_only, case_tests, are_steps, is_refuted, conclusion, pair_terms, rule_terms}
use Rattle.nq_proof.specs.Logs.{are_terms}
use Rattle.nq_proof.specs.Laws.{LinesHold, KeptSymbols}
use Rattle.nq_proof.proofs.Tests.{none_is_not_some, some_same, given_some, when_some}
use Rattle.nq_proof.proofs.Places.{replaced_is, if_parts_are, two_nots_are}
use Rattle.nq_proof.proofs.TermTests.{each_left, substituted_over, are_terms_is}
use Rattle.nq_proof.proofs.AxiomRows.{row_found_is, definition_found_is, opening_is, part_is, first_or, shell_found_is}
use Rattle.nq_proof.specs.Closed.{EventOver, IsClosed}
use Rattle.nq_proof.proofs.ShellSymbols.{ShellOver, shell_clause_over, shells_over}
use Rattle.nq_proof.proofs.ValueSymbols.{value_over}

module _ (P : Term → Type 0) where
  each_without : (t : Term) (c : Clause) → Each P c → Each P (without t c)
  each_without t [] all = tt
  each_without t (u ∷ c) all = by_test (same_term t u) (each_without t c all.1)
    where
      by_test : (b : Bool) → Each P (without t c) → Each P (if b then without t c else u ∷ without t c)
      by_test true rest = rest
      by_test false rest = (all.0, rest)

  each_distinct : (ts : List Term) → Each P ts → Each P (distinct ts)
  each_distinct [] all = tt
  each_distinct (t ∷ ts) all = (all.0, each_without t (distinct ts) (each_distinct ts all.1))

  each_spliced : (k : ℕ) (these : List Term) (c : Clause) → Each P these → Each P c → Each P (spliced k these c)
  each_spliced k these [] new all = tt
  each_spliced zero these (t ∷ c) new all = each_append P these c new all.1
  each_spliced (suc k) these (t ∷ c) new all = (all.0, each_spliced k these c new all.1)

  each_placed : (k : ℕ) (these : List Term) (c : Clause) → Each P these → Each P c → Each P (in_place k these c)
  each_placed zero these c new all = all
  each_placed (suc k) these c new all = each_spliced k these c new all

  literal_is : (k : ℕ) (a : Term) (c : Clause) → literal_at k c ≡ Some a → Each P c → P a
  literal_is zero a c e all = absurd (none_is_not_some a e)
  literal_is (suc k) a c e all = each_at P a c all (among_at a c k e)

replaced_over : (symbols : List Symbol) (u t : Term) {n : ℕ} {a b : Term} → IsTerm symbols t → IsReplaced u t n a b → Takes symbols a n → Takes symbols b n
replaced_over symbols u t ot here o = ot
replaced_over symbols u t ot (same n a) o = o
replaced_over symbols u t ot (parts first second) o = (replaced_over symbols u t ot first o.0, replaced_over symbols u t ot second o.1)

-- the ground definitions, opened
abbrev openings : List Definition → List Term
openings [] = []
openings (d ∷ ds) = equal_term (call d.function (map Variable d.formals)) d.body ∷ openings ds

ground_openings : are_terms ground_symbols (openings ground_definitions) ≡ true
unfolding numeral
ground_openings = refl

opened_each : (symbols : List Symbol) (ds : List Definition) → Each (IsTerm symbols) (openings ds) → Each (λ d. Each (IsTerm symbols) (opening d)) ds
opened_each symbols [] all = tt
opened_each symbols (d ∷ ds) all = ((all.0, tt), opened_each symbols ds all.1)

module _ (h : History) where
  over_formals : (t : Term) (xs : List Name) → Takes (symbols_of h) t (length xs) → IsTerm (symbols_of h) (applied t (map Variable xs))
  over_formals t [] o = o
  over_formals t (x ∷ xs) o = over_formals (Applied t (Variable x)) xs (o, tt)

-- the functions of a history's definitions are symbols
own_event_symbol : (l : History) (d : Definition) → IsAmong d (events_definitions l) → IsAmong (definition_symbol d) (events_symbols l)
own_event_symbol [] d m = absurd m
own_event_symbol (AddShell s ∷ l) d m = among_right (definition_symbol d) (shell_symbols s) (events_symbols l) (own_event_symbol l d m)
own_event_symbol (Declaration f n ∷ l) d m = inr (own_event_symbol l d m)
own_event_symbol (Defines g ∷ l) d (inl e) = inl (ap definition_symbol e)
own_event_symbol (Defines g ∷ l) d (inr m) = inr (own_event_symbol l d m)
own_event_symbol (Axiom n classes t ∷ l) d m = own_event_symbol l d m
own_event_symbol (Lemma n classes t ∷ l) d m = own_event_symbol l d m
own_event_symbol (Toggle n old b ∷ l) d m = own_event_symbol l d m

own_symbol : (h : History) (d : Definition) → IsAmong d (events_definitions h) → IsAmong (definition_symbol d) (symbols_of h)
unfolding symbols_of
own_symbol h d m = among_right (definition_symbol d) ground_symbols (events_symbols h) (own_event_symbol h d m)

-- the bodies of a history's definitions
bodies_over : (symbols : List Symbol) (l : History) → Each (EventOver symbols) l → Each (λ d. IsTerm symbols d.body) (events_definitions l)
bodies_over symbols [] all = tt
bodies_over symbols (AddShell s ∷ l) all = bodies_over symbols l all.1
bodies_over symbols (Declaration f n ∷ l) all = bodies_over symbols l all.1
bodies_over symbols (Defines d ∷ l) all = (all.0, bodies_over symbols l all.1)
bodies_over symbols (Axiom n classes t ∷ l) all = bodies_over symbols l all.1
bodies_over symbols (Lemma n classes t ∷ l) all = bodies_over symbols l all.1
bodies_over symbols (Toggle n old b ∷ l) all = bodies_over symbols l all.1

-- the definitions of a closed history, opened, are over its symbols
events_definitions_over : (h : History) → IsClosed h → Each (λ d. IsClause h (opening d)) (events_definitions h)
events_definitions_over h closed =
    each_among (λ d. IsClause h (opening d)) (events_definitions h) (λ d m.
    (((equal_symbol h, over_formals h (Function d.function) d.formals (own_symbol h d m)), each_at (λ d. IsTerm (symbols_of h) d.body) d (events_definitions h) (bodies_over (symbols_of h) h closed) m), tt))

ground_definitions_over : (h : History) → Each (λ d. IsClause h (opening d)) ground_definitions
unfolding symbols_of
ground_definitions_over h =
    opened_each (symbols_of h) ground_definitions
    (each_among (IsTerm (symbols_of h)) (openings ground_definitions) (λ t m.
    takes_grows ground_symbols (symbols_of h) (λ x i. among_left x ground_symbols (events_symbols h) i) t zero
    (each_at (IsTerm ground_symbols) t (openings ground_definitions) (are_terms_is ground_symbols (openings ground_definitions) ground_openings) m)))

pub definitions_over : (h : History) → IsClosed h → Each (λ d. IsClause h (opening d)) (ground_definitions ++ events_definitions h)
definitions_over h closed = each_append (λ d. IsClause h (opening d)) ground_definitions (events_definitions h) (ground_definitions_over h) (events_definitions_over h closed)

ground_rows_over : (h : History) → Each (λ r. IsClause h r.literals) ground_rows
ground_rows_over h = search ground_terms

-- the clause under a name in the tables
axiom_over : (h : History) → IsClosed h → (name : Name) (row i : ℕ) (c : Clause) → axiom_clause h name row i ≡ Some c → IsClause h c
axiom_over h w name row i c e =
    by_table (first_or (without_part i (row_found name row ground_rows)) (first_found (without_part i (opening_at row (definition_found name all))) (shell_found name row i [] shells)) c e)
  where
    all : List Definition
    all = ground_definitions ++ events_definitions h

    shells : List Shell
    shells = ground_shells ++ events_shells h

    by_shell : (before : List Shell) (s : Shell) (after : List Shell) → ground_shells ++ events_shells h ≡ before ++ (s ∷ after) → Each (ShellOver (symbols_of h)) (before ++ (s ∷ after))
    by_shell before s after at = subst (Each (ShellOver (symbols_of h))) at (shells_over h w)

    right_of : {X : Type 0} (P : X → Type 0) (xs ys : List X) → Each P (xs ++ ys) → Each P ys
    right_of P [] ys ps = ps
    right_of P (x ∷ xs) ys ps = right_of P xs ys ps.1

    by_rest : (without_part i (opening_at row (definition_found name (ground_definitions ++ events_definitions h))) ≡ Some c) ⊎ (shell_found name row i [] (ground_shells ++ events_shells h) ≡ Some c) → IsClause h c
    by_rest (inl p) =
        let q = opening_is row (definition_found name (ground_definitions ++ events_definitions h)) c (part_is i (opening_at row (definition_found name (ground_definitions ++ events_definitions h))) c p) in
        subst (IsClause h) q.2 (each_at (λ d. IsClause h (opening d)) q.0 (ground_definitions ++ events_definitions h) (definitions_over h w) (definition_found_is name (ground_definitions ++ events_definitions h) q.0 q.1))
    by_rest (inr p) =
        let q = shell_found_is name row i [] (ground_shells ++ events_shells h) c p in
        let over = by_shell q.0 q.1 q.2 q.3 in
        shell_clause_over h q.0 q.1 (right_of (ShellOver (symbols_of h)) q.0 (q.1 ∷ q.2) over).0 (each_left (ShellOver (symbols_of h)) q.0 (q.1 ∷ q.2) over) q.4

    by_table : (without_part i (row_found name row ground_rows) ≡ Some c) ⊎ (first_found (without_part i (opening_at row (definition_found name (ground_definitions ++ events_definitions h)))) (shell_found name row i [] (ground_shells ++ events_shells h)) ≡ Some c) → IsClause h c
    by_table (inl p) = row_found_is (IsClause h) name row ground_rows c (ground_rows_over h) (part_is i (row_found name row ground_rows) c p)
    by_table (inr p) = by_rest (first_or (without_part i (opening_at row (definition_found name (ground_definitions ++ events_definitions h)))) (shell_found name row i [] (ground_shells ++ events_shells h)) c p)

-- the term of an event
found_or_later : (symbols : List Symbol) (name : Name) (found : Bool) (u : Term) (l : History) (t : Term) → IsTerm symbols u → (event_term name l ≡ Some t → IsTerm symbols t) → term_if found u (event_term name l) ≡ Some t → IsTerm symbols t
found_or_later symbols name true u l t o again e = subst (IsTerm symbols) (some_same u t e) o
found_or_later symbols name false u l t o again e = again e

event_over : (symbols : List Symbol) (name : Name) (l : History) (t : Term) → Each (EventOver symbols) l → event_term name l ≡ Some t → IsTerm symbols t
event_over symbols name [] t all e = absurd (none_is_not_some t e)
event_over symbols name (Axiom n classes u ∷ l) t all e = found_or_later symbols name (bytes_eq name n) u l t all.0 (λ e. event_over symbols name l t all.1 e) e
event_over symbols name (Lemma n classes u ∷ l) t all e = found_or_later symbols name (bytes_eq name n) u l t all.0 (λ e. event_over symbols name l t all.1 e) e
event_over symbols name (AddShell s ∷ l) t all e = event_over symbols name l t all.1 e
event_over symbols name (Declaration f n ∷ l) t all e = event_over symbols name l t all.1 e
event_over symbols name (Defines d ∷ l) t all e = event_over symbols name l t all.1 e
event_over symbols name (Toggle n old b ∷ l) t all e = event_over symbols name l t all.1 e

module _ (h : History) (lines : ℕ → Option Clause) (w : IsClosed h) (stand : LinesHold h lines) where
  abbrev Right : Term → Type 0
  Right = IsTerm (symbols_of h)

  line_over : (l : ℕ) (c : Clause) → lines l ≡ Some c → IsClause h c
  line_over l c e = literals_over h c (well_formed h (clause c) (stand l c e))

  found_over : (d c : Clause) → Some (distinct d) ≡ Some c → IsClause h d → IsClause h c
  found_over d c e o = subst (IsClause h) (some_same (distinct d) c e) (each_distinct Right d o)

  instances_over : (s : Substitution) → Each Right (pair_terms s) → (c : Clause) → IsClause h c → IsClause h (map (substituted s) c)
  instances_over s over [] o = tt
  instances_over s over (t ∷ c) o = (substituted_over h s over t zero o.0, instances_over s over c o.1)

  equation_over : (side : Side) (u t : Term) → Right u → Right t → Right (used_equation side u t)
  equation_over Forwards u t ou ot = (not_symbol h, ((equal_symbol h, ou), ot))
  equation_over Backwards u t ou ot = (not_symbol h, ((equal_symbol h, ot), ou))

  pub rule_over : (rule : Rule) (c : Clause) → Each Right (rule_terms rule) → conclusion h lines rule ≡ Some c → IsClause h c
  rule_over (Taut ts) c o e = let a = when_some (has_opposite ts ts) (distinct ts) c e in subst (IsClause h) a.1 (each_distinct Right ts o)
  rule_over (AxiomRow name row part) c o e =
      let a = given_some (axiom_clause h name row part) (λ c. Some (distinct c)) c e in found_over a.0 c a.2 (axiom_over h w name row part a.0 a.1)
  rule_over (EventTerm name) c o e =
      let a = given_some (event_term name h) (λ t. Some (t ∷ [])) c e in subst (IsClause h) (some_same (a.0 ∷ []) c a.2) (event_over (symbols_of h) name h a.0 w a.1, tt)
  rule_over (Weaken l ts) c o e =
      let a = given_some (lines l) (λ c. Some (distinct (c ++ ts))) c e in found_over (a.0 ++ ts) c a.2 (each_append Right a.0 ts (line_over l a.0 a.1) o)
  rule_over (Cut l m t) c o e =
      let a = given_some (lines l) (λ c1. given (lines m) (λ c2. Some (distinct (without t c1 ++ without (not_term t) c2)))) c e in
      let b = given_some (lines m) (λ c2. Some (distinct (without t a.0 ++ without (not_term t) c2))) c a.2 in
      found_over (without t a.0 ++ without (not_term t) b.0) c b.2
      (each_append Right (without t a.0) (without (not_term t) b.0) (each_without Right t a.0 (line_over l a.0 a.1)) (each_without Right (not_term t) b.0 (line_over m b.0 b.1)))
  rule_over (Instance l s) c o e =
      let a = given_some (lines l) (λ c. when (is_substitution s) (distinct (map (substituted s) c))) c e in
      let b = when_some (is_substitution s) (distinct (map (substituted s) a.0)) c a.2 in
      subst (IsClause h) b.1 (each_distinct Right (map (substituted s) a.0) (instances_over s o a.0 (line_over l a.0 a.1)))
  rule_over (Reflexive t) c o e = subst (IsClause h) (some_same (equal_term t t ∷ []) c e) (((equal_symbol h, o.0), o.0), tt)
  rule_over (Replace l k path t side) c o e =
      let whole = λ (c : Clause) (change : Term × Term). Some (distinct (in_place k (change.1 ∷ []) c ++ (used_equation side change.0 t ∷ []))) in
      let a = given_some (lines l) (λ c. given (literal_at k c) (λ a. given (replaced_at path t a) (whole c))) c e in
      let b = given_some (literal_at k a.0) (λ a'. given (replaced_at path t a') (whole a.0)) c a.2 in
      let d = given_some (replaced_at path t b.0) (whole a.0) c b.2 in
      let oa = line_over l a.0 a.1 in
      let ob = literal_is Right k b.0 a.0 b.1 oa in
      let r = replaced_is (symbols_of h) t path b.0 d.0.0 d.0.1 d.1 in
      found_over (in_place k (d.0.1 ∷ []) a.0 ++ (used_equation side d.0.0 t ∷ [])) c d.2
      (each_append Right (in_place k (d.0.1 ∷ []) a.0) (used_equation side d.0.0 t ∷ []) (each_placed Right k (d.0.1 ∷ []) a.0 (replaced_over (symbols_of h) d.0.0 t o.0 r.0 ob, tt) oa)
      (equation_over side d.0.0 t (r.1 ob) o.0, tt))
  rule_over (Join l m p x y) c o e =
      let whole = λ (c1 c2 : Clause). without (not_term p) (without x c1) ++ (without p (without y c2) ++ (if_term p x y ∷ [])) in
      let a = given_some (lines l) (λ c1. given (lines m) (λ c2. Some (distinct (whole c1 c2)))) c e in
      let b = given_some (lines m) (λ c2. Some (distinct (whole a.0 c2))) c a.2 in
      found_over (whole a.0 b.0) c b.2
      (each_append Right (without (not_term p) (without x a.0)) (without p (without y b.0) ++ (if_term p x y ∷ []))
      (each_without Right (not_term p) (without x a.0) (each_without Right x a.0 (line_over l a.0 a.1)))
      (each_append Right (without p (without y b.0)) (if_term p x y ∷ []) (each_without Right p (without y b.0) (each_without Right y b.0 (line_over m b.0 b.1)))
      ((((if_symbol h, o.0), o.1.0), o.1.1.0), tt)))
  rule_over (SplitFirst l k) c o e =
      let a = given_some (lines l) (λ c. given (literal_at k c) (λ a. given (if_parts a) (λ parts. Some (distinct (in_place k (not_term parts.test ∷ parts.first ∷ []) c))))) c e in
      let b = given_some (literal_at k a.0) (λ a'. given (if_parts a') (λ parts. Some (distinct (in_place k (not_term parts.test ∷ parts.first ∷ []) a.0)))) c a.2 in
      let d = given_some (if_parts b.0) (λ parts. Some (distinct (in_place k (not_term parts.test ∷ parts.first ∷ []) a.0))) c b.2 in
      let oa = line_over l a.0 a.1 in
      let ob = subst Right (if_parts_are b.0 d.0 d.1) (literal_is Right k b.0 a.0 b.1 oa) in
      found_over (in_place k (not_term d.0.test ∷ d.0.first ∷ []) a.0) c d.2 (each_placed Right k (not_term d.0.test ∷ d.0.first ∷ []) a.0 ((not_symbol h, ob.0.0.1), (ob.0.1, tt)) oa)
  rule_over (SplitSecond l k) c o e =
      let a = given_some (lines l) (λ c. given (literal_at k c) (λ a. given (if_parts a) (λ parts. Some (distinct (in_place k (parts.test ∷ parts.second ∷ []) c))))) c e in
      let b = given_some (literal_at k a.0) (λ a'. given (if_parts a') (λ parts. Some (distinct (in_place k (parts.test ∷ parts.second ∷ []) a.0)))) c a.2 in
      let d = given_some (if_parts b.0) (λ parts. Some (distinct (in_place k (parts.test ∷ parts.second ∷ []) a.0))) c b.2 in
      let oa = line_over l a.0 a.1 in
      let ob = subst Right (if_parts_are b.0 d.0 d.1) (literal_is Right k b.0 a.0 b.1 oa) in
      found_over (in_place k (d.0.test ∷ d.0.second ∷ []) a.0) c d.2 (each_placed Right k (d.0.test ∷ d.0.second ∷ []) a.0 (ob.0.0.1, (ob.1, tt)) oa)
  rule_over (NotNot l k) c o e =
      let a = given_some (lines l) (λ c. given (literal_at k c) (λ a. given (under_two_nots a) (λ t. Some (distinct (in_place k (t ∷ []) c))))) c e in
      let b = given_some (literal_at k a.0) (λ a'. given (under_two_nots a') (λ t. Some (distinct (in_place k (t ∷ []) a.0)))) c a.2 in
      let d = given_some (under_two_nots b.0) (λ t. Some (distinct (in_place k (t ∷ []) a.0))) c b.2 in
      let oa = line_over l a.0 a.1 in
      let ob = subst Right (two_nots_are b.0 d.0 d.1) (literal_is Right k b.0 a.0 b.1 oa) in
      found_over (in_place k (d.0 ∷ []) a.0) c d.2 (each_placed Right k (d.0 ∷ []) a.0 (ob.1.1, tt) oa)
  rule_over (Value t) c o e =
      let a = given_some (value_of t) (λ v. Some (equal_term t v ∷ [])) c e in
      subst (IsClause h) (some_same (equal_term t a.0 ∷ []) c a.2) (((equal_symbol h, o.0), value_over h t o.0 a.0 a.1), tt)
  rule_over (Linear summands) c o e =
      let a = when_some (is_refuted summands) (distinct (map (λ s. s.literal) summands)) c e in subst (IsClause h) a.1 (each_distinct Right (map (λ s. s.literal) summands) o)
  rule_over (Induct p m o' b cases) c o e =
      let ordinal = has_only (lines o') (call1 "ORDINALP" m ∷ []) in
      let base = has_only (lines b) (case_tests cases ++ (p ∷ [])) in
      let a = when_some (ordinal && base && are_steps lines p m cases) (p ∷ []) c e in
      subst (IsClause h) a.1 (o.0, tt)

pub kept_symbols_law : KeptSymbols
kept_symbols_law h lines rule c w stand terms e = rule_over h lines w stand rule c terms e
