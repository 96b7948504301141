-- The names that are taken in turn are the first new ones.
use Rattle.std.proofs.Common.{◌≡◌, ℕ, zero, suc, ◌+◌, ◌-◌, ◌<◌, ◌≤◌, nat_lt, Bool, true, false, ◌||◌, if◌then◌else◌, List, [], ◌∷◌, ◌++◌, length, take, get_or, refl, sym, ap, ◌∙◌, subst, inl, inr, arith}
use Rattle.std.specs.Prelude.{All, bytes_eq, Vec, Result, Ok, Err, IfOk, Option, Some, None, MatchOption}
use Rattle.std.specs.declared.alloc.Global.{Global}
use Rattle.std.proofs.lemmas.Bool.Decides.{nat_tests}
use Rattle.std.proofs.lemmas.List.{length-map, map_push, take_all, take_more, take-append-le}
use Rattle.nq_logic.specs.Terms.{Name, Term, Variable, Function, Applied, IsAmong, Substitution}
use Rattle.nq_logic.specs.Names.{has_name}
use Rattle.nq_logic.specs.RuleShapes.{variables_of}
use Rattle.nq_bank.specs.declared.node.TermId.{TermId}
use Rattle.nq_bank.specs.Content.{Content, Grows, term_at, terms_at, text_at}
use Rattle.nq_bank.specs.Parts.{occurs}
use Rattle.nq_bank.proofs.NodesLemmas.{All-head, All-tail}
use Rattle.nq_bank.proofs.Growth.{Grows-trans, term_at-grown}
use Rattle.nq_logic.specs.Values.{is_value}
use Rattle.nq_kernel.specs.declared.work.Stop.{Stop}
use Rattle.nq_clause.specs.declared.substitution.Pair.{Pair}
use Rattle.nq_clause.specs.Substitution.{substitution_at, PairStands}
use Rattle.nq_clause.proofs.SubstitutionLemmas.{substitution_at-grown}
use Rattle.nq_proof.specs.Clauses.{Clause}
use Rattle.nq_proof.specs.Rules.{are_distinct, pair_terms}
use Rattle.nq_history.specs.declared.entry.Entry.{Entry}
use Rattle.nq_kernel.specs.declared.work.Work.{Work}
use Rattle.nq_kernel.specs.Growing.{WorkStands, WorkGrows}
use Rattle.nq_kernel.proofs.GrowingLemmas.{WorkGrows-trans}
use Rattle.nq_kernel.specs.Over.{pair_names}
use Rattle.nq_lines.specs.Lines.{IsTermIn, AreAmong}
use Rattle.nq_lines.proofs.MatchLemmas.{distinct_told}
use Rattle.nq_goals.specs.NewVariables.{numbered, unused_from, new_variables, clause_variables}
use Rattle.nq_moves.specs.Naming.{occurs_in_one, IsNaming}
use Rattle.nq_moves.specs.Numbering.{IsNext}
use Rattle.nq_moves.specs.declared.numbering.Numbered.{Numbered}
use Rattle.nq_moves.specs.declared.naming.Renaming.{Renaming}
use Rattle.nq_moves.proofs.NamingLemmas.{free_in}
use Rattle.nq_moves.proofs.NewLemmas.{are_many, new_names}
use Rattle.nq_moves.proofs.SwappedLemmas.{goal_same}

or_false : (b : Bool) → b ≡ (b || false)
or_false true = refl
or_false false = refl

or_assoc : (a b d : Bool) → (a || (b || d)) ≡ ((a || b) || d)
or_assoc true b d = refl
or_assoc false b d = refl

pub named_joined : (x : Name) (xs ys : List Name) → has_name x (xs ++ ys) ≡ (has_name x xs || has_name x ys)
named_joined x [] ys = refl
named_joined x (y ∷ xs) ys = ap (λ b. bytes_eq x y || b) (named_joined x xs ys) ∙ or_assoc (bytes_eq x y) (has_name x xs) (has_name x ys)

-- a variable stands in a term where it is one of its variables
occurs_named : (x : Name) (t : Term) → occurs x t ≡ has_name x (variables_of t)
unfolding occurs
occurs_named x (Variable y) = or_false (bytes_eq x y)
occurs_named x (Function f) = refl
occurs_named x (Applied t u) =
    ap (λ b. b || occurs x u) (occurs_named x t) ∙ (ap (λ b. has_name x (variables_of t) || b) (occurs_named x u) ∙ sym (named_joined x (variables_of t) (variables_of u)))

pub occurs_named_in : (x : Name) (c : Clause) → occurs_in_one x c ≡ has_name x (clause_variables c)
occurs_named_in x [] = refl
occurs_named_in x (t ∷ c) =
    ap (λ b. b || occurs_in_one x c) (occurs_named x t) ∙ (ap (λ b. has_name x (variables_of t) || b) (occurs_named_in x c) ∙ sym (named_joined x (variables_of t) (clause_variables c)))

-- the unused ones of a stretch are those of its first part and then those of the rest
unused_joined : (n a b k : ℕ) (used : List Name) → n ≡ a + b → unused_from n k used ≡ unused_from a k used ++ unused_from b (k + a) used
unused_joined n zero b k used e =
    let same : n ≡ b = omega (arith, e) in
    let start : k ≡ k + 0 = omega arith in
    ap (λ m. unused_from m k used) same ∙ ap (λ j. unused_from b j used) start
unused_joined zero (suc a) b k used e = absurd (omega (arith, e))
unused_joined (suc n) (suc a) b k used e =
    let less : n ≡ a + b = omega (arith, e) in
    let from : suc k + a ≡ k + suc a = omega arith in
    by_test (has_name (numbered k) used) (unused_joined n a b (suc k) used less ∙ ap (λ j. unused_from a (suc k) used ++ unused_from b j used) from)
  where
    by_test : (t : Bool) → unused_from n (suc k) used ≡ unused_from a (suc k) used ++ unused_from b (k + suc a) used →
        (if t then unused_from n (suc k) used else numbered k ∷ unused_from n (suc k) used) ≡ (if t then unused_from a (suc k) used else numbered k ∷ unused_from a (suc k) used) ++ unused_from b (k + suc a) used
    by_test true h = h
    by_test false h = ap (λ xs. numbered k ∷ xs) h

-- a stretch of used ones
none_unused : (b k : ℕ) (used : List Name) → ((j : ℕ) → k ≤ j → j < k + b → has_name (numbered j) used ≡ true) → unused_from b k used ≡ []
none_unused zero k used all = refl
none_unused (suc b) k used all =
    let least : k ≤ k = omega arith in
    let below : k < k + suc b = omega arith in
    ap (λ t. if t then unused_from b (suc k) used else numbered k ∷ unused_from b (suc k) used) (all k least below) ∙ none_unused b (suc k) used (λ j l m. all j (omega (arith, l)) (omega (arith, m)))

-- the next one after such a stretch
next_taken : (number m : ℕ) (used : List Name) → 1 ≤ number → number ≤ m → ((k : ℕ) → number ≤ k → k < m → has_name (numbered k) used ≡ true) → has_name (numbered m) used ≡ false →
    unused_from m 1 used ≡ unused_from (number - 1) 1 used ++ numbered m ∷ []
next_taken number m used one least all free =
    let whole : m ≡ (number - 1) + (m - number + 1) = omega (arith, one, least) in
    let start : 1 + (number - 1) ≡ number = omega (arith, one) in
    let stretch : m - number + 1 ≡ (m - number) + 1 = omega arith in
    let last : number + (m - number) ≡ m = omega (arith, least) in
    let middle = none_unused (m - number) number used (λ j l below. all j l (subst (λ e. j < e) last below)) in
    let rest : unused_from (m - number + 1) number used ≡ numbered m ∷ [] =
    unused_joined (m - number + 1) (m - number) 1 number used stretch ∙ (ap (λ xs. xs ++ unused_from 1 (number + (m - number)) used) middle ∙ (ap (λ k. unused_from 1 k used) last ∙ ap (λ t. if t then [] else numbered m ∷ []) free)) in
    unused_joined m (number - 1) (m - number + 1) 1 used whole ∙ ap (λ xs. unused_from (number - 1) 1 used ++ xs) (ap (λ k. unused_from (m - number + 1) k used) start ∙ rest)

-- so many unused ones from the first number on are the first new ones
pub first_names : (used : List Name) (m count : ℕ) (names : List Name) → names ≡ unused_from m 1 used → length names ≡ count → names ≡ new_variables used count
first_names used m count names is many = by_size (nat_lt (length used + count) m) refl
  where
    n : ℕ
    n = length used + count

    base : List Name
    base = unused_from n 1 used

    own : take count names ≡ names
    own = take_all count names (omega (arith, many))

    by_size : (b : Bool) → nat_lt n m ≡ b → names ≡ take count base
    by_size true e =
        let longer : m ≡ n + (m - n) = grind (arith, nat_tests, e) in
        let rest : List Name = unused_from (m - n) (1 + n) used in
        let enough : n ≤ length base + length used = are_many n 1 used in
        let fits : count ≤ length base = omega (arith, enough) in
        sym own ∙ (ap (take count) (is ∙ unused_joined m n (m - n) 1 used longer) ∙ take-append-le count base rest fits)
    by_size false e =
        let longer : n ≡ m + (n - m) = grind (arith, nat_tests, e) in
        let rest : List Name = unused_from (n - m) (1 + m) used in
        let fits : count ≤ length names = omega (arith, many) in
        let whole : base ≡ names ++ rest = unused_joined n m (n - m) 1 used longer ∙ ap (λ xs. xs ++ rest) (sym is) in
        sym (ap (take count) whole ∙ (take-append-le count names rest fits ∙ own))

-- one more pair
module _ (history : List Entry) (old mid new : Work) (stood : WorkStands history old) (before : WorkGrows history old mid) (after : WorkGrows history mid new) (literals : List TermId) (all : All (IsTermIn history old) literals) where
  pub names_more : (pairs : List Pair) (number : ℕ) (n : Numbered) (t : TermId) → All (PairStands mid.bank) pairs → 1 ≤ number → IsNext new literals number n →
      pair_names (substitution_at mid.bank pairs) ≡ unused_from (number - 1) 1 (clause_variables (terms_at old.bank literals)) →
      pair_names (substitution_at new.bank (pairs ++ record { variable = n.name; term = t } ∷ [])) ≡ unused_from (n.number + 1 - 1) 1 (clause_variables (terms_at old.bank literals))
  names_more pairs number n t stand one next so_far =
      let p : Pair = record { variable = n.name; term = t } in
      let used : List Name = clause_variables (terms_at old.bank literals) in
      let same : terms_at new.bank literals ≡ terms_at old.bank literals = goal_same history old new stood (WorkGrows-trans history old mid new before after) literals all in
      let told : (k : ℕ) → has_name (numbered k) used ≡ occurs_in_one (numbered k) (terms_at new.bank literals) = λ k. sym (ap (occurs_in_one (numbered k)) same ∙ occurs_named_in (numbered k) (terms_at old.bank literals)) in
      let between : (k : ℕ) → number ≤ k → k < n.number → has_name (numbered k) used ≡ true = λ k least below. told k ∙ next.used k least below in
      let free : has_name (numbered n.number) used ≡ false = told n.number ∙ (ap (λ x. occurs_in_one x (terms_at new.bank literals)) (sym next.new.reads) ∙ next.new.name.free) in
      let taken = next_taken number n.number used one next.least between free in
      let last : n.number ≡ n.number + 1 - 1 = omega arith in
      ap pair_names (map_push (λ q. (text_at new.bank q.variable, term_at new.bank q.term)) pairs p)
      ∙ (map_push (λ q. q.0) (substitution_at new.bank pairs) (text_at new.bank n.name, term_at new.bank t)
      ∙ (ap (λ s. pair_names s ++ text_at new.bank n.name ∷ []) (substitution_at-grown mid.bank new.bank pairs after.bank stand)
      ∙ (ap (λ xs. xs ++ text_at new.bank n.name ∷ []) so_far
      ∙ (ap (λ x. unused_from (number - 1) 1 used ++ x ∷ []) next.new.reads
      ∙ (sym taken ∙ ap (λ k. unused_from k 1 used) last)))))

  pub terms_more : (pairs : List Pair) (terms : List TermId) (i : ℕ) (d : TermId) (n : Numbered) → All (PairStands mid.bank) pairs → All (IsTermIn history old) terms → i < length terms →
      pair_terms (substitution_at mid.bank pairs) ≡ terms_at old.bank (take i terms) →
      pair_terms (substitution_at new.bank (pairs ++ record { variable = n.name; term = get_or terms i d } ∷ [])) ≡ terms_at old.bank (take (i + 1) terms)
  terms_more pairs terms i d n stand over below so_far =
      let t : TermId = get_or terms i d in
      let p : Pair = record { variable = n.name; term = t } in
      let g : Grows old.bank new.bank = Grows-trans old.bank mid.bank new.bank before.bank after.bank in
      ap pair_terms (map_push (λ q. (text_at new.bank q.variable, term_at new.bank q.term)) pairs p)
      ∙ (map_push (λ q. q.1) (substitution_at new.bank pairs) (text_at new.bank n.name, term_at new.bank t)
      ∙ (ap (λ s. pair_terms s ++ term_at new.bank t ∷ []) (substitution_at-grown mid.bank new.bank pairs after.bank stand)
      ∙ (ap (λ xs. xs ++ term_at new.bank t ∷ []) so_far
      ∙ (ap (λ u. terms_at old.bank (take i terms) ++ u ∷ []) (term_at-grown old.bank new.bank t g (over i d below).stands)
      ∙ sym (ap (terms_at old.bank) (take_more terms i d below) ∙ map_push (term_at old.bank) (take i terms) t)))))

-- as many names as terms
pub all_named : (used : List Name) (s : Substitution) (bank : Content) (terms : List TermId) (i number : ℕ) → length terms ≤ i → pair_terms s ≡ terms_at bank (take i terms) → pair_names s ≡ unused_from (number - 1) 1 used → pair_names s ≡ new_variables used (length terms)
all_named used s bank terms i number all told named =
    first_names used (number - 1) (length terms) (pair_names s) named
    (length-map s (λ p. p.0) ∙ (sym (length-map s (λ p. p.1)) ∙ (ap length (told ∙ ap (terms_at bank) (take_all i terms all)) ∙ length-map terms (term_at bank))))

pub new_substitution : (s : Substitution) (used : List Name) (count : ℕ) → pair_names s ≡ new_variables used count → are_distinct (pair_names s) ≡ true
new_substitution s used count named = ap are_distinct named ∙ distinct_told (new_variables used count) (new_names used count).distinct

-- what is so of each id is so of each term
pub each_at : (P : Term → Type 0) (bank : Content) (ids : List TermId) → All (λ t. P (term_at bank t)) ids → (t : Term) → IsAmong t (terms_at bank ids) → P t
each_at P bank [] h t m = absurd m
each_at P bank (i ∷ ids) h t (inl e) = subst P (sym e) (All-head (λ u. P (term_at bank u)) i ids h)
each_at P bank (i ∷ ids) h t (inr m) = each_at P bank ids (All-tail (λ u. P (term_at bank u)) i ids h) t m

among_pair : (bank : Content) (pairs : List Pair) (k : ℕ) (d : Pair) → k < length pairs → IsAmong (term_at bank (get_or pairs k d).term) (pair_terms (substitution_at bank pairs))
among_pair bank [] k d below = absurd (omega (arith, below))
among_pair bank (p ∷ pairs) zero d below = inl refl
among_pair bank (p ∷ pairs) (suc k) d below = inr (among_pair bank pairs k d (omega (arith, below)))

-- the pairs are of terms that are no values
pub no_values_by : (old new : Content) (pairs : List Pair) (terms : List TermId) → pair_terms (substitution_at new pairs) ≡ terms_at old terms → All (λ t. is_value (term_at old t) ≡ false) terms → All (λ p. is_value (term_at new p.term) ≡ false) pairs
no_values_by old new pairs terms told none k d below =
    each_at (λ t. is_value t ≡ false) old terms none (term_at new (get_or pairs k d).term) (subst (IsAmong (term_at new (get_or pairs k d).term)) told (among_pair new pairs k d below))

-- what is new to terms is new to some of them
free_of : (x : Name) (c : Clause) → ((t : Term) → IsAmong t c → occurs x t ≡ false) → occurs_in_one x c ≡ false
free_of x [] each = refl
free_of x (t ∷ c) each = ap (λ b. b || occurs_in_one x c) (each t (inl refl)) ∙ free_of x c (λ u m. each u (inr m))

pub among_free : (x : Name) (c d : Clause) → AreAmong c d → occurs_in_one x d ≡ false → occurs_in_one x c ≡ false
among_free x c d within e = free_of x c (λ t m. free_in x d e t (within t m))

module _ (history : List Entry) (old new : Work) (stood : WorkStands history old) (grows : WorkGrows history old new) (known literals : List TermId) where
  pub namings_within : (pairs : List Pair) → All (IsTermIn history old) known → All (IsTermIn history old) literals → ((x : Name) → occurs_in_one x (terms_at old.bank known) ≡ false → occurs_in_one x (terms_at old.bank literals) ≡ false) → All (IsNaming history new known) pairs → All (IsNaming history new literals) pairs
  namings_within pairs all some within h k d below =
      let here : IsNaming history new known (get_or pairs k d) = h k d below in
      let x : Name = text_at new.bank (get_or pairs k d).variable in
      let these = goal_same history old new stood grows literals some in
      let those = goal_same history old new stood grows known all in
      record {
        name = record {
          named = here.name.named;
          plain = here.name.plain;
          free = ap (occurs_in_one x) these ∙ within x (ap (occurs_in_one x) (sym those) ∙ here.name.free);
        };
        term = here.term;
      }

-- the same pairs in work that has grown
pub kept_pairs : {Y : Type 0} (old new : Content) (pairs : Vec Pair Global) (r : Result Renaming Stop) (f : Substitution → Y) (y : Y) → Grows old new → All (PairStands old) pairs.items → IfOk r (λ x. x.pairs ≡ pairs) → f (substitution_at old pairs.items) ≡ y → IfOk r (λ x. f (substitution_at new x.pairs.items) ≡ y)
kept_pairs old new pairs (Ok x) f y g stand same is = ap (λ (v : Vec Pair Global). f (substitution_at new v.items)) same ∙ (ap f (substitution_at-grown old new pairs.items g stand) ∙ is)
kept_pairs old new pairs (Err e) f y g stand same is = same

-- the answer of a test of an option
pub none_as : {X : Type 0} (N : Type 0) (S : X → Type 0) (o : Option X) → MatchOption o N S → o ≡ None → N
none_as N S None h e = h
none_as N S (Some x) h e = absurd (cc)

pub some_is : {X : Type 0} (N : Type 0) (S : X → Type 0) (o : Option X) (x : X) → MatchOption o N S → o ≡ Some x → S x
some_is N S None x h e = absurd (cc)
some_is N S (Some y) x h e = let same : y ≡ x = cc in subst S same h

-- one more number of a stretch
pub one_more_used : (first number : ℕ) (test : ℕ → Bool) → ((k : ℕ) → first ≤ k → k < number → test k ≡ true) → test number ≡ true → (k : ℕ) → first ≤ k → k < number + 1 → test k ≡ true
one_more_used first number test before here k least below = by_size (nat_lt k number) refl
  where
    by_size : (b : Bool) → nat_lt k number ≡ b → test k ≡ true
    by_size true e = before k least (grind (arith, nat_tests, e))
    by_size false e =
        let at : number ≡ k = grind (arith, nat_tests, e, below) in
        subst (λ n. test n ≡ true) at here
