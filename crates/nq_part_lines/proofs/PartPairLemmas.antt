-- The variables of a shell's parts, each with that part of X: they are distinct, and over the history's functions.
use Rattle.std.proofs.Common.{◌≡◌, ◌<◌, ◌≤◌, ◌+◌, ◌∙◌, ℕ, zero, suc, Bool, true, false, List, [], ◌∷◌, ◌++◌, length, get_or, drop, refl, sym, ap, ap₂, subst, append_assoc, arith}
use Rattle.std.specs.Prelude.{bytes_eq, All, not, ◌&&◌, ◌||◌}
use Rattle.std.proofs.lemmas.List.{append-nil, drop_all, drop_more}
use Rattle.nq_logic.specs.Terms.{Name, Term, Variable, Function, Applied, Substitution, Each, applied, call}
use Rattle.nq_logic.specs.Names.{has_name}
use Rattle.nq_logic.specs.Words.{numeral}
use Rattle.nq_logic.specs.Ground.{symbols_of}
use Rattle.nq_logic.specs.Histories.{Part}
use Rattle.nq_logic.specs.Shells.{accessed, part_variables, whole}
use Rattle.nq_bank.specs.declared.node.TermId.{TermId}
use Rattle.nq_bank.specs.Content.{Content, term_at, terms_at, text_at}
use Rattle.nq_bank.proofs.NodesLemmas.{All-head, All-tail}
use Rattle.nq_clause.specs.declared.substitution.Pair.{Pair}
use Rattle.nq_clause.specs.Substitution.{substitution_at, PairStands}
use Rattle.nq_proof.specs.Rules.{is_substitution, pair_terms}
use Rattle.nq_history.specs.declared.entry.Entry.{Entry}
use Rattle.nq_history.specs.Events.{events_at}
use Rattle.nq_kernel.specs.declared.work.Work.{Work}
use Rattle.nq_kernel.specs.Over.{IsTermOf, IsVariable, VariablesAre, pair_names}
use Rattle.nq_lines.specs.Instances.{ArePairsIn}
use Rattle.nq_part_lines.specs.Small.{IsSmallIn}
use Rattle.nq_part_lines.specs.Wholes.{part_name, part_pairs}
use Rattle.nq_part_lines.proofs.PartNameLemmas.{name_differs}

neither : (a b : Bool) → a ≡ false → b ≡ false → (a || b) ≡ false
neither true b e k = absurd cc
neither false b e k = k

first_new : (a b : Bool) → a ≡ false → b ≡ true → (not a && b) ≡ true
first_new true b e k = absurd cc
first_new false b e k = k

name_new : (k j : ℕ) (parts : List Part) → k < j → has_name (part_name k) (pair_names (part_pairs j parts)) ≡ false
name_new k j [] l = refl
name_new k j (p ∷ parts) l =
    let more : k < suc j = omega (arith, l) in
    let other : (k ≡ j → ⊥) = λ e. absurd (omega (arith, l, e)) in
    neither (bytes_eq (part_name k) (part_name j)) (has_name (part_name k) (pair_names (part_pairs (suc j) parts))) (name_differs k j other) (name_new k (suc j) parts more)

pub parts_distinct : (k : ℕ) (parts : List Part) → is_substitution (part_pairs k parts) ≡ true
parts_distinct k [] = refl
parts_distinct k (p ∷ parts) =
    let more : k < suc k = omega arith in
    first_new (has_name (part_name k) (pair_names (part_pairs (suc k) parts))) (is_substitution (part_pairs (suc k) parts)) (name_new k (suc k) parts more) (parts_distinct (suc k) parts)

-- the terms of the pairs
terms_are : (k : ℕ) (parts : List Part) → pair_terms (part_pairs k parts) ≡ accessed whole parts
terms_are k [] = refl
terms_are k (p ∷ parts) = ap (λ ts. Applied (Function p.accessor) whole ∷ ts) (terms_are (suc k) parts)

-- the variables of a call's arguments
head_variables : (t : Term) (us : List Term) → VariablesAre IsVariable (applied t us) → VariablesAre IsVariable t
head_variables t [] h = h
head_variables t (u ∷ us) h = (head_variables (Applied t u) us h).0

each_variables : (t : Term) (us : List Term) → VariablesAre IsVariable (applied t us) → Each (VariablesAre IsVariable) us
each_variables t [] h = tt
each_variables t (u ∷ us) h = ((head_variables (Applied t u) us h).1, each_variables (Applied t u) us h)

names_are : (k : ℕ) (parts : List Part) → Each (VariablesAre IsVariable) (part_variables k parts) → Each IsVariable (pair_names (part_pairs k parts))
names_are k [] h = tt
names_are k (p ∷ parts) h = (h.0, names_are (suc k) parts h.1)

module _ (history : List Entry) (work : Work) where
  abbrev Over : Term → Type 0
  Over t = IsTermOf IsVariable (symbols_of (events_at work.bank history)) t

  small_each : (ids : List TermId) → All (IsSmallIn history work) ids → Each Over (terms_at work.bank ids)
  small_each [] h = tt
  small_each (t ∷ ids) h =
      let here : IsSmallIn history work t = All-head (IsSmallIn history work) t ids h in
      (here.inside.over, small_each ids (All-tail (IsSmallIn history work) t ids h))

  -- the pairs stand for the parts of X
  pub parts_in : (pairs : List Pair) (f : Name) (parts : List Part) (calls : List TermId) → substitution_at work.bank pairs ≡ part_pairs 0 parts → All (PairStands work.bank) pairs → terms_at work.bank calls ≡ accessed whole parts → All (IsSmallIn history work) calls → VariablesAre IsVariable (call f (part_variables 0 parts)) → ArePairsIn history work pairs
  parts_in pairs f parts calls e stand told small variables =
      record {
        stand = stand;
        distinct = subst (λ s. is_substitution s ≡ true) (sym e) (parts_distinct 0 parts);
        terms = subst (λ s. Each Over (pair_terms s)) (sym e) (subst (Each Over) (told ∙ sym (terms_are 0 parts)) (small_each calls small));
        names = subst (λ s. Each IsVariable (pair_names s)) (sym e) (names_are 0 parts (each_variables (Function f) (part_variables 0 parts) variables));
      }

-- one pair more
pairs_push : (bank : Content) (pairs : List Pair) (p : Pair) → substitution_at bank (pairs ++ p ∷ []) ≡ substitution_at bank pairs ++ (text_at bank p.variable, term_at bank p.term) ∷ []
pairs_push bank [] p = refl
pairs_push bank (q ∷ pairs) p = ap (λ s. (text_at bank q.variable, term_at bank q.term) ∷ s) (pairs_push bank pairs p)

pub pair_next : (bank : Content) (pairs : List Pair) (p : Pair) (parts : List Part) (i : ℕ) (d : Part) → substitution_at bank pairs ++ part_pairs i (drop i parts) ≡ part_pairs 0 parts → i < length parts → text_at bank p.variable ≡ part_name i → term_at bank p.term ≡ Applied (Function (get_or parts i d).accessor) whole →
    substitution_at bank (pairs ++ p ∷ []) ++ part_pairs (i + 1) (drop (i + 1) parts) ≡ part_pairs 0 parts
pair_next bank pairs p parts i d so_far below name term =
    let n : suc i ≡ i + 1 = omega arith in
    let here : part_pairs i (drop i parts) ≡ (part_name i, Applied (Function (get_or parts i d).accessor) whole) ∷ part_pairs (suc i) (drop (i + 1) parts) = ap (part_pairs i) (drop_more parts i d below) in
    let pair : Substitution = (text_at bank p.variable, term_at bank p.term) ∷ [] in
    let rest : Substitution = part_pairs (i + 1) (drop (i + 1) parts) in
    ap (λ s. s ++ rest) (pairs_push bank pairs p)
    ∙ append_assoc (substitution_at bank pairs) pair rest
    ∙ ap₂ (λ x t. substitution_at bank pairs ++ ((x, t) ∷ rest)) name term
    ∙ ap (λ m. substitution_at bank pairs ++ ((part_name i, Applied (Function (get_or parts i d).accessor) whole) ∷ part_pairs m (drop (i + 1) parts))) (sym n)
    ∙ ap (λ s. substitution_at bank pairs ++ s) (sym here)
    ∙ so_far

-- all of them
pub pairs_all : (s : Substitution) (i : ℕ) (parts : List Part) → s ++ part_pairs i (drop i parts) ≡ part_pairs 0 parts → length parts ≤ i → s ≡ part_pairs 0 parts
pairs_all s i parts so_far l = sym (append-nil s) ∙ ap (λ ps. s ++ part_pairs i ps) (sym (drop_all i parts l)) ∙ so_far

-- a variable is no call and no numeral
pub variable_name : (x y : Name) → Variable x ≡ Variable y → x ≡ y
variable_name x y e = cc

no_applied : (t u : Term) (ts : List Term) (x : Name) → applied (Applied t u) ts ≡ Variable x → ⊥
no_applied t u [] x e = cc
no_applied t u (v ∷ ts) x e = no_applied (Applied t u) v ts x e

pub no_call : (f : Name) (ts : List Term) (x : Name) → call f ts ≡ Variable x → ⊥
no_call f [] x e = cc
no_call f (t ∷ ts) x e = no_applied (Function f) t ts x e

pub no_number : (n : ℕ) (x : Name) → numeral n ≡ Variable x → ⊥
unfolding numeral
no_number zero x e = cc
no_number (suc n) x e = cc

pub no_pairs : (bank : Content) (pairs : List Pair) → pairs ≡ [] → All (PairStands bank) pairs
no_pairs bank pairs e = subst (All (PairStands bank)) (sym e) (λ i d below. absurd (omega (arith, below)))
