-- The known terms: the literals of a path and of a goal, and a variable.
use Rattle.std.proofs.Common.{◌≡◌, zero, suc, Bool, true, false, ◌||◌, List, [], ◌∷◌, ◌++◌, map, refl, sym, ap, ◌∙◌, subst, inl, inr, arith}
use Rattle.std.specs.Prelude.{All, Vec}
use Rattle.std.specs.declared.alloc.Global.{Global}
use Rattle.nq_logic.specs.Terms.{Name, Term, Variable, IsAmong}
use Rattle.nq_logic.specs.RuleShapes.{variables_of}
use Rattle.nq_logic.specs.Words.{not_term}
use Rattle.nq_bank.specs.Parts.{occurs}
use Rattle.nq_bank.specs.declared.node.TermId.{TermId}
use Rattle.nq_bank.specs.Content.{Content, term_at, terms_at}
use Rattle.nq_bank.proofs.NodesLemmas.{All-head, All-tail}
use Rattle.nq_bank.proofs.Texts.{eq-bytes_eq}
use Rattle.nq_proof.specs.Clauses.{Clause}
use Rattle.nq_history.specs.declared.entry.Entry.{Entry}
use Rattle.nq_kernel.specs.declared.work.Work.{Work}
use Rattle.nq_lines.specs.Lines.{AreAmong, IsTermIn}
use Rattle.nq_goals.specs.Eliminating.{Eliminating, hypotheses_of, known_variables, whole_of}
use Rattle.nq_goals.specs.NewVariables.{clause_variables, path_variables, used_variables}
use Rattle.nq_moves.specs.Found.{goals_at}
use Rattle.nq_moves.specs.Naming.{occurs_in_one}
use Rattle.nq_moves.proofs.NamingLemmas.{free_in}
use Rattle.nq_moves.proofs.NumberingLemmas.{among_free}
use Rattle.nq_eliminate.specs.Instances.{IsPlain, equation_of}
use Rattle.nq_eliminate.specs.Literals.{joined}

-- ---- the literals of a path

terms_joined : (bank : Content) (xs ys : List TermId) → terms_at bank (xs ++ ys) ≡ terms_at bank xs ++ terms_at bank ys
terms_joined bank [] ys = refl
terms_joined bank (x ∷ xs) ys = ap (λ ts. term_at bank x ∷ ts) (terms_joined bank xs ys)

names_joined : (xs ys zs : List Name) → (xs ++ ys) ++ zs ≡ xs ++ (ys ++ zs)
names_joined [] ys zs = refl
names_joined (x ∷ xs) ys zs = ap (λ r. x ∷ r) (names_joined xs ys zs)

variables_joined : (c d : Clause) → clause_variables (c ++ d) ≡ clause_variables c ++ clause_variables d
variables_joined [] d = refl
variables_joined (t ∷ c) d = ap (λ r. variables_of t ++ r) (variables_joined c d) ∙ sym (names_joined (variables_of t) (clause_variables c) (clause_variables d))

path_joined : (bank : Content) (path : List (Vec TermId Global)) → clause_variables (terms_at bank (joined path)) ≡ path_variables (goals_at bank path)
path_joined bank [] = refl
path_joined bank (g ∷ path) =
    ap clause_variables (terms_joined bank g.items (joined path)) ∙ (variables_joined (terms_at bank g.items) (terms_at bank (joined path)) ∙ ap (λ r. clause_variables (terms_at bank g.items) ++ r) (path_joined bank path))

used_joined : (bank : Content) (path : List (Vec TermId Global)) (goal : List TermId) → clause_variables (terms_at bank (joined path ++ goal)) ≡ used_variables (goals_at bank path) (terms_at bank goal)
used_joined bank path goal =
    ap clause_variables (terms_joined bank (joined path) goal) ∙ (variables_joined (terms_at bank (joined path)) (terms_at bank goal) ∙ ap (λ r. r ++ clause_variables (terms_at bank goal)) (path_joined bank path))

names_back : (xs : List Name) → clause_variables (map Variable xs) ≡ xs
names_back [] = refl
names_back (x ∷ xs) = ap (λ r. x ∷ r) (names_back xs)

-- with the variables they are the known ones
pub known_joined : (bank : Content) (path : List (Vec TermId Global)) (goal : List TermId) (v : TermId) (others : List TermId) (e : Eliminating) → term_at bank v ≡ Variable e.variable → terms_at bank others ≡ map Variable e.others →
    clause_variables (terms_at bank ((joined path ++ goal) ++ v ∷ others)) ≡ known_variables (goals_at bank path) (terms_at bank goal) e
known_joined bank path goal v others e is are =
    ap clause_variables (terms_joined bank (joined path ++ goal) (v ∷ others))
    ∙ (variables_joined (terms_at bank (joined path ++ goal)) (term_at bank v ∷ terms_at bank others)
    ∙ (ap (λ r. r ++ clause_variables (term_at bank v ∷ terms_at bank others)) (used_joined bank path goal)
    ∙ (ap (λ t. used_variables (goals_at bank path) (terms_at bank goal) ++ clause_variables (t ∷ terms_at bank others)) is
    ∙ (ap (λ ts. used_variables (goals_at bank path) (terms_at bank goal) ++ (e.variable ∷ clause_variables ts)) are
    ∙ ap (λ xs. used_variables (goals_at bank path) (terms_at bank goal) ++ (e.variable ∷ xs)) (names_back e.others)))))

goal_within : (c d : Clause) (t : Term) → IsAmong t d → IsAmong t (c ++ d)
goal_within [] d t m = m
goal_within (u ∷ c) d t m = inr (goal_within c d t m)

goal_before : (c d : Clause) (t : Term) → IsAmong t c → IsAmong t (c ++ d)
goal_before [] d t m = absurd m
goal_before (u ∷ c) d t (inl is) = inl is
goal_before (u ∷ c) d t (inr m) = inr (goal_before c d t m)

-- ---- variables that are free

denial_free : (y : Name) (c : Clause) → occurs_in_one y (map not_term c) ≡ occurs_in_one y c
unfolding occurs
denial_free y [] = refl
denial_free y (t ∷ c) = ap (λ b. occurs y t || b) (denial_free y c)

both_false : (a b : Bool) → a ≡ false → b ≡ false → (a || b) ≡ false
both_false true b e k = absurd (cc)
both_false false b e k = k

joined_free : (y : Name) (c d : Clause) → occurs_in_one y c ≡ false → occurs_in_one y d ≡ false → occurs_in_one y (c ++ d) ≡ false
joined_free y [] d e k = k
joined_free y (t ∷ c) d e k = both_false (occurs y t) (occurs_in_one y (c ++ d)) (either_first (occurs y t) (occurs_in_one y c) e) (joined_free y c d (either_second (occurs y t) (occurs_in_one y c) e) k)
  where
    either_first : (a b : Bool) → (a || b) ≡ false → a ≡ false
    either_first true b f = absurd (cc)
    either_first false b f = refl

    either_second : (a b : Bool) → (a || b) ≡ false → b ≡ false
    either_second true b f = absurd (cc)
    either_second false b f = f

own_occurs : (x : Name) → occurs x (Variable x) ≡ true
unfolding occurs
own_occurs x = eq-bytes_eq x x refl

more_free : (y : Name) (w eq : Term) (g hs : Clause) → occurs_in_one y (w ∷ eq ∷ hs) ≡ false → occurs_in_one y g ≡ false → occurs_in_one y (w ∷ not_term eq ∷ (g ++ map not_term hs)) ≡ false
unfolding occurs
more_free y w eq g hs e k =
    let first = or_both (occurs y w) (occurs y eq || occurs_in_one y hs) e in
    let second = or_both (occurs y eq) (occurs_in_one y hs) first.1 in
    both_false (occurs y w) _ first.0 (both_false (occurs y eq) _ second.0 (joined_free y g (map not_term hs) k (denial_free y hs ∙ second.1)))
  where
    or_both : (a b : Bool) → (a || b) ≡ false → (a ≡ false) × (b ≡ false)
    or_both true b f = absurd (cc)
    or_both false b f = (refl, f)

-- what is free in the known terms is free in those that are renamed
pub rename_free : (e : Eliminating) (known g : Clause) (y : Name) → IsPlain e → ((x : Name) → IsAmong x (e.variable ∷ e.others) → IsAmong (Variable x) known) → AreAmong g known → occurs_in_one y known ≡ false → occurs_in_one y (whole_of e ∷ not_term (equation_of e) ∷ (g ++ map not_term (hypotheses_of e))) ≡ false
rename_free e known g y plain there within free = more_free y (whole_of e) (equation_of e) g (hypotheses_of e) (by_test (occurs_in_one y (whole_of e ∷ equation_of e ∷ hypotheses_of e)) refl) (among_free y g known within free)
  where
    by_test : (b : Bool) → occurs_in_one y (whole_of e ∷ equation_of e ∷ hypotheses_of e) ≡ b → b ≡ false
    by_test true told =
        let own : occurs y (Variable y) ≡ true = own_occurs y in
        let none : occurs y (Variable y) ≡ false = free_in y known free (Variable y) (there y (plain.variables y told)) in
        absurd (cc)
    by_test false told = refl

-- ---- ids of the known terms

pub no_ids_in : (history : List Entry) (work : Work) → All (IsTermIn history work) []
no_ids_in history work = λ k d below. absurd (omega (arith, below))

pub ids_cons : (history : List Entry) (work : Work) (x : TermId) (ids : List TermId) → IsTermIn history work x → All (IsTermIn history work) ids → All (IsTermIn history work) (x ∷ ids)
ids_cons history work x ids h all zero d below = h
ids_cons history work x ids h all (suc k) d below = all k d (omega (arith, below))

pub ids_append : (history : List Entry) (work : Work) (xs ys : List TermId) → All (IsTermIn history work) xs → All (IsTermIn history work) ys → All (IsTermIn history work) (xs ++ ys)
ids_append history work [] ys h k = k
ids_append history work (x ∷ xs) ys h k = ids_cons history work x (xs ++ ys) (All-head (IsTermIn history work) x xs h) (ids_append history work xs ys (All-tail (IsTermIn history work) x xs h) k)

path_in : (history : List Entry) (work : Work) (path : List (Vec TermId Global)) → All (λ g. All (IsTermIn history work) g.items) path → All (IsTermIn history work) (joined path)
path_in history work [] h = no_ids_in history work
path_in history work (g ∷ path) h = ids_append history work g.items (joined path) (All-head (λ v. All (IsTermIn history work) v.items) g path h) (path_in history work path (All-tail (λ v. All (IsTermIn history work) v.items) g path h))

pub known_in : (history : List Entry) (work : Work) (path : List (Vec TermId Global)) (goal : List TermId) (t : TermId) (others : List TermId) → All (λ g. All (IsTermIn history work) g.items) path → All (IsTermIn history work) goal → IsTermIn history work t → All (IsTermIn history work) others →
    All (IsTermIn history work) ((joined path ++ goal) ++ t ∷ others)
known_in history work path goal t others h k l m =
    ids_append history work (joined path ++ goal) (t ∷ others) (ids_append history work (joined path) goal (path_in history work path h) k) (ids_cons history work t others l m)

-- the goal and the variables are among the known terms
pub goal_known : (bank : Content) (path : List (Vec TermId Global)) (goal : List TermId) (these : List TermId) → AreAmong (terms_at bank goal) (terms_at bank ((joined path ++ goal) ++ these))
goal_known bank path goal these u m =
    subst (IsAmong u) (sym (terms_joined bank (joined path ++ goal) these ∙ ap (λ c. c ++ terms_at bank these) (terms_joined bank (joined path) goal)))
    (goal_before (terms_at bank (joined path) ++ terms_at bank goal) (terms_at bank these) u (goal_within (terms_at bank (joined path)) (terms_at bank goal) u m))

variable_mapped : (x : Name) (xs : List Name) → IsAmong x xs → IsAmong (Variable x) (map Variable xs)
variable_mapped x [] m = m
variable_mapped x (y ∷ xs) (inl e) = inl (ap Variable e)
variable_mapped x (y ∷ xs) (inr m) = inr (variable_mapped x xs m)

pub variables_known : (bank : Content) (path : List (Vec TermId Global)) (goal these : List TermId) (xs : List Name) → terms_at bank these ≡ map Variable xs → (x : Name) → IsAmong x xs → IsAmong (Variable x) (terms_at bank ((joined path ++ goal) ++ these))
variables_known bank path goal these xs are x m =
    subst (IsAmong (Variable x)) (sym (terms_joined bank (joined path ++ goal) these)) (goal_within (terms_at bank (joined path ++ goal)) (terms_at bank these) (Variable x) (subst (IsAmong (Variable x)) (sym are) (variable_mapped x xs m)))
