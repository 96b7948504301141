-- The elimination that is chosen for a destructor call and a call of the goal is a candidate.
use Rattle.std.proofs.Common.{◌≡◌, ◌≤◌, ℕ, Bool, true, false, ◌||◌, ◌&&◌, if◌then◌else◌, Option, Some, None, List, [], ◌∷◌, length, map, refl, sym, ap, ap₂, ◌∙◌, subst, inl, inr, arith}
use Rattle.std.specs.Prelude.{bytes_eq, not}
use Rattle.std.specs.Option.{option_map}
use Rattle.std.proofs.lemmas.List.{length-map}
use Rattle.nq_logic.specs.Terms.{IsAmong, Name, Term, Variable, Function, Applied, Substitution, call, substituted, value_at}
use Rattle.nq_logic.specs.Histories.{History}
use Rattle.nq_logic.specs.Names.{has_name}
use Rattle.nq_logic.specs.RuleShapes.{has_argument, has_distinct_variables, is_destructor_call, variables_of}
use Rattle.nq_bank.specs.Parts.{parts_of}
use Rattle.nq_bank.proofs.Texts.{bytes_eq-true, eq-bytes_eq}
use Rattle.nq_clause.proofs.SubstitutionLemmas.{substituted-call}
use Rattle.nq_proof.specs.Clauses.{Clause}
use Rattle.nq_events.specs.Events.{Hints}
use Rattle.nq_rules.specs.Variables as variable
use Rattle.nq_goals.specs.Eliminating.{ElimRule, Eliminating, EliminateCandidate, destructors, destructors_of, elim_rules, name_in, named_by, names_for, no_copies, other_variables, renaming, renaming_of}
use Rattle.nq_goals.specs.NewVariables.{clause_variables}
use Rattle.nq_goals.specs.Replacing.{stands_in_one}
use Rattle.nq_stuck.proofs.StandingLemmas.{one_among}
use Rattle.nq_moves.specs.Laws.{AreNewNames}
use Rattle.nq_moves.proofs.NewLemmas.{new_names as new_names_law}
use Rattle.nq_eliminate.specs.Choosing.{chosen_by, names_of, new_names, paired, rule_variables, with_names}
use Rattle.nq_eliminate.specs.Images.{IsCallOver, Separates, become_one, has_other, image, same_known}
use Rattle.nq_eliminate.specs.Serving.{IsServed, are_variables}
use Rattle.nq_eliminate.proofs.CallShapes.{both, variable_among}
use Rattle.nq_eliminate.proofs.CandidateLemmas.{IsDestructor, IsOfRule, apart_from, both_true, destructor_is, of_rule, stands_there}
use Rattle.nq_eliminate.proofs.Fresh.{FromCall, Pairs, Source, told, fresh, fresh_same, name_from, none_some, passed_on, source, value_here, value_later}
use Rattle.nq_eliminate.proofs.ImageLemmas.{same_image}
use Rattle.nq_eliminate.proofs.LawLemmas.{names_many}
use Rattle.nq_eliminate.proofs.Names.{among_has, goal_variables, has_among, same_name, same_some}
use Rattle.nq_eliminate.proofs.PlainLemmas.{each_from}
use Rattle.nq_eliminate.proofs.ServingLemmas.{distinct_arguments, variable_arguments}

-- ---- variables and their names

pub named_variables : (ts : List Term) → are_variables ts ≡ true → ts ≡ map Variable (names_of ts)
named_variables [] e = refl
named_variables (Variable x ∷ ts) e = ap (λ r. Variable x ∷ r) (named_variables ts e)
named_variables (Function f ∷ ts) e = absurd (cc)
named_variables (Applied t u ∷ ts) e = absurd (cc)

pub image_named : (xs ys : List Name) (x : Name) → image (map Variable xs) (map Variable ys) (Variable x) ≡ option_map Variable (name_in (paired xs ys) x)
image_named [] ys x = refl
image_named (a ∷ xs) [] x = refl
image_named (a ∷ xs) (b ∷ ys) x = by_test (bytes_eq x a) (image_named xs ys x)
  where
    by_test : (t : Bool) → image (map Variable xs) (map Variable ys) (Variable x) ≡ option_map Variable (name_in (paired xs ys) x) →
        (if t then Some (Variable b) else image (map Variable xs) (map Variable ys) (Variable x)) ≡ option_map Variable (if t then Some b else name_in (paired xs ys) x)
    by_test true later = refl
    by_test false later = later

named_among : (xs ys : List Name) (x z : Name) → name_in (paired xs ys) x ≡ Some z → IsAmong (Variable z) (map Variable ys)
named_among [] ys x z e = absurd (cc)
named_among (a ∷ xs) [] x z e = absurd (cc)
named_among (a ∷ xs) (b ∷ ys) x z e = by_test (bytes_eq x a) (λ k. named_among xs ys x z k) e
  where
    by_test : (t : Bool) → (name_in (paired xs ys) x ≡ Some z → IsAmong (Variable z) (map Variable ys)) → (if t then Some b else name_in (paired xs ys) x) ≡ Some z → IsAmong (Variable z) (map Variable (b ∷ ys))
    by_test true later k = inl (ap Variable (sym (same_some b z k)))
    by_test false later k = inr (later k)

or_right : (a b : Bool) → b ≡ true → (a || b) ≡ true
or_right true b e = refl
or_right false b e = e

other_named : (xs ys : List Name) (x v y : Name) → bytes_eq x v ≡ false → name_in (paired xs ys) x ≡ Some y → has_other (map Variable xs) (map Variable ys) (Variable v) (Variable y) ≡ true
other_named [] ys x v y apart e = absurd (cc)
other_named (a ∷ xs) [] x v y apart e = absurd (cc)
other_named (a ∷ xs) (b ∷ ys) x v y apart e = by_test (bytes_eq x a) refl (λ k. other_named xs ys x v y apart k) e
  where
    rest : Bool
    rest = has_other (map Variable xs) (map Variable ys) (Variable v) (Variable y)

    by_test : (t : Bool) → bytes_eq x a ≡ t → (name_in (paired xs ys) x ≡ Some y → rest ≡ true) → (if t then Some b else name_in (paired xs ys) x) ≡ Some y → ((bytes_eq b y && not (bytes_eq a v)) || rest) ≡ true
    by_test true k later h =
        let same : b ≡ y = same_some b y h in
        let here : bytes_eq a v ≡ false = ap (λ n. bytes_eq n v) (sym (bytes_eq-true x a k)) ∙ apart in
        ap (λ c. (c && not (bytes_eq a v)) || rest) (eq-bytes_eq b y same) ∙ ap (λ c. not c || rest) here
    by_test false k later h = or_right (bytes_eq b y && not (bytes_eq a v)) rest (later h)

-- distinct variables become what is in their places
has_there : (x : Name) (xs : List Name) → IsAmong x xs → variable.has_variable x (map Variable xs) ≡ true
has_there x [] m = absurd m
has_there x (y ∷ xs) (inl e) = ap (λ b. b || variable.has_variable x (map Variable xs)) (eq-bytes_eq x y e)
has_there x (y ∷ xs) (inr m) = or_right (bytes_eq x y) (variable.has_variable x (map Variable xs)) (has_there x xs m)

not_there : (a x : Name) (xs : List Name) → not (variable.has_variable a (map Variable xs)) ≡ true → IsAmong x xs → bytes_eq x a ≡ false
not_there a x xs none m = by_test (bytes_eq x a) refl
  where
    by_test : (b : Bool) → bytes_eq x a ≡ b → b ≡ false
    by_test false k = refl
    by_test true k = let has : variable.has_variable a (map Variable xs) ≡ true = has_there a xs (subst (λ n. IsAmong n xs) (bytes_eq-true x a k) m) in absurd (cc)

made_all : (s : Substitution) (xs ys : List Name) → length xs ≡ length ys → variable.are_distinct_variables (map Variable xs) ≡ true → ((x z : Name) → IsAmong x xs → name_in (paired xs ys) x ≡ Some z → value_at s x ≡ Variable z) →
    map (substituted s) (map Variable xs) ≡ map Variable ys
made_all s [] [] many apart each = refl
made_all s [] (y ∷ ys) many apart each = absurd (omega (arith, many))
made_all s (x ∷ xs) [] many apart each = absurd (omega (arith, many))
made_all s (x ∷ xs) (y ∷ ys) many apart each =
    let parts = both_true (not (variable.has_variable x (map Variable xs))) (variable.are_distinct_variables (map Variable xs)) apart in
    let here : value_at s x ≡ Variable y = each x y (inl refl) (ap (λ b. if b then Some y else name_in (paired xs ys) x) (eq-bytes_eq x x refl)) in
    let rest = made_all s xs ys (omega (arith, many)) parts.1 (λ z w m e. each z w (inr m) (ap (λ b. if b then Some y else name_in (paired xs ys) z) (not_there x z xs parts.0 m) ∙ e)) in
    ap₂ (λ (t : Term) (ts : List Term). t ∷ ts) here rest

variable_mapped : (x : Name) (xs : List Name) → IsAmong x xs → IsAmong (Variable x) (map Variable xs)
variable_mapped x [] m = m
variable_mapped x (y ∷ xs) (inl e) = inl (ap Variable e)
variable_mapped x (y ∷ xs) (inr m) = inr (variable_mapped x xs m)

-- what is known of the variable
pub record IsNamed (ps : Pairs) (v : Name) (t : Term) : Type 0 where
  pub name : List ℕ
  pub named : name_in ps v ≡ Some name
  pub is : t ≡ Variable name

is_named : (ps : Pairs) (v : Name) (t : Term) → option_map Variable (name_in ps v) ≡ Some t → IsNamed ps v t
is_named ps v t e = by_option (name_in ps v) refl e
  where
    by_option : (o : Option (List ℕ)) → name_in ps v ≡ o → option_map Variable o ≡ Some t → IsNamed ps v t
    by_option None k h = absurd (cc)
    by_option (Some y) k h = record { name = y; named = k; is = sym (same_image (Variable y) t h) }

-- ---- the candidate

module _ (h : History) (hints : Hints) (goal : Clause) (rule : ElimRule) (enabled : IsAmong rule (elim_rules h hints)) (d u : Term) (m : IsAmong d (destructors rule)) (served : IsServed rule.variable goal (destructors rule) d u) where
  abbrev v : List ℕ
  v = rule.variable

  abbrev others : List Name
  others = other_variables rule

  abbrev from : List Term
  from = parts_of d

  abbrev to : List Term
  to = parts_of u

  abbrev xs : List Name
  xs = names_of from

  abbrev ys : List Name
  ys = names_of to

  abbrev ps : Pairs
  ps = paired xs ys

  abbrev new : List Name
  new = new_names goal rule

  is : IsDestructor rule d
  is = destructor_is rule d m

  destructor : is_destructor_call v (call served.may.function from) ≡ true
  destructor = ap (is_destructor_call v) (sym served.may.first) ∙ both (has_distinct_variables [] d) (has_argument v d) is.flat is.argument

  pub from_is : from ≡ map Variable xs
  from_is = named_variables from (variable_arguments v served.may.function from destructor)

  pub to_is : to ≡ map Variable ys
  to_is = named_variables to served.may.serves.becomes.variables

  as_many : length xs ≡ length ys
  as_many =
      sym (length-map xs Variable) ∙ (ap length (sym from_is) ∙ (served.may.serves.becomes.many ∙ (ap length to_is ∙ length-map ys Variable)))

  image_is : (x : Name) → image from to (Variable x) ≡ option_map Variable (name_in ps x)
  image_is x = ap₂ (λ (ts us : List Term). image ts us (Variable x)) from_is to_is ∙ image_named xs ys x

  pub known : IsNamed ps v served.may.serves.becomes.into
  known = is_named ps v served.may.serves.becomes.into (sym (image_is v) ∙ served.may.serves.becomes.becomes)

  abbrev y : List ℕ
  y = known.name

  -- the one that is chosen
  abbrev pub other : Eliminating
  other = record { rule = rule; variable = y; others = names_for ps others new }

  pub chosen_is : chosen_by goal rule d u ≡ other
  chosen_is = ap (λ o. with_names rule (named_by o new (names_for ps others))) known.named

  abbrev r : Substitution
  r = renaming_of other

  are_new : AreNewNames (clause_variables goal) (length others)
  are_new = new_names_law (clause_variables goal) (length others)

  enough : length others ≤ length new
  enough = omega (arith, are_new.many)

  apart_of : (x : Name) → IsAmong x others → bytes_eq x v ≡ false
  apart_of x n = apart_from x v _ n

  source_of : (x : Name) → IsOfRule rule x → Source ps new r x
  source_of x (inl same) = told y (ap (name_in ps) same ∙ known.named) (ap (value_at r) same ∙ value_here v v y (renaming others (names_for ps others new)) (eq-bytes_eq v v refl))
  source_of x (inr n) = passed_on ps new new (renaming others (names_for ps others new)) x v y (apart_of x n) (λ z k. k) (source ps others new x n enough)

  u_is : u ≡ call served.may.function to
  u_is = served.may.serves.second

  in_goal : (x z : Name) → name_in ps x ≡ Some z → has_name z (clause_variables goal) ≡ true
  in_goal x z named =
      let among : IsAmong (Variable z) to = subst (IsAmong (Variable z)) (sym to_is) (named_among xs ys x z named) in
      let of_call : IsAmong z (variables_of u) = subst (λ t. IsAmong z (variables_of t)) (sym u_is) (variable_among z (Function served.may.function) to among) in
      among_has z (clause_variables goal) (goal_variables z goal u (one_among u goal served.stands) of_call)

  not_new : (a z : List ℕ) → has_name a (clause_variables goal) ≡ true → IsAmong z new → a ≡ z → ⊥
  not_new a z there n same =
      let unused : has_name z (clause_variables goal) ≡ false = are_new.unused z n in
      let used : has_name z (clause_variables goal) ≡ true = ap (λ n. has_name n (clause_variables goal)) (sym same) ∙ there in
      cc

  among_others : (x : Name) → IsOfRule rule x → name_in ps x ≡ None → IsAmong x others
  among_others x (inl same) none = absurd (none_some (name_in ps x) y none (ap (name_in ps) same ∙ known.named))
  among_others x (inr n) none = n

  later_value : (x : Name) (z : List ℕ) → IsAmong x others → value_at r x ≡ Variable z → value_at (renaming others (names_for ps others new)) x ≡ Variable z
  later_value x z n value = sym (value_later x v y (renaming others (names_for ps others new)) (apart_of x n)) ∙ value

  -- no others become one than those that must
  separates : Separates r (rule_variables rule) from to
  separates a b of_a of_b same = by_sources (source_of a of_a) (source_of b of_b)
    where
      both_told : (z w : List ℕ) → name_in ps a ≡ Some z → name_in ps b ≡ Some w → z ≡ w → become_one from to (Variable a) (Variable b) ≡ true
      both_told z w i j one =
          let left : image from to (Variable a) ≡ Some (Variable z) = image_is a ∙ ap (option_map Variable) i in
          let right : image from to (Variable b) ≡ Some (Variable w) = image_is b ∙ ap (option_map Variable) j in
          or_right (bytes_eq a b) (same_known (image from to (Variable a)) (image from to (Variable b))) (ap₂ same_known left right ∙ eq-bytes_eq z w one)

      by_sources : Source ps new r a → Source ps new r b → become_one from to (Variable a) (Variable b) ≡ true
      by_sources (told z i k) (told w j l) = both_told z w i j (same_name z w (sym k ∙ (same ∙ l)))
      by_sources (told z i k) (fresh w j n l) = absurd (not_new z w (in_goal a z i) n (same_name z w (sym k ∙ (same ∙ l))))
      by_sources (fresh z i n k) (told w j l) = absurd (not_new w z (in_goal b w j) n (same_name w z (sym l ∙ (sym same ∙ k))))
      by_sources (fresh z i n k) (fresh w j o l) =
          let ma = among_others a of_a i in
          let mb = among_others b of_b j in
          let one : a ≡ b = fresh_same ps others new a b z are_new.distinct enough ma mb i j (later_value a z ma k) (later_value b z mb (sym same ∙ k)) in
          ap (λ t. t || same_known (image from to (Variable a)) (image from to (Variable b))) (eq-bytes_eq a b one)

  over : (t : Term) → IsAmong t (destructors rule) → IsCallOver v (rule_variables rule) t
  over t n =
      let of_t = destructor_is rule t n in
      record { destructor = both (has_distinct_variables [] t) (has_argument v t) of_t.flat of_t.argument; within = λ z k. of_rule rule t z of_t k }

  apart : no_copies (destructors_of other) ≡ true
  apart = served.may.serves.becomes.apart v (rule_variables rule) r separates (each_from (IsCallOver v (rule_variables rule)) (destructors rule) over)

  differs : has_name y other.others ≡ false
  differs = by_test (has_name y other.others) refl
    where
      from_call : FromCall ps others y → ⊥
      from_call c =
          let found : has_other from to (Variable v) (Variable y) ≡ true = ap₂ (λ (ts us : List Term). has_other ts us (Variable v) (Variable y)) from_is to_is ∙ other_named xs ys c.variable v y (apart_of c.variable c.among) c.named in
          let none : has_other from to (Variable v) (Variable y) ≡ false = ap (has_other from to (Variable v)) (sym known.is) ∙ served.may.serves.becomes.alone in
          absurd (cc)

      not_among : IsAmong y other.others → ⊥
      not_among n = elim (name_from ps others new y n) [ inl k ↦ not_new y y (in_goal v y known.named) k refl | inr c ↦ from_call c ]

      by_test : (b : Bool) → has_name y other.others ≡ b → b ≡ false
      by_test false k = refl
      by_test true k = absurd (not_among (has_among y other.others k))

  made_from : map (substituted r) (map Variable xs) ≡ map Variable ys
  made_from = made_all r xs ys as_many (ap variable.are_distinct_variables (sym from_is) ∙ distinct_arguments v served.may.function from destructor) each
    where
      each : (x z : Name) → IsAmong x xs → name_in ps x ≡ Some z → value_at r x ≡ Variable z
      each x z n named = by_source (source_of x of_x)
        where
          of_x : IsOfRule rule x
          of_x =
              let among : IsAmong (Variable x) from = subst (IsAmong (Variable x)) (sym from_is) (variable_mapped x xs n) in
              of_rule rule d x is (subst (λ t. IsAmong x (variables_of t)) (sym served.may.first) (variable_among x (Function served.may.function) from among))

          by_source : Source ps new r x → value_at r x ≡ Variable z
          by_source (told w i k) = k ∙ ap Variable (same_some w z (sym i ∙ named))
          by_source (fresh w i o k) = absurd (none_some (name_in ps x) z i named)

  makes : substituted r d ≡ u
  makes =
      ap (substituted r) served.may.first
      ∙ (substituted-call r served.may.function from
      ∙ (ap (call served.may.function) (ap (map (substituted r)) from_is ∙ (made_from ∙ sym to_is)) ∙ sym u_is))

  pub other_candidate : EliminateCandidate h hints goal other
  other_candidate =
      record {
        enabled = enabled;
        each = names_many ps others new enough;
        differs = differs;
        apart = apart;
        stands = stands_there (substituted r) d (destructors rule) goal m (ap (λ t. stands_in_one t goal) makes ∙ served.stands);
      }

  pub chosen_candidate : EliminateCandidate h hints goal (chosen_by goal rule d u)
  chosen_candidate = subst (EliminateCandidate h hints goal) (sym chosen_is) other_candidate

  -- what the variables become
  pub other_names : other.variable ∷ other.others ≡ names_for ps (rule_variables rule) new
  other_names = sym (ap (λ o. named_by o new (names_for ps others)) known.named)
