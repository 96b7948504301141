-- Goals whose lines follow from those of other goals.
use Rattle.std.proofs.Common.{◌≡◌, ◌<◌, ℕ, zero, suc, Bool, true, false, Some, None, List, [], ◌∷◌, ◌++◌, length, map, get_or, refl, sym, ap, ◌∙◌, subst, inl, inr, arith, if◌then◌else◌}
use Rattle.std.specs.Prelude.{All, bytes_eq, codes}
use Rattle.std.specs.Option.{option_map}
use Rattle.nq_logic.specs.Terms.{Name, Symbol, Term, Variable, Function, Applied, Takes, IsAmong, substituted}
use Rattle.nq_logic.specs.Ground.{symbols_of}
use Rattle.nq_logic.specs.Words.{not_term, equal_term, numeral}
use Rattle.nq_bank.specs.declared.node.TermId.{TermId}
use Rattle.nq_bank.specs.Content.{Content, Stands, IsIdOf, text_at, term_at, terms_at}
use Rattle.nq_bank.proofs.NodesLemmas.{All-head, All-tail}
use Rattle.nq_bank.proofs.Growth.{term_at-grown, terms_at-grown}
use Rattle.nq_bank.proofs.Texts.{bytes_eq-true, eq-bytes_eq}
use Rattle.nq_proof.specs.Clauses.{Clause, same_term, without, distinct}
use Rattle.nq_proof.proofs.Tests.{same_true}
use Rattle.nq_rule.proofs.LiteralLemmas.{true_same}
use Rattle.nq_history.specs.declared.entry.Entry.{Entry}
use Rattle.nq_history.specs.Events.{events_at}
use Rattle.nq_kernel.specs.declared.work.Work.{Work}
use Rattle.nq_kernel.specs.Over.{IsVariable, IsTermOf}
use Rattle.nq_kernel.specs.Growing.{WorkStands, WorkGrows}
use Rattle.nq_lines.specs.Lines.{LineHasOnly, IsTermIn, AreAmong}
use Rattle.nq_lines.proofs.LineLemmas.{only_grown, only_more, from_distinct, left_among}
use Rattle.nq_lines.proofs.TermLemmas.{same_term_grown}
use Rattle.nq_lines.proofs.Among.{on_left}
use Rattle.nq_goals.specs.Equations.{hypothesis_equation}
use Rattle.nq_goals.specs.Replacing.{exchanged, exchanged_within}
use Rattle.nq_moves.specs.declared.equations.Sides.{Sides}
use Rattle.nq_moves.specs.declared.equal.Swap.{Swap}
use Rattle.nq_moves.specs.declared.substituting.Found.{Found}
use Rattle.nq_moves.specs.Found.{sides_at, IsFound, substituting_at}
use Rattle.nq_goals.specs.Substituting.{substitutions_of, substituted_goal}
use Rattle.nq_moves.specs.Laws.{IsEquation}
use Rattle.nq_moves.proofs.CandidateLemmas.{candidate_is}
use Rattle.nq_moves.specs.Equal.{swap_at}
use Rattle.nq_moves.specs.Back.{Denies, AreSides, AreBack}

no_both : (t : Bool) → t ≡ true → t ≡ false → ⊥
no_both true h k = absurd cc
no_both false h k = absurd cc

-- the side that is not the one
pub other_left : (left right other one : Term) → AreSides left right other one → same_term right one ≡ true → left ≡ other
other_left left right other one (inl e) same = e.0
other_left left right other one (inr e) same = e.0 ∙ sym (same_true right one same) ∙ e.1

pub other_right : (left right other one : Term) → AreSides left right other one → same_term right one ≡ false → right ≡ other
other_right left right other one (inl e) same = absurd (no_both (same_term right one) (true_same right one e.1) same)
other_right left right other one (inr e) same = e.1

some_same : {X : Type 0} (x y : X) → Some x ≡ Some y → x ≡ y
some_same x y e = cc

-- the sides of the equation that a literal denies
pub sides_denied : (bank : Content) (literal other one : Term) (sides : Sides) → option_map (sides_at bank) (Some sides) ≡ hypothesis_equation literal → Denies literal other one → AreSides (term_at bank sides.left) (term_at bank sides.right) other one
sides_denied bank literal other one sides e (inl is) =
    let same : sides_at bank sides ≡ record { left = other; right = one } = some_same (sides_at bank sides) (record { left = other; right = one }) (e ∙ ap hypothesis_equation is) in
    inl (ap (λ q. q.left) same, ap (λ q. q.right) same)
sides_denied bank literal other one sides e (inr is) =
    let same : sides_at bank sides ≡ record { left = one; right = other } = some_same (sides_at bank sides) (record { left = one; right = other }) (e ∙ ap hypothesis_equation is) in
    inr (ap (λ q. q.left) same, ap (λ q. q.right) same)

pub none_denied : (literal other one : Term) → None ≡ hypothesis_equation literal → Denies literal other one → ⊥
none_denied literal other one e (inl is) = let no : None ≡ Some (record { left = other; right = one }) = e ∙ ap hypothesis_equation is in absurd cc
none_denied literal other one e (inr is) = let no : None ≡ Some (record { left = one; right = other }) = e ∙ ap hypothesis_equation is in absurd cc

-- the sides are over the functions that the literal is over
module _ (symbols : List Symbol) where
  abbrev IsIn : Term → Type 0
  IsIn t = IsTermOf IsVariable symbols t

  first_side : (a b : Term) → IsIn (not_term (equal_term a b)) → IsIn a
  first_side a b k = record { over = k.over.1.0.1; variables = k.variables.1.0.1 }

  second_side : (a b : Term) → IsIn (not_term (equal_term a b)) → IsIn b
  second_side a b k = record { over = k.over.1.1; variables = k.variables.1.1 }

  pub side_over : (literal a b : Term) → Denies literal a b → IsIn literal → IsIn a
  side_over literal a b (inl e) k = first_side a b (subst IsIn e k)
  side_over literal a b (inr e) k = second_side b a (subst IsIn e k)

  pub side_over_too : (literal a b : Term) → Denies literal a b → IsIn literal → IsIn b
  side_over_too literal a b (inl e) k = second_side a b (subst IsIn e k)
  side_over_too literal a b (inr e) k = first_side b a (subst IsIn e k)

-- the terms of ids that are in are over the history
module _ (history : List Entry) (work : Work) where
  abbrev pub IsInWork : Term → Type 0
  IsInWork t = IsTermOf IsVariable (symbols_of (events_at work.bank history)) t

  pub each_over : (ids : List TermId) → All (IsTermIn history work) ids → (t : Term) → IsAmong t (terms_at work.bank ids) → IsInWork t
  each_over [] all t m = absurd m
  each_over (x ∷ ids) all t (inl e) = subst IsInWork (sym e) (All-head (IsTermIn history work) x ids all).over
  each_over (x ∷ ids) all t (inr m) = each_over ids (All-tail (IsTermIn history work) x ids all) t m

  -- ids of some of the terms are in too
  pub some_in : (ids rest : List TermId) → All (IsTermIn history work) ids → All (Stands work.bank) rest → AreAmong (terms_at work.bank rest) (terms_at work.bank ids) → All (IsTermIn history work) rest
  some_in ids [] all stand within = λ k d below. absurd (omega (arith, below))
  some_in ids (x ∷ rest) all stand within = λ k d below. at_place (some_in ids rest all (All-tail (Stands work.bank) x rest stand) (λ t m. within t (inr m))) k d below
    where
      at_place : All (IsTermIn history work) rest → (k : ℕ) (d : TermId) → k < length (x ∷ rest) → IsTermIn history work (get_or (x ∷ rest) k d)
      at_place more zero d below = record { stands = All-head (Stands work.bank) x rest stand; over = each_over ids all (term_at work.bank x) (within (term_at work.bank x) (inl refl)) }
      at_place more (suc k) d below = more k d (omega (arith, below))

  pub all_stand : (ids : List TermId) → All (IsTermIn history work) ids → All (Stands work.bank) ids
  all_stand ids all = λ k d below. (all k d below).stands

pub without_among : (l : Term) (c : Clause) → AreAmong (without l c) c
without_among l c t m = left_among t l c m

-- to exchange a variable is to substitute for it
bytes_apart : (x y : Name) → bytes_eq x y ≡ false → bytes_eq y x ≡ false
bytes_apart x y e = by_test (bytes_eq y x) refl
  where
    by_test : (b : Bool) → bytes_eq y x ≡ b → bytes_eq y x ≡ false
    by_test true k = absurd (no_both (bytes_eq x y) (eq-bytes_eq x y (sym (bytes_eq-true y x k))) e)
    by_test false k = k

module _ (x : Name) (a : Term) where
  of_variable : (y : Name) (b : Bool) → bytes_eq x y ≡ b → exchanged ((Variable x, a) ∷ []) (Variable y) ≡ substituted ((x, a) ∷ []) (Variable y)
  of_variable y true e =
      ap (λ b. elim b as (λ b. Term) [ true ↦ a | false ↦ Variable y ]) e ∙ sym (ap (λ b. if b then a else Variable y) (eq-bytes_eq y x (sym (bytes_eq-true x y e))))
  of_variable y false e =
      ap (λ b. elim b as (λ b. Term) [ true ↦ a | false ↦ Variable y ]) e ∙ sym (ap (λ b. if b then a else Variable y) (bytes_apart x y e))

  two : (t u : Term) → exchanged_within ((Variable x, a) ∷ []) t ≡ substituted ((x, a) ∷ []) t → exchanged ((Variable x, a) ∷ []) u ≡ substituted ((x, a) ∷ []) u → exchanged_within ((Variable x, a) ∷ []) (Applied t u) ≡ substituted ((x, a) ∷ []) (Applied t u)
  two t u left right = ap (λ v. Applied v (exchanged ((Variable x, a) ∷ []) u)) left ∙ ap (Applied (substituted ((x, a) ∷ []) t)) right

  both_ways : (symbols : List Symbol) (t : Term) → ((n : ℕ) → Takes symbols t (suc n) → exchanged_within ((Variable x, a) ∷ []) t ≡ substituted ((x, a) ∷ []) t) × (Takes symbols t zero → exchanged ((Variable x, a) ∷ []) t ≡ substituted ((x, a) ∷ []) t)
  both_ways symbols (Variable y) = (λ n h. absurd h, λ h. of_variable y (bytes_eq x y) refl)
  both_ways symbols (Function f) = (λ n h. refl, λ h. refl)
  both_ways symbols (Applied t u) =
      let left = both_ways symbols t in
      let right = both_ways symbols u in
      (λ n h. two t u (left.0 (suc n) h.0) (right.1 h.1), λ h. two t u (left.0 zero h.0) (right.1 h.1))

  pub exchanged-variable : (symbols : List Symbol) (t : Term) → IsTermOf IsVariable symbols t → exchanged ((Variable x, a) ∷ []) t ≡ substituted ((x, a) ∷ []) t
  exchanged-variable symbols t h = (both_ways symbols t).1 h.over

  pub exchanged-variables : (symbols : List Symbol) (ts : List Term) → ((t : Term) → IsAmong t ts → IsTermOf IsVariable symbols t) → map (exchanged ((Variable x, a) ∷ [])) ts ≡ map (substituted ((x, a) ∷ [])) ts
  exchanged-variables symbols [] each = refl
  exchanged-variables symbols (t ∷ ts) each =
      ap (λ u. u ∷ map (exchanged ((Variable x, a) ∷ [])) ts) (exchanged-variable symbols t (each t (inl refl))) ∙
      ap (λ us. substituted ((x, a) ∷ []) t ∷ us) (exchanged-variables symbols ts (λ u m. each u (inr m)))

  pub exchanged-numeral : (n : ℕ) → exchanged ((Variable x, a) ∷ []) (numeral n) ≡ numeral n
  unfolding numeral
  exchanged-numeral zero = refl
  exchanged-numeral (suc n) = ap (Applied (Function (codes "ADD1"))) (exchanged-numeral n)

-- The line of the goal, by a line that was carried back.
module _ (history : List Entry) (old mid new : Work) (stood : WorkStands history old) (grows : WorkGrows history old mid) (goal rest : List TermId) (w : Swap) (line n : ℕ) where
  pub closed_back : All (IsTermIn history old) goal → All (Stands old.bank) rest → terms_at old.bank rest ≡ without (term_at old.bank w.hypothesis) (terms_at old.bank goal) → IsTermIn history old w.from → IsTermIn history old w.into → Stands old.bank w.hypothesis → IsAmong (term_at old.bank w.hypothesis) (terms_at old.bank goal) → LineHasOnly old line (map (exchanged (swap_at old.bank w)) (without (term_at old.bank w.hypothesis) (terms_at old.bank goal)) ++ terms_at old.bank goal) → AreBack mid new w rest line n → LineHasOnly new n (terms_at old.bank goal)
  closed_back all stand rest_is from into hypothesis among has back =
      let goal_same : terms_at mid.bank goal ≡ terms_at old.bank goal = terms_at-grown old.bank mid.bank goal grows.bank (all_stand history old goal all) in
      let rest_same : terms_at mid.bank rest ≡ terms_at old.bank rest = terms_at-grown old.bank mid.bank rest grows.bank stand in
      let swap_same : swap_at mid.bank w ≡ swap_at old.bank w =
      ap (λ t. (t, term_at mid.bank w.into) ∷ []) (same_term_grown history old mid w.from grows from) ∙ ap (λ t. (term_at old.bank w.from, t) ∷ []) (same_term_grown history old mid w.into grows into) in
      let there : IsAmong (term_at mid.bank w.hypothesis) (terms_at old.bank goal) = subst (λ t. IsAmong t (terms_at old.bank goal)) (sym (term_at-grown old.bank mid.bank w.hypothesis grows.bank hypothesis)) among in
      let within : AreAmong (terms_at mid.bank rest) (terms_at old.bank goal) =
      λ t m. without_among (term_at old.bank w.hypothesis) (terms_at old.bank goal) t (subst (IsAmong t) (rest_same ∙ rest_is) m) in
      let given : map (exchanged (swap_at old.bank w)) (without (term_at old.bank w.hypothesis) (terms_at old.bank goal)) ≡ map (exchanged (swap_at mid.bank w)) (terms_at mid.bank rest) =
      ap (map (exchanged (swap_at old.bank w))) (sym (rest_same ∙ rest_is)) ∙ ap (λ es. map (exchanged es) (terms_at mid.bank rest)) (sym swap_same) in
      back (terms_at old.bank goal) there within (subst (λ c. LineHasOnly mid line (c ++ terms_at old.bank goal)) given (only_grown history old mid line _ stood grows has))

-- the child's line, of literals in which a term was put for a variable
pub child_exchanged : (work : Work) (line : ℕ) (goal : Clause) (l : Term) (x : Name) (a : Term) (symbols : List Symbol) → ((t : Term) → IsAmong t goal → IsTermOf IsVariable symbols t) → LineHasOnly work line (distinct (map (substituted ((x, a) ∷ [])) (without l goal))) → LineHasOnly work line (map (exchanged ((Variable x, a) ∷ [])) (without l goal) ++ goal)
child_exchanged work line goal l x a symbols each has =
    let same = exchanged-variables x a symbols (without l goal) (λ t m. each t (without_among l goal t m)) in
    only_more work line (distinct (map (substituted ((x, a) ∷ [])) (without l goal))) (map (exchanged ((Variable x, a) ∷ [])) (without l goal) ++ goal)
    (λ t m. on_left (map (exchanged ((Variable x, a) ∷ [])) (without l goal)) goal t (subst (IsAmong t) (sym same) (from_distinct t (map (substituted ((x, a) ∷ [])) (without l goal)) m))) has

-- the same of a swap of which this is known
pub closed_by : (history : List Entry) (old mid new : Work) → WorkStands history old → WorkGrows history old mid → (goal rest : List TermId) (w : Swap) (literal from into : TermId) (line n : ℕ) → All (IsTermIn history old) goal → All (Stands old.bank) rest → terms_at old.bank rest ≡ without (term_at old.bank literal) (terms_at old.bank goal) → IsTermIn history old from → IsTermIn history old into → Stands old.bank literal → IsAmong (term_at old.bank literal) (terms_at old.bank goal) → LineHasOnly old line (map (exchanged ((term_at old.bank from, term_at old.bank into) ∷ [])) (without (term_at old.bank literal) (terms_at old.bank goal)) ++ terms_at old.bank goal) → w.hypothesis ≡ literal → w.from ≡ from → w.into ≡ into → AreBack mid new w rest line n → LineHasOnly new n (terms_at old.bank goal)
closed_by history old mid new stood grows goal rest w literal from into line n all stand rest_is left right stands among has same_literal same_from same_into back =
    closed_back history old mid new stood grows goal rest w line n all stand
    (rest_is ∙ ap (λ x. without (term_at old.bank x) (terms_at old.bank goal)) (sym same_literal))
    (subst (IsTermIn history old) (sym same_from) left) (subst (IsTermIn history old) (sym same_into) right) (subst (Stands old.bank) (sym same_literal) stands)
    (subst (λ x. IsAmong (term_at old.bank x) (terms_at old.bank goal)) (sym same_literal) among)
    (subst (λ x. LineHasOnly old line (map (exchanged ((term_at old.bank x, term_at old.bank w.into) ∷ [])) (without (term_at old.bank w.hypothesis) (terms_at old.bank goal)) ++ terms_at old.bank goal)) (sym same_from)
    (subst (λ x. LineHasOnly old line (map (exchanged ((term_at old.bank from, term_at old.bank x) ∷ [])) (without (term_at old.bank w.hypothesis) (terms_at old.bank goal)) ++ terms_at old.bank goal)) (sym same_into)
    (subst (λ x. LineHasOnly old line (map (exchanged ((term_at old.bank from, term_at old.bank into) ∷ [])) (without (term_at old.bank x) (terms_at old.bank goal)) ++ terms_at old.bank goal)) (sym same_literal) has))) back

-- what a candidate of SUBST gives
module _ (history : List Entry) (work : Work) (goal : List TermId) (f : Found) (all : All (IsTermIn history work) goal) (is : IsFound work.bank (substitutions_of (terms_at work.bank goal)) f) where
  abbrev pub x_is : Name
  x_is = text_at work.bank f.variable

  equation_is : IsEquation (terms_at work.bank goal) (substituting_at work.bank f)
  equation_is = candidate_is (terms_at work.bank goal) (substituting_at work.bank f) is.among

  pub literal_among : IsAmong (term_at work.bank f.literal) (terms_at work.bank goal)
  literal_among = equation_is.among

  pub literal_denies : Denies (term_at work.bank f.literal) (Variable x_is) (term_at work.bank f.term)
  literal_denies = equation_is.reads

  literal_over : IsInWork history work (term_at work.bank f.literal)
  literal_over = each_over history work goal all (term_at work.bank f.literal) literal_among

  pub term_in : IsTermIn history work f.term
  term_in = record { stands = is.stands.term; over = side_over_too (symbols_of (events_at work.bank history)) (term_at work.bank f.literal) (Variable x_is) (term_at work.bank f.term) literal_denies literal_over }

  pub variable_in : (from : TermId) → IsIdOf work.bank from (Variable x_is) → IsTermIn history work from
  variable_in from id =
      record { stands = id.stands; over = subst (IsInWork history work) (sym id.denotes) (side_over (symbols_of (events_at work.bank history)) (term_at work.bank f.literal) (Variable x_is) (term_at work.bank f.term) literal_denies literal_over) }

  pub line_exchanged : (line : ℕ) → LineHasOnly work line (substituted_goal (substituting_at work.bank f) (terms_at work.bank goal)) → LineHasOnly work line (map (exchanged ((Variable x_is, term_at work.bank f.term) ∷ [])) (without (term_at work.bank f.literal) (terms_at work.bank goal)) ++ terms_at work.bank goal)
  line_exchanged line has = child_exchanged work line (terms_at work.bank goal) (term_at work.bank f.literal) x_is (term_at work.bank f.term) (symbols_of (events_at work.bank history)) (each_over history work goal all) has

-- the only one of a list
pub only_item : {X : Type 0} (xs : List X) (x y : X) → xs ≡ y ∷ [] → x ≡ get_or xs 0 x → x ≡ y
only_item xs x y is got = got ∙ ap (λ ys. get_or ys 0 x) is
