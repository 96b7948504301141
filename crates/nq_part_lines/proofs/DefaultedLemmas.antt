-- Defaults that are smaller than objects: as the work grows, and how lines of them are cut.
use Rattle.std.proofs.Common.{◌≡◌, ◌≤◌, ◌∙◌, ℕ, Bool, true, false, ◌||◌, ◌⊎◌, List, [], ◌∷◌, refl, sym, ap, ap₂, subst, inl, inr, arith}
use Rattle.std.specs.Prelude.{All, bytes_eq, codes}
use Rattle.nq_logic.specs.Terms.{Name, Term, Variable, Each, IsAmong}
use Rattle.nq_logic.specs.Words.{equal_term, not_term}
use Rattle.nq_logic.specs.Ground.{symbols_of}
use Rattle.nq_logic.specs.Histories.{History, Part as PartOfTexts}
use Rattle.nq_logic.specs.ShellPrinciple.{shells_of}
use Rattle.nq_logic.specs.Numerals.{number_of}
use Rattle.nq_logic.specs.Sizes.{depth_of, tree_depth}
use Rattle.nq_logic.proofs.Symbols.{true_symbol, false_symbol}
use Rattle.nq_bank.specs.declared.node.TermId.{TermId}
use Rattle.nq_bank.specs.Content.{Content, term_at, text_at}
use Rattle.nq_bank.proofs.Standing.{All-push}
use Rattle.nq_clause.specs.declared.substitution.Pair.{Pair}
use Rattle.nq_clause.specs.Substitution.{PairStands, substitution_at}
use Rattle.nq_proof.specs.Rules.{is_substitution, pair_terms}
use Rattle.nq_history.specs.declared.entry.Entry.{Entry}
use Rattle.nq_history.specs.Events.{events_at}
use Rattle.nq_kernel.specs.declared.work.Work.{Work}
use Rattle.nq_kernel.specs.Growing.{LineHolds, WorkStands, WorkGrows}
use Rattle.nq_kernel.specs.Over.{IsVariable, VariablesAre, pair_names}
use Rattle.nq_arith.specs.Nests.{is_smaller}
use Rattle.nq_lines.specs.Instances.{ArePairsIn, InstancesTo}
use Rattle.nq_lines.specs.Lines.{AreAmong, CutsTo, LineHasOnly}
use Rattle.nq_lines.proofs.LineLemmas.{only_grown, only_more}
use Rattle.nq_lines.proofs.FactLemmas.{substituted_over}
use Rattle.nq_lines.proofs.TermLemmas.{IsOver, same_term_grown}
use Rattle.nq_replay.specs.Uncounted.{GrowsUncounted}
use Rattle.nq_replay.proofs.UncountedLemmas.{grown_trans}
use Rattle.nq_shell_parts.specs.LawClauses.{same_is_equal_clause, smaller_as_others_are_clause}
use Rattle.nq_part_lines.specs.Defaulted.{IsDefaulted, IsLowPiece, IsPut, IsVariableTerm, others_literals, put}
use Rattle.nq_part_lines.specs.Defaults.{HasTruthDefault, has_base, is_free, truth_name}
use Rattle.nq_part_lines.specs.Known.{row_room}
use Rattle.nq_part_lines.specs.LawLines.{is_law, IsLaw}
use Rattle.nq_part_lines.specs.Pairs.{five_pairs}
use Rattle.nq_part_lines.specs.Small.{IsSmallIn}
use Rattle.nq_part_lines.specs.declared.defaulted.Defaulted.{Defaulted}
use Rattle.nq_part_lines.specs.declared.piece.Piece.{Piece}
use Rattle.nq_part_lines.proofs.GrownLemmas.{law_made}
use Rattle.nq_part_lines.proofs.PartLemmas.{right_side}
use Rattle.nq_part_lines.proofs.PartPairLemmas.{variable_name}
use Rattle.nq_part_lines.proofs.ReadingLemmas.{small_grown}
use Rattle.nq_part_lines.proofs.TakenLemmas.{only_first, turned}

-- the laws
pub same_is_law : IsLaw same_is_equal_clause
unfolding is_law symbols_of number_of tree_depth
same_is_law = refl

pub others_is_law : IsLaw smaller_as_others_are_clause
unfolding is_law symbols_of number_of tree_depth
others_is_law = refl

-- that a term is equal to itself
pub same_made : (old new : Work) (t a : Term) (line n : ℕ) → LineHolds old line same_is_equal_clause → InstancesTo old new ((codes "X", t) ∷ []) line n → LineHasOnly new n (not_term a ∷ equal_term t t ∷ [])
same_made old new t a line n holds h = law_made old new ((codes "X", t) ∷ []) same_is_equal_clause (not_term a ∷ equal_term t t ∷ []) line n holds h among
  where
    among : AreAmong (equal_term t t ∷ []) (not_term a ∷ equal_term t t ∷ [])
    among v (inl e) = inr (inl e)
    among v (inr none) = absurd none

pub others_made : (old new : Work) (a b x y z : Term) (line n : ℕ) → LineHolds old line smaller_as_others_are_clause → InstancesTo old new (five_pairs a b x y z) line n → LineHasOnly new n (others_literals a b x y)
others_made old new a b x y z line n holds h = law_made old new (five_pairs a b x y z) smaller_as_others_are_clause (others_literals a b x y) line n holds h (λ v m. m)

-- T and F are constants of each history
pub truth_in : (h : History) (yes : Bool) → IsAmong (truth_name yes, 0) (symbols_of h)
truth_in h true = true_symbol h
truth_in h false = false_symbol h

-- a test tells which of them it is
pub truth_told : (yes : Bool) (d : Name) → d ≡ truth_name yes → bytes_eq d (codes "TRUE") ≡ yes
truth_told true d e = ap (λ n. bytes_eq n (codes "TRUE")) e
truth_told false d e = ap (λ n. bytes_eq n (codes "TRUE")) e

-- where a part has a restriction, and no base for its default, its default is T or F
pub truth_default : (h : History) (part : PartOfTexts) (b : Bool) → is_free part.restriction ≡ false → has_base part.default (shells_of h) ≡ false → (is_free part.restriction || has_base part.default (shells_of h)) ≡ true ⊎ ((yes : Bool) × HasTruthDefault h part yes) → b ≡ bytes_eq part.default (codes "TRUE") → HasTruthDefault h part b
truth_default h part b free base (inl e) is = let other : has_base part.default (shells_of h) ≡ true = right_side (is_free part.restriction) (has_base part.default (shells_of h)) free e in absurd cc
truth_default h part b free base (inr k) is = subst (HasTruthDefault h part) (sym (is ∙ truth_told k.0 part.default k.1.is)) k.1

module _ (history : List Entry) (old new : Work) (stands : WorkStands history old) (grows : WorkGrows history old new) where
  pub defaulted_grown : (x : Name) (d o : Term) (z : Defaulted) → IsDefaulted history old x d o z → IsDefaulted history new x d o z
  defaulted_grown x d o z k =
      record {
        default = small_grown history old new z.default stands grows k.default;
        default_is = same_term_grown history old new z.default grows k.default.inside ∙ k.default_is;
        object = small_grown history old new z.object stands grows k.object;
        object_is = same_term_grown history old new z.object grows k.object.inside ∙ k.object_is;
        line = only_grown history old new z.line (is_smaller d (put x d o) ∷ []) stands grows k.line;
      }

  -- the terms of a piece
  pub low_grown : (p : Piece) (t : TermId) → IsLowPiece history old p t → IsLowPiece history new p t
  low_grown p t k =
      let object : term_at new.bank p.object ≡ term_at old.bank p.object = same_term_grown history old new p.object grows k.object.inside in
      let allowed : term_at new.bank p.allowed ≡ term_at old.bank p.allowed = same_term_grown history old new p.allowed grows k.allowed.inside in
      let variable : term_at new.bank p.variable ≡ term_at old.bank p.variable = same_term_grown history old new p.variable grows k.variable.inside in
      let default : term_at new.bank t ≡ term_at old.bank t = same_term_grown history old new t grows k.default.inside in
      record {
        object = small_grown history old new p.object stands grows k.object;
        object_low = subst (λ u. depth_of u ≤ row_room) (sym object) k.object_low;
        allowed = small_grown history old new p.allowed stands grows k.allowed;
        allowed_low = subst (λ u. depth_of u ≤ row_room) (sym allowed) k.allowed_low;
        variable = small_grown history old new p.variable stands grows k.variable;
        is = subst IsVariableTerm (sym variable) k.is;
        default = small_grown history old new t stands grows k.default;
        default_low = subst (λ u. depth_of u ≤ row_room) (sym default) k.default_low;
      }

  pub low_still : (t : TermId) → IsSmallIn history old t → depth_of (term_at old.bank t) ≤ row_room → depth_of (term_at new.bank t) ≤ row_room
  low_still t small low = subst (λ u. depth_of u ≤ row_room) (sym (same_term_grown history old new t grows small.inside)) low

  -- the line that the variable is smaller
  pub variable_kept : (p : Piece) (line : ℕ) → IsSmallIn history old p.allowed → IsSmallIn history old p.variable → IsSmallIn history old p.object → LineHasOnly old line (not_term (term_at old.bank p.allowed) ∷ is_smaller (term_at old.bank p.variable) (term_at old.bank p.object) ∷ []) →
      LineHasOnly new line (not_term (term_at new.bank p.allowed) ∷ is_smaller (term_at new.bank p.variable) (term_at new.bank p.object) ∷ [])
  variable_kept p line ka kv ko h =
      let allowed : term_at new.bank p.allowed ≡ term_at old.bank p.allowed = same_term_grown history old new p.allowed grows ka.inside in
      let variable : term_at new.bank p.variable ≡ term_at old.bank p.variable = same_term_grown history old new p.variable grows kv.inside in
      let object : term_at new.bank p.object ≡ term_at old.bank p.object = same_term_grown history old new p.object grows ko.inside in
      subst (LineHasOnly new line) (sym (ap₂ (λ u v. not_term u ∷ v ∷ []) allowed (ap₂ is_smaller variable object)))
      (only_grown history old new line (not_term (term_at old.bank p.allowed) ∷ is_smaller (term_at old.bank p.variable) (term_at old.bank p.object) ∷ []) stands grows h)

-- the same line later, of the terms as they were at first
pub line_kept : (history : List Entry) (w0 w1 w2 : Work) → WorkStands history w0 → GrowsUncounted history w0 w1 → GrowsUncounted history w1 w2 → (p : Piece) (line : ℕ) → IsSmallIn history w0 p.allowed → IsSmallIn history w0 p.variable → IsSmallIn history w0 p.object → LineHasOnly w1 line (not_term (term_at w0.bank p.allowed) ∷ is_smaller (term_at w0.bank p.variable) (term_at w0.bank p.object) ∷ []) →
    LineHasOnly w2 line (not_term (term_at w2.bank p.allowed) ∷ is_smaller (term_at w2.bank p.variable) (term_at w2.bank p.object) ∷ [])
line_kept history w0 w1 w2 stands first second p line ka kv ko h =
    let grows = grown_trans history w0 w1 w2 first second in
    let allowed : term_at w2.bank p.allowed ≡ term_at w0.bank p.allowed = same_term_grown history w0 w2 p.allowed grows.grows ka.inside in
    let variable : term_at w2.bank p.variable ≡ term_at w0.bank p.variable = same_term_grown history w0 w2 p.variable grows.grows kv.inside in
    let object : term_at w2.bank p.object ≡ term_at w0.bank p.object = same_term_grown history w0 w2 p.object grows.grows ko.inside in
    subst (LineHasOnly w2 line) (sym (ap₂ (λ u v. not_term u ∷ v ∷ []) allowed (ap₂ is_smaller variable object)))
    (only_grown history w1 w2 line (not_term (term_at w0.bank p.allowed) ∷ is_smaller (term_at w0.bank p.variable) (term_at w0.bank p.object) ∷ []) first.grows.stands second.grows h)

-- the same of equal terms
pub line_same : (work : Work) (n : ℕ) (x : Name) (d e a b o q : Term) → d ≡ e → a ≡ b → o ≡ q → LineHasOnly work n (not_term (put x d a) ∷ is_smaller d (put x d o) ∷ []) → LineHasOnly work n (not_term (put x e b) ∷ is_smaller e (put x e q) ∷ [])
line_same work n x d e a b o q f g k h =
    subst (λ u. LineHasOnly work n (not_term (put x e b) ∷ is_smaller e (put x e u) ∷ [])) k
    (subst (λ u. LineHasOnly work n (not_term (put x e u) ∷ is_smaller e (put x e o) ∷ [])) g
    (subst (λ u. LineHasOnly work n (not_term (put x u a) ∷ is_smaller u (put x u o) ∷ [])) f h))

pub put_same : (history : List Entry) (work : Work) (x : Name) (d e a b o q : Term) (z : Defaulted) → d ≡ e → a ≡ b → o ≡ q → IsPut history work x d a o z → IsPut history work x e b q z
put_same history work x d e a b o q z f g k h =
    subst (λ u. IsPut history work x e b u z) k (subst (λ u. IsPut history work x e u o z) g (subst (λ u. IsPut history work x u a o z) f h))

pub defaulted_same : (history : List Entry) (work : Work) (x : Name) (d e o q : Term) (z : Defaulted) → d ≡ e → o ≡ q → IsDefaulted history work x d o z → IsDefaulted history work x e q z
defaulted_same history work x d e o q z f k h = subst (λ u. IsDefaulted history work x e u z) k (subst (λ u. IsDefaulted history work x u o z) f h)

-- one pair
pub one_stands : (bank : Content) (pairs : List Pair) (a : Pair) → pairs ≡ a ∷ [] → PairStands bank a → All (PairStands bank) pairs
one_stands bank pairs a e h = subst (All (PairStands bank)) (sym e) (All-push (PairStands bank) [] a (λ i d below. absurd (omega (arith, below))) h)

pub one_pair : (bank : Content) (pairs : List Pair) (a : Pair) (t v : TermId) (x : Name) → pairs ≡ a ∷ [] → Variable (text_at bank a.variable) ≡ term_at bank v → a.term ≡ t → term_at bank v ≡ Variable x → substitution_at bank pairs ≡ (x, term_at bank t) ∷ []
one_pair bank pairs a t v x e name term is = ap (substitution_at bank) e ∙ ap₂ (λ n u. (n, u) ∷ []) (variable_name _ _ (name ∙ is)) (ap (term_at bank) term)

pub one_in : (history : List Entry) (work : Work) (pairs : List Pair) (a : Pair) (t v : TermId) → pairs ≡ a ∷ [] → PairStands work.bank a → Variable (text_at work.bank a.variable) ≡ term_at work.bank v → a.term ≡ t → IsVariableTerm (term_at work.bank v) → IsSmallIn history work v → IsSmallIn history work t → ArePairsIn history work pairs
one_in history work pairs a t v e stands name term is small_v small_t =
    let x : Name = is.0 in
    let same : substitution_at work.bank pairs ≡ (x, term_at work.bank t) ∷ [] = one_pair work.bank pairs a t v x e name term is.1 in
    let plain : IsVariable x = subst (VariablesAre IsVariable) is.1 small_v.inside.over.variables in
    record {
      stand = one_stands work.bank pairs a e stands;
      distinct = subst (λ s. is_substitution s ≡ true) (sym same) refl;
      terms = subst (λ s. Each (IsOver history work) (pair_terms s)) (sym same) (small_t.inside.over, tt);
      names = subst (λ s. Each IsVariable (pair_names s)) (sym same) (plain, tt);
    }

-- what the default is put in is over the history's functions
pub put_over : (history : List Entry) (work : Work) (x : Name) (d t : TermId) → IsSmallIn history work d → IsSmallIn history work t → IsOver history work (put x (term_at work.bank d) (term_at work.bank t))
put_over history work x d t kd kt =
    substituted_over IsVariable (symbols_of (events_at work.bank history)) ((x, term_at work.bank d) ∷ []) (term_at work.bank t) (kd.inside.over, tt) kt.inside.over

-- the line that a default is smaller, without the NOT of that it is allowed
pub allowed_cut : (history : List Entry) (w0 w1 w2 w3 : Work) (x : Name) (d e a o m : Term) (z : Defaulted) (met n : ℕ) → WorkStands history w1 → WorkGrows history w1 w2 → WorkStands history w2 → WorkGrows history w2 w3 → d ≡ e → put x d a ≡ m → LineHasOnly w1 met (m ∷ []) → IsPut history w2 x d a o z → CutsTo w2 w3 m met z.line n →
    IsDefaulted history w3 x e o (record { default = z.default; object = z.object; line = n })
allowed_cut history w0 w1 w2 w3 x d e a o m z met n stands1 grows1 stands grows same is held k cuts =
    let smaller : Term = is_smaller d (put x d o) in
    let first : LineHasOnly w2 met (m ∷ smaller ∷ []) = only_grown history w1 w2 met (m ∷ smaller ∷ []) stands1 grows1 (only_more w1 met (m ∷ []) (m ∷ smaller ∷ []) (only_first m (smaller ∷ [])) held) in
    let second : LineHasOnly w2 z.line (not_term m ∷ smaller ∷ []) = subst (λ u. LineHasOnly w2 z.line (not_term u ∷ smaller ∷ [])) is k.line in
    subst (λ u. IsDefaulted history w3 x u o (record { default = z.default; object = z.object; line = n })) same (
    record {
      default = small_grown history w2 w3 z.default stands grows k.default;
      default_is = same_term_grown history w2 w3 z.default grows k.default.inside ∙ k.default_is;
      object = small_grown history w2 w3 z.object stands grows k.object;
      object_is = same_term_grown history w2 w3 z.object grows k.object.inside ∙ k.object_is;
      line = cuts (smaller ∷ []) first second;
    })

-- three cuts of the law of others
turned_past : (z e q s : Term) → AreAmong (z ∷ e ∷ []) (e ∷ q ∷ z ∷ s ∷ [])
turned_past z e q s v (inl k) = inr (inr (inl k))
turned_past z e q s v (inr (inl k)) = inl k
turned_past z e q s v (inr (inr none)) = absurd none

others_within : (s l e q z : Term) → AreAmong (s ∷ l ∷ e ∷ q ∷ []) (l ∷ e ∷ q ∷ z ∷ s ∷ [])
others_within s l e q z v (inl k) = inr (inr (inr (inr (inl k))))
others_within s l e q z v (inr (inl k)) = inl k
others_within s l e q z v (inr (inr (inl k))) = inr (inl k)
others_within s l e q z v (inr (inr (inr (inl k)))) = inr (inr (inl k))
others_within s l e q z v (inr (inr (inr (inr none)))) = absurd none

pub others_cut : (w0 w1 w2 w3 : Work) (a b x y z : Term) (law small same wrong first second n : ℕ) → LineHasOnly w0 law (others_literals a b x y) → LineHasOnly w0 small (is_smaller x y ∷ []) → LineHasOnly w1 same (z ∷ equal_term b y ∷ []) → LineHasOnly w2 wrong (z ∷ equal_term a x ∷ []) →
    CutsTo w0 w1 (is_smaller x y) small law first → CutsTo w1 w2 (equal_term b y) same first second → CutsTo w2 w3 (equal_term a x) wrong second n → LineHasOnly w3 n (z ∷ is_smaller a b ∷ [])
others_cut w0 w1 w2 w3 a b x y z law small same wrong first second n held little equal taken cut1 cut2 cut3 =
    let s : Term = is_smaller a b in
    let l : Term = is_smaller x y in
    let e : Term = equal_term b y in
    let q : Term = equal_term a x in
    let these1 : List Term = not_term e ∷ not_term q ∷ z ∷ s ∷ [] in
    let these2 : List Term = not_term q ∷ z ∷ s ∷ [] in
    let these3 : List Term = z ∷ s ∷ [] in
    let made1 : LineHasOnly w1 first these1 = cut1 these1 (only_more w0 small (l ∷ []) (l ∷ these1) (only_first l these1) little) (only_more w0 law (others_literals a b x y) (not_term l ∷ these1) (others_within s (not_term l) (not_term e) (not_term q) z) held) in
    let made2 : LineHasOnly w2 second these2 = cut2 these2 (only_more w1 same (z ∷ e ∷ []) (e ∷ these2) (turned_past z e (not_term q) s) equal) made1 in
    cut3 these3 (only_more w2 wrong (z ∷ q ∷ []) (q ∷ these3) (turned q z (s ∷ [])) taken) made2
