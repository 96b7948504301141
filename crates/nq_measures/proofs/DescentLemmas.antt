-- Parts of a variable that are smaller than it, under the tests that govern a call.
use Rattle.std.proofs.Common.{◌≡◌, ◌<◌, ◌≤◌, ◌+◌, ℕ, zero, max, Bool, true, false, ◌||◌, Option, Some, None, List, [], ◌∷◌, ◌++◌, map, length, take, get_or, inl, inr, sym, ap, ap₂, ◌∙◌, subst, arith}
use Rattle.std.specs.Prelude.{All, MatchOption, codes}
use Rattle.std.proofs.lemmas.List.{take_more, map_push}
use Rattle.nq_logic.specs.Terms.{Name, Term, Variable, Each, value_at}
use Rattle.nq_logic.specs.Words.{call1, not_term}
use Rattle.nq_logic.specs.Sizes.{depth_of, depth_limit}
use Rattle.nq_logic.specs.Histories.{History}
use Rattle.nq_logic.specs.Ground.{symbols_of}
use Rattle.nq_logic.specs.Admissible.{mentions, matched}
use Rattle.nq_logic.proofs.Lists.{among_left, among_right}
use Rattle.nq_logic.proofs.Symbols.{count_symbol}
use Rattle.nq_bank.specs.declared.node.Sym.{Sym}
use Rattle.nq_bank.specs.declared.node.TermId.{TermId}
use Rattle.nq_bank.specs.Content.{Content, Grows, Stands, IsIdOf, term_from, text_at, term_at, terms_at}
use Rattle.nq_bank.specs.Shells.{texts_at}
use Rattle.nq_bank.proofs.Growth.{terms_at-grown}
use Rattle.nq_bank.proofs.Standing.{stand_grown, All-push}
use Rattle.nq_bank.proofs.NodesLemmas.{All-head, All-tail}
use Rattle.nq_bank.proofs.Numerals.{depth_of-other, number_of-call}
use Rattle.nq_arith.specs.Nests.{is_below}
use Rattle.nq_arith.specs.Structural.{IsStructuralNest}
use Rattle.nq_decrease.specs.Nests.{IsDecreaseLine}
use Rattle.nq_history.specs.declared.entry.Entry.{Entry}
use Rattle.nq_history.specs.Events.{events_at}
use Rattle.nq_kernel.specs.declared.work.Work.{Work}
use Rattle.nq_kernel.specs.Growing.{WorkStands, WorkGrows}
use Rattle.nq_kernel.specs.Over.{IsVariable, IsTermOf}
use Rattle.nq_kernel.specs.Ready.{IsReady, body_depth}
use Rattle.nq_lines.specs.Lines.{AreAmong, LineHasOnly, IsTermIn}
use Rattle.nq_lines.proofs.LineLemmas.{only_more}
use Rattle.nq_calls.specs.declared.calls.Guard.{Guard}
use Rattle.nq_calls.specs.declared.calls.Site.{Site}
use Rattle.nq_calls.specs.Calls.{GuardStands, signed, guard_at, guards_at, site_at}
use Rattle.nq_calls.specs.Falls.{fall_clause}
use Rattle.nq_calls.proofs.FallLemmas.{guard_at-grown}
use Rattle.nq_measures.specs.Trials.{IsShallowTerm, IsTrial, IsSiteOf, IsSizeOf, IsFallLine, FallsBy, DescendsAt, size_of_variable}
use Rattle.nq_measures.proofs.NewNames.{not_mentioned}
use Rattle.nq_measures.proofs.CalledLemmas.{value_shallow, shallow_without}
use Rattle.nq_measures.proofs.StructuralLemmas.{nest_older}
use Rattle.nq_measures.proofs.GrownLemmas.{fall_line_now}
use Rattle.nq_measures.proofs.ReadyLemmas.{shells_accepted}
use Rattle.nq_measures.proofs.SearchLemmas.{all_cons, variable_shallow}

pub denied_room : (holds : Bool) (t : Term) → holds ≡ false → depth_of (signed holds t) ≤ body_depth → depth_of t < depth_limit
denied_room true t e d = absurd cc
denied_room false t e d =
    let whole : depth_of (not_term t) ≡ max (depth_of t) 0 + 1 = depth_of-other (codes "NOT") (t ∷ []) (number_of-call (codes "NOT") (t ∷ [])) in
    omega (arith, whole, d)

module _ (old mid new : Content) (guards : List Guard) (i : ℕ) (d : Guard) (made more : List TermId) (id : TermId) (before : Grows old mid) (after : Grows mid new) (below : i < length guards) (stand : All (GuardStands old) guards) (were : All (Stands mid) made) (are : more ≡ made ++ id ∷ []) (is : IsIdOf new id (guard_at mid (get_or guards i d))) where
  pub tests_next : terms_at mid made ≡ guards_at old (take i guards) → terms_at new more ≡ guards_at old (take (i + 1) guards)
  tests_next so_far =
      let here : term_at new id ≡ guard_at old (get_or guards i d) = is.denotes ∙ guard_at-grown old mid (get_or guards i d) before (stand i d below) in
      ap (terms_at new) are ∙ map_push (term_from new.terms) made id ∙
      ap₂ (λ (ts : List Term) (t : Term). ts ++ t ∷ []) (terms_at-grown mid new made after were ∙ so_far) here ∙
      sym (map_push (guard_at old) (take i guards) (get_or guards i d)) ∙ ap (guards_at old) (sym (take_more guards i d below))

  pub tests_stand_next : All (Stands new) more
  tests_stand_next = subst (λ (l : List TermId). All (Stands new) l) (sym are) (All-push (Stands new) made id (stand_grown mid new made after were) is.stands)

-- the ids of terms that are shallow
pub tests_in : (history : List Entry) (work : Work) (h : History) (ids : List TermId) (ts : List Term) → events_at work.bank history ≡ h → terms_at work.bank ids ≡ ts → All (Stands work.bank) ids → Each (IsShallowTerm (symbols_of h)) ts → All (λ t. IsTermIn history work t × (depth_of (term_at work.bank t) ≤ body_depth)) ids
tests_in history work h ids ts same are stand w = here ids stand (subst (λ (us : List Term). Each (IsShallowTerm (symbols_of (events_at work.bank history))) us) (sym are) (subst (λ (e : History). Each (IsShallowTerm (symbols_of e)) ts) (sym same) w))
  where
    here : (ids : List TermId) → All (Stands work.bank) ids → Each (IsShallowTerm (symbols_of (events_at work.bank history))) (terms_at work.bank ids) → All (λ t. IsTermIn history work t × (depth_of (term_at work.bank t) ≤ body_depth)) ids
    here [] stand w = λ k d below. absurd (omega (arith, below))
    here (t ∷ ids) stand w =
        all_cons (λ t. IsTermIn history work t × (depth_of (term_at work.bank t) ≤ body_depth)) t ids (record { stands = All-head (Stands work.bank) t ids stand; over = w.0.of }, w.0.shallow) (here ids (All-tail (Stands work.bank) t ids stand) w.1)

-- the literal in front stands behind
last_among : (t : Term) (c : List Term) → AreAmong (t ∷ c) (c ++ t ∷ [])
last_among t c u (inl e) = among_right u c (t ∷ []) (inl e)
last_among t c u (inr m) = among_left u c (t ∷ []) m

pub part_found : (new : Work) (h k : History) (x y : Name) (ts us : List Term) (p q : Term) (found : Option ℕ) → k ≡ h → y ≡ x → us ≡ ts → q ≡ p → MatchOption found (IsStructuralNest k (Variable y) us q → ⊥) (IsDecreaseLine k new us (Variable y) q) →
    MatchOption found (IsStructuralNest h (Variable x) ts p → ⊥) (λ n. LineHasOnly new n (fall_clause (call1 "COUNT" p) (size_of_variable x) ts))
part_found new h k x y ts us p q None a b c d w =
    subst (λ (e : History). IsStructuralNest e (Variable x) ts p → ⊥) a
    (subst (λ (z : Name). IsStructuralNest k (Variable z) ts p → ⊥) b (subst (λ (vs : List Term). IsStructuralNest k (Variable y) vs p → ⊥) c (subst (λ (t : Term). IsStructuralNest k (Variable y) us t → ⊥) d w)))
part_found new h k x y ts us p q (Some n) a b c d w =
    only_more new n (is_below p (Variable x) ∷ map not_term ts) (fall_clause (call1 "COUNT" p) (size_of_variable x) ts) (last_among (is_below p (Variable x)) (map not_term ts))
    (subst (λ (z : Name). LineHasOnly new n (is_below p (Variable z) ∷ map not_term ts)) b (subst (λ (vs : List Term). LineHasOnly new n (is_below p (Variable y) ∷ map not_term vs)) c (subst (λ (t : Term). LineHasOnly new n (is_below t (Variable y) ∷ map not_term us)) d w.line)))

module _ (history : List Entry) (bank : Content) (f : Sym) (formals : List Sym) (m : TermId) (x : Sym) (s : Site) (t : TermId) (trial : IsTrial history bank f formals m) (size : IsSizeOf bank m x) (site : IsSiteOf history bank f formals s)
    (is : IsIdOf bank t (value_at (matched (texts_at bank formals) (terms_at bank s.arguments.items)) (text_at bank x))) where
  abbrev h : History
  h = events_at bank history

  pub spelled_variable : IsVariable (text_at bank x)
  spelled_variable = (subst (λ (u : Term). IsTermOf IsVariable ((text_at bank f, length (texts_at bank formals)) ∷ symbols_of h) u) size.size trial.over).variables.1

  value_here : IsShallowTerm ((text_at bank f, length (texts_at bank formals)) ∷ symbols_of h) (term_at bank t)
  value_here =
      subst (λ (u : Term). IsShallowTerm ((text_at bank f, length (texts_at bank formals)) ∷ symbols_of h) u) (sym is.denotes)
      (value_shallow ((text_at bank f, length (texts_at bank formals)) ∷ symbols_of h) (texts_at bank formals) (terms_at bank s.arguments.items) (text_at bank x) (variable_shallow ((text_at bank f, length (texts_at bank formals)) ∷ symbols_of h) (text_at bank x) spelled_variable) site.counted.arguments)

  -- what does not mention the function is over the history's functions
  pub part_shallow : mentions (text_at bank f) (term_at bank t) ≡ false → IsShallowTerm (symbols_of h) (term_at bank t)
  part_shallow e = shallow_without (text_at bank f) (length (texts_at bank formals)) (symbols_of h) (term_at bank t) e value_here

  -- what mentions it is no part
  pub mention_is_no_part : IsReady h → mentions (text_at bank f) (term_at bank t) ≡ true → DescendsAt history bank formals x s → ⊥
  mention_is_no_part ready e d = clash (mentions (text_at bank f) (term_at bank t)) e (subst (λ (u : Term). mentions (text_at bank f) u ≡ false) (sym is.denotes) (nest_older h (text_at bank f) trial.unused (shells_accepted h ready) (text_at bank x) (site_at bank s).tests _ d))
    where
      clash : (b : Bool) → b ≡ true → b ≡ false → ⊥
      clash true p q = cc
      clash false p q = cc

pub descent_found : (history : List Entry) (old new : Work) (f : Sym) (formals : List Sym) (m : TermId) (x : Sym) (s : Site) (t : TermId) (guards : List Guard) (r : Option ℕ) → WorkStands history old → WorkGrows history old new → IsTrial history old.bank f formals m → IsSizeOf old.bank m x → IsSiteOf history old.bank f formals s →
    IsIdOf old.bank t (value_at (matched (texts_at old.bank formals) (terms_at old.bank s.arguments.items)) (text_at old.bank x)) → mentions (text_at old.bank f) (term_at old.bank t) ≡ false → guards ≡ s.guards.items →
    MatchOption r (IsStructuralNest (events_at old.bank history) (Variable (text_at old.bank x)) (guards_at old.bank guards) (term_at old.bank t) → ⊥) (λ n. LineHasOnly new n (fall_clause (call1 "COUNT" (term_at old.bank t)) (size_of_variable (text_at old.bank x)) (guards_at old.bank guards))) →
    MatchOption r (DescendsAt history old.bank formals x s → ⊥) (IsFallLine new f formals m s)
descent_found history old new f formals m x s t guards None stands grows trial size site is older same w =
    λ d. w (subst (λ (gs : List Guard). IsStructuralNest (events_at old.bank history) (Variable (text_at old.bank x)) (guards_at old.bank gs) (term_at old.bank t)) (sym same) (subst (λ (u : Term). IsStructuralNest (events_at old.bank history) (Variable (text_at old.bank x)) (guards_at old.bank s.guards.items) u) (sym is.denotes) d))
descent_found history old new f formals m x s t guards (Some n) stands grows trial size site is older same w =
    let value : Term = value_at (matched (texts_at old.bank formals) (terms_at old.bank s.arguments.items)) (text_at old.bank x) in
    let absent : mentions (text_at old.bank f) value ≡ false = subst (λ (u : Term). mentions (text_at old.bank f) u ≡ false) is.denotes older in
    let count : mentions (text_at old.bank f) (call1 "COUNT" value) ≡ false = both_false _ _ (not_mentioned (events_at old.bank history) (text_at old.bank f) (call1 "COUNT" (Variable (text_at old.bank x))) zero trial.unused (count_symbol (events_at old.bank history), tt)) absent in
    let line : LineHasOnly new n (fall_clause (call1 "COUNT" value) (size_of_variable (text_at old.bank x)) (guards_at old.bank s.guards.items)) =
    subst (λ (gs : List Guard). LineHasOnly new n (fall_clause (call1 "COUNT" value) (size_of_variable (text_at old.bank x)) (guards_at old.bank gs))) same (subst (λ (u : Term). LineHasOnly new n (fall_clause (call1 "COUNT" u) (size_of_variable (text_at old.bank x)) (guards_at old.bank guards))) is.denotes w) in
    fall_line_now history old new f formals m stands grows trial s n site.stands
    (subst (λ (u : Term). FallsBy new (text_at old.bank f) (texts_at old.bank formals) u (site_at old.bank s) n) (sym size.size) (record { older = count; less = line }))
  where
    both_false : (a b : Bool) → a || false ≡ false → b ≡ false → a || b ≡ false
    both_false true b e k = absurd cc
    both_false false b e k = k
