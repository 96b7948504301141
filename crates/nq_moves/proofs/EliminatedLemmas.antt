-- ELIM, and the way back.
use Rattle.std.proofs.Common.{◌≡◌, ◌<◌, ◌≤◌, ◌+◌, ℕ, zero, suc, Some, List, [], ◌∷◌, ◌++◌, length, map, drop, take, get_or, sym, ap, ◌∙◌, subst, inl, inr, arith}
use Rattle.std.specs.Prelude.{All, Vec, Result, Ok, Err, IfOk, Option, None}
use Rattle.std.specs.declared.alloc.Global.{Global}
use Rattle.std.proofs.lemmas.List.{append-nil, at_drop_more, at_drop_all, map_push, take_more}
use Rattle.nq_logic.specs.Terms.{Name, Term, Variable, IsAmong, Substitution, substituted}
use Rattle.nq_logic.specs.Ground.{symbols_of}
use Rattle.nq_logic.specs.Words.{not_term, equal_term, numeral}
use Rattle.nq_bank.specs.declared.node.TermId.{TermId}
use Rattle.nq_bank.specs.Content.{Content, IsNamed, Stands, text_at, term_at, terms_at}
use Rattle.nq_bank.proofs.Growth.{IsNamed-grown, Stands-grown, term_at-grown, terms_at-grown, text_at-grown}
use Rattle.nq_clause.specs.declared.substitution.Pair.{Pair}
use Rattle.nq_clause.specs.Substitution.{PairStands}
use Rattle.nq_clause.proofs.SubstitutionLemmas.{substitution_at-grown}
use Rattle.nq_proof.specs.Clauses.{Clause, distinct}
use Rattle.nq_history.specs.declared.entry.Entry.{Entry}
use Rattle.nq_history.specs.Events.{events_at}
use Rattle.nq_kernel.specs.declared.work.Work.{Work}
use Rattle.nq_kernel.specs.declared.work.Stop.{Stop}
use Rattle.nq_kernel.specs.declared.verdict.MoveKind.TheVariants as kind
use Rattle.nq_kernel.specs.Over.{IsVariable}
use Rattle.nq_kernel.specs.Growing.{WorkStands, WorkGrows}
use Rattle.nq_lines.specs.Lines.{AreAmong, CutsTo, IsTermIn, LineHasOnly}
use Rattle.nq_lines.proofs.Among.{beside, on_left, on_right}
use Rattle.nq_lines.proofs.FactLemmas.{substituted_over}
use Rattle.nq_lines.proofs.InstanceLemmas.{pairs_in_grown}
use Rattle.nq_lines.proofs.LineLemmas.{among_either, from_distinct, only_grown, only_more, with_last_among}
use Rattle.nq_lines.proofs.TermLemmas.{same_term_grown, term_grown}
use Rattle.nq_goals.specs.Eliminating.{hypothesis_goal}
use Rattle.nq_goals.specs.Generalizing.{exchange_of}
use Rattle.nq_goals.specs.Replacing.{exchanged}
use Rattle.nq_moves.specs.declared.equal.Swap.{Swap}
use Rattle.nq_moves.specs.declared.moved.Eliminated.{Eliminated}
use Rattle.nq_moves.specs.declared.moved.Moved.{Moved}
use Rattle.nq_moves.specs.Back.{AreBack}
use Rattle.nq_moves.specs.Dropped.{HoldChildren}
use Rattle.nq_moves.specs.Eliminated.{HoldFirst, IsElimination, IsEliminated, eliminated_goals, made_goal, stated_goal, whole_goal}
use Rattle.nq_moves.specs.Equal.{swap_at}
use Rattle.nq_moves.specs.Found.{goals_at}
use Rattle.nq_moves.specs.Renamed.{AreNewIn, ComesBack}
use Rattle.nq_moves.specs.Ways.{WayOf, IsMove}
use Rattle.nq_moves.proofs.OverLemmas.{ids_in, in_grown, mapped_in}
use Rattle.nq_moves.proofs.ClosingLemmas.{IsInWork, all_stand, each_over, exchanged-numeral, exchanged-variables}
use Rattle.nq_moves.proofs.LastingLemmas.{goals_grown, goals_stand_grown}

module _ (history : List Entry) (old : Work) (goal : List TermId) (e : Eliminated) (s : IsElimination history old goal e) where
  abbrev x : Name
  x = text_at old.bank e.name

  abbrev made : Term
  made = term_at old.bank e.made_of

  pub numerals_stay : (n : ℕ) → exchanged ((term_at old.bank e.variable, made) ∷ []) (numeral n) ≡ numeral n
  numerals_stay n = ap (λ t. exchanged ((t, made) ∷ []) (numeral n)) s.variable_is ∙ exchanged-numeral x made n

  -- the renamed literals, from those with what the variable is made of in its place
  module _ (mid new : Work) (stood : WorkStands history old) (grows : WorkGrows history old mid) (w : Swap) (line n : ℕ) where
    pub carried_back : LineHasOnly old line (made_goal old.bank e) → w.from ≡ e.variable → w.into ≡ e.made_of → w.hypothesis ≡ e.denial → AreBack mid new w e.renamed.items line n → LineHasOnly new n (term_at old.bank e.denial ∷ terms_at old.bank e.renamed.items)
    carried_back has from into hypothesis back =
        let ids : List TermId = e.renamed.items in
        let literals : List Term = terms_at old.bank ids in
        let all : List Term = term_at old.bank e.denial ∷ literals in
        let put : List Term = map (substituted ((x, made) ∷ [])) literals in
        let same : terms_at mid.bank ids ≡ literals = terms_at-grown old.bank mid.bank ids grows.bank (all_stand history old ids s.renamed) in
        let denied : term_at mid.bank w.hypothesis ≡ term_at old.bank e.denial = ap (term_at mid.bank) hypothesis ∙ term_at-grown old.bank mid.bank e.denial grows.bank s.denial in
        let swap : swap_at mid.bank w ≡ (Variable x, made) ∷ [] =
        ap (λ t. (t, term_at mid.bank w.into) ∷ []) (ap (term_at mid.bank) from ∙ same_term_grown history old mid e.variable grows s.variable ∙ s.variable_is) ∙
        ap (λ t. (Variable x, t) ∷ []) (ap (term_at mid.bank) into ∙ same_term_grown history old mid e.made_of grows s.made_of) in
        let here : map (exchanged (swap_at mid.bank w)) (terms_at mid.bank ids) ≡ put =
        ap (λ es. map (exchanged es) (terms_at mid.bank ids)) swap ∙ ap (map (exchanged ((Variable x, made) ∷ []))) same ∙
        exchanged-variables x made (symbols_of (events_at old.bank history)) literals (each_over history old ids s.renamed) in
        let told : LineHasOnly mid line (put ++ all) = only_more mid line (distinct put) (put ++ all) (λ t m. on_left put all t (from_distinct t put m)) (only_grown history old mid line (distinct put) stood grows has) in
        back all (inl denied) (λ t m. inr (subst (IsAmong t) same m)) (subst (λ c. LineHasOnly mid line (c ++ all)) (sym here) told)

  pub named_back : (new : Work) (line n : ℕ) → LineHasOnly old line (term_at old.bank e.denial ∷ terms_at old.bank e.renamed.items) → ComesBack old new e.pairs.items line n → LineHasOnly new n (whole_goal old.bank goal e)
  named_back new line n has back = back s.names s.terms (whole_goal old.bank goal e) s.pairs s.apart s.new (subst (LineHasOnly old line) s.renaming has)

  pub equation_cut : (new : Work) (line n : ℕ) → LineHasOnly old line (whole_goal old.bank goal e) → CutsTo old new (term_at old.bank e.equation) e.line line n → LineHasOnly new n (stated_goal old.bank goal e)
  equation_cut new line n has cuts =
      let denied : Clause = map not_term (terms_at old.bank e.hypotheses.items) in
      let t : Term = term_at old.bank e.equation in
      cuts (stated_goal old.bank goal e) (only_more old e.line (t ∷ denied) (t ∷ stated_goal old.bank goal e) (beside t denied (stated_goal old.bank goal e) (on_right (terms_at old.bank goal) denied)) s.says) has

-- the line of a hypothesis' goal
hold_at : (work : Work) (bank : Content) (g : Clause) (rest : List Clause) (ids : List TermId) (lines : List ℕ) (i d : ℕ) (t : TermId) → HoldChildren work (map (hypothesis_goal g) (terms_at bank ids) ++ rest) lines → i < length ids → LineHasOnly work (get_or lines i d) (hypothesis_goal g (term_at bank (get_or ids i t)))
hold_at work bank g rest [] lines i d t h below = absurd (omega (arith, below))
hold_at work bank g rest (x ∷ ids) [] i d t h below = absurd h
hold_at work bank g rest (x ∷ ids) (n ∷ lines) zero d t h below = h.0
hold_at work bank g rest (x ∷ ids) (n ∷ lines) (suc i) d t h below = hold_at work bank g rest ids lines i d t h.1 (omega (arith, below))

hold_many : (work : Work) (bank : Content) (g : Clause) (rest : List Clause) (ids : List TermId) (lines : List ℕ) → HoldChildren work (map (hypothesis_goal g) (terms_at bank ids) ++ rest) lines → length ids ≤ length lines
hold_many work bank g rest [] lines h = omega arith
hold_many work bank g rest (x ∷ ids) [] h = absurd h
hold_many work bank g rest (x ∷ ids) (n ∷ lines) h = let more = hold_many work bank g rest ids lines h.1 in omega (arith, more)

pub hypothesis_line : (work : Work) (bank : Content) (g : Clause) (ids : List TermId) (lines : List ℕ) (i d : ℕ) (t : TermId) → HoldFirst work (map (hypothesis_goal g) (terms_at bank ids)) lines → i < length ids → LineHasOnly work (get_or lines i d) (hypothesis_goal g (term_at bank (get_or ids i t)))
hypothesis_line work bank g ids lines i d t h below = hold_at work bank g h.rest ids lines i d t h.hold below

pub hypothesis_count : (work : Work) (bank : Content) (g : Clause) (ids : List TermId) (lines : List ℕ) → HoldFirst work (map (hypothesis_goal g) (terms_at bank ids)) lines → length ids ≤ length lines
hypothesis_count work bank g ids lines h = hold_many work bank g h.rest ids lines h.hold

-- the line after those of the hypotheses' goals
pub last_line : (work : Work) (bank : Content) (g last : Clause) (ids : List TermId) (lines : List ℕ) (d : ℕ) → HoldChildren work (map (hypothesis_goal g) (terms_at bank ids) ++ (last ∷ [])) lines → LineHasOnly work (get_or lines (length ids) d) last
last_line work bank g last [] [] d h = absurd h
last_line work bank g last [] (n ∷ lines) d h = h.0
last_line work bank g last (x ∷ ids) [] d h = absurd h
last_line work bank g last (x ∷ ids) (n ∷ lines) d h = last_line work bank g last ids lines d h.1

pub last_below : (work : Work) (bank : Content) (g last : Clause) (ids : List TermId) (lines : List ℕ) → HoldChildren work (map (hypothesis_goal g) (terms_at bank ids) ++ (last ∷ [])) lines → length ids < length lines
last_below work bank g last [] [] h = absurd h
last_below work bank g last [] (n ∷ lines) h = omega arith
last_below work bank g last (x ∷ ids) [] h = absurd h
last_below work bank g last (x ∷ ids) (n ∷ lines) h = let more = last_below work bank g last ids lines h.1 in omega (arith, more)

-- lines hold however the work grows
pub hold_grown : (history : List Entry) (old new : Work) (goals : List Clause) (lines : List ℕ) → WorkStands history old → WorkGrows history old new → HoldChildren old goals lines → HoldChildren new goals lines
hold_grown history old new [] [] stood grows h = tt
hold_grown history old new [] (n ∷ lines) stood grows h = absurd h
hold_grown history old new (g ∷ goals) [] stood grows h = absurd h
hold_grown history old new (g ∷ goals) (n ∷ lines) stood grows h = (only_grown history old new n g stood grows h.0, hold_grown history old new goals lines stood grows h.1)

-- what is left of the hypotheses beside a goal
abbrev pub left_beside : Content → Clause → List TermId → Clause
left_beside bank g ids = g ++ map not_term (terms_at bank ids)

brought_first : (g rest : Clause) (t : Term) → AreAmong (g ++ (t ∷ rest)) (t ∷ (g ++ rest))
brought_first g rest t u m = elim (among_either u g (t ∷ rest) m) [
  | inl here ↦ inr (on_left g rest u here)
  | inr later ↦ elim later [ inl is ↦ inl is | inr further ↦ inr (on_right g rest u further) ]
]

-- one hypothesis is cut away
module _ (history : List Entry) (old mid new : Work) (stood : WorkStands history old) (grows : WorkGrows history old mid) (g : Clause) (ids : List TermId) (i : ℕ) (d : TermId) (left line n : ℕ) where
  pub hypothesis_cut : i < length ids → term_at mid.bank (get_or ids i d) ≡ term_at old.bank (get_or ids i d) → LineHasOnly mid left (left_beside old.bank g (drop i ids)) → LineHasOnly old line (hypothesis_goal g (term_at old.bank (get_or ids i d))) → CutsTo mid new (term_at mid.bank (get_or ids i d)) line left n → LineHasOnly new n (left_beside old.bank g (drop (i + 1) ids))
  hypothesis_cut below same second first cuts =
      let t : Term = term_at old.bank (get_or ids i d) in
      let rest : Clause = map not_term (terms_at old.bank (drop (i + 1) ids)) in
      let these : Clause = g ++ rest in
      let one : LineHasOnly mid line (t ∷ these) = only_more mid line (hypothesis_goal g t) (t ∷ these) (λ u m. with_last_among g these t (on_left g rest) u (from_distinct u (g ++ (t ∷ [])) m)) (only_grown history old mid line (hypothesis_goal g t) stood grows first) in
      let has : LineHasOnly mid left (g ++ (not_term t ∷ rest)) = subst (λ c. LineHasOnly mid left c) (at_drop_more (λ xs. left_beside old.bank g xs) ids i d below) second in
      let two : LineHasOnly mid left (not_term t ∷ these) = only_more mid left (g ++ (not_term t ∷ rest)) (not_term t ∷ these) (brought_first g rest (not_term t)) has in
      cuts these (subst (λ v. LineHasOnly mid line (v ∷ these)) (sym same) one) (subst (λ v. LineHasOnly mid left (not_term v ∷ these)) (sym same) two)

pub none_left : (work : Work) (bank : Content) (g : Clause) (ids : List TermId) (i left : ℕ) → length ids ≤ i → LineHasOnly work left (left_beside bank g (drop i ids)) → LineHasOnly work left g
none_left work bank g ids i left past h = subst (LineHasOnly work left) (append-nil g) (subst (LineHasOnly work left) (at_drop_all (λ xs. left_beside bank g xs) ids i past) h)

-- what was kept serves however the work grows
module _ (history : List Entry) (old new : Work) (stood : WorkStands history old) (grows : WorkGrows history old new) (goal : List TermId) (all : All (IsTermIn history old) goal) (e : Eliminated) (s : IsElimination history old goal e) where
  goal_same : terms_at new.bank goal ≡ terms_at old.bank goal
  goal_same = terms_at-grown old.bank new.bank goal grows.bank (all_stand history old goal all)

  hypotheses_same : terms_at new.bank e.hypotheses.items ≡ terms_at old.bank e.hypotheses.items
  hypotheses_same = terms_at-grown old.bank new.bank e.hypotheses.items grows.bank (all_stand history old e.hypotheses.items s.hypotheses)

  renamed_same : terms_at new.bank e.renamed.items ≡ terms_at old.bank e.renamed.items
  renamed_same = terms_at-grown old.bank new.bank e.renamed.items grows.bank (all_stand history old e.renamed.items s.renamed)

  equation_same : term_at new.bank e.equation ≡ term_at old.bank e.equation
  equation_same = same_term_grown history old new e.equation grows s.equation

  denial_same : term_at new.bank e.denial ≡ term_at old.bank e.denial
  denial_same = term_at-grown old.bank new.bank e.denial grows.bank s.denial

  variable_same : term_at new.bank e.variable ≡ term_at old.bank e.variable
  variable_same = same_term_grown history old new e.variable grows s.variable

  made_of_same : term_at new.bank e.made_of ≡ term_at old.bank e.made_of
  made_of_same = same_term_grown history old new e.made_of grows s.made_of

  name_same : text_at new.bank e.name ≡ text_at old.bank e.name
  name_same = text_at-grown old.bank new.bank e.name grows.bank s.name

  all_grown : (ids : List TermId) → All (IsTermIn history old) ids → All (IsTermIn history new) ids
  all_grown ids h = λ k d below. term_grown history old new (get_or ids k d) stood grows (h k d below)

  pub literals_same : term_at new.bank e.denial ∷ terms_at new.bank e.renamed.items ≡ term_at old.bank e.denial ∷ terms_at old.bank e.renamed.items
  literals_same = ap (λ t. t ∷ terms_at new.bank e.renamed.items) denial_same ∙ ap (λ ts. term_at old.bank e.denial ∷ ts) renamed_same

  pub stated_same : stated_goal new.bank goal e ≡ stated_goal old.bank goal e
  stated_same = ap (λ g. g ++ map not_term (terms_at new.bank e.hypotheses.items)) goal_same ∙ ap (λ hs. terms_at old.bank goal ++ map not_term hs) hypotheses_same

  pub whole_same : whole_goal new.bank goal e ≡ whole_goal old.bank goal e
  whole_same = ap (λ t. not_term t ∷ stated_goal new.bank goal e) equation_same ∙ ap (λ c. not_term (term_at old.bank e.equation) ∷ c) stated_same

  made_same : made_goal new.bank e ≡ made_goal old.bank e
  made_same =
      ap (λ y. distinct (map (substituted ((y, term_at new.bank e.made_of) ∷ [])) (terms_at new.bank e.renamed.items))) name_same ∙
      ap (λ t. distinct (map (substituted ((text_at old.bank e.name, t) ∷ [])) (terms_at new.bank e.renamed.items))) made_of_same ∙
      ap (λ ts. distinct (map (substituted ((text_at old.bank e.name, term_at old.bank e.made_of) ∷ [])) ts)) renamed_same

  pub hypothesis_goals_same : map (hypothesis_goal (terms_at new.bank goal)) (terms_at new.bank e.hypotheses.items) ≡ map (hypothesis_goal (terms_at old.bank goal)) (terms_at old.bank e.hypotheses.items)
  hypothesis_goals_same = ap (λ g. map (hypothesis_goal g) (terms_at new.bank e.hypotheses.items)) goal_same ∙ ap (map (hypothesis_goal (terms_at old.bank goal))) hypotheses_same

  pub goals_same : eliminated_goals new.bank goal e ≡ eliminated_goals old.bank goal e
  goals_same =
      ap (λ g. map (hypothesis_goal g) (terms_at new.bank e.hypotheses.items) ++ (made_goal new.bank e ∷ [])) goal_same ∙
      ap (λ hs. map (hypothesis_goal (terms_at old.bank goal)) hs ++ (made_goal new.bank e ∷ [])) hypotheses_same ∙
      ap (λ c. map (hypothesis_goal (terms_at old.bank goal)) (terms_at old.bank e.hypotheses.items) ++ (c ∷ [])) made_same

  pub elimination_grown : IsElimination history new goal e
  elimination_grown =
      record {
        names = s.names;
        terms = s.terms;
        name = IsNamed-grown old.bank new.bank e.name grows.bank s.name;
        variable = term_grown history old new e.variable stood grows s.variable;
        variable_is = variable_same ∙ s.variable_is ∙ ap Variable (sym name_same);
        made_of = term_grown history old new e.made_of stood grows s.made_of;
        equation = term_grown history old new e.equation stood grows s.equation;
        hypotheses = all_grown e.hypotheses.items s.hypotheses;
        says =
            subst (λ t. LineHasOnly new e.line (t ∷ map not_term (terms_at new.bank e.hypotheses.items))) (sym equation_same)
            (subst (λ hs. LineHasOnly new e.line (term_at old.bank e.equation ∷ map not_term hs)) (sym hypotheses_same) (only_grown history old new e.line (term_at old.bank e.equation ∷ map not_term (terms_at old.bank e.hypotheses.items)) stood grows s.says));
        denial = Stands-grown old.bank new.bank e.denial grows.bank s.denial;
        denies = denial_same ∙ s.denies ∙ ap (λ t. not_term (equal_term t (term_at old.bank e.variable))) (sym made_of_same) ∙ ap (λ t. not_term (equal_term (term_at new.bank e.made_of) t)) (sym variable_same);
        renamed = all_grown e.renamed.items s.renamed;
        renaming = literals_same ∙ s.renaming ∙ ap (map (exchanged (exchange_of s.terms s.names))) (sym whole_same);
        pairs = substitution_at-grown old.bank new.bank e.pairs.items grows.bank s.over.stand ∙ s.pairs;
        over = pairs_in_grown history old new e.pairs.items stood grows s.over;
        apart = s.apart;
        new = subst (AreNewIn s.names) (sym whole_same) s.new;
      }

module _ (history : List Entry) (old new : Work) (stood : WorkStands history old) (grows : WorkGrows history old new) (goal : List TermId) (all : All (IsTermIn history old) goal) (moved : Moved) where
  pub eliminated_lasts : IsEliminated history old goal moved → IsEliminated history new goal moved
  eliminated_lasts m =
      record {
        elimination = m.elimination;
        kept = m.kept;
        serves = elimination_grown history old new stood grows goal all m.elimination m.serves;
        leads = goals_grown old.bank new.bank moved.children.items grows.bank m.stand.each ∙ m.leads ∙ sym (goals_same history old new stood grows goal all m.elimination m.serves);
        stand = goals_stand_grown old.bank new.bank moved.children.items grows.bank m.stand;
      }

-- the lines of the hypotheses' goals
module _ (history : List Entry) (old new : Work) (stood : WorkStands history old) (grows : WorkGrows history old new) (goal : List TermId) (all : All (IsTermIn history old) goal) (e : Eliminated) (s : IsElimination history old goal e) where
  pub first_grown : (lines : List ℕ) → HoldChildren old (eliminated_goals old.bank goal e) lines → HoldFirst new (map (hypothesis_goal (terms_at new.bank goal)) (terms_at new.bank e.hypotheses.items)) lines
  first_grown lines h =
      record {
        rest = made_goal new.bank e ∷ [];
        hold = subst (λ gs. HoldChildren new gs lines) (sym (goals_same history old new stood grows goal all e s)) (hold_grown history old new (eliminated_goals old.bank goal e) lines stood grows h);
      }

-- ---- the goals to which an elimination leads

pub one_pair_stands : (bank : Content) (p : Pair) → IsNamed bank p.variable → Stands bank p.term → All (PairStands bank) (p ∷ [])
one_pair_stands bank p name term = λ k d below. at_place k d below
  where
    at_place : (k : ℕ) (d : Pair) → k < 1 → PairStands bank (get_or (p ∷ []) k d)
    at_place zero d below = record { variable = name; term = term }
    at_place (suc k) d below = absurd (omega (arith, below))

-- the clause without copies of these literals
pub clause_ok : (bank : Content) (r : Result (Vec TermId Global) Stop) (ids : List TermId) (c : Clause) → terms_at bank ids ≡ c → IfOk r (λ v. terms_at bank v.items ≡ distinct (terms_at bank ids)) → IfOk r (λ v. terms_at bank v.items ≡ distinct c)
clause_ok bank (Ok v) ids c is told = told ∙ ap distinct is
clause_ok bank (Err x) ids c is told = told

pub over_ok : (history : List Entry) (work : Work) (r : Result (Vec TermId Global) Stop) (ids : List TermId) (c : Clause) → terms_at work.bank ids ≡ c → ((t : Term) → IsAmong t c → IsInWork history work t) → IfOk r (λ v. terms_at work.bank v.items ≡ distinct (terms_at work.bank ids)) → IfOk r (λ v. All (Stands work.bank) v.items) → IfOk r (λ v. All (IsTermIn history work) v.items)
over_ok history work (Ok v) ids c is each told stand = ids_in history work v.items stand (λ t m. each t (from_distinct t c (subst (IsAmong t) (told ∙ ap distinct is) m)))
over_ok history work (Err x) ids c is each told stand = told

module _ (history : List Entry) (old new : Work) (stood : WorkStands history old) (grows : WorkGrows history old new) (goal : List TermId) (e : Eliminated) (s : IsElimination history old goal e) where
  -- what is put for the variable is over the history
  pub put_over : (t : Term) → IsAmong t (map (substituted ((text_at old.bank e.name, term_at old.bank e.made_of) ∷ [])) (terms_at old.bank e.renamed.items)) → IsInWork history new t
  put_over t m =
      let put : Substitution = (text_at old.bank e.name, term_at old.bank e.made_of) ∷ [] in
      let literals : Clause = terms_at old.bank e.renamed.items in
      in_grown history old new t stood grows
      (mapped_in history old (substituted put) literals (λ u q. substituted_over IsVariable (symbols_of (events_at old.bank history)) put u (s.made_of.over, tt) (each_over history old e.renamed.items s.renamed u q)) t m)

-- the goal of a hypothesis is over the history
pub hypothesis_over : (history : List Entry) (work : Work) (goal : List TermId) (h : TermId) → All (IsTermIn history work) goal → IsTermIn history work h → (t : Term) → IsAmong t (terms_at work.bank goal ++ (term_at work.bank h ∷ [])) → IsInWork history work t
hypothesis_over history work goal h all here t m =
    elim (among_either t (terms_at work.bank goal) (term_at work.bank h ∷ []) m) [
      | inl k ↦ each_over history work goal all t k
      | inr k ↦ elim k [ inl is ↦ subst (IsInWork history work) (sym is) here.over | inr none ↦ absurd none ]
    ]

pub terms_more : (bank : Content) (ids : List TermId) (t : TermId) → terms_at bank (ids ++ t ∷ []) ≡ terms_at bank ids ++ (term_at bank t ∷ [])
terms_more bank ids t = map_push (term_at bank) ids t

-- one more goal
pub children_more : (bank : Content) (g : Clause) (children : List (Vec TermId Global)) (child : Vec TermId Global) (ids : List TermId) (i : ℕ) (d : TermId) → i < length ids → goals_at bank children ≡ map (hypothesis_goal g) (terms_at bank (take i ids)) → terms_at bank child.items ≡ hypothesis_goal g (term_at bank (get_or ids i d)) → goals_at bank (children ++ child ∷ []) ≡ map (hypothesis_goal g) (terms_at bank (take (i + 1) ids))
children_more bank g children child ids i d below before here =
    map_push (λ (c : Vec TermId Global). terms_at bank c.items) children child
    ∙ ap (λ gs. gs ++ (terms_at bank child.items ∷ [])) before
    ∙ ap (λ c. map (hypothesis_goal g) (terms_at bank (take i ids)) ++ (c ∷ [])) here
    ∙ sym (ap (λ xs. map (hypothesis_goal g) (terms_at bank xs)) (take_more ids i d below) ∙ ap (map (hypothesis_goal g)) (map_push (term_at bank) (take i ids) (get_or ids i d)) ∙ map_push (hypothesis_goal g) (terms_at bank (take i ids)) (term_at bank (get_or ids i d)))

-- the last goal
pub children_last : (bank : Content) (children : List (Vec TermId Global)) (child : Vec TermId Global) (gs : List Clause) (g : Clause) → goals_at bank children ≡ gs → terms_at bank child.items ≡ g → goals_at bank (children ++ child ∷ []) ≡ gs ++ (g ∷ [])
children_last bank children child gs g before here = map_push (λ (c : Vec TermId Global). terms_at bank c.items) children child ∙ ap (λ hs. hs ++ (terms_at bank child.items ∷ [])) before ∙ ap (λ c. gs ++ (c ∷ [])) here

-- the move
module _ (history : List Entry) (old new : Work) (stood : WorkStands history old) (grows : WorkGrows history old new) (goal : List TermId) (all : All (IsTermIn history old) goal) (e : Eliminated) (s : IsElimination history old goal e) where
  pub eliminated_move : (moved : Moved) (children : Vec (Vec TermId Global) Global) → moved.why.kind ≡ kind.Elim → moved.children ≡ children → moved.why.eliminated ≡ Some e → goals_at new.bank children.items ≡ eliminated_goals old.bank goal e → All (λ child. All (IsTermIn history new) child.items) children.items → IsMove history new goal moved
  eliminated_move moved children is made kept leads over =
      let own : All (λ child. All (IsTermIn history new) child.items) moved.children.items = subst (λ (v : Vec (Vec TermId Global) Global). All (λ child. All (IsTermIn history new) child.items) v.items) (sym made) over in
      let way : IsEliminated history new goal moved = record {
        elimination = e;
        kept = kept;
        serves = elimination_grown history old new stood grows goal all e s;
        leads = ap (λ (v : Vec (Vec TermId Global) Global). goals_at new.bank v.items) made ∙ leads ∙ sym (goals_same history old new stood grows goal all e s);
        stand = record { each = λ k d below. all_stand history new (get_or moved.children.items k d).items (own k d below) };
      } in
      record { way = subst (λ k. WayOf k history new goal moved) (sym is) way; children_in = own }

pub no_children : (history : List Entry) (work : Work) → All (λ (child : Vec TermId Global). All (IsTermIn history work) child.items) []
no_children history work = λ k d below. absurd (omega (arith, below))

-- what was kept is one
pub kept_same : (o : Option Eliminated) (a b : Eliminated) → o ≡ Some a → o ≡ Some b → a ≡ b
kept_same o a b left right = cc

pub kept_some : (o : Option Eliminated) (a : Eliminated) → o ≡ Some a → o ≡ None → ⊥
kept_some o a left right = cc
