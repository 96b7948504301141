-- Cases and facts that are cut away.
use Rattle.std.proofs.Common.{◌≡◌, ◌<◌, ◌≤◌, ◌+◌, ℕ, zero, suc, List, [], ◌∷◌, ◌++◌, length, map, get_or, drop, refl, sym, ap, ◌∙◌, subst, inl, inr, arith}
use Rattle.std.specs.Prelude.{All}
use Rattle.std.proofs.lemmas.List.{drop_more}
use Rattle.nq_logic.specs.Terms.{Term, IsAmong}
use Rattle.nq_logic.specs.Words.{not_term}
use Rattle.nq_bank.specs.Content.{Content, term_at}
use Rattle.nq_proof.specs.Clauses.{Clause}
use Rattle.nq_history.specs.declared.entry.Entry.{Entry}
use Rattle.nq_kernel.specs.declared.work.Work.{Work}
use Rattle.nq_kernel.specs.Growing.{WorkStands, WorkGrows}
use Rattle.nq_lines.specs.Lines.{AreAmong, LineHasOnly, CutsTo}
use Rattle.nq_lines.specs.declared.facts.Fact.{Fact}
use Rattle.nq_lines.proofs.LineLemmas.{only_more, only_grown}
use Rattle.nq_moves.specs.Dropped.{HoldChildren}
use Rattle.nq_elim.specs.declared.cases.Case.{Case}
use Rattle.nq_elim.specs.Cases.{CaseStands, CaseCloses, literals_at, case_goals}
use Rattle.nq_elim.specs.Reasons.{denied_at}

-- lines of goals hold however the work grows
pub hold_grown : (history : List Entry) (old new : Work) (goals : List Clause) (lines : List ℕ) → WorkStands history old → WorkGrows history old new → HoldChildren old goals lines → HoldChildren new goals lines
hold_grown history old new [] [] stands grows h = tt
hold_grown history old new [] (n ∷ lines) stands grows h = absurd h
hold_grown history old new (g ∷ goals) [] stands grows h = absurd h
hold_grown history old new (g ∷ goals) (n ∷ lines) stands grows h = (only_grown history old new n g stands grows h.0, hold_grown history old new goals lines stands grows h.1)

-- the line of a case
pub case_line : (work : Work) (bank : Content) (cases : List Case) (goal : Clause) (lines : List ℕ) (i : ℕ) (c : Case) (d : ℕ) → HoldChildren work (case_goals bank cases goal) lines → i < length cases → LineHasOnly work (get_or lines i d) (term_at bank (get_or cases i c).other ∷ goal)
case_line work bank [] goal lines i c d h below = absurd (omega (arith, below))
case_line work bank (x ∷ cases) goal [] i c d h below = absurd h
case_line work bank (x ∷ cases) goal (n ∷ lines) zero c d h below = h.0
case_line work bank (x ∷ cases) goal (n ∷ lines) (suc i) c d h below = case_line work bank cases goal lines i c d h.1 (omega (arith, below))

-- there are as many
pub case_count : (work : Work) (bank : Content) (cases : List Case) (goal : Clause) (lines : List ℕ) → HoldChildren work (case_goals bank cases goal) lines → length lines ≡ length cases
case_count work bank [] goal [] h = refl
case_count work bank [] goal (n ∷ lines) h = absurd h
case_count work bank (x ∷ cases) goal [] h = absurd h
case_count work bank (x ∷ cases) goal (n ∷ lines) h = ap suc (case_count work bank cases goal lines h.1)

drop_past : {X : Type 0} (xs : List X) (i : ℕ) → length xs ≤ i → drop i xs ≡ []
drop_past [] zero past = refl
drop_past [] (suc i) past = refl
drop_past (x ∷ xs) zero past = absurd (omega (arith, past))
drop_past (x ∷ xs) (suc i) past = drop_past xs i (omega (arith, past))

among_after : (c d : Clause) → AreAmong d (c ++ d)
among_after [] d u m = m
among_after (t ∷ c) d u m = inr (among_after c d u m)

-- one case is closed
pub one_closed : (history : List Entry) (old mid new : Work) → WorkStands history old → WorkGrows history old mid → (goal : Clause) (cases : List Case) (i : ℕ) (d : Case) (left other n : ℕ) → i < length cases → term_at mid.bank (get_or cases i d).literal ≡ term_at old.bank (get_or cases i d).literal →
    term_at mid.bank (get_or cases i d).other ≡ term_at old.bank (get_or cases i d).other → LineHasOnly mid left (literals_at old.bank (drop i cases) ++ goal) → LineHasOnly old other (term_at old.bank (get_or cases i d).other ∷ goal) → CaseCloses mid new (get_or cases i d) left other n →
    LineHasOnly new n (literals_at old.bank (drop (i + 1) cases) ++ goal)
one_closed history old mid new stands grows goal cases i d left other n below literal_same other_same first second closes =
    let c : Case = get_or cases i d in
    let these : Clause = literals_at old.bank (drop (i + 1) cases) ++ goal in
    let has : LineHasOnly mid left (term_at old.bank c.literal ∷ these) = subst (λ cs. LineHasOnly mid left (literals_at old.bank cs ++ goal)) (drop_more cases i d below) first in
    let more : LineHasOnly old other (term_at old.bank c.other ∷ these) =
    only_more old other (term_at old.bank c.other ∷ goal) (term_at old.bank c.other ∷ these) (λ u m. elim m [ inl e ↦ inl e | inr k ↦ inr (among_after (literals_at old.bank (drop (i + 1) cases)) goal u k) ]) second in
    closes these (subst (λ t. LineHasOnly mid left (t ∷ these)) (sym literal_same) has)
    (subst (λ t. LineHasOnly mid other (t ∷ these)) (sym other_same) (only_grown history old mid other (term_at old.bank c.other ∷ these) stands grows more))

-- one fact is cut away
pub one_cut : (history : List Entry) (old mid new : Work) → WorkStands history old → WorkGrows history old mid → (rest : Clause) (facts : List Fact) (i : ℕ) (d : Fact) (left n : ℕ) → i < length facts → term_at mid.bank (get_or facts i d).term ≡ term_at old.bank (get_or facts i d).term →
    LineHasOnly mid left (denied_at old.bank (drop i facts) ++ rest) → LineHasOnly old (get_or facts i d).line (term_at old.bank (get_or facts i d).term ∷ rest) → CutsTo mid new (term_at mid.bank (get_or facts i d).term) (get_or facts i d).line left n →
    LineHasOnly new n (denied_at old.bank (drop (i + 1) facts) ++ rest)
one_cut history old mid new stands grows rest facts i d left n below same second first cuts =
    let f : Fact = get_or facts i d in
    let t : Term = term_at old.bank f.term in
    let these : Clause = denied_at old.bank (drop (i + 1) facts) ++ rest in
    let has : LineHasOnly mid left (not_term t ∷ these) = subst (λ fs. LineHasOnly mid left (denied_at old.bank fs ++ rest)) (drop_more facts i d below) second in
    let more : LineHasOnly old f.line (t ∷ these) =
    only_more old f.line (t ∷ rest) (t ∷ these) (λ u m. elim m [ inl e ↦ inl e | inr k ↦ inr (among_after (denied_at old.bank (drop (i + 1) facts)) rest u k) ]) first in
    cuts these (subst (λ v. LineHasOnly mid f.line (v ∷ these)) (sym same) (only_grown history old mid f.line (t ∷ these) stands grows more))
    (subst (λ v. LineHasOnly mid left (not_term v ∷ these)) (sym same) has)

-- all are closed
pub all_closed : (work : Work) (bank : Content) (goal : Clause) (cases : List Case) (i left : ℕ) → length cases ≤ i → LineHasOnly work left (literals_at bank (drop i cases) ++ goal) → LineHasOnly work left goal
all_closed work bank goal cases i left past h = subst (λ cs. LineHasOnly work left (literals_at bank cs ++ goal)) (drop_past cases i past) h

pub all_cut : (work : Work) (bank : Content) (rest : Clause) (facts : List Fact) (i left : ℕ) → length facts ≤ i → LineHasOnly work left (denied_at bank (drop i facts) ++ rest) → LineHasOnly work left rest
all_cut work bank rest facts i left past h = subst (λ fs. LineHasOnly work left (denied_at bank fs ++ rest)) (drop_past facts i past) h
