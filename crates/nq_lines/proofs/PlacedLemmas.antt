-- Literals that are replaced in the line where they stand.
use Rattle.std.proofs.Common.{◌≡◌, ◌⊎◌, ◌-◌, ◌≤◌, ℕ, zero, suc, true, false, Option, Some, None, List, [], ◌∷◌, ◌++◌, refl, sym, ap, ◌∙◌, subst, inl, inr, arith}
use Rattle.std.specs.Prelude.{is_some, IsSome, slice_get, Vec}
use Rattle.std.specs.Option.{option_map}
use Rattle.std.specs.declared.alloc.Global.{Global}
use Rattle.std.proofs.lemmas.Option.{slice_get-map}
use Rattle.nq_logic.specs.Terms.{Term, IsAmong}
use Rattle.nq_proof.specs.Clauses.{Clause, literal_at, spliced, in_place, distinct, has_term}
use Rattle.nq_proof.specs.Paths.{replaced_at}
use Rattle.nq_proof.specs.Rules.{Side, given, used_equation}
use Rattle.nq_rule.specs.Results.{replacement_of}
use Rattle.nq_rule.specs.Sides.{side_of}
use Rattle.nq_rule.specs.declared.replacing.Side.{Side as SideOf}
use Rattle.nq_bank.specs.declared.node.TermId.{TermId}
use Rattle.nq_bank.specs.Content.{Content, term_at, terms_at}
use Rattle.nq_history.specs.declared.entry.Entry.{Entry}
use Rattle.nq_kernel.specs.declared.work.Work.{Work}
use Rattle.nq_kernel.specs.declared.rule.Rule.TheVariants.{Replace}
use Rattle.nq_kernel.specs.Lines.{ids_at}
use Rattle.nq_kernel.specs.Meaning.{conclusion_at, clause_at}
use Rattle.nq_kernel.specs.Growing.{WorkStands, WorkGrows, LineHolds}
use Rattle.nq_lines.specs.Lines.{AreAmong, LineHasOnly, IsLiteralAt, LacksLiteral, MakesUnder, ReplacesAnywhere, DischargesTo, equation_of}
use Rattle.nq_lines.proofs.Among.{under, beside}
use Rattle.nq_lines.proofs.LineLemmas.{from_distinct, among_either, only_grown, only_more}
use Rattle.nq_lines.proofs.OnlyLemmas.{has_true}

some_same : {A : Type 0} (o : Option A) (a b : A) → o ≡ Some a → o ≡ Some b → a ≡ b
some_same o a b e f = cc

-- the literal at the place of an id
literal_there : (bank : Content) (ids : List TermId) (k : ℕ) (t : TermId) → 1 ≤ k → slice_get ids (k - 1) ≡ Some t → literal_at k (terms_at bank ids) ≡ Some (term_at bank t)
literal_there bank ids zero t first e = absurd (omega (arith, first))
literal_there bank ids (suc i) t first e =
    let less : suc i - 1 ≡ i = omega arith in
    slice_get-map (term_at bank) ids i ∙ ap (option_map (term_at bank)) (ap (slice_get ids) (sym less) ∙ e)

pub literal_of_line : (work : Work) (line k : ℕ) (ids : List TermId) (t : TermId) → ids_at work.log line ≡ Some ids → 1 ≤ k → slice_get ids (k - 1) ≡ Some t → IsLiteralAt work line k (term_at work.bank t)
literal_of_line work line k ids t holds first at =
    record { literals = terms_at work.bank ids; holds = ap (option_map (terms_at work.bank)) holds; at = literal_there work.bank ids k t first at }

-- what is not found among the literals of a line
pub lacks_literal : (work : Work) (line : ℕ) (ids : List TermId) (t : Term) → ids_at work.log line ≡ Some ids → has_term t (terms_at work.bank ids) ≡ false → LacksLiteral work line t
lacks_literal work line ids t holds off c is m =
    let same : c ≡ terms_at work.bank ids = some_same (clause_at work.bank work.log line) c (terms_at work.bank ids) is (ap (option_map (terms_at work.bank)) holds) in
    let on : has_term t (terms_at work.bank ids) ≡ true = has_true t (terms_at work.bank ids) (subst (IsAmong t) same m) in
    absurd cc

spliced_among : (t : Term) (k : ℕ) (these c : Clause) → IsAmong t (spliced k these c) → IsAmong t these ⊎ IsAmong t c
spliced_among t k these [] m = absurd m
spliced_among t zero these (u ∷ c) m = elim (among_either t these c m) [ inl a ↦ inl a | inr b ↦ inr (inr b) ]
spliced_among t (suc k) these (u ∷ c) (inl e) = inr (inl e)
spliced_among t (suc k) these (u ∷ c) (inr m) = elim (spliced_among t k these c m) [ inl a ↦ inl a | inr b ↦ inr (inr b) ]

placed_among : (t : Term) (k : ℕ) (these c : Clause) → IsAmong t (in_place k these c) → IsAmong t these ⊎ IsAmong t c
placed_among t zero these c m = inr m
placed_among t (suc k) these c m = spliced_among t k these c m

-- a clause with another term, and a hypothesis, for a literal that it has no more
placed_only : (k : ℕ) (t made hyp : Term) (c these : Clause) → AreAmong c (t ∷ these) → (IsAmong t (distinct (in_place k (made ∷ []) c ++ (hyp ∷ []))) → ⊥) → AreAmong (distinct (in_place k (made ∷ []) c ++ (hyp ∷ []))) (made ∷ hyp ∷ these)
placed_only k t made hyp c these only lacks v m =
    elim (among_either v (in_place k (made ∷ []) c) (hyp ∷ []) (from_distinct v (in_place k (made ∷ []) c ++ (hyp ∷ [])) m)) [
      | inl a ↦ by_part (placed_among v k (made ∷ []) c a)
      | inr a ↦ elim a [ inl e ↦ inr (inl e) | inr none ↦ absurd none ]
    ]
  where
    by_these : IsAmong v (t ∷ these) → IsAmong v (made ∷ hyp ∷ these)
    by_these (inl e) = absurd (lacks (subst (λ x. IsAmong x (distinct (in_place k (made ∷ []) c ++ (hyp ∷ [])))) e m))
    by_these (inr r) = inr (inr r)

    by_part : IsAmong v (made ∷ []) ⊎ IsAmong v c → IsAmong v (made ∷ hyp ∷ these)
    by_part (inl b) = elim b [ inl e ↦ inl e | inr none ↦ absurd none ]
    by_part (inr b) = by_these (only v b)

module _ (history : List Entry) (work : Work) (line place : ℕ) (path : Vec ℕ Global) (u : TermId) (side : SideOf) where
  -- what REPLACE gives at the place of a literal
  pub placed_given : (c : Clause) (t : Term) (change : Term × Term) → LineHolds work line c → literal_at place c ≡ Some t → replaced_at path.items (term_at work.bank u) t ≡ Some change →
      conclusion_at work.bank history work.log (Replace line place path u side) ≡ Some (distinct (in_place place (change.1 ∷ []) c ++ (used_equation (side_of side) change.0 (term_at work.bank u) ∷ [])))
  unfolding conclusion_at
  placed_given c t change holds at changed =
      let done : Clause → Term × Term → Clause = λ c change. distinct (in_place place (change.1 ∷ []) c ++ (used_equation (side_of side) change.0 (term_at work.bank u) ∷ [])) in
      ap (λ o. given o (replacement_of place path.items (term_at work.bank u) (side_of side))) holds ∙
      ap (λ o. given o (λ a. given (replaced_at path.items (term_at work.bank u) a) (λ change. Some (done c change)))) at ∙
      ap (λ o. given o (λ change. Some (done c change))) changed

  pub placed_allowed : (t : Term) → IsLiteralAt work line place t → IsSome (replaced_at path.items (term_at work.bank u) t) → IsSome (conclusion_at work.bank history work.log (Replace line place path u side))
  placed_allowed t at can = by_change (replaced_at path.items (term_at work.bank u) t) refl can
    where
      by_change : (o : Option (Term × Term)) → replaced_at path.items (term_at work.bank u) t ≡ o → IsSome o → IsSome (conclusion_at work.bank history work.log (Replace line place path u side))
      by_change None e k = absurd cc
      by_change (Some change) e k = ap is_some (placed_given at.literals t change at.holds at.at e)

  -- a line that REPLACE gave, and that lacks the literal
  pub placed_line : (new : Work) (n : ℕ) (t : Term) → IsLiteralAt work line place t → clause_at new.bank new.log n ≡ conclusion_at work.bank history work.log (Replace line place path u side) → LacksLiteral new n t → ReplacesAnywhere work new line t path.items (term_at work.bank u) (side_of side) n
  placed_line new n t at is lacks change changed these here =
      let hyp : Term = used_equation (side_of side) change.0 (term_at work.bank u) in
      let c : Clause = here.literals in
      let same : at.literals ≡ c = some_same (clause_at work.bank work.log line) at.literals c at.holds here.stands in
      let made : Clause = distinct (in_place place (change.1 ∷ []) c ++ (hyp ∷ [])) in
      let holds : LineHolds new n made = is ∙ placed_given c t change here.stands (subst (λ c. literal_at place c ≡ Some t) same at.at) changed in
      record { literals = made; stands = holds; only = placed_only place t change.1 hyp c these here.only (lacks made holds) }

-- a literal replaced, and the hypothesis of the equation discharged
pub replaced_line : (history : List Entry) (w0 w1 w2 : Work) (side : Side) (t u made literal : Term) (line equation replaced n : ℕ) → WorkStands history w0 → WorkGrows history w0 w1 → MakesUnder w0 w1 literal made (used_equation side t u) line replaced → DischargesTo w1 w2 side t u replaced equation n →
    (these : List Term) → LineHasOnly w0 line (literal ∷ these) → LineHasOnly w0 equation (equation_of side t u ∷ these) → LineHasOnly w2 n (made ∷ these)
replaced_line history w0 w1 w2 side t u made literal line equation replaced n stands grows makes discharges these here shown =
    let e : Term = used_equation side t u in
    let q : Term = equation_of side t u in
    discharges (made ∷ these)
    (only_more w1 replaced (made ∷ e ∷ these) (e ∷ made ∷ these) (swapped made e these) (makes these here))
    (only_grown history w0 w1 equation (q ∷ made ∷ these) stands grows
    (only_more w0 equation (q ∷ these) (q ∷ made ∷ these) (beside q these (made ∷ these) (under made these these (λ v m. m))) shown))
  where
    swapped : (a b : Term) (c : List Term) → AreAmong (a ∷ b ∷ c) (b ∷ a ∷ c)
    swapped a b c v (inl e) = inr (inl e)
    swapped a b c v (inr (inl e)) = inl e
    swapped a b c v (inr (inr m)) = inr (inr m)

-- the same, from work that grew before
pub makes_before : (history : List Entry) (w0 w1 w2 : Work) (literal made hyp : Term) (line n : ℕ) → WorkStands history w0 → WorkGrows history w0 w1 → MakesUnder w1 w2 literal made hyp line n → MakesUnder w0 w2 literal made hyp line n
makes_before history w0 w1 w2 literal made hyp line n stands grows makes these here = makes these (only_grown history w0 w1 line (literal ∷ these) stands grows here)

-- what a line has that two lines show, from work that grew before
pub shown_before : (history : List Entry) (w0 w1 w2 : Work) (p q r : Term) (line equation n : ℕ) → WorkStands history w0 → WorkGrows history w0 w1 →
    ((these : List Term) → LineHasOnly w1 line (p ∷ these) → LineHasOnly w1 equation (q ∷ these) → LineHasOnly w2 n (r ∷ these)) →
    (these : List Term) → LineHasOnly w0 line (p ∷ these) → LineHasOnly w0 equation (q ∷ these) → LineHasOnly w2 n (r ∷ these)
shown_before history w0 w1 w2 p q r line equation n stands grows f these here shown =
    f these (only_grown history w0 w1 line (p ∷ these) stands grows here) (only_grown history w0 w1 equation (q ∷ these) stands grows shown)
