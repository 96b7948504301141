-- The instance of the rule of a shell.
use Rattle.std.proofs.Common.{◌≡◌, ◌<◌, ◌+◌, ℕ, zero, suc, Option, Some, None, List, [], ◌∷◌, ◌++◌, length, map, take, get_or, refl, sym, ap, ap₂, ◌∙◌, subst, inl, inr, arith}
use Rattle.std.specs.Prelude.{All, codes}
use Rattle.std.proofs.lemmas.List.{map_push, take_more}
use Rattle.nq_logic.specs.Terms.{Name, Term, Function, Applied, applied, substituted}
use Rattle.nq_logic.specs.Histories.{Shell as ShellOfTexts, Part as PartOfTexts}
use Rattle.nq_logic.specs.Shells.{accessed, is_base, recognizes, remade, whole}
use Rattle.nq_logic.specs.Words.{equal_term, not_term}
use Rattle.nq_bank.specs.declared.node.TermId.{TermId}
use Rattle.nq_bank.specs.declared.shell.Part.{Part}
use Rattle.nq_bank.specs.declared.shell.Shell.{Shell}
use Rattle.nq_bank.specs.Content.{Content, Stands, term_at, terms_at, text_at}
use Rattle.nq_bank.specs.Shells.{PartStands, ShellStands, part_at, parts_at}
use Rattle.nq_bank.proofs.Growth.{text_at-grown}
use Rattle.nq_proof.specs.Clauses.{Clause}
use Rattle.nq_proof.specs.Rows.{axiom_clause}
use Rattle.nq_history.specs.declared.entry.Entry.{Entry}
use Rattle.nq_history.specs.Events.{events_at}
use Rattle.nq_history.proofs.HistoryLemmas.{events_at-grown}
use Rattle.nq_kernel.specs.declared.work.Work.{Work}
use Rattle.nq_kernel.specs.Growing.{WorkStands, WorkGrows}
use Rattle.nq_lines.specs.Lines.{LineHasOnly, MakesOf}
use Rattle.nq_lines.proofs.LineLemmas.{only_more}
use Rattle.nq_eliminate.specs.Made.{base_denied, base_on, hypotheses_on, made_on, made_row}

-- one more call
accessed-push : (t : Term) (parts : List PartOfTexts) (part : PartOfTexts) → accessed t (parts ++ part ∷ []) ≡ accessed t parts ++ (Applied (Function part.accessor) t ∷ [])
accessed-push t [] part = refl
accessed-push t (p ∷ parts) part = ap (λ c. Applied (Function p.accessor) t ∷ c) (accessed-push t parts part)

pub accessed_more : (old : Content) (t : Term) (parts : List Part) (i : ℕ) (d : Part) → i < length parts → accessed t (parts_at old (take (i + 1) parts)) ≡ accessed t (parts_at old (take i parts)) ++ (Applied (Function (text_at old (get_or parts i d).accessor)) t ∷ [])
accessed_more old t parts i d below =
    ap (λ ps. accessed t (parts_at old ps)) (take_more parts i d below)
    ∙ ap (accessed t) (map_push (part_at old) (take i parts) (get_or parts i d))
    ∙ accessed-push t (parts_at old (take i parts)) (part_at old (get_or parts i d))

-- what the row says of a term, with the equation of the base first
row_put : (t : Term) (parts : List PartOfTexts) (u : Term) → substituted ((codes "X", t) ∷ []) (applied u (accessed whole parts)) ≡ applied (substituted ((codes "X", t) ∷ []) u) (accessed t parts)
row_put t [] u = refl
row_put t (part ∷ parts) u = row_put t parts (Applied u (Applied (Function part.accessor) whole))

base_put : (t : Term) (o : Option Name) (c : Clause) → map (substituted ((codes "X", t) ∷ [])) (is_base o ++ c) ≡ base_on t o ++ map (substituted ((codes "X", t) ∷ [])) c
base_put t None c = refl
base_put t (Some b) c = refl

pub row_on : (t : Term) (s : ShellOfTexts) → map (substituted ((codes "X", t) ∷ [])) (made_row s) ≡ not_term (recognizes s t) ∷ (base_on t s.base ++ (equal_term (made_on t s) t ∷ []))
row_on t s = ap (λ c. not_term (recognizes s t) ∷ c) (base_put t s.base (equal_term (remade s) whole ∷ []) ∙ ap (λ u. base_on t s.base ++ (equal_term u t ∷ [])) (row_put t s.parts (Function s.constructor)))

-- the line of the rule, from the row
pub line_without : (work : Work) (t : Term) (s : ShellOfTexts) (n : ℕ) → s.base ≡ None → LineHasOnly work n (map (substituted ((codes "X", t) ∷ [])) (made_row s)) → LineHasOnly work n (equal_term (made_on t s) t ∷ map not_term (hypotheses_on t s))
line_without work t s n none h =
    only_more work n (not_term (recognizes s t) ∷ (equal_term (made_on t s) t ∷ [])) (equal_term (made_on t s) t ∷ map not_term (hypotheses_on t s))
    (λ u m. elim m [ inl e ↦ inr (inl e) | inr k ↦ elim k [ inl e ↦ inl e | inr nothing ↦ absurd nothing ] ])
    (subst (λ o. LineHasOnly work n (not_term (recognizes s t) ∷ (base_on t o ++ (equal_term (made_on t s) t ∷ [])))) none (subst (LineHasOnly work n) (row_on t s) h))

pub line_with : (old new : Work) (t e : Term) (s : ShellOfTexts) (b : Name) (line n : ℕ) → s.base ≡ Some b → e ≡ equal_term t (Function b) → LineHasOnly old line (map (substituted ((codes "X", t) ∷ [])) (made_row s)) → MakesOf old new e (not_term (not_term e)) line n → LineHasOnly new n (equal_term (made_on t s) t ∷ map not_term (hypotheses_on t s))
line_with old new t e s b line n some is h makes =
    let these : Clause = not_term (recognizes s t) ∷ (equal_term (made_on t s) t ∷ []) in
    let told : LineHasOnly old line (not_term (recognizes s t) ∷ (equal_term t (Function b) ∷ (equal_term (made_on t s) t ∷ []))) =
    subst (λ o. LineHasOnly old line (not_term (recognizes s t) ∷ (base_on t o ++ (equal_term (made_on t s) t ∷ [])))) some (subst (LineHasOnly old line) (row_on t s) h) in
    let first : LineHasOnly old line (e ∷ these) =
    subst (λ f. LineHasOnly old line (f ∷ these)) (sym is)
    (only_more old line (not_term (recognizes s t) ∷ (equal_term t (Function b) ∷ (equal_term (made_on t s) t ∷ []))) (equal_term t (Function b) ∷ these)
    (λ u m. elim m [ inl k ↦ inr (inl k) | inr k ↦ elim k [ inl l ↦ inl l | inr l ↦ inr (inr l) ] ]) told) in
    let made : LineHasOnly new n (not_term (not_term (equal_term t (Function b))) ∷ these) = subst (λ f. LineHasOnly new n (not_term (not_term f) ∷ these)) is (makes these first) in
    subst (λ o. LineHasOnly new n (equal_term (made_on t s) t ∷ (not_term (recognizes s t) ∷ map not_term (base_denied t o)))) (sym some)
    (only_more new n (not_term (not_term (equal_term t (Function b))) ∷ these) (equal_term (made_on t s) t ∷ (not_term (recognizes s t) ∷ (not_term (not_term (equal_term t (Function b))) ∷ [])))
    (λ u m. elim m [ inl k ↦ inr (inr (inl k)) | inr k ↦ elim k [ inl l ↦ inr (inl l) | inr l ↦ elim l [ inl q ↦ inl q | inr nothing ↦ absurd nothing ] ] ]) made)

-- ---- a shell, however the work grows

module _ (history : List Entry) (old new : Work) (stood : WorkStands history old) (grows : WorkGrows history old new) (shell : Shell) (stands : ShellStands old.bank shell) where
  pub row_grown : (c : Clause) → axiom_clause (events_at old.bank history) (text_at old.bank shell.constructor) 5 0 ≡ Some c → axiom_clause (events_at new.bank history) (text_at new.bank shell.constructor) 5 0 ≡ Some c
  row_grown c e =
      ap (λ es. axiom_clause es (text_at new.bank shell.constructor) 5 0) (events_at-grown old.bank new.bank grows.bank history stood.history.entries)
      ∙ ap (λ x. axiom_clause (events_at old.bank history) x 5 0) (text_at-grown old.bank new.bank shell.constructor grows.bank stands.constructor)
      ∙ e

pub calls_more : (old mid new : Content) (t : Term) (ids : List TermId) (made : TermId) (parts : List Part) (i : ℕ) (part : Part) → i < length parts → part ≡ get_or parts i part → terms_at new ids ≡ terms_at mid ids → terms_at mid ids ≡ accessed t (parts_at old (take i parts)) → term_at new made ≡ Applied (Function (text_at old part.accessor)) t →
    terms_at new (ids ++ made ∷ []) ≡ accessed t (parts_at old (take (i + 1) parts))
calls_more old mid new t ids made parts i part below at same before is =
    map_push (term_at new) ids made
    ∙ ap₂ (λ (ts : Clause) (u : Term). ts ++ (u ∷ [])) (same ∙ before) is
    ∙ sym (accessed_more old t parts i part below ∙ ap (λ (p : Part). accessed t (parts_at old (take i parts)) ++ (Applied (Function (text_at old p.accessor)) t ∷ [])) (sym at))

pub one_stands : (bank : Content) (t : TermId) → Stands bank t → All (Stands bank) (t ∷ [])
one_stands bank t h zero d below = h
one_stands bank t h (suc k) d below = absurd (omega (arith, below))

pub part_there : (bank : Content) (parts : List Part) (i : ℕ) (part : Part) → All (PartStands bank) parts → i < length parts → part ≡ get_or parts i part → PartStands bank part
part_there bank parts i part all below at = subst (PartStands bank) (sym at) (all i part below)
