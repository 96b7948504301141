-- Lines of equations.
use Rattle.std.proofs.Common.{◌≡◌, ℕ, List, [], ◌∷◌, refl, subst, inl, inr}
use Rattle.nq_logic.specs.Terms.{Term}
use Rattle.nq_logic.specs.Words.{not_term, equal_term}
use Rattle.nq_proof.specs.Rules.{Forwards}
use Rattle.nq_history.specs.declared.entry.Entry.{Entry}
use Rattle.nq_kernel.specs.declared.work.Work.{Work}
use Rattle.nq_kernel.specs.Growing.{WorkStands, WorkGrows}
use Rattle.nq_lines.specs.Lines.{LineHasOnly, LineLeads, DischargesTo, TurnsTo, JoinsTo, CarriesTo}
use Rattle.nq_lines.proofs.Among.{none_among, and_among, under, beside}
use Rattle.nq_lines.proofs.LineLemmas.{leads_only, only_grown, only_more}
use Rattle.nq_lines.proofs.Chains.{grows_twice}

pub turned_line : (history : List Entry) (w0 w1 w2 : Work) (t u : Term) (line law n : ℕ) → WorkStands history w0 → WorkGrows history w0 w1 → LineLeads w1 law (equal_term u t) (not_term (equal_term t u) ∷ []) → DischargesTo w1 w2 Forwards t u law line n → TurnsTo w0 w2 t u line n
turned_line history w0 w1 w2 t u line law n stands grows leads discharges these here =
    let e : Term = equal_term u t in
    let d : Term = not_term (equal_term t u) in
    discharges (e ∷ these)
    (only_more w1 law (e ∷ d ∷ []) (d ∷ e ∷ these) (and_among e (d ∷ []) (d ∷ e ∷ these) (inr (inl refl)) (and_among d [] (d ∷ e ∷ these) (inl refl) (none_among (d ∷ e ∷ these)))) (leads_only w1 law e (d ∷ []) leads))
    (only_more w1 line (equal_term t u ∷ these) (equal_term t u ∷ e ∷ these) (beside (equal_term t u) these (e ∷ these) (under e these these (λ v m. m))) (only_grown history w0 w1 line (equal_term t u ∷ these) stands grows here))

pub joined_line : (history : List Entry) (w0 w1 w2 w3 : Work) (t u v : Term) (first second law rest n : ℕ) → WorkStands history w0 → WorkGrows history w0 w1 → WorkGrows history w1 w2 → LineHasOnly w1 law (equal_term t v ∷ not_term (equal_term u v) ∷ not_term (equal_term t u) ∷ []) → DischargesTo w1 w2 Forwards t u law first rest → DischargesTo w2 w3 Forwards u v rest second n → JoinsTo w0 w3 t u v first second n
joined_line history w0 w1 w2 w3 t u v first second law rest n stands one two whole by_first by_second these here there =
    let e : Term = equal_term t v in
    let d : Term = not_term (equal_term t u) in
    let f : Term = not_term (equal_term u v) in
    let more : List Term = f ∷ e ∷ these in
    by_second (e ∷ these)
    (by_first more
    (only_more w1 law (e ∷ f ∷ d ∷ []) (d ∷ more) (and_among e (f ∷ d ∷ []) (d ∷ more) (inr (inr (inl refl))) (and_among f (d ∷ []) (d ∷ more) (inr (inl refl)) (and_among d [] (d ∷ more) (inl refl) (none_among (d ∷ more))))) whole)
    (only_more w1 first (equal_term t u ∷ these) (equal_term t u ∷ more) (beside (equal_term t u) these more (under f these (e ∷ these) (under e these these (λ x m. m)))) (only_grown history w0 w1 first (equal_term t u ∷ these) stands one here)))
    (only_more w2 second (equal_term u v ∷ these) (equal_term u v ∷ e ∷ these) (beside (equal_term u v) these (e ∷ these) (under e these these (λ x m. m))) (only_grown history w0 w2 second (equal_term u v ∷ these) stands (grows_twice history w0 w1 w2 one two) there))

pub carried_line : (history : List Entry) (w0 w1 w2 : Work) (t r a u : Term) (equation law n : ℕ) (these : List Term) → WorkStands history w0 → WorkGrows history w0 w1 → LineLeads w1 law (equal_term t r) (not_term (equal_term a u) ∷ []) → DischargesTo w1 w2 Forwards a u law equation n → LineHasOnly w0 equation (equal_term a u ∷ these) → LineHasOnly w2 n (equal_term t r ∷ these)
carried_line history w0 w1 w2 t r a u equation law n these stands grows leads discharges here =
    let e : Term = equal_term t r in
    let d : Term = not_term (equal_term a u) in
    discharges (e ∷ these)
    (only_more w1 law (e ∷ d ∷ []) (d ∷ e ∷ these) (and_among e (d ∷ []) (d ∷ e ∷ these) (inr (inl refl)) (and_among d [] (d ∷ e ∷ these) (inl refl) (none_among (d ∷ e ∷ these)))) (leads_only w1 law e (d ∷ []) leads))
    (only_more w1 equation (equal_term a u ∷ these) (equal_term a u ∷ e ∷ these) (beside (equal_term a u) these (e ∷ these) (under e these these (λ v m. m))) (only_grown history w0 w1 equation (equal_term a u ∷ these) stands grows here))

-- carried from work that grew before, by ids whose terms are known
pub carries_by : (history : List Entry) (w0 w1 w2 : Work) (place : ℕ) (t1 u1 t u : Term) (equation n : ℕ) → WorkStands history w0 → WorkGrows history w0 w1 → t1 ≡ t → u1 ≡ u → CarriesTo w1 w2 place t1 u1 equation n → CarriesTo w0 w2 place t u equation n
carries_by history w0 w1 w2 place t1 u1 t u equation n stands grows e f h a these at here =
    let g : CarriesTo w1 w2 place t u equation n = subst (λ v. CarriesTo w1 w2 place t v equation n) f (subst (λ v. CarriesTo w1 w2 place v u1 equation n) e h) in
    g a these at (only_grown history w0 w1 equation (equal_term a u ∷ these) stands grows here)
