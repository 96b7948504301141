-- The lines of cases that wait for an induction, and their terms.
use Rattle.std.proofs.Common.{◌≡◌, ℕ, Option, Some, List, [], ◌∷◌, ◌++◌, refl, ap, ◌∙◌}
use Rattle.nq_logtext.specs.Reading.{◌>>=◌}
use Rattle.nq_logic.specs.Terms.{Name, Term, Substitution}
use Rattle.nq_proof.specs.Rules.{Hypothesis, CaseLines}
use Rattle.nq_log.specs.States.{CaseLine, CaseOf, HypothesisOf, Block, term_at, variable_of, variable_at}
use Rattle.nq_log.specs.RuleLines.{substitution_at, grouped}
use Rattle.nq_log.proofs.Options.{bound, found_same}
use Rattle.nq_block.specs.Writing.{with_hypothesis}
use Rattle.nq_block.proofs.Numbering.{numbered_kept}

-- the block with more terms
abbrev pub more_terms : Block → List Term → Block
more_terms block more = record block { terms = block.terms ++ more }

term_kept : (block : Block) (more : List Term) (n : ℕ) (t : Term) → term_at block n ≡ Some t → term_at (more_terms block more) n ≡ Some t
term_kept block more n t e = numbered_kept block.terms more n t e

variable_kept : (block : Block) (more : List Term) (n : ℕ) (x : Name) → variable_at block n ≡ Some x → variable_at (more_terms block more) n ≡ Some x
variable_kept block more n x e =
    let a = bound (term_at block n) variable_of x e in
    ap (λ (o : Option Term). o >>= variable_of) (term_kept block more n a.0 a.1) ∙ a.2

substitution_kept : (block : Block) (more : List Term) (pairs : List (ℕ × ℕ)) (s : Substitution) → substitution_at block pairs ≡ Some s → substitution_at (more_terms block more) pairs ≡ Some s
substitution_kept block more [] s e = e
substitution_kept block more (pair ∷ pairs) s e =
    let a = bound (variable_at block pair.0) (λ x. term_at block pair.1 >>= λ t. substitution_at block pairs >>= λ s. Some ((x, t) ∷ s)) s e in
    let b = bound (term_at block pair.1) (λ t. substitution_at block pairs >>= λ s. Some ((a.0, t) ∷ s)) s a.2 in
    let c = bound (substitution_at block pairs) (λ s. Some ((a.0, b.0) ∷ s)) s b.2 in
    let x = variable_kept block more pair.0 a.0 a.1 in
    let t = term_kept block more pair.1 b.0 b.1 in
    let rest = substitution_kept block more pairs c.0 c.1 in
    rw (x, t, rest) c.2

pub grouped_kept : (block : Block) (more : List Term) (lines : List CaseLine) (g : List Hypothesis × List CaseLines) → grouped block lines ≡ Some g → grouped (more_terms block more) lines ≡ Some g
grouped_kept block more [] g e = e
grouped_kept block more (CaseOf q l ∷ lines) g e =
    let a = bound (term_at block q) (λ test. grouped block lines >>= λ g. Some ([], record { test = test; step = l; hypotheses = g.0 } ∷ g.1)) g e in
    let b = bound (grouped block lines) (λ g. Some ([], record { test = a.0; step = l; hypotheses = g.0 } ∷ g.1)) g a.2 in
    let test = term_kept block more q a.0 a.1 in
    let rest = grouped_kept block more lines b.0 b.1 in
    rw (test, rest) b.2
grouped_kept block more (HypothesisOf r pairs ∷ lines) g e =
    let a = bound (substitution_at block pairs) (λ s. grouped block lines >>= λ g. Some (record { line = r; pairs = s } ∷ g.0, g.1)) g e in
    let b = bound (grouped block lines) (λ g. Some (record { line = r; pairs = a.0 } ∷ g.0, g.1)) g a.2 in
    let pairs = substitution_kept block more pairs a.0 a.1 in
    let rest = grouped_kept block more lines b.0 b.1 in
    rw (pairs, rest) b.2

-- ---- one more line that waits

abbrev Grouped : Type 0
Grouped = List Hypothesis × List CaseLines

abbrev with_case_line : ℕ → Term → Grouped → Grouped
with_case_line l test g = ([], record { test = test; step = l; hypotheses = g.0 } ∷ g.1)

abbrev with_hypothesis_line : Hypothesis → Grouped → Grouped
with_hypothesis_line s g = (s ∷ g.0, g.1)

abbrev new_case : ℕ → Term → CaseLines
new_case l test = record { test = test; step = l; hypotheses = [] }

pub case_end : (block : Block) (lines : List CaseLine) (q l : ℕ) (test : Term) (g : List Hypothesis × List CaseLines) → grouped block lines ≡ Some g → term_at block q ≡ Some test →
    grouped block (lines ++ (CaseOf q l ∷ [])) ≡ Some (g.0, g.1 ++ (record { test = test; step = l; hypotheses = [] } ∷ []))
case_end block [] q l test g e t =
    ap (λ (o : Option Term). o >>= λ test. Some (with_case_line l test ([], []))) t ∙ ap (λ (g : List Hypothesis × List CaseLines). Some (g.0, g.1 ++ (new_case l test ∷ []))) (found_same ([], []) g e)
case_end block (CaseOf p k ∷ lines) q l test g e t =
    let a = bound (term_at block p) (λ test. grouped block lines >>= λ g. Some (with_case_line k test g)) g e in
    let b = bound (grouped block lines) (λ g. Some (with_case_line k a.0 g)) g a.2 in
    let rest = case_end block lines q l test b.0 b.1 t in
    let first = a.1 in
    rw (first, rest) (ap (λ (g : List Hypothesis × List CaseLines). Some (g.0, g.1 ++ (new_case l test ∷ []))) (found_same (with_case_line k a.0 b.0) g b.2))
case_end block (HypothesisOf r pairs ∷ lines) q l test g e t =
    let a = bound (substitution_at block pairs) (λ s. grouped block lines >>= λ g. Some (with_hypothesis_line (record { line = r; pairs = s }) g)) g e in
    let b = bound (grouped block lines) (λ g. Some (with_hypothesis_line (record { line = r; pairs = a.0 }) g)) g a.2 in
    let rest = case_end block lines q l test b.0 b.1 t in
    let first = a.1 in
    rw (first, rest) (ap (λ (g : List Hypothesis × List CaseLines). Some (g.0, g.1 ++ (new_case l test ∷ []))) (found_same (with_hypothesis_line (record { line = r; pairs = a.0 }) b.0) g b.2))

-- a hypothesis is one of the last case
abbrev add_last : Hypothesis → List CaseLines → List CaseLines
add_last h [] = []
add_last h (c ∷ []) = with_hypothesis c h ∷ []
add_last h (c ∷ d ∷ cs) = c ∷ add_last h (d ∷ cs)

abbrev add_hypothesis : Hypothesis → List Hypothesis × List CaseLines → List Hypothesis × List CaseLines
add_hypothesis h (hs, []) = (hs ++ (h ∷ []), [])
add_hypothesis h (hs, c ∷ cs) = (hs, add_last h (c ∷ cs))

added_case : (h : Hypothesis) (l : ℕ) (test : Term) (g : List Hypothesis × List CaseLines) → ◌≡◌ {A = List Hypothesis × List CaseLines} (with_case_line l test (add_hypothesis h g)) (add_hypothesis h (with_case_line l test g))
added_case h l test (hs, []) = refl
added_case h l test (hs, c ∷ cs) = refl

added_hypothesis : (h s : Hypothesis) (g : List Hypothesis × List CaseLines) → ◌≡◌ {A = List Hypothesis × List CaseLines} (with_hypothesis_line s (add_hypothesis h g)) (add_hypothesis h (with_hypothesis_line s g))
added_hypothesis h s (hs, []) = refl
added_hypothesis h s (hs, c ∷ cs) = refl

hypothesis_added : (block : Block) (lines : List CaseLine) (r : ℕ) (pairs : List (ℕ × ℕ)) (s : Substitution) (g : List Hypothesis × List CaseLines) → grouped block lines ≡ Some g → substitution_at block pairs ≡ Some s →
    grouped block (lines ++ (HypothesisOf r pairs ∷ [])) ≡ Some (add_hypothesis (record { line = r; pairs = s }) g)
hypothesis_added block [] r pairs s g e t =
    ap (λ (o : Option Substitution). o >>= λ s. Some (with_hypothesis_line (record { line = r; pairs = s }) ([], []))) t ∙ ap (λ (g : List Hypothesis × List CaseLines). Some (add_hypothesis (record { line = r; pairs = s }) g)) (found_same ([], []) g e)
hypothesis_added block (CaseOf p k ∷ lines) r pairs s g e t =
    let a = bound (term_at block p) (λ test. grouped block lines >>= λ g. Some (with_case_line k test g)) g e in
    let b = bound (grouped block lines) (λ g. Some (with_case_line k a.0 g)) g a.2 in
    let rest = hypothesis_added block lines r pairs s b.0 b.1 t in
    let first = a.1 in
    rw (first, rest) (ap Some (added_case (record { line = r; pairs = s }) k a.0 b.0) ∙ ap (λ (g : List Hypothesis × List CaseLines). Some (add_hypothesis (record { line = r; pairs = s }) g)) (found_same (with_case_line k a.0 b.0) g b.2))
hypothesis_added block (HypothesisOf q others ∷ lines) r pairs s g e t =
    let a = bound (substitution_at block others) (λ s. grouped block lines >>= λ g. Some (with_hypothesis_line (record { line = q; pairs = s }) g)) g e in
    let b = bound (grouped block lines) (λ g. Some (with_hypothesis_line (record { line = q; pairs = a.0 }) g)) g a.2 in
    let rest = hypothesis_added block lines r pairs s b.0 b.1 t in
    let first = a.1 in
    rw (first, rest) (ap Some (added_hypothesis (record { line = r; pairs = s }) (record { line = q; pairs = a.0 }) b.0) ∙ ap (λ (g : List Hypothesis × List CaseLines). Some (add_hypothesis (record { line = r; pairs = s }) g)) (found_same (with_hypothesis_line (record { line = q; pairs = a.0 }) b.0) g b.2))

last_added : (h : Hypothesis) (c : CaseLines) (cs : List CaseLines) → add_last h (cs ++ (c ∷ [])) ≡ cs ++ (with_hypothesis c h ∷ [])
last_added h c [] = refl
last_added h c (d ∷ []) = refl
last_added h c (d ∷ e ∷ cs) = ap (λ rest. d ∷ rest) (last_added h c (e ∷ cs))

case_added : (h : Hypothesis) (c : CaseLines) (cs : List CaseLines) → ◌≡◌ {A = List Hypothesis × List CaseLines} (add_hypothesis h ([], cs ++ (c ∷ []))) ([], cs ++ (with_hypothesis c h ∷ []))
case_added h c [] = refl
case_added h c (d ∷ cs) = ap (λ cs. ([], cs)) (last_added h c (d ∷ cs))

pub hypothesis_end : (block : Block) (lines : List CaseLine) (r : ℕ) (pairs : List (ℕ × ℕ)) (s : Substitution) (c : CaseLines) (cs : List CaseLines) → grouped block lines ≡ Some ([], cs ++ (c ∷ [])) → substitution_at block pairs ≡ Some s →
    grouped block (lines ++ (HypothesisOf r pairs ∷ [])) ≡ Some ([], cs ++ (with_hypothesis c (record { line = r; pairs = s }) ∷ []))
hypothesis_end block lines r pairs s c cs e t = hypothesis_added block lines r pairs s ([], cs ++ (c ∷ [])) e t ∙ ap Some (case_added (record { line = r; pairs = s }) c cs)
