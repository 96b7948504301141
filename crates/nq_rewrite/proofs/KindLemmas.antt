-- Calls of functions of one argument, and steps that rest on a kind that a line shows.
use Rattle.std.proofs.Common.{◌<◌, get_or, length, None, ◌≡◌, ◌∷◌, [], ◌∙◌, ℕ, Bool, true, false, Option, List, Some, refl, sym, ap, subst, inl, inr}
use Rattle.std.specs.Prelude.{All, IsSome, bytes_eq, if◌then◌else◌}
use Rattle.std.specs.Option.{option_map}
use Rattle.nq_logic.specs.Terms.{Name, Symbol, Term, IsAmong, call}
use Rattle.nq_logic.specs.Words.{equal_term, not_term}
use Rattle.nq_logic.specs.Ground.{symbols_of}
use Rattle.nq_language.specs.Arities.{arity_in}
use Rattle.nq_bank.specs.declared.node.TermId.{TermId}
use Rattle.nq_bank.specs.Content.{term_at, terms_at}
use Rattle.nq_bank.proofs.Texts.{bytes_eq-true}
use Rattle.nq_history.specs.declared.entry.Entry.{Entry}
use Rattle.nq_history.specs.Events.{events_at}
use Rattle.nq_kernel.specs.declared.work.Work.{Work}
use Rattle.nq_kernel.specs.declared.prescription.Prescription.{Prescription}
use Rattle.nq_kernel.specs.Growing.{LineStands, PrescriptionStands, WorkStands, WorkGrows}
use Rattle.nq_kernel.specs.Lines.{ids_at}
use Rattle.nq_lines.specs.Lines.{CutsTo, IsTermIn, LineHasOnly}
use Rattle.nq_lines.specs.OwnTerms.{IsOver}
use Rattle.nq_lines.specs.declared.facts.Fact.{Fact}
use Rattle.nq_lines.proofs.Among.{beside, under}
use Rattle.nq_lines.proofs.LineLemmas.{only_more, only_stands}
use Rattle.nq_lines.proofs.TermLemmas.{term_grown, same_term_grown}
use Rattle.nq_reduce.specs.declared.results.Rewritten.{Rewritten}
use Rattle.nq_reduce.specs.Held.{IsHeld}
use Rattle.nq_reduce.specs.Rewriting.{IsRewritten, IsShown, denials}

some_same : (m n : ℕ) → Some m ≡ Some n → m ≡ n
some_same m n e = cc

-- the symbol that a comparison finds
found : (b : Bool) (f : Name) (s : Symbol) (n : ℕ) (rest : Option ℕ) (symbols : List Symbol) → bytes_eq f s.0 ≡ b → (rest ≡ Some n → IsAmong (f, n) symbols) → (if b then Some s.1 else rest) ≡ Some n → IsAmong (f, n) (s ∷ symbols)
found true f s n rest symbols same among e =
    let count : s.1 ≡ n = some_same s.1 n e in
    let name : f ≡ s.0 = bytes_eq-true f s.0 same in
    inl (ap (λ g. (g, n)) name ∙ ap (λ m. (s.0, m)) (sym count))
found false f s n rest symbols same among e = inr (among e)

-- a function with this number of arguments is one of the symbols
arity_among : (symbols : List Symbol) (f : Name) (n : ℕ) → arity_in symbols f ≡ Some n → IsAmong (f, n) symbols
arity_among [] f n e = absurd cc
arity_among (s ∷ symbols) f n e = found (bytes_eq f s.0) f s n (arity_in symbols f) symbols refl (arity_among symbols f n) e

-- the same of one argument
pub arity_one : (symbols : List Symbol) (f : Name) (n : ℕ) → arity_in symbols f ≡ Some n → n ≡ 1 → IsAmong (f, 1) symbols
arity_one symbols f n e one = arity_among symbols f 1 (e ∙ ap Some one)

-- the call of a function of one argument is over the history, where its argument is
pub one_over : (history : List Entry) (work : Work) (f : Name) (a : TermId) → IsAmong (f, 1) (symbols_of (events_at work.bank history)) → IsTermIn history work a → IsOver (events_at work.bank history) (call f (term_at work.bank a ∷ []))
one_over history work f a among h = record { over = (among, h.over.over); variables = (tt, h.over.variables) }

mapped : {X Y : Type 0} (f : X → Y) (o : Option X) → IsSome o → IsSome (option_map f o)
mapped f None h = h
mapped f (Some x) h = h

-- a line that the work knows stands
pub known_stands : (history : List Entry) (work : Work) (known : List Prescription) (i : ℕ) (d : Prescription) → WorkStands history work → known ≡ work.known.items → i < length known → LineStands work (get_or known i d).line
known_stands history work known i d stands is below =
    let p : PrescriptionStands work.bank work.log (get_or known i d) = subst (All (PrescriptionStands work.bank work.log)) (sym is) stands.known i d below in
    mapped (terms_at work.bank) (ids_at work.log (get_or known i d).line) p.line

-- the line of a step stands
pub shown_stands : (history : List Entry) (work : Work) (assumed : List Term) (t : Term) (r : Rewritten) (n : ℕ) → r.line ≡ Some n → IsRewritten history work assumed t r → LineStands work n
shown_stands history work assumed t r n is h = only_stands work n (equal_term t (term_at work.bank r.term) ∷ denials assumed) (subst (IsShown work assumed t (term_at work.bank r.term)) is h.shown)

exchanged : (x y : Term) (c : List Term) (w : Term) → IsAmong w (x ∷ y ∷ c) → IsAmong w (y ∷ x ∷ c)
exchanged x y c w (inl k) = inr (inl k)
exchanged x y c w (inr (inl k)) = inl k
exchanged x y c w (inr (inr k)) = inr (inr k)

-- a step without what a line shows, which the line cuts away
pub kind_cut : (history : List Entry) (old new : Work) (assumed : List Term) (t : Term) (f : Fact) (r : Rewritten) (n line : ℕ) → WorkStands history old → WorkGrows history old new → IsHeld history old assumed f → IsRewritten history old (term_at old.bank f.term ∷ assumed) t r → r.line ≡ Some n → CutsTo old new (term_at old.bank f.term) f.line n line → IsRewritten history new assumed t (record { term = r.term; line = Some line })
kind_cut history old new assumed t f r n line stands grows held h is cuts =
    let u : Term = term_at old.bank r.term in
    let e : Term = equal_term t u in
    let k : Term = term_at old.bank f.term in
    let left : LineHasOnly old f.line (k ∷ e ∷ denials assumed) = only_more old f.line (k ∷ denials assumed) (k ∷ e ∷ denials assumed) (beside k (denials assumed) (e ∷ denials assumed) (under e (denials assumed) (denials assumed) (λ w x. x))) held.line in
    let right : LineHasOnly old n (not_term k ∷ e ∷ denials assumed) = only_more old n (e ∷ not_term k ∷ denials assumed) (not_term k ∷ e ∷ denials assumed) (exchanged e (not_term k) (denials assumed)) (subst (IsShown old (k ∷ assumed) t u) is h.shown) in
    record {
      new = term_grown history old new r.term stands grows h.new;
      shown = subst (λ w. LineHasOnly new line (equal_term t w ∷ denials assumed)) (sym (same_term_grown history old new r.term grows h.new)) (cuts (e ∷ denials assumed) left right);
    }
