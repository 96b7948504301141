-- Literals that are rewritten beside others.
use Rattle.std.proofs.Common.{◌≡◌, ◌<◌, ◌∷◌, ◌++◌, [], ℕ, List, Option, Some, None, length, get_or, refl, sym, ap, ◌∙◌, subst, inl, inr, arith}
use Rattle.std.specs.Prelude.{All, Result, IfOk, IfSome, MatchOption, codes}
use Rattle.nq_logic.specs.Terms.{Term, IsAmong, Symbol}
use Rattle.nq_logic.specs.Words.{not_term, equal_term}
use Rattle.nq_logic.specs.Ground.{symbols_of}
use Rattle.nq_bank.specs.declared.node.TermId.{TermId}
use Rattle.nq_bank.specs.Content.{IsIdOf, term_at, terms_at}
use Rattle.nq_rule.proofs.Made.{for_ok}
use Rattle.nq_rules.specs.Heads.{IsOneOf, IsNotOneOf}
use Rattle.nq_history.specs.declared.entry.Entry.{Entry}
use Rattle.nq_history.specs.Events.{events_at}
use Rattle.nq_kernel.specs.declared.work.Work.{Work}
use Rattle.nq_kernel.specs.declared.work.Stop.{Stop}
use Rattle.nq_kernel.specs.Growing.{WorkStands, WorkGrows, LineStands}
use Rattle.nq_kernel.specs.Over.{IsTermOf, IsVariable}
use Rattle.nq_kernel.proofs.GrowingLemmas.{WorkGrows-trans}
use Rattle.nq_lines.specs.Lines.{AreAmong, IsTermIn, LineHasOnly, MakesOf}
use Rattle.nq_lines.proofs.Among.{and_among, beside, none_among, on_left, on_right, under}
use Rattle.nq_lines.proofs.LineLemmas.{only_more, only_stands}
use Rattle.nq_lines.proofs.TermLemmas.{term_grown, same_term_grown}
use Rattle.nq_reduce.specs.declared.results.Rewritten.{Rewritten}
use Rattle.nq_reduce.specs.Rewriting.{CanRewrite, IsRewritten, IsShown, denials}
use Rattle.nq_reduce.proofs.RewritingLemmas.{member_among, terms_same}
use Rattle.nq_simplify.specs.declared.rewriter.NewLiteral.{NewLiteral}
use Rattle.nq_simplify.specs.Simplified.{IsNewLiteral}
use Rattle.nq_literal.specs.Literals.{IsRewrittenBeside, IsShownBeside, IsDeniedIn, IsFoundIn, Undenies}

-- among two lists together, each of which is among a third
both_among : (c d e : List Term) → AreAmong c e → AreAmong d e → AreAmong (c ++ d) e
both_among [] d e left right u m = right u m
both_among (t ∷ c) d e left right u m = elim m [ inl same ↦ left u (inl same) | inr k ↦ both_among c d e (λ v n. left v (inr n)) right u k ]

-- a literal that stands before is dropped
dropped_among : (n : Term) (c d : List Term) → IsAmong n c → AreAmong (c ++ n ∷ d) (c ++ d)
dropped_among n c d m = both_among c (n ∷ d) (c ++ d) (on_left c d) (and_among n d (c ++ d) (on_left c d n m) (on_right c d))

-- a literal that stands between is taken to the front
pub fronted_among : (n : Term) (c d : List Term) → AreAmong (c ++ n ∷ d) (n ∷ (c ++ d))
fronted_among n c d = both_among c (n ∷ d) (n ∷ (c ++ d)) (under n c (c ++ d) (on_left c d)) (beside n d (c ++ d) (on_right c d))

shown_more : (work : Work) (these others : List Term) (old new : Term) (line : Option ℕ) → AreAmong these others → IsShownBeside work these old new line → IsShownBeside work others old new line
shown_more work these others old new None among h = h
shown_more work these others old new (Some n) among h = only_more work n (equal_term old new ∷ these) (equal_term old new ∷ others) (beside (equal_term old new) these others among) h

-- beside more literals
pub beside_more : (history : List Entry) (work : Work) (these others : List Term) (old : Term) (r : Rewritten) → AreAmong these others → IsRewrittenBeside history work these old r → IsRewrittenBeside history work others old r
beside_more history work these others old r among h = record { new = h.new; shown = shown_more work these others old (term_at work.bank r.term) r.line among h.shown }

-- beside a literal that stands before
pub beside_dropped : (history : List Entry) (work : Work) (n : Term) (c d : List Term) (old : Term) (r : Rewritten) → IsAmong n c → IsRewrittenBeside history work (c ++ n ∷ d) old r → IsRewrittenBeside history work (c ++ d) old r
beside_dropped history work n c d old r m h = beside_more history work (c ++ n ∷ d) (c ++ d) old r (dropped_among n c d m) h

shown_denials : (work : Work) (assumed : List Term) (old new : Term) (line : Option ℕ) → IsShown work assumed old new line → IsShownBeside work (denials assumed) old new line
shown_denials work assumed old new None h = h
shown_denials work assumed old new (Some n) h = h

-- what is rewritten where terms are assumed is so beside their NOTs
pub rewritten_beside : (history : List Entry) (work : Work) (others assumed : List Term) (old : Term) (r : Rewritten) → IsRewritten history work assumed old r → IsRewrittenBeside history work (others ++ denials assumed) old r
rewritten_beside history work others assumed old r h =
    beside_more history work (denials assumed) (others ++ denials assumed) old r (on_right others (denials assumed)) (record { new = h.new; shown = shown_denials work assumed old (term_at work.bank r.term) r.line h.shown })

-- what a literal denies is over the history
pub denied_over : (history : List Entry) (work : Work) (t p : TermId) → IsTermIn history work t → term_at work.bank t ≡ not_term (term_at work.bank p) → p.0 < t.0 → IsTermIn history work p
denied_over history work t p there whole before =
    let symbols : List Symbol = symbols_of (events_at work.bank history) in
    let k : IsTermOf IsVariable symbols (not_term (term_at work.bank p)) = subst (IsTermOf IsVariable symbols) whole there.over in
    record { stands = omega (arith, before, there.stands); over = record { over = k.over.1; variables = k.variables.1 } }

-- the line of a rewriting stands
pub line_stands : (work : Work) (these : List Term) (old new : Term) (line : Option ℕ) → IsShownBeside work these old new line → IfSome line (LineStands work)
line_stands work these old new None h = tt
line_stands work these old new (Some n) h = only_stands work n (equal_term old new ∷ these) h

-- without a line it does not matter what stands beside
pub unshown : (history : List Entry) (work : Work) (literal old : Term) (r : Rewritten) → r.line ≡ None → Undenies history work work literal old r r
unshown history work literal old r none these h =
    record { new = h.new; shown = subst (IsShownBeside work (literal ∷ these) old (term_at work.bank r.term)) (sym none) (subst (IsShownBeside work (not_term (not_term literal) ∷ these) old (term_at work.bank r.term)) none h.shown) }

swapped : (t u : Term) (c : List Term) → AreAmong (t ∷ u ∷ c) (u ∷ t ∷ c)
swapped t u c v m = elim m [ inl e ↦ inr (inl e) | inr k ↦ elim k [ inl e ↦ inl e | inr j ↦ inr (inr j) ] ]

-- a line in which a literal was denied twice
pub undenied_by : (history : List Entry) (old new : Work) (literal t : Term) (r : Rewritten) (line n : ℕ) → WorkStands history old → WorkGrows history old new → r.line ≡ Some line → MakesOf old new (not_term (not_term literal)) literal line n → Undenies history old new literal t r (record { term = r.term; line = Some n })
undenied_by history old new literal t r line n stands grows is makes these h =
    let u : Term = term_at old.bank r.term in
    let e : Term = equal_term t u in
    let nn : Term = not_term (not_term literal) in
    let shown : LineHasOnly old line (e ∷ nn ∷ these) = subst (IsShownBeside old (nn ∷ these) t u) is h.shown in
    let made : LineHasOnly new n (literal ∷ e ∷ these) = makes (e ∷ these) (only_more old line (e ∷ nn ∷ these) (nn ∷ e ∷ these) (swapped e nn these) shown) in
    record {
      new = term_grown history old new r.term stands grows h.new;
      shown =
          subst (λ w. LineHasOnly new n (equal_term t w ∷ literal ∷ these)) (sym (same_term_grown history old new r.term grows h.new)) (
          only_more new n (literal ∷ e ∷ these) (e ∷ literal ∷ these) (swapped literal e these) made);
    }

append-nil : (c : List Term) → AreAmong (c ++ []) c
append-nil c = both_among c [] c (λ t m. m) (none_among c)

-- the new literal of a rewriting beside the others
pub literal_found : (history : List Entry) (work : Work) (others : List Term) (old : Term) (new : Rewritten) (r : NewLiteral) → IsRewrittenBeside history work (others ++ []) old new → IsFoundIn new r → IsNewLiteral history work others old r
literal_found history work others old new r h found =
    record {
      term = subst (IsTermIn history work) (sym found.term) h.new;
      line =
          subst (λ i. LineHasOnly work r.line (equal_term old (term_at work.bank i) ∷ others)) (sym found.term) (
          subst (IsShownBeside work others old (term_at work.bank new.term)) found.line (
          shown_more work (others ++ []) others old (term_at work.bank new.term) new.line (append-nil others) h.shown));
    }

-- what the literal at a place denies
pub denied_found : (history : List Entry) (work : Work) (others : List TermId) (place : ℕ) (d : TermId) (found : Option TermId) → place < length others → All (IsTermIn history work) others →
    MatchOption found (IsNotOneOf work.bank (codes "NOT") (get_or others place d)) (IsOneOf work.bank (codes "NOT") (get_or others place d)) → IfSome found (IsDeniedIn history work others)
denied_found history work others place d None below there h = tt
denied_found history work others place d (Some a) below there h =
    record {
      term = denied_over history work (get_or others place d) a (there place d below) h.whole h.before;
      among = subst (λ u. IsAmong u (terms_at work.bank others)) h.whole (member_among work.bank others place d below);
    }

-- a literal that was assumed denied: first its NOT was made, then the term rewritten, then the line mended
module _ (history : List Entry) (old one two new : Work) (others assumed : List TermId) (place : ℕ) (d t denied : TermId) (r : Rewritten) (g1 : WorkGrows history old one) (g2 : WorkGrows history one two) (can : CanRewrite history old assumed t) (there : All (IsTermIn history old) others) (below : place < length others) where
  abbrev pub literal : TermId
  literal = get_or others place d

  g12 : WorkGrows history old two
  g12 = WorkGrows-trans history old one two g1 g2

  -- the NOT of the NOT stands between the others and what is assumed
  between : IsIdOf one.bank denied (not_term (term_at old.bank literal)) → IsRewrittenBeside history two (terms_at one.bank others ++ not_term (term_at one.bank denied) ∷ denials (terms_at one.bank assumed)) (term_at one.bank t) r →
      IsRewrittenBeside history two (terms_at old.bank others ++ not_term (not_term (term_at old.bank literal)) ∷ denials (terms_at old.bank assumed)) (term_at old.bank t) r
  between is h =
      subst (λ ts. IsRewrittenBeside history two (ts ++ not_term (not_term (term_at old.bank literal)) ∷ denials (terms_at old.bank assumed)) (term_at old.bank t) r) (terms_same history old one g1 others there) (
      subst (λ u. IsRewrittenBeside history two (terms_at one.bank others ++ not_term u ∷ denials (terms_at old.bank assumed)) (term_at old.bank t) r) is.denotes (
      subst (λ ts. IsRewrittenBeside history two (terms_at one.bank others ++ not_term (term_at one.bank denied) ∷ denials ts) (term_at old.bank t) r) (terms_same history old one g1 assumed can.hypotheses) (
      subst (λ u. IsRewrittenBeside history two (terms_at one.bank others ++ not_term (term_at one.bank denied) ∷ denials (terms_at one.bank assumed)) u r) (same_term_grown history old one t g1 can.term) h)))

  pub undenied_told : (result : Result Rewritten Stop) → IsIdOf one.bank denied (not_term (term_at old.bank literal)) → IsRewrittenBeside history two (terms_at one.bank others ++ not_term (term_at one.bank denied) ∷ denials (terms_at one.bank assumed)) (term_at one.bank t) r →
      IfOk result (λ s. Undenies history two new (term_at two.bank literal) (term_at two.bank t) r s) → IfOk result (λ s. IsRewrittenBeside history new (terms_at old.bank others ++ denials (terms_at old.bank assumed)) (term_at old.bank t) s)
  undenied_told result is h undenies =
      let xs : List Term = terms_at old.bank others in
      let ys : List Term = denials (terms_at old.bank assumed) in
      let u : Term = term_at old.bank literal in
      let v : Term = term_at old.bank t in
      let same : term_at two.bank literal ≡ u = same_term_grown history old two literal g12 (there place d below) in
      let same_t : term_at two.bank t ≡ v = same_term_grown history old two t g12 can.term in
      let front : IsRewrittenBeside history two (not_term (not_term u) ∷ (xs ++ ys)) v r = beside_more history two (xs ++ not_term (not_term u) ∷ ys) (not_term (not_term u) ∷ (xs ++ ys)) v r (fronted_among (not_term (not_term u)) xs ys) (between is h) in
      for_ok result (λ s. Undenies history two new (term_at two.bank literal) (term_at two.bank t) r s) (λ s. IsRewrittenBeside history new (xs ++ ys) v s)
      (λ s k. beside_more history new (u ∷ (xs ++ ys)) (xs ++ ys) v s (and_among u (xs ++ ys) (xs ++ ys) (on_left xs ys u (member_among old.bank others place d below)) (λ w m. m)) (
      subst (λ w. IsRewrittenBeside history new (w ∷ (xs ++ ys)) v s) same (
      subst (λ w. IsRewrittenBeside history new (term_at two.bank literal ∷ (xs ++ ys)) w s) same_t (
      k (xs ++ ys) (
      subst (λ w. IsRewrittenBeside history two (not_term (not_term w) ∷ (xs ++ ys)) (term_at two.bank t) r) (sym same) (
      subst (λ w. IsRewrittenBeside history two (not_term (not_term u) ∷ (xs ++ ys)) w r) (sym same_t) front)))))) undenies

-- the new literal of a rewriting, if there is one
pub literals_found : (history : List Entry) (work : Work) (others : List Term) (old : Term) (new : Rewritten) (found : Option NewLiteral) → IsRewrittenBeside history work (others ++ []) old new → IfSome found (IsFoundIn new) → IfSome found (λ r. IsNewLiteral history work others old r)
literals_found history work others old new None h k = tt
literals_found history work others old new (Some r) h k = literal_found history work others old new r h k

-- nothing is assumed
pub none_assumed : (history : List Entry) (work : Work) → All (IsTermIn history work) []
none_assumed history work i d below = absurd (omega arith)
