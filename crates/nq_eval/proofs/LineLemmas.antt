-- What the lines of equations hold, and how deep they are.
use Rattle.std.proofs.Common.{◌≡◌, ◌≤◌, ◌+◌, ℕ, true, false, max, Option, Some, None, List, [], ◌∷◌, ◌++◌, refl, sym, ap, ◌∙◌, subst, inl, inr, arith}
use Rattle.std.specs.Prelude.{codes, All, is_some, Vec, Result, IfOk, if◌then◌else◌}
use Rattle.std.specs.declared.alloc.AllocError.{AllocError}
use Rattle.nq_rule.proofs.Made.{for_ok}
use Rattle.nq_steps.specs.NewNames.{AddsSymbols}
use Rattle.nq_kernel.proofs.GrowingLemmas.{bank_grows, uncounted as no_steps}
use Rattle.std.specs.declared.alloc.Global.{Global}
use Rattle.nq_logic.specs.Terms.{Term, IsAmong, Each}
use Rattle.nq_logic.specs.Words.{not_term, equal_term}
use Rattle.nq_logic.specs.Sizes.{depth_of, depth_limit}
use Rattle.nq_logic.specs.Ground.{symbols_of}
use Rattle.nq_logic.specs.Histories.{History}
use Rattle.nq_logic.proofs.Symbols.{equal_symbol}
use Rattle.nq_bank.specs.declared.node.TermId.{TermId}
use Rattle.nq_bank.specs.Content.{Content, Grows, Stands, term_at}
use Rattle.nq_bank.proofs.Standing.{All-push}
use Rattle.nq_bank.proofs.Growth.{Stands-grown, term_at-grown}
use Rattle.nq_bank.proofs.Numerals.{number_of-call, depth_of-other}
use Rattle.nq_proof.specs.Clauses.{Clause, without, distinct, literal_at, in_place}
use Rattle.nq_proof.specs.Paths.{replaced_at, in_argument}
use Rattle.nq_rule.proofs.PathLemmas.{in_argument-call}
use Rattle.nq_proof.specs.Values.{value_of}
use Rattle.nq_proof.specs.Rules.{given, used_equation}
use Rattle.nq_proof.specs.Rules as tree
use Rattle.nq_rule.proofs.LiteralLemmas.{true_same}
use Rattle.nq_rule.specs.declared.replacing.Side.TheVariants.{Forwards}
use Rattle.nq_history.specs.declared.entry.Entry.{Entry}
use Rattle.nq_history.specs.Events.{events_at, HistoryStands}
use Rattle.nq_history.proofs.HistoryLemmas.{events_at-grown}
use Rattle.nq_kernel.specs.declared.work.Work.{Work}
use Rattle.nq_kernel.specs.declared.rule.Rule.TheVariants.{Cut, Reflexive, Replace, Value}
use Rattle.nq_kernel.specs.Meaning.{conclusion_at, clause_at}
use Rattle.nq_kernel.specs.Over.{IsVariable, IsTermOf}
use Rattle.nq_kernel.specs.Growing.{WorkStands, WorkGrows, LineHolds}
use Rattle.nq_kernel.proofs.GrowingLemmas.{LineHolds-grown, WorkGrows-refl, WorkGrows-trans}
use Rattle.nq_fragments.specs.Outcomes.{term_depth}
use Rattle.nq_eval.specs.declared.lines.Change.{Change}
use Rattle.nq_eval.specs.Lines.{IsShallow, GrowsUncounted, IsUsable, Equates, CanChange}

pub grown_refl : (history : List Entry) (work : Work) → WorkStands history work → GrowsUncounted history work work
grown_refl history work stands = record { grows = WorkGrows-refl history work stands; uncounted = refl }

pub grown_trans : (history : List Entry) (first second third : Work) → GrowsUncounted history first second → GrowsUncounted history second third → GrowsUncounted history first third
grown_trans history first second third one two =
    record { grows = WorkGrows-trans history first second third one.grows two.grows; uncounted = two.uncounted ∙ one.uncounted }

among_each : (P : Term → Type 0) (c : Clause) → Each P c → (u : Term) → IsAmong u c → P u
among_each P [] each u m = absurd m
among_each P (t ∷ c) each u (inl e) = subst P (sym e) each.0
among_each P (t ∷ c) each u (inr m) = among_each P c each.1 u m

-- a clause whose literals are not too deep
pub each_shallow : (o : Option Clause) (c : Clause) → o ≡ Some c → Each (λ u. depth_of u ≤ depth_limit) c → IsShallow o
each_shallow o c e each =
    record {
      not_deep = λ deep.
          let same : deep.terms ≡ c = (let both : Some deep.terms ≡ Some c = sym deep.concluded ∙ e in cc) in
          let within : depth_of deep.deep.term ≤ depth_limit = among_each (λ u. depth_of u ≤ depth_limit) c each deep.deep.term (subst (λ d. IsAmong deep.deep.term d) same deep.deep.among) in
          omega (arith, within, deep.deep.deep);
    }

pub depth_equal : (t u : Term) → depth_of (equal_term t u) ≡ max (depth_of t) (max (depth_of u) 0) + 1
depth_equal t u = depth_of-other (codes "EQUAL") (t ∷ u ∷ []) (number_of-call (codes "EQUAL") (t ∷ u ∷ []))

depth_not : (t : Term) → depth_of (not_term t) ≡ max (depth_of t) 0 + 1
depth_not t = depth_of-other (codes "NOT") (t ∷ []) (number_of-call (codes "NOT") (t ∷ []))

-- the equation of two usable terms, and its NOT
pub equation_shallow : (t u : Term) → depth_of t ≤ term_depth → depth_of u ≤ term_depth → depth_of (equal_term t u) ≤ depth_limit
equation_shallow t u h k = let whole = depth_equal t u in omega (arith, whole, h, k)

pub denial_shallow : (t u : Term) → depth_of t ≤ term_depth → depth_of u ≤ term_depth → depth_of (not_term (equal_term t u)) ≤ depth_limit
denial_shallow t u h k = let whole = depth_equal t u in let denied = depth_not (equal_term t u) in omega (arith, whole, denied, h, k)

-- what is usable stays so
pub usable_grown : (old new : Content) (history : List Entry) (t : TermId) → Grows old new → HistoryStands old history → IsUsable old history t → IsUsable new history t
usable_grown old new history t grows stands k =
    let same : term_at new t ≡ term_at old t = term_at-grown old new t grows k.stands in
    record {
      stands = Stands-grown old new t grows k.stands;
      over = subst (λ u. IsTermOf IsVariable (symbols_of (events_at new history)) u) (sym same) (
          subst (λ es. IsTermOf IsVariable (symbols_of es) (term_at old t)) (sym (events_at-grown old new grows history stands.entries)) k.over);
      shallow = subst (λ u. depth_of u ≤ term_depth) (sym same) k.shallow;
    }

pub equates_grown : (history : List Entry) (old new : Work) (n : ℕ) (t u : TermId) → WorkStands history old → WorkGrows history old new → IsUsable old.bank history t → IsUsable old.bank history u → Equates old n t u → Equates new n t u
equates_grown history old new n t u stands grows one two holds =
    subst (λ a. LineHolds new n (equal_term a (term_at new.bank u) ∷ [])) (sym (term_at-grown old.bank new.bank t grows.bank one.stands)) (
    subst (λ b. LineHolds new n (equal_term (term_at old.bank t) b ∷ [])) (sym (term_at-grown old.bank new.bank u grows.bank two.stands)) (
    LineHolds-grown history old new n (equal_term (term_at old.bank t) (term_at old.bank u) ∷ []) stands grows holds))

-- an equation over the history's functions
pub equation_over : (h : History) (t u : Term) → IsTermOf IsVariable (symbols_of h) t → IsTermOf IsVariable (symbols_of h) u → IsTermOf IsVariable (symbols_of h) (equal_term t u)
equation_over h t u one two = record { over = ((equal_symbol h, one.over), two.over); variables = ((tt, one.variables), two.variables) }

-- work of which only the bank grew
pub bank_uncounted : (history : List Entry) (old : Work) (bank : Content) → WorkStands history old → Grows old.bank bank → AddsSymbols old.bank bank → GrowsUncounted history old (record old { bank = bank })
bank_uncounted history old bank stands grows symbols = record { grows = bank_grows history old bank old.counter stands grows symbols (no_steps old.counter); uncounted = refl }

-- the clause of a line that was added
pub line_is : (r : Result ℕ AllocError) (work : Work) (o : Option Clause) (c : Clause) → o ≡ Some c → IfOk r (λ n. clause_at work.bank work.log n ≡ o) → IfOk r (λ n. LineHolds work n c)
line_is r work o c e h = for_ok r (λ n. clause_at work.bank work.log n ≡ o) (λ n. LineHolds work n c) (λ n k. k ∙ e) h

pub equates_here : (r : Result ℕ AllocError) (history : List Entry) (old new : Work) (t u : TermId) → Grows old.bank new.bank → IsUsable old.bank history t → IsUsable old.bank history u →
    IfOk r (λ n. LineHolds new n (equal_term (term_at old.bank t) (term_at old.bank u) ∷ [])) → IfOk r (λ n. Equates new n t u)
equates_here r history old new t u grows one two h =
    for_ok r (λ n. LineHolds new n (equal_term (term_at old.bank t) (term_at old.bank u) ∷ [])) (λ n. Equates new n t u) (λ n holds.
    subst (λ a. LineHolds new n (equal_term a (term_at new.bank u) ∷ [])) (sym (term_at-grown old.bank new.bank t grows one.stands)) (
    subst (λ b. LineHolds new n (equal_term (term_at old.bank t) b ∷ [])) (sym (term_at-grown old.bank new.bank u grows two.stands)) holds)) h

pub two_stand : (bank : Content) (t u : TermId) → Stands bank t → Stands bank u → All (Stands bank) (t ∷ u ∷ [])
two_stand bank t u one two = All-push (Stands bank) (t ∷ []) u (All-push (Stands bank) [] t (λ i d below. absurd (omega arith)) one) two

pub change_grown : (old new : Content) (history : List Entry) (path : List ℕ) (c : Change) → Grows old new → HistoryStands old history → CanChange old history path c → CanChange new history path c
change_grown old new history path c grows stands k =
    let left : term_at new c.left ≡ term_at old c.left = term_at-grown old new c.left grows k.left.stands in
    let before : term_at new c.before ≡ term_at old c.before = term_at-grown old new c.before grows k.before.stands in
    let after : term_at new c.after ≡ term_at old c.after = term_at-grown old new c.after grows k.after.stands in
    let part : term_at new c.part ≡ term_at old c.part = term_at-grown old new c.part grows k.part.stands in
    let other : term_at new c.other ≡ term_at old c.other = term_at-grown old new c.other grows k.other.stands in
    record {
      left = usable_grown old new history c.left grows stands k.left;
      before = usable_grown old new history c.before grows stands k.before;
      after = usable_grown old new history c.after grows stands k.after;
      part = usable_grown old new history c.part grows stands k.part;
      other = usable_grown old new history c.other grows stands k.other;
      at = rw (left, before, after, part, other) k.at;
    }

one_id : (t u : TermId) → t.0 ≡ u.0 → t ≡ u
one_id t u e = ap (λ n. record { 0 = n }) e

pub equates_itself : (r : Result ℕ AllocError) (new : Work) (t u : TermId) → t.0 ≡ u.0 → IfOk r (λ n. Equates new n t t) → IfOk r (λ n. Equates new n t u)
equates_itself r new t u e h = for_ok r (λ n. Equates new n t t) (λ n. Equates new n t u) (λ n k. subst (λ v. Equates new n t v) (one_id t u e) k) h

-- the whole right side of an equation is replaced
pub right_side : (t u v : Term) → replaced_at (2 ∷ []) v (equal_term t u) ≡ Some (u, equal_term t v)
right_side t u v =
    ap (λ o. elim (is_some o) as (λ b. Option (Term × Term)) [ true ↦ None | false ↦ in_argument 2 (replaced_at [] v) (equal_term t u) ]) (number_of-call (codes "EQUAL") (t ∷ u ∷ [])) ∙
    in_argument-call (replaced_at [] v) (codes "EQUAL") (t ∷ u ∷ []) 1 t (omega arith)

module _ (history : List Entry) (work : Work) where
  pub same_given : (t : TermId) → conclusion_at work.bank history work.log (Reflexive t) ≡ Some (equal_term (term_at work.bank t) (term_at work.bank t) ∷ [])
  unfolding conclusion_at
  same_given t = refl

  pub value_given : (t : TermId) (v : Term) → value_of (term_at work.bank t) ≡ Some v → conclusion_at work.bank history work.log (Value t) ≡ Some (equal_term (term_at work.bank t) v ∷ [])
  unfolding conclusion_at
  value_given t v e = ap (λ o. given o (λ v. Some (equal_term (term_at work.bank t) v ∷ []))) e

  pub replaced_given : (line : ℕ) (path : Vec ℕ Global) (c : Change) → Equates work line c.left c.before → CanChange work.bank history path.items c →
      conclusion_at work.bank history work.log (Replace line 1 path c.other Forwards) ≡ Some (equal_term (term_at work.bank c.left) (term_at work.bank c.after) ∷ not_term (equal_term (term_at work.bank c.part) (term_at work.bank c.other)) ∷ [])
  unfolding conclusion_at
  replaced_given line path c holds can =
      let t : Term = term_at work.bank c.other in
      let whole : Term = equal_term (term_at work.bank c.left) (term_at work.bank c.before) in
      ap (λ o. given o (λ d. given (literal_at 1 d) (λ a. given (replaced_at path.items t a) (λ change. Some (distinct (in_place 1 (change.1 ∷ []) d ++ (used_equation tree.Forwards change.0 t ∷ []))))))) holds ∙
      ap (λ o. given o (λ change. Some (distinct (in_place 1 (change.1 ∷ []) (whole ∷ []) ++ (used_equation tree.Forwards change.0 t ∷ []))))) can.at

  pub without_same : (e : Term) → without e (e ∷ []) ≡ []
  without_same e = ap (λ b. if b then [] else e ∷ []) (true_same e e refl)

  -- the cut of an equation and a line with its NOT besides another equation
  pub cut_given : (first second : ℕ) (e : TermId) (a b : Term) → LineHolds work first (term_at work.bank e ∷ []) → LineHolds work second (equal_term a b ∷ not_term (term_at work.bank e) ∷ []) →
      conclusion_at work.bank history work.log (Cut first second e) ≡ Some (equal_term a b ∷ [])
  unfolding conclusion_at
  cut_given first second e a b one two =
      let t : Term = term_at work.bank e in
      let x : Term = equal_term a b in
      let F : Option Clause → Option Clause → Option Clause = λ o q. given o (λ c. given q (λ d. Some (distinct (without t c ++ without (not_term t) d)))) in
      ap (λ o. F o (clause_at work.bank work.log second)) one ∙ ap (λ q. F (Some (t ∷ [])) q) two ∙
      ap (λ c. Some (distinct (c ++ (x ∷ without (not_term t) (not_term t ∷ []))))) (without_same t) ∙
      ap (λ c. Some (distinct (x ∷ c))) (without_same (not_term t))

-- the clause of an added line, and of one that stood, over two terms of the bank
pub held_here : (r : Result ℕ AllocError) (old new : Work) (t u : TermId) (F : Term → Term → Clause) → Grows old.bank new.bank → Stands old.bank t → Stands old.bank u →
    IfOk r (λ n. LineHolds new n (F (term_at old.bank t) (term_at old.bank u))) → IfOk r (λ n. LineHolds new n (F (term_at new.bank t) (term_at new.bank u)))
held_here r old new t u F grows one two h =
    for_ok r (λ n. LineHolds new n (F (term_at old.bank t) (term_at old.bank u))) (λ n. LineHolds new n (F (term_at new.bank t) (term_at new.bank u))) (λ n holds.
    subst (λ a. LineHolds new n (F a (term_at new.bank u))) (sym (term_at-grown old.bank new.bank t grows one)) (
    subst (λ b. LineHolds new n (F (term_at old.bank t) b)) (sym (term_at-grown old.bank new.bank u grows two)) holds)) h

pub held_after : (history : List Entry) (old new : Work) (n : ℕ) (t u : TermId) (F : Term → Term → Clause) → WorkStands history old → GrowsUncounted history old new → Stands old.bank t → Stands old.bank u →
    LineHolds old n (F (term_at old.bank t) (term_at old.bank u)) → LineHolds new n (F (term_at new.bank t) (term_at new.bank u))
held_after history old new n t u F stands grown one two holds =
    subst (λ a. LineHolds new n (F a (term_at new.bank u))) (sym (term_at-grown old.bank new.bank t grown.grows.bank one)) (
    subst (λ b. LineHolds new n (F (term_at old.bank t) b)) (sym (term_at-grown old.bank new.bank u grown.grows.bank two)) (
    LineHolds-grown history old new n (F (term_at old.bank t) (term_at old.bank u)) stands grown.grows holds))
