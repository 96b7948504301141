-- Terms, claims and facts that stay in as the work grows, and lines that are found.
use Rattle.std.proofs.Common.{◌≡◌, ◌<◌, ◌∙◌, ℕ, zero, suc, List, [], ◌∷◌, ◌++◌, length, get_or, sym, ap, subst, inl, inr, arith}
use Rattle.std.specs.Prelude.{All, Option, Some, None, IfSome, Result, IfOk, slice_get}
use Rattle.std.specs.Option.{option_map}
use Rattle.std.proofs.lemmas.Option.{slice_get-map, slice_get-get_or}
use Rattle.nq_logic.specs.Terms.{Term, IsAmong, call}
use Rattle.nq_logic.specs.Ground.{symbols_of}
use Rattle.nq_bank.specs.declared.node.Sym.{Sym}
use Rattle.nq_bank.specs.declared.node.TermId.{TermId}
use Rattle.nq_bank.specs.Content.{Stands, Content, term_at, terms_at}
use Rattle.nq_bank.specs.Soundness.{ground_text}
use Rattle.nq_bank.specs.Parts.{parts_of}
use Rattle.nq_bank.proofs.Growth.{terms_at-grown}
use Rattle.nq_bank.proofs.NodesLemmas.{All-head, All-tail}
use Rattle.nq_bank.proofs.Standing.{All-push}
use Rattle.nq_history.specs.declared.entry.Entry.{Entry}
use Rattle.nq_history.specs.Events.{events_at}
use Rattle.nq_kernel.specs.declared.work.Work.{Work}
use Rattle.nq_kernel.specs.declared.work.Stop.{Stop}
use Rattle.nq_kernel.specs.Over.{TermIsIn}
use Rattle.nq_kernel.specs.Growing.{LineStands, WorkGrows, WorkStands}
use Rattle.nq_kernel.proofs.HeldLines.{holds_stands}
use Rattle.nq_lines.specs.declared.facts.Fact.{Fact}
use Rattle.nq_lines.specs.Facts.{IsFact}
use Rattle.nq_lines.specs.Lines.{IsTermIn, LineHasOnly}
use Rattle.nq_lines.proofs.ArgumentLemmas.{argument_over}
use Rattle.nq_lines.proofs.LineLemmas.{line_grown, only_grown}
use Rattle.nq_lines.proofs.TermLemmas.{IsOver, term_grown}
use Rattle.nq_instances.specs.Parts.{IsLine}
use Rattle.nq_arithmetic.specs.Functions.{IsFunctionOf}
use Rattle.nq_arithmetic.specs.declared.assumptions.Assumption.{Assumption}
use Rattle.nq_arithmetic.specs.declared.assumptions.Source.{Source}
use Rattle.nq_arithmetic.specs.declared.assumptions.Source.TheVariants.{Law, Lemma}
use Rattle.nq_arithmetic.specs.declared.claims.Claim.{Claim}
use Rattle.nq_arithmetic.specs.declared.reading.Operands.{Operands}
use Rattle.nq_arithmetic.specs.Claims.{AreOf, AreOperandsIn, IsAssumptionIn, IsClaimIn, IsOneOf, IsSourceIn}

-- calls of functions of one and two arguments
pub one_over : (history : List Entry) (work : Work) (f : Sym) (t : Term) → IsFunctionOf f 1 → IsOver history work t → IsOver history work (call (ground_text f) (t ∷ []))
one_over history work f t h k = record { over = (h (events_at work.bank history), k.over); variables = (tt, k.variables) }

pub two_over : (history : List Entry) (work : Work) (f : Sym) (t u : Term) → IsFunctionOf f 2 → IsOver history work t → IsOver history work u → IsOver history work (call (ground_text f) (t ∷ u ∷ []))
two_over history work f t u h k l = record { over = ((h (events_at work.bank history), k.over), l.over); variables = ((tt, k.variables), l.variables) }

module _ (history : List Entry) (work : Work) where
  pub all_stand : (ids : List TermId) → All (IsTermIn history work) ids → All (Stands work.bank) ids
  all_stand ids h = λ k d below. (h k d below).stands

  pub all_over : (ids : List TermId) → All (IsTermIn history work) ids → All (TermIsIn work.bank history) ids
  all_over ids h = λ k d below. (h k d below).over

  pub terms_four : (ids : List TermId) (x y z w : TermId) → ids ≡ x ∷ y ∷ z ∷ w ∷ [] → IsTermIn history work x → IsTermIn history work y → IsTermIn history work z → IsTermIn history work w → All (IsTermIn history work) ids
  terms_four ids x y z w is h k l m = subst (All (IsTermIn history work)) (sym is) at_place
    where
      at_place : (i : ℕ) (d : TermId) → i < length (x ∷ y ∷ z ∷ w ∷ []) → IsTermIn history work (get_or (x ∷ y ∷ z ∷ w ∷ []) i d)
      at_place zero d below = h
      at_place (suc zero) d below = k
      at_place (suc (suc zero)) d below = l
      at_place (suc (suc (suc zero))) d below = m
      at_place (suc (suc (suc (suc i)))) d below = absurd (omega arith)

-- one more term, and one more fact
pub pushed : (history : List Entry) (work : Work) (ids all : List TermId) (t : TermId) → all ≡ ids ++ t ∷ [] → All (IsTermIn history work) ids → IsTermIn history work t → All (IsTermIn history work) all
pushed history work ids all t is h k = subst (All (IsTermIn history work)) (sym is) (All-push (IsTermIn history work) ids t h k)

pub fact_pushed : (history : List Entry) (work : Work) (facts all : List Assumption) (a : Assumption) → all ≡ facts ++ a ∷ [] → All (IsAssumptionIn history work) facts → IsAssumptionIn history work a → All (IsAssumptionIn history work) all
fact_pushed history work facts all a is h k = subst (All (IsAssumptionIn history work)) (sym is) (All-push (IsAssumptionIn history work) facts a h k)

-- a fact that a line shows has a line
pub fact_line_in : (history : List Entry) (work : Work) (f : Fact) → IsFact history work f → IsLine history work f
fact_line_in history work f h = record { term = h.term; line = holds_stands work f.line _ h.holds }

pub instance_pushed : (history : List Entry) (work : Work) (fs all : List Fact) (f : Fact) → all ≡ fs ++ f ∷ [] → All (IsLine history work) fs → IsFact history work f → All (IsLine history work) all
instance_pushed history work fs all f is h k = subst (All (IsLine history work)) (sym is) (All-push (IsLine history work) fs f h (fact_line_in history work f k))

pub line_pushed : (history : List Entry) (work : Work) (fs all : List Fact) (f : Fact) → all ≡ fs ++ f ∷ [] → All (IsLine history work) fs → IsLine history work f → All (IsLine history work) all
line_pushed history work fs all f is h k = subst (All (IsLine history work)) (sym is) (All-push (IsLine history work) fs f h k)

-- an argument of a term that is in
pub argument_in : (history : List Entry) (work : Work) (t : TermId) (ids : List TermId) (i : ℕ) (d : TermId) → IsTermIn history work t → terms_at work.bank ids ≡ parts_of (term_at work.bank t) → All (λ a. a.0 < t.0) ids → i < length ids → IsTermIn history work (get_or ids i d)
argument_in history work t ids i d h tells earlier below =
    let a : TermId = get_or ids i d in
    let less : a.0 < t.0 = earlier i d below in
    let at : slice_get (parts_of (term_at work.bank t)) i ≡ Some (term_at work.bank a) = ap (λ ts. slice_get ts i) (sym tells) ∙ slice_get-map (term_at work.bank) ids i ∙ ap (option_map (term_at work.bank)) (slice_get-get_or ids i d below) in
    record { stands = omega (arith, less, h.stands); over = argument_over (symbols_of (events_at work.bank history)) (term_at work.bank t) (suc i) (term_at work.bank a) h.over at }

module _ (history : List Entry) (old new : Work) (stands : WorkStands history old) (grows : WorkGrows history old new) where
  pub all_grown : (ids : List TermId) → All (IsTermIn history old) ids → All (IsTermIn history new) ids
  all_grown ids h = λ k d below. term_grown history old new (get_or ids k d) stands grows (h k d below)

  pub operands_grown : (at : Operands) → AreOperandsIn history old at → AreOperandsIn history new at
  operands_grown at h = record { first = term_grown history old new at.first stands grows h.first; second = term_grown history old new at.second stands grows h.second }

  pub claim_grown : (c : Claim) → IsClaimIn history old c → IsClaimIn history new c
  claim_grown c h = record { test = term_grown history old new c.test stands grows h.test; denial = term_grown history old new c.denial stands grows h.denial }

  pub instance_grown : (f : Fact) → IsLine history old f → IsLine history new f
  instance_grown f h = record { term = term_grown history old new f.term stands grows h.term; line = line_grown history old new f.line stands grows h.line }

  pub instances_grown : (fs : List Fact) → All (IsLine history old) fs → All (IsLine history new) fs
  instances_grown fs h = λ k d below. instance_grown (get_or fs k d) (h k d below)

  source_grown : (s : Source) → IsSourceIn history old s → IsSourceIn history new s
  source_grown (Law template at) h = operands_grown at h
  source_grown (Lemma fact) h = instance_grown fact h

  pub assumption_grown : (a : Assumption) → IsAssumptionIn history old a → IsAssumptionIn history new a
  assumption_grown a h = record { claim = claim_grown a.claim h.claim; source = source_grown a.source h.source }

  pub assumptions_grown : (ids : List Assumption) → All (IsAssumptionIn history old) ids → All (IsAssumptionIn history new) ids
  assumptions_grown ids h = λ k d below. assumption_grown (get_or ids k d) (h k d below)

  pub goal_same : (goal : List TermId) → All (IsTermIn history old) goal → terms_at new.bank goal ≡ terms_at old.bank goal
  goal_same goal h = terms_at-grown old.bank new.bank goal grows.bank (all_stand history old goal h)

  pub line_later : (n : ℕ) → LineStands old n → LineStands new n
  line_later n h = line_grown history old new n stands grows h

  pub found_later : (o : Option ℕ) (these : List Term) → IfSome o (λ n. LineHasOnly old n these) → IfSome o (λ n. LineHasOnly new n these)
  found_later None these h = tt
  found_later (Some n) these h = only_grown history old new n these stands grows h

-- a line that was found of the goal's terms, wherever they are read
pub found_of : (r : Result (Option ℕ) Stop) (new : Work) (these others : List Term) → these ≡ others → IfOk r (λ o. IfSome o (λ n. LineHasOnly new n these)) → IfOk r (λ o. IfSome o (λ n. LineHasOnly new n others))
found_of r new these others same h = subst (λ ts. IfOk r (λ o. IfSome o (λ n. LineHasOnly new n ts))) same h

abbrev id_of : ℕ → TermId
id_of n = record { 0 = n }

pub same_id : (t u : TermId) → t.0 ≡ u.0 → t ≡ u
same_id t u same = ap id_of same

-- an id at a place is one of the ids
pub one_at : (ids : List TermId) (i : ℕ) (d t : TermId) → i < length ids → get_or ids i d ≡ t → IsOneOf ids t
one_at [] i d t below is = absurd (omega (arith, below))
one_at (u ∷ ids) zero d t below is = inl (sym is)
one_at (u ∷ ids) (suc i) d t below is = inr (one_at ids i d t (omega (arith, below)) is)

one_among : (bank : Content) (ids : List TermId) (t : TermId) → IsOneOf ids t → IsAmong (term_at bank t) (terms_at bank ids)
one_among bank [] t h = absurd h
one_among bank (u ∷ ids) t (inl same) = inl (ap (term_at bank) same)
one_among bank (u ∷ ids) t (inr h) = inr (one_among bank ids t h)

pub each_among : (bank : Content) (goal ids : List TermId) → AreOf goal ids → (t : Term) → IsAmong t (terms_at bank ids) → IsAmong t (terms_at bank goal)
each_among bank goal [] h t m = absurd m
each_among bank goal (u ∷ ids) h t (inl same) = subst (λ v. IsAmong v (terms_at bank goal)) (sym same) (one_among bank goal u (All-head (IsOneOf goal) u ids h))
each_among bank goal (u ∷ ids) h t (inr m) = each_among bank goal ids (All-tail (IsOneOf goal) u ids h) t m
