-- Rewritings as the work grows.
use Rattle.std.proofs.Common.{◌≡◌, ◌∷◌, [], ◌<◌, ◌≤◌, ◌-◌, ℕ, zero, suc, Bool, true, false, List, Option, Some, None, length, get_or, refl, sym, ap, ◌∙◌, subst, inl, inr, arith}
use Rattle.std.specs.Prelude.{All, Result, Err, IfOk, bytes_eq, codes}
use Rattle.nq_logic.specs.Ground.{symbols_of}
use Rattle.nq_logic.proofs.Symbols.{if_symbol}
use Rattle.nq_bank.proofs.Growth.{Grows-refl, terms_at-grown}
use Rattle.nq_bank.proofs.Texts.{bytes_eq-true}
use Rattle.nq_bank.proofs.Standing.{id_grown}
use Rattle.nq_steps.proofs.NameLemmas.{no_names}
use Rattle.nq_proof.specs.Clauses.{literal_at}
use Rattle.nq_rule.specs.Results.{with_argument}
use Rattle.nq_rule.proofs.Made.{for_ok}
use Rattle.nq_history.specs.Events.{events_at}
use Rattle.nq_kernel.specs.Over.{IsTermOf, IsVariable}
use Rattle.nq_kernel.specs.declared.work.Stop.{Stop}
use Rattle.nq_kernel.specs.declared.work.Stop.TheVariants.{OutOfSteps, Memory}
use Rattle.nq_kernel.proofs.GrowingLemmas.{WorkGrows-trans, bank_grows}
use Rattle.nq_reduce.specs.Rewriting.{branch_of, CanRewrite, IsArgument, IsAssumedFalse, IsBranch, IsCase, IsRewritten, IsShown, ShowsEqual, IsKnown, denials, signed}
use Rattle.nq_instances.proofs.PartLemmas.{if_grown}
use Rattle.nq_reduce.specs.declared.knowledge.Known.{Known}
use Rattle.nq_logic.specs.Terms.{Term, Function, Applied, IsAmong, call}
use Rattle.nq_bank.specs.declared.node.TermId.{TermId}
use Rattle.nq_logic.specs.Words.{equal_term, false_term, if_term, not_term}
use Rattle.nq_bank.specs.Parts.{parts_of}
use Rattle.nq_bank.specs.Content.{Content, IsIdOf, term_at, terms_at}
use Rattle.nq_rule.specs.declared.branching.Branches.{Branches}
use Rattle.nq_history.specs.declared.entry.Entry.{Entry}
use Rattle.nq_kernel.specs.declared.work.Work.{Work}
use Rattle.nq_kernel.specs.Growing.{WorkStands, WorkGrows}
use Rattle.nq_lines.specs.Lines.{IsTermIn, CarriesTo, CutsTo, TurnsTo, JoinsTo, MakesOf, LineHasOnly, LineLeads}
use Rattle.nq_lines.proofs.LineLemmas.{leads_only, only_grown, only_more}
use Rattle.nq_lines.proofs.Among.{and_among, beside, none_among, under}
use Rattle.nq_lines.proofs.TermLemmas.{term_grown, same_term_grown}
use Rattle.nq_lines.proofs.FactLemmas.{own_terms_grown}
use Rattle.nq_reduce.specs.declared.results.Rewritten.{Rewritten}
use Rattle.nq_instances.specs.Parts.{IsIfOf}

module _ (history : List Entry) (old new : Work) (grows : WorkGrows history old new) where
  -- terms that are assumed stay in, and denote the same
  pub all_grown : (assumed : List TermId) → WorkStands history old → All (IsTermIn history old) assumed → All (IsTermIn history new) assumed
  all_grown assumed stands h i d below = term_grown history old new (get_or assumed i d) stands grows (h i d below)

  pub terms_same : (assumed : List TermId) → All (IsTermIn history old) assumed → terms_at new.bank assumed ≡ terms_at old.bank assumed
  terms_same assumed h = terms_at-grown old.bank new.bank assumed grows.bank (λ i d below. (h i d below).stands)

  pub can_grown : (assumed : List TermId) (t : TermId) → CanRewrite history old assumed t → CanRewrite history new assumed t
  can_grown assumed t h =
      record { stands = grows.stands; term = term_grown history old new t h.stands grows h.term; hypotheses = all_grown assumed h.stands h.hypotheses; ready = own_terms_grown history old new grows h.stands h.ready }

  shown_grown : (assumed : List Term) (t u v : Term) (line : Option ℕ) → WorkStands history old → v ≡ u → IsShown old assumed t u line → IsShown new assumed t v line
  shown_grown assumed t u v None stands e h = e ∙ h
  shown_grown assumed t u v (Some n) stands e h = subst (λ w. LineHasOnly new n (equal_term t w ∷ denials assumed)) (sym e) (only_grown history old new n (equal_term t u ∷ denials assumed) stands grows h)

  -- a rewriting lasts
  pub rewritten_grown : (assumed : List Term) (t : Term) (r : Rewritten) → WorkStands history old → IsRewritten history old assumed t r → IsRewritten history new assumed t r
  rewritten_grown assumed t r stands h =
      record {
        new = term_grown history old new r.term stands grows h.new;
        shown = shown_grown assumed t (term_at old.bank r.term) (term_at new.bank r.term) r.line stands (same_term_grown history old new r.term grows h.new) h.shown;
      }

  -- a rewriting that is made after the work grew, of terms that stood
  pub rewritten_before : (assumed : List TermId) (t : TermId) (work : Work) (r : Rewritten) → CanRewrite history old assumed t → IsRewritten history work (terms_at new.bank assumed) (term_at new.bank t) r → IsRewritten history work (terms_at old.bank assumed) (term_at old.bank t) r
  rewritten_before assumed t work r can h =
      subst (λ ts. IsRewritten history work ts (term_at old.bank t) r) (terms_same assumed can.hypotheses) (
      subst (λ u. IsRewritten history work (terms_at new.bank assumed) u r) (same_term_grown history old new t grows can.term) h)

  -- a rewriting that was made before the work grew, of terms that stood
  pub rewritten_after : (assumed : List TermId) (t : TermId) (r : Rewritten) → CanRewrite history old assumed t → IsRewritten history old (terms_at old.bank assumed) (term_at old.bank t) r → IsRewritten history new (terms_at new.bank assumed) (term_at new.bank t) r
  rewritten_after assumed t r can h =
      subst (λ ts. IsRewritten history new ts (term_at new.bank t) r) (sym (terms_same assumed can.hypotheses)) (
      subst (λ u. IsRewritten history new (terms_at old.bank assumed) u r) (sym (same_term_grown history old new t grows can.term)) (
      rewritten_grown (terms_at old.bank assumed) (term_at old.bank t) r can.stands h))

  pub argument_grown : (t : TermId) (place : ℕ) (a : TermId) → WorkStands history old → IsTermIn history old t → IsArgument history old t place a → IsArgument history new t place a
  argument_grown t place a stands there h =
      record {
        argument = term_grown history old new a stands grows h.argument;
        at = ap (λ u. literal_at place (parts_of u)) (same_term_grown history old new t grows there) ∙ h.at ∙ ap Some (sym (same_term_grown history old new a grows h.argument));
      }

-- a rewriting by two lines
pub followed : (history : List Entry) (old new : Work) (assumed : List Term) (t u : Term) (second : Rewritten) (one two n : ℕ) → WorkStands history old → WorkGrows history old new → IsRewritten history old assumed u second → second.line ≡ Some two → ShowsEqual old one assumed t u → JoinsTo old new t u (term_at old.bank second.term) one two n → IsRewritten history new assumed t (record { term = second.term; line = Some n })
followed history old new assumed t u second one two n stands grows h is first joins =
    record {
      new = term_grown history old new second.term stands grows h.new;
      shown =
          subst (λ w. LineHasOnly new n (equal_term t w ∷ denials assumed)) (sym (same_term_grown history old new second.term grows h.new)) (
          joins (denials assumed) first (subst (IsShown old assumed u (term_at old.bank second.term)) is h.shown));
    }

-- a line of a rewriting that changed nothing
pub reflected : (history : List Entry) (old new : Work) (assumed : List Term) (t : TermId) (r : Rewritten) (n : ℕ) → WorkGrows history old new → IsTermIn history old t → IsRewritten history old assumed (term_at old.bank t) r → r.line ≡ None → LineLeads new n (equal_term (term_at old.bank t) (term_at old.bank t)) [] → ShowsEqual new n assumed (term_at old.bank t) (term_at old.bank r.term)
reflected history old new assumed t r n grows there h none line =
    let u : Term = term_at old.bank t in
    let same : term_at old.bank r.term ≡ u = subst (IsShown old assumed u (term_at old.bank r.term)) none h.shown in
    subst (λ w. LineHasOnly new n (equal_term u w ∷ denials assumed)) (sym same) (
    only_more new n (equal_term u u ∷ []) (equal_term u u ∷ denials assumed) (beside (equal_term u u) [] (denials assumed) (none_among (denials assumed))) (leads_only new n (equal_term u u) [] line))

-- another term of the same work
pub can_term : (history : List Entry) (work : Work) (assumed : List TermId) (t u : TermId) → CanRewrite history work assumed t → IsTermIn history work u → CanRewrite history work assumed u
can_term history work assumed t u h over = record { stands = h.stands; term = over; hypotheses = h.hypotheses; ready = h.ready }

-- the term itself
pub itself : (history : List Entry) (work : Work) (assumed : List TermId) (t : TermId) (r : Rewritten) → CanRewrite history work assumed t → r.term ≡ t → r.line ≡ None → IsRewritten history work (terms_at work.bank assumed) (term_at work.bank t) r
itself history work assumed t r can same none =
    record {
      new = subst (IsTermIn history work) (sym same) can.term;
      shown = subst (IsShown work (terms_at work.bank assumed) (term_at work.bank t) (term_at work.bank r.term)) (sym none) (ap (term_at work.bank) same);
    }

-- steps are left after the work grew
pub fewer_left : (history : List Entry) (old new : Work) → WorkGrows history old new → new.counter.limit - new.counter.used ≤ old.counter.limit - old.counter.used
fewer_left history old new h =
    let used : old.counter.used ≤ new.counter.used = h.counter.used in
    let limit : new.counter.limit ≡ old.counter.limit = h.counter.limit in
    omega arith

module _ (history : List Entry) (assumed : List TermId) where
  -- terms of a rewriting that has just been made
  pub rewritten_now : (old new : Work) (t : TermId) (r : Rewritten) → WorkGrows history old new → CanRewrite history old assumed t → IsRewritten history new (terms_at old.bank assumed) (term_at old.bank t) r → IsRewritten history new (terms_at new.bank assumed) (term_at new.bank t) r
  rewritten_now old new t r grows can h =
      subst (λ ts. IsRewritten history new ts (term_at new.bank t) r) (sym (terms_same history old new grows assumed can.hypotheses)) (
      subst (λ u. IsRewritten history new (terms_at old.bank assumed) u r) (sym (same_term_grown history old new t grows can.term)) h)

  -- terms of a rewriting that was made before
  pub rewritten_carried : (old one new : Work) (t : TermId) (r : Rewritten) → WorkGrows history old one → WorkGrows history one new → CanRewrite history old assumed t → IsRewritten history one (terms_at old.bank assumed) (term_at old.bank t) r → IsRewritten history new (terms_at new.bank assumed) (term_at new.bank t) r
  rewritten_carried old one new t r first second can h =
      rewritten_after history one new second assumed t r (can_grown history old one first assumed t can) (rewritten_now old one t r first can h)

  -- what a call tells that was made after the work grew
  pub told_before : (old one new : Work) (t : TermId) (result : Result Rewritten Stop) → WorkGrows history old one → CanRewrite history old assumed t → IfOk result (IsRewritten history new (terms_at one.bank assumed) (term_at one.bank t)) → IfOk result (IsRewritten history new (terms_at old.bank assumed) (term_at old.bank t))
  told_before old one new t result grows can h =
      for_ok result (IsRewritten history new (terms_at one.bank assumed) (term_at one.bank t)) (IsRewritten history new (terms_at old.bank assumed) (term_at old.bank t)) (λ r k. rewritten_before history old one grows assumed t new r can k) h

  pub known_now : (old new : Work) (t : TermId) (known : Known) → WorkGrows history old new → CanRewrite history old assumed t → IsKnown new (terms_at old.bank assumed) (term_at old.bank t) known → IsKnown new (terms_at new.bank assumed) (term_at new.bank t) known
  known_now old new t known grows can h =
      subst (λ ts. IsKnown new ts (term_at new.bank t) known) (sym (terms_same history old new grows assumed can.hypotheses)) (
      subst (λ u. IsKnown new (terms_at old.bank assumed) u known) (sym (same_term_grown history old new t grows can.term)) h)

  -- one more assumption
  pub can_more : (work : Work) (more t : TermId) → CanRewrite history work assumed t → IsTermIn history work more → CanRewrite history work (more ∷ assumed) t
  can_more work more t can there = record { stands = can.stands; term = can.term; hypotheses = all_cons (IsTermIn history work) more assumed there can.hypotheses; ready = can.ready }
    where
      all_cons : (P : TermId → Type 0) (x : TermId) (xs : List TermId) → P x → All P xs → All P (x ∷ xs)
      all_cons P x xs p h zero d below = p
      all_cons P x xs p h (suc i) d below = h i d (omega arith)

-- a line of terms that stood
pub line_told : (history : List Entry) (assumed : List TermId) (old one new : Work) (t u : TermId) (n : ℕ) → WorkGrows history old one → WorkGrows history one new → CanRewrite history old assumed t → IsTermIn history one u → ShowsEqual new n (terms_at one.bank assumed) (term_at one.bank t) (term_at one.bank u) → ShowsEqual new n (terms_at old.bank assumed) (term_at old.bank t) (term_at new.bank u)
line_told history assumed old one new t u n first second can there h =
    subst (λ ts. ShowsEqual new n ts (term_at old.bank t) (term_at new.bank u)) (terms_same history old one first assumed can.hypotheses) (
    subst (λ w. ShowsEqual new n (terms_at one.bank assumed) w (term_at new.bank u)) (same_term_grown history old one t first can.term) (
    subst (λ w. ShowsEqual new n (terms_at one.bank assumed) (term_at one.bank t) w) (sym (same_term_grown history one new u second there)) h))

-- the NOT of a term, after the work grew
pub denied_now : (history : List Entry) (old one new : Work) (t denied : TermId) → WorkGrows history old one → WorkGrows history one new → IsTermIn history old t → IsIdOf one.bank denied (not_term (term_at old.bank t)) → IsIdOf new.bank denied (not_term (term_at new.bank t))
denied_now history old one new t denied first second there h =
    let both : WorkGrows history old new = WorkGrows-trans history old one new first second in
    subst (IsIdOf new.bank denied) (ap not_term (sym (same_term_grown history old new t both there))) (id_grown one.bank new.bank denied (not_term (term_at old.bank t)) second.bank h)

-- an entry that was refused
pub entered_grows : {A : Type 0} (history : List Entry) (old new : Work) (r : Result A Stop) (e : Stop) → WorkStands history old → new ≡ record { bank = old.bank; log = old.log; counter = new.counter; known = old.known } → (r ≡ Err OutOfSteps → new.counter.used ≡ new.counter.limit) → (r ≡ Err Memory → ⊥) → new.counter.limit ≡ old.counter.limit → old.counter.used ≤ old.counter.limit → r ≡ Err e → WorkGrows history old new
entered_grows history old new r OutOfSteps stands same out memory limit within is =
    let used : new.counter.used ≡ new.counter.limit = out is in
    subst (WorkGrows history old) (sym same) (bank_grows history old old.bank new.counter stands (Grows-refl old.bank) (no_names old.bank old.bank refl) (record { used = omega arith; limit = limit }))
entered_grows history old new r Memory stands same out memory limit within is = absurd (memory is)

-- a member's NOT is among the NOTs
pub denied_among : (t : Term) (ts : List Term) → IsAmong t ts → IsAmong (not_term t) (denials ts)
denied_among t [] m = absurd m
denied_among t (u ∷ ts) (inl e) = inl (ap not_term e)
denied_among t (u ∷ ts) (inr m) = inr (denied_among t ts m)

pub member_among : (bank : Content) (ids : List TermId) (i : ℕ) (d : TermId) → i < length ids → IsAmong (term_at bank (get_or ids i d)) (terms_at bank ids)
member_among bank [] i d h = absurd (omega arith)
member_among bank (x ∷ ids) zero d h = inl refl
member_among bank (x ∷ ids) (suc i) d h = inr (member_among bank ids i d (omega arith))

-- a term that is assumed is true
pub assumed_known : (work : Work) (assumed : List Term) (t : Term) (n : ℕ) → IsAmong t assumed → LineLeads work n t (not_term t ∷ []) → IsKnown work assumed t (record { value = true; line = n })
assumed_known work assumed t n m h =
    record { shown = only_more work n (t ∷ not_term t ∷ []) (t ∷ denials assumed) (beside t (not_term t ∷ []) (denials assumed) (and_among (not_term t) [] (denials assumed) (denied_among t assumed m) (none_among (denials assumed)))) (leads_only work n t (not_term t ∷ []) h) }

pub denied_known : (work : Work) (assumed : List Term) (t u : Term) (n : ℕ) → IsAmong u assumed → u ≡ not_term t → LineLeads work n u (not_term u ∷ []) → IsKnown work assumed t (record { value = false; line = n })
denied_known work assumed t u n m e h =
    let k = assumed_known work assumed u n m h in
    record { shown = subst (λ v. LineHasOnly work n (v ∷ denials assumed)) e k.shown }

-- a call with a rewritten argument
pub carried : (history : List Entry) (old new : Work) (assumed : List Term) (t a u : TermId) (place : ℕ) (r : Rewritten) (line n : ℕ) → IsArgument history old t place a → IsTermIn history new r.term → r.line ≡ Some n → IsIdOf new.bank r.term (with_argument place (term_at old.bank u) (term_at old.bank t)) → CarriesTo old new place (term_at old.bank t) (term_at old.bank u) line n → ShowsEqual old line assumed (term_at old.bank a) (term_at old.bank u) → IsRewritten history new assumed (term_at old.bank t) r
carried history old new assumed t a u place r line n argument there is id carries shown =
    record {
      new = there;
      shown =
          subst (IsShown new assumed (term_at old.bank t) (term_at new.bank r.term)) (sym is) (
          subst (λ w. LineHasOnly new n (equal_term (term_at old.bank t) w ∷ denials assumed)) (sym id.denotes) (
          carries (term_at old.bank a) (denials assumed) argument.at shown));
    }

-- the branch that is taken
pub taken : (history : List Entry) (old new : Work) (assumed : List Term) (t : Term) (branch : TermId) (given : Term) (whole : Term) (line n : ℕ) → WorkStands history old → WorkGrows history old new → IsTermIn history old branch → t ≡ whole → LineHasOnly old line (given ∷ denials assumed) → MakesOf old new given (equal_term whole (term_at old.bank branch)) line n → IsRewritten history new assumed t (record { term = branch; line = Some n })
taken history old new assumed t branch given whole line n stands grows there is known makes =
    record {
      new = term_grown history old new branch stands grows there;
      shown =
          subst (λ w. LineHasOnly new n (equal_term w (term_at new.bank branch) ∷ denials assumed)) (sym is) (
          subst (λ w. LineHasOnly new n (equal_term whole w ∷ denials assumed)) (sym (same_term_grown history old new branch grows there)) (makes (denials assumed) known));
    }

pub known_true : (work : Work) (assumed : List Term) (t : Term) (k : Known) → k.value ≡ true → IsKnown work assumed t k → LineHasOnly work k.line (t ∷ denials assumed)
known_true work assumed t k e h = subst (λ b. LineHasOnly work k.line (signed b t ∷ denials assumed)) e h.shown

pub known_untrue : (work : Work) (assumed : List Term) (t : Term) (k : Known) → k.value ≡ false → IsKnown work assumed t k → LineHasOnly work k.line (not_term t ∷ denials assumed)
known_untrue work assumed t k e h = subst (λ b. LineHasOnly work k.line (signed b t ∷ denials assumed)) e h.shown

-- the NOT that is assumed
pub denial_told : (history : List Entry) (work : Work) (assumed : List TermId) (t : TermId) (i : ℕ) (d : TermId) → CanRewrite history work assumed t → i < length assumed → term_at work.bank (get_or assumed i d) ≡ not_term (term_at work.bank t) → IsAssumedFalse history work assumed t (get_or assumed i d)
denial_told history work assumed t i d can below denies = record { among = member_among work.bank assumed i d below; denies = denies; over = can.hypotheses i d below }

pub denial_is : (bank : Content) (a t : TermId) (f : List ℕ) (ids : List TermId) (d : TermId) → term_at bank a ≡ call f (parts_of (term_at bank a)) → terms_at bank ids ≡ parts_of (term_at bank a) → 1 ≤ length ids → length ids < 2 → get_or ids 0 d ≡ t → bytes_eq f (codes "NOT") ≡ true → term_at bank a ≡ not_term (term_at bank t)
denial_is bank a t f [] d is tells least most same named = absurd (omega arith)
denial_is bank a t f (p ∷ []) d is tells least most same named =
    is ∙ ap (call f) (sym tells) ∙ ap (λ g. Applied (Function g) (term_at bank p)) (bytes_eq-true f (codes "NOT") named) ∙ ap (λ q. not_term (term_at bank q)) same
denial_is bank a t f (p ∷ (q ∷ ids)) d is tells least most same named = absurd (omega arith)

-- what is known of a term is known of the one that it was rewritten from, where they are one
pub known_same : (work : Work) (assumed : List Term) (t u : Term) (k : Known) → u ≡ t → IsKnown work assumed u k → IsKnown work assumed t k
known_same work assumed t u k e h = subst (λ v. IsKnown work assumed v k) e h

-- a rewriting back to the term that was rewritten
pub back_same : (history : List Entry) (work : Work) (assumed : List TermId) (t : TermId) (new : Rewritten) → CanRewrite history work assumed t → IsRewritten history work (terms_at work.bank assumed) (term_at work.bank t) new → new.line ≡ None → IsRewritten history work (terms_at work.bank assumed) (term_at work.bank new.term) (record { term = t; line = None })
back_same history work assumed t new can h none =
    record {
      new = can.term;
      shown = sym (subst (IsShown work (terms_at work.bank assumed) (term_at work.bank t) (term_at work.bank new.term)) none h.shown);
    }

pub back_by : (history : List Entry) (old work : Work) (assumed : List TermId) (t : TermId) (new : Rewritten) (one n : ℕ) → WorkGrows history old work → CanRewrite history old assumed t → IsRewritten history old (terms_at old.bank assumed) (term_at old.bank t) new → new.line ≡ Some one → TurnsTo old work (term_at old.bank t) (term_at old.bank new.term) one n → IsRewritten history work (terms_at old.bank assumed) (term_at old.bank new.term) (record { term = t; line = Some n })
back_by history old work assumed t new one n grows can h is turns =
    record {
      new = term_grown history old work t can.stands grows can.term;
      shown =
          subst (λ w. LineHasOnly work n (equal_term (term_at old.bank new.term) w ∷ denials (terms_at old.bank assumed))) (sym (same_term_grown history old work t grows can.term)) (
          turns (denials (terms_at old.bank assumed)) (subst (IsShown old (terms_at old.bank assumed) (term_at old.bank t) (term_at old.bank new.term)) is h.shown));
    }

-- what is known stays known
pub known_after : (history : List Entry) (assumed : List TermId) (old new : Work) (t : TermId) (known : Known) → WorkGrows history old new → CanRewrite history old assumed t → IsKnown old (terms_at old.bank assumed) (term_at old.bank t) known → IsKnown new (terms_at new.bank assumed) (term_at new.bank t) known
known_after history assumed old new t known grows can h =
    known_now history assumed old new t known grows can (record { shown = only_grown history old new known.line (signed known.value (term_at old.bank t) ∷ denials (terms_at old.bank assumed)) can.stands grows h.shown })

pub branch_there : (history : List Entry) (work : Work) (t : TermId) (parts : Branches) (value : Bool) → IsIfOf history work t parts → IsTermIn history work (branch_of parts value)
branch_there history work t parts true h = h.first
branch_there history work t parts false h = h.second

-- a case lasts
pub case_grown : (history : List Entry) (old new : Work) (all : List TermId) (t : TermId) (parts : Branches) (test : Rewritten) (known : Known) (branch : Rewritten) (other : TermId) (news : Branches) → WorkGrows history old new → IsCase history old all t parts test known branch other news → IsCase history new all t parts test known branch other news
case_grown history old new all t parts test known branch other news grows h =
    record {
      can = can_grown history old new grows all t h.can;
      whole = if_grown history old new grows t parts h.can.stands h.can.term h.whole;
      tested = rewritten_after history old new grows all parts.test test (can_term history old all t parts.test h.can h.whole.test) h.tested;
      told = known_after history all old new test.term known grows (can_term history old all t test.term h.can h.tested.new) h.told;
      rewritten = rewritten_after history old new grows all (branch_of parts known.value) branch (can_term history old all t (branch_of parts known.value) h.can (branch_there history old t parts known.value h.whole)) h.rewritten;
      there = term_grown history old new other h.can.stands grows h.there;
      new = if_grown history old new grows other news h.can.stands h.there h.new;
      same_test = h.same_test;
      same_branch = h.same_branch;
    }

-- rewritings of one term
pub rewritten_at : (history : List Entry) (work : Work) (assumed : List TermId) (t u : TermId) (r : Rewritten) → t ≡ u → IsRewritten history work (terms_at work.bank assumed) (term_at work.bank t) r → IsRewritten history work (terms_at work.bank assumed) (term_at work.bank u) r
rewritten_at history work assumed t u r e h = subst (λ v. IsRewritten history work (terms_at work.bank assumed) (term_at work.bank v) r) e h

pub known_at : (work : Work) (assumed : List Term) (t u : TermId) (k : Known) → t ≡ u → IsKnown work assumed (term_at work.bank t) k → IsKnown work assumed (term_at work.bank u) k
known_at work assumed t u k e h = subst (λ v. IsKnown work assumed (term_at work.bank v) k) e h

pub ends_at : (result : Result Rewritten Stop) (t u : TermId) → t ≡ u → IfOk result (λ r. r.term ≡ t) → IfOk result (λ r. r.term ≡ u)
ends_at result t u e h = for_ok result (λ r. r.term ≡ t) (λ r. r.term ≡ u) (λ r k. k ∙ e) h

-- one more assumption does no harm
pub rewritten_under : (history : List Entry) (work : Work) (assumed : List Term) (a t : Term) (r : Rewritten) → IsRewritten history work assumed t r → IsRewritten history work (a ∷ assumed) t r
rewritten_under history work assumed a t r h = record { new = h.new; shown = by_line r.line h.shown }
  where
    by_line : (line : Option ℕ) → IsShown work assumed t (term_at work.bank r.term) line → IsShown work (a ∷ assumed) t (term_at work.bank r.term) line
    by_line None k = k
    by_line (Some n) k =
        let e : Term = equal_term t (term_at work.bank r.term) in
        only_more work n (e ∷ denials assumed) (e ∷ denials (a ∷ assumed)) (beside e (denials assumed) (denials (a ∷ assumed)) (under (not_term a) (denials assumed) (denials assumed) (λ u m. m))) k

module _ (history : List Entry) (hyps : List TermId) (more : TermId) (value : Bool) (t : TermId) (parts : Branches) (test branch : Rewritten) (other : TermId) (news : Branches) where
  pub branch_can : (work : Work) → IsBranch history work hyps more value t parts test branch other news → CanRewrite history work (more ∷ hyps) t
  branch_can work h = can_more history hyps work more t h.can h.more_there

  -- a branch lasts
  pub branch_grown : (old new : Work) → WorkGrows history old new → IsBranch history old hyps more value t parts test branch other news → IsBranch history new hyps more value t parts test branch other news
  branch_grown old new grows h =
      record {
        can = can_grown history old new grows hyps t h.can;
        more_there = term_grown history old new more h.can.stands grows h.more_there;
        says = same_term_grown history old new more grows h.more_there ∙ h.says ∙ ap (signed value) (sym (same_term_grown history old new test.term grows h.tested.new));
        whole = if_grown history old new grows t parts h.can.stands h.can.term h.whole;
        tested = rewritten_after history old new grows hyps parts.test test (can_term history old hyps t parts.test h.can h.whole.test) h.tested;
        rewritten = rewritten_after history old new grows (more ∷ hyps) (branch_of parts value) branch (can_term history old (more ∷ hyps) t (branch_of parts value) (branch_can old h) (branch_there history old t parts value h.whole)) h.rewritten;
        there = term_grown history old new other h.can.stands grows h.there;
        new = if_grown history old new grows other news h.can.stands h.there h.new;
        same_test = h.same_test;
        same_branch = h.same_branch;
      }

  -- it is a case
  pub branch_case : (work : Work) (line : ℕ) → IsBranch history work hyps more value t parts test branch other news → LineLeads work line (term_at work.bank more) (not_term (term_at work.bank more) ∷ []) → IsCase history work (more ∷ hyps) t parts test (record { value = value; line = line }) branch other news
  branch_case work line h leads =
      record {
        can = branch_can work h;
        whole = h.whole;
        tested = rewritten_under history work (terms_at work.bank hyps) (term_at work.bank more) (term_at work.bank parts.test) test h.tested;
        told = record { shown = subst (λ u. LineHasOnly work line (u ∷ denials (terms_at work.bank (more ∷ hyps)))) h.says (assumed_known work (terms_at work.bank (more ∷ hyps)) (term_at work.bank more) line (inl refl) leads).shown };
        rewritten = h.rewritten;
        there = h.there;
        new = h.new;
        same_test = h.same_test;
        same_branch = h.same_branch;
      }

-- an IF that was made
pub if_made : (history : List Entry) (old new : Work) (other : TermId) (test first second : TermId) → WorkStands history old → WorkGrows history old new → IsTermIn history old test → IsTermIn history old first → IsTermIn history old second → IsIdOf new.bank other (if_term (term_at old.bank test) (term_at old.bank first) (term_at old.bank second)) → IsIfOf history new other (record { test = test; first = first; second = second })
if_made history old new other test first second stands grows a b d id =
    record {
      whole =
          id.denotes ∙ ap (λ u. if_term u (term_at old.bank first) (term_at old.bank second)) (sym (same_term_grown history old new test grows a)) ∙
          ap (λ u. if_term (term_at new.bank test) u (term_at old.bank second)) (sym (same_term_grown history old new first grows b)) ∙
          ap (λ u. if_term (term_at new.bank test) (term_at new.bank first) u) (sym (same_term_grown history old new second grows d));
      test = term_grown history old new test stands grows a;
      first = term_grown history old new first stands grows b;
      second = term_grown history old new second stands grows d;
    }

-- the line that is cut from two cases
pub cut_cases : (history : List Entry) (old new : Work) (assumed : List Term) (t a : Term) (denied other : TermId) (one two : Rewritten) (m n line : ℕ) → WorkStands history old → WorkGrows history old new → term_at old.bank denied ≡ not_term a → IsTermIn history old denied → IsRewritten history old (a ∷ assumed) t one → IsRewritten history old (term_at old.bank denied ∷ assumed) t two → one.term ≡ other → two.term ≡ other → one.line ≡ Some m → two.line ≡ Some n → CutsTo old new (term_at old.bank denied) m n line → IsRewritten history new assumed t (record { term = other; line = Some line })
cut_cases history old new assumed t a denied other one two m n line stands grows denies there first second first_same second_same first_is second_is cuts =
    let u : Term = term_at old.bank other in
    let e : Term = equal_term t u in
    let d : Term = term_at old.bank denied in
    let v : (r : Rewritten) → r.term ≡ other → term_at old.bank r.term ≡ u = λ r same. ap (term_at old.bank) same in
    let left : LineHasOnly old m (e ∷ denials (a ∷ assumed)) = subst (λ w. LineHasOnly old m (equal_term t w ∷ denials (a ∷ assumed))) (v one first_same) (subst (IsShown old (a ∷ assumed) t (term_at old.bank one.term)) first_is first.shown) in
    let right : LineHasOnly old n (e ∷ denials (d ∷ assumed)) = subst (λ w. LineHasOnly old n (equal_term t w ∷ denials (d ∷ assumed))) (v two second_same) (subst (IsShown old (d ∷ assumed) t (term_at old.bank two.term)) second_is second.shown) in
    let left_now : LineHasOnly old m (d ∷ e ∷ denials assumed) = subst (λ w. LineHasOnly old m (w ∷ e ∷ denials assumed)) (sym denies) (only_more old m (e ∷ not_term a ∷ denials assumed) (not_term a ∷ e ∷ denials assumed) (exchanged e (not_term a) (denials assumed)) left) in
    let right_now : LineHasOnly old n (not_term d ∷ e ∷ denials assumed) = only_more old n (e ∷ not_term d ∷ denials assumed) (not_term d ∷ e ∷ denials assumed) (exchanged e (not_term d) (denials assumed)) right in
    let there_old : IsTermIn history old other = subst (IsTermIn history old) first_same first.new in
    record {
      new = term_grown history old new other stands grows there_old;
      shown = subst (λ w. LineHasOnly new line (equal_term t w ∷ denials assumed)) (sym (same_term_grown history old new other grows there_old)) (cuts (e ∷ denials assumed) left_now right_now);
    }
  where
    exchanged : (x y : Term) (c : List Term) (w : Term) → IsAmong w (x ∷ y ∷ c) → IsAmong w (y ∷ x ∷ c)
    exchanged x y c w (inl k) = inr (inl k)
    exchanged x y c w (inr (inl k)) = inl k
    exchanged x y c w (inr (inr k)) = inr (inr k)

-- without a line the assumption was not used
pub unused : (history : List Entry) (work : Work) (assumed : List Term) (a t : Term) (r : Rewritten) → r.line ≡ None → IsRewritten history work (a ∷ assumed) t r → IsRewritten history work assumed t r
unused history work assumed a t r none h =
    record { new = h.new; shown = subst (IsShown work assumed t (term_at work.bank r.term)) (sym none) (subst (IsShown work (a ∷ assumed) t (term_at work.bank r.term)) none h.shown) }

pub if_over : (history : List Entry) (work : Work) (p x y : Term) → IsTermOf IsVariable (symbols_of (events_at work.bank history)) p → IsTermOf IsVariable (symbols_of (events_at work.bank history)) x → IsTermOf IsVariable (symbols_of (events_at work.bank history)) y → IsTermOf IsVariable (symbols_of (events_at work.bank history)) (if_term p x y)
if_over history work p x y a b d = record { over = (((if_symbol (events_at work.bank history), a.over), b.over), d.over); variables = (((tt, a.variables), b.variables), d.variables) }

-- a term that is F
pub false_told : (history : List Entry) (assumed : List TermId) (old one two : Work) (t f : TermId) (line n : ℕ) → WorkGrows history old one → WorkGrows history one two → CanRewrite history old assumed t → IsIdOf one.bank f false_term → IsTermIn history one f → LineHasOnly old line (not_term (term_at old.bank t) ∷ denials (terms_at old.bank assumed)) → MakesOf one two (not_term (term_at one.bank t)) (equal_term (term_at one.bank t) false_term) line n → IsRewritten history two (terms_at old.bank assumed) (term_at old.bank t) (record { term = f; line = Some n })
false_told history assumed old one two t f line n first second can id there shown makes =
    let hyps : List Term = terms_at old.bank assumed in
    let same : term_at one.bank t ≡ term_at old.bank t = same_term_grown history old one t first can.term in
    let grown : LineHasOnly one line (not_term (term_at old.bank t) ∷ denials hyps) = only_grown history old one line (not_term (term_at old.bank t) ∷ denials hyps) can.stands first shown in
    let made : LineHasOnly two n (equal_term (term_at one.bank t) false_term ∷ denials hyps) = makes (denials hyps) (subst (λ u. LineHasOnly one line (not_term u ∷ denials hyps)) (sym same) grown) in
    record {
      new = term_grown history one two f first.stands second there;
      shown =
          subst (λ w. LineHasOnly two n (equal_term (term_at old.bank t) w ∷ denials hyps)) (sym (id_grown one.bank two.bank f false_term second.bank id).denotes) (
          subst (λ u. LineHasOnly two n (equal_term u false_term ∷ denials hyps)) same made);
    }
