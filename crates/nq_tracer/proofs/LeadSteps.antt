-- What a call leads to, over a bank.
use Rattle.std.proofs.Common.{◌≡◌, ◌∙◌, ◌<◌, ◌≤◌, true, ℕ, zero, suc, List, [], ◌∷◌, length, get_or, refl, sym, ap, ap₂, subst, inl, inr, arith}
use Rattle.std.specs.Prelude.{All, Option, Some, None, IfSome}
use Rattle.std.specs.Option.{option_map}
use Rattle.std.proofs.lemmas.List.{length-map}
use Rattle.nq_logic.specs.Terms.{Name, Term, IsTerm, IsAmong, Substitution}
use Rattle.nq_logic.specs.Histories.{History}
use Rattle.nq_logic.specs.Ground.{symbols_of}
use Rattle.nq_logic.specs.Laws.{InductionCase}
use Rattle.nq_logic.specs.Admissible.{Call, calls_of, matched}
use Rattle.nq_logic.proofs.Lists.{among_left, among_right}
use Rattle.nq_bank.specs.declared.node.TermId.{TermId}
use Rattle.nq_bank.specs.Content.{Content, Grows, Stands, IsIdOf, text_at, term_at, terms_at}
use Rattle.nq_bank.specs.Parts.{parts_of}
use Rattle.nq_bank.specs.Shells.{texts_at}
use Rattle.nq_bank.proofs.Growth.{term_at-grown, terms_at-grown}
use Rattle.nq_bank.proofs.NodesLemmas.{All-head, All-tail}
use Rattle.nq_calls.specs.declared.calls.Site.{Site}
use Rattle.nq_calls.specs.Calls.{site_at, sites_at}
use Rattle.nq_history.specs.declared.entry.Entry.{Entry}
use Rattle.nq_history.specs.Events.{HistoryStands, events_at}
use Rattle.nq_history.proofs.HistoryLemmas.{events_at-grown}
use Rattle.nq_kernel.specs.Over.{TermIsIn}
use Rattle.nq_kernel.specs.Ready.{IsReady}
use Rattle.nq_events.specs.Inductions.{opened_by, arguments_of, suggests_by}
use Rattle.nq_event.specs.declared.definitions.Definition.{Definition}
use Rattle.nq_event.specs.Definitions.{definition_at}
use Rattle.nq_event.proofs.DefinitionLemmas.{arguments_call}
use Rattle.nq_goals.specs.Inducting.{base_case, step_case, claim_of}
use Rattle.nq_goals.specs.Replacing.{parts_in, parts_in_all}
use Rattle.nq_tracer.specs.Falls.{DefinitionsFall}
use Rattle.nq_tracer.specs.Cases.{case_by, case_of, CallsGiveCases, IsSuggesting}
use Rattle.nq_tracer.specs.declared.drafts.Draft.{Draft}
use Rattle.nq_tracer.specs.declared.nexts.Nexts.{Nexts}
use Rattle.nq_tracer.specs.Leads.{draft_at, IsInduction, IsInductionBy, IsInductionOf, IsPartIn, IsSuggestedBy, LeadsBy, LeadsFrom}
use Rattle.nq_tracer.proofs.PartLemmas.{part_over, arguments_over}
use Rattle.nq_tracer.proofs.LeadLemmas.{induction_by, induction_in}

-- the first of the calls that were found
first_among : (bank : Content) (sites : List Site) (d : Site) → 1 ≤ length sites → IsAmong (site_at bank (get_or sites 0 d)) (sites_at bank sites)
first_among bank [] d some = absurd (omega (arith, some))
first_among bank (s ∷ sites) d some = inl refl

-- the goals of the case that a call gives
pub leads_from : (old b1 b2 : Content) (formals : List Name) (m : Term) (here : Substitution) (call : Call) (p : TermId) (r : Draft) (n : Nexts) → Grows old b1 → Stands old p → draft_at b1 r ≡ case_by formals m here call
    → IsIdOf b2 n.base (base_case (term_at b1 p) (draft_at b1 r ∷ [])) → IsIdOf b2 n.step (step_case (term_at b1 p) (draft_at b1 r)) → LeadsFrom formals m here call (term_at old p) b2 n
leads_from old b1 b2 formals m here call p r n grows stands draft base step = record {
  base = base.denotes ∙ ap₂ (λ (t : Term) (c : InductionCase). base_case t (c ∷ [])) (term_at-grown old b1 p grows stands) draft;
  step = step.denotes ∙ ap₂ (λ (t : Term) (c : InductionCase). step_case t c) (term_at-grown old b1 p grows stands) draft;
}

pub leads_by : (old b2 : Content) (d : Definition) (m : Term) (p : Term) (arguments : List TermId) (sites all : List Site) (here : Substitution) (n : Nexts) → 1 ≤ length all → sites ≡ all
    → sites_at old all ≡ calls_of (text_at old d.name) (term_at old d.body) → here ≡ matched (texts_at old d.formals.now) (terms_at old arguments)
    → ((s : Site) → LeadsFrom (texts_at old d.formals.now) m here (site_at old (get_or sites 0 s)) p b2 n)
    → LeadsBy (definition_at old d) m (terms_at old arguments) p b2 n
leads_by old b2 d m p arguments sites [] here n some same calls here_is leads = absurd (omega (arith, some))
leads_by old b2 d m p arguments sites (x ∷ all) here n some same calls here_is leads =
    let from = subst (λ (l : List Site). (s : Site) → LeadsFrom (texts_at old d.formals.now) m here (site_at old (get_or l 0 s)) p b2 n) same leads in
    let call = site_at old x in
    let case_is : case_by (texts_at old d.formals.now) m here call ≡ case_of (definition_at old d) m (terms_at old arguments) call = ap (λ (s : Substitution). case_by (texts_at old d.formals.now) m s call) here_is in
    record {
      call = call;
      among = subst (IsAmong call) calls (first_among old (x ∷ all) x some);
      base = (from x).base ∙ ap (λ (c : InductionCase). base_case p (c ∷ [])) case_is;
      step = (from x).step ∙ ap (λ (c : InductionCase). step_case p c) case_is;
    }

-- what stands in a literal stands in the goal
part_in_all : (bank : Content) (ids : List TermId) (literal : TermId) (u : Term) → IsAmong literal ids → IsAmong u (parts_in (term_at bank literal)) → IsAmong u (parts_in_all (terms_at bank ids))
part_in_all bank [] literal u m i = absurd m
part_in_all bank (x ∷ ids) literal u (inl e) i = among_left u (parts_in (term_at bank x)) (parts_in_all (terms_at bank ids)) (subst (λ (y : TermId). IsAmong u (parts_in (term_at bank y))) e i)
part_in_all bank (x ∷ ids) literal u (inr m) i = among_right u (parts_in (term_at bank x)) (parts_in_all (terms_at bank ids)) (part_in_all bank ids literal u m i)

all_at : (P : TermId → Type 0) (ids : List TermId) (literal : TermId) → IsAmong literal ids → All P ids → P literal
all_at P [] literal m k = absurd m
all_at P (x ∷ ids) literal (inl e) k = subst P (sym e) (All-head P x ids k)
all_at P (x ∷ ids) literal (inr m) k = all_at P ids literal m (All-tail P x ids k)

-- a call that stands in the goal is over the functions of the history, as its literals are
pub call_in_goal : (bank : Content) (history : List Entry) (goal : List TermId) (t : TermId) → All (TermIsIn bank history) goal → IsPartIn bank goal t → IsTerm (symbols_of (events_at bank history)) (term_at bank t)
call_in_goal bank history goal t over part = part_over (symbols_of (events_at bank history)) (term_at bank part.literal) (term_at bank t) (all_at (TermIsIn bank history) goal part.literal part.among over).over part.part.among

-- an induction of such a call is one of the goal
pub induction_of_part : (bank new : Content) (history : List Entry) (goal : List TermId) (t : TermId) (n : Nexts) → IsPartIn bank goal t → IsInductionOf (events_at bank history) (term_at bank t) (terms_at bank goal) (term_at new n.base) (term_at new n.step)
    → IsInduction (events_at bank history) (terms_at bank goal) (term_at new n.base) (term_at new n.step)
induction_of_part bank new history goal t n part i = induction_in (events_at bank history) (term_at bank t) (terms_at bank goal) (term_at new n.base) (term_at new n.step) (part_in_all bank goal part.literal (term_at bank t) part.among part.part.among) i

-- so they are those of an induction that the call suggests
pub leads_on : DefinitionsFall → CallsGiveCases → (bank new : Content) (history : List Entry) (goal : List TermId) (p t : TermId) (d : Definition) (measure : TermId) (arguments : List TermId) (n : Nexts) (o : Option Definition) → IsReady (events_at bank history)
    → IsTerm (symbols_of (events_at bank history)) (term_at bank t) → IsIdOf bank p (claim_of (terms_at bank goal)) → option_map (definition_at bank) o ≡ opened_by (events_at bank history) (term_at bank t) → o ≡ Some d → d.measure ≡ Some measure → terms_at bank arguments ≡ parts_of (term_at bank t)
    → IsSuggestedBy bank d measure t arguments → LeadsBy (definition_at bank d) (term_at bank measure) (terms_at bank arguments) (term_at bank p) new n
    → IsInductionOf (events_at bank history) (term_at bank t) (terms_at bank goal) (term_at new n.base) (term_at new n.step)
leads_on fall give bank new history goal p t d measure arguments n o ready over claim opened found measured parts suggested leads =
    let h : History = events_at bank history in
    let whole : Term = term_at bank t in
    let own : terms_at bank arguments ≡ arguments_of whole = parts ∙ sym (arguments_call whole suggested.call) in
    let there : LeadsBy (definition_at bank d) (term_at bank measure) (arguments_of whole) (term_at bank p) new n = subst (λ (ts : List Term). LeadsBy (definition_at bank d) (term_at bank measure) ts (term_at bank p) new n) own leads in
    let suggesting : IsSuggesting h (definition_at bank d) (term_at bank measure) whole = record {
      opened = sym opened ∙ ap (option_map (definition_at bank)) found;
      measure = ap (option_map (term_at bank)) measured;
      suggests = subst (λ (ts : List Term). suggests_by (definition_at bank d) (Some (term_at bank measure)) ts ≡ true) own suggested.suggests;
      count = ap length (sym own) ∙ length-map arguments (term_at bank) ∙ suggested.count ∙ sym (length-map d.formals.now (text_at bank));
      over = arguments_over (symbols_of h) whole over;
    } in
    induction_by fall give h (definition_at bank d) (term_at bank measure) whole (terms_at bank goal) ready suggesting there.call there.among (term_at bank p)
    (term_at new n.base) (term_at new n.step) claim.denotes there.base there.step

-- an element that is there does not depend on what stands for none
pub site_other : (sites : List Site) (i : ℕ) (site d : Site) → i < length sites → site ≡ get_or sites i site → site ≡ get_or sites i d
site_other sites i site d below is = is ∙ same sites i below
  where
    same : (xs : List Site) (k : ℕ) → k < length xs → get_or xs k site ≡ get_or xs k d
    same [] k h = absurd (omega (arith, h))
    same (x ∷ xs) zero h = refl
    same (x ∷ xs) (suc k) h = same xs k (omega (arith, h))

-- the same of what may be found
pub leads_on_found : DefinitionsFall → CallsGiveCases → (bank new : Content) (history : List Entry) (goal : List TermId) (p t : TermId) (d : Definition) (measure : TermId) (arguments : List TermId) (found : Option Nexts) (o : Option Definition) → IsReady (events_at bank history)
    → IsTerm (symbols_of (events_at bank history)) (term_at bank t) → IsIdOf bank p (claim_of (terms_at bank goal)) → option_map (definition_at bank) o ≡ opened_by (events_at bank history) (term_at bank t) → o ≡ Some d → d.measure ≡ Some measure → terms_at bank arguments ≡ parts_of (term_at bank t)
    → IsSuggestedBy bank d measure t arguments → IfSome found (LeadsBy (definition_at bank d) (term_at bank measure) (terms_at bank arguments) (term_at bank p) new)
    → IfSome found (λ n. IsInductionOf (events_at bank history) (term_at bank t) (terms_at bank goal) (term_at new n.base) (term_at new n.step))
leads_on_found fall give bank new history goal p t d measure arguments None o ready over claim opened found measured parts suggested leads = tt
leads_on_found fall give bank new history goal p t d measure arguments (Some n) o ready over claim opened found measured parts suggested leads =
    leads_on fall give bank new history goal p t d measure arguments n o ready over claim opened found measured parts suggested leads

-- and of one of a call in the goal
pub found_of_part : (bank new : Content) (history : List Entry) (goal : List TermId) (t : TermId) (found : Option Nexts) → IsPartIn bank goal t → IfSome found (λ n. IsInductionOf (events_at bank history) (term_at bank t) (terms_at bank goal) (term_at new n.base) (term_at new n.step))
    → IfSome found (λ n. IsInduction (events_at bank history) (terms_at bank goal) (term_at new n.base) (term_at new n.step))
found_of_part bank new history goal t None part leads = tt
found_of_part bank new history goal t (Some n) part leads = induction_of_part bank new history goal t n part leads

-- and of one of the call alone, which stood before the bank grew
pub found_alone : (old middle new : Content) (history : List Entry) (goal : List TermId) (t : TermId) (found : Option Nexts) → Grows old middle → HistoryStands old history → All (Stands old) goal → Stands old t
    → IfSome found (λ n. IsInductionOf (events_at middle history) (term_at middle t) (terms_at middle goal) (term_at new n.base) (term_at new n.step))
    → IfSome found (λ n. IsInductionBy (events_at old history) (term_at old t ∷ []) (terms_at old goal) (term_at new n.base) (term_at new n.step))
found_alone old middle new history goal t None grows stands stand call leads = tt
found_alone old middle new history goal t (Some n) grows stands stand call leads =
    let there : IsInductionBy (events_at middle history) (term_at middle t ∷ []) (terms_at middle goal) (term_at new n.base) (term_at new n.step) = leads.by (term_at middle t ∷ []) (inl refl) in
    let base : Term = term_at new n.base in
    let step : Term = term_at new n.step in
    subst (λ (es : History). IsInductionBy es (term_at old t ∷ []) (terms_at old goal) base step) (events_at-grown old middle grows history stands.entries)
    (subst (λ (u : Term). IsInductionBy (events_at middle history) (u ∷ []) (terms_at old goal) base step) (term_at-grown old middle t grows call)
    (subst (λ (ts : List Term). IsInductionBy (events_at middle history) (term_at middle t ∷ []) ts base step) (terms_at-grown old middle goal grows stand) there))
