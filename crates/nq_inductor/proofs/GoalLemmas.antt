-- The goals of an induction by one case are such as the legal mover asks for.
use Rattle.std.proofs.Common.{◌≡◌, ◌∙◌, List, [], ◌∷◌, Option, Some, None, sym, ap, ap₂, subst}
use Rattle.std.specs.Prelude.{All, IfSome, Vec}
use Rattle.std.specs.declared.alloc.Global.{Global}
use Rattle.std.proofs.lemmas.List.Elements.{All-cons, All-nil}
use Rattle.nq_logic.specs.Terms.{Term}
use Rattle.nq_logic.specs.Histories.{History}
use Rattle.nq_bank.specs.declared.node.TermId.{TermId}
use Rattle.nq_bank.specs.Content.{Content, term_at, terms_at}
use Rattle.nq_history.specs.declared.entry.Entry.{Entry}
use Rattle.nq_kernel.specs.declared.work.Work.{Work}
use Rattle.nq_lines.specs.Lines.{IsTermIn}
use Rattle.nq_waterfall.specs.Ready.{IsGoalIn}
use Rattle.nq_waterfall.specs.Trails.{goals_at}
use Rattle.nq_tracer.specs.declared.nexts.Nexts.{Nexts}
use Rattle.nq_tracer.specs.Leads as found
use Rattle.nq_legal.specs.Inducting as legal
use Rattle.nq_inductor.specs.Goals.{AreNexts}

-- what they stand for
pub goals_told : (bank : Content) (goals : List (Vec TermId Global)) (n : Nexts) → AreNexts goals n → goals_at bank goals ≡ (term_at bank n.base ∷ []) ∷ (term_at bank n.step ∷ []) ∷ []
goals_told bank goals n k = ap (goals_at bank) k.are ∙ ap₂ (λ (a b : List TermId). terms_at bank a ∷ terms_at bank b ∷ []) k.base_is k.step_is

one_in : (history : List Entry) (work : Work) (ids : List TermId) (t : TermId) → ids ≡ t ∷ [] → IsTermIn history work t → IsGoalIn history work ids
one_in history work ids t is here = subst (IsGoalIn history work) (sym is) (All-cons (IsTermIn history work) t [] here (All-nil (IsTermIn history work)))

-- their literals are over the functions of the history, where these are
pub goals_inside : (history : List Entry) (work : Work) (goals : List (Vec TermId Global)) (n : Nexts) → AreNexts goals n → IsTermIn history work n.base → IsTermIn history work n.step → All (λ next. IsGoalIn history work next.items) goals
goals_inside history work goals n k base step =
    let P : Vec TermId Global → Type 0 = λ next. IsGoalIn history work next.items in
    subst (All P) (sym k.are)
    (All-cons P k.base (k.step ∷ []) (one_in history work k.base.items n.base k.base_is base) (All-cons P k.step [] (one_in history work k.step.items n.step k.step_is step) (All-nil P)))

-- they are those of an induction by these calls
pub induction_told : (h : History) (bank : Content) (calls goal : List Term) (n : Nexts) (told : Option (Vec (Vec TermId Global) Global)) → found.IsInductionBy h calls goal (term_at bank n.base) (term_at bank n.step)
    → IfSome told (λ goals. goals_at bank goals.items ≡ (term_at bank n.base ∷ []) ∷ (term_at bank n.step ∷ []) ∷ []) → IfSome told (λ goals. legal.IsInductionBy h calls goal (goals_at bank goals.items))
induction_told h bank calls goal n None i told = tt
induction_told h bank calls goal n (Some goals) i told = record { scheme = i.scheme; suggested = i.suggested; next = told ∙ i.next }
