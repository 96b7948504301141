-- How much is left to do falls with each turn, and the calls that are left never rise.
use Rattle.std.proofs.Common.{◌≡◌, ◌≤◌, ◌<◌, ◌+◌, ℕ, zero, suc, Bool, true, false, List, [], ◌∷◌, length, get_or, drop, refl, ap, ◌∙◌, arith}
use Rattle.std.specs.Prelude.{Result, Ok, Err, IfOk}
use Rattle.nq_logic.specs.Terms.{Name, Term, Variable, Function, Applied, applied, call}
use Rattle.nq_logic.specs.Words.{if_term}
use Rattle.nq_bank.specs.declared.node.TermId.{TermId}
use Rattle.nq_bank.specs.Content.{Content, term_at, terms_at}
use Rattle.nq_rule.specs.declared.branching.Branches.{Branches}
use Rattle.nq_eval.specs.Sides.{side_if}
use Rattle.nq_eval.specs.declared.frames.Request.{Request}
use Rattle.nq_eval.specs.declared.frames.Wait.{Wait}
use Rattle.nq_eval.specs.declared.frames.Wait.TheVariants as wait
use Rattle.nq_eval.specs.declared.frames.Frame.{Frame}
use Rattle.nq_eval.specs.Frames.{CanWait, turn_of, turn_at}
use Rattle.nq_history.specs.declared.entry.Entry.{Entry}
use Rattle.nq_kernel.specs.declared.work.Work.{Work}
use Rattle.nq_eval.specs.declared.frames.Step.{Step}
use Rattle.nq_eval.specs.Weights.{term_weight, terms_weight, wait_weight, turn_left, step_weight, step_left, Leads}

-- a turn to look at a term, and one to give what was found for it
pub two_turns : (t : Term) → 2 ≤ term_weight t
unfolding term_weight
two_turns (Variable x) = omega arith
two_turns (Function f) = omega arith
two_turns (Applied t u) = omega arith

applied_weight : (t : Term) (us : List Term) → term_weight t + terms_weight us ≤ term_weight (applied t us)
unfolding term_weight
applied_weight t [] = omega arith
applied_weight t (u ∷ us) = let more = applied_weight (Applied t u) us in omega (arith, more)

-- a call has more to look at than its arguments
pub call_weight : (f : Name) (ts : List Term) → terms_weight ts + 2 ≤ term_weight (call f ts)
unfolding term_weight
call_weight f ts = let more = applied_weight (Function f) ts in omega (arith, more)

-- an IF has more to look at than its parts
pub choice_weight : (p x y : Term) → term_weight p + term_weight x + term_weight y + 3 ≤ term_weight (if_term p x y)
unfolding term_weight
choice_weight p x y = omega arith

-- the next argument, and those after it
pub next_weight : (bank : Content) (ids : List TermId) (i : ℕ) (d : TermId) → i < length ids → terms_weight (terms_at bank (drop i ids)) ≡ term_weight (term_at bank (get_or ids i d)) + terms_weight (terms_at bank (drop (i + 1) ids))
next_weight bank [] i d below = absurd (omega arith)
next_weight bank (a ∷ ids) zero d below = refl
next_weight bank (a ∷ ids) (suc i) d below =
    let same : suc (i + 1) ≡ suc i + 1 = omega arith in
    next_weight bank ids i d (omega arith) ∙ ap (λ n. term_weight (term_at bank (get_or ids i d)) + terms_weight (terms_at bank (drop n (a ∷ ids)))) same

-- a side is one of the two
pub side_weight : (bank : Content) (parts : Branches) (b : Bool) → term_weight (term_at bank (side_if b parts)) ≤ term_weight (term_at bank parts.first) + term_weight (term_at bank parts.second)
side_weight bank parts true = omega arith
side_weight bank parts false = omega arith

some_weight : (bank : Content) (w : Wait) → 1 ≤ wait_weight bank w
some_weight bank (wait.Argument g) = omega arith
some_weight bank (wait.Test parts) = omega arith
some_weight bank (wait.Side c) = omega arith
some_weight bank (wait.Body e) = omega arith

-- what was found is less than what was waited for
pub found_weight : (bank : Content) (w : Wait) → 1 < wait_weight bank w + 1
found_weight bank w = let some = some_weight bank w in omega (arith, some)

turn_fewer : (r : Request) (w : Wait) → CanWait r w → turn_left (turn_at r w) ≤ r.calls
turn_fewer r (wait.Argument g) can = omega arith
turn_fewer r (wait.Test parts) can = omega arith
turn_fewer r (wait.Side c) can = omega arith
turn_fewer r (wait.Body e) can = let few : e.used < r.calls = can.1 in omega (arith, few)

-- a part has no more calls left than the whole
pub frame_fewer : (f : Frame) → CanWait f.request f.wait → turn_left (turn_of f) ≤ f.request.calls
frame_fewer f can = turn_fewer f.request f.wait can

-- a step of less weight and with fewer calls left is one of more
pub lead_less : (history : List Entry) (work : Work) (r : Request) (weight more left most : ℕ) (s : Step) → weight ≤ more → left ≤ most → Leads history work r weight left s → Leads history work r more most s
lead_less history work r weight more left most s h j k =
    let lighter : step_weight work.bank s < weight = k.lighter in
    let fewer : step_left r s ≤ left = k.fewer in
    record { stands = k.stands; lighter = omega (arith, lighter, h); fewer = omega (arith, fewer, j) }

pub lead_less_ok : {E : Type 0} (history : List Entry) (work : Work) (r : Request) (weight more left most : ℕ) (s : Result Step E) → weight ≤ more → left ≤ most → IfOk s (Leads history work r weight left) → IfOk s (Leads history work r more most)
lead_less_ok history work r weight more left most (Ok s) h j k = lead_less history work r weight more left most s h j k
lead_less_ok history work r weight more left most (Err e) h j k = tt
