-- What the claims of a log say, and that they hold.
use Rattle.std.specs.Prelude.{◌≡◌, ℕ, false, List, [], ◌∷◌, Option, Some, ⊤}
use Rattle.nq_logtext.specs.Lines.{Line}
use Rattle.nq_logic.specs.Terms.{IsTerm}
use Rattle.nq_logic.specs.Formulas.{holds}
use Rattle.nq_logic.specs.Histories.{History, Event, AddShell, Declaration, Defines, Axiom, Lemma, Toggle}
use Rattle.nq_logic.specs.Ground.{symbols_of}
use Rattle.nq_logic.specs.Names.{event_name, is_in_use}
use Rattle.nq_logic.specs.Derivations.{Derivable}
use Rattle.nq_logic.specs.Admissible.{IsAdmissible}
use Rattle.nq_logic.specs.ShellPrinciple.{IsShellAcceptedIn}
use Rattle.nq_logic.specs.Classes.{without_classes}
use Rattle.nq_log.specs.States.{Block, State, Claim, Grounded, Adds, Undoes, Step, after_claim}
use Rattle.nq_log.specs.Logs.{step, reading_by, claims_of}

-- What stands behind an event that is added to the history: a shell meets the Shell Principle, a definition the Definition
-- Principle, and a lemma is derivable.
abbrev pub EventHolds : History → Event → Type 0
EventHolds h (AddShell s) = IsShellAcceptedIn h s
EventHolds h (Declaration f n) = ⊤
EventHolds h (Defines d) = IsAdmissible h d
EventHolds h (Axiom n classes t) = IsTerm (symbols_of h) t
EventHolds h (Lemma n classes t) = Derivable h (holds t)
EventHolds h (Toggle n old disabled) = ⊤

-- what stands behind a claim: a new event has a new name, and holds
abbrev pub ClaimHolds : History → Claim → Type 0
ClaimHolds h Grounded = ⊤
ClaimHolds h (Adds e) = (is_in_use (event_name e) h ≡ false) × EventHolds h e
ClaimHolds h (Undoes n) = ⊤

-- each claim holds in the history that the claims before it make
abbrev pub ClaimsHold : History → List Claim → Type 0
ClaimsHold h [] = ⊤
ClaimsHold h (c ∷ claims) = ClaimHolds h c × ClaimsHold (after_claim h c) claims

-- each event of the history holds in the history before it; the second list is what follows the first
abbrev pub HoldFrom : History → History → Type 0
HoldFrom before [] = ⊤
HoldFrom before (e ∷ h) = EventHolds before e × HoldFrom (after_claim before (Adds e)) h

abbrev pub IsSound : History → Type 0
IsSound h = HoldFrom [] h

-- Whatever text is read as a log, whether or not it is right to its end, each of its claims before the first wrong line
-- holds in the history that the claims before it make.
abbrev pub RightClaims : Type 0
RightClaims = (text : List ℕ) → ClaimsHold [] (claims_of text)

-- what is allowed leads where it leads in a log
abbrev pub Narrows : (State → Line → Option Step) → Type 0
Narrows next = (s : State) (line : Line) (taken : Step) → next s line ≡ Some taken → step s line ≡ Some taken

-- so it is where fewer lines are allowed
abbrev pub NarrowClaims : Type 0
NarrowClaims = (next : State → Line → Option Step) → Narrows next → (text : List ℕ) → ClaimsHold [] (reading_by next text).claims

-- rule classes change nothing of what a line leads to
abbrev pub StepsIgnoreClasses : Type 0
StepsIgnoreClasses = (h : History) (block : Block) (line : Line) → step (record { history = without_classes h; block = block }) line ≡ step (record { history = h; block = block }) line
