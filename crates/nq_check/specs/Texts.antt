-- What a checker writes: a line for each claim, and then the verdict.
use Rattle.std.specs.Prelude.{ℕ, List, [], ◌∷◌, ◌++◌, map, length, codes, decimal}
use Rattle.std.specs.List.{flat_map}
use Rattle.nq_logic.specs.Terms.{Variable, call}
use Rattle.nq_logic.specs.Words.{equal_term}
use Rattle.nq_logic.specs.Histories.{Event, AddShell, Declaration, Defines, Axiom, Lemma, Toggle}
use Rattle.nq_language.specs.Printing.{printed}
use Rattle.nq_log.specs.States.{Claim, Grounded, Adds, Undoes}
use Rattle.nq_log.specs.Logs.{Reason, Malformed, NotAllowed, UnexpectedEnd, Ending, Right, Wrong, Reading}

abbrev pub event_text : Event → List ℕ
event_text (AddShell s) = codes "SHELL " ++ s.constructor
event_text (Declaration f n) = codes "DCL " ++ f
event_text (Defines d) = codes "DEFN " ++ (d.function ++ (codes ": " ++ printed (equal_term (call d.function (map Variable d.formals)) d.body)))
event_text (Axiom n classes t) = codes "AXIOM " ++ (n ++ (codes ": " ++ printed t))
event_text (Lemma n classes t) = codes "LEMMA " ++ (n ++ (codes ": " ++ printed t))
event_text (Toggle n old disabled) = codes "TOGGLE " ++ n

abbrev pub claim_text : Claim → List ℕ
claim_text Grounded = codes "BOOT-STRAP"
claim_text (Adds e) = event_text e
claim_text (Undoes n) = codes "UNDO " ++ n

-- the lines of the claims
abbrev pub claims_text : List Claim → List ℕ
claims_text claims = flat_map (λ c. claim_text c ++ (10 ∷ [])) claims

abbrev pub reason_text : Reason → List ℕ
reason_text Malformed = codes "malformed"
reason_text NotAllowed = codes "not allowed"
reason_text UnexpectedEnd = codes "unexpected end"

abbrev pub accepted_text : ℕ → List ℕ
accepted_text claims = codes "Accepted, " ++ (decimal claims ++ (codes " claims." ++ (10 ∷ [])))

abbrev pub refused_text : ℕ → Reason → List ℕ
refused_text line reason = codes "Refused, line " ++ (decimal line ++ (codes ": " ++ (reason_text reason ++ (codes "." ++ (10 ∷ [])))))

-- the verdict on a text with so many claims
abbrev pub verdict_text : ℕ → Ending → List ℕ
verdict_text claims Right = accepted_text claims
verdict_text claims (Wrong line reason) = refused_text line reason

-- the lines of the claims, and then the verdict
abbrev pub output_of : Reading → List ℕ
output_of reading = claims_text reading.claims ++ verdict_text (length reading.claims) reading.ending
