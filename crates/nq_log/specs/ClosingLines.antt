-- The lines that end a block, each with what it claims, and the two kinds of lines that only they use.
use Rattle.std.specs.Prelude.{ℕ, ◌^◌, ◌==◌, nat_lt, nat_le, Bool, true, false, ◌&&◌, not, if◌then◌else◌, List, [], ◌∷◌, ◌++◌, length, Option, Some, None, is_none, is_some, bytes_eq, codes}
use Rattle.nq_logtext.specs.Reading.{◌>>=◌}
use Rattle.nq_logtext.specs.Fields.{Field, number, name, mode}
use Rattle.nq_logtext.specs.declared.line.Mode.{Mode}
use Rattle.nq_logtext.specs.declared.line.Mode.TheVariants as mode_of
use Rattle.nq_logic.specs.Terms.{Name, Term, substituted}
use Rattle.nq_logic.specs.Words.{call1}
use Rattle.nq_logic.specs.Histories.{History, AddShell, Declaration, Defines, Axiom, Lemma, Toggle, Shell, Part, Definition, Restriction, OneOf, NoneOf}
use Rattle.nq_logic.specs.Admissible.{mentions, has_variables, Call, calls_of, matched, obligation}
use Rattle.nq_proof.specs.Rules.{has_only}
use Rattle.nq_logic.specs.Names.{are_distinct, is_in_use, event_in, looked_up}
use Rattle.nq_logic.specs.ShellPrinciple.{shells_of, listed, shell_refusal}
use Rattle.nq_log.specs.Sizes.{is_small}
use Rattle.nq_log.specs.States.{is_empty, MeasureLine, Block, State, Claim, Grounded, Adds, Undoes, term_at, variables_at, clause_at, has_line, have_lines, has_term_at, only_when}
use Rattle.nq_log.specs.Fields.{numbers_in, names_in}

abbrev pub restriction_of : Mode → List Name → Restriction
restriction_of mode_of.OneOf rs = OneOf rs
restriction_of mode_of.NoneOf rs = NoneOf rs

-- PART a mode dv r1 ... rk: waits for its shell, which judges it
abbrev pub part_line : State → List Field → Option Block
part_line s (name a ∷ mode m ∷ name d ∷ fields) =
    names_in fields >>= λ rs. Some (record s.block { parts = s.block.parts ++ (record { accessor = a; restriction = restriction_of m rs; default = d } ∷ []) })
part_line s fields = None

-- MEASURE m o r1 ... rk: the numbers stand; the definition on the next line judges the rest
abbrev pub measure_line : State → List Field → Option Block
measure_line s (number m ∷ number o ∷ fields) =
    numbers_in fields >>= λ rs.
    only_when (has_term_at s.block m && has_line s.block o && have_lines s.block rs) (record s.block { measure = Some (record { measure = m; ordinal = o; falls = rs }) })
measure_line s fields = None

-- whether the history may have one more event
abbrev pub has_room : History → Bool
has_room h = nat_lt (length h) 10000

-- whether the block introduces no function, and no line of it waits for a shell or an induction
abbrev pub is_plain : Block → Bool
is_plain block = is_none block.introduced && is_empty block.parts && is_empty block.cases

-- whether the name may be that of a new event after the block
abbrev pub is_free : State → Name → Bool
is_free s n = is_plain s.block && has_room s.history && not (is_in_use n s.history)

-- BOOT-STRAP: the ground history
abbrev pub bootstrap_claim : State → List Field → Option Claim
bootstrap_claim s [] = only_when (is_plain s.block) Grounded
bootstrap_claim s (f ∷ fields) = None

-- NIL stands for no base
abbrev pub base_of : Name → Option Name
base_of b = if bytes_eq b (codes "NIL") then None else Some b

abbrev pub added_shell : Block → Name → Name → Name → Shell
added_shell block c b r = record { constructor = c; base = base_of b; recognizer = r; parts = block.parts }

-- whether no part names more than 100 recognizers
abbrev pub are_short : List Part → Bool
are_short [] = true
are_short (part ∷ parts) = nat_le (length (listed part.restriction)) 100 && are_short parts

-- whether the Shell Principle accepts the shell in the history, and the limits leave room for it
abbrev pub is_shell_ok : History → Shell → Bool
is_shell_ok h s = is_none (shell_refusal (λ name. is_in_use name h) (shells_of h) s) && nat_le (length s.parts) 20 && are_short s.parts

-- SHELL c b r: the Shell Principle's conditions and the limits hold
abbrev pub shell_claim : State → List Field → Option Claim
shell_claim s (name c ∷ name b ∷ name r ∷ []) =
    only_when (is_none s.block.introduced && is_empty s.block.cases && has_room s.history && is_shell_ok s.history (added_shell s.block c b r)) (Adds (AddShell (added_shell s.block c b r)))
shell_claim s fields = None

-- DCL f k: f is not in use, k is below 2^32
abbrev pub declaration_claim : State → List Field → Option Claim
declaration_claim s (name f ∷ number k ∷ []) = only_when (is_free s f && nat_lt k (2 ^ 32)) (Adds (Declaration f k))
declaration_claim s fields = None

-- AXIOMATIZE n t: n is not in use. Lines do not tell rule classes, and no rule of the log depends on them: a claim has none.
abbrev pub axiom_claim : State → List Field → Option Claim
axiom_claim s (name n ∷ number t ∷ []) = term_at s.block t >>= λ t. only_when (is_free s n && is_small t) (Adds (Axiom n [] t))
axiom_claim s fields = None

-- LEMMA n t l: n is not in use; line l has only t
abbrev pub lemma_claim : State → List Field → Option Claim
lemma_claim s (name n ∷ number t ∷ number l ∷ []) =
    term_at s.block t >>= λ t. only_when (is_free s n && is_small t && has_only (clause_at s.block l) (t ∷ [])) (Adds (Lemma n [] t))
lemma_claim s fields = None

-- TOGGLE n old d: n is not in use, old is an event; d is 1 for disabled, else 0
abbrev pub toggle_claim : State → List Field → Option Claim
toggle_claim s (name n ∷ name old ∷ number d ∷ []) = only_when (is_free s n && is_some (looked_up old s.history) && nat_lt d 2) (Adds (Toggle n old (d == 1)))
toggle_claim s fields = None

-- UNDO n: n is an event past the ground history; it and all later ones are gone
abbrev pub undo_claim : State → List Field → Option Claim
undo_claim s (name n ∷ []) = only_when (is_plain s.block && is_some (event_in n s.history)) (Undoes n)
undo_claim s fields = None

-- whether the function that the block introduces, if it does, is this
abbrev pub introduces : Option (Name × ℕ) → Name → ℕ → Bool
introduces None f n = true
introduces (Some s) f n = bytes_eq s.0 f && s.1 == n

-- whether each call has its line, which shows that the measure falls there
abbrev pub are_falls : Block → Name → List Name → Term → List Call → List ℕ → Bool
are_falls block f xs m [] [] = true
are_falls block f xs m [] (r ∷ rs) = false
are_falls block f xs m (c ∷ calls) [] = false
are_falls block f xs m (c ∷ calls) (r ∷ rs) =
    not (mentions f (substituted (matched xs c.arguments) m))
    && has_only (clause_at block r) (obligation f xs m c.tests c.arguments)
    && are_falls block f xs m calls rs

abbrev pub is_measure : Block → Name → List Name → Term → List ℕ → ℕ → Option Term → Bool
is_measure block f xs body rs o None = false
is_measure block f xs body rs o (Some m) =
    has_variables xs m && not (mentions f m) && has_only (clause_at block o) (call1 "ORDINALP" m ∷ []) && are_falls block f xs m (calls_of f body) rs

-- whether there is a measure where the body calls the function, and none elsewhere
abbrev pub is_measured : Block → Name → List Name → Term → Bool → Option MeasureLine → Bool
is_measured block f xs body false None = true
is_measured block f xs body false (Some m) = false
is_measured block f xs body true None = false
is_measured block f xs body true (Some m) = is_measure block f xs body m.falls m.ordinal (term_at block m.measure)

-- the measure that the line before the definition gives, if there is one
abbrev pub given_measure : Block → Option MeasureLine → Option Term
given_measure block None = None
given_measure block (Some line) = term_at block line.measure

abbrev pub new_definition : Block → Name → List Name → Term → Definition
new_definition block f xs body = record { function = f; formals = xs; body = body; measure = given_measure block block.measure }

-- the definition's condition, apart from its names' being free
abbrev pub is_definition : State → Name → List Name → Term → Bool
is_definition s f xs body =
    introduces s.block.introduced f (length xs) && are_distinct xs && has_variables xs body
    && is_measured s.block f xs body (mentions f body) s.block.measure

-- DEFN f b x1 ... xn: f is not in use, n is below 2^32, and the conditions above hold
abbrev pub definition_claim : State → List Field → Option Claim
definition_claim s (name f ∷ number b ∷ fields) =
    term_at s.block b >>= λ body. numbers_in fields >>= λ ns. variables_at s.block ns >>= λ xs.
    only_when (is_empty s.block.parts && is_empty s.block.cases && has_room s.history && not (is_in_use f s.history)
    && nat_lt (length xs) (2 ^ 32) && is_small body && is_definition s f xs body)
    (Adds (Defines (new_definition s.block f xs body)))
definition_claim s fields = None
