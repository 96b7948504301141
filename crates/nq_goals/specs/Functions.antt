-- What the functions of a history are: of shells, or defined with or without recursion.
use Rattle.std.specs.Prelude.{Bool, false, ◌&&◌, ◌||◌, not, List, [], ◌∷◌, ◌++◌, map, Option, Some, None, bytes_eq, codes}
use Rattle.nq_logic.specs.Terms.{Name, Term}
use Rattle.nq_logic.specs.Histories.{History, Shell, Definition}
use Rattle.nq_logic.specs.Names.{has_name}
use Rattle.nq_logic.specs.ShellPrinciple.{shells_of, recognizers}
use Rattle.nq_events.specs.Inductions.{head_of, opened_by}
use Rattle.nq_events.specs.Events.{Hints}
use Rattle.nq_goals.specs.Hints.{is_enabled_for}
use Rattle.nq_goals.specs.Recursion.{is_recursive_definition}

abbrev pub constructors : List Shell → List Name
constructors shells = map (λ s. s.constructor) shells

abbrev pub accessors : List Shell → List Name
accessors [] = []
accessors (s ∷ shells) = map (λ part. part.accessor) s.parts ++ accessors shells

abbrev pub base_before : Option Name → List Name → List Name
base_before None bs = bs
base_before (Some b) bs = b ∷ bs

abbrev pub bases : List Shell → List Name
bases [] = []
bases (s ∷ shells) = base_before s.base (bases shells)

abbrev pub is_name_among : List Name → Option Name → Bool
is_name_among names None = false
is_name_among names (Some f) = has_name f names

-- whether the term is a call of one of these functions
abbrev pub is_call_among : List Name → Term → Bool
is_call_among names t = is_name_among names (head_of t)

-- an accessor or a recognizer of a shell of the ground history or of h
abbrev pub is_shell_test : History → Name → Bool
is_shell_test h f = has_name f (accessors (shells_of h)) || has_name f (recognizers (shells_of h))

-- a call of a constructor, a base, T or F
abbrev pub is_built : History → Term → Bool
is_built h t =
    is_call_among (constructors (shells_of h)) t || is_call_among (bases (shells_of h)) t || is_call_among (codes "TRUE" ∷ codes "FALSE" ∷ []) t

abbrev pub is_plain_opening : History → Hints → Option Definition → Bool
is_plain_opening h hints None = false
is_plain_opening h hints (Some d) =
    not (is_recursive_definition d) && not (bytes_eq d.function (codes "NOT")) && is_enabled_for h hints d.function && not (has_name d.function hints.hands_off)

-- a call of an enabled nonrecursive defined function, other than NOT, that HANDS-OFF doesn't name
abbrev pub is_openable : History → Hints → Term → Bool
is_openable h hints t = is_plain_opening h hints (opened_by h t)

-- the functions of propositions
abbrev pub propositional : List Name
propositional = codes "IF" ∷ codes "NOT" ∷ codes "AND" ∷ codes "OR" ∷ codes "IMPLIES" ∷ codes "IFF" ∷ []
