-- Names in use, events by name, and names that toggles enable and disable.
use Rattle.std.specs.Prelude.{◌≡◌, Bool, true, false, List, [], ◌∷◌, map, codes, Some, None}
use Prim.Native.String.{String as Text}
use Rattle.nq_logic.specs.Words.{true_term}
use Rattle.nq_logic.specs.Histories.{History, Event, AddShell, Declaration, Defines, Axiom, Lemma, Toggle}
use Rattle.nq_logic.specs.Ground.{truth_definition}
use Rattle.nq_logic.specs.Names.{is_in_use, is_reserved, is_nest, is_enabled, is_enabled_for, looked_up, before_event}
use Rattle.nq_logic.specs.ShellTable.{stacks}

abbrev nests : List Text → List Bool
nests names = map (λ n. is_nest (codes n)) names

abbrev used_in : History → List Text → List Bool
used_in h names = map (λ n. is_in_use (codes n) h) names

-- names that are in use in every history, and such as are not
pub record NamesInUse : Type 0 where
  pub ground : used_in [] ("TRUE" ∷ "PLUS" ∷ "LITATOM" ∷ "ZERO" ∷ "CAR" ∷ "CDR" ∷ []) ≡ (true ∷ true ∷ true ∷ true ∷ true ∷ true ∷ [])
  pub constants : used_in [] ("T" ∷ "F" ∷ "NIL" ∷ []) ≡ (true ∷ true ∷ true ∷ [])
  pub abbreviations : used_in [] ("QUOTE" ∷ "LIST" ∷ "COND" ∷ "CASE" ∷ "LET" ∷ "OTHERWISE" ∷ []) ≡ (true ∷ true ∷ true ∷ true ∷ true ∷ true ∷ [])
  pub left_out : used_in [] ("V&C$" ∷ "EVAL$" ∷ "APPLY$" ∷ "SUBRP" ∷ "BODY" ∷ "FORMALS" ∷ "FOR" ∷ []) ≡ (true ∷ true ∷ true ∷ true ∷ true ∷ true ∷ true ∷ [])
  pub nest : nests ("CADR" ∷ "CAAR" ∷ "CDDDAR" ∷ []) ≡ (true ∷ true ∷ true ∷ [])
  pub no_nest : nests ("CAR" ∷ "CR" ∷ "CADRA" ∷ "CAXR" ∷ "ADR" ∷ "CADR1" ∷ "CAD" ∷ []) ≡ (false ∷ false ∷ false ∷ false ∷ false ∷ false ∷ false ∷ [])
  pub single : is_reserved (codes "CAR") ≡ false
  pub other : used_in [] ("DOUBLE" ∷ "PUSH" ∷ "CADDR1" ∷ []) ≡ (false ∷ false ∷ false ∷ [])
  pub shell : used_in (AddShell stacks ∷ []) ("PUSH" ∷ "EMPTY" ∷ "STACKP" ∷ "TOP" ∷ "POP" ∷ "PEEK" ∷ []) ≡ (true ∷ true ∷ true ∷ true ∷ true ∷ false ∷ [])
  pub events : used_in (Axiom (codes "A1") [] true_term ∷ Lemma (codes "L1") [] true_term ∷ Toggle (codes "OFF") (codes "L1") true ∷ Declaration (codes "E") 1 ∷ []) ("A1" ∷ "L1" ∷ "OFF" ∷ "E" ∷ "A2" ∷ [])
      ≡ (true ∷ true ∷ true ∷ true ∷ false ∷ [])

-- a history with two toggles of one name
abbrev off : Event
off = Toggle (codes "OFF") (codes "PLUS") true

abbrev on : Event
on = Toggle (codes "ON") (codes "PLUS") false

-- the last toggle tells; by its hints an event disables more than it enables
pub record NamesEnabled : Type 0 where
  pub first : is_enabled (codes "PLUS") [] ≡ true
  pub toggled : is_enabled (codes "PLUS") (off ∷ []) ≡ false
  pub again : is_enabled (codes "PLUS") (off ∷ on ∷ []) ≡ true
  pub last : is_enabled (codes "PLUS") (on ∷ off ∷ []) ≡ false
  pub other : is_enabled (codes "TIMES") (off ∷ []) ≡ true
  pub hinted : is_enabled_for (codes "PLUS" ∷ []) [] (codes "PLUS") (off ∷ []) ≡ true
  pub hinted_off : is_enabled_for [] (codes "PLUS" ∷ []) (codes "PLUS") [] ≡ false
  pub hinted_both : is_enabled_for (codes "PLUS" ∷ []) (codes "PLUS" ∷ []) (codes "PLUS") [] ≡ false
  pub not_hinted : is_enabled_for [] [] (codes "PLUS") (off ∷ []) ≡ false

-- events by name, and what an undo leaves
pub record EventsFound : Type 0 where
  pub definition : looked_up (codes "TRUEP") [] ≡ Some (Defines truth_definition)
  pub shell : looked_up (codes "PUSH") (off ∷ AddShell stacks ∷ []) ≡ Some (AddShell stacks)
  pub accessor : looked_up (codes "TOP") (AddShell stacks ∷ []) ≡ None
  pub toggle : looked_up (codes "OFF") (off ∷ []) ≡ Some off
  pub none : looked_up (codes "PUSH") [] ≡ None
  pub undone : before_event (codes "ON") (AddShell stacks ∷ off ∷ on ∷ off ∷ []) ≡ (AddShell stacks ∷ off ∷ [])
