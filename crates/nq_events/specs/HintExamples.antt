-- Hints that are refused, and events with what they carry.
use Rattle.std.specs.Prelude.{◌≡◌, true, false, [], ◌∷◌, codes, None, Some}
use Rattle.nq_logic.specs.Histories.{History, Rewrite, Elim, OneOf}
use Rattle.nq_logic.specs.Words.{variable, call1, call2, equal_term, numeral}
use Rattle.nq_logic.specs.Terms.{Term}
use Rattle.nq_events.specs.Events.{AddShell, Dcl, Defn, AddAxiom, ProveLemma, Toggle, Undo}
use Rattle.nq_events.specs.Measures.{tried_measures}
use Rattle.nq_events.specs.Told.{forms_in, history_of, IsRefused, IsAllowed, AsksFor}

-- an axiom that is false
abbrev pub bad_axiom : History
bad_axiom = history_of [] (forms_in "(ADD-AXIOM BAD NIL (EQUAL T F))")

pub record HintsRefused : Type 0 where
  pub unknown : IsRefused [] "(PROVE-LEMMA Q1 NIL (IMPLIES P P) ((GUESS T)))" 22 ("BadHint" ∷ "GUESS" ∷ [])
  -- the first hint of a word that stands twice
  pub twice : IsRefused bad_axiom "(PROVE-LEMMA Q1 NIL T ((USE (BAD)) (GUESS T) (USE (BAD))))" 22 ("BadHint" ∷ "USE" ∷ [])
  pub twice_read : IsRefused bad_axiom "(PROVE-LEMMA Q1 NIL T ((USE (BAD)) (USE (BAD (X (FOO))))))" 10 ("UnknownFunction" ∷ "FOO" ∷ [])
  pub dotted : IsRefused [] "(PROVE-LEMMA Q1 NIL T ((ENABLE . PLUS)))" 22 ("BadHint" ∷ "ENABLE" ∷ [])
  -- the terms of a hint of another shape are not read
  pub shape : IsRefused [] "(PROVE-LEMMA Q1 NIL T ((USE (PLUS (X (FOO) 1)))))" 22 ("BadHint" ∷ "USE" ∷ [])
  pub no_arguments : IsAllowed [] "(PROVE-LEMMA Q1 NIL T ((USE) (ENABLE) (EXPAND) (DISABLE) (HANDS-OFF)))"
  pub one_argument : IsRefused [] "(PROVE-LEMMA Q1 NIL T ((TIME)))" 22 ("BadHint" ∷ "TIME" ∷ [])
  pub one_term : IsRefused [] "(PROVE-LEMMA Q1 NIL T ((INDUCT (FOO) (FOO))))" 22 ("BadHint" ∷ "INDUCT" ∷ [])
  pub used : IsAllowed bad_axiom "(PROVE-LEMMA ANY NIL (EQUAL X Y) ((USE (BAD) (PLUS (X 1) (Y 2)) (BAD (X T)))))"
  pub not_usable : IsRefused [] "(PROVE-LEMMA Q1 NIL T ((USE (CONS (X 1)))))" 22 ("BadHint" ∷ "USE" ∷ [])
  pub replaced_constant : IsRefused [] "(PROVE-LEMMA Q1 NIL T ((USE (PLUS (NIL 1)))))" 22 ("BadHint" ∷ "USE" ∷ [])
  pub replaced_twice : IsRefused [] "(PROVE-LEMMA Q1 NIL T ((USE (PLUS (X 1) (X 1)))))" 22 ("BadHint" ∷ "USE" ∷ [])
  pub no_event : IsRefused [] "(PROVE-LEMMA Q1 NIL T ((DISABLE PLUS CAR)))" 22 ("BadHint" ∷ "DISABLE" ∷ [])
  pub expanded : IsAllowed [] "(PROVE-LEMMA Q1 NIL T ((EXPAND (AND A B C) (PLUS 1 2))))"
  pub not_defined : IsRefused [] "(PROVE-LEMMA Q1 NIL T ((EXPAND (PLUS 1 2) (CADR X))))" 22 ("BadHint" ∷ "EXPAND" ∷ [])
  -- only the formals of the measure count
  pub suggests : IsAllowed [] "(PROVE-LEMMA Q1 NIL T ((INDUCT (PLUS X 1))))"
  pub suggests_twice : IsAllowed [] "(PROVE-LEMMA Q1 NIL T ((INDUCT (PLUS X X))))"
  pub no_variable : IsRefused [] "(PROVE-LEMMA Q1 NIL T ((INDUCT (PLUS 1 X))))" 22 ("BadHint" ∷ "INDUCT" ∷ [])
  pub not_recursive : IsRefused [] "(PROVE-LEMMA Q1 NIL T ((INDUCT (NLISTP X))))" 22 ("BadHint" ∷ "INDUCT" ∷ [])
  -- a suggesting call inside the term isn't enough
  pub inside : IsRefused [] "(PROVE-LEMMA Q1 NIL T ((INDUCT (ADD1 (PLUS X Y)))))" 22 ("BadHint" ∷ "INDUCT" ∷ [])
  pub functions : IsAllowed [] "(PROVE-LEMMA Q1 NIL T ((HANDS-OFF CAR PLUS)))"
  pub no_function : IsRefused [] "(PROVE-LEMMA Q1 NIL T ((HANDS-OFF PLUS FOO)))" 22 ("BadHint" ∷ "HANDS-OFF" ∷ [])
  pub switched_off : IsRefused [] "(PROVE-LEMMA Q1 NIL T ((DO-NOT-INDUCT NIL)))" 22 ("BadHint" ∷ "DO-NOT-INDUCT" ∷ [])

abbrev pub x : Term
x = variable "X"

-- two toggles of one name
abbrev pub switched : History
switched = history_of [] (forms_in "(DISABLE PLUS) (ENABLE PLUS)")

pub record EventsRead : Type 0 where
  pub declared : AsksFor [] "(dcl e (x y))" (Dcl (codes "E") (codes "X" ∷ codes "Y" ∷ []))
  pub defined : AsksFor [] "(DEFN G (X) (ADD1 (G X)) ((ORD-LESSP X) (LESSP (COUNT X))))"
      (Defn (codes "G") (codes "X" ∷ []) (call1 "ADD1" (call1 "G" x))
      (record { relation = codes "ORD-LESSP"; term = x } ∷ record { relation = codes "LESSP"; term = call1 "COUNT" x } ∷ []))
  pub assumed : AsksFor [] "(ADD-AXIOM A (REWRITE ELIM) (EQUAL (FIX X) X))" (AddAxiom (codes "A") (Rewrite ∷ Elim ∷ []) (equal_term (call1 "FIX" x) x))
  pub shell : AsksFor [] "(ADD-SHELL BOX NIL BOXP ((UNBOX (ONE-OF NUMBERP) ZERO)))"
      (AddShell (record {
        constructor = codes "BOX";
        base = None;
        recognizer = codes "BOXP";
        parts = record { accessor = codes "UNBOX"; restriction = OneOf (codes "NUMBERP" ∷ []); default = codes "ZERO" } ∷ [];
      }))
  pub lemma : AsksFor bad_axiom "(PROVE-LEMMA L NIL (EQUAL X Y) ((USE (BAD (X 1))) (DISABLE PLUS) (INDUCT (PLUS X Y)) (DO-NOT-GENERALIZE T) (TIME 5)))"
      (ProveLemma (codes "L") [] (equal_term x (variable "Y")) (record {
        instances = record { name = codes "BAD"; pairs = (codes "X", numeral 1) ∷ [] } ∷ [];
        enable = [];
        disable = codes "PLUS" ∷ [];
        expand = [];
        induct = Some (call2 "PLUS" x (variable "Y"));
        hands_off = [];
        no_induct = false;
        no_generalize = true;
        no_arith = false;
      }))
  pub disabled : AsksFor [] "(TOGGLE OFF PLUS T)" (Toggle (codes "OFF") (codes "PLUS") true)
  pub enabled : AsksFor [] "(TOGGLE OFF PLUS NIL)" (Toggle (codes "OFF") (codes "PLUS") false)
  -- the flag () is NIL
  pub empty_flag : AsksFor [] "(TOGGLE OFF PLUS ())" (Toggle (codes "OFF") (codes "PLUS") false)
  pub made_up : AsksFor [] "(ENABLE PLUS)" (Toggle (codes "PLUS-ON") (codes "PLUS") false)
  -- a numeral without a separator where the name is in use
  pub numbered : AsksFor switched "(DISABLE PLUS)" (Toggle (codes "PLUS-OFF1") (codes "PLUS") true)
  pub undone : AsksFor switched "(UNDO-BACK-THROUGH PLUS-ON)" (Undo (codes "PLUS-ON"))

-- the measures that are tried of (DEFN LEN (L X) .. ((LESSP (COUNT L)) (ORD-LESSP X)))
pub record MeasuresTried : Type 0 where
  pub hinted :
      tried_measures (codes "L" ∷ codes "X" ∷ []) (record { relation = codes "LESSP"; term = call1 "COUNT" (variable "L") } ∷ record { relation = codes "ORD-LESSP"; term = x } ∷ [])
      ≡ (call1 "FIX" (call1 "COUNT" (variable "L")) ∷ x ∷ call1 "COUNT" (variable "L") ∷ call1 "COUNT" x ∷ [])
