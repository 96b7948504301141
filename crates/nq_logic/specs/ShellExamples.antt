-- Shells that are accepted after the ground shells, and others with the refusal of each.
use Prim.Native.String.{String as Text}
use Rattle.std.specs.Prelude.{◌≡◌, List, [], ◌∷◌, map, replicate, codes, Option, Some, None}
use Rattle.nq_logic.specs.Terms.{Name}
use Rattle.nq_logic.specs.Histories.{Shell, Part, OneOf, NoneOf, History, AddShell}
use Rattle.nq_logic.specs.Ground.{numbers}
use Rattle.nq_logic.specs.Names.{is_in_use}
use Rattle.nq_logic.specs.ShellPrinciple.{ShellRefusal, InUse, Repeated, Unknown, Bad, Full, shell_refusal, shells_of}
use Rattle.nq_logic.specs.ShellTable.{stacks}

-- the refusal of a shell after this history
abbrev refusal_in : History → Shell → Option ShellRefusal
refusal_in h s = shell_refusal (λ n. is_in_use n h) (shells_of h) s

-- a part whose recognizers are listed, and one of which these do not hold
abbrev one_of : Text → List Text → Text → Part
one_of a rs d = record { accessor = codes a; restriction = OneOf (map codes rs); default = codes d }

abbrev none_of : Text → List Text → Text → Part
none_of a rs d = record { accessor = codes a; restriction = NoneOf (map codes rs); default = codes d }

-- a shell with a base, and one without
abbrev based : Text → Text → Text → List Part → Shell
based c b r parts = record { constructor = codes c; base = Some (codes b); recognizer = codes r; parts = parts }

abbrev baseless : Text → Text → List Part → Shell
baseless c r parts = record { constructor = codes c; base = None; recognizer = codes r; parts = parts }

abbrev refused_for : (Name → ShellRefusal) → Text → Option ShellRefusal
refused_for why n = Some (why (codes n))

pub record ShellsAccepted : Type 0 where
  pub number_stacks : refusal_in [] (based "PUSH" "EMPTY-STACK" "STACKP" (one_of "TOP" ("NUMBERP" ∷ []) "ZERO" ∷ one_of "POP" ("STACKP" ∷ []) "EMPTY-STACK" ∷ [])) ≡ None
  pub without_parts : refusal_in [] (baseless "MARK" "MARKP" []) ≡ None
  pub constants : refusal_in [] (baseless "BOX" "BOXP" (one_of "A" ("TRUEP" ∷ []) "TRUE" ∷ none_of "B" ("TRUEP" ∷ []) "FALSE" ∷ none_of "C" [] "ZERO" ∷ [])) ≡ None
  pub earlier_base : refusal_in (AddShell stacks ∷ []) (baseless "BOX" "BOXP" (one_of "UNBOX" ("STACKP" ∷ []) "EMPTY" ∷ [])) ≡ None

pub record ShellsRefusedFor : Type 0 where
  pub no_base_of_lists : refusal_in [] (baseless "BOX" "BOXP" (one_of "UNBOX" ("LISTP" ∷ []) "ZERO" ∷ [])) ≡ refused_for Bad "ZERO"
  pub unknown : refusal_in [] (baseless "BOX" "BOXP" (one_of "UNBOX" ("FOOP" ∷ []) "ZERO" ∷ [])) ≡ refused_for Unknown "FOOP"
  pub later_unknown : refusal_in [] (baseless "BOX" "BOXP" (one_of "A" ("NUMBERP" ∷ []) "CONS" ∷ none_of "B" ("LISTP" ∷ "FOOP" ∷ "BARP" ∷ []) "ZERO" ∷ [])) ≡ refused_for Unknown "FOOP"
  pub constructor_used : refusal_in [] (baseless "CONS" "BOXP" []) ≡ refused_for InUse "CONS"
  pub accessor_used : refusal_in [] (baseless "BOX" "BOXP" (one_of "A" ("FOOP" ∷ []) "ZERO" ∷ none_of "CADR" [] "ZERO" ∷ [])) ≡ refused_for InUse "CADR"
  pub base_used : refusal_in [] (based "BOX" "T" "NUMBERP" []) ≡ refused_for InUse "T"
  pub repeated : refusal_in [] (based "A" "B" "B" (none_of "A" [] "ZERO" ∷ [])) ≡ refused_for Repeated "A"
  pub no_constant : refusal_in [] (baseless "BOX" "BOXP" (none_of "A" [] "BOX" ∷ [])) ≡ refused_for Bad "BOX"
  pub excluded : refusal_in [] (baseless "BOX" "BOXP" (none_of "A" ("LISTP" ∷ "NUMBERP" ∷ []) "ZERO" ∷ [])) ≡ refused_for Bad "ZERO"
  pub nothing_allowed : refusal_in [] (baseless "BOX" "BOXP" (one_of "A" [] "TRUE" ∷ [])) ≡ refused_for Bad "TRUE"
  pub own_base_elsewhere : refusal_in [] (based "BOX" "NO-BOX" "BOXP" (one_of "A" ("NUMBERP" ∷ []) "NO-BOX" ∷ [])) ≡ refused_for Bad "NO-BOX"
  pub full : shell_refusal (λ n. is_in_use n []) (replicate 30 numbers) (baseless "BOX" "BOXP" []) ≡ Some Full
  pub last_room : shell_refusal (λ n. is_in_use n []) (replicate 29 numbers) (baseless "BOX" "BOXP" []) ≡ None
