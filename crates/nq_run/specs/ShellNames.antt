-- The names of a shell, over a bank.
use Rattle.std.specs.Prelude.{List, [], ◌∷◌, ◌++◌, map, None, Option, Some}
use Rattle.nq_bank.specs.declared.node.Sym.{Sym}
use Rattle.nq_bank.specs.declared.shell.Shell.{Shell}

abbrev pub base_name : Option Sym → List Sym
base_name None = []
base_name (Some s) = s ∷ []

-- constructor, base, recognizer and accessors
abbrev pub names_in : Shell → List Sym
names_in shell = shell.constructor ∷ (base_name shell.base ++ (shell.recognizer ∷ map (λ part. part.accessor) shell.parts.items))
