-- The names of a shell, and what an answer of the test of a shell tells.
use Rattle.std.specs.Prelude.{◌≡◌, ℕ, Bool, List, ◌∷◌, Option, Some, None, Result, Ok, Err}
use Rattle.nq_logic.specs.Terms.{Name, Each}
use Rattle.nq_logic.specs.Histories.{Part, Shell, base_symbols, accessor_symbols}
use Rattle.nq_logic.specs.Names.{symbol_names, has_name}
use Rattle.nq_logic.specs.ShellPrinciple.{shell_names, ShellRefusal, InUse, Repeated, Unknown, Bad, Full}
use Rattle.nq_bank.specs.declared.node.Sym.{Sym}
use Rattle.nq_bank.specs.Content.{Content, text_at}
use Rattle.nq_bank.specs.Shells.{texts_at}
use Rattle.nq_shell.specs.declared.admission.ShellFault.{ShellFault}
use Rattle.nq_shell.specs.declared.admission.ShellFault.TheVariants.{NameInUse, RepeatedName, UnknownRecognizer, BadDefault, TooManyShells}

abbrev pub base_names : Option Name → List Name
base_names base = symbol_names (base_symbols base)

abbrev pub accessors : List Part → List Name
accessors parts = symbol_names (accessor_symbols parts)

-- the recognizer and the accessors
abbrev pub last_names : Shell → List Name
last_names s = s.recognizer ∷ accessors s.parts

-- the name is one of those that are told to be in use
abbrev pub is_used : Content → List Sym → Name → Bool
is_used bank used name = has_name name (texts_at bank used)

-- of the names of the shell, just these are in use by the test
pub record AreUsed (bank : Content) (used : List Sym) (in_use : List ℕ → Bool) (s : Shell) : Type 0 where
  pub told : Each (λ name. in_use name ≡ is_used bank used name) (shell_names s)

abbrev pub refusal_at : Content → ShellFault → ShellRefusal
refusal_at bank (NameInUse s) = InUse (text_at bank s)
refusal_at bank (RepeatedName s) = Repeated (text_at bank s)
refusal_at bank (UnknownRecognizer s) = Unknown (text_at bank s)
refusal_at bank (BadDefault s) = Bad (text_at bank s)
refusal_at bank TooManyShells = Full

-- what an answer refuses
abbrev pub answer_at : {X : Type 0} → Content → Result X ShellFault → Option ShellRefusal
answer_at bank (Ok x) = None
answer_at bank (Err fault) = Some (refusal_at bank fault)
