-- Why a form is refused: with its code and its words.
use Prim.Native.String.{String as Text}
use Rattle.std.specs.Prelude.{ℕ, List, [], ◌∷◌, codes}
use Rattle.nq_logic.specs.Terms.{Name}
use Rattle.nq_logic.specs.Histories.{RuleClass, Rewrite, Elim, Generalize}
use Rattle.nq_logic.specs.ShellPrinciple.{ShellRefusal, InUse, Repeated, Unknown, Bad, Full}
use Rattle.nq_language.specs.Refusals as language

-- the part of an event that has a wrong shape
pub data Part : Type 0 where
  WholeForm : Part
  NamePart : Part
  FormalsPart : Part
  TypesPart : Part
  MeasurePart : Part
  HintsPart : Part
  PartsPart : Part

pub data Refusal : Type 0 where
  -- a term, a word or a type that the language refuses
  OfLanguage : (refusal : language.Refusal) → Refusal
  NotAnEvent : Refusal
  BadShape : (part : Part) → Refusal
  BadHint : (word : List ℕ) → Refusal
  NoSuchEvent : (name : List ℕ) → Refusal
  GroundEvent : (name : List ℕ) → Refusal
  NameInUse : (name : List ℕ) → Refusal
  TooManyEvents : Refusal
  OfShell : (refusal : ShellRefusal) → Refusal
  NotOfShape : (class : RuleClass) → Refusal
  -- of a definition
  FunctionInUse : (name : List ℕ) → Refusal
  RepeatedFormal : (name : List ℕ) → Refusal
  FreeVariable : (name : List ℕ) → Refusal
  FormalIsConstant : (name : List ℕ) → Refusal
  BadMeasureHint : Refusal

abbrev pub out_of_scope : Name → Refusal
out_of_scope name = OfLanguage (language.OutOfScope name)

abbrev pub shell_code : ShellRefusal → ℕ
shell_code (InUse name) = 40
shell_code (Repeated name) = 41
shell_code (Unknown name) = 42
shell_code (Bad name) = 43
shell_code Full = 44

abbrev pub class_code : RuleClass → ℕ
class_code Rewrite = 50
class_code Elim = 51
class_code Generalize = 52

abbrev pub code_of : Refusal → ℕ
code_of (OfLanguage refusal) = language.code_of refusal
code_of NotAnEvent = 20
code_of (BadShape part) = 21
code_of (BadHint word) = 22
code_of (NoSuchEvent name) = 30
code_of (GroundEvent name) = 31
code_of (NameInUse name) = 32
code_of TooManyEvents = 33
code_of (OfShell refusal) = shell_code refusal
code_of (NotOfShape class) = class_code class
code_of (FunctionInUse name) = 60
code_of (RepeatedFormal name) = 61
code_of (FreeVariable name) = 62
code_of (FormalIsConstant name) = 63
code_of BadMeasureHint = 65

abbrev pub part_word : Part → List ℕ
part_word WholeForm = codes "form"
part_word NamePart = codes "name"
part_word FormalsPart = codes "formals"
part_word TypesPart = codes "types"
part_word MeasurePart = codes "measure"
part_word HintsPart = codes "hints"
part_word PartsPart = codes "parts"

-- one word, and the name that tells more
abbrev pub word_with : Text → Name → List (List ℕ)
word_with word name = codes word ∷ name ∷ []

abbrev pub single_word : Text → List (List ℕ)
single_word word = codes word ∷ []

abbrev pub shell_words : ShellRefusal → List (List ℕ)
shell_words (InUse name) = word_with "NameInUse" name
shell_words (Repeated name) = word_with "RepeatedName" name
shell_words (Unknown name) = word_with "UnknownRecognizer" name
shell_words (Bad name) = word_with "BadDefault" name
shell_words Full = single_word "TooManyShells"

abbrev pub class_words : RuleClass → List (List ℕ)
class_words Rewrite = single_word "NotRewrite"
class_words Elim = single_word "NotElim"
class_words Generalize = single_word "NotGeneralize"

abbrev pub words_of : Refusal → List (List ℕ)
words_of (OfLanguage refusal) = language.words_of refusal
words_of NotAnEvent = single_word "NotAnEvent"
words_of (BadShape part) = word_with "BadShape" (part_word part)
words_of (BadHint word) = word_with "BadHint" word
words_of (NoSuchEvent name) = word_with "NoSuchEvent" name
words_of (GroundEvent name) = word_with "GroundEvent" name
words_of (NameInUse name) = word_with "NameInUse" name
words_of TooManyEvents = single_word "TooManyEvents"
words_of (OfShell refusal) = shell_words refusal
words_of (NotOfShape class) = class_words class
words_of (FunctionInUse name) = word_with "NameInUse" name
words_of (RepeatedFormal name) = word_with "RepeatedFormal" name
words_of (FreeVariable name) = word_with "FreeVariable" name
words_of (FormalIsConstant name) = word_with "FormalIsConstant" name
words_of BadMeasureHint = single_word "BadMeasureHint"
