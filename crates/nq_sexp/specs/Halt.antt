-- What a reader finds: a form, the end, or a fault.
use Rattle.std.specs.Prelude.{◌≡◌, ◌⊎◌, ℕ, ◌+◌, ◌-◌, ◌^◌, ◌<◌, List, [], ◌++◌, length, Option, None, Some, IsTrue, false, not}
use Rattle.std.specs.Io.KnownBytes.{Consumes}
use Rattle.nq_form.specs.Form.{Form, end, next}
use Rattle.nq_form.specs.Bytes.{is_closed, is_constituent}
use Rattle.nq_form.specs.Grammar.{Items, Holds, Reads, fault, too_long}
use Rattle.nq_sexp.specs.Held.{Held, Begins, IsNext, Taken}
use Rattle.nq_sexp.specs.declared.fault.ReadFault.{ReadFault}
use Rattle.nq_sexp.specs.declared.fault.ReadFault.TheVariants.{Unbalanced, BadToken, NumeralTooWide, TooDeep, FileTooLong, Read, Memory}

-- why no byte was found
abbrev pub IsLookFault : Held → ReadFault → Type 0
IsLookFault new Read = (new.bytes ≡ []) × (new.told ≡ false)
IsLookFault new FileTooLong = (new.at ≡ 2 ^ 25) × ((byte : ℕ) × Begins new byte)
IsLookFault new (Unbalanced place) = ⊥
IsLookFault new (BadToken place) = ⊥
IsLookFault new (NumeralTooWide place) = ⊥
IsLookFault new (TooDeep place) = ⊥
IsLookFault new Memory = ⊥

-- The rest of a text reads as no form and this fault, with its place in the whole text.
abbrev pub IsFaultAt : ℕ → List ℕ → ℕ → ℕ → Type 0
IsFaultAt at rest code place = (k : ℕ) × (place ≡ at + k) × Reads 500 (2 ^ 25 - at) rest end (fault code k)

-- Reading failed: the source had not told its end, the bytes in hand were taken before it was asked, none is in hand, and those that were taken hold no whole form.
pub record IsCut (held : Held) (rest : List ℕ) (new : Held) (left : Option (List ℕ)) : Type 0 where
  pub text : List ℕ
  pub holds : Holds 500 text end
  pub none : new.bytes ≡ []
  pub untold : held.told ≡ false
  pub taken : Consumes (Some rest) left text
  pub first : (more : List ℕ) × (text ≡ held.bytes ++ more)

-- The text ahead has no form more, and this fault is met in it. Or reading it failed.
abbrev pub IsMet : Held → List ℕ → Held → Option (List ℕ) → ReadFault → Type 0
IsMet held rest new left (Unbalanced place) = IsFaultAt held.at rest 1 place
IsMet held rest new left (BadToken place) = IsFaultAt held.at rest 2 place
IsMet held rest new left (NumeralTooWide place) = IsFaultAt held.at rest 3 place
IsMet held rest new left (TooDeep place) = IsFaultAt held.at rest 4 place
IsMet held rest new left FileTooLong = Reads 500 (2 ^ 25 - held.at) rest end too_long
IsMet held rest new left Read = IsCut held rest new left
IsMet held rest new left Memory = Unit {0}

-- A token that ends a text isn't carried on by the byte that comes next.
abbrev pub IsApart : List ℕ → Option ℕ → Type 0
IsApart text None = Unit {0}
IsApart text (Some byte) = IsTrue (is_closed text) ⊎ IsTrue (not (is_constituent byte))

-- A text holds one form, and nothing that was taken or comes next carries it on.
pub record IsForm (levels : ℕ) (held : Held) (text : List ℕ) (form : Form) : Type 0 where
  pub spelled : Items levels text (next form end)
  pub ended : IsTrue (is_closed text) ⊎ ((following : Option ℕ) × IsNext held following × IsApart text following)

-- The source wasn't asked; or all the bytes in hand were taken first, and the text went on or may go on behind them.
abbrev pub IsPrompt : {S : Type 0} → S → S → List ℕ → List ℕ → Type 0
IsPrompt before after old text = (after ≡ before) ⊎ ((more : List ℕ) × (text ≡ old ++ more) × (IsTrue (is_closed text) → 0 < length more))

-- A form was read. The source was asked only where the bytes in hand didn't hold it whole.
pub record IsFound {S : Type 0} (left : S → Option (List ℕ)) (old : Held) (before : S) (new : Held) (after : S) (form : Form) : Type 0 where
  pub text : List ℕ
  pub is : IsForm 500 new text form
  pub taken : Taken left old before new after text
  pub prompt : IsPrompt before after old.bytes text
