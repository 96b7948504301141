-- What a loop that reads form after form knows of the whole text.
use Rattle.std.specs.Prelude.{◌≡◌, ◌⊎◌, ℕ, ◌^◌, ◌<◌, ◌≤◌, List, [], ◌++◌, length, Option, Some, IfSome, IsTrue}
use Rattle.nq_form.specs.Form.{Forms}
use Rattle.nq_sexp.specs.Held.{Held, ahead}
use Rattle.nq_form.specs.Bytes.{is_closed, begins_apart}
use Rattle.nq_form.specs.Grammar.{Items, Holds, Reads, fault, too_long}
use Rattle.nq_sexp.specs.declared.fault.ReadFault.{ReadFault}
use Rattle.nq_sexp.specs.declared.fault.ReadFault.TheVariants.{Unbalanced, BadToken, NumeralTooWide, TooDeep, FileTooLong, Read, Memory}

-- What comes behind a form was seen: the end, which the source told, or a byte that is in hand.
abbrev pub IsSeen : Held → List ℕ → Type 0
IsSeen held rest = ((rest ≡ []) × IsTrue held.told) ⊎ ((held.at < 2 ^ 25) × (0 < length held.bytes))

-- The text before this place has these forms, no symbol goes on over its end, and the rest is still to be read.
pub record Split (all : List ℕ) (held : Held) (now : Option (List ℕ)) (fs : Forms) : Type 0 where
  pub text : List ℕ
  pub rest : List ℕ
  pub known : now ≡ Some rest
  pub whole : all ≡ text ++ rest
  pub spelled : Items 500 text fs
  pub count : held.at ≡ length text
  pub within : held.at ≤ 2 ^ 25
  pub seam : IsTrue (is_closed text) ⊎ (IsTrue (begins_apart rest) × IsSeen held rest)

-- The invariant of such a loop, where the source told all its bytes at the start: the forms so far are these.
abbrev pub SoFar : Option (List ℕ) → Held → Option (List ℕ) → Forms → Type 0
SoFar start held left fs = IfSome start (λ all. Split all held (ahead held left) fs)

-- Where the fault comes, the whole text has the forms so far and ends with it. Where the source failed, they are the forms that stand whole in the bytes taken,
-- which are all but those that the source still has: one that ends in a symbol or numeral only together with the byte after it. A source that told its end, behind
-- which such a form stands alone, isn't asked again, and can't fail.
abbrev pub IsEnding : List ℕ → Forms → Option (List ℕ) → ReadFault → Type 0
IsEnding all fs left (Unbalanced place) = Reads 500 (2 ^ 25) all fs (fault 1 place)
IsEnding all fs left (BadToken place) = Reads 500 (2 ^ 25) all fs (fault 2 place)
IsEnding all fs left (NumeralTooWide place) = Reads 500 (2 ^ 25) all fs (fault 3 place)
IsEnding all fs left (TooDeep place) = Reads 500 (2 ^ 25) all fs (fault 4 place)
IsEnding all fs left FileTooLong = Reads 500 (2 ^ 25) all fs too_long
IsEnding all fs left Read = (taken : List ℕ) × (more : List ℕ) × (all ≡ taken ++ more) × (left ≡ Some more) × Holds 500 taken fs
IsEnding all fs left Memory = Unit {0}

-- Where a read failed, the forms are one list.
abbrev pub OneListWhereReadsFail : Type 0
OneListWhereReadsFail = (all : List ℕ) (fs gs : Forms) (left : Option (List ℕ)) → IsEnding all fs left Read → IsEnding all gs left Read → fs ≡ gs
