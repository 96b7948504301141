-- Values as quoted objects.
use Rattle.std.specs.Prelude.{ℕ, zero, suc, Bool, true, false, ◌&&◌, not, nat_le, bytes_eq, if◌then◌else◌, Option, None, Some, List, [], ◌∷◌, length, codes}
use Rattle.std.specs.List.{list_all}
use Rattle.nq_logic.specs.Terms.{Name, Term, Variable, Function, Applied}
use Rattle.nq_form.specs.Form.{Form, symbol, numeral, listed, end, dotted, next}
use Rattle.nq_form.specs.Token.{begins_symbol}
use Rattle.nq_form.specs.Spelling.{is_capital}
use Rattle.nq_language.specs.Abbreviations.{is_word}
use Rattle.nq_logic.specs.Numerals.{next_number, number_of}
use Rattle.nq_language.specs.Limits.{is_function}
use Rattle.nq_language.specs.Refusals.{is_escape}

abbrev pub with_code : Option ℕ → Option (List ℕ) → Option (List ℕ)
with_code (Some n) (Some ns) = Some (n ∷ ns)
with_code _ _ = None

-- the numbers of a CONS nest of numerals that ends in 0
unfoldable pub codes_of : Term → Option (List ℕ)
codes_of (Variable x) = None
codes_of (Function f) = if bytes_eq f (codes "ZERO") then Some [] else None
codes_of (Applied (Applied f a) b) = if is_function "CONS" f then with_code (number_of a) (codes_of b) else None
codes_of (Applied t u) = None

-- the codes spell a symbol in upper case that doesn't begin with *1*
abbrev pub is_atom_name : Name → Bool
is_atom_name x = list_all is_capital x && (begins_symbol x && (nat_le (length x) 256 && not (is_escape x)))

abbrev pub atom_object : Option Name → Option Form
atom_object None = None
atom_object (Some x) = if is_atom_name x then Some (symbol x) else None

abbrev pub number_object : Option ℕ → Option Form
number_object None = None
number_object (Some n) = Some (numeral false n)

abbrev pub negative_object : Option ℕ → Option Form
negative_object None = None
negative_object (Some zero) = None
negative_object (Some (suc n)) = Some (numeral true (suc n))

-- ADD1, MINUS or PACK of a value
abbrev pub single_object : Term → Term → Option Form
single_object f a =
    if is_function "ADD1" f then number_object (next_number (number_of a))
    else (if is_function "MINUS" f then negative_object (number_of a)
    else (if is_function "PACK" f then atom_object (codes_of a) else None))

-- A list with one more element in front. A dot stands only before a tail that isn't NIL.
abbrev pub onto : Form → Form → Form
onto a (listed fs) = listed (next a fs)
onto a (symbol x) = if is_word "NIL" x then listed (next a end) else listed (next a (dotted (symbol x)))
onto a b = listed (next a (dotted b))

abbrev pub pair_object : Option Form → Option Form → Option Form
pair_object (Some a) (Some b) = Some (onto a b)
pair_object _ _ = None

-- the object of a value that is built of numerals, negative numbers, literal atoms and CONS
unfoldable pub object_of : Term → Option Form
object_of (Variable x) = None
object_of (Function f) = if bytes_eq f (codes "ZERO") then Some (numeral false 0) else None
object_of (Applied (Applied f a) b) = if is_function "CONS" f then pair_object (object_of a) (object_of b) else None
object_of (Applied f a) = single_object f a
