-- What a token is found to be, by the machine's function.
use Rattle.std.proofs.Common.{◌≡◌, ℕ, Bool, List, [], ◌∷◌, ap, ◌∙◌}
use Rattle.std.specs.Prelude.{map}
use Rattle.nq_form.specs.Form.{symbol, numeral}
use Rattle.nq_form.specs.Bytes.{upper}
use Rattle.nq_form.specs.Token.{IsSymbol, IsNumber, IsWide, IsBad, name, number}
use Rattle.nq_form.specs.Kinds.{form, single_dot, too_wide, no_token, kind_of}
use Rattle.nq_form.proofs.Naming.{named, wide_run, bad_run}

pub symbol-kind : (w : List ℕ) → IsSymbol w → kind_of w ≡ form (symbol (map upper w))
symbol-kind w s = let r = named w (symbol (map upper w)) (name s) in ap kind_of r.bytes ∙ r.kind

pub number-kind : (w : List ℕ) (negative : Bool) (n : ℕ) → IsNumber w negative n → kind_of w ≡ form (numeral negative n)
number-kind w negative n i = let r = named w (numeral negative n) (number i) in ap kind_of r.bytes ∙ r.kind

pub wide-kind : (w : List ℕ) → IsWide w → kind_of w ≡ too_wide
wide-kind w i = let r = wide_run w i in ap kind_of r.bytes ∙ r.kind_is

pub bad-kind : (w : List ℕ) → IsBad w → kind_of w ≡ no_token
bad-kind w i = let r = bad_run w i in ap kind_of r.bytes ∙ r.kind_is

pub dot-kind : (w : List ℕ) → w ≡ 46 ∷ [] → kind_of w ≡ single_dot
dot-kind w e = ap kind_of e
