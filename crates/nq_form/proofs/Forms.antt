-- Lists of forms, one behind the other.
use Rattle.std.proofs.Common.{◌≡◌, refl, ap}
use Rattle.nq_form.specs.Form.{Form, Forms, end, dotted, next, push, append}

pub append-end : (fs : Forms) → append fs end ≡ fs
append-end end = refl
append-end (dotted f) = refl
append-end (next f fs) = ap (λ (z : Forms). next f z) (append-end fs)

pub append-push : (fs gs : Forms) (f : Form) → append fs (push gs f) ≡ push (append fs gs) f
append-push end gs f = refl
append-push (dotted g) gs f = refl
append-push (next g fs) gs f = ap (λ (z : Forms). next g z) (append-push fs gs f)
