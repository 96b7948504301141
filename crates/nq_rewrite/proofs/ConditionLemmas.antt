-- The variables of the laws of IF.
use Rattle.std.proofs.Common.{refl}
use Rattle.std.specs.Prelude.{codes}
use Rattle.nq_kernel.specs.Over.{IsVariable}

pub a_plain : IsVariable (codes "A")
a_plain = record { symbol = refl; other = refl }

pub b_plain : IsVariable (codes "B")
b_plain = record { symbol = refl; other = refl }

pub x_plain : IsVariable (codes "X")
x_plain = record { symbol = refl; other = refl }

pub y_plain : IsVariable (codes "Y")
y_plain = record { symbol = refl; other = refl }

pub z_plain : IsVariable (codes "Z")
z_plain = record { symbol = refl; other = refl }
