use Rattle.std.proofs.Common.{◌≡◌, sym, length, arith}
use Rattle.nq_abbrev.proofs.PairLemmas.{single_trees, other_trees}
use Rattle.nq_abbrev.proofs.calls.is_single.Goals as goal

pub returns-in-len1 : goal.returns-in-len1
returns-in-len1 c = let one : length c.args.forms.now ≡ 1 = omega arith in sym (single_trees c.args.forms.now one)

pub returns-in-len2-up : goal.returns-in-len2-up
returns-in-len2-up c = sym (other_trees c.args.forms.now (λ e. omega arith))
