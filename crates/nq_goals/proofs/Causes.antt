-- The test of the normal form, and the causes.
use Rattle.std.proofs.Common.{◌≡◌, Bool, true, false, ◌&&◌, refl}
use Rattle.std.specs.Prelude.{not, Option, None, Some, is_some}
use Rattle.nq_logic.specs.Terms.{Term}
use Rattle.nq_logic.specs.Histories.{History, Definition}
use Rattle.nq_logic.specs.Admissible.{mentions, IsMeasured}
use Rattle.nq_goals.specs.declared.kinds.Cause.TheVariants.{False, NoInduction, Loop, Forbidden, Depth}
use Rattle.nq_goals.specs.Normal.{has_connective, has_openable, has_decided_test, has_rewritable, has_settled, NormalIsTold}
use Rattle.nq_goals.specs.Spent.{HasOneCause}
use Rattle.nq_goals.specs.Recursion.{RecursionIsTold}

none_of_five : (a b c d e : Bool) → (not a && not b && not c && not d && not e) ≡ true → (a ≡ false) × (b ≡ false) × (c ≡ false) × (d ≡ false) × (e ≡ false)
none_of_five false false false false false t = (refl, refl, refl, refl, refl)
none_of_five false false false false true t = cc
none_of_five false false false true e t = cc
none_of_five false false true d e t = cc
none_of_five false true c d e t = cc
none_of_five true b c d e t = cc

all_false : (a b c d e : Bool) → a ≡ false → b ≡ false → c ≡ false → d ≡ false → e ≡ false → (not a && not b && not c && not d && not e) ≡ true
all_false false false false false false p q r s t = refl
all_false true b c d e p q r s t = cc
all_false false true c d e p q r s t = cc
all_false false false true d e p q r s t = cc
all_false false false false true e p q r s t = cc
all_false false false false false true p q r s t = cc

pub normal_is_told : NormalIsTold
normal_is_told h hints goal = (
  (λ e.
      let all = none_of_five (has_connective goal) (has_openable h hints goal) (has_decided_test h goal) (has_rewritable h hints goal) (has_settled goal) e in
      record { no_connective = all.0; none_openable = all.1; no_decided_test = all.2; none_rewritable = all.3; none_settled = all.4 }),
  (λ n.
      all_false (has_connective goal) (has_openable h hints goal) (has_decided_test h goal) (has_rewritable h hints goal) (has_settled goal)
      n.no_connective n.none_openable n.no_decided_test n.none_rewritable n.none_settled),
)

pub has_one_cause : HasOneCause
has_one_cause h hints above goal False False s t = refl
has_one_cause h hints above goal False NoInduction s t = absurd (t.first.0 s.holds)
has_one_cause h hints above goal False Loop s t = absurd (t.first.0 s.holds)
has_one_cause h hints above goal False Forbidden s t = absurd (t.first.0 s.holds)
has_one_cause h hints above goal False Depth s t = absurd (t.first.0 s.holds)
has_one_cause h hints above goal NoInduction False s t = absurd (s.first.0 t.holds)
has_one_cause h hints above goal NoInduction NoInduction s t = refl
has_one_cause h hints above goal NoInduction Loop s t = absurd (t.first.1.0 s.holds)
has_one_cause h hints above goal NoInduction Forbidden s t = absurd (t.first.1.0 s.holds)
has_one_cause h hints above goal NoInduction Depth s t = absurd (t.first.1.0 s.holds)
has_one_cause h hints above goal Loop False s t = absurd (s.first.0 t.holds)
has_one_cause h hints above goal Loop NoInduction s t = absurd (s.first.1.0 t.holds)
has_one_cause h hints above goal Loop Loop s t = refl
has_one_cause h hints above goal Loop Forbidden s t = absurd (t.first.1.1.0 s.holds)
has_one_cause h hints above goal Loop Depth s t = absurd (t.first.1.1.0 s.holds)
has_one_cause h hints above goal Forbidden False s t = absurd (s.first.0 t.holds)
has_one_cause h hints above goal Forbidden NoInduction s t = absurd (s.first.1.0 t.holds)
has_one_cause h hints above goal Forbidden Loop s t = absurd (s.first.1.1.0 t.holds)
has_one_cause h hints above goal Forbidden Forbidden s t = refl
has_one_cause h hints above goal Forbidden Depth s t = absurd (t.first.1.1.1.0 s.holds)
has_one_cause h hints above goal Depth False s t = absurd (s.first.0 t.holds)
has_one_cause h hints above goal Depth NoInduction s t = absurd (s.first.1.0 t.holds)
has_one_cause h hints above goal Depth Loop s t = absurd (s.first.1.1.0 t.holds)
has_one_cause h hints above goal Depth Forbidden s t = absurd (s.first.1.1.1.0 t.holds)
has_one_cause h hints above goal Depth Depth s t = refl

measured_told : (h : History) (d : Definition) (b : Bool) (m : Option Term) → IsMeasured h d b m → is_some m ≡ b
measured_told h d false None i = refl
measured_told h d false (Some m) i = absurd i
measured_told h d true None i = absurd i
measured_told h d true (Some m) i = refl

pub recursion_is_told : RecursionIsTold
recursion_is_told h d a = measured_told h d (mentions d.function d.body) d.measure a.measured
