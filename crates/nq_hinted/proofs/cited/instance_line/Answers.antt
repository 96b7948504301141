use Rattle.std.proofs.Common.{◌≡◌, ◌∷◌, [], ◌∙◌, ap, sym, subst, map}
use Rattle.std.proofs.lemmas.Result.{IfOk-weaker}
use Rattle.nq_logic.specs.Terms.{Term, Substitution, substituted}
use Rattle.nq_bank.specs.Content.{text_at}
use Rattle.nq_clause.specs.Substitution.{substitution_at}
use Rattle.nq_clause.proofs.SubstitutionLemmas.{substitution_at-grown}
use Rattle.nq_history.specs.Events.{events_at}
use Rattle.nq_event.specs.EventsAt.{instance_at, pair_at}
use Rattle.nq_lines.specs.Instances.{ArePairsIn}
use Rattle.nq_lines.specs.Lines.{LineHasOnly}
use Rattle.nq_lines.proofs.InstanceLemmas.{pairs_in_grown}
use Rattle.nq_kernel.proofs.GrowingLemmas.{WorkGrows-refl, WorkGrows-trans}
use Rattle.nq_hinted.proofs.CitedLemmas.{named_of_instance, instance_of, stated_stands}
use Rattle.nq_hinted.proofs.cited.instance_line.Goals as goal

pub stated_line-requires-clause-stated : goal.stated_line-requires-clause-stated
stated_line-requires-clause-stated c = named_of_instance (events_at c.args.work.now.bank c.args.history.now) (instance_at c.args.work.now.bank c.args.instance.now) c.requires.stated

pub instance-requires-clause-line : goal.instance-requires-clause-line
instance-requires-clause-line c =
    stated_stands (events_at c.args.work.now.bank c.args.history.now) (text_at c.args.work.now.bank c.args.instance.now.name) c.stated_line.new.work c.in_ok-line.line
    (named_of_instance (events_at c.args.work.now.bank c.args.history.now) (instance_at c.args.work.now.bank c.args.instance.now) c.requires.stated) c.in_ok-line.ensures.line

pub instance-requires-clause-pairs : goal.instance-requires-clause-pairs
instance-requires-clause-pairs c =
    subst (ArePairsIn c.args.history.now c.stated_line.new.work) (sym (c.in_ok-pairs.ensures.copy ∙ c.as_slice.ensures.value))
    (pairs_in_grown c.args.history.now c.args.work.now c.stated_line.new.work c.args.instance.now.pairs.items c.requires.stands c.stated_line.ensures.grows c.requires.pairs)

pub returns-clause-line : goal.returns-clause-line
returns-clause-line c =
    IfOk-weaker c.instance.result _ _
    (λ n instances t is.
    let w0 = c.args.work.now in
    let w1 = c.stated_line.new.work in
    let k = instance_of (events_at w0.bank c.args.history.now) (instance_at w0.bank c.args.instance.now) t is in
    let same : substitution_at w1.bank c.in_ok-pairs.pairs.items ≡ map (pair_at w0.bank) c.args.instance.now.pairs.items =
    ap (substitution_at w1.bank) (c.in_ok-pairs.ensures.copy ∙ c.as_slice.ensures.value) ∙ substitution_at-grown w0.bank w1.bank c.args.instance.now.pairs.items c.stated_line.ensures.grows.bank c.requires.instance.pairs in
    let given : substituted (substitution_at w1.bank c.in_ok-pairs.pairs.items) k.pattern ≡ t = ap (λ (s : Substitution). substituted s k.pattern) same ∙ k.gives in
    subst (λ (u : Term). LineHasOnly c.instance.new.work n (u ∷ [])) given (instances (k.pattern ∷ []) (c.in_ok-line.ensures.line k.pattern k.named)))
    c.instance.ensures.line

pub returns-clause-grows : goal.returns-clause-grows
returns-clause-grows c = WorkGrows-trans c.args.history.now c.args.work.now c.stated_line.new.work c.instance.new.work c.stated_line.ensures.grows c.instance.ensures.grows

pub returns-in_err-pairs-clause-grows : goal.returns-in_err-pairs-clause-grows
returns-in_err-pairs-clause-grows c = WorkGrows-refl c.args.history.now c.args.work.now c.requires.stands
