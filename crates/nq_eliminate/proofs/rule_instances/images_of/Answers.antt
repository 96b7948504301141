use Rattle.std.proofs.Common.{◌∙◌, ◌++◌, List, sym, ap, ap₂, subst}
use Rattle.std.specs.Prelude.{All}
use Rattle.nq_logic.specs.Terms.{Term}
use Rattle.nq_bank.specs.Content.{Stands, terms_at}
use Rattle.nq_eliminate.specs.Naming.{images_for}
use Rattle.nq_eliminate.proofs.NamingLemmas.{earlier_stand, no_ids}
use Rattle.nq_eliminate.proofs.rule_instances.images_of.Goals as goal

pub put_images-requires-clause-from : goal.put_images-requires-clause-from
put_images-requires-clause-from c = earlier_stand c.args.bank.now c.args-from.result.now c.args.served.destructor c.requires.destructor c.args-from.ensures.earlier

pub put_images-requires-clause-to : goal.put_images-requires-clause-to
put_images-requires-clause-to c = earlier_stand c.args.bank.now c.args-to.result.now c.args.served.call c.requires.call c.args-to.ensures.earlier

pub put_images-requires-clause-named : goal.put_images-requires-clause-named
put_images-requires-clause-named c = subst (All (Stands c.args.bank.now)) (sym c.new-named.ensures.items) (no_ids (Stands c.args.bank.now))

pub returns-clause-are : goal.returns-clause-are
returns-clause-are c =
    let bank = c.args.bank.now in
    let own = terms_at bank c.args.own.now in
    let new = terms_at bank c.args.new.now in
    c.in_ok-put_images.ensures.more
    ∙ (ap (λ ids. terms_at bank ids ++ images_for (terms_at bank c.args-from.result.now) (terms_at bank c.args-to.result.now) own new) c.new-named.ensures.items
    ∙ ap₂ (λ (ts us : List Term). images_for ts us own new) c.args-from.ensures.parts c.args-to.ensures.parts)
