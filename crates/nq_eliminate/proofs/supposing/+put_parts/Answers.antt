use Rattle.std.proofs.Common.{◌∙◌, ◌++◌, ap, sym, subst}
use Rattle.std.specs.Prelude.{All}
use Rattle.nq_bank.specs.Content.{Stands, terms_at}
use Rattle.nq_bank.proofs.Standing.{All-push}
use Rattle.nq_eliminate.proofs.NamingLemmas.{ids_put}
use Rattle.nq_eliminate.proofs.SupposingLemmas.{both_put, no_and, parts_of_and}
use Rattle.nq_eliminate.proofs.supposing.+put_parts.Goals as goal

pub returns-in_ok-put_parts-in-Some-2-clause-more : goal.returns-in_ok-put_parts-in-Some-2-clause-more
returns-in_ok-put_parts-in-Some-2-clause-more t c = both_put _ _ _ _ _ _ c.in_ok-put_parts-in-Some.ensures.more c.in_ok-put_parts-in-Some-2.ensures.more (parts_of_and c.args.bank.now c.args.t c.in-Some.p c.in-Some.q c.in-Some.ensures)

pub returns-in_ok-push_id-in-None-clause-more : goal.returns-in_ok-push_id-in-None-clause-more
returns-in_ok-push_id-in-None-clause-more t c =
    let bank = c.args.bank.now in
    ids_put bank c.args.found.now.items c.push_id.new.ids.items c.args.t c.in_ok-push_id-in-None.ensures.ok ∙ ap (λ ts. terms_at bank c.args.found.now.items ++ ts) (sym (no_and bank c.args.t c.in-None.ensures))

pub returns-in_ok-push_id-in-None-clause-stand : goal.returns-in_ok-push_id-in-None-clause-stand
returns-in_ok-push_id-in-None-clause-stand t c =
    let bank = c.args.bank.now in
    subst (All (Stands bank)) (sym c.in_ok-push_id-in-None.ensures.ok) (All-push (Stands bank) c.args.found.now.items c.args.t c.requires.found c.requires.term)
