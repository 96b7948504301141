use Rattle.std.proofs.Common.{◌∙◌, ◌++◌, ap, sym, subst}
use Rattle.std.specs.Prelude.{All}
use Rattle.std.proofs.lemmas.List.{append-nil}
use Rattle.nq_bank.specs.declared.node.TermId.{TermId}
use Rattle.nq_bank.specs.Content.{Stands, term_at, terms_at, text_at}
use Rattle.nq_bank.proofs.Standing.{All-push}
use Rattle.nq_eliminate.proofs.NamingLemmas.{all_put, ids_put, more_put, none_put, one_variable}
use Rattle.nq_eliminate.proofs.naming.+put_variables.Goals as goal

pub loop-a-init : goal.loop-a-init
loop-a-init t c =
    let bank = c.args.bank.now in
    record { more = sym (append-nil (terms_at bank c.args.found.now.items)); stand = c.requires.found }

pub loop-a-preserved : goal.loop-a-preserved
loop-a-preserved t c =
    let first : TermId = record { 0 = 0 } in
    let bank = c.args.bank.now in
    let step = c.in_ok-put_variables-in-App.ensures in
    record {
      more = more_put bank (terms_at bank c.args.found.now.items) (terms_at bank c.loop-a.found.items) (terms_at bank c.put_variables.new.found.items) c.args-arguments.result.now c.loop-a.a-index first c.loop-a-test.true c.loop-a.invariant.more step.more;
      stand = step.stand;
    }

pub returns-in-Num-clause-more : goal.returns-in-Num-clause-more
returns-in-Num-clause-more t c =
    let bank = c.args.bank.now in
    none_put (term_at bank c.args.t) c.in-Num.field-0 (terms_at bank c.args.found.now.items) c.in-Num.ensures.head.1

pub returns-in_ok-push_id-in-Var-clause-more : goal.returns-in_ok-push_id-in-Var-clause-more
returns-in_ok-push_id-in-Var-clause-more t c =
    let bank = c.args.bank.now in
    ids_put bank c.args.found.now.items c.push_id.new.ids.items c.args.t c.in_ok-push_id-in-Var.ensures.ok
    ∙ ap (λ u. terms_at bank c.args.found.now.items ++ u) (one_variable (term_at bank c.args.t) (text_at bank c.in-Var.field-0) c.in-Var.ensures.head.1)

pub returns-in_ok-push_id-in-Var-clause-stand : goal.returns-in_ok-push_id-in-Var-clause-stand
returns-in_ok-push_id-in-Var-clause-stand t c =
    let bank = c.args.bank.now in
    subst (All (Stands bank)) (sym c.in_ok-push_id-in-Var.ensures.ok) (All-push (Stands bank) c.args.found.now.items c.args.t c.requires.found c.requires.term)

pub returns-after-loop-a-clause-more : goal.returns-after-loop-a-clause-more
returns-after-loop-a-clause-more t c =
    let bank = c.args.bank.now in
    all_put bank (terms_at bank c.args.found.now.items) (terms_at bank c.loop-a.found.items) (term_at bank c.args.t) (text_at bank c.in-App.field-0) c.args-arguments.result.now c.loop-a.a-index c.in-App.ensures.head.1 c.args-arguments.ensures.parts c.loop-a-test.false c.loop-a.invariant.more
