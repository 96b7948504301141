use Rattle.std.proofs.Common.{◌++◌}
use Rattle.nq_bank.specs.declared.node.TermId.{TermId}
use Rattle.nq_bank.specs.Content.{Stands, term_at, terms_at, text_at}
use Rattle.nq_eliminate.proofs.DestructorLemmas.{all_put, first_put, here_of, numeral_none, one_more_put, put_stand, variable_none}
use Rattle.nq_eliminate.proofs.destructors.+put_destructors.Goals as goal

pub loop-a-init : goal.loop-a-init
loop-a-init t c =
    let bank = c.args.bank.now in
    record {
      more = first_put bank (text_at bank c.args.x) c.args.found.now.items c.keep_where.new.kept.items c.are_of_destructor-here.result c.args.t c.in_ok-keep_where-in-App.ensures;
      stand = put_stand (Stands bank) c.args.found.now.items c.keep_where.new.kept.items c.are_of_destructor-here.result c.args.t c.requires.found c.requires.term c.in_ok-keep_where-in-App.ensures;
    }

pub loop-a-preserved : goal.loop-a-preserved
loop-a-preserved t c =
    let first : TermId = record { 0 = 0 } in
    let bank = c.args.bank.now in
    let step = c.in_ok-put_destructors-in-App.ensures in
    record {
      more = one_more_put bank (text_at bank c.args.x) (terms_at bank c.args.found.now.items ++ here_of c.are_of_destructor-here.result (term_at bank c.args.t)) (terms_at bank c.loop-a.found.items) (terms_at bank c.put_destructors.new.found.items) c.args-arguments.result.now c.loop-a.a-index first c.loop-a-test.true c.loop-a.invariant.more step.more;
      stand = step.stand;
    }

pub returns-in-Num-clause-more : goal.returns-in-Num-clause-more
returns-in-Num-clause-more t c =
    let bank = c.args.bank.now in
    numeral_none (text_at bank c.args.x) (term_at bank c.args.t) c.in-Num.field-0 (terms_at bank c.args.found.now.items) c.in-Num.ensures.head.1

pub returns-in-Var-clause-more : goal.returns-in-Var-clause-more
returns-in-Var-clause-more t c =
    let bank = c.args.bank.now in
    variable_none (text_at bank c.args.x) (term_at bank c.args.t) (text_at bank c.in-Var.field-0) (terms_at bank c.args.found.now.items) c.in-Var.ensures.head.1

pub returns-after-loop-a-clause-more : goal.returns-after-loop-a-clause-more
returns-after-loop-a-clause-more t c =
    let bank = c.args.bank.now in
    all_put bank (text_at bank c.args.x) (text_at bank c.in-App.field-0) (term_at bank c.args.t) c.args-arguments.result.now c.in-App.ensures.head.1 c.args-arguments.ensures.parts c.are_of_destructor-here.result c.are_of_destructor-here.ensures
    (terms_at bank c.args.found.now.items) (terms_at bank c.loop-a.found.items) c.loop-a.a-index c.loop-a-test.false c.loop-a.invariant.more
