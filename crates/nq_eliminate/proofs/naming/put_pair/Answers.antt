use Rattle.nq_bank.specs.Content.{term_at, text_at}
use Rattle.nq_clause.specs.declared.substitution.Pair.{Pair}
use Rattle.nq_eliminate.proofs.NamingLemmas.{no_call_variable, no_number_variable, pair_pushed, pairs_pushed}
use Rattle.nq_eliminate.proofs.naming.put_pair.Goals as goal

pub returns-in-Var-clause-more : goal.returns-in-Var-clause-more
returns-in-Var-clause-more c =
    let bank = c.args.bank.now in
    let p : Pair = record { variable = c.in-Var.variable; term = c.args.into } in
    pair_pushed c.push_pair.result bank c.args.pairs.now.items c.push_pair.new.pairs.items p (term_at bank c.args.own) c.in-Var.ensures.head.1 c.push_pair.ensures.kept

pub returns-in-Var-clause-stand : goal.returns-in-Var-clause-stand
returns-in-Var-clause-stand c =
    let bank = c.args.bank.now in
    let p : Pair = record { variable = c.in-Var.variable; term = c.args.into } in
    pairs_pushed c.push_pair.result bank c.args.pairs.now.items c.push_pair.new.pairs.items p c.requires.pairs c.in-Var.ensures.head.0 c.requires.into c.push_pair.ensures.kept

pub returns-in-Num-clause-more : goal.returns-in-Num-clause-more
returns-in-Num-clause-more c = λ x is. absurd (no_number_variable (term_at c.args.bank.now c.args.own) c.in-Num.field-0 x c.in-Num.ensures.head.1 is)

pub returns-in-App-clause-more : goal.returns-in-App-clause-more
returns-in-App-clause-more c = λ x is. absurd (no_call_variable (term_at c.args.bank.now c.args.own) (text_at c.args.bank.now c.in-App.field-0) x c.in-App.ensures.head.1 is)
