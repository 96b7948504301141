use Rattle.std.proofs.Common.{◌≡◌, ◌-◌, ◌++◌, List, length, get_or, map, take, drop, sym, subst}
use Rattle.nq_logic.specs.Terms.{Term, Variable}
use Rattle.nq_bank.specs.declared.node.TermId.{TermId}
use Rattle.nq_bank.specs.Content.{term_at, terms_at}
use Rattle.nq_goals.specs.NewVariables.{clause_variables}
use Rattle.nq_eliminate.proofs.ImageLemmas.{split_terms}
use Rattle.nq_eliminate.proofs.NamingLemmas.{no_more_put, variables_put}
use Rattle.nq_eliminate.proofs.naming.+put_all_variables.Goals as goal

pub returns-in-empty-clause-more : goal.returns-in-empty-clause-more
returns-in-empty-clause-more t c = no_more_put c.args.bank.now (terms_at c.args.bank.now c.args.found.now.items) c.args.terms.now c.in-empty.len_below

pub returns-in_ok-put_all_variables-in-len1-up-clause-more : goal.returns-in_ok-put_all_variables-in-len1-up-clause-more
returns-in_ok-put_all_variables-in-len1-up-clause-more t c =
    let none : TermId = record { 0 = 0 } in
    let bank = c.args.bank.now in
    let ids = c.args.terms.now in
    let old = terms_at bank c.args.found.now.items in
    let new = terms_at bank c.put_all_variables.new.found.items in
    subst (λ (ts : List Term). new ≡ old ++ map Variable (clause_variables ts)) (sym (split_terms bank ids none c.in-len1-up.len_at_least))
    (variables_put old (terms_at bank c.put_variables.new.found.items) new (term_at bank (get_or ids 0 none)) (terms_at bank (take (length ids - 1) (drop 1 ids))) c.in_ok-put_variables-in-len1-up.ensures.more c.in_ok-put_all_variables-in-len1-up.ensures.more)
