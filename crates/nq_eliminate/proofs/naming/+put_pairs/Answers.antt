use Rattle.std.proofs.Common.{◌∙◌, ◌-◌, length, get_or, take, drop, sym}
use Rattle.nq_bank.specs.declared.node.TermId.{TermId}
use Rattle.nq_bank.specs.Content.{term_at, terms_at}
use Rattle.nq_clause.specs.Substitution.{substitution_at}
use Rattle.nq_eliminate.proofs.ImageLemmas.{no_terms, split_terms}
use Rattle.nq_eliminate.proofs.NamingLemmas.{no_pairs_left, pair_more}
use Rattle.nq_eliminate.proofs.naming.+put_pairs.Goals as goal

pub returns-in-empty-named-clause-more : goal.returns-in-empty-named-clause-more
returns-in-empty-named-clause-more t c = λ xs ys own named.
    let bank = c.args.bank.now in
    no_pairs_left (substitution_at bank c.args.pairs.now.items) (terms_at bank c.args.named.now) xs ys (no_terms bank c.args.named.now c.in-empty-named.len_below) named

pub returns-in_ok-put_pairs-in-len1-up-named-clause-more : goal.returns-in_ok-put_pairs-in-len1-up-named-clause-more
returns-in_ok-put_pairs-in-len1-up-named-clause-more t c = λ xs ys own named.
    let none : TermId = record { 0 = 0 } in
    let bank = c.args.bank.now in
    let from = c.args.own.now in
    let into = c.args.named.now in
    pair_more (substitution_at bank c.args.pairs.now.items) (substitution_at bank c.put_pair.new.pairs.items) (substitution_at bank c.put_pairs.new.pairs.items)
    (term_at bank (get_or from 0 none)) (term_at bank (get_or into 0 none)) (terms_at bank (take (length from - 1) (drop 1 from))) (terms_at bank (take (length into - 1) (drop 1 into)))
    c.in_ok-put_pair-in-len1-up-named.ensures.more c.in_ok-put_pairs-in-len1-up-named.ensures.more xs ys
    (sym (split_terms bank from none c.in-len1-up.len_at_least) ∙ own) (sym (split_terms bank into none c.in-len1-up-named.len_at_least) ∙ named)
