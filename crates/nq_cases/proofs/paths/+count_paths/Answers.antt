use Rattle.std.proofs.Common.{◌∙◌, ap}
use Rattle.std.specs.Prelude.{min}
use Rattle.nq_bank.specs.Content.{text_at, term_at}
use Rattle.nq_cases.specs.Paths.{call_paths, paths_of}
use Rattle.nq_cases.proofs.CapLemmas.{counts_kept, counts_whole, paths_of_variable, paths_of_numeral, one_capped}
use Rattle.nq_cases.proofs.paths.+count_paths.Goals as goal

pub returns-in-Var-clause-ok : goal.returns-in-Var-clause-ok
returns-in-Var-clause-ok t c =
    one_capped (term_at c.args.bank.now c.args.t) c.args.cap c.requires.cap (ap paths_of c.in-Var.ensures.head.1 ∙ paths_of_variable (text_at c.args.bank.now c.in-Var.field-0))

pub returns-in-Num-clause-ok : goal.returns-in-Num-clause-ok
returns-in-Num-clause-ok t c =
    one_capped (term_at c.args.bank.now c.args.t) c.args.cap c.requires.cap (ap paths_of c.in-Num.ensures.head.1 ∙ paths_of_numeral c.in-Num.field-0)

pub returns-in_ok-keep_count-in-None-clause-ok : goal.returns-in_ok-keep_count-in-None-clause-ok
returns-in_ok-keep_count-in-None-clause-ok t c =
    counts_whole c.args.bank.now c.args.cap (term_at c.args.bank.now c.args.t) (text_at c.args.bank.now c.in-App.f) c.args-a-items.result.now c.loop-a.a-index c.loop-a.counts.items c.call_count-count.result c.in-App.ensures.head.1 c.args-a-items.ensures.parts c.loop-a-test.false c.loop-a.invariant.so_far (c.call_count-count.ensures ∙ ap (λ ns. min (call_paths (text_at c.args.bank.now c.in-App.f) ns) c.args.cap) c.as_slice.ensures.value)

pub returns-in_ok-keep_count-in-None-clause-counts : goal.returns-in_ok-keep_count-in-None-clause-counts
returns-in_ok-keep_count-in-None-clause-counts t c =
    let whole =
    counts_whole c.args.bank.now c.args.cap (term_at c.args.bank.now c.args.t) (text_at c.args.bank.now c.in-App.f) c.args-a-items.result.now c.loop-a.a-index c.loop-a.counts.items c.call_count-count.result c.in-App.ensures.head.1 c.args-a-items.ensures.parts c.loop-a-test.false c.loop-a.invariant.so_far (c.call_count-count.ensures ∙ ap (λ ns. min (call_paths (text_at c.args.bank.now c.in-App.f) ns) c.args.cap) c.as_slice.ensures.value) in
    counts_kept c.args.bank.now c.args.cap c.loop-a.known c.keep_count.new.known c.args.t c.call_count-count.result c.loop-a.invariant.known c.requires.stands c.in_ok-keep_count-in-None.ensures whole
