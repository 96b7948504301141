-- What the prover has learnt, as its table of rules was taught it.
use Rattle.std.proofs.Common.{◌≡◌, ◌-◌, List, [], ◌∷◌, ◌++◌, length, take, refl, sym, ap, ◌∙◌, subst, arith}
use Rattle.std.proofs.lemmas.List.{length_push, take-append-le, take_all}
use Rattle.nq_history.specs.declared.entry.Entry.{Entry}
use Rattle.nq_kernel.specs.Proving.{AllButLast}
use Rattle.nq_rule_table.specs.declared.table.Rules.{Rules}
use Rattle.nq_rule_table.specs.Tables.{all_but_last, WasTaught}

last_dropped : (es : List Entry) (e : Entry) → all_but_last (es ++ e ∷ []) ≡ es
last_dropped es e =
    let long = length_push es e in
    let less : length (es ++ e ∷ []) - 1 ≡ length es = omega (arith, long) in
    ap (λ n. take n (es ++ e ∷ [])) less ∙ take-append-le (length es) es (e ∷ []) (omega arith) ∙ take_all (length es) es (omega arith)

pub but_last : (table : Rules) (entries : List Entry) → AllButLast (WasTaught table) entries → WasTaught table (all_but_last entries)
but_last table entries all = subst (WasTaught table) (sym (ap all_but_last all.whole ∙ last_dropped all.before all.last)) all.learnt
