-- Arguments of terms.
use Rattle.std.proofs.Common.{◌≡◌, ◌<◌, ℕ, suc, Some, List, length, map, get_or, sym, ap, ◌∙◌, arith}
use Rattle.std.specs.Prelude.{All, slice_get}
use Rattle.std.specs.Option.{option_map}
use Rattle.std.proofs.lemmas.Option.{slice_get-map, slice_get-get_or}
use Rattle.nq_logic.specs.Ground.{symbols_of}
use Rattle.nq_bank.specs.declared.node.TermId.{TermId}
use Rattle.nq_bank.specs.Content.{term_at, terms_at}
use Rattle.nq_bank.specs.Parts.{parts_of}
use Rattle.nq_history.specs.declared.entry.Entry.{Entry}
use Rattle.nq_history.specs.Events.{events_at}
use Rattle.nq_kernel.specs.declared.work.Work.{Work}
use Rattle.nq_lines.specs.Lines.{IsTermIn}
use Rattle.nq_lines.proofs.ArgumentLemmas.{argument_over}

-- an argument of a term that is in is in
pub argument_in : (history : List Entry) (work : Work) (s : TermId) (ids : List TermId) (i : ℕ) (d : TermId) → IsTermIn history work s → terms_at work.bank ids ≡ parts_of (term_at work.bank s) → All (λ a. a.0 < s.0) ids → i < length ids → IsTermIn history work (get_or ids i d)
argument_in history work s ids i d h tells earlier below =
    let a : TermId = get_or ids i d in
    let found : slice_get ids i ≡ Some a = slice_get-get_or ids i d below in
    let at : slice_get (parts_of (term_at work.bank s)) i ≡ Some (term_at work.bank a) = ap (λ ts. slice_get ts i) (sym tells) ∙ slice_get-map (term_at work.bank) ids i ∙ ap (option_map (term_at work.bank)) found in
    let less : a.0 < s.0 = earlier i d below in
    record { stands = omega (arith, less, h.stands); over = argument_over (symbols_of (events_at work.bank history)) (term_at work.bank s) (suc i) (term_at work.bank a) h.over at }
