use Rattle.std.proofs.Common.{◌≡◌, ℕ, suc, ◌-◌, ◌<◌, ◌≤◌, ◌++◌, List, [], map, length, get_or, nat_eq, sym, ap, ◌∙◌, subst, arith}
use Rattle.std.proofs.lemmas.List.{length-map}
use Rattle.std.proofs.lemmas.Result.{on_ok_weaker}
use Rattle.std.specs.Prelude.{Vec}
use Rattle.std.specs.declared.alloc.Global.{Global}
use Rattle.nq_logtext.specs.Lines.{Line}
use Rattle.nq_logtext.specs.Views.{view}
use Rattle.nq_logtext.specs.declared.line.LogLine.{LogLine}
use Rattle.nq_log.specs.Blocks.{lines_text}
use Rattle.nq_drops.specs.Uses.{uses, last_use}
use Rattle.nq_drops.specs.Drops.{numbers_where, dropping}
use Rattle.nq_drops.proofs.WholeLemmas.{whole_text}
use Rattle.nq_drops.proofs.SpelledDrops.{with_drops_spelled}
use Rattle.nq_drops.proofs.dropping.write_dropped.Goals as goal

pub returns-clause-ok : goal.returns-clause-ok
returns-clause-ok c =
    let items : Vec ℕ Global → List ℕ = λ ls. ls.items in
    let found : List Line = map view c.in_ok-lines.lines.items in
    let all : List (List ℕ) = map items c.in_ok-all.all.items in
    let last : List ℕ = c.in_ok-last.last.items in
    let ended : ℕ → List ℕ = λ n. get_or (map items c.in_ok-ends.ends.items) n [] in
    let all_is : all ≡ uses [] found = c.in_ok-all.ensures ∙ ap (λ (ls : List LogLine). uses [] (map view ls)) c.as_slice.ensures.value in
    let as_many : length c.as_slice-2.result.now ≡ length all = ap length c.as_slice-2.ensures.value ∙ sym (length-map c.in_ok-all.all.items items) in
    let count : length last ≡ length all = c.in_ok-last.ensures.count ∙ as_many in
    let lasts : (k : ℕ) → k < length all → get_or last k 0 ≡ last_use all (suc k) =
    λ k low. c.in_ok-last.ensures.last k (subst (λ n. k < n) (sym as_many) low) ∙ ap (λ (ls : List (Vec ℕ Global)). last_use (map items ls) (suc k)) c.as_slice-2.ensures.value in
    let ends : (n : ℕ) → n ≤ length last → ended n ≡ numbers_where (λ l. nat_eq (get_or last (l - 1) 0) n) 1 n =
    λ n low. c.in_ok-ends.ensures.ends n (subst (λ (ls : List ℕ). n ≤ length ls) (sym c.as_slice-3.ensures.value) low) ∙ ap (λ (ls : List ℕ). numbers_where (λ l. nat_eq (get_or ls (l - 1) 0) n) 1 n) c.as_slice-3.ensures.value in
    let written : c.put_dropping.new.out ≡ lines_text (dropping ended 0 found) =
    c.in_ok-put_dropping.ensures
    ∙ ap (λ (t : List ℕ). t ++ lines_text (dropping (λ n. get_or (map items c.as_slice-5.result.now) n []) 0 (map view c.as_slice-4.result.now))) c.new-dropped.ensures
    ∙ ap (λ (es : List (Vec ℕ Global)). lines_text (dropping (λ n. get_or (map items es) n []) 0 (map view c.as_slice-4.result.now))) c.as_slice-5.ensures.value
    ∙ ap (λ (ls : List LogLine). lines_text (dropping ended 0 (map view ls))) c.as_slice-4.ensures.value in
    on_ok_weaker c.extend_from_slice.result
    (λ added lines spelled reads. added ∙ ap (λ t. c.args.out.now ++ t) (c.as_slice-6.ensures ∙ written ∙ whole_text found all last ended all_is count lasts ends c.args.text.now lines spelled reads c.in_ok-lines.ensures)) c.extend_from_slice.ensures.ok

pub returns-clause-spelled : goal.returns-clause-spelled
returns-clause-spelled c =
    on_ok_weaker c.extend_from_slice.result (λ added lines spelled reads. with_drops_spelled c.args.text.now lines (omega (arith, c.type_inv.text)) spelled reads) c.extend_from_slice.ensures.ok
