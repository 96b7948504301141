use Rattle.std.proofs.Common.{◌≡◌, ◌+◌, ◌/◌, ◌%◌, true, map, sym, ap, ◌∙◌, subst}
use Rattle.std.specs.Prelude.{All}
use Rattle.nq_logic.specs.Names.{is_in_use}
use Rattle.nq_bank.specs.Content.{text_at}
use Rattle.nq_history.specs.Events.{event_at, events_at, ground_length, EntryStands}
use Rattle.nq_history.proofs.Lists.{All-drop}
use Rattle.nq_event.specs.Untried.{front_of, IsUntried}
use Rattle.nq_event.proofs.UntriedLemmas.{entry_used, untried_more, front_same, told}
use Rattle.nq_event.proofs.made_name.first_untried.Goals as goal
use Rattle.nq_event.proofs.made_name.first_untried.Goals.{then-number-count+then-is_front_with+then-number-eq0+in_ok-front-2, then-number-count+then-is_front_with+else-number-eq0, else-number-count}

pub text-requires : goal.text-requires
text-requires c =
    let stands = EntryStands c.args.bank.now in
    let all : All stands c.past_ground-e-items.result.now = subst (All stands) (sym c.past_ground-e-items.ensures) (All-drop stands ground_length c.args.history.now c.requires.history.entries) in
    (subst stands (sym c.e-item.is) (all c.loop-e.e-index c.e-item.result c.loop-e-test.true)).name

pub loop-e-preserved : goal.loop-e-preserved
loop-e-preserved c =
    let bank = c.args.bank.now in
    let h = events_at bank c.args.history.now in
    let name = c.args.name.now in
    let count = c.args.count in
    let number = c.loop-e.number in
    let items = c.past_ground-e-items.result.now in
    let text = text_at bank c.e-item.result.name in
    let front = c.loop-e.front.items in
    let stands = EntryStands bank in
    let all : All stands items = subst (All stands) (sym c.past_ground-e-items.ensures) (All-drop stands ground_length c.args.history.now c.requires.history.entries) in
    let used : is_in_use text h ≡ true = ap (λ es. is_in_use text (map (event_at bank) es)) (sym c.past_ground-e-items.ensures) ∙ entry_used bank items c.loop-e.e-index c.e-item.result all c.loop-e-test.true c.e-item.is in
    elim c.if-number-count.branch [
      | then-number-count+then-is_front_with+then-number-eq0+in_ok-front-2 w ↦
          record {
            untried = subst (IsUntried h name count) (sym w.number-is)
                (untried_more h name text front count number c.requires.count c.loop-e.invariant.untried w.if-number-count.true c.loop-e.invariant.front
                (told w.is_front_with.result w.text.result.now text w.as_slice.result.now front (48 + number % 10) w.is_front_with.ensures w.text.ensures.value w.as_slice.ensures.value w.if-is_front_with.true) used);
            front = ap (λ f. f.items) w.front-is ∙ w.in_ok-front-2.ensures ∙ ap (λ n. front_of name (n / 10)) (sym w.number-is);
          }
      | then-number-count+then-is_front_with+else-number-eq0 w ↦
          record {
            untried = subst (IsUntried h name count) (sym w.number-is)
                (untried_more h name text front count number c.requires.count c.loop-e.invariant.untried w.if-number-count.true c.loop-e.invariant.front
                (told w.is_front_with.result w.text.result.now text w.as_slice.result.now front (48 + number % 10) w.is_front_with.ensures w.text.ensures.value w.as_slice.ensures.value w.if-is_front_with.true) used);
            front = ap (λ f. f.items) w.front-is ∙ c.loop-e.invariant.front ∙ front_same name number w.if-number-eq0.false ∙ ap (λ n. front_of name (n / 10)) (sym w.number-is);
          }
      | else-number-count w ↦
          record {
            untried = subst (IsUntried h name count) (sym w.number-is) c.loop-e.invariant.untried;
            front = ap (λ f. f.items) w.front-is ∙ c.loop-e.invariant.front ∙ ap (λ n. front_of name (n / 10)) (sym w.number-is);
          }
    ]
