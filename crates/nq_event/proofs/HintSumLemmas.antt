-- Hints that are put together one by one.
use Rattle.std.proofs.Common.{◌≡◌, Bool, true, false, ◌||◌, ◌&&◌, not, List, [], ◌∷◌, ◌++◌, map, refl, sym, ap, ◌∙◌, subst, append_assoc, Vec, Global}
use Rattle.std.specs.Prelude.{All, Option, None, Some, IfSome, is_some, if◌then◌else◌}
use Rattle.std.specs.Option.{option_map}
use Rattle.std.specs.List.{list_all}
use Rattle.std.proofs.lemmas.List.{append-nil, map-append}
use Rattle.nq_logic.specs.Terms.{Name, Term}
use Rattle.nq_logic.specs.Histories.{History}
use Rattle.nq_bank.specs.declared.node.Sym.{Sym}
use Rattle.nq_bank.specs.declared.node.TermId.{TermId}
use Rattle.nq_bank.specs.Content.{Content, Grows, IsNamed, Stands, text_at, term_at}
use Rattle.nq_bank.specs.Shells.{texts_at}
use Rattle.nq_form.specs.Form.{Form}
use Rattle.nq_bank.proofs.Growth.{Stands-grown, term_at-grown}
use Rattle.nq_bank.proofs.NodesLemmas.{All-head, All-tail}
use Rattle.nq_history.proofs.Lists.{All-cons}
use Rattle.nq_events.specs.Events as model
use Rattle.nq_events.specs.Events.{Hints}
use Rattle.nq_events.specs.Refusals.{BadHint}
use Rattle.nq_events.specs.WrittenHints.{HintKind, WrittenHint, WrittenInstance, Use, Enable, Disable, Expand, Induct, DoNotInduct, DoNotGeneralize, HandsOff, NoArithmetic}
use Rattle.nq_events.specs.TermRefusals.{arity_of, first, hint_forms, instances_forms, term_refusal, terms_refusal}
use Rattle.nq_events.specs.HintTerms.{given, used, expanded, inducted, first_term, hints_given, instance_given, term_in, listed_by}
use Rattle.nq_events.specs.HintRefusals.{first_bad, is_event, is_function, is_good_hint, is_usable, stands_twice}
use Rattle.nq_events.specs.Inductions.{opened_by, suggests_induction}
use Rattle.nq_history.specs.declared.hints.Hints.{Hints as KeptHints}
use Rattle.nq_history.specs.declared.hints.Instance.{Instance}
use Rattle.nq_history.specs.Hints.{HintsStand, InstanceStands}
use Rattle.nq_event.specs.EventsAt.{hints_at, instance_at}
use Rattle.nq_event.specs.HintSums.{no_hints, id_or, term_or, joined, hint_given, IsAdded}
use Rattle.nq_event.specs.Readings.{AreNamesOf}
use Rattle.nq_event.proofs.DefinitionLemmas.{or_assoc, or_false}
use Rattle.nq_event.proofs.GrownLemmas.{Stays, names_stay, terms_stay, instances_stay, all_keep, map_grown}
use Rattle.nq_event.proofs.ToldLemmas.{first_none}

-- hints stay as a bank grows
module _ (old new : Content) (grows : Grows old new) where
  induct_same : (o : Option TermId) → IfSome o (Stands old) → option_map (term_at new) o ≡ option_map (term_at old) o
  induct_same None h = refl
  induct_same (Some t) h = ap Some (term_at-grown old new t grows h)

  induct_stands : (o : Option TermId) → IfSome o (Stands old) → IfSome o (Stands new)
  induct_stands None h = tt
  induct_stands (Some t) h = Stands-grown old new t grows h

  pub hints_same : (hints : KeptHints) → HintsStand old hints → hints_at new hints ≡ hints_at old hints
  hints_same hints h =
      let i = map_grown InstanceStands instance_at instances_stay old new grows hints.instances.items h.instances in
      let e = map_grown IsNamed text_at names_stay old new grows hints.enable.items h.enable in
      let d = map_grown IsNamed text_at names_stay old new grows hints.disable.items h.disable in
      let x = map_grown Stands term_at terms_stay old new grows hints.expand.items h.expand in
      let t = induct_same hints.induct h.induct in
      let o = map_grown IsNamed text_at names_stay old new grows hints.hands_off.items h.hands_off in
      rw (i, e, d, x, t, o) refl

  pub hints_keep : (hints : KeptHints) → HintsStand old hints → HintsStand new hints
  hints_keep hints h = record {
    instances = all_keep InstanceStands instance_at instances_stay old new grows hints.instances.items h.instances;
    enable = all_keep IsNamed text_at names_stay old new grows hints.enable.items h.enable;
    disable = all_keep IsNamed text_at names_stay old new grows hints.disable.items h.disable;
    expand = all_keep Stands term_at terms_stay old new grows hints.expand.items h.expand;
    induct = induct_stands hints.induct h.induct;
    hands_off = all_keep IsNamed text_at names_stay old new grows hints.hands_off.items h.hands_off;
  }

-- two lists of what holds
pub All-both : {X : Type 0} (P : X → Type 0) (xs ys : List X) → All P xs → All P ys → All P (xs ++ ys)
All-both P [] ys h k = k
All-both P (x ∷ xs) ys h k = All-cons P x (xs ++ ys) (All-head P x xs h) (All-both P xs ys (All-tail P x xs h) k)

term_or_assoc : (a b c : Option Term) → term_or (term_or a b) c ≡ term_or a (term_or b c)
term_or_assoc None b c = refl
term_or_assoc (Some t) b c = refl

pub term_or_none : (a : Option Term) → term_or a None ≡ a
term_or_none None = refl
term_or_none (Some t) = refl

pub joined_assoc : (a b c : Hints) → joined (joined a b) c ≡ joined a (joined b c)
joined_assoc a b c =
    let i = append_assoc a.instances b.instances c.instances in
    let e = append_assoc a.enable b.enable c.enable in
    let d = append_assoc a.disable b.disable c.disable in
    let x = append_assoc a.expand b.expand c.expand in
    let t = term_or_assoc a.induct b.induct c.induct in
    let o = append_assoc a.hands_off b.hands_off c.hands_off in
    let u = or_assoc a.no_induct b.no_induct c.no_induct in
    let g = or_assoc a.no_generalize b.no_generalize c.no_generalize in
    let r = or_assoc a.no_arith b.no_arith c.no_arith in
    rw (i, e, d, x, t, o, u, g, r) refl

pub joined_none : (a : Hints) → joined a no_hints ≡ a
joined_none a =
    let i = append-nil a.instances in
    let e = append-nil a.enable in
    let d = append-nil a.disable in
    let x = append-nil a.expand in
    let t = term_or_none a.induct in
    let o = append-nil a.hands_off in
    let u = or_false a.no_induct in
    let g = or_false a.no_generalize in
    let r = or_false a.no_arith in
    rw (i, e, d, x, t, o, u, g, r) refl

first_append : (f : Form → Term) (xs ys : List Form) → first_term (map f (xs ++ ys)) ≡ term_or (first_term (map f xs)) (first_term (map f ys))
first_append f [] ys = refl
first_append f (x ∷ xs) ys = refl

-- what one hint says, before the others
pub given_more : (h : History) (hint : WrittenHint) (hints : List WrittenHint) → hints_given h (hint ∷ hints) ≡ joined (hint_given h hint.kind) (hints_given h hints)
given_more h hint hints =
    let i = map-append (instance_given h) (listed_by used hint.kind) (given used hints) in
    let x = map-append (term_in h) (listed_by expanded hint.kind) (given expanded hints) in
    let t = first_append (term_in h) (listed_by inducted hint.kind) (given inducted hints) in
    rw (i, x, t) refl

-- the first bad hint, before the others
pub bad_more : (h : History) (words : List Name) (hint : WrittenHint) (hints : List WrittenHint) (good : Bool) → good ≡ (is_good_hint h hint.kind && not (stands_twice hint.word words))
    → first_bad h words (hint ∷ hints) ≡ first (if good then None else Some (BadHint hint.word)) (first_bad h words hints)
bad_more h words hint hints good e = chosen (is_good_hint h hint.kind && not (stands_twice hint.word words)) good e where
  chosen : (b good : Bool) → good ≡ b → (if b then first_bad h words hints else Some (BadHint hint.word)) ≡ first (if good then None else Some (BadHint hint.word)) (first_bad h words hints)
  chosen true true k = refl
  chosen true false k = absurd (cc)
  chosen false true k = absurd (cc)
  chosen false false k = refl

-- a hint is added to those before it
module _ (h : History) (old new : Content) (grows : Grows old new) (before : KeptHints) (stand : HintsStand old before) where
  set_to : {F : Type 0} (set : Hints → F → Hints) (one : Hints) (seen meant : F) → set (joined (hints_at old before) no_hints) meant ≡ joined (hints_at old before) one → seen ≡ meant → set (hints_at new before) seen ≡ joined (hints_at old before) one
  set_to set one seen meant e k =
      ap (λ z. set z seen) (hints_same old new grows before stand ∙ sym (joined_none (hints_at old before))) ∙ ap (set (joined (hints_at old before) no_hints)) k ∙ e

  more_at : {X Y : Type 0} (S : Content → X → Type 0) (at : Content → X → Y) (stays : Stays S at) (xs more pushed : List X) (ys : List Y) → All (S old) xs → pushed ≡ xs ++ more → map (at new) more ≡ ys → map (at new) pushed ≡ map (at old) xs ++ ys
  more_at S at stays xs more pushed ys h is k = ap (map (at new)) is ∙ map-append (at new) xs more ∙ ap (λ zs. zs ++ map (at new) more) (map_grown S at stays old new grows xs h) ∙ ap (λ zs. map (at old) xs ++ zs) k

  more_stand : {X Y : Type 0} (S : Content → X → Type 0) (at : Content → X → Y) (stays : Stays S at) (xs more pushed : List X) → All (S old) xs → pushed ≡ xs ++ more → All (S new) more → All (S new) pushed
  more_stand S at stays xs more pushed h is k = subst (All (S new)) (sym is) (All-both (S new) xs more (all_keep S at stays old new grows xs h) k)

  kept : HintsStand new before
  kept = hints_keep old new grows before stand

  pub enabled_added : (v : Vec Sym Global) (names : List Sym) (texts : List Name) (good : Bool) → v.items ≡ before.enable.items ++ names → AreNamesOf new texts names → good ≡ list_all (is_event h) texts
      → IsAdded h old new (Some (Enable texts)) before (record { instances = before.instances; enable = v; disable = before.disable; expand = before.expand; induct = before.induct; hands_off = before.hands_off; no_induct = before.no_induct; no_generalize = before.no_generalize; no_arith = before.no_arith }) good
  enabled_added v names texts good is read k = record {
    stand = record { instances = kept.instances; enable = more_stand IsNamed text_at names_stay before.enable.items names v.items stand.enable is read.stand; disable = kept.disable; expand = kept.expand; induct = kept.induct; hands_off = kept.hands_off };
    unrefused = refl;
    are = set_to (λ (z : Hints) (w : List Name). record { instances = z.instances; enable = w; disable = z.disable; expand = z.expand; induct = z.induct; hands_off = z.hands_off; no_induct = z.no_induct; no_generalize = z.no_generalize; no_arith = z.no_arith }) (hint_given h (Some (Enable texts))) (texts_at new v.items) (texts_at old before.enable.items ++ texts) refl (more_at IsNamed text_at names_stay before.enable.items names v.items texts stand.enable is read.read);
    good_is = k;
  }

  pub disabled_added : (v : Vec Sym Global) (names : List Sym) (texts : List Name) (good : Bool) → v.items ≡ before.disable.items ++ names → AreNamesOf new texts names → good ≡ list_all (is_event h) texts
      → IsAdded h old new (Some (Disable texts)) before (record { instances = before.instances; enable = before.enable; disable = v; expand = before.expand; induct = before.induct; hands_off = before.hands_off; no_induct = before.no_induct; no_generalize = before.no_generalize; no_arith = before.no_arith }) good
  disabled_added v names texts good is read k = record {
    stand = record { instances = kept.instances; enable = kept.enable; disable = more_stand IsNamed text_at names_stay before.disable.items names v.items stand.disable is read.stand; expand = kept.expand; induct = kept.induct; hands_off = kept.hands_off };
    unrefused = refl;
    are = set_to (λ (z : Hints) (w : List Name). record { instances = z.instances; enable = z.enable; disable = w; expand = z.expand; induct = z.induct; hands_off = z.hands_off; no_induct = z.no_induct; no_generalize = z.no_generalize; no_arith = z.no_arith }) (hint_given h (Some (Disable texts))) (texts_at new v.items) (texts_at old before.disable.items ++ texts) refl (more_at IsNamed text_at names_stay before.disable.items names v.items texts stand.disable is read.read);
    good_is = k;
  }

  pub left_alone_added : (v : Vec Sym Global) (names : List Sym) (texts : List Name) (good : Bool) → v.items ≡ before.hands_off.items ++ names → AreNamesOf new texts names → good ≡ list_all (is_function h) texts
      → IsAdded h old new (Some (HandsOff texts)) before (record { instances = before.instances; enable = before.enable; disable = before.disable; expand = before.expand; induct = before.induct; hands_off = v; no_induct = before.no_induct; no_generalize = before.no_generalize; no_arith = before.no_arith }) good
  left_alone_added v names texts good is read k = record {
    stand = record { instances = kept.instances; enable = kept.enable; disable = kept.disable; expand = kept.expand; induct = kept.induct; hands_off = more_stand IsNamed text_at names_stay before.hands_off.items names v.items stand.hands_off is read.stand };
    unrefused = refl;
    are = set_to (λ (z : Hints) (w : List Name). record { instances = z.instances; enable = z.enable; disable = z.disable; expand = z.expand; induct = z.induct; hands_off = w; no_induct = z.no_induct; no_generalize = z.no_generalize; no_arith = z.no_arith }) (hint_given h (Some (HandsOff texts))) (texts_at new v.items) (texts_at old before.hands_off.items ++ texts) refl (more_at IsNamed text_at names_stay before.hands_off.items names v.items texts stand.hands_off is read.read);
    good_is = k;
  }

  pub used_added : (v : Vec Instance Global) (more : List Instance) (written : List WrittenInstance) (good : Bool) → v.items ≡ before.instances.items ++ more → All (InstanceStands new) more → terms_refusal (arity_of h) (instances_forms written) ≡ None
      → map (instance_at new) more ≡ map (instance_given h) written → good ≡ list_all (is_usable h) written → IsAdded h old new (Some (Use written)) before (record { instances = v; enable = before.enable; disable = before.disable; expand = before.expand; induct = before.induct; hands_off = before.hands_off; no_induct = before.no_induct; no_generalize = before.no_generalize; no_arith = before.no_arith }) good
  used_added v more written good is there none read k = record {
    stand = record { instances = more_stand InstanceStands instance_at instances_stay before.instances.items more v.items stand.instances is there; enable = kept.enable; disable = kept.disable; expand = kept.expand; induct = kept.induct; hands_off = kept.hands_off };
    unrefused = none;
    are = set_to (λ (z : Hints) (w : List model.Instance). record { instances = w; enable = z.enable; disable = z.disable; expand = z.expand; induct = z.induct; hands_off = z.hands_off; no_induct = z.no_induct; no_generalize = z.no_generalize; no_arith = z.no_arith }) (hint_given h (Some (Use written))) (map (instance_at new) v.items) (map (instance_at old) before.instances.items ++ map (instance_given h) written) refl (more_at InstanceStands instance_at instances_stay before.instances.items more v.items (map (instance_given h) written) stand.instances is read);
    good_is = k;
  }

  are_opened : (forms : List Form) → list_all (λ t. is_some (opened_by h t)) (map (term_in h) forms) ≡ list_all (λ form. is_some (opened_by h (term_in h form))) forms
  are_opened [] = refl
  are_opened (f ∷ forms) = ap (λ b. is_some (opened_by h (term_in h f)) && b) (are_opened forms)

  pub expanded_added : (v : Vec TermId Global) (more : List TermId) (forms : List Form) (good : Bool) → v.items ≡ before.expand.items ++ more → All (Stands new) more → terms_refusal (arity_of h) forms ≡ None
      → map (term_at new) more ≡ map (term_in h) forms → good ≡ list_all (λ t. is_some (opened_by h t)) (map (term_at new) more) → IsAdded h old new (Some (Expand forms)) before (record { instances = before.instances; enable = before.enable; disable = before.disable; expand = v; induct = before.induct; hands_off = before.hands_off; no_induct = before.no_induct; no_generalize = before.no_generalize; no_arith = before.no_arith }) good
  expanded_added v more forms good is there none read k = record {
    stand = record { instances = kept.instances; enable = kept.enable; disable = kept.disable; expand = more_stand Stands term_at terms_stay before.expand.items more v.items stand.expand is there; induct = kept.induct; hands_off = kept.hands_off };
    unrefused = none;
    are = set_to (λ (z : Hints) (w : List Term). record { instances = z.instances; enable = z.enable; disable = z.disable; expand = w; induct = z.induct; hands_off = z.hands_off; no_induct = z.no_induct; no_generalize = z.no_generalize; no_arith = z.no_arith }) (hint_given h (Some (Expand forms))) (map (term_at new) v.items) (map (term_at old) before.expand.items ++ map (term_in h) forms) refl (more_at Stands term_at terms_stay before.expand.items more v.items (map (term_in h) forms) stand.expand is read);
    good_is = k ∙ ap (list_all (λ t. is_some (opened_by h t))) read ∙ are_opened forms;
  }

  or_stands : (o : Option TermId) (t : TermId) → IfSome o (Stands new) → Stands new t → IfSome (id_or o t) (Stands new)
  or_stands None t h k = k
  or_stands (Some s) t h k = h

  or_same : (o : Option TermId) (t : TermId) (u : Term) → IfSome o (Stands old) → term_at new t ≡ u → option_map (term_at new) (id_or o t) ≡ term_or (option_map (term_at old) o) (Some u)
  or_same None t u h k = ap Some k
  or_same (Some s) t u h k = ap Some (term_at-grown old new s grows h)

  pub inducted_added : (o : Option TermId) (t : TermId) (form : Form) (good : Bool) → o ≡ id_or before.induct t → Stands new t → term_refusal (arity_of h) form ≡ None → term_at new t ≡ term_in h form → good ≡ suggests_induction h (term_at new t)
      → IsAdded h old new (Some (Induct form)) before (record { instances = before.instances; enable = before.enable; disable = before.disable; expand = before.expand; induct = o; hands_off = before.hands_off; no_induct = before.no_induct; no_generalize = before.no_generalize; no_arith = before.no_arith }) good
  inducted_added o t form good is there none read k = record {
    stand = record { instances = kept.instances; enable = kept.enable; disable = kept.disable; expand = kept.expand; induct = subst (λ z. IfSome z (Stands new)) (sym is) (or_stands before.induct t kept.induct there); hands_off = kept.hands_off };
    unrefused = first_none (term_refusal (arity_of h) form) ∙ none;
    are = set_to (λ (z : Hints) (w : Option Term). record { instances = z.instances; enable = z.enable; disable = z.disable; expand = z.expand; induct = w; hands_off = z.hands_off; no_induct = z.no_induct; no_generalize = z.no_generalize; no_arith = z.no_arith }) (hint_given h (Some (Induct form))) (option_map (term_at new) o) (term_or (option_map (term_at old) before.induct) (Some (term_in h form))) refl (ap (option_map (term_at new)) is ∙ or_same before.induct t (term_in h form) stand.induct read);
    good_is = k ∙ ap (suggests_induction h) read;
  }

  or_true : (b : Bool) → true ≡ (b || true)
  or_true true = refl
  or_true false = refl

  pub no_induct_added : IsAdded h old new (Some DoNotInduct) before (record { instances = before.instances; enable = before.enable; disable = before.disable; expand = before.expand; induct = before.induct; hands_off = before.hands_off; no_induct = true; no_generalize = before.no_generalize; no_arith = before.no_arith }) true
  no_induct_added = record { stand = record { instances = kept.instances; enable = kept.enable; disable = kept.disable; expand = kept.expand; induct = kept.induct; hands_off = kept.hands_off }; unrefused = refl; are = set_to (λ (z : Hints) (w : Bool). record { instances = z.instances; enable = z.enable; disable = z.disable; expand = z.expand; induct = z.induct; hands_off = z.hands_off; no_induct = w; no_generalize = z.no_generalize; no_arith = z.no_arith }) (hint_given h (Some DoNotInduct)) true (before.no_induct || true) refl (or_true before.no_induct); good_is = refl }

  pub no_generalize_added : IsAdded h old new (Some DoNotGeneralize) before (record { instances = before.instances; enable = before.enable; disable = before.disable; expand = before.expand; induct = before.induct; hands_off = before.hands_off; no_induct = before.no_induct; no_generalize = true; no_arith = before.no_arith }) true
  no_generalize_added = record { stand = record { instances = kept.instances; enable = kept.enable; disable = kept.disable; expand = kept.expand; induct = kept.induct; hands_off = kept.hands_off }; unrefused = refl; are = set_to (λ (z : Hints) (w : Bool). record { instances = z.instances; enable = z.enable; disable = z.disable; expand = z.expand; induct = z.induct; hands_off = z.hands_off; no_induct = z.no_induct; no_generalize = w; no_arith = z.no_arith }) (hint_given h (Some DoNotGeneralize)) true (before.no_generalize || true) refl (or_true before.no_generalize); good_is = refl }

  pub no_arith_added : IsAdded h old new (Some NoArithmetic) before (record { instances = before.instances; enable = before.enable; disable = before.disable; expand = before.expand; induct = before.induct; hands_off = before.hands_off; no_induct = before.no_induct; no_generalize = before.no_generalize; no_arith = true }) true
  no_arith_added = record { stand = record { instances = kept.instances; enable = kept.enable; disable = kept.disable; expand = kept.expand; induct = kept.induct; hands_off = kept.hands_off }; unrefused = refl; are = set_to (λ (z : Hints) (w : Bool). record { instances = z.instances; enable = z.enable; disable = z.disable; expand = z.expand; induct = z.induct; hands_off = z.hands_off; no_induct = z.no_induct; no_generalize = z.no_generalize; no_arith = w }) (hint_given h (Some NoArithmetic)) true (before.no_arith || true) refl (or_true before.no_arith); good_is = refl }

  pub nothing_added : (kind : Option HintKind) (good : Bool) → terms_refusal (arity_of h) (hint_forms kind) ≡ None → hint_given h kind ≡ no_hints → good ≡ is_good_hint h kind → IsAdded h old new kind before before good
  nothing_added kind good none e k = record { stand = kept; unrefused = none; are = hints_same old new grows before stand ∙ sym (joined_none (hints_at old before)) ∙ ap (joined (hints_at old before)) (sym e); good_is = k }
