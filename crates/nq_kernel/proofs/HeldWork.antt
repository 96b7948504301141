-- Work over a ready history holds however it grows.
use Rattle.std.proofs.Common.{◌≡◌, ℕ, zero, suc, ◌<◌, ◌≤◌, Option, Some, None, List, [], ◌∷◌, length, take, refl, sym, ap, ◌∙◌, subst, arith}
use Rattle.std.specs.Prelude.{slice_get}
use Rattle.std.specs.Option.{option_map}
use Rattle.nq_logic.specs.Terms.{Term}
use Rattle.nq_logic.specs.Formulas.{clause}
use Rattle.nq_logic.specs.Histories.{History}
use Rattle.nq_logic.specs.Derivations.{Derivable}
use Rattle.nq_bank.specs.declared.node.TermId.{TermId}
use Rattle.nq_bank.specs.Content.{Content, terms_at}
use Rattle.nq_bank.proofs.Growth.{terms_at-grown}
use Rattle.nq_proof.specs.Laws.{LinesHold}
use Rattle.nq_arith.specs.Laws.{FullSoundness}
use Rattle.nq_history.specs.declared.entry.Entry.{Entry}
use Rattle.nq_history.specs.Events.{events_at}
use Rattle.nq_history.proofs.HistoryLemmas.{events_at-grown}
use Rattle.nq_kernel.specs.declared.rule.Line.{Line}
use Rattle.nq_kernel.specs.declared.work.Work.{Work}
use Rattle.nq_kernel.specs.Lines.{ids_of, ids_at}
use Rattle.nq_kernel.specs.Meaning.{clause_at}
use Rattle.nq_kernel.specs.Over.{IsVariable}
use Rattle.nq_kernel.specs.Growing.{WorkStands, WorkGrows}
use Rattle.nq_kernel.specs.Ready.{IsReady}
use Rattle.nq_kernel.specs.ReadyLaws.{NoLineHolds, GrownWorkHolds}
use Rattle.nq_kernel.proofs.LogLemmas.{ids_stand}
use Rattle.nq_kernel.proofs.SoundLines.{lines_law}
use Rattle.nq_kernel.proofs.ReadyLaws.{closed_law, lemmas_law}

no_line : (h : History) (bank : Content) → LinesHold h (clause_at bank [])
no_line h bank zero c e = absurd cc
no_line h bank (suc n) c e = absurd cc

pub none_law : NoLineHolds
none_law history work none = subst (λ log. LinesHold (events_at work.bank history) (clause_at work.bank log)) (sym none) (no_line (events_at work.bank history) work.bank)

slice_get-below : {X : Type 0} (xs : List X) (m k : ℕ) → k < m → slice_get (take m xs) k ≡ slice_get xs k
slice_get-below [] zero k below = refl
slice_get-below [] (suc m) k below = refl
slice_get-below (x ∷ xs) zero k below = absurd (omega (arith, below))
slice_get-below (x ∷ xs) (suc m) zero below = refl
slice_get-below (x ∷ xs) (suc m) (suc k) below = slice_get-below xs m k (omega (arith, below))

-- a line that stood before has the ids that it had
ids_before : (old new : List Line) (n : ℕ) → take (length old) new ≡ old → n ≤ length old → ids_at new n ≡ ids_at old n
ids_before old new zero kept within = refl
ids_before old new (suc k) kept within =
    ap ids_of (sym (slice_get-below new (length old) k (omega (arith, within))) ∙ ap (λ xs. slice_get xs k) kept)

-- and the clause that it had
line_before : (history : List Entry) (old new : Work) (n : ℕ) (c : List Term) → WorkStands history old → WorkGrows history old new → n ≤ length old.log → clause_at new.bank new.log n ≡ Some c → clause_at old.bank old.log n ≡ Some c
line_before history old new n c stands grows within e =
    by_ids (ids_at old.log n) refl (ap (option_map (terms_at new.bank)) (sym (ids_before old.log new.log n grows.log.kept within)) ∙ e)
  where
    by_ids : (o : Option (List TermId)) → ids_at old.log n ≡ o → option_map (terms_at new.bank) (ids_at old.log n) ≡ Some c → clause_at old.bank old.log n ≡ Some c
    by_ids None is h = absurd (let none : option_map (terms_at new.bank) None ≡ Some c = ap (option_map (terms_at new.bank)) (sym is) ∙ h in cc)
    by_ids (Some ids) is h =
        ap (option_map (terms_at old.bank)) is ∙
        ap Some (sym (terms_at-grown old.bank new.bank ids grows.bank (ids_stand old.bank old.log n ids stands.log is))) ∙
        ap (option_map (terms_at new.bank)) (sym is) ∙ h

pub held_law : FullSoundness → GrownWorkHolds
held_law rules_hold history old new stands ready holds grows =
    let same : events_at new.bank history ≡ events_at old.bank history = events_at-grown old.bank new.bank grows.bank history stands.history.entries in
    let ready_still : IsReady (events_at new.bank history) = subst IsReady (sym same) ready in
    lines_law rules_hold new.bank history new.log IsVariable (length old.log) (closed_law (events_at new.bank history) ready_still) (lemmas_law (events_at new.bank history) ready_still) grows.log.legal grows.rules
    (λ n c within e. subst (λ h. Derivable h (clause c)) (sym same) (holds n c (line_before history old new n c stands grows within e)))
