-- Choices of terms that lines decide.
use Rattle.std.proofs.Common.{◌≡◌, ◌≤◌, ◌<◌, ◌+◌, ◌-◌, ◌||◌, ℕ, Bool, true, false, List, [], ◌∷◌, length, get_or, take, drop, refl, sym, ap, ap₂, ◌∙◌, subst, arith}
use Rattle.std.specs.Prelude.{All, ◌==◌, bytes_eq, codes, not}
use Rattle.std.proofs.lemmas.Bool.{eqb-true}
use Rattle.std.proofs.lemmas.List.{length-map, take_all}
use Rattle.nq_logic.specs.Terms.{Name, Term, Each}
use Rattle.nq_logic.specs.Ground.{symbols_of}
use Rattle.nq_logic.specs.Histories.{History}
use Rattle.nq_logic.specs.Names.{has_name}
use Rattle.nq_logic.proofs.Symbols.{or_symbol}
use Rattle.nq_logic.specs.Numerals.{number_of}
use Rattle.nq_logic.specs.Shells.{either_of, recognized}
use Rattle.nq_logic.specs.Sizes.{depth_of, tree_depth}
use Rattle.nq_logic.specs.Words.{not_term, or_term}
use Rattle.nq_bank.specs.declared.node.Sym.{Sym}
use Rattle.nq_bank.specs.declared.node.TermId.{TermId}
use Rattle.nq_bank.specs.Content.{Content, IsIdOf, IsNamed, term_at, text_at}
use Rattle.nq_bank.specs.Shells.{texts_at}
use Rattle.nq_bank.proofs.NodesLemmas.{All-head, All-tail}
use Rattle.nq_history.specs.declared.entry.Entry.{Entry}
use Rattle.nq_history.specs.Events.{events_at}
use Rattle.nq_history.proofs.HistoryLemmas.{events_at-grown}
use Rattle.nq_history.proofs.ShellLemmas.{names-grown, texts-grown}
use Rattle.nq_kernel.specs.declared.work.Work.{Work}
use Rattle.nq_kernel.specs.Over.{IsVariable, IsTermOf}
use Rattle.nq_kernel.specs.Ready.{recognizer_limit}
use Rattle.nq_kernel.specs.Growing.{WorkStands, WorkGrows, LineHolds}
use Rattle.nq_lines.specs.Lines.{CutsTo, IsTermIn, LineHasOnly}
use Rattle.nq_lines.specs.Instances.{InstancesTo}
use Rattle.nq_lines.proofs.LineLemmas.{only_grown, only_more}
use Rattle.nq_lines.proofs.TermLemmas.{id_in, not_over, same_term_grown}
use Rattle.nq_part_lines.specs.Decisions.{IsDecided, choice_clause, choice_literals, is_of, told}
use Rattle.nq_part_lines.specs.Defaults.{IsKind, truth_kind, truth_name, truth_term}
use Rattle.nq_part_lines.specs.LawLines.{is_law, IsLaw, term_room}
use Rattle.nq_part_lines.specs.Pairs.{three_pairs}
use Rattle.nq_part_lines.specs.Small.{IsSmallIn}
use Rattle.nq_part_lines.specs.declared.kinds.Decided.{Decided}
use Rattle.nq_part_lines.proofs.CallLemmas.{call_over, one_depth}
use Rattle.nq_part_lines.proofs.GrownLemmas.{law_made}
use Rattle.nq_part_lines.proofs.ReadingLemmas.{small_grown}
use Rattle.nq_part_lines.proofs.RoomLemmas.{constant_low, either_low, two_low}
use Rattle.nq_part_lines.proofs.TakenLemmas.{only_first}

pub choice_is_law : (first second : Bool) → IsLaw (choice_clause first second)
unfolding is_law symbols_of number_of tree_depth
choice_is_law true second = refl
choice_is_law false true = refl
choice_is_law false false = refl

pub choice_made : (old new : Work) (first second : Bool) (x y : Term) (line n : ℕ) → LineHolds old line (choice_clause first second) → InstancesTo old new (three_pairs x y y) line n → LineHasOnly new n (choice_literals first second x y)
choice_made old new true second x y line n holds h = law_made old new (three_pairs x y y) (choice_clause true second) (choice_literals true second x y) line n holds h (λ v m. m)
choice_made old new false true x y line n holds h = law_made old new (three_pairs x y y) (choice_clause false true) (choice_literals false true x y) line n holds h (λ v m. m)
choice_made old new false false x y line n holds h = law_made old new (three_pairs x y y) (choice_clause false false) (choice_literals false false x y) line n holds h (λ v m. m)

-- what is told of a term, and the opposite in another line
module _ (old new : Work) (t : Term) (known line n : ℕ) where
  pub cut_held : (b : Bool) → b ≡ true → LineHasOnly old known (told b t ∷ []) → CutsTo old new t known line n → (these : List Term) → LineHasOnly old line (told (not b) t ∷ these) → LineHasOnly new n these
  cut_held true e first cuts these second = cuts these (only_more old known (t ∷ []) (t ∷ these) (only_first t these) first) second
  cut_held false e first cuts these second = absurd cc

  pub cut_denied : (b : Bool) → b ≡ false → LineHasOnly old known (told b t ∷ []) → CutsTo old new t line known n → (these : List Term) → LineHasOnly old line (told (not b) t ∷ these) → LineHasOnly new n these
  cut_denied true e first cuts these second = absurd cc
  cut_denied false e first cuts these second = cuts these second (only_more old known (not_term t ∷ []) (not_term t ∷ these) (only_first (not_term t) these) first)

-- the law's literals
module _ (work : Work) (n : ℕ) (x y : Term) where
  pub first_opposite : (a b : Bool) → a ≡ true → LineHasOnly work n (choice_literals a b x y) → LineHasOnly work n (told (not a) x ∷ told (a || b) (or_term x y) ∷ [])
  first_opposite true b e k = k
  first_opposite false b e k = absurd cc

  pub second_opposite : (a b : Bool) → a ≡ false → b ≡ true → LineHasOnly work n (choice_literals a b x y) → LineHasOnly work n (told (not b) y ∷ told (a || b) (or_term x y) ∷ [])
  second_opposite true b e f k = absurd cc
  second_opposite false true e f k = k
  second_opposite false false e f k = absurd cc

  pub both_opposite : (a b : Bool) → a ≡ false → b ≡ false → LineHasOnly work n (choice_literals a b x y) → LineHasOnly work n (told (not b) y ∷ told (not a) x ∷ told (a || b) (or_term x y) ∷ [])
  both_opposite true b e f k = absurd cc
  both_opposite false true e f k = absurd cc
  both_opposite false false e f k = k

-- what is decided, under its own id
pub decided_here : (history : List Entry) (work : Work) (t : Term) (b : Bool) (d : Decided) → IsDecided history work t b d → IsDecided history work (term_at work.bank d.term) d.holds d
decided_here history work t b d k =
    record {
      small = k.small;
      term_is = refl;
      holds_is = refl;
      line = subst (λ u. LineHasOnly work d.line (told d.holds u ∷ [])) (sym k.term_is) (subst (λ c. LineHasOnly work d.line (told c t ∷ [])) (sym k.holds_is) k.line);
    }

module _ (history : List Entry) (old new : Work) (stands : WorkStands history old) (grows : WorkGrows history old new) where
  pub decided_grown : (t : Term) (b : Bool) (d : Decided) → IsDecided history old t b d → IsDecided history new t b d
  decided_grown t b d k =
      record {
        small = small_grown history old new d.term stands grows k.small;
        term_is = same_term_grown history old new d.term grows k.small.inside ∙ k.term_is;
        holds_is = k.holds_is;
        line = only_grown history old new d.line (told b t ∷ []) stands grows k.line;
      }

  pub decided_later : (t : Term) (b : Bool) (d : Decided) → IsDecided history old t b d → IsDecided history new (term_at new.bank d.term) d.holds d
  decided_later t b d k = decided_here history new t b d (decided_grown t b d k)

-- calls of OR and NOT
module _ (history : List Entry) (old new : Work) (stands : WorkStands history old) (grows : WorkGrows history old new) where
  pub or_small : (x y u : TermId) → IsTermIn history old x → IsTermIn history old y → depth_of (or_term (term_at old.bank x) (term_at old.bank y)) ≤ term_room → IsIdOf new.bank u (or_term (term_at old.bank x) (term_at old.bank y)) → IsSmallIn history new u
  or_small x y u k l room is =
      record {
        inside = id_in history new u (or_term (term_at old.bank x) (term_at old.bank y)) is (call_over history old new stands grows (codes "OR") x y (or_symbol (events_at old.bank history)) k l);
        room = subst (λ v. depth_of v ≤ term_room) (sym is.denotes) room;
      }

  pub not_small : (x u : TermId) → IsTermIn history old x → depth_of (not_term (term_at old.bank x)) ≤ term_room → IsIdOf new.bank u (not_term (term_at old.bank x)) → IsSmallIn history new u
  not_small x u k room is =
      let t : Term = not_term (term_at old.bank x) in
      record {
        inside = id_in history new u t is (subst (λ es. IsTermOf IsVariable (symbols_of es) t) (sym (events_at-grown old.bank new.bank grows.bank history stands.history.entries)) (not_over history old (term_at old.bank x) k.over));
        room = subst (λ v. depth_of v ≤ term_room) (sym is.denotes) room;
      }

-- the choice of two decided terms is decided
pub either_told : (history : List Entry) (old mid new : Work) (a b : Decided) (t : TermId) (holds : Bool) (n : ℕ) → WorkStands history old → WorkGrows history old mid → WorkStands history mid → WorkGrows history mid new → IsSmallIn history old a.term → IsSmallIn history old b.term →
    depth_of (or_term (term_at old.bank a.term) (term_at old.bank b.term)) ≤ term_room → IsIdOf mid.bank t (or_term (term_at old.bank a.term) (term_at old.bank b.term)) → holds ≡ (a.holds || b.holds) → LineHasOnly new n (told (a.holds || b.holds) (or_term (term_at mid.bank a.term) (term_at mid.bank b.term)) ∷ []) →
    IsDecided history new (or_term (term_at old.bank a.term) (term_at old.bank b.term)) (a.holds || b.holds) (record { term = t; holds = holds; line = n })
either_told history old mid new a b t holds n stands grows stands_mid later ka kb room is same line =
    let small : IsSmallIn history mid t = or_small history old mid stands grows a.term b.term t ka.inside kb.inside room is in
    let whole : or_term (term_at mid.bank a.term) (term_at mid.bank b.term) ≡ or_term (term_at old.bank a.term) (term_at old.bank b.term) = ap₂ or_term (same_term_grown history old mid a.term grows ka.inside) (same_term_grown history old mid b.term grows kb.inside) in
    record {
      small = small_grown history mid new t stands_mid later small;
      term_is = same_term_grown history mid new t later small.inside ∙ is.denotes;
      holds_is = same;
      line = subst (λ u. LineHasOnly new n (told (a.holds || b.holds) u ∷ [])) whole line;
    }

pub by_first : (a b : Bool) → a ≡ true → a ≡ (a || b)
by_first true b e = refl
by_first false b e = absurd cc

pub by_second : (a b : Bool) → a ≡ false → b ≡ (a || b)
by_second true b e = absurd cc
by_second false b e = refl

-- how deep a choice of kinds is
pub or_room : (r : Name) (rs : List Name) (value : Bool) (a b : Term) → length rs ≤ recognizer_limit → a ≡ is_of r value → b ≡ either_of (recognized rs (truth_term value)) → depth_of (or_term a b) ≤ term_room
or_room r rs value a b few e f =
    let rest : Term = either_of (recognized rs (truth_term value)) in
    let base : depth_of (truth_term value) ≤ 1 = constant_low (truth_name value) in
    let one : depth_of (is_of r value) ≤ depth_of (truth_term value) + 1 = one_depth r (truth_term value) in
    let more : depth_of rest ≤ length rs + depth_of (truth_term value) + 1 = either_low rs (truth_term value) in
    let left : depth_of (is_of r value) ≤ 200 = omega (arith, base, one) in
    let right : depth_of rest ≤ 200 = omega (arith, base, more, few) in
    let low : depth_of (or_term (is_of r value) rest) ≤ 200 + 1 = two_low (codes "OR") (is_of r value) rest 200 left right in
    let room : depth_of (or_term (is_of r value) rest) ≤ term_room = omega (arith, low) in
    subst (λ u. depth_of u ≤ term_room) (sym (ap₂ or_term e f)) room

-- one kind, and more
or_false : (b : Bool) → b ≡ (b || false)
or_false true = refl
or_false false = refl

module _ (history : List Entry) (work : Work) (bank : Content) (value : Bool) (d : Decided) where
  -- what is decided of some kinds
  abbrev AreDecided : List Sym → Type 0
  AreDecided names = IsDecided history work (either_of (recognized (texts_at bank names) (truth_term value))) (has_name (truth_kind value) (texts_at bank names)) d

  pub one_kind : (names : List Sym) (s : Sym) (rest : List Sym) → names ≡ s ∷ rest → (length rest == 0) ≡ true → IsDecided history work (is_of (text_at bank s) value) (bytes_eq (truth_kind value) (text_at bank s)) d → AreDecided names
  one_kind names s [] apart none k =
      subst AreDecided (sym apart) (subst (λ b. IsDecided history work (is_of (text_at bank s) value) b d) (or_false (bytes_eq (truth_kind value) (text_at bank s))) k)
  one_kind names s (y ∷ rest) apart none k = let same : length (y ∷ rest) ≡ 0 = eqb-true (length (y ∷ rest)) 0 none in absurd (omega (arith, same))

  pub more_kinds : (names : List Sym) (s : Sym) (rest : List Sym) → names ≡ s ∷ rest → (length rest == 0) ≡ false →
      IsDecided history work (or_term (is_of (text_at bank s) value) (either_of (recognized (texts_at bank rest) (truth_term value)))) (bytes_eq (truth_kind value) (text_at bank s) || has_name (truth_kind value) (texts_at bank rest)) d →
      AreDecided names
  more_kinds names s [] apart some k = absurd cc
  more_kinds names s (y ∷ rest) apart some k = subst AreDecided (sym apart) k

pub some_more : {X : Type 0} (rest : List X) → (length rest == 0) ≡ false → 0 < length rest
some_more [] some = absurd cc
some_more (y ∷ rest) some = omega arith

-- the first of some, and those behind it
pub first_apart : {X : Type 0} (xs : List X) (none : X) → 1 ≤ length xs → xs ≡ get_or xs 0 none ∷ take (length xs - 1) (drop 1 xs)
first_apart [] none least = absurd (omega (arith, least))
first_apart (y ∷ ys) none least = ap (λ zs. y ∷ zs) (sym (take_all (length (y ∷ ys) - 1) ys (omega arith)))

-- what each of some kinds is asked to be
module _ (history : List Entry) (old new : Work) (stands : WorkStands history old) (grows : WorkGrows history old new) where
  pub named_grown : (names : List Sym) → All (IsNamed old.bank) names → All (IsNamed new.bank) names
  named_grown names k = names-grown old.bank new.bank grows.bank names k

  pub kinds_grown : (names : List Sym) → All (IsNamed old.bank) names → Each (IsKind (events_at old.bank history)) (texts_at old.bank names) → Each (IsKind (events_at new.bank history)) (texts_at new.bank names)
  kinds_grown names named k =
      subst (Each (IsKind (events_at new.bank history))) (sym (texts-grown old.bank new.bank grows.bank names named)) (
      subst (λ es. Each (IsKind es) (texts_at old.bank names)) (sym (events_at-grown old.bank new.bank grows.bank history stands.history.entries)) k)

-- one of them, and those behind it
pub behind : {X : Type 0} (P : X → Type 0) (xs : List X) (x : X) (rest : List X) → xs ≡ x ∷ rest → All P xs → P x × All P rest
behind P xs x rest apart all =
    let both = subst (All P) apart all in
    (All-head P x rest both, All-tail P x rest both)

pub kinds_behind : (h : History) (bank : Content) (names : List Sym) (s : Sym) (rest : List Sym) → names ≡ s ∷ rest → Each (IsKind h) (texts_at bank names) → IsKind h (text_at bank s) × Each (IsKind h) (texts_at bank rest)
kinds_behind h bank names s rest apart k = subst (λ ns. Each (IsKind h) (texts_at bank ns)) apart k

-- the room of a choice, by the names
pub names_room : (bank : Content) (r : Name) (rest : List Sym) (value : Bool) (a b : Term) → length rest ≤ recognizer_limit → a ≡ is_of r value → b ≡ either_of (recognized (texts_at bank rest) (truth_term value)) → depth_of (or_term a b) ≤ term_room
names_room bank r rest value a b few e f =
    let many : length (texts_at bank rest) ≡ length rest = length-map rest (text_at bank) in
    let little : length (texts_at bank rest) ≤ recognizer_limit = omega (arith, many, few) in
    or_room r (texts_at bank rest) value a b little e f

-- what is decided of a choice is decided of what its parts are
pub decided_as : (history : List Entry) (work : Work) (a b x y : Term) (p q v w : Bool) (d : Decided) → a ≡ x → b ≡ y → p ≡ v → q ≡ w → IsDecided history work (or_term a b) (p || q) d → IsDecided history work (or_term x y) (v || w) d
decided_as history work a b x y p q v w d e f g i k =
    subst (λ t. IsDecided history work t (v || w) d) (ap₂ or_term e f) (subst (λ c. IsDecided history work (or_term a b) c d) (ap₂ (λ c e. c || e) g i) k)
