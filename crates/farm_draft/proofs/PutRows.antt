-- Rows that are put in one after another, and the same rows laid over the list.
use Rattle.std.proofs.Common.{◌≡◌, ◌≢◌, ◌⊎◌, inl, inr, ℕ, zero, suc, ◌+◌, ◌<◌, Bool, true, false, List, [], ◌∷◌, ◌++◌, length, Option, None, Some, slice_get, slice_set, All, nat_eq, eqb, refl, sym, ap, subst, ◌∙◌, append_assoc, map, arith}
use Rattle.std.specs.Cmp.{nat_eq_equiv}
use Rattle.std.specs.List.{AllByRecursion, IsDistinct}
use Rattle.std.specs.Map.{keys_of, lookup}
use Rattle.std.proofs.lemmas.List.{append-nil, map-append}
use Rattle.std.proofs.lemmas.List.Elements.{All-cons, All-head, All-tail, All-nil, All-push, All-weaker, All-contains_itself}
use Rattle.std.proofs.lemmas.Map.{lookup-none}
use Rattle.std.proofs.lemmas.Map.Entries.{lookup_head, lookup_tail, none_past_head}
use Rattle.std.proofs.lemmas.Map.Keys.{IsDistinct-cons, IsDistinct-head, IsDistinct-tail}
use Rattle.std.proofs.lemmas.Map.Views.{lookup-from_Contains}
use Rattle.std.proofs.lemmas.Bool.{ne_eqb}
use Rattle.std.proofs.lemmas.Bool.Decides.{eqb_tells}
use Rattle.std.proofs.lemmas.Option.{same_Some, slice_get_within}
use Rattle.farm_types.specs.declared.rows.HostRow.{HostRow}
use Rattle.farm_types.specs.declared.rows.SubRow.{SubRow}
use Rattle.farm_types.specs.declared.slot_row.Frame.{Frame}
use Rattle.farm_types.specs.declared.slot_row.SlotRow.{SlotRow}
use Rattle.farm_types.specs.Farm.{changed_at}
use Rattle.farm_types.proofs.Changed.{changed_at_each, slice_get-set_same, slice_get-set_other}
use Rattle.farm_types.proofs.ChangedLists.{changed_at_suc, changed_at_kept}
use Rattle.host_book.specs.Life.{with_life}
use Rattle.host_book.specs.declared.life.HostLife.{HostLife}
use Rattle.job_book.specs.Book.{IsSameFrame, KeepsFrame}
use Rattle.farm_draft.specs.Ends.{IsEndOf, OnlyEnds}
use Rattle.farm_draft.specs.Laid.{laid, laid_from, row_over}
use Rattle.farm_draft.proofs.LaidRows.{changed_at-row, laid_alike, laid_is, laid_none}
use Rattle.farm_books.specs.Install.{MayBegin}
use Rattle.farm_draft.specs.Rows.{AreChangesOf, AreInstallable, ArePicked, HasOtherLife, HasSameLife, IsChanged, IsChangeOf, IsOtherLife, Stood, put_lives, put_row, put_slots, slot_of}
use Rattle.farm_draft.specs.declared.slot_change.SlotChange.{SlotChange}

-- ---- rows laid over a list

-- a row over which nothing is laid yet may be put in first
pub laid_first : {P X : Type 0} (put : P → X → X) (n : ℕ) (over next : ℕ → Option P) (xs : List X) (i k : ℕ) (p : P) → k ≡ n + i → over k ≡ None → next k ≡ Some p → ((j : ℕ) → j ≢ k → over j ≡ next j)
    → laid_from put n over (changed_at xs i (put p)) ≡ laid_from put n next xs
laid_first put n over next [] i k p at none some other = refl
laid_first {P} {X} put n over next (x ∷ xs) zero k p at none some other =
    let here : k ≡ n = omega arith in
    ap (λ (o : Option P). row_over put o (put p x) ∷ laid_from put (suc n) over xs) (ap over (sym here) ∙ none)
    ∙ ap (λ (ys : List X). put p x ∷ ys) (laid_alike put (suc n) next over xs (λ i. other (suc n + i) (omega arith)))
    ∙ ap (λ (o : Option P). row_over put o x ∷ laid_from put (suc n) next xs) (sym (ap next (sym here) ∙ some))
laid_first {P} {X} put n over next (x ∷ xs) (suc i) k p at none some other =
    let apart : n ≢ k = omega arith in
    ap (laid_from put n over) (changed_at_suc x xs i (put p))
    ∙ ap (λ (o : Option P). row_over put o x ∷ laid_from put (suc n) over (changed_at xs i (put p))) (other n apart)
    ∙ ap (λ (ys : List X). row_over put (next n) x ∷ ys) (laid_first put (suc n) over next xs i k p (omega arith) none some other)

-- ---- rows put in turn

abbrev pub put_all : {P X : Type 0} → (P → X → X) → List X → List (ℕ × P) → List X
put_all put xs [] = xs
put_all put xs (e ∷ es) = put_all put (changed_at xs e.0 (put e.1)) es

-- a change by its slot's number
abbrev pub numbered : SlotChange → ℕ × SlotChange
numbered c = (c.slot, c)

put_slots_all : (slots : List SlotRow) (cs : List SlotChange) → put_slots slots cs ≡ put_all put_row slots (map numbered cs)
put_slots_all slots [] = refl
put_slots_all slots (c ∷ cs) =
    put_slots_all (slice_set slots c.slot c.row) cs ∙ ap (λ (ys : List SlotRow). put_all put_row ys (map numbered cs)) (sym (changed_at-row slots c.slot c))

pub put_lives_all : (hosts : List HostRow) (es : List (ℕ × HostLife)) → put_lives hosts es ≡ put_all with_life hosts es
put_lives_all hosts [] = refl
put_lives_all hosts (e ∷ es) = put_lives_all (changed_at hosts e.0 (with_life e.1)) es

-- entries of distinct numbers, put in turn, are laid over the list
pub put_laid : {P X : Type 0} (put : P → X → X) (xs : List X) (es : List (ℕ × P)) → IsDistinct nat_eq (keys_of es) → put_all put xs es ≡ laid put (λ k. lookup (nat_eq k) es) xs
put_laid put xs [] distinct = sym (laid_none put 0 (λ k. None) xs (λ j. refl))
put_laid {P} put xs (e ∷ es) distinct =
    put_laid put (changed_at xs e.0 (put e.1)) es (IsDistinct-tail nat_eq e.0 (keys_of es) distinct)
    ∙ laid_first put 0 (λ k. lookup (nat_eq k) es) (λ k. lookup (nat_eq k) (e ∷ es)) xs e.0 e.0 e.1 (omega arith)
    (lookup-none (nat_eq e.0) es (none_past_head nat_eq_equiv e.0 e es distinct (nat_eq_equiv.refl e.0)))
    (lookup_head (nat_eq e.0) e es (nat_eq_equiv.refl e.0))
    (λ j apart. sym (lookup_tail (nat_eq j) e es (ne_eqb j e.0 apart)))

-- ---- rows put in turn, of which those that change nothing are left out

-- the entry is the one of its number
abbrev pub IsAt : {P : Type 0} → List (ℕ × P) → ℕ × P → Type 0
IsAt all e = lookup (nat_eq e.0) all ≡ Some e.1

-- the entry changes nothing
abbrev pub IsIdle : {P X : Type 0} → (P → X → X) → List X → ℕ × P → Type 0
IsIdle {P} {X} put xs e = (x : X) → slice_get xs e.0 ≡ Some x → put e.1 x ≡ x

still_idle : {P X : Type 0} (put : P → X → X) (xs : List X) (all : List (ℕ × P)) (d e : ℕ × P) → IsAt all d → IsAt all e → IsIdle put xs e → IsIdle put (changed_at xs d.0 (put d.1)) e
still_idle {P} {X} put xs all d e d_at e_at idle x at =
    changed_at_each (λ j y. j ≡ e.0 → put e.1 y ≡ y) xs d.0 (put d.1)
    (λ y there same.
    let one : d.1 ≡ e.1 = same_Some d.1 e.1 (sym d_at ∙ ap (λ (k : ℕ). lookup (nat_eq k) all) same ∙ e_at) in
    let stays : put e.1 y ≡ y = idle y (ap (slice_get xs) (sym same) ∙ there) in
    subst (λ (p : P). put e.1 (put p y) ≡ put p y) (sym one) (ap (put e.1) stays))
    (λ j y apart there same. idle y (ap (slice_get xs) (sym same) ∙ there))
    e.0 x at refl

put_idle : {P X : Type 0} (put : P → X → X) (xs : List X) (all done : List (ℕ × P)) (e : ℕ × P) (rest : List (ℕ × P)) → All (IsAt all) done → IsAt all e → IsIdle put xs e → put_all put xs (done ++ e ∷ rest) ≡ put_all put xs (done ++ rest)
put_idle {P} {X} put xs all [] e rest at e_at idle = ap (λ (ys : List X). put_all put ys rest) (changed_at_kept xs e.0 (put e.1) idle)
put_idle put xs all (d ∷ done) e rest at e_at idle =
    put_idle put (changed_at xs d.0 (put d.1)) all done e rest (All-tail (IsAt all) d done at) e_at (still_idle put xs all d e (All-head (IsAt all) d done at) e_at idle)

-- numbers of which one is left out stay distinct
apart_without : {P : Type 0} (n : ℕ) (done : List (ℕ × P)) (e : ℕ × P) (rest : List (ℕ × P)) → AllByRecursion (λ k. nat_eq n k ≡ false) (keys_of (done ++ e ∷ rest)) → AllByRecursion (λ k. nat_eq n k ≡ false) (keys_of (done ++ rest))
apart_without n [] e rest apart = apart.1
apart_without n (d ∷ done) e rest apart = (apart.0, apart_without n done e rest apart.1)

distinct_without : {P : Type 0} (done : List (ℕ × P)) (e : ℕ × P) (rest : List (ℕ × P)) → IsDistinct nat_eq (keys_of (done ++ e ∷ rest)) → IsDistinct nat_eq (keys_of (done ++ rest))
distinct_without [] e rest distinct = IsDistinct-tail nat_eq e.0 (keys_of rest) distinct
distinct_without (d ∷ done) e rest distinct =
    IsDistinct-cons nat_eq d.0 (keys_of (done ++ rest)) (apart_without d.0 done e rest (IsDistinct-head nat_eq d.0 (keys_of (done ++ e ∷ rest)) distinct))
    (distinct_without done e rest (IsDistinct-tail nat_eq d.0 (keys_of (done ++ e ∷ rest)) distinct))

-- the entries that were kept, with those that are left, come to what all come to; those that were kept are of one kind, all are at their numbers, and no number stands twice
pub record IsPicked {P X : Type 0} (put : P → X → X) (xs : List X) (Q : ℕ × P → Type 0) (all done rest : List (ℕ × P)) : Type 0 where
  pub same : put_all put xs (done ++ rest) ≡ put_all put xs all
  pub differ : All Q done
  pub at : All (IsAt all) done
  pub left : All (IsAt all) rest
  pub distinct : IsDistinct nat_eq (keys_of (done ++ rest))

module _ {P X : Type 0} (put : P → X → X) (xs : List X) (Q : ℕ × P → Type 0) (all : List (ℕ × P)) where
  pub picked_none : (done left : List (ℕ × P)) → done ≡ [] → left ≡ all → IsDistinct nat_eq (keys_of all) → IsPicked put xs Q all done left
  picked_none done left none each distinct =
      subst (λ (ds : List (ℕ × P)). IsPicked put xs Q all ds left) (sym none) (subst (λ (ls : List (ℕ × P)). IsPicked put xs Q all [] ls) (sym each) record {
        same = refl;
        differ = All-nil Q;
        at = All-nil (IsAt all);
        left = All-weaker _ (IsAt all) (λ e there. lookup-from_Contains nat_eq_equiv e.0 e.1 all distinct there) all (All-contains_itself all);
        distinct = distinct;
      })

  -- one entry more is kept, or left out
  pub picked_more : (done left next : List (ℕ × P)) (e : ℕ × P) (rest : List (ℕ × P)) → left ≡ e ∷ rest → next ≡ done ++ e ∷ [] → IsPicked put xs Q all done left → Q e → IsPicked put xs Q all next rest
  picked_more done left next e rest first pushed picked q =
      let p = subst (λ (ls : List (ℕ × P)). IsPicked put xs Q all done ls) first picked in
      subst (λ (ds : List (ℕ × P)). IsPicked put xs Q all ds rest) (sym pushed) record {
        same = ap (put_all put xs) (append_assoc done (e ∷ []) rest) ∙ p.same;
        differ = All-push Q done e p.differ q;
        at = All-push (IsAt all) done e p.at (All-head (IsAt all) e rest p.left);
        left = All-tail (IsAt all) e rest p.left;
        distinct = subst (λ (es : List (ℕ × P)). IsDistinct nat_eq (keys_of es)) (sym (append_assoc done (e ∷ []) rest)) p.distinct;
      }

  pub picked_past : (done left : List (ℕ × P)) (e : ℕ × P) (rest : List (ℕ × P)) → left ≡ e ∷ rest → IsPicked put xs Q all done left → IsIdle put xs e → IsPicked put xs Q all done rest
  picked_past done left e rest first picked idle =
      let p = subst (λ (ls : List (ℕ × P)). IsPicked put xs Q all done ls) first picked in
      record {
        same = sym (put_idle put xs all done e rest p.at (All-head (IsAt all) e rest p.left) idle) ∙ p.same;
        differ = p.differ;
        at = p.at;
        left = All-tail (IsAt all) e rest p.left;
        distinct = distinct_without done e rest p.distinct;
      }

  -- at the end, what was kept comes to all that is laid over the list
  pub picked_all : (done left : List (ℕ × P)) → left ≡ [] → IsPicked put xs Q all done left → IsDistinct nat_eq (keys_of all) → put_all put xs done ≡ laid put (λ k. lookup (nat_eq k) all) xs
  picked_all done left none picked distinct =
      let p = subst (λ (ls : List (ℕ × P)). IsPicked put xs Q all done ls) none picked in
      ap (put_all put xs) (sym (append-nil done)) ∙ p.same ∙ put_laid put xs all distinct

  pub picked_distinct : (done left : List (ℕ × P)) → left ≡ [] → IsPicked put xs Q all done left → IsDistinct nat_eq (keys_of done)
  picked_distinct done left none picked =
      let p = subst (λ (ls : List (ℕ × P)). IsPicked put xs Q all done ls) none picked in
      subst (λ (es : List (ℕ × P)). IsDistinct nat_eq (keys_of es)) (append-nil done) p.distinct

-- ---- entries that change nothing, and others

pub idle_life : (hosts : List HostRow) (e : ℕ × HostLife) → HasSameLife (slice_get hosts e.0) e.1 → IsIdle with_life hosts e
idle_life hosts e same x at = subst (λ (l : HostLife). with_life l x ≡ x) (subst (λ (o : Option HostRow). HasSameLife o e.1) at same) refl

pub other_life : (o : Option HostRow) (life : HostLife) → (HasSameLife o life → ⊥) → HasOtherLife o life
other_life None life differs = absurd (differs tt)
other_life (Some row) life differs = differs

-- ---- rows that may be put in

there_by : (hosts : List HostRow) (k : ℕ) (life : HostLife) (o : Option HostRow) → slice_get hosts k ≡ o → HasOtherLife o life → k < length hosts
there_by hosts k life None at other = absurd other
there_by hosts k life (Some x) at other = slice_get_within hosts k x at

-- a host that has another life is there
pub hosts_there : (hosts : List HostRow) (es : List (ℕ × HostLife)) → All (IsOtherLife hosts) es → All (λ e. e.0 < length hosts) es
hosts_there hosts es differ = All-weaker (IsOtherLife hosts) (λ e. e.0 < length hosts) (λ e other. there_by hosts e.0 e.1 (slice_get hosts e.0) refl other) es differ

-- two frames that stand where a third one stood stand where either does
same_frame : (o x y : Option Frame) → IsSameFrame o x → IsSameFrame o y → IsSameFrame x y
same_frame None x y p q = absurd p
same_frame (Some f) None y p q = absurd p
same_frame (Some f) (Some g) None p q = absurd q
same_frame (Some f) (Some g) (Some h) p q = q ∙ ap (λ (z : Frame). record z { state = h.state; retries = h.retries }) (sym p)

-- the row has the frame that stands in its slot, and no attempt
abbrev IsEnding : List SlotRow → SlotChange → Type 0
IsEnding slots c = KeepsFrame (slice_get slots c.slot) c.row × (c.row.proc ≡ None)

kept_here : (slots : List SlotRow) (k : ℕ) (row next : SlotRow) (o : Option SlotRow) → slice_get slots k ≡ o → KeepsFrame o row → KeepsFrame o next → KeepsFrame (slice_get (slice_set slots k row) k) next
kept_here slots k row next None at p q = absurd p
kept_here slots k row next (Some x) at p q = subst (λ (o : Option SlotRow). KeepsFrame o next) (sym (slice_get-set_same slots k x row at)) (same_frame x.frame row.frame next.frame p q)

-- a row that has the frame of its slot still has it after another such row was put in
kept_next : (slots : List SlotRow) (d e : SlotChange) → KeepsFrame (slice_get slots d.slot) d.row → KeepsFrame (slice_get slots e.slot) e.row → KeepsFrame (slice_get (slice_set slots d.slot d.row) e.slot) e.row
kept_next slots d e p q = by (eqb_tells e.slot d.slot)
  where
    by : ((eqb e.slot d.slot ≡ true) × (e.slot ≡ d.slot)) ⊎ ((eqb e.slot d.slot ≡ false) × (e.slot ≢ d.slot)) → KeepsFrame (slice_get (slice_set slots d.slot d.row) e.slot) e.row
    by (inl h) =
        subst (λ (k : ℕ). KeepsFrame (slice_get (slice_set slots d.slot d.row) k) e.row) (sym h.1)
        (kept_here slots d.slot d.row e.row (slice_get slots d.slot) refl p (subst (λ (k : ℕ). KeepsFrame (slice_get slots k) e.row) h.1 q))
    by (inr h) = subst (λ (o : Option SlotRow). KeepsFrame o e.row) (sym (slice_get-set_other slots d.slot e.slot d.row h.1)) q

installable : (subs : List SubRow) (slots : List SlotRow) (cs : List SlotChange) → All (IsEnding slots) cs → AreInstallable subs slots cs
installable subs slots [] all = tt
installable subs slots (c ∷ cs) all =
    let first = All-head (IsEnding slots) c cs all in (
      record { keeps = first.0; begins = subst (MayBegin subs slots c.slot) (sym first.1) tt },
      installable subs (slice_set slots c.slot c.row) cs
          (All-weaker (IsEnding slots) (IsEnding (slice_set slots c.slot c.row)) (λ d rest. (kept_next slots c d first.0 rest.0, rest.1)) cs (All-tail (IsEnding slots) c cs all)),
    )

-- where attempts only end, a row that differs ends one
ending_by : (x old new : SlotRow) (same : Bool) → x ≡ old → x ≢ new → IsEndOf same old new → IsSameFrame x.frame new.frame × (new.proc ≡ None)
ending_by x old new true one other end = absurd (other (one ∙ sym end))
ending_by x old new false one other end = subst (λ (s : SlotRow). IsSameFrame s.frame new.frame × (new.proc ≡ None)) (sym one) end

module _ (slots : List SlotRow) (over : ℕ → Option SlotChange) (changes : AreChangesOf slots over) where
  stood_over : (c : SlotChange) → over c.slot ≡ Some c → Stood slots c
  stood_over c at = (changes c.slot c at).stood

  ending_at : OnlyEnds slots (laid put_row over slots) → (c : SlotChange) → over c.slot ≡ Some c → IsChanged c → IsEnding slots c
  ending_at ends c at other =
      let stood = stood_over c at in
      let end = ends c.slot c.row (laid_is put_row over slots c.slot c.was (Some c) stood at) in
      let both = ending_by c.was end.0 c.row end.2.0 (same_Some c.was end.0 (sym stood ∙ end.1)) other end.2.1 in
      (subst (λ (o : Option SlotRow). KeepsFrame o c.row) (sym stood) both.0, both.1)

  module _ (cs : List SlotChange) (picked : ArePicked slots over cs) where
    -- the changes are of the rows that stand in their slots
    pub slots_stood : All (Stood slots) cs
    slots_stood = All-weaker (λ c. over c.slot ≡ Some c) (Stood slots) stood_over cs picked.over_are

    -- where attempts only end in what is laid over the slots, the rows may be put in, in turn
    pub slots_ready : (subs : List SubRow) → OnlyEnds slots (laid put_row over slots) → AreInstallable subs slots cs
    slots_ready subs ends =
        installable subs slots cs
        (All-weaker (λ c. IsChanged c × (over c.slot ≡ Some c)) (IsEnding slots) (λ c both. ending_at ends c both.1 both.0) cs (λ k d within. (picked.differ k d within, picked.over_are k d within)))

-- ---- one change more

pub changes_more : (slots : List SlotRow) (over next : ℕ → Option SlotChange) (k : ℕ) (c : SlotChange) → AreChangesOf slots over → next k ≡ Some c → ((j : ℕ) → nat_eq k j ≡ false → next j ≡ over j) → IsChangeOf slots k c
    → AreChangesOf slots next
changes_more slots over next k c changes is same one n d at = by (eqb_tells k n)
  where
    by : ((eqb k n ≡ true) × (k ≡ n)) ⊎ ((eqb k n ≡ false) × (k ≢ n)) → IsChangeOf slots n d
    by (inl h) = subst (λ (m : ℕ). IsChangeOf slots m d) h.1 (subst (IsChangeOf slots k) (same_Some c d (sym is ∙ (ap next h.1 ∙ at))) one)
    by (inr h) = changes n d (sym (same n h.0) ∙ at)

-- ---- the changes that are picked

unmapped : {X Y : Type 0} (P : Y → Type 0) (f : X → Y) (xs : List X) → All P (map f xs) → All (λ x. P (f x)) xs
unmapped P f [] all = All-nil _
unmapped P f (x ∷ xs) all = All-cons (λ y. P (f y)) x xs (All-head P (f x) (map f xs) all) (unmapped P f xs (All-tail P (f x) (map f xs) all))

numbers : (cs : List SlotChange) → map slot_of cs ≡ keys_of (map numbered cs)
numbers [] = refl
numbers (c ∷ cs) = ap (λ (ns : List ℕ). c.slot ∷ ns) (numbers cs)

module _ (slots : List SlotRow) (all : List (ℕ × SlotChange)) (changes : AreChangesOf slots (λ k. lookup (nat_eq k) all)) where
  abbrev is_other : ℕ × SlotChange → Type 0
  is_other e = IsChanged e.1

  -- those that were kept, with those that are left, come to what all come to
  abbrev pub Picks : List SlotChange → List (ℕ × SlotChange) → Type 0
  Picks cs left = IsPicked put_row slots is_other all (map numbered cs) left

  first_of : (cs : List SlotChange) (left : List (ℕ × SlotChange)) (e : ℕ × SlotChange) (rest : List (ℕ × SlotChange)) → left ≡ e ∷ rest → Picks cs left → IsChangeOf slots e.0 e.1
  first_of cs left e rest first picked =
      changes e.0 e.1 (All-head (IsAt all) e rest (subst (All (IsAt all)) first picked.left))

  pub picks_none : (cs : List SlotChange) (left : List (ℕ × SlotChange)) → cs ≡ [] → left ≡ all → IsDistinct nat_eq (keys_of all) → Picks cs left
  picks_none cs left none each distinct = picked_none put_row slots is_other all (map numbered cs) left (ap (map numbered) none) each distinct

  pub picks_more : (cs next : List SlotChange) (left : List (ℕ × SlotChange)) (e : ℕ × SlotChange) (rest : List (ℕ × SlotChange)) → left ≡ e ∷ rest → next ≡ cs ++ record { slot = e.0; was = e.1.was; row = e.1.row } ∷ [] → Picks cs left → IsChanged e.1 → Picks next rest
  picks_more cs next left e rest first pushed picked other =
      let kept : SlotChange = record { slot = e.0; was = e.1.was; row = e.1.row } in
      let same : numbered kept ≡ e = ap (λ (n : ℕ). (e.0, record { slot = n; was = e.1.was; row = e.1.row })) (sym (first_of cs left e rest first picked).slot_is) in
      let more : map numbered next ≡ map numbered cs ++ e ∷ [] =
      ap (map numbered) pushed ∙ map-append numbered cs (kept ∷ []) ∙ ap (λ (d : ℕ × SlotChange). map numbered cs ++ d ∷ []) same in
      picked_more put_row slots is_other all (map numbered cs) left (map numbered next) e rest first more picked other

  pub picks_past : (cs : List SlotChange) (left : List (ℕ × SlotChange)) (e : ℕ × SlotChange) (rest : List (ℕ × SlotChange)) → left ≡ e ∷ rest → Picks cs left → e.1.was ≡ e.1.row → Picks cs rest
  picks_past cs left e rest first picked idle =
      let of = first_of cs left e rest first picked in
      picked_past put_row slots is_other all (map numbered cs) left e rest first picked
      (λ x at. sym idle ∙ same_Some e.1.was x (sym of.stood ∙ (ap (slice_get slots) of.slot_is ∙ at)))

  pub picks_all : (cs : List SlotChange) (left : List (ℕ × SlotChange)) → left ≡ [] → IsDistinct nat_eq (keys_of all) → Picks cs left → ArePicked slots (λ k. lookup (nat_eq k) all) cs
  picks_all cs left none distinct picked =
      record {
        same = put_slots_all slots cs ∙ picked_all put_row slots is_other all (map numbered cs) left none picked distinct;
        differ = unmapped is_other numbered cs picked.differ;
        over_are = unmapped (IsAt all) numbered cs picked.at;
        distinct = subst (IsDistinct nat_eq) (sym (numbers cs)) (picked_distinct put_row slots is_other all (map numbered cs) left none picked);
      }
