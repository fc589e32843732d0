-- Slots whose frames are put into another state by a list of places: the same as by a test of each slot that says the same as the list.
use Rattle.std.proofs.Common.{◌≡◌, ℕ, zero, suc, ◌+◌, Bool, true, false, cond, eqb, ◌||◌, List, [], ◌∷◌, Option, Some, None, refl, sym, ap, ◌∙◌, option_map, arith}
use Rattle.std.specs.Prelude.{nat_eq}
use Rattle.std.specs.List.{AllByRecursion, IsDistinct, slice_get}
use Rattle.std.proofs.lemmas.Bool.{eqb-false, eqb-true, false≢true, ne_eqb, or_from}
use Rattle.std.proofs.lemmas.Map.Keys.{IsDistinct-head, IsDistinct-tail}
use Rattle.farm_types.specs.declared.slot_row.Frame.{Frame}
use Rattle.farm_types.specs.declared.slot_row.SlotRow.{SlotRow}
use Rattle.farm_types.specs.declared.states.FrameState.{FrameState}
use Rattle.farm_types.specs.declared.states.FrameState.TheVariants as frame_state
use Rattle.farm_types.specs.Farm.{Farm, changed_at, changed_by}
use Rattle.farm_types.specs.Settle.{blocked_from, blocked_row, blocks, in_state, kept_version, opened_from, opens}
use Rattle.farm_types.proofs.Changed.{changed_at_other, changed_at_same}
use Rattle.farm_depends.specs.Follow.{change_of, is_listed, put_blocked, put_opened}
use Rattle.depend_book.proofs.Zips.{option_map_same, same_places}
use Rattle.depend_law.proofs.Shapes.{SameFrames, SamePlace, changed_frames, frames_same, frames_then, state_stays}

-- ---- one change at each place of a list

-- the slots changed at these places, one after the other
abbrev put_at : (SlotRow → SlotRow) → List ℕ → List SlotRow → List SlotRow
put_at change [] slots = slots
put_at change (n ∷ ns) slots = put_at change ns (changed_at slots n change)

-- the slot changed or not
abbrev pub picked : (SlotRow → SlotRow) → Bool → SlotRow → SlotRow
picked change b s = cond b (change s) s

here : (change : SlotRow → SlotRow) (slots : List SlotRow) (n : ℕ) (o : Option SlotRow) → slice_get slots n ≡ o → slice_get (changed_at slots n change) n ≡ option_map change o
here change slots n None at = ap (λ (o : Option SlotRow). slice_get (changed_by slots n change o) n) at ∙ at
here change slots n (Some s) at = changed_at_same slots n change s at

pub one_by : (change : SlotRow → SlotRow) (slots : List SlotRow) (n i : ℕ) (b : Bool) → eqb n i ≡ b → slice_get (changed_at slots n change) i ≡ option_map (picked change b) (slice_get slots i)
one_by change slots n i true is =
    ap (λ (k : ℕ). slice_get (changed_at slots k change) i) (eqb-true n i is) ∙ here change slots i (slice_get slots i) refl
one_by change slots n i false is = changed_at_other slots n i change (λ e. eqb-false n i is (sym e)) ∙ sym (option_map_same (slice_get slots i))

-- a second change, where a place comes again only if that changes nothing
again : (change : SlotRow → SlotRow) (a b : Bool) → (a ≡ true → b ≡ true → (s : SlotRow) → change (change s) ≡ change s) → (o : Option SlotRow)
    → option_map (picked change b) (option_map (picked change a) o) ≡ option_map (picked change (a || b)) o
again change a b twice None = refl
again change true true twice (Some s) = ap Some (twice refl refl s)
again change true false twice (Some s) = refl
again change false b twice (Some s) = refl

-- what a change does where a place comes again
abbrev Again : (SlotRow → SlotRow) → List ℕ → Type 0
Again change [] = Unit {0}
Again change (n ∷ ns) = ((i : ℕ) → eqb n i ≡ true → is_listed ns i ≡ true → (s : SlotRow) → change (change s) ≡ change s) × Again change ns

put_each : (change : SlotRow → SlotRow) (list : List ℕ) → Again change list → (slots : List SlotRow) (i : ℕ) → slice_get (put_at change list slots) i ≡ option_map (picked change (is_listed list i)) (slice_get slots i)
put_each change [] twice slots i = sym (option_map_same (slice_get slots i))
put_each change (n ∷ ns) twice slots i =
    put_each change ns twice.1 (changed_at slots n change) i
    ∙ (ap (option_map (picked change (is_listed ns i))) (one_by change slots n i (eqb n i) refl) ∙ again change (eqb n i) (is_listed ns i) (twice.0 i) (slice_get slots i))

changes_once : (change : SlotRow → SlotRow) → ((s : SlotRow) → change (change s) ≡ change s) → (list : List ℕ) → Again change list
changes_once change twice [] = tt
changes_once change twice (n ∷ ns) = (λ i is later s. twice s, changes_once change twice ns)

not_later : (n i : ℕ) (ns : List ℕ) → AllByRecursion (λ m. nat_eq n m ≡ false) ns → eqb n i ≡ true → is_listed ns i ≡ false
not_later n i [] apart is = refl
not_later n i (m ∷ ms) apart is =
    or_from (eqb m i) (is_listed ms i) (ne_eqb m i (λ e. eqb-false n m apart.0 (eqb-true n i is ∙ sym e))) (not_later n i ms apart.1 is)

listed_once : (change : SlotRow → SlotRow) (list : List ℕ) → IsDistinct nat_eq list → Again change list
listed_once change [] differ = tt
listed_once change (n ∷ ns) differ =
    (λ i is later s. absurd (false≢true (sym (not_later n i ns (IsDistinct-head nat_eq n ns differ) is) ∙ later)), listed_once change ns (IsDistinct-tail nat_eq n ns differ))

-- ---- the same by a test

abbrev by_test : (SlotRow → SlotRow) → (ℕ → SlotRow → Bool) → ℕ → List SlotRow → List SlotRow
by_test change test slot [] = []
by_test change test slot (s ∷ ss) = picked change (test slot s) s ∷ by_test change test (slot + 1) ss

tested_at : (change : SlotRow → SlotRow) (test : ℕ → SlotRow → Bool) (slot : ℕ) (slots : List SlotRow) (i p : ℕ) → p ≡ slot + i → slice_get (by_test change test slot slots) i ≡ option_map (λ (s : SlotRow). picked change (test p s) s) (slice_get slots i)
tested_at change test slot [] i p e = refl
tested_at change test slot (s ∷ ss) zero p e = let q : slot ≡ p = omega (arith, e) in ap (λ (k : ℕ). Some (picked change (test k s) s)) q
tested_at change test slot (s ∷ ss) (suc i) p e = tested_at change test (slot + 1) ss i p (omega (arith, e))

module _ (change : SlotRow → SlotRow) (test : ℕ → SlotRow → Bool) (list : List ℕ) (slots : List SlotRow) (same : (i : ℕ) (s : SlotRow) → slice_get slots i ≡ Some s → is_listed list i ≡ test i s) where
  agree : (i : ℕ) (o : Option SlotRow) → slice_get slots i ≡ o → option_map (picked change (is_listed list i)) o ≡ option_map (λ (s : SlotRow). picked change (test i s) s) o
  agree i None at = refl
  agree i (Some s) at = ap (λ (b : Bool). Some (picked change b s)) (same i s at)

  put_tested : Again change list → put_at change list slots ≡ by_test change test 0 slots
  put_tested twice =
      same_places (put_at change list slots) (by_test change test 0 slots)
      (λ i. put_each change list twice slots i ∙ (agree i (slice_get slots i) refl ∙ sym (tested_at change test 0 slots i i (omega arith))))

-- ---- states

frame_twice : (state : FrameState) (o : Option Frame) → option_map (λ (x : Frame). record x { state = state }) (option_map (λ (x : Frame). record x { state = state }) o) ≡ option_map (λ (x : Frame). record x { state = state }) o
frame_twice state None = refl
frame_twice state (Some x) = refl

in_twice : (state : FrameState) (s : SlotRow) → in_state state (in_state state s) ≡ in_state state s
in_twice state s = ap (λ (o : Option Frame). record s { frame = o }) (frame_twice state s.frame)

blocked_twice : (s : SlotRow) → blocked_row kept_version (blocked_row kept_version s) ≡ blocked_row kept_version s
blocked_twice s = ap (λ (o : Option Frame). record s { frame = o }) (frame_twice frame_state.Depend s.frame)

opened_put : (list : List ℕ) (slots : List SlotRow) → put_opened list slots ≡ put_at (in_state frame_state.Waiting) list slots
opened_put [] slots = refl
opened_put (n ∷ ns) slots = opened_put ns (changed_at slots n (in_state frame_state.Waiting))

blocked_put : (raises : Bool) (list : List ℕ) (slots : List SlotRow) → put_blocked raises list slots ≡ put_at (blocked_row (change_of raises)) list slots
blocked_put raises [] slots = refl
blocked_put raises (n ∷ ns) slots = blocked_put raises ns (changed_at slots n (blocked_row (change_of raises)))

opened_tested : (f : Farm) (slot : ℕ) (slots : List SlotRow) → by_test (in_state frame_state.Waiting) (opens f) slot slots ≡ opened_from f slot slots
opened_tested f slot [] = refl
opened_tested f slot (s ∷ ss) = ap (λ (ts : List SlotRow). picked (in_state frame_state.Waiting) (opens f slot s) s ∷ ts) (opened_tested f (slot + 1) ss)

blocked_tested : (change : ℕ → ℕ) (f : Farm) (slot : ℕ) (slots : List SlotRow) → by_test (blocked_row change) (blocks f) slot slots ≡ blocked_from change f slot slots
blocked_tested change f slot [] = refl
blocked_tested change f slot (s ∷ ss) = ap (λ (ts : List SlotRow). picked (blocked_row change) (blocks f slot s) s ∷ ts) (blocked_tested change f (slot + 1) ss)

-- ---- places

-- what stands at each place: the frame waits where the place is listed
pub opened_at : (list : List ℕ) (slots : List SlotRow) (i : ℕ) → slice_get (put_opened list slots) i ≡ option_map (picked (in_state frame_state.Waiting) (is_listed list i)) (slice_get slots i)
opened_at list slots i =
    ap (λ (ss : List SlotRow). slice_get ss i) (opened_put list slots)
    ∙ put_each (in_state frame_state.Waiting) list (changes_once (in_state frame_state.Waiting) (in_twice frame_state.Waiting) list) slots i

-- it is blocked there, at its version, though its place be listed twice
pub blocked_at_version : (list : List ℕ) (slots : List SlotRow) (i : ℕ) → slice_get (put_blocked false list slots) i ≡ option_map (picked (blocked_row kept_version) (is_listed list i)) (slice_get slots i)
blocked_at_version list slots i =
    ap (λ (ss : List SlotRow). slice_get ss i) (blocked_put false list slots)
    ∙ put_each (blocked_row (change_of false)) list (changes_once (blocked_row (change_of false)) blocked_twice list) slots i

-- it is blocked there, where no place is listed twice
pub blocked_at_once : (raises : Bool) (list : List ℕ) → IsDistinct nat_eq list → (slots : List SlotRow) (i : ℕ) → slice_get (put_blocked raises list slots) i ≡ option_map (picked (blocked_row (change_of raises)) (is_listed list i)) (slice_get slots i)
blocked_at_once raises list differ slots i =
    ap (λ (ss : List SlotRow). slice_get ss i) (blocked_put raises list slots)
    ∙ put_each (blocked_row (change_of raises)) list (listed_once (blocked_row (change_of raises)) list differ) slots i

-- ---- the same as by a test

-- the frames in these slots open, where these are the slots that open
pub opened_list : (f : Farm) (list : List ℕ) (slots : List SlotRow) → ((i : ℕ) (s : SlotRow) → slice_get slots i ≡ Some s → is_listed list i ≡ opens f i s) → put_opened list slots ≡ opened_from f 0 slots
opened_list f list slots same =
    opened_put list slots
    ∙ (put_tested (in_state frame_state.Waiting) (opens f) list slots same (changes_once (in_state frame_state.Waiting) (in_twice frame_state.Waiting) list)
    ∙ opened_tested f 0 slots)

-- the frames in these slots are blocked, at their versions
pub blocked_list : (f : Farm) (list : List ℕ) (slots : List SlotRow) → ((i : ℕ) (s : SlotRow) → slice_get slots i ≡ Some s → is_listed list i ≡ blocks f i s) → put_blocked false list slots ≡ blocked_from kept_version f 0 slots
blocked_list f list slots same =
    blocked_put false list slots
    ∙ (put_tested (blocked_row (change_of false)) (blocks f) list slots same (changes_once (blocked_row (change_of false)) blocked_twice list)
    ∙ blocked_tested (change_of false) f 0 slots)

-- and where none stands twice
pub blocked_once : (raises : Bool) (f : Farm) (list : List ℕ) (slots : List SlotRow) → IsDistinct nat_eq list → ((i : ℕ) (s : SlotRow) → slice_get slots i ≡ Some s → is_listed list i ≡ blocks f i s)
    → put_blocked raises list slots ≡ blocked_from (change_of raises) f 0 slots
blocked_once raises f list slots differ same =
    blocked_put raises list slots
    ∙ (put_tested (blocked_row (change_of raises)) (blocks f) list slots same (listed_once (blocked_row (change_of raises)) list differ)
    ∙ blocked_tested (change_of raises) f 0 slots)

-- ---- what stays

opened_stays : (s : SlotRow) → SamePlace s (in_state frame_state.Waiting s)
opened_stays s = state_stays frame_state.Waiting s.frame

blocked_stays : (change : ℕ → ℕ) (s : SlotRow) → SamePlace s (blocked_row change s)
blocked_stays change s = state_stays frame_state.Depend s.frame

-- frames stay at their places
pub opened_stand : (list : List ℕ) (slots : List SlotRow) → SameFrames slots (put_opened list slots)
opened_stand [] slots = frames_same slots
opened_stand (n ∷ ns) slots =
    let next = changed_at slots n (in_state frame_state.Waiting) in
    frames_then slots next (put_opened ns next) (changed_frames (in_state frame_state.Waiting) opened_stays slots n) (opened_stand ns next)

pub blocked_stand : (raises : Bool) (list : List ℕ) (slots : List SlotRow) → SameFrames slots (put_blocked raises list slots)
blocked_stand raises [] slots = frames_same slots
blocked_stand raises (n ∷ ns) slots =
    let next = changed_at slots n (blocked_row (change_of raises)) in
    frames_then slots next (put_blocked raises ns next) (changed_frames (blocked_row (change_of raises)) (blocked_stays (change_of raises)) slots n) (blocked_stand raises ns next)
