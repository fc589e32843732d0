-- The recorder's seat between entries.
use Rattle.std.proofs.Common.{◌≡◌, ℕ, ◌<◌, List, [], ◌∷◌, ◌++◌, append-nil, append_assoc, length, sym, refl, ap, ◌∙◌, subst, ◌+◌, arith}
use Rattle.std.specs.Prelude.{Option, Some, None}
use mathlib.Core.List.{IsPrefix}
use Rattle.atomic_table.specs.Seated.{TableId}
use Rattle.atomic_table.specs.declared.shared.Seat.{Seat}
use Rattle.farm_types.specs.declared.entry.Entry.{Entry}
use Rattle.farm_types.specs.Farm.{Farm}
use Rattle.farm_types.specs.Kept.{IsKeptFarm}
use Rattle.farm_types.specs.Run.{IsLegal, IsLegalStep, run_of}
use Rattle.farm_types.specs.Step.{after}
use Rattle.farm_law.proofs.LegalRuns.{legal_append}
use Rattle.booking_rule.specs.declared.desk.Desk.{Desk}
use Rattle.booking_rule.specs.declared.view.View.{View}
use Rattle.booking_rule.specs.Link.{farm_of}
use Rattle.booking_rule.specs.declared.opening.Opening.{Opening}
use Rattle.booking_rule.specs.Kept.{farm_in}
use Rattle.booking_rule.specs.Splits.{MaySplit, desk_split, one_more, one_split}
use Rattle.booking_table.specs.Seats.{IsSameSeat, view}
use Rattle.booking_recorder.specs.Recording.{IsHome}
use Rattle.recording_turns.specs.Resting.{IsAtRest, IsPlaced, IsUnplaced, split_in}
use Rattle.booking_recorder.specs.Views.{Entered, Stays}

pub prefix_same : {A : Type 0} (xs : List A) → IsPrefix xs xs
prefix_same xs = ([], append-nil xs)

pub prefix_then : {A : Type 0} (xs ys zs : List A) → IsPrefix xs ys → IsPrefix ys zs → IsPrefix xs zs
prefix_then {A = A} xs ys zs p q = (p.0 ++ q.0, sym (append_assoc xs p.0 q.0) ∙ ap (λ (ws : List A). ws ++ q.0) p.1 ∙ q.1)

run_push : (f : Farm) (log : List Entry) (e : Entry) → run_of f (log ++ e ∷ []) ≡ after (run_of f log) e
run_push f [] e = refl
run_push f (x ∷ xs) e = run_push (after f x) xs e

-- ---- farms

pub farm_same : (v w : View) → w.opening ≡ v.opening → w.journal ≡ v.journal → farm_in w ≡ farm_in v
farm_same v w opening journal = λ i. run_of (farm_of (opening i)) (journal i)

pub farm_more : (v w : View) (e : Entry) → w.opening ≡ v.opening → w.journal ≡ v.journal ++ e ∷ [] → farm_in w ≡ after (farm_in v) e
farm_more v w e opening journal = (λ i. run_of (farm_of (opening i)) (journal i)) ∙ run_push (farm_of v.opening) v.journal e

pub farm_stays : (v w : View) → Stays v w → farm_in w ≡ farm_in v
farm_stays v w s = farm_same v w (ap (λ (x : View). x.opening) s.like) (ap (λ (x : View). x.journal) s.like)

pub farm_entered : (v w : View) (e : Entry) → Entered v e w → farm_in w ≡ after (farm_in v) e
farm_entered v w e s = farm_more v w e (ap (λ (x : View). x.opening) s.like) (ap (λ (x : View). x.journal) s.like)

-- ---- journals that are legal runs, from a farm that keeps what every farm does

-- from the same farm, with the same entries
pub begins_same : (v w : View) → w.opening ≡ v.opening → IsKeptFarm (farm_of v.opening) → IsKeptFarm (farm_of w.opening)
begins_same v w opening begins = subst (λ (o : Opening). IsKeptFarm (farm_of o)) (sym opening) begins

pub legal_same : (v w : View) → w.opening ≡ v.opening → w.journal ≡ v.journal → IsLegal (farm_of v.opening) v.journal → IsLegal (farm_of w.opening) w.journal
legal_same v w opening journal legal =
    subst (λ (x : Opening × List Entry). IsLegal (farm_of x.0) x.1) (λ i. (sym opening i, sym journal i)) legal

-- one legal entry more
pub legal_more : (v w : View) (e : Entry) → w.opening ≡ v.opening → w.journal ≡ v.journal ++ e ∷ [] → IsLegal (farm_of v.opening) v.journal
    → IsLegalStep (farm_in v) e → IsLegal (farm_of w.opening) w.journal
legal_more v w e opening journal legal step =
    subst (λ (x : Opening × List Entry). IsLegal (farm_of x.0) x.1) (λ i. (sym opening i, sym journal i))
    (legal_append (farm_of v.opening) v.journal (e ∷ []) legal (step, tt))

-- ---- nothing happened

pub stays_same : (v : View) → Stays v v
stays_same v = record { like = refl; split = refl; trail = prefix_same v.trail }

pub stays_then : (v u w : View) → Stays v u → Stays u w → Stays v w
stays_then v u w first second = record {
  like = second.like ∙ (λ i. record (first.like i) { desk = w.desk; trail = w.trail });
  split = second.split ∙ first.split;
  trail = prefix_then v.trail u.trail w.trail first.trail second.trail;
}

-- ---- a farm that was placed

pub farm_placed : (v w : View) (f : Farm) → IsUnplaced v → IsPlaced v f w → f ≡ farm_in w
farm_placed v w f new placed =
    let journal : w.journal ≡ [] = ap (λ (x : View). x.journal) placed.like ∙ new.journal in
    sym (λ i. run_of (farm_of (placed.opening i)) (journal i))

pub none_counted : (v w : View) (f : Farm) → IsUnplaced v → IsPlaced v f w → 0 ≡ length w.journal
none_counted v w f new placed = sym (ap length (ap (λ (x : View). x.journal) placed.like ∙ new.journal))

-- ---- a seat more

-- one that is at rest may split one off
pub may_split : (v : View) (n : ℕ) → IsAtRest v → n ≡ split_in v.desk → n < 64 → MaySplit v
may_split v n rests is lt =
    let s = rests.settled in
    let count : n ≡ s.desk.split = is ∙ ap split_in s.first in
    (s.desk, s.first, rests.free.burst, rests.free.place, subst (λ (k : ℕ). k < 64) count lt, λ none. some_none (sym s.placed ∙ none))
  where
    some_none : {X : Type 0} {x : X} → Some x ≡ None → ⊥
    some_none q = cc

-- and is at rest then
pub rests_split : (v : View) → IsAtRest v → IsAtRest (one_more v)
rests_split v rests =
    let s = rests.settled in record {
      settled = record {
        desk = one_split s.desk;
        first = ap desk_split s.first;
        log = s.log;
        placed = s.placed;
        pending = s.pending;
        done = record { slot = s.done.slot; cores = s.done.cores; memory = s.done.memory; alloc = s.done.alloc; burst = s.done.burst; most = s.done.most };
      };
      free = record {
        takes = rests.free.takes;
        limits = rests.free.limits;
        rooms = rests.free.rooms;
        claims = rests.free.claims;
        burst = rests.free.burst;
        place = rests.free.place;
      };
    }

pub count_split : (v : View) (n : ℕ) → IsAtRest v → n ≡ split_in v.desk → n + 1 ≡ split_in (one_more v).desk
count_split v n rests is =
    let s = rests.settled in
    ap (λ (k : ℕ). k + 1) (is ∙ ap split_in s.first) ∙ sym (ap (λ (o : Option Desk). split_in (desk_split o)) s.first)

pub split_home : (t : TableId) (f : Farm) (s s' : Seat (Unit {0}) View) (count split : ℕ) → IsHome t f s count split → IsSameSeat s s'
    → view s' ≡ one_more (view s)
    → split < 64 → IsHome t f s' count (split + 1)
split_home t f s s' count split home same is few = record {
  seat = (same.0 ∙ home.seat.0, same.2);
  rests = subst IsAtRest (sym is) (rests_split (view s) home.rests);
  farm = home.farm ∙ sym (ap farm_in is);
  begins = begins_same (view s) (view s') (ap (λ (v : View). v.opening) is) home.begins;
  legal = legal_same (view s) (view s') (ap (λ (v : View). v.opening) is) (ap (λ (v : View). v.journal) is) home.legal;
  counted = home.counted ∙ sym (ap (λ (v : View). length v.journal) is);
  split_off = count_split (view s) split home.rests home.split_off ∙ sym (ap (λ (v : View). split_in v.desk) is);
  few = omega (arith, few);
}
