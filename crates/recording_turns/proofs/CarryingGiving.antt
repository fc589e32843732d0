-- What a booked word had booked goes back.
use Rattle.std.proofs.Common.{◌≡◌, ◌≢◌, ℕ, zero, suc, ◌+◌, ◌<◌, Bool, true, false, ◌==◌, ◌&&◌, ◌||◌, if◌then◌else◌, List, [], ◌∷◌, ◌++◌, refl, sym, ap, ◌∙◌, subst, arith}
use Rattle.std.specs.Prelude.{Option, Some, None}
use Rattle.std.proofs.lemmas.Bool.{false≢true}
use Rattle.std.proofs.lemmas.List.{append-nil}
use Rattle.std.proofs.lemmas.Option.{none-some, same_Some}
use mathlib.Core.List.{IsPrefix}
use Rattle.frame_words.specs.declared.amount_word.AmountWord.{AmountWord}
use Rattle.booking_rule.specs.declared.hold.Room.{Room}
use Rattle.booking_rule.specs.declared.hold.Take.{Take}
use Rattle.booking_rule.specs.declared.noted.Noted.{Noted}
use Rattle.booking_rule.specs.declared.view.View.{View}
use Rattle.booking_rule.specs.Link.{limit_code}
use Rattle.booking_rule.specs.Views.{holds, holds_limit, limit_take, room_of, rooms_off, same_limit, same_room, same_take, take_of, without}
use Rattle.booking_rule.proofs.Moves.{same_self}
use Rattle.booking_core.specs.Kinds.{gave_burst, gave_host}
use Rattle.booking_table.specs.declared.holds.BurstHold.{BurstHold}
use Rattle.booking_table.specs.declared.holds.Hold.{Hold}
use Rattle.booking_table.specs.Calls.{hold_given, limit_in, place_given}
use Rattle.booking_table.specs.Holds.{HasBurst, HasHold, IsLimit}
use Rattle.recording_turns.specs.Carrying.{Gave, HasFreed}
use Rattle.recording_turns.specs.Owing.{AreOn}
use Rattle.recording_turns.proofs.CarryingViews.{prefix_then}

take_self : (t : Take) → same_take t t ≡ true
take_self t = λ i. same_self t.sub i && same_self t.cores i

room_self : (r : Room) → same_room r r ≡ true
room_self r = λ i. same_self r.host i && (same_self r.cores i && same_self r.memory i)

or_left : (a b : Bool) → a ≡ true → (a || b) ≡ true
or_left true b is = refl
or_left false b is = absurd (false≢true is)

code_back : (n : ℕ) → limit_code (limit_in n) ≡ n
code_back zero = refl
code_back (suc n) = omega arith

is_limit : (n : ℕ) → n < 256 → IsLimit (limit_in n)
is_limit zero below = tt
is_limit (suc n) below = omega (arith, below)

has_limit : (n : ℕ) (ns : List ℕ) → ns ≡ limit_take n ++ [] → holds_limit n ns ≡ true
has_limit zero ns is = refl
has_limit (suc n) ns is = ap (holds same_limit n) is ∙ or_left (same_limit n n) false (same_self n)

-- the last one of its kind is gone
none_left : {A : Type 0} (same : A → A → Bool) (x : A) (xs rest : List A) → same x x ≡ true → xs ≡ x ∷ rest → without same x xs ≡ rest
none_left same x xs rest self is = ap (without same x) is ∙ ap (λ (b : Bool). if b then rest else x ∷ without same x rest) self

module _ (v : View) (sub c h : ℕ) (a : AmountWord) (resized : Option ℕ) (H : HasFreed v sub c h a resized) where
  abbrev the_burst : BurstHold
  the_burst = record { sub = sub; cores = c; limit = limit_in a.limit }

  abbrev the_hold : Hold
  the_hold = record { burst = the_burst; host = h; memory = a.memory }

  pub has_burst : HasBurst v the_burst
  has_burst =
      let take : holds same_take (take_of sub c) v.takes ≡ true =
      ap (holds same_take (take_of sub c)) H.takes ∙ or_left (same_take (take_of sub c) (take_of sub c)) false (take_self (take_of sub c)) in
      let place : holds_limit (limit_code (limit_in a.limit)) v.limits ≡ true =
      ap (λ (n : ℕ). holds_limit n v.limits) (code_back a.limit) ∙ has_limit a.limit v.limits H.limits in
      ((H.below, H.cores, is_limit a.limit H.limit), take, place)

  pub has_hold : HasHold v the_hold
  has_hold =
      let room : holds same_room (room_of h c a.memory) v.rooms ≡ true =
      ap (holds same_room (room_of h c a.memory)) H.rooms
      ∙ or_left (same_room (room_of h c a.memory) (room_of h c a.memory)) (holds same_room (room_of h c a.memory) H.rest) (room_self (room_of h c a.memory)) in
      ((has_burst.0, H.host, H.memory), has_burst, room)

  -- ---- what is left

  rooms_gone : without same_room (room_of h c a.memory) v.rooms ≡ H.rest
  rooms_gone = none_left same_room (room_of h c a.memory) v.rooms H.rest (room_self (room_of h c a.memory)) H.rooms

-- room on the host that is resized stays
pub still_on : (resized : Option ℕ) (h : ℕ) (r : Room) (rooms : List Room) → resized ≡ Some h → r.host ≡ h → AreOn resized rooms → AreOn resized (r ∷ rooms)
still_on None h r rooms is on are = absurd (none-some h is)
still_on (Some k) h r rooms is on are =
    let same : k ≡ h = same_Some k h is in
    let here : (r.host == k) ≡ true = ap (λ (n : ℕ). n == k) (on ∙ sym same) ∙ same_self k in
    ap (λ (b : Bool). if b then rooms_off k rooms else r ∷ rooms_off k rooms) here ∙ are

-- the cores, and the place in a limit, go back from a view whose rooms are on the host that is resized
pub burst_gave : (v u : View) (sub c n : ℕ) (resized : Option ℕ) (place found : ℕ) (item : List Noted)
    → v.takes ≡ take_of sub c ∷ [] → v.limits ≡ limit_take n ++ [] → AreOn resized u.rooms
    → u ≡ record v { rooms = u.rooms; trail = v.trail ++ item } → Gave v resized (gave_burst (place_given u (limit_in n) place) sub c found)
burst_gave v u sub c n resized place found item takes limits rooms like =
    subst (λ (x : View). Gave v resized (gave_burst (place_given x (limit_in n) place) sub c found)) (sym like) (by n limits)
  where
    gone : without same_take (take_of sub c) v.takes ≡ []
    gone = none_left same_take (take_of sub c) v.takes [] (take_self (take_of sub c)) takes

    by : (n : ℕ) → v.limits ≡ limit_take n ++ []
        → Gave v resized (gave_burst (place_given (record v { rooms = u.rooms; trail = v.trail ++ item }) (limit_in n) place) sub c found)
    by zero limits =
        record {
          like = refl;
          takes = gone;
          limits = limits;
          rooms = rooms;
          trail = prefix_then v.trail (v.trail ++ item) _ (item, refl) (_, refl);
        }
    by (suc k) limits =
        record {
          like = refl;
          takes = gone;
          limits = none_left same_limit k v.limits [] (same_self k) limits;
          rooms = rooms;
          trail = prefix_then v.trail (v.trail ++ item) _ (item, refl) (prefix_then (v.trail ++ item) _ _ (_, refl) (_, refl));
        }

module _ (v : View) (sub c h : ℕ) (a : AmountWord) (resized : Option ℕ) (H : HasFreed v sub c h a resized) where
  -- the host is resized
  pub gave_some : (w : View) → resized ≡ Some h → (place found : ℕ) → w ≡ gave_burst (place_given v (limit_in a.limit) place) sub c found → Gave v resized w
  gave_some w is place found given =
      let on : AreOn resized v.rooms =
      subst (AreOn resized) (sym H.rooms) (still_on resized h (room_of h c a.memory) H.rest is refl H.others) in
      let like : v ≡ record v { rooms = v.rooms; trail = v.trail ++ [] } =
      ap (λ (l : List Noted). record v { trail = l }) (sym (append-nil v.trail)) in
      subst (Gave v resized) (sym given) (burst_gave v v sub c a.limit resized place found [] H.takes H.limits on like)

  -- it isn't
  pub gave_all : (w : View) → (room place found : ℕ) → w ≡ hold_given v (the_hold v sub c h a resized H) room place found → Gave v resized w
  gave_all w room place found given =
      let u = gave_host v h c a.memory room in
      let on : AreOn resized u.rooms = subst (AreOn resized) (sym (rooms_gone v sub c h a resized H)) H.others in
      subst (Gave v resized) (sym given) (burst_gave v u sub c a.limit resized place found (_ ∷ []) H.takes H.limits on refl)
