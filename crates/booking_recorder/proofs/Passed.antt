-- What passes and the recorder are once a pass learnt.
use Rattle.std.proofs.Common.{◌≡◌, ℕ, ◌≤◌, Bool, true, false, if◌then◌else◌, nat_le, List, [], ◌∷◌, ◌++◌, append-nil, length, length-append, sym, refl, ap, ◌∙◌, subst, arith}
use Rattle.std.specs.Prelude.{Option, None, max}
use Rattle.std.proofs.lemmas.Bool.Decides.{nat_tests}
use mathlib.Core.List.{IsPrefix}
use Rattle.atomic_table.specs.Seated.{TableId}
use Rattle.atomic_table.specs.declared.shared.Seat.{Seat}
use Rattle.farm_types.specs.declared.entry.Entry.{Entry}
use Rattle.farm_types.specs.Farm.{Farm}
use Rattle.booking_rule.specs.declared.desk.Desk.{Desk}
use Rattle.booking_rule.specs.declared.noted.Noted.{Noted}
use Rattle.booking_rule.specs.declared.view.View.{View}
use Rattle.booking_rule.specs.Splits.{IsNote, Settles, if_desk, informed, longer_of, look_at, note_of, numbered, settled, without_receipts}
use Rattle.booking_table.specs.Seats.{IsSameSeat, view}
use Rattle.recording_turns.specs.Resting.{IsAtRest, split_in}
use Rattle.booking_recorder.specs.Passing.{CatchesUp, GivesOn, IsBehind, IsNumbered, IsPass, Learns, Notices}
use Rattle.booking_recorder.specs.Recording.{IsHome}
use Rattle.booking_recorder.proofs.Rests.{begins_same, farm_same, legal_same, prefix_then}

-- ---- two beginnings

module _ {A : Type 0} where
  none_left : (xs : List A) → length xs ≡ 0 → xs ≡ []
  none_left [] e = refl
  none_left (x ∷ xs) e = absurd (omega (arith, e))

  -- what has a list as its beginning is the longer one
  met : (xs ys : List A) → IsPrefix xs ys → longer_of xs ys ≡ ys
  met xs ys p = go (nat_le (length ys) (length xs)) refl
    where
      go : (b : Bool) → nat_le (length ys) (length xs) ≡ b → (if b then xs else ys) ≡ ys
      go false e = refl
      go true e =
          let le : length ys ≤ length xs = grind (arith, nat_tests) in
          let more = length-append xs p.0 in
          let all : length (xs ++ p.0) ≡ length ys = ap (λ (l : List A). length l) p.1 in
          sym (append-nil xs) ∙ (ap (λ (l : List A). xs ++ l) (sym (none_left p.0 (omega (arith, le, more, all)))) ∙ p.1)

  -- as long as the longer one
  longer_length : (xs ys : List A) → length (longer_of xs ys) ≡ max (length xs) (length ys)
  longer_length xs ys = go (nat_le (length ys) (length xs)) refl
    where
      go : (b : Bool) → nat_le (length ys) (length xs) ≡ b → length (if b then xs else ys) ≡ max (length xs) (length ys)
      go true e = let le : length ys ≤ length xs = grind (arith, nat_tests) in omega (arith, le)
      go false e = let le : length xs ≤ length ys = grind (arith, nat_tests) in omega (arith, le)

-- ---- a pass catches up

module _ (v p : View) (a b : ℕ) (rests : IsAtRest v) (other : p.desk ≡ None) where
  -- the recorder's seat after the pass's note, and after its own; and the pass after that
  abbrev told : View
  told = settled (informed v (note_of p)) a

  abbrev given : View
  given = without_receipts told

  abbrev caught : View
  caught = settled (informed (without_receipts p) (note_of told)) b

  module _ (settles : Settles (informed v (note_of p)) told) where
    journal_stays : told.journal ≡ v.journal
    journal_stays = settles.first rests.settled.desk rests.settled.first

    begins : IsPrefix p.journal v.journal
    begins = subst (λ (l : List Entry). IsPrefix p.journal l) journal_stays settles.told

    trail_more : IsPrefix v.trail told.trail
    trail_more = (look_at 0 a ∷ [], refl)

    trail_behind : IsPrefix p.desk_trail v.trail
    trail_behind =
        subst (λ (o : Option Desk). IsPrefix (if_desk o p.trail p.desk_trail) v.trail) other (settles.own rests.settled.desk rests.settled.first)

    behind : IsBehind p v
    behind = record { journal = begins; trail = trail_behind }

    trail_begins : IsPrefix p.desk_trail told.trail
    trail_begins = prefix_then p.desk_trail v.trail told.trail trail_behind trail_more

    journal_is : caught.journal ≡ v.journal
    journal_is = ap (longer_of p.journal) journal_stays ∙ met p.journal v.journal begins

    trail_is : caught.desk_trail ≡ told.trail
    trail_is =
        ap (λ (o : Option Desk). longer_of p.desk_trail (if_desk o told.trail told.desk_trail)) rests.settled.first ∙ met p.desk_trail told.trail trail_begins

    receipts_told : told.receipts ≡ v.receipts
    receipts_told = ap (λ (o : Option Desk). v.receipts ++ if_desk o p.receipts []) other ∙ append-nil v.receipts

    notices : Notices v told
    notices = record { like = λ i. record told { journal = journal_stays i; receipts = receipts_told i }; trail = trail_more }

    receipts_is : caught.receipts ≡ p.receipts ++ v.receipts
    receipts_is =
        ap (λ (o : Option Desk). if_desk o [] p.receipts ++ if_desk v.desk told.receipts []) other
        ∙ (ap (λ (o : Option Desk). p.receipts ++ if_desk o told.receipts []) rests.settled.first ∙ ap (λ (l : List ℕ). p.receipts ++ l) receipts_told)

    gave : given.receipts ≡ []
    gave = ap (λ (o : Option Desk). if_desk o [] told.receipts) rests.settled.first

    learns : Learns p caught
    learns =
        record {
          like = refl;
          journal = subst (λ (l : List Entry). IsPrefix p.journal l) (sym journal_is) begins;
          trail = (look_at 0 b ∷ [], refl);
          desk_trail = subst (λ (l : List Noted). IsPrefix p.desk_trail l) (sym trail_is) trail_begins;
        }

    gives : GivesOn v given
    gives = record { like = λ i. record given { journal = journal_stays i; receipts = gave i }; trail = trail_more }

    catches_as : CatchesUp v p given caught
    catches_as =
        record {
          journal = journal_is;
          trail = trail_is;
          receipts = receipts_is;
          learns = learns;
          gives = gives;
          behind = behind;
          found = b;
          look = refl;
        }

catches : (v p w1 w q1 q : View) (a b : ℕ) → IsAtRest v → IsNumbered p → w1 ≡ settled (informed v (note_of p)) a → Settles (informed v (note_of p)) w1
    → w ≡ without_receipts w1 → q1 ≡ without_receipts p → q ≡ settled (informed q1 (note_of w1)) b → CatchesUp v p w q
catches v p w1 w q1 q a b rests passing learned settles left held is =
    let settled_so : Settles (informed v (note_of p)) (told v p a b rests passing.other) = subst (Settles (informed v (note_of p))) learned settles in
    let first : w ≡ given v p a b rests passing.other = left ∙ ap without_receipts learned in
    let second : q ≡ caught v p a b rests passing.other = is ∙ (λ i. settled (informed (held i) (note_of (learned i))) b) in
    subst (λ (x : View). CatchesUp v p x q) (sym first)
    (subst (λ (y : View). CatchesUp v p (given v p a b rests passing.other) y) (sym second) (catches_as v p a b rests passing.other settled_so))

-- .. with the notes that were taken in
pub catches_by : (v p n1 w1 w n2 q1 q : View) → IsAtRest v → IsNumbered p → n1 ≡ note_of p → (a : ℕ) × (w1 ≡ settled (informed v n1) a) → Settles (informed v n1) w1
    → w ≡ without_receipts w1 → n2 ≡ note_of w1 → q1 ≡ without_receipts p → (b : ℕ) × (q ≡ settled (informed q1 n2) b) → CatchesUp v p w q
catches_by v p n1 w1 w n2 q1 q rests passing noted learned settles left second held last =
    let learned_so : w1 ≡ settled (informed v (note_of p)) learned.0 = learned.1 ∙ ap (λ (n : View). settled (informed v n) learned.0) noted in
    let last_so : q ≡ settled (informed q1 (note_of w1)) last.0 = last.1 ∙ ap (λ (n : View). settled (informed q1 n) last.0) second in
    catches v p w1 w q1 q learned.0 last.0 rests passing learned_so (subst (λ (n : View). Settles (informed v n) w1) noted settles) left held last_so

-- the recorder's seat takes the note of a pass in
pub sees_by : (v p n w : View) → IsAtRest v → IsNumbered p → n ≡ note_of p → (a : ℕ) × (w ≡ settled (informed v n) a) → Settles (informed v n) w
    → IsBehind p v × Notices v w
sees_by v p n w rests passing noted learned settles =
    let is : w ≡ told v p learned.0 0 rests passing.other = learned.1 ∙ ap (λ (x : View). settled (informed v x) learned.0) noted in
    let so : Settles (informed v (note_of p)) (told v p learned.0 0 rests passing.other) =
    subst (Settles (informed v (note_of p))) is (subst (λ (x : View). Settles (informed v x) w) noted settles) in
    (behind v p learned.0 0 rests passing.other so, subst (Notices v) (sym is) (notices v p learned.0 0 rests passing.other so))

-- a note of a pass leaves it as it is
pub noted_same : (p q : View) → IsNumbered p → q ≡ without_receipts p → q ≡ p
noted_same p q passing kept = kept ∙ λ i. record p { receipts = if_desk (passing.other i) [] p.receipts }

-- a note may be taken in
pub note_is : (v n : View) → n ≡ note_of v → IsNote n
note_is v n is = subst IsNote (sym is) (refl, refl, refl, refl)

-- ---- what they are then

rests_in_full : (v : View) → IsAtRest v → (news : List Entry) (trail desk_trail told_trail : List Noted) (receipts : List ℕ)
    → IsAtRest (record v { told = news; trail = trail; desk_trail = desk_trail; told_trail = told_trail; receipts = receipts })
rests_in_full v rests news trail desk_trail told_trail receipts =
    record {
      settled = record {
        desk = rests.settled.desk;
        first = rests.settled.first;
        log = rests.settled.log;
        placed = rests.settled.placed;
        pending = rests.settled.pending;
        done = rests.settled.done;
      };
      free = record {
        takes = rests.free.takes;
        limits = rests.free.limits;
        rooms = rests.free.rooms;
        claims = rests.free.claims;
        burst = rests.free.burst;
        place = rests.free.place;
      };
    }

pub rests_still : (v w : View) → IsAtRest v → GivesOn v w → IsAtRest w
rests_still v w rests gives = subst IsAtRest (sym gives.like) (rests_in_full v rests w.told w.trail w.desk_trail w.told_trail [])

rests_noticed : (v w : View) → IsAtRest v → Notices v w → IsAtRest w
rests_noticed v w rests notices = subst IsAtRest (sym notices.like) (rests_in_full v rests w.told w.trail w.desk_trail w.told_trail v.receipts)

-- the seat still rests, with the same desk, and starts from the same farm with the same entries
home_same : (t : TableId) (f : Farm) (s s' : Seat (Unit {0}) View) (count split : ℕ) → IsHome t f s count split → IsSameSeat s s' → IsAtRest (view s')
    → (view s').opening ≡ (view s).opening → (view s').journal ≡ (view s).journal → (view s').desk ≡ (view s).desk → IsHome t f s' count split
home_same t f s s' count split home same rests opening journal desk =
    record {
      seat = (same.0 ∙ home.seat.0, same.2);
      rests = rests;
      farm = home.farm ∙ sym (farm_same (view s) (view s') opening journal);
      begins = begins_same (view s) (view s') opening home.begins;
      legal = legal_same (view s) (view s') opening journal home.legal;
      counted = home.counted ∙ sym (ap (λ (l : List Entry). length l) journal);
      split_off = home.split_off ∙ sym (ap split_in desk);
      few = home.few;
    }

pub home_still : (t : TableId) (f : Farm) (s s' : Seat (Unit {0}) View) (count split : ℕ) → IsHome t f s count split → IsSameSeat s s' → GivesOn (view s) (view s')
    → IsHome t f s' count split
home_still t f s s' count split home same gives =
    home_same t f s s' count split home same (rests_still (view s) (view s') home.rests gives) (ap (λ (x : View). x.opening) gives.like)
    (ap (λ (x : View). x.journal) gives.like) (ap (λ (x : View). x.desk) gives.like)

pub home_noticed : (t : TableId) (f : Farm) (s s' : Seat (Unit {0}) View) (count split : ℕ) → IsHome t f s count split → IsSameSeat s s'
    → Notices (view s) (view s') → IsHome t f s' count split
home_noticed t f s s' count split home same notices =
    home_same t f s s' count split home same (rests_noticed (view s) (view s') home.rests notices) (ap (λ (x : View). x.opening) notices.like)
    (ap (λ (x : View). x.journal) notices.like) (ap (λ (x : View). x.desk) notices.like)

numbered_still : (v w : View) → Learns v w → IsNumbered v → IsNumbered w
numbered_still v w learns numbered =
    record {
      other = ap (λ (x : View). x.desk) learns.like ∙ numbered.other;
      number = numbered.number;
      named = ap (λ (x : View). x.number) learns.like ∙ numbered.named;
      burst = ap (λ (x : View). x.ungranted) learns.like ∙ numbered.burst;
      place = ap (λ (x : View). x.ungranted_limit) learns.like ∙ numbered.place;
    }

pub pass_learnt : (t : TableId) (s s' : Seat (Unit {0}) View) (count count' : ℕ) → IsPass t s count → IsSameSeat s s' → Learns (view s) (view s')
    → count' ≡ length (view s').journal → IsPass t s' count'
pass_learnt t s s' count count' pass same learns counts =
    record { seat = (same.0 ∙ pass.seat.0, same.2); numbered = numbered_still (view s) (view s') learns pass.numbered; counted = counts }

-- ---- two passes meet

-- what one has after it met another
pub record Meets (p u q : View) : Type 0 where
  pub journal : q.journal ≡ longer_of p.journal u.journal
  pub trail : q.desk_trail ≡ longer_of p.desk_trail u.desk_trail
  pub receipts : q.receipts ≡ p.receipts
  pub told : IsPrefix u.journal q.journal
  pub learns : Learns p q

module _ (p u : View) (found : ℕ) (other : u.desk ≡ None) where
  abbrev met_as : View
  met_as = settled (informed p (note_of u)) found

  trail_met : met_as.desk_trail ≡ longer_of p.desk_trail u.desk_trail
  trail_met = ap (λ (o : Option Desk). longer_of p.desk_trail (if_desk o u.trail u.desk_trail)) other

  receipts_met : met_as.receipts ≡ p.receipts
  receipts_met = ap (λ (o : Option Desk). p.receipts ++ if_desk o u.receipts []) other ∙ append-nil p.receipts

  meets_as : Settles (informed p (note_of u)) met_as → Meets p u met_as
  meets_as settles =
      record {
        journal = refl;
        trail = trail_met;
        receipts = receipts_met;
        told = settles.told;
        learns = record { like = refl; journal = settles.journal; trail = (look_at 0 found ∷ [], refl); desk_trail = settles.desk_trail };
      }

pub meets : (p u n q : View) → IsNumbered u → n ≡ note_of u → (found : ℕ) × (q ≡ settled (informed p n) found) → Settles (informed p n) q → Meets p u q
meets p u n q passing noted learned settles =
    let is : q ≡ met_as p u learned.0 passing.other = learned.1 ∙ ap (λ (x : View). settled (informed p x) learned.0) noted in
    let settled_so : Settles (informed p (note_of u)) (met_as p u learned.0 passing.other) =
    subst (Settles (informed p (note_of u))) is (subst (λ (x : View). Settles (informed p x) q) noted settles) in
    subst (Meets p u) (sym is) (meets_as p u learned.0 passing.other settled_so)

pub counts_longer : (p u q : View) (n m k : ℕ) → n ≡ length p.journal → m ≡ length u.journal → k ≡ max n m → Meets p u q → k ≡ length q.journal
counts_longer p u q n m k mine others is met =
    is ∙ ((λ i. max (mine i) (others i)) ∙ (sym (longer_length p.journal u.journal) ∙ sym (ap (λ (l : List Entry). length l) met.journal)))
