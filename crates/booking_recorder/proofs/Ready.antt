-- An entry on the words: what its steps ask, and what they leave.
use Rattle.std.proofs.Common.{◌≡◌, ◌≢◌, ℕ, ◌+◌, ◌<◌, ◌≤◌, ◌^◌, List, [], ◌∷◌, ◌++◌, length, sym, refl, ap, ◌∙◌, subst, arith, true, false, ◌==◌, Bool, Result, Ok, Err}
use Rattle.std.specs.Prelude.{Option, Some, None, OnOk, if◌then◌else◌, nat_lt, slice_get}
use Rattle.std.proofs.lemmas.Option.{slice_get_past}
use Rattle.std.proofs.lemmas.Bool.Decides.{nat_tests}
use mathlib.Core.List.{IsPrefix}
use Rattle.farm_types.specs.declared.entry.Entry.{Entry}
use Rattle.farm_types.specs.declared.rows.HostRow.{HostRow}
use Rattle.farm_types.specs.Farm.{Farm}
use Rattle.farm_types.specs.Kept.{IsKeptFarm}
use Rattle.farm_types.specs.Run.{IsLegalStep}
use Rattle.farm_types.specs.Step.{after}
use Rattle.frame_words.specs.declared.host_word.HostWord.{HostWord}
use Rattle.booking_rule.specs.declared.desk.Desk.{Desk}
use Rattle.booking_rule.specs.declared.hold.Room.{Room}
use Rattle.booking_rule.specs.declared.view.View.{View}
use Rattle.booking_rule.specs.Kept.{farm_in}
use Rattle.booking_rule.specs.Link.{host_cores, host_memory, of_host}
use Rattle.booking_rule.specs.Resizing.{IsResized}
use Rattle.booking_rule.specs.Views.{desk_after, rooms_off, room_of}
use Rattle.farm_stands.specs.declared.turn.Turn.{Turn}
use Rattle.farm_stands.specs.Turns.{Covers}
use Rattle.recording_core.specs.Machine.{HasAllOf, IsBooking, MayResize}
use Rattle.recording_core.specs.Records.{entered, entry_item}
use Rattle.recording_core.specs.Records.RecorderKind.{records}
use Rattle.recording_table.specs.Steps.{MayTake}
use Rattle.recording_turns.specs.Owing.{AreOn, Owes, Resizes}
use Rattle.recording_turns.specs.Resting.{HoldsNothing, IsAtRest, IsSettled, WentOn, split_in}
use Rattle.recording_turns.specs.Sizes.{HasGivenSize, HasSize, HoldsRoom}
use Rattle.booking_recorder.specs.declared.refusal.RecordFault.{RecordFault}
use Rattle.booking_recorder.specs.Entries.{Records}
use Rattle.booking_recorder.specs.Views.{Entered, HadRoom, HasRoom, IsReadyFor, ResizesIn, ResizesSome, Stays}
use Rattle.booking_recorder.proofs.Rests.{farm_more, prefix_same, prefix_then, stays_same}

-- ---- what the steps ask

pub may_record_entry : (v : View) (e : Entry) (g : Farm) (ts : List Turn) (resized : Option ℕ) → IsReadyFor v e g ts resized → MayTake v (records e)
may_record_entry v e g ts resized r =
    λ s. ((r.settled.desk, r.settled.first, r.settled.pending, r.settled.done), (r.legal, r.counted), r.unbooked, r.sizes)

owes_then : (v : View) (e : Entry) (n : ℕ) (g : Farm) (ts : List Turn) (resized : Option ℕ) → IsReadyFor v e g ts resized → Owes (entered v e n) g ts resized
owes_then v e n g ts resized r = record {
  desk = record r.settled.desk { before = Some v.journal; slots = []; hosts = []; subs = []; limits = [] };
  first = ap (desk_after v.journal) r.settled.first;
  pending = r.settled.pending;
  log = v.journal;
  before = refl;
  slots = refl;
  hosts = refl;
  subs = refl;
  limits = refl;
  entry = e;
  kept = r.kept;
  legal = r.legal;
  unbooked = r.unbooked;
  leads = r.leads;
  farm = farm_more v (entered v e n) e refl refl ∙ r.leads;
  covers = r.covers;
  resizes = r.resizes;
  takes = r.takes;
  places = r.limits;
  rooms = r.rooms;
  claims = r.claims;
  burst = r.burst;
  place = r.place;
}

pub owes_after : (v w : View) (e : Entry) (n : ℕ) (g : Farm) (ts : List Turn) (resized : Option ℕ) → IsReadyFor v e g ts resized → w ≡ entered v e n
    → Owes w g ts resized
owes_after v w e n g ts resized r is = subst (λ (x : View). Owes x g ts resized) (sym is) (owes_then v e n g ts resized r)

-- ---- what they leave

-- of what the seat knows only its rooms may be others, and the trail grew
record Roomed (v w : View) : Type 0 where
  pub like : w ≡ record v { rooms = w.rooms; trail = w.trail }
  pub trail : IsPrefix v.trail w.trail

roomed : (v w : View) (resized : Option ℕ) (room : HostWord) → HasRoom v resized room w → Roomed v w
roomed v w None room is = subst (λ (x : View). Roomed v x) (sym is) (record { like = refl; trail = prefix_same v.trail })
roomed v w (Some host) room is = record {
  like = is.like ∙ ap (λ (rs : List Room). record v { rooms = rs; trail = w.trail }) (sym (ap (λ (x : View). x.rooms) is.like));
  trail = is.trail;
}

entered_then : (v0 v w : View) (e : Entry) (n : ℕ) → HoldsNothing v0 → HoldsNothing w → Roomed v0 v → WentOn (entered v e n) w → Entered v0 e w
entered_then v0 v w e n had has r went =
    let journal : v.journal ≡ v0.journal = ap (λ (x : View). x.journal) r.like in
    let desk : v.desk ≡ v0.desk = ap (λ (x : View). x.desk) r.like in
    let number : w.number ≡ v0.number = ap (λ (x : View). x.number) went.like ∙ ap (λ (x : View). x.number) r.like in
    let opening : w.opening ≡ v0.opening = ap (λ (x : View). x.opening) went.like ∙ ap (λ (x : View). x.opening) r.like in
    let log : w.journal ≡ v0.journal ++ e ∷ [] = ap (λ (x : View). x.journal) went.like ∙ ap (λ (l : List Entry). l ++ e ∷ []) journal in
    let told : w.told ≡ v0.told = ap (λ (x : View). x.told) went.like ∙ ap (λ (x : View). x.told) r.like in
    let takes : w.takes ≡ v0.takes = has.takes ∙ sym had.takes in
    let limits : w.limits ≡ v0.limits = has.limits ∙ sym had.limits in
    let rooms : w.rooms ≡ v0.rooms = has.rooms ∙ sym had.rooms in
    let claims : w.claims ≡ v0.claims = has.claims ∙ sym had.claims in
    let burst : w.ungranted ≡ v0.ungranted = has.burst ∙ sym had.burst in
    let place : w.ungranted_limit ≡ v0.ungranted_limit = has.place ∙ sym had.place in
    let desk_trail : w.desk_trail ≡ v0.desk_trail = ap (λ (x : View). x.desk_trail) went.like ∙ ap (λ (x : View). x.desk_trail) r.like in
    let told_trail : w.told_trail ≡ v0.told_trail = ap (λ (x : View). x.told_trail) went.like ∙ ap (λ (x : View). x.told_trail) r.like in
    let receipts : w.receipts ≡ v0.receipts ++ length v0.journal ∷ [] =
    ap (λ (x : View). x.receipts) went.like ∙ (λ i. (ap (λ (x : View). x.receipts) r.like) i ++ length (journal i) ∷ []) in
    record {
      like = λ i. record {
        desk = w.desk;
        number = number i;
        opening = opening i;
        journal = log i;
        told = told i;
        takes = takes i;
        limits = limits i;
        rooms = rooms i;
        claims = claims i;
        ungranted = burst i;
        ungranted_limit = place i;
        trail = w.trail;
        desk_trail = desk_trail i;
        told_trail = told_trail i;
        receipts = receipts i;
      };
      split = went.split ∙ split_after v.journal v.desk ∙ ap split_in desk;
      trail = prefix_then v0.trail v.trail w.trail r.trail
          (prefix_then v.trail (entered v e n).trail w.trail (entry_item n ∷ [], refl) went.trail);
    }
  where
    split_after : (log : List Entry) (o : Option Desk) → split_in (desk_after log o) ≡ split_in o
    split_after log None = refl
    split_after log (Some d) = refl

pub entered_by : (v0 v u w : View) (e : Entry) (n : ℕ) (resized : Option ℕ) (room : HostWord) → IsAtRest v0 → HasRoom v0 resized room v → u ≡ entered v e n
    → IsAtRest w → WentOn u w → Entered v0 e w
entered_by v0 v u w e n resized room rests has is now went =
    entered_then v0 v w e n rests.free now.free (roomed v0 v resized room has) (subst (λ (x : View). WentOn x w) is went)

-- ---- room

-- a host of a size is there
size_there : (hosts : List HostRow) (host : ℕ) → of_host (λ (row : HostRow). row.cores) (slice_get hosts host) ≢ 0 → host < length hosts
size_there hosts host some = go (nat_lt host (length hosts)) refl
  where
    go : (b : Bool) → nat_lt host (length hosts) ≡ b → host < length hosts
    go true q = grind (arith, nat_tests)
    go false q =
        let le : length hosts ≤ host = grind (arith, nat_tests) in
        absurd (some (ap (of_host (λ (row : HostRow). row.cores)) (slice_get_past hosts host le)))

pub host_there : (f : Farm) (host : ℕ) → host_cores f host ≢ 0 → host < length f.hosts
unfolding host_cores
host_there f host some = size_there f.hosts host some

pub resized_there : (f : Farm) (resized : Option ℕ) (host : ℕ) → resized ≡ Some host → ResizesIn f resized → host < length f.hosts
resized_there f resized host is resizes = host_there f host (resizes.1.only host is).0

pub resized_within : (resized : Option ℕ) (host : ℕ) → resized ≡ Some host → ResizesSome resized → host < 4096
resized_within resized host is resizes = resizes.1.1.within host is

pub holds_size : (host : ℕ) (room : HostWord) (w : View) → HadRoom (Some host) room w → IsSettled w × HoldsRoom w host room
holds_size host room w had = (had.2.settled, had.2.holds)

-- once the room went back, or where there was none
pub room_back : (v u w : View) (host : ℕ) (room : HostWord) → IsAtRest v → HasSize v host room u → HasGivenSize u w → Stays v w
room_back v u w host room rests has gave = record {
  like = gave.like ∙ (λ i. record (has.like i) { rooms = sym rests.free.rooms i; trail = w.trail })
      ∙ ap (λ (o : Option Desk). record v { desk = o; trail = w.trail }) (sym desk);
  split = ap split_in desk;
  trail = prefix_then v.trail u.trail w.trail has.trail gave.trail;
}
  where
    desk : w.desk ≡ v.desk
    desk = ap (λ (x : View). x.desk) gave.like ∙ ap (λ (x : View). x.desk) has.like

pub no_room : (v w : View) (room : HostWord) → HasRoom v None room w → Stays v w
no_room v w room is = subst (λ (x : View). Stays v x) (sym is) (stays_same v)

pub rests_still : (room : HostWord) (w : View) → HadRoom None room w → IsAtRest w
rests_still room w had = subst IsAtRest (sym had.2) had.1

-- ---- just before the entry

are_on : (v w : View) (resized : Option ℕ) (room : HostWord) → IsAtRest v → HasRoom v resized room w → AreOn resized w.rooms
are_on v w None room rests is = ap (λ (x : View). x.rooms) is ∙ rests.free.rooms
are_on v w (Some host) room rests is = ap (rooms_off host) (ap (λ (x : View). x.rooms) is.like) ∙ off (host == host) same
  where
    off : (b : Bool) → b ≡ true → (if b then [] else room_of host room.cores room.memory ∷ []) ≡ []
    off b q = ap (λ (c : Bool). if c then [] else room_of host room.cores room.memory ∷ []) q

    same : (host == host) ≡ true
    same = grind (arith, nat_tests)

sizes_of : (v w : View) (f : Farm) (e : Entry) (resized : Option ℕ) (room : HostWord) → farm_in w ≡ f → Resizes f (after f e) resized → HasRoom v resized room w
    → MayResize w e
sizes_of v w f e None room is resizes has =
    λ host lt other.
    absurd (none_some (resizes.each host lt (subst (λ (x : Farm). IsResized (host_cores x host) (host_memory x host) (after x e) host) is other)))
  where
    none_some : {host : ℕ} → None ≡ Some host → ⊥
    none_some q = cc
sizes_of v w f e (Some h) room is resizes has =
    λ host lt other.
    let at : Some h ≡ Some host = resizes.each host lt (subst (λ (x : Farm). IsResized (host_cores x host) (host_memory x host) (after x e) host) is other) in
    let same : h ≡ host = cc in
    subst (λ (n : ℕ). HasAllOf n w) same has.all

settled_of : (v w : View) (resized : Option ℕ) (room : HostWord) → IsAtRest v → HasRoom v resized room w → IsSettled w
settled_of v w None room rests is = subst IsSettled (sym is) rests.settled
settled_of v w (Some host) room rests is = is.settled

-- .. that may be recorded: the farm before it is the seat's
pub ready : (v w : View) (f g : Farm) (e : Entry) (ts : List Turn) (resized : Option ℕ) (room : HostWord) → IsAtRest v → f ≡ farm_in v → IsKeptFarm f
    → IsLegalStep f e → (IsBooking e.act → ⊥) → length v.journal + 1 < 2 ^ 64 → Covers f (after f e) ts → Resizes f (after f e) resized → g ≡ after f e
    → HasRoom v resized room w → IsReadyFor w e g ts resized
ready v w f g e ts resized room rests leads kept legal unbooked counted covers resizes makes has =
    let r = roomed v w resized room has in
    let farm : farm_in w ≡ f = (λ i. farm_in (r.like i)) ∙ sym leads in
    let back : f ≡ farm_in w = sym farm in record {
      settled = settled_of v w resized room rests has;
      takes = ap (λ (x : View). x.takes) r.like ∙ rests.free.takes;
      limits = ap (λ (x : View). x.limits) r.like ∙ rests.free.limits;
      rooms = are_on v w resized room rests has;
      claims = ap (λ (x : View). x.claims) r.like ∙ rests.free.claims;
      burst = ap (λ (x : View). x.ungranted) r.like ∙ rests.free.burst;
      place = ap (λ (x : View). x.ungranted_limit) r.like ∙ rests.free.place;
      kept = subst IsKeptFarm back kept;
      legal = subst (λ (x : Farm). IsLegalStep x e) back legal;
      unbooked = unbooked;
      counted = subst (λ (l : List Entry). length l + 1 < 2 ^ 64) (sym (ap (λ (x : View). x.journal) r.like)) counted;
      leads = ap (λ (x : Farm). after x e) farm ∙ sym makes;
      covers = subst (λ (x : Farm × Farm). Covers x.0 x.1 ts) (λ i. (back i, sym makes i)) covers;
      resizes = subst (λ (x : Farm × Farm). Resizes x.0 x.1 resized) (λ i. (back i, sym makes i)) resizes;
      sizes = sizes_of v w f e resized room farm resizes has;
    }

-- .. where it was recorded in the farm
pub ready_if : (v w : View) (f changed g : Farm) (e : Entry) (ts : List Turn) (resized : Option ℕ) (room : HostWord) (r : Result (Unit {0}) RecordFault)
    → IsAtRest v
    → f ≡ farm_in v → IsKeptFarm f → IsLegalStep f e → (IsBooking e.act → ⊥) → length v.journal + 1 < 2 ^ 64 → Covers f (after f e) ts
    → Resizes f (after f e) resized → changed ≡ after f e → HasRoom v resized room w → Records f changed r g → OnOk r (IsReadyFor w e g ts resized)
ready_if v w f changed g e ts resized room (Ok done) rests leads kept legal unbooked counted covers resizes makes has is =
    ready v w f g e ts resized room rests leads kept legal unbooked counted covers resizes (is ∙ makes) has
ready_if v w f changed g e ts resized room (Err why) rests leads kept legal unbooked counted covers resizes makes has is = tt
