-- All that is free of a host is taken, and given back.
use Rattle.std.proofs.Common.{◌≡◌, ℕ, ◌+◌, ◌-◌, ◌<◌, ◌≤◌, Bool, true, false, if◌then◌else◌, ◌==◌, ◌&&◌, ◌||◌, List, [], ◌∷◌, ◌++◌, append_assoc, length, sym, refl, ap, subst, ◌∙◌, arith, ⊎_elim}
use Rattle.std.specs.Prelude.{Some, None}
use Rattle.std.proofs.lemmas.Option.{none-some, same_Some}
use Rattle.farm_types.specs.declared.limits.TheConstants.{MOST_CORES, MOST_MEMORY}
use Rattle.farm_types.specs.Farm.{Farm}
use Rattle.farm_types.specs.Kept.{IsKeptFarm}
use Rattle.farm_types.specs.Sums.{used_cores, used_memory}
use Rattle.farm_types.proofs.Lists.{slice_get_below}
use Rattle.frame_words.specs.declared.host_word.HostWord.{HostWord}
use Rattle.frame_words.specs.Bits.{host_bits}
use Rattle.booking_rule.specs.declared.desk.Desk.{Desk}
use Rattle.booking_rule.specs.declared.hold.Room.{Room}
use Rattle.booking_rule.specs.declared.noted.Noted.{Noted}
use Rattle.booking_rule.specs.declared.view.View.{View}
use Rattle.booking_rule.specs.Kept.{farm_in}
use Rattle.booking_rule.specs.Link.{IsDone, host_cores, host_memory}
use Rattle.booking_rule.specs.Rule.{cores_in, memory_in}
use Rattle.booking_rule.specs.Totals.{total}
use Rattle.booking_rule.specs.Views.{holds, noted, room_of, same_room, without, with_room}
use Rattle.booking_rule.specs.Words.{host_place}
use Rattle.booking_rule.proofs.Moves.{same_self}
use Rattle.booking_core.specs.Kinds.{gave_host, host_less, host_tried, loaded}
use Rattle.booking_core.specs.Machine.{MayGive, MayGiveRoom}
use Rattle.booking_core.proofs.Seated.{settled_idle}
use Rattle.booking_table.specs.Calls.{IsOtherFree, IsWholeTaken}
use Rattle.entry_law.specs.Used.{UsesAreShown}
use Rattle.recording_core.proofs.Confirming.{desk_seated}
use Rattle.recording_table.proofs.MayRecord.{cores_are, memory_is}
use Rattle.recording_turns.specs.Resting.{IsAtRest, IsSettled}
use Rattle.recording_turns.specs.Sizes.{free_of, HasGivenSize, HasSize, HoldsRoom, IsStillHeld}
use Rattle.recording_turns.proofs.SizesResized.{cores_is as cores_there, memory_is as memory_there}

-- ---- what is used is within the size

pub used_within : (f : Farm) (host : ℕ) → IsKeptFarm f → host < length f.hosts
    → (used_cores f host ≤ host_cores f host) × (used_memory f host ≤ host_memory f host)
used_within f host kept lt =
    let row = slice_get_below f.hosts host lt in
    let cores = kept.rows.sound.cores host row.0 row.1 in
    let memory = kept.rows.sound.memory host row.0 row.1 in (
      subst (λ (x : ℕ). used_cores f host ≤ x) (sym (cores_there f host row.0 row.1)) cores,
      subst (λ (x : ℕ). used_memory f host ≤ x) (sym (memory_there f host row.0 row.1)) memory,
    )

-- ---- a look more, or a lost exchange

rests_noted : (v : View) (item : Noted) → IsAtRest v → IsAtRest (noted v item)
rests_noted v item rests =
    let s = rests.settled in
    let h = rests.free in
    record {
      settled = record { desk = s.desk; first = s.first; log = s.log; placed = s.placed; pending = s.pending; done = s.done };
      free = record { takes = h.takes; limits = h.limits; rooms = h.rooms; claims = h.claims; burst = h.burst; place = h.place };
    }

pub still_held : (v : View) (f : Farm) (host : ℕ) (free found : HostWord) (w : View) → free ≡ free_of f host → IsAtRest v → IsOtherFree v host free found w
    → IsStillHeld v f host found w
still_held v f host free found w is rests other = record {
  rests = ⊎_elim
      (λ (e : w ≡ loaded v (host_place host) (host_bits found)). subst IsAtRest (sym e) (rests_noted v _ rests))
      (λ (e : w ≡ noted (loaded v (host_place host) (host_bits free)) (host_tried host (host_less (host_bits free) free.cores free.memory) (host_bits found))).
      subst IsAtRest (sym e) (rests_noted (loaded v (host_place host) (host_bits free)) _ (rests_noted v _ rests)))
      other.1;
  other = subst (λ (x : HostWord). IsOtherFree v host x found w) is other;
}

-- ---- it is taken

amount_there : (host amount : ℕ) → (if host == host then amount else 0) ≡ amount
amount_there host amount = ap (λ (b : Bool). if b then amount else 0) (same_self host)

module _ (v : View) (host : ℕ) (free : HostWord) (rests : IsAtRest v) (few : (free.cores ≤ MOST_CORES) × (free.memory ≤ MOST_MEMORY)) (look item : Noted) where
  abbrev room : Room
  room = room_of host free.cores free.memory

  abbrev after : View
  after = with_room (noted v look) room item

  only : after.rooms ≡ room ∷ []
  only = ap (λ (l : List Room). room ∷ l) rests.free.rooms

  has_room : (kept : IsKeptFarm (farm_in v)) → UsesAreShown (farm_in v) → host < length (farm_in v).hosts → free ≡ free_of (farm_in v) host
      → HasSize v host free after
  has_room kept uses lt is =
      let f = farm_in v in
      let s = rests.settled in
      let h = rests.free in
      let within = used_within f host kept lt in
      let some_cores = within.0 in
      let some_memory = within.1 in
      let sum = cores_are f host kept uses in
      let amount = memory_is f host kept uses in
      let cores : free.cores ≡ host_cores f host - used_cores f host = ap (λ (x : HostWord). x.cores) is in
      let memory : free.memory ≡ host_memory f host - used_memory f host = ap (λ (x : HostWord). x.memory) is in
      let all_cores : total (cores_in host) after.rooms ≡ free.cores + 0 =
      ap (total (cores_in host)) only ∙ ap (λ (n : ℕ). n + 0) (amount_there host free.cores) in
      let all_memory : total (memory_in host) after.rooms ≡ free.memory + 0 =
      ap (total (memory_in host)) only ∙ ap (λ (n : ℕ). n + 0) (amount_there host free.memory) in
      record {
        settled = record { desk = s.desk; first = s.first; log = s.log; placed = s.placed; pending = s.pending; done = s.done };
        all = record {
          cores = omega (arith, some_cores, sum, cores, all_cores);
          memory = omega (arith, some_memory, amount, memory, all_memory);
        };
        holds = record { takes = h.takes; limits = h.limits; rooms = only; claims = h.claims; burst = h.burst; place = h.place; few = few };
        like = λ i. record v { rooms = only i; trail = (v.trail ++ look ∷ []) ++ item ∷ [] };
        trail = (look ∷ item ∷ [], sym (append_assoc v.trail (look ∷ []) (item ∷ [])));
      }

-- by the farm that the caller has
pub has_size : (v : View) (f : Farm) (host : ℕ) (free : HostWord) (w : View) → farm_in v ≡ f → IsAtRest v → IsKeptFarm f → UsesAreShown f
    → host < length f.hosts
    → free ≡ free_of f host → (free.cores ≤ MOST_CORES) × (free.memory ≤ MOST_MEMORY) → IsWholeTaken v host free w → HasSize v host free w
has_size v f host free w farm rests kept uses lt is few taken =
    let P : Farm → Type 0 = λ g. IsKeptFarm g × UsesAreShown g × (host < length g.hosts) × (free ≡ free_of g host) in
    let own : P (farm_in v) = subst P (sym farm) (kept, uses, lt, is) in
    subst (HasSize v host free) (sym taken) (has_room v host free rests few _ _ own.0 own.1 own.2 own.3)

-- ---- it is given back

room_self : (r : Room) → same_room r r ≡ true
room_self r = λ i. same_self r.host i && (same_self r.cores i && same_self r.memory i)

module _ (v : View) (host : ℕ) (room : HostWord) (settled : IsSettled v) (has : HoldsRoom v host room) where
  abbrev given : Room
  given = room_of host room.cores room.memory

  desk_is : (d : Desk) → v.desk ≡ Some d → settled.desk ≡ d
  desk_is d is = same_Some settled.desk d (sym settled.first ∙ is)

  pub may_give : MayGive v
  may_give = (
    desk_seated v settled.desk settled.first,
    λ d is none. none-some settled.log (sym none ∙ (ap (λ (x : Desk). x.before) (sym (desk_is d is)) ∙ settled.placed)),
  )

  pub may_give_room : MayGiveRoom v host
  may_give_room =
      settled_idle v host
      (λ d is. subst (λ (x : Desk). IsDone v.opening v.journal x × (x.pending ≡ None)) (desk_is d is) (settled.done, settled.pending))

  pub held : holds same_room given v.rooms ≡ true
  held = ap (holds same_room given) has.rooms ∙ ap (λ (b : Bool). b || false) (room_self given)

  pub given_size : (w : View) (found : ℕ) → w ≡ gave_host v host room.cores room.memory found → HasGivenSize v w
  given_size w found is =
      let none : without same_room given v.rooms ≡ [] =
      ap (without same_room given) has.rooms ∙ ap (λ (b : Bool). if b then [] else given ∷ []) (room_self given) in
      subst (HasGivenSize v) (sym is) (record {
        rests = record {
          settled = record {
            desk = settled.desk;
            first = settled.first;
            log = settled.log;
            placed = settled.placed;
            pending = settled.pending;
            done = settled.done;
          };
          free = record { takes = has.takes; limits = has.limits; rooms = none; claims = has.claims; burst = has.burst; place = has.place };
        };
        like = λ i. record v { rooms = none i; trail = (gave_host v host room.cores room.memory found).trail };
        trail = (_, refl);
      })
