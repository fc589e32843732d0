-- How each step leaves a dispatcher's seat.
use Rattle.std.proofs.Common.{◌≡◌, ℕ, suc, ◌+◌, ◌<◌, ◌==◌, ◌&&◌, ◌||◌, Bool, true, List, [], ◌∷◌, ◌++◌, refl, sym, ap, ◌∙◌, subst, arith}
use Rattle.std.specs.Prelude.{Option, Some, None}
use Rattle.std.specs.List.{list_all}
use Rattle.std.proofs.lemmas.Bool.Decides.{nat_tests}
use Rattle.std.proofs.lemmas.List.{append_assoc, append-nil}
use Rattle.atomic_table.specs.Seated.{TableId}
use Rattle.atomic_table.specs.declared.shared.Seat.{Seat}
use Rattle.farm_types.specs.Dispatch.{candidate_suits}
use Rattle.farm_types.specs.Farm.{Farm}
use Rattle.farm_types.specs.Limits.{IsBetween}
use Rattle.farm_types.specs.Run.{run_of}
use Rattle.farm_types.specs.declared.limits.TheConstants.{LEAST_CORES, LEAST_MEMORY, MOST_CORES, MOST_MEMORY}
use Rattle.booking_rule.specs.declared.hold.Claim as rule
use Rattle.booking_rule.specs.declared.hold.Room.{Room}
use Rattle.booking_rule.specs.declared.hold.Take.{Take}
use Rattle.booking_rule.specs.declared.noted.Noted.{Noted}
use Rattle.booking_rule.specs.declared.view.View.{View}
use Rattle.booking_rule.specs.Kept.{farm_in}
use Rattle.booking_rule.specs.Link.{farm_of}
use Rattle.booking_rule.specs.Looks.{HasLook}
use Rattle.booking_rule.specs.Seats.{desk_seats, number_seats}
use Rattle.booking_rule.specs.Splits.{look_at}
use Rattle.booking_rule.specs.Views.{take_of, room_of, same_take, same_limit, same_room, same_claim, holds, holds_limit, noted, without, without_limit, limit_take, take_in, room_in}
use Rattle.booking_core.specs.Kinds.{loaded, gave_burst, gave_host}
use Rattle.booking_table.specs.declared.burst.BurstFull.{BurstFull}
use Rattle.booking_table.specs.declared.claiming.Dropped.{Dropped}
use Rattle.booking_table.specs.declared.claiming.Dropped.TheVariants as dropping
use Rattle.booking_table.specs.declared.claiming.Taken.{Taken}
use Rattle.booking_table.specs.declared.holds.BurstHold.{BurstHold}
use Rattle.booking_table.specs.declared.holds.Claim.{Claim}
use Rattle.booking_table.specs.declared.holds.Hold.{Hold}
use Rattle.booking_table.specs.declared.limit.LimitFull.{LimitFull}
use Rattle.booking_table.specs.declared.room.HostShort.{HostShort}
use Rattle.booking_table.specs.declared.room.HostShort.TheVariants as host_short
use Rattle.booking_table.specs.declared.seen.Seen.{Seen}
use Rattle.booking_table.specs.Calls.{look_by, looked, claim_by, unclaimed, hold_given, place_given}
use Rattle.booking_table.specs.Calls.{IsBurstTaken, IsBurstFull, IsLimitTaken, IsLimitFull, IsRoomTaken, IsShort, IsClaimed, IsTaken, IsDropped}
use Rattle.booking_table.specs.Holds.{burst_hold, with_place, hold_of, claim_of, HasBurst, HasHold, HasClaim}
use Rattle.booking_table.specs.Seats.{view, IsSameSeat}
use Rattle.booking_cases.specs.declared.advance.Work.{Work}
use Rattle.booking_cases.specs.declared.plan.Plan.{Plan}
use Rattle.booking_cases.specs.Holding.{HasHeld}
use Rattle.booking_cases.specs.Working.{AllSuit, GoesOn, HasLooked, IsFree, IsWorking}

-- ---- what is put in front is held

same_nat : (n : ℕ) → (n == n) ≡ true
same_nat n = grind (arith, nat_tests)

also : (n : ℕ) (b : Bool) → b ≡ true → ((n == n) && b) ≡ true
also n b is = ap (λ (x : Bool). x && b) (same_nat n) ∙ is

take_itself : (t : Take) → same_take t t ≡ true
take_itself t = also t.sub _ (same_nat t.cores)

room_itself : (r : Room) → same_room r r ≡ true
room_itself r = also r.host _ (also r.cores _ (same_nat r.memory))

claim_itself : (c : rule.Claim) → same_claim c c ≡ true
claim_itself c =
    also c.slot _ (also c.version _ (also c.host _ (also c.sub _ (also c.cores _ (also c.limit _ (same_nat c.memory))))))

first_held : {A : Type 0} (same : A → A → Bool) (x : A) (xs : List A) → same x x ≡ true → holds same x (x ∷ xs) ≡ true
first_held same x xs is = ap (λ (b : Bool). b || holds same x xs) is

-- ---- a seat goes on

goes_then : (u v w : View) → GoesOn u v → GoesOn v w → GoesOn u w
goes_then u v w g h =
    record {
      desk = h.desk ∙ g.desk;
      number = h.number ∙ g.number;
      opening = h.opening ∙ g.opening;
      journal = h.journal ∙ g.journal;
      burst = h.burst;
      place = h.place;
      trail = (
        g.trail.0 ++ h.trail.0,
        sym (append_assoc u.trail g.trail.0 h.trail.0) ∙ ap (λ (l : List Noted). l ++ h.trail.0) g.trail.1 ∙ h.trail.1,
      );
    }

goes_nowhere : (v : View) → IsFree v → GoesOn v v
goes_nowhere v f =
    record { desk = refl; number = refl; opening = refl; journal = refl; burst = f.burst; place = f.place; trail = ([], append-nil v.trail) }

-- with other holds and one item more in its trail
with_holds : (v : View) (takes : List Take) (limits : List ℕ) (rooms : List Room) (claims : List rule.Claim) (item : Noted) → IsFree v
    → GoesOn v (record v { takes = takes; limits = limits; rooms = rooms; claims = claims; trail = v.trail ++ item ∷ [] })
with_holds v takes limits rooms claims item f =
    record { desk = refl; number = refl; opening = refl; journal = refl; burst = f.burst; place = f.place; trail = (item ∷ [], refl) }

noted_goes : (v : View) (item : Noted) → IsFree v → GoesOn v (noted v item)
noted_goes v item f = with_holds v v.takes v.limits v.rooms v.claims item f

pub free_stays : (v w : View) → GoesOn v w → IsFree v → IsFree w
free_stays v w g f =
    record { desk = g.desk ∙ f.desk; one = (λ i. desk_seats (g.desk i) + number_seats (g.number i)) ∙ f.one; burst = g.burst; place = g.place }

suits_stay : (v w : View) (plan : Plan) → GoesOn v w → AllSuit v plan → AllSuit w plan
suits_stay v w plan g s =
    let same : farm_in w ≡ farm_in v = λ i. run_of (farm_of (g.opening i)) (g.journal i) in
    subst (λ (f : Farm). list_all (candidate_suits f plan.host) plan.candidates ≡ true) (sym same) s

-- what the law of trails says
abbrev pub LooksStay : Type 0
LooksStay = (ns ms : List Noted) (seen : Seen) → HasLook ns (look_by seen) → HasLook (ns ++ ms) (look_by seen)

seen_stays : LooksStay → (v w : View) → GoesOn v w → (o : Option Seen) → HasLooked v o → HasLooked w o
seen_stays law v w g None looked = tt
seen_stays law v w g (Some s) looked =
    record {
      slot = looked.slot;
      phase = looked.phase;
      version = looked.version;
      cores = looked.cores;
      memory = looked.memory;
      look = subst (λ (l : List Noted). HasLook l (look_by s)) g.trail.1 (law v.trail g.trail.0 s looked.look);
    }

pub works_with : (t : TableId) (s s' : Seat (Unit {0}) View) (plan : Plan) (work work' : Work) → IsWorking t s plan work → IsSameSeat s s'
    → GoesOn (view s) (view s') → HasLooked (view s') work'.seen → HasHeld (view s') work'.held → IsWorking t s' plan work'
works_with t s s' plan work work' W same g looked held =
    record {
      seat = (same.0 ∙ W.seat.0, same.2);
      free = free_stays (view s) (view s') g W.free;
      within = W.within;
      suits = suits_stay (view s) (view s') plan g W.suits;
      looked = looked;
      held = held;
    }

-- it holds something else then
pub works_on : LooksStay → (t : TableId) (s s' : Seat (Unit {0}) View) (plan : Plan) (work work' : Work) → IsWorking t s plan work → IsSameSeat s s'
    → GoesOn (view s) (view s') → work'.seen ≡ work.seen → HasHeld (view s') work'.held → IsWorking t s' plan work'
works_on law t s s' plan work work' W same g seen held =
    works_with t s s' plan work work' W same g
    (subst (HasLooked (view s')) (sym seen) (seen_stays law (view s) (view s') g work.seen W.looked)) held

-- ---- a look

pub look_goes : (v w : View) (slot frame amount : ℕ) → IsFree v → w ≡ looked v slot frame amount → GoesOn v w
look_goes v w slot frame amount f is =
    let a = loaded v (slot + 1) frame in
    let g = noted_goes v (look_at (slot + 1) frame) f in
    subst (GoesOn v) (sym is) (goes_then v a (looked v slot frame amount) g
    (noted_goes a (look_at (slot + 65537) amount) (free_stays v a g f)))

-- ---- a burst

pub burst_goes : (v w : View) (sub cores : ℕ) → IsFree v → IsBurstTaken v sub cores w → GoesOn v w
burst_goes v w sub cores f taken = subst (GoesOn v) (sym taken.3) (with_holds v (take_of sub cores ∷ v.takes) v.limits v.rooms v.claims _ f)

pub burst_held : (v w : View) (sub cores : ℕ) → sub < 1024 → IsBetween LEAST_CORES MOST_CORES cores → IsBurstTaken v sub cores w
    → HasBurst w (burst_hold sub cores)
burst_held v w sub cores lt between taken =
    subst (λ (x : View). HasBurst x (burst_hold sub cores)) (sym taken.3)
    ((lt, between, tt), first_held same_take (take_of sub cores) v.takes (take_itself (take_of sub cores)), refl)

pub full_goes : (v w : View) (sub cores : ℕ) (full : BurstFull) → IsFree v → IsBurstFull v sub cores full w → GoesOn v w
full_goes v w sub cores full f is =
    subst (GoesOn v) (sym is.5)
    (record {
      desk = refl;
      number = refl;
      opening = refl;
      journal = refl;
      burst = refl;
      place = f.place;
      trail = (_, sym (append_assoc v.trail (_ ∷ []) (_ ∷ [])));
    })

-- ---- a place in a limit

pub limit_goes : (v w : View) (limit : ℕ) → IsFree v → IsLimitTaken v limit w → GoesOn v w
limit_goes v w limit f taken = subst (GoesOn v) (sym taken.3) (with_holds v v.takes (limit ∷ v.limits) v.rooms v.claims _ f)

-- a limit's number as a word says it, which is one more
place_held : (limit : ℕ) (ns : List ℕ) → holds same_limit limit ns ≡ true → holds_limit (limit + 1) ns ≡ true
place_held limit ns held = let more : limit + 1 ≡ suc limit = omega arith in subst (λ (n : ℕ). holds_limit n ns ≡ true) (sym more) held

pub limit_held : (v w : View) (b : BurstHold) (limit : ℕ) → limit < 255 → HasBurst v b → IsLimitTaken v limit w → HasBurst w (with_place b limit)
limit_held v w b limit lt has taken =
    subst (λ (x : View). HasBurst x (with_place b limit)) (sym taken.3)
    ((has.0.0, has.0.1, lt), has.1, place_held limit (limit ∷ v.limits) (first_held same_limit limit v.limits (same_nat limit)))

pub no_place_goes : (v w : View) (limit : ℕ) (full : LimitFull) → IsFree v → IsLimitFull v limit full w → GoesOn v w
no_place_goes v w limit full f is =
    subst (GoesOn v) (sym is.5)
    (record {
      desk = refl;
      number = refl;
      opening = refl;
      journal = refl;
      burst = f.burst;
      place = refl;
      trail = (_, sym (append_assoc v.trail (_ ∷ []) (_ ∷ [])));
    })

pub no_place_held : (v w : View) (b : BurstHold) (limit : ℕ) (full : LimitFull) → HasBurst v b → IsLimitFull v limit full w → HasBurst w b
no_place_held v w b limit full has is = subst (λ (x : View). HasBurst x b) (sym is.5) has

-- ---- room on a host

pub room_goes : (v w : View) (host cores memory : ℕ) → IsFree v → IsRoomTaken v host cores memory w → GoesOn v w
room_goes v w host cores memory f taken =
    let a = loaded v (host + 131073) taken.0 in
    let g = noted_goes v (look_at (host + 131073) taken.0) f in
    subst (GoesOn v) (sym taken.3) (goes_then v a _ g (with_holds a a.takes a.limits (room_of host cores memory ∷ a.rooms) a.claims _ (free_stays v a g f)))

pub room_held : (v w : View) (b : BurstHold) (host memory : ℕ) → host < 4096 → IsBetween LEAST_MEMORY MOST_MEMORY memory → HasBurst v b
    → IsRoomTaken v host b.cores memory w → HasHold w (hold_of b host memory)
room_held v w b host memory lt between has taken =
    subst (λ (x : View). HasHold x (hold_of b host memory)) (sym taken.3)
    ((has.0, lt, between), has, first_held same_room (room_of host b.cores memory) v.rooms (room_itself (room_of host b.cores memory)))

pub short_goes : (v w : View) (host cores memory : ℕ) (short : HostShort) → IsFree v → IsShort v host cores memory short w → GoesOn v w
short_goes v w host cores memory (host_short.NoRoom c m) f is =
    subst (GoesOn v) (sym is.4) (noted_goes v (look_at (host + 131073) is.0) f)
short_goes v w host cores memory (host_short.Moved expected found) f is =
    let a = loaded v (host + 131073) expected in
    let g = noted_goes v (look_at (host + 131073) expected) f in
    subst (GoesOn v) (sym is.3) (goes_then v a _ g (noted_goes a _ (free_stays v a g f)))

pub short_held : (v w : View) (b : BurstHold) (host cores memory : ℕ) (short : HostShort) → HasBurst v b → IsShort v host cores memory short w → HasBurst w b
short_held v w b host cores memory (host_short.NoRoom c m) has is = subst (λ (x : View). HasBurst x b) (sym is.4) has
short_held v w b host cores memory (host_short.Moved expected found) has is = subst (λ (x : View). HasBurst x b) (sym is.3) has

-- ---- a claim

pub claim_goes : (v w : View) (c : Claim) → IsFree v → IsClaimed v c w → GoesOn v w
claim_goes v w c f is =
    subst (GoesOn v) (sym is)
    (with_holds v (without same_take (take_in (claim_of c)) v.takes) (without_limit (claim_of c).limit v.limits)
    (without same_room (room_in (claim_of c)) v.rooms)
    (claim_of c ∷ v.claims) _ f)

pub claim_held : (v w : View) (h : Hold) (s : Seen) → s.slot < 65536 → s.version < 16777215 → HasHold v h → IsClaimed v (claim_by h s) w
    → HasClaim w (claim_by h s)
claim_held v w h s slot version has is =
    let c = claim_of (claim_by h s) in
    subst (λ (x : View). HasClaim x (claim_by h s)) (sym is) (
      (slot, omega arith, (omega arith, omega (arith, version), omega (arith, has.0.1), omega (arith, has.0.0.1))),
      has.0,
      first_held same_claim c v.claims (claim_itself c),
    )

pub taken_goes : (v w : View) (c : Claim) (taken : Taken) → IsFree v → IsTaken v c taken w → GoesOn v w
taken_goes v w c taken f is = subst (GoesOn v) (sym is.1) (noted_goes v _ f)

pub taken_held : (v w : View) (c : Claim) (h : Hold) (taken : Taken) → HasHold v h → IsTaken v c taken w → HasHold w h
taken_held v w c h taken has is = subst (λ (x : View). HasHold x h) (sym is.1) has

-- ---- what goes back

placed_goes : (v : View) (limit : Option ℕ) (place : ℕ) → IsFree v → GoesOn v (place_given v limit place)
placed_goes v None place f = goes_nowhere v f
placed_goes v (Some limit) place f = with_holds v v.takes (without same_limit limit v.limits) v.rooms v.claims _ f

pub given_goes : (v : View) (b : BurstHold) (place found : ℕ) → IsFree v → GoesOn v (gave_burst (place_given v b.limit place) b.sub b.cores found)
given_goes v b place found f =
    let u = place_given v b.limit place in
    let g = placed_goes v b.limit place f in
    goes_then v u _ g (with_holds u (without same_take (take_of b.sub b.cores) u.takes) u.limits u.rooms u.claims _ (free_stays v u g f))

pub back_goes : (v : View) (h : Hold) (room place found : ℕ) → IsFree v → GoesOn v (hold_given v h room place found)
back_goes v h room place found f =
    let u = gave_host v h.host h.burst.cores h.memory room in
    let g : GoesOn v u = with_holds v v.takes v.limits (without same_room (room_of h.host h.burst.cores h.memory) v.rooms) v.claims _ f in
    goes_then v u _ g (given_goes u h.burst place found (free_stays v u g f))

pub dropped_goes : (v w : View) (c : Claim) (dropped : Dropped) → IsFree v → IsDropped v c dropped w → GoesOn v w
dropped_goes v w c dropping.Back f is =
    let u = unclaimed v c in
    let g : GoesOn v u =
    with_holds v (take_in (claim_of c) ∷ v.takes) (limit_take (claim_of c).limit ++ v.limits) (room_in (claim_of c) ∷ v.rooms)
    (without same_claim (claim_of c) v.claims) _ f in
    subst (GoesOn v) (sym is.3) (goes_then v u _ g (back_goes u c.hold is.0 is.1 is.2 (free_stays v u g f)))
dropped_goes v w c (dropping.Withdrawn found) f is = subst (GoesOn v) (sym is.1) (noted_goes v _ f)
