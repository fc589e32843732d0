-- What a view holds, and how steps change it.
use Rattle.std.specs.Prelude.{ℕ, zero, suc, Bool, true, false, if◌then◌else◌, ◌==◌, ◌&&◌, ◌||◌, List, [], ◌∷◌, ◌++◌, length, Option, Some, None}
use Rattle.booking_rule.specs.declared.view.View.{View}
use Rattle.farm_types.specs.declared.entry.Entry.{Entry}
use Rattle.booking_rule.specs.declared.desk.Desk.{Desk}
use Rattle.booking_rule.specs.declared.noted.Noted.{Noted}
use Rattle.booking_rule.specs.declared.hold.Take.{Take}
use Rattle.booking_rule.specs.declared.hold.Room.{Room}
use Rattle.booking_rule.specs.declared.hold.Claim.{Claim}

abbrev pub take_of : ℕ → ℕ → Take
take_of sub cores = record { sub = sub; cores = cores }

abbrev pub room_of : ℕ → ℕ → ℕ → Room
room_of host cores memory = record { host = host; cores = cores; memory = memory }

abbrev pub same_take : Take → Take → Bool
same_take t u = (t.sub == u.sub) && (t.cores == u.cores)

abbrev pub same_limit : ℕ → ℕ → Bool
same_limit n m = n == m

abbrev pub same_room : Room → Room → Bool
same_room t u = (t.host == u.host) && ((t.cores == u.cores) && (t.memory == u.memory))

abbrev pub same_claim : Claim → Claim → Bool
same_claim c d =
    (c.slot == d.slot) && ((c.version == d.version) && ((c.host == d.host) && ((c.sub == d.sub)
    && ((c.cores == d.cores) && ((c.limit == d.limit) && (c.memory == d.memory))))))

-- an item like x is there; the list without the first one
abbrev pub holds : {A : Type 0} → (A → A → Bool) → A → List A → Bool
holds same x [] = false
holds same x (y ∷ ys) = same x y || holds same x ys

abbrev pub without : {A : Type 0} → (A → A → Bool) → A → List A → List A
without same x [] = []
without same x (y ∷ ys) = if same x y then ys else y ∷ without same x ys

-- ---- limits, by what a word says of them: 0 for none, else the number plus 1

-- the take of that limit, if any
abbrev pub limit_take : ℕ → List ℕ
limit_take zero = []
limit_take (suc n) = n ∷ []

-- it is held, if there is one
abbrev pub holds_limit : ℕ → List ℕ → Bool
holds_limit zero ns = true
holds_limit (suc n) ns = holds same_limit n ns

abbrev pub without_limit : ℕ → List ℕ → List ℕ
without_limit zero ns = ns
without_limit (suc n) ns = without same_limit n ns

-- ---- steps, each with its item of the trail

abbrev pub take_in : Claim → Take
take_in c = take_of c.sub c.cores

abbrev pub room_in : Claim → Room
room_in c = room_of c.host c.cores c.memory

-- a load, or an exchange that lost
abbrev pub noted : View → Noted → View
noted v item = record v { trail = v.trail ++ item ∷ [] }

-- a burst take that is granted, and one that isn't; the granted one is gone, the other one is
abbrev pub granted : View → Take → Noted → View
granted v t item = record v { takes = t ∷ v.takes; trail = v.trail ++ item ∷ [] }

abbrev pub asked : View → Take → Noted → View
asked v t item = record v { ungranted = Some t; trail = v.trail ++ item ∷ [] }

abbrev pub given : View → Take → Noted → View
given v t item = record v { takes = without same_take t v.takes; trail = v.trail ++ item ∷ [] }

abbrev pub retracted : View → Noted → View
retracted v item = record v { ungranted = None; trail = v.trail ++ item ∷ [] }

-- the same of a limit
abbrev pub granted_limit : View → ℕ → Noted → View
granted_limit v limit item = record v { limits = limit ∷ v.limits; trail = v.trail ++ item ∷ [] }

abbrev pub asked_limit : View → ℕ → Noted → View
asked_limit v limit item = record v { ungranted_limit = Some limit; trail = v.trail ++ item ∷ [] }

abbrev pub given_limit : View → ℕ → Noted → View
given_limit v limit item = record v { limits = without same_limit limit v.limits; trail = v.trail ++ item ∷ [] }

abbrev pub retracted_limit : View → Noted → View
retracted_limit v item = record v { ungranted_limit = None; trail = v.trail ++ item ∷ [] }

-- room that is taken, and given back
abbrev pub with_room : View → Room → Noted → View
with_room v r item = record v { rooms = r ∷ v.rooms; trail = v.trail ++ item ∷ [] }

abbrev pub without_room : View → Room → Noted → View
without_room v r item = record v { rooms = without same_room r v.rooms; trail = v.trail ++ item ∷ [] }

-- take, limit take and room became a claim
abbrev pub claimed : View → Claim → Noted → View
claimed v c item =
    record v {
      takes = without same_take (take_in c) v.takes;
      limits = without_limit c.limit v.limits;
      rooms = without same_room (room_in c) v.rooms;
      claims = c ∷ v.claims;
      trail = v.trail ++ item ∷ [];
    }

-- a claim became take, limit take and room
abbrev pub dropped : View → Claim → Noted → View
dropped v c item =
    record v {
      takes = take_in c ∷ v.takes;
      limits = limit_take c.limit ++ v.limits;
      rooms = room_in c ∷ v.rooms;
      claims = without same_claim c v.claims;
      trail = v.trail ++ item ∷ [];
    }

-- ---- steps of the recorder's seat, after which a slot's word shows the farm again

abbrev pub one_done : ℕ → Desk → Desk
one_done slot d = record d { slots = slot ∷ d.slots }

abbrev pub with_done : ℕ → Option Desk → Option Desk
with_done slot None = None
with_done slot (Some d) = Some (one_done slot d)

-- a word that wasn't booked
abbrev pub turned : View → ℕ → Noted → View
turned v slot item = record v { desk = with_done slot v.desk; trail = v.trail ++ item ∷ [] }

-- a booked one, whose take, limit take and room are held, as of this claim
abbrev pub freed : View → ℕ → Claim → Noted → View
freed v slot c item =
    record v {
      desk = with_done slot v.desk;
      takes = take_in c ∷ v.takes;
      limits = limit_take c.limit ++ v.limits;
      rooms = room_in c ∷ v.rooms;
      trail = v.trail ++ item ∷ [];
    }

-- ---- a subscription's burst, or the most of a limit, is the farm's again

abbrev pub with_sub_done : ℕ → Option Desk → Option Desk
with_sub_done sub None = None
with_sub_done sub (Some d) = Some (record d { subs = sub ∷ d.subs })

abbrev pub burst_set : View → ℕ → Noted → View
burst_set v sub item = record v { desk = with_sub_done sub v.desk; trail = v.trail ++ item ∷ [] }

abbrev pub with_limit_done : ℕ → Option Desk → Option Desk
with_limit_done limit None = None
with_limit_done limit (Some d) = Some (record d { limits = limit ∷ d.limits })

abbrev pub most_set : View → ℕ → Noted → View
most_set v limit item = record v { desk = with_limit_done limit v.desk; trail = v.trail ++ item ∷ [] }

-- ---- a host's size is the farm's again, and the recorder's seat's room there is a part of it

abbrev pub rooms_off : ℕ → List Room → List Room
rooms_off host [] = []
rooms_off host (r ∷ rs) = if r.host == host then rooms_off host rs else r ∷ rooms_off host rs

abbrev pub with_host_done : ℕ → Option Desk → Option Desk
with_host_done host None = None
with_host_done host (Some d) = Some (record d { hosts = host ∷ d.hosts })

abbrev pub size_set : View → ℕ → Noted → View
size_set v host item = record v { desk = with_host_done host v.desk; rooms = rooms_off host v.rooms; trail = v.trail ++ item ∷ [] }

-- ---- a slot runs ahead of its booking, or no more

abbrev pub with_pending : Option ℕ → ℕ → Option Desk → Option Desk
with_pending slot host None = None
with_pending slot host (Some d) = Some (record d { pending = slot; on = host })

abbrev pub confirmed : View → Option ℕ → ℕ → Noted → View
confirmed v slot host item = record v { desk = with_pending slot host v.desk; trail = v.trail ++ item ∷ [] }

-- ---- an entry, of which no word was changed yet

abbrev pub desk_after : List Entry → Option Desk → Option Desk
desk_after log None = None
desk_after log (Some d) = Some (record d { before = Some log; slots = []; hosts = []; subs = []; limits = [] })

abbrev pub recorded : View → Entry → Noted → View
recorded v e item =
    record v {
      desk = desk_after v.journal v.desk;
      journal = v.journal ++ e ∷ [];
      trail = v.trail ++ item ∷ [];
      receipts = v.receipts ++ length v.journal ∷ [];
    }
