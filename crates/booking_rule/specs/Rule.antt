-- The rule of records, words and views.
use Rattle.std.specs.Prelude.{◌≡◌, ◌⊎◌, ℕ, ◌+◌, ◌<◌, ◌≤◌, Bool, true, false, if◌then◌else◌, ◌==◌, ◌&&◌, ◌||◌, List, Option, Some, None}
use Rattle.farm_types.specs.Farm.{sub_of}
use Rattle.frame_words.specs.declared.frame_word.FrameWord.{FrameWord}
use Rattle.frame_words.specs.declared.amount_word.AmountWord.{AmountWord}
use Rattle.booking_rule.specs.declared.view.View.{View}
use Rattle.booking_rule.specs.declared.hold.Take.{Take}
use Rattle.booking_rule.specs.declared.hold.Room.{Room}
use Rattle.booking_rule.specs.declared.hold.Claim.{Claim}
use Rattle.booking_rule.specs.Totals.{total, sum_to}
use Rattle.booking_rule.specs.Words.{Words}
use Rattle.booking_rule.specs.Recorded.{Stand, Recorded}
use Rattle.booking_rule.specs.Views.{same_claim}

-- ---- sums

-- what a slot's two words weigh; what frames weigh whose room, take and place in a limit are lent; and what a view
-- holds
pub record Account : Type 0 where
  pub weigh : FrameWord → AmountWord → ℕ
  pub lend : Stand → Stand → Stand → ℕ
  pub held : View → ℕ

abbrev pub weight : Account → Recorded → Words → ℕ → ℕ
weight a R W slot = a.weigh (W.frame slot) (W.amount slot) + a.lend (R.roomed slot) (R.billed slot) (R.counted slot)

abbrev pub sum_of : Account → Recorded → Words → List View → ℕ
sum_of a R W views = sum_to 65536 (weight a R W) + total a.held views

-- a frame is booked while its word is SETUP or RUNNING
abbrev pub is_booked : ℕ → Bool
is_booked phase = phase == 3 || phase == 4

-- ---- of a host

abbrev pub cores_in : ℕ → Room → ℕ
cores_in host r = if r.host == host then r.cores else 0

abbrev pub memory_in : ℕ → Room → ℕ
memory_in host r = if r.host == host then r.memory else 0

abbrev pub cores_of : ℕ → Account
cores_of host =
    record {
      weigh = λ f a. if is_booked f.phase && (f.host == host) then f.cores else 0;
      lend = λ room take place. if is_booked room.phase && (room.host == host) then room.cores else 0;
      held = λ v. total (cores_in host) v.rooms;
    }

abbrev pub memory_of : ℕ → Account
memory_of host =
    record {
      weigh = λ f a. if is_booked f.phase && (f.host == host) then a.memory else 0;
      lend = λ room take place. if is_booked room.phase && (room.host == host) then room.memory else 0;
      held = λ v. total (memory_in host) v.rooms;
    }

-- ---- of a subscription

abbrev pub on_sub : ℕ → Take → ℕ
on_sub sub t = if t.sub == sub then t.cores else 0

abbrev pub in_flight : ℕ → Option Take → ℕ
in_flight sub (Some t) = on_sub sub t
in_flight sub None = 0

abbrev pub granted_on : ℕ → View → ℕ
granted_on sub v = total (on_sub sub) v.takes

abbrev pub booked_on : (ℕ → ℕ) → ℕ → FrameWord → AmountWord → ℕ
booked_on alloc sub f a = if is_booked f.phase && (sub_of a.show (alloc f.host) == sub) then f.cores else 0

abbrev pub billed_on : (ℕ → ℕ) → ℕ → Stand → ℕ
billed_on alloc sub take = if is_booked take.phase && (sub_of take.show (alloc take.host) == sub) then take.cores else 0

-- with what isn't granted yet, and without
abbrev pub booked_of : (ℕ → ℕ) → ℕ → Account
booked_of alloc sub =
    record {
      weigh = booked_on alloc sub;
      lend = λ room take place. billed_on alloc sub take;
      held = λ v. granted_on sub v + in_flight sub v.ungranted;
    }

abbrev pub granted_of : (ℕ → ℕ) → ℕ → Account
granted_of alloc sub = record { weigh = booked_on alloc sub; lend = λ room take place. billed_on alloc sub take; held = granted_on sub }

-- ---- of a limit

abbrev pub on_limit : ℕ → ℕ → ℕ
on_limit limit n = if n == limit then 1 else 0

abbrev pub limit_in_flight : ℕ → Option ℕ → ℕ
limit_in_flight limit (Some n) = on_limit limit n
limit_in_flight limit None = 0

abbrev pub granted_in : ℕ → View → ℕ
granted_in limit v = total (on_limit limit) v.limits

abbrev pub running_on : ℕ → FrameWord → AmountWord → ℕ
running_on limit f a = if is_booked f.phase && (a.limit == limit + 1) then 1 else 0

abbrev pub counted_on : ℕ → Stand → ℕ
counted_on limit place = if is_booked place.phase && (place.limit == limit + 1) then 1 else 0

-- with what isn't granted yet, and without
abbrev pub running_of : ℕ → Account
running_of limit =
    record {
      weigh = running_on limit;
      lend = λ room take place. counted_on limit place;
      held = λ v. granted_in limit v + limit_in_flight limit v.ungranted_limit;
    }

abbrev pub counted_of : ℕ → Account
counted_of limit = record { weigh = running_on limit; lend = λ room take place. counted_on limit place; held = granted_in limit }

-- ---- words of slots

abbrev pub word_of : Stand → FrameWord
word_of s = record { phase = s.phase; version = s.version; host = s.host; cores = s.cores }

-- a claim of a waiting frame: SETUP at the next version, RUNNING where its slot is pending
pub record IsTaken (pending : Bool) (s : Stand) (f : FrameWord) : Type 0 where
  pub phase : f.phase ≡ (if pending then 4 else 3)
  pub version : f.version ≡ s.version + 1
  pub below : f.version < 16777216
  pub cores : f.cores ≡ s.cores

abbrev pub ShowsFrame : Bool → Bool → Stand → FrameWord → Type 0
ShowsFrame true pending s f = (f ≡ word_of s) ⊎ IsTaken pending s f
ShowsFrame false pending s f = f ≡ word_of s

abbrev pub SameAmounts : Stand → AmountWord → Type 0
SameAmounts s a = (a.show ≡ s.show) × ((a.limit ≡ s.limit) × (a.memory ≡ s.memory))

-- the amount word of a slot without a frame may be any
abbrev pub ShowsAmount : Stand → AmountWord → Type 0
ShowsAmount s a = ((s.phase == 0) ≡ false) → SameAmounts s a

pub record Shows (pending : Bool) (s : Stand) (f : FrameWord) (a : AmountWord) : Type 0 where
  pub frame : ShowsFrame (s.phase == 1) pending s f
  pub amount : ShowsAmount s a

-- the pending slot: its frame is recorded as waiting, and its word runs ahead
pub record RunsAhead (s : Stand) (f : FrameWord) : Type 0 where
  pub waits : s.phase ≡ 1
  pub runs : f.phase ≡ 4

-- ---- claims

abbrev pub is_at : ℕ → ℕ → Claim → ℕ
is_at slot version c = if (c.slot == slot) && (c.version == version) then 1 else 0

abbrev pub claims_at : ℕ → ℕ → View → ℕ
claims_at slot version v = total (is_at slot version) v.claims

abbrev pub is_like : Claim → Claim → ℕ
is_like c d = if same_claim c d then 1 else 0

abbrev pub claims_like : Claim → View → ℕ
claims_like c v = total (is_like c) v.claims

abbrev pub is_pending : Option ℕ → ℕ → Bool
is_pending None slot = false
is_pending (Some n) slot = n == slot

-- the word is that of a claim
abbrev pub is_claimed : Bool → FrameWord → Bool
is_claimed pending f = f.phase == 3 || (pending && (f.phase == 4))

-- the claim that a slot's words are of
abbrev pub claim_in : (ℕ → ℕ) → ℕ → FrameWord → AmountWord → Claim
claim_in alloc slot f a =
    record {
      slot = slot;
      version = f.version;
      host = f.host;
      sub = sub_of a.show (alloc f.host);
      cores = f.cores;
      limit = a.limit;
      memory = a.memory;
    }

-- no two claims are of one slot and version; each claimed word is that of one claim, with its amounts; and no claim is
-- of a later version than its slot's word
pub record Claims (alloc : ℕ → ℕ) (pending : Option ℕ) (frame : ℕ → FrameWord) (amount : ℕ → AmountWord) (views : List View) : Type 0 where
  pub one : (slot version : ℕ) → slot < 65536 → total (claims_at slot version) views ≤ 1
  pub claimed : (slot : ℕ) → slot < 65536 → is_claimed (is_pending pending slot) (frame slot) ≡ true
      → total (claims_like (claim_in alloc slot (frame slot) (amount slot))) views ≡ 1
  pub not_later : (slot version : ℕ) → slot < 65536 → (frame slot).version < version → total (claims_at slot version) views ≡ 0

-- the pending slot's word names the host
pub record NamesHost (pending : Option ℕ) (host : ℕ) (frame : ℕ → FrameWord) : Type 0 where
  pub each : (slot : ℕ) → slot < 65536 → is_pending pending slot ≡ true → (frame slot).host ≡ host

-- ---- the rule

-- Each slot's words show its record, or a claim of it. What a host has free is its size less what is booked there and
-- the rooms that are held there. What is booked of a subscription, and what runs in a limit, is what words and takes
-- say; without what isn't granted it has a bound.
pub record Rule (R : Recorded) (pending : Option ℕ) (W : Words) (views : List View) : Type 0 where
  pub shows : (slot : ℕ) → slot < 65536 → Shows (is_pending pending slot) (R.slot slot) (W.frame slot) (W.amount slot)
  pub pend : (slot : ℕ) → slot < 65536 → is_pending pending slot ≡ true → RunsAhead (R.slot slot) (W.frame slot)
  pub claims : Claims R.alloc pending W.frame W.amount views
  pub cores : (host : ℕ) → host < 4096 → (W.host host).cores + sum_of (cores_of host) R W views ≡ R.cores host
  pub memory : (host : ℕ) → host < 4096 → (W.host host).memory + sum_of (memory_of host) R W views ≡ R.memory host
  pub booked : (sub : ℕ) → sub < 1024 → (W.sub sub).booked ≡ sum_of (booked_of R.alloc sub) R W views
  pub burst : (sub : ℕ) → sub < 1024 → (W.sub sub).burst ≡ R.burst sub
  pub within : (sub : ℕ) → sub < 1024 → sum_of (granted_of R.alloc sub) R W views ≤ 4096000000
  pub running : (limit : ℕ) → limit < 255 → (W.limit limit).running ≡ sum_of (running_of limit) R W views
  pub most : (limit : ℕ) → limit < 255 → (W.limit limit).most ≡ R.most limit
  pub few : (limit : ℕ) → limit < 255 → sum_of (counted_of limit) R W views ≤ 65536
