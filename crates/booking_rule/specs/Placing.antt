-- What is asked where words are placed for the first time.
use Rattle.std.specs.Prelude.{◌≡◌, ℕ, ◌≤◌, ◌+◌, ◌==◌, ◌&&◌, if◌then◌else◌, true, false, [], None}
use Rattle.farm_types.specs.Farm.{Farm, sub_of}
use Rattle.booking_rule.specs.declared.desk.Desk.{Desk}
use Rattle.booking_rule.specs.declared.view.View.{View}
use Rattle.booking_rule.specs.Totals.{sum_to}
use Rattle.booking_rule.specs.Recorded.{Stand}
use Rattle.booking_rule.specs.Link.{has, has_limit, hosted, is_billed, is_counted, stand_at, host_cores, host_memory, host_alloc}
use Rattle.booking_rule.specs.Kept.{farm_in}

-- ---- a running frame's word

-- its host, its subscription and its limit, if any, were placed, and its own word wasn't
pub record IsLent (v : View) (d : Desk) (slot : ℕ) : Type 0 where
  pub opening : d.before ≡ None
  pub undone : has slot d.slots ≡ false
  pub runs : (stand_at (farm_in v) slot).phase ≡ 4
  pub room : hosted d (stand_at (farm_in v) slot) ≡ true
  pub bill : is_billed (farm_in v) d (stand_at (farm_in v) slot) ≡ true
  pub count : is_counted d (stand_at (farm_in v) slot) ≡ false → (stand_at (farm_in v) slot).limit ≡ 0

-- ---- a host's word

-- what a frame that runs on the host uses
abbrev pub runs_cores : ℕ → Stand → ℕ
runs_cores host s = if (s.phase == 4) && (s.host == host) then s.cores else 0

abbrev pub runs_memory : ℕ → Stand → ℕ
runs_memory host s = if (s.phase == 4) && (s.host == host) then s.memory else 0

-- The words are placed for the first time, hosts first: this host wasn't yet, and no slot and no subscription was. What its
-- running frames use is within its size.
pub record FirstHost (v : View) (d : Desk) (host : ℕ) : Type 0 where
  pub opening : d.before ≡ None
  pub undone : has host d.hosts ≡ false
  pub slots : d.slots ≡ []
  pub subs : d.subs ≡ []
  pub cores : sum_to 65536 (λ k. runs_cores host (stand_at (farm_in v) k)) ≤ host_cores (farm_in v) host
  pub memory : sum_to 65536 (λ k. runs_memory host (stand_at (farm_in v) k)) ≤ host_memory (farm_in v) host

-- ---- a subscription's word

-- what a running frame uses of the subscription
abbrev pub sub_uses : Farm → ℕ → Stand → ℕ
sub_uses f k s = if (s.phase == 4) && (sub_of s.show (host_alloc f s.host) == k) then s.cores else 0

-- The words are placed for the first time: this one wasn't yet, and no slot was.
pub record FirstSub (v : View) (d : Desk) (k : ℕ) : Type 0 where
  pub opening : d.before ≡ None
  pub undone : has k d.subs ≡ false
  pub slots : d.slots ≡ []
  pub hosts : (slot : ℕ) → (stand_at (farm_in v) slot).phase ≡ 4 → has (stand_at (farm_in v) slot).host d.hosts ≡ true

-- ---- a limit's word

-- what a running frame uses of the limit
abbrev pub limit_uses : ℕ → Stand → ℕ
limit_uses k s = if (s.phase == 4) && (s.limit == k + 1) then 1 else 0

-- The words are placed for the first time: this one wasn't yet, and no slot was.
pub record FirstLimit (v : View) (d : Desk) (k : ℕ) : Type 0 where
  pub opening : d.before ≡ None
  pub undone : has_limit (k + 1) d.limits ≡ false
  pub slots : d.slots ≡ []
