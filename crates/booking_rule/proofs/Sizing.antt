-- A host's word takes its size: where the recorder's seat has all of the old one as room, or where the host is new.
use Rattle.std.proofs.Common.{◌≡◌, ◌≢◌, ◌⊎◌, ℕ, zero, suc, ◌+◌, ◌<◌, ◌≤◌, Bool, true, false, if◌then◌else◌, ◌==◌, ◌&&◌, ◌||◌, List, [], ◌∷◌, ◌++◌, set, sym, refl, ap, ◌∙◌, subst, arith, inl, inr, ⊎_elim}
use Rattle.std.specs.Prelude.{Option, Some, None, slice_get}
use Rattle.std.specs.List.{list_all}
use Rattle.std.proofs.lemmas.List.{append-nil}
use Rattle.std.proofs.lemmas.Bool.Decides.{nat_tests}
use mathlib.Core.Option.{some, some-injective, some-ne-none}
use mathlib.Core.Logic.{dite}
use native.Mathlib.Decide.{ℕ_discrete}
use lib.ListN.{get_elem?}
use Rattle.farm_types.specs.declared.entry.Entry.{Entry}
use Rattle.farm_types.specs.declared.rows.HostRow.{HostRow}
use Rattle.farm_types.specs.Farm.{Farm, sub_of}
use Rattle.farm_types.specs.Kept.{KeepsRows, is_formed_host}
use Rattle.farm_types.specs.Run.{IsLegal, run_of}
use Rattle.farm_types.proofs.Lists.{list_all-at}
use Rattle.farm_law.proofs.KeptRuns.{kept_run}
use Rattle.frame_words.specs.declared.frame_word.FrameWord.{FrameWord}
use Rattle.frame_words.specs.declared.host_word.HostWord.{HostWord}
use Rattle.booking_rule.specs.declared.desk.Desk.{Desk}
use Rattle.booking_rule.specs.declared.hold.Room.{Room}
use Rattle.booking_rule.specs.declared.noted.Noted.{Noted}
use Rattle.booking_rule.specs.declared.opening.Opening.{Opening}
use Rattle.booking_rule.specs.declared.view.View.{View}
use Rattle.booking_rule.specs.Totals.{total, sum_to}
use Rattle.booking_rule.specs.Words.{Words, host_place, put, with_host}
use Rattle.booking_rule.specs.Recorded.{Recorded, Stand}
use Rattle.booking_rule.specs.Views.{rooms_off, with_host_done, size_set}
use Rattle.booking_rule.specs.Link.{farm_of, farm_before, has, lent, hosted, is_billed, recorded_in, stand_at, host_cores, host_memory, host_alloc, of_host}
use Rattle.booking_rule.specs.Rule.{weight, sum_of, is_booked, cores_in, memory_in, cores_of, memory_of, booked_on, billed_on, booked_of, granted_of, running_of, counted_of, word_of, IsTaken, ShowsFrame, claims_like, is_pending, is_claimed, Claims, Rule}
use Rattle.booking_rule.specs.Resizing.{IsOfSize, IsResized, IsEmptied, Resizing}
use Rattle.booking_rule.specs.Seats.{Seats}
use Rattle.booking_rule.specs.Kept.{IsBefore, Kept, KeptAs, farm_in}
use Rattle.booking_rule.proofs.Sums.{total_set, sum_to-same, sum_to-zero}
use Rattle.booking_rule.proofs.Moves.{same_not, put_here, put_else, view_moves, claims_view, HoldsTakes, HoldsLimits, granted_held, flight_held, limit_held, limit_flight_held}
use Rattle.booking_rule.proofs.Says.{kept_before}
use Rattle.booking_rule.proofs.Looking.{all_stand, tells_nothing}
use Rattle.booking_rule.proofs.Seeing.{suited_set, looks_set, ranged_step, written_more}
use Rattle.booking_rule.proofs.Keeping.{found_finds}
use Rattle.booking_rule.proofs.Own.{of_first}
use Rattle.booking_rule.proofs.Seating.{desk_steps, none_some}
use Rattle.booking_rule.proofs.Turning.{done_by}
use Rattle.booking_rule.proofs.Resizing.{emptied_set}
use Rattle.booking_rule.proofs.Lending.{lent_placed}

-- ---- the rooms that are left

-- a weight of rooms that looks at one host
pub off_here : (host : ℕ) (g : Room → ℕ) (rs : List Room) → total (λ r. if r.host == host then g r else 0) (rooms_off host rs) ≡ 0
off_here host g [] = refl
off_here host g (r ∷ rs) = go (off_here host g rs) (r.host == host) refl
  where
    go : total (λ r. if r.host == host then g r else 0) (rooms_off host rs) ≡ 0 → (b : Bool) → (r.host == host) ≡ b
        → total (λ r. if r.host == host then g r else 0) (if b then rooms_off host rs else r ∷ rooms_off host rs) ≡ 0
    go rest true is = rest
    go rest false is = let z : (if r.host == host then g r else 0) ≡ 0 = ap (λ (b : Bool). if b then g r else 0) is in omega arith

pub off_else : (host h : ℕ) (g : Room → ℕ) (rs : List Room) → h ≢ host
    → total (λ r. if r.host == h then g r else 0) (rooms_off host rs) ≡ total (λ r. if r.host == h then g r else 0) rs
off_else host h g [] ne = refl
off_else host h g (r ∷ rs) ne = go (off_else host h g rs ne) (r.host == host) refl
  where
    go : total (λ r. if r.host == h then g r else 0) (rooms_off host rs) ≡ total (λ r. if r.host == h then g r else 0) rs → (b : Bool) → (r.host == host) ≡ b
        → total (λ r. if r.host == h then g r else 0) (if b then rooms_off host rs else r ∷ rooms_off host rs)
        ≡ (if r.host == h then g r else 0) + total (λ r. if r.host == h then g r else 0) rs
    go rest true is = (let at : r.host ≡ host = grind (arith, nat_tests) in
        let z : (if r.host == h then g r else 0) ≡ 0 = ap (λ (b : Bool). if b then g r else 0) (ap (λ (n : ℕ). n == h) at ∙ same_not host h (λ e. ne (sym e))) in
        omega arith)
    go rest false is = omega arith

-- ---- parts of sums

pub total_has : {A : Type 0} (f : A → ℕ) (l : List A) (i : ℕ) (x : A) → get_elem? l i ≡ some x → f x ≤ total f l
total_has f [] i x e = absurd (some-ne-none x (sym e))
total_has f (y ∷ ys) zero x e = let is : f y ≡ f x = ap f (some-injective y x e) in omega arith
total_has f (y ∷ ys) (suc i) x e = let r = total_has f ys i x e in omega arith

-- the total of all but one is nothing
pub total_only : {A : Type 0} (f : A → ℕ) (l : List A) (i : ℕ) (x : A) → get_elem? l i ≡ some x → ((j : ℕ) (y : A) → get_elem? l j ≡ some y → j ≢ i → f y ≡ 0) → total f l ≡ f x
total_only f [] i x e none = absurd (some-ne-none x (sym e))
total_only f (y ∷ ys) zero x e none =
    let is : f y ≡ f x = ap f (some-injective y x e) in
    let z : total f ys ≡ 0 = nothing f ys (λ j u t. none (suc j) u t (λ q. absurd (omega (arith, q)))) in
    omega arith
  where
    nothing : {A : Type 0} (f : A → ℕ) (l : List A) → ((j : ℕ) (u : A) → get_elem? l j ≡ some u → f u ≡ 0) → total f l ≡ 0
    nothing f [] none = refl
    nothing f (u ∷ us) none = let a = none 0 u refl in let r = nothing f us (λ j x t. none (suc j) x t) in omega arith
total_only f (y ∷ ys) (suc i) x e none =
    let z = none 0 y refl (λ q. absurd (omega (arith, q))) in
    let r = total_only f ys i x e (λ j u t ne. none (suc j) u t (λ q. ne (omega (arith, q)))) in
    omega arith

pub sum_to_part : (n : ℕ) (f : ℕ → ℕ) (k : ℕ) → k < n → f k ≤ sum_to n f
unfolding sum_to
sum_to_part zero f k lt = absurd (omega (arith, lt))
sum_to_part (suc n) f k lt = dite (ℕ_discrete k n)
    (λ e. let is : f k ≡ f n = ap f e in omega arith)
    (λ ne. let r = sum_to_part n f k (omega (arith, lt, ne)) in omega arith)

-- ---- a claimed word is booked

claimed_booked : (p : Bool) (f : FrameWord) → is_claimed p f ≡ true → is_booked f.phase ≡ true
claimed_booked true f is = is
claimed_booked false f is = go (f.phase == 3) (f.phase == 4) is
  where
    go : (a b : Bool) → (a || (false && b)) ≡ true → (a || b) ≡ true
    go true b e = refl
    go false b e = absurd (clash e)
      where
        clash : false ≡ true → ⊥
        clash q = cc

-- ---- a host gets its allocation, while no booked frame is on it

module _ (R : Recorded) (W : Words) (host a : ℕ) (apart : (slot : ℕ) → slot < 65536 → is_booked (W.frame slot).phase ≡ true → (W.frame slot).host ≢ host)
    (unlent : (slot : ℕ) → is_booked (R.billed slot).phase ≡ true → (R.billed slot).host ≢ host) where
  alloc_same : (h : ℕ) → h ≢ host → put R.alloc host a h ≡ R.alloc h
  alloc_same h ne = put_else R.alloc host a h ne

  booked_same : (sub slot : ℕ) → slot < 65536 → booked_on (put R.alloc host a) sub (W.frame slot) (W.amount slot) ≡ booked_on R.alloc sub (W.frame slot) (W.amount slot)
  booked_same sub slot l = go (is_booked (W.frame slot).phase) refl
    where
      go : (b : Bool) → is_booked (W.frame slot).phase ≡ b
          → (if b && (sub_of (W.amount slot).show (put R.alloc host a (W.frame slot).host) == sub) then (W.frame slot).cores else 0)
          ≡ (if b && (sub_of (W.amount slot).show (R.alloc (W.frame slot).host) == sub) then (W.frame slot).cores else 0)
      go true is = ap (λ (x : ℕ). if sub_of (W.amount slot).show x == sub then (W.frame slot).cores else 0) (alloc_same (W.frame slot).host (apart slot l is))
      go false is = refl

  billed_same : (sub slot : ℕ) → billed_on (put R.alloc host a) sub (R.billed slot) ≡ billed_on R.alloc sub (R.billed slot)
  billed_same sub slot = go (is_booked (R.billed slot).phase) refl
    where
      go : (b : Bool) → is_booked (R.billed slot).phase ≡ b
          → (if b && (sub_of (R.billed slot).show (put R.alloc host a (R.billed slot).host) == sub) then (R.billed slot).cores else 0)
          ≡ (if b && (sub_of (R.billed slot).show (R.alloc (R.billed slot).host) == sub) then (R.billed slot).cores else 0)
      go true is = ap (λ (x : ℕ). if sub_of (R.billed slot).show x == sub then (R.billed slot).cores else 0) (alloc_same (R.billed slot).host (unlent slot is))
      go false is = refl

  -- each sum of a subscription stays
  pub sums_same : (sub : ℕ)
      → sum_to 65536 (λ slot. booked_on (put R.alloc host a) sub (W.frame slot) (W.amount slot) + billed_on (put R.alloc host a) sub (R.billed slot))
      ≡ sum_to 65536 (λ slot. booked_on R.alloc sub (W.frame slot) (W.amount slot) + billed_on R.alloc sub (R.billed slot))
  sums_same sub =
      sum_to-same 65536 (λ slot. booked_on R.alloc sub (W.frame slot) (W.amount slot) + billed_on R.alloc sub (R.billed slot))
      (λ slot. booked_on (put R.alloc host a) sub (W.frame slot) (W.amount slot) + billed_on (put R.alloc host a) sub (R.billed slot))
      (λ slot l i. booked_same sub slot l i + billed_same sub slot i)

  pub claims_same : (p : Option ℕ) (views : List View) (id : ℕ) (v w : View) → Claims R.alloc p W.frame W.amount views → get_elem? views id ≡ some v → w.claims ≡ v.claims
      → Claims (put R.alloc host a) p W.frame W.amount (set views id w)
  claims_same p views id v w old at claims =
      let C = claims_view R.alloc p W.frame W.amount views id v w old at claims in
      record {
        one = C.one;
        claimed = λ slot l is. (let here = alloc_same (W.frame slot).host (apart slot l (claimed_booked (is_pending p slot) (W.frame slot) is)) in
            let P : ℕ → Type 0 = λ x. total (claims_like (record {
              slot = slot;
              version = (W.frame slot).version;
              host = (W.frame slot).host;
              sub = sub_of (W.amount slot).show x;
              cores = (W.frame slot).cores;
              limit = (W.amount slot).limit;
              memory = (W.amount slot).memory;
            })) (set views id w) ≡ 1 in
            subst P (sym here) (C.claimed slot l is));
        not_later = C.not_later;
      }

-- ---- the rule: no booked frame is on the host, and the recorder's seat has all of its size

module _ (R : Recorded) (p : Option ℕ) (W : Words) (views : List View) (id : ℕ) (v w : View) (host c m a : ℕ) (K : Rule R p W views) (at : get_elem? views id ≡ some v) (lt : host < 4096)
    (apart : (slot : ℕ) → slot < 65536 → is_booked (W.frame slot).phase ≡ true → (W.frame slot).host ≢ host)
    (unlent : (slot : ℕ) → is_booked (R.billed slot).phase ≡ true → (R.billed slot).host ≢ host)
    (all_cores : (cores_of host).held v ≡ R.cores host) (all_memory : (memory_of host).held v ≡ R.memory host)
    (rooms : w.rooms ≡ rooms_off host v.rooms) (takes : HoldsTakes v w) (limits : HoldsLimits v w) (claims : w.claims ≡ v.claims) where
  abbrev alloc : ℕ → ℕ
  alloc = put R.alloc host a

  abbrev next : Recorded
  next = record R { cores = put R.cores host c; memory = put R.memory host m; alloc = alloc }

  abbrev word : HostWord
  word = record { cores = (W.host host).cores + c; memory = (W.host host).memory + m }

  sum_same : (sub : ℕ) → sum_to 65536 (weight (booked_of alloc sub) next (with_host W host word)) ≡ sum_to 65536 (weight (booked_of R.alloc sub) R W)
  sum_same = sums_same R W host a apart unlent

  pub resizes : Rule next p (with_host W host word) (set views id w)
  resizes = record {
    shows = K.shows;
    pend = K.pend;
    claims = claims_same R W host a apart unlent p views id v w K.claims at claims;
    cores = λ h l. (let n = view_moves (cores_of h) R W views id v w at in let o = K.cores h l in dite (ℕ_discrete h host)
        (λ e. let P : ℕ → Type 0 = λ x. (put W.host host word x).cores + sum_of (cores_of x) R W (set views id w) ≡ put R.cores host c x in
        subst P (sym e) (let x : (put W.host host word host).cores ≡ (W.host host).cores + c = ap (λ (y : HostWord). y.cores) (put_here W.host host word) in
        let b = put_here R.cores host c in
        let n = view_moves (cores_of host) R W views id v w at in let o = K.cores host lt in
        let q : (cores_of host).held w ≡ 0 = ap (total (cores_in host)) rooms ∙ off_here host (λ r. r.cores) v.rooms in
        let part = total_has (cores_of host).held views id v at in omega arith))
        (λ ne. let x : (put W.host host word h).cores ≡ (W.host h).cores = ap (λ (y : HostWord). y.cores) (put_else W.host host word h ne) in
        let b = put_else R.cores host c h ne in
        let q : (cores_of h).held w ≡ (cores_of h).held v = ap (total (cores_in h)) rooms ∙ off_else host h (λ r. r.cores) v.rooms ne in omega arith));
    memory = λ h l. (let n = view_moves (memory_of h) R W views id v w at in let o = K.memory h l in dite (ℕ_discrete h host)
        (λ e. let P : ℕ → Type 0 = λ x. (put W.host host word x).memory + sum_of (memory_of x) R W (set views id w) ≡ put R.memory host m x in
        subst P (sym e) (let x : (put W.host host word host).memory ≡ (W.host host).memory + m = ap (λ (y : HostWord). y.memory) (put_here W.host host word) in
        let b = put_here R.memory host m in
        let n = view_moves (memory_of host) R W views id v w at in let o = K.memory host lt in
        let q : (memory_of host).held w ≡ 0 = ap (total (memory_in host)) rooms ∙ off_here host (λ r. r.memory) v.rooms in
        let part = total_has (memory_of host).held views id v at in omega arith))
        (λ ne. let x : (put W.host host word h).memory ≡ (W.host h).memory = ap (λ (y : HostWord). y.memory) (put_else W.host host word h ne) in
        let b = put_else R.memory host m h ne in
        let q : (memory_of h).held w ≡ (memory_of h).held v = ap (total (memory_in h)) rooms ∙ off_else host h (λ r. r.memory) v.rooms ne in omega arith));
    booked = λ j l. (let s = sum_same j in let t = total_set (booked_of R.alloc j).held views id v w at in let o = K.booked j l in
        let q = granted_held v w j takes in let y = flight_held v w j takes in omega arith);
    burst = K.burst;
    within = λ j l. (let s = sum_same j in let t = total_set (granted_of R.alloc j).held views id v w at in let o = K.within j l in
        let q = granted_held v w j takes in omega arith);
    running = λ j l. (let n = view_moves (running_of j) R W views id v w at in let o = K.running j l in
        let q = limit_held v w j limits in let y = limit_flight_held v w j limits in omega arith);
    most = K.most;
    few = λ j l. (let n = view_moves (counted_of j) R W views id v w at in let o = K.few j l in let q = limit_held v w j limits in omega arith);
  }

-- ---- a host that isn't recorded has no memory

memory_found : (hosts : List HostRow) (host : ℕ) → list_all is_formed_host hosts ≡ true → (x : Option HostRow) → slice_get hosts host ≡ x
    → of_host (λ row. row.cores) x ≡ 0 → of_host (λ row. row.memory) x ≡ 0
memory_found hosts host formed None at none = refl
memory_found hosts host formed (Some row) at none =
    let k = list_all-at is_formed_host hosts host row formed at in
    let least : 10 ≤ row.cores = grind (arith, nat_tests) in
    absurd (omega (arith, least, none))

memory_none : (f : Farm) (host : ℕ) → KeepsRows f → host_cores f host ≡ 0 → host_memory f host ≡ 0
unfolding host_cores host_memory
memory_none f host k none = memory_found f.hosts host k.hosts.formed (slice_get f.hosts host) refl none

recorded_memory : (o : Opening) (log : List Entry) (d : Desk) → KeepsRows (farm_of o) → IsLegal (farm_of o) log → IsBefore d.before log → (host : ℕ)
    → (recorded_in o log d).cores host ≡ 0 → (recorded_in o log d).memory host ≡ 0
recorded_memory o log d begins legal before host =
    go (has host d.hosts) (memory_none (farm_before o d.before) host (kept_before o d.before log begins legal before))
    (memory_none (run_of (farm_of o) log) host (kept_run (farm_of o) log begins legal))
  where
    go : (b : Bool) → (host_cores (farm_before o d.before) host ≡ 0 → host_memory (farm_before o d.before) host ≡ 0)
        → (host_cores (run_of (farm_of o) log) host ≡ 0 → host_memory (run_of (farm_of o) log) host ≡ 0)
        → (if b then host_cores (run_of (farm_of o) log) host else host_cores (farm_before o d.before) host) ≡ 0
        → (if b then host_memory (run_of (farm_of o) log) host else host_memory (farm_before o d.before) host) ≡ 0
    go true old now = now
    go false old now = old

-- a running word of no pending slot is that of a recorded running frame
running_word : (b : Bool) (s : Stand) (f : FrameWord) → f.phase ≡ 4 → ShowsFrame b false s f → f ≡ word_of s
running_word true s f runs shows = ⊎_elim (λ (e : f ≡ word_of s). e) (λ (t : IsTaken false s f). absurd (let q = t.phase in omega arith)) shows
running_word false s f runs shows = shows

booked_is : (phase : ℕ) → is_booked phase ≡ true → (phase ≡ 3) ⊎ (phase ≡ 4)
booked_is phase is = dite (ℕ_discrete phase 3) (λ e. inl e) (λ ne. inr (grind (arith, nat_tests)))

-- ---- all that is kept

module _ (n : ℕ) (W : Words) (views : List View) (id : ℕ) (v : View) (d : Desk) (host : ℕ) (item : Noted) (K : Kept n W views) (at : get_elem? views id ≡ some v) (is : v.desk ≡ Some d)
    (lt : host < 4096) (pending : d.pending ≡ None)
    (changed : IsOfSize ((recorded_in v.opening v.journal d).cores host) ((recorded_in v.opening v.journal d).memory host) (farm_in v) host → ⊥)
    (stopped : (slot : ℕ) → slot < 65536 → ((recorded_in v.opening v.journal d).slot slot).phase ≡ 4 → ((recorded_in v.opening v.journal d).slot slot).host ≢ host) where
  abbrev old : Recorded
  old = recorded_in v.opening v.journal d

  own : KeptAs n W views id v.opening d v.journal v.trail
  own = of_first n W views id v d K at is

  weighs : (slot : ℕ) → is_booked (W.frame slot).phase ≡ true → (W.frame slot).host ≡ host → (W.frame slot).cores ≤ weight (cores_of host) old W slot
  weighs slot booked on =
      let all : (is_booked (W.frame slot).phase && ((W.frame slot).host == host)) ≡ true = grind (arith, nat_tests) in
      let e : (cores_of host).weigh (W.frame slot) (W.amount slot) ≡ (W.frame slot).cores = ap (λ (b : Bool). if b then (W.frame slot).cores else 0) all in
      omega arith

  -- its word wasn't changed yet, so nothing there is lent
  not_done : has host d.hosts ≡ true → ⊥
  not_done is_done = changed (
    ap (λ (b : Bool). if b then host_cores (farm_in v) host else host_cores (farm_before v.opening d.before) host) is_done,
    ap (λ (b : Bool). if b then host_memory (farm_in v) host else host_memory (farm_before v.opening d.before) host) is_done,
  )

  off_host : (s : Stand) (done placed : Bool) → (placed ≡ true → has s.host d.hosts ≡ true) → is_booked (lent d.before done placed s).phase ≡ true → (lent d.before done placed s).host ≢ host
  off_host s done placed on booked here =
      let l = lent_placed d.before done placed s booked in
      let P : ℕ → Type 0 = λ x. has x d.hosts ≡ true in
      not_done (subst P (ap (λ (x : Stand). x.host) (sym l.1) ∙ here) (on l.0))

  unroomed : (slot : ℕ) → is_booked (old.roomed slot).phase ≡ true → (old.roomed slot).host ≢ host
  unroomed slot = off_host (stand_at (farm_in v) slot) (has slot d.slots) (hosted d (stand_at (farm_in v) slot)) (λ e. e)

  unbilled : (slot : ℕ) → is_booked (old.billed slot).phase ≡ true → (old.billed slot).host ≢ host
  unbilled slot = off_host (stand_at (farm_in v) slot) (has slot d.slots) (is_billed (farm_in v) d (stand_at (farm_in v) slot)) (λ e. first (has (stand_at (farm_in v) slot).host d.hosts) _ e)
    where
      first : (a b : Bool) → (a && b) ≡ true → a ≡ true
      first true b e = refl
      first false b e = e

  -- no booked frame is on the host
  record Whole : Type 0 where
    apart : (slot : ℕ) → slot < 65536 → is_booked (W.frame slot).phase ≡ true → (W.frame slot).host ≢ host
    cores : (cores_of host).held v ≡ old.cores host
    memory : (memory_of host).held v ≡ old.memory host

  -- of a host that isn't recorded
  unrecorded : old.cores host ≡ 0 → Whole
  unrecorded none =
      let o = own.rule.cores host lt in
      let q = own.rule.memory host lt in
      let no_memory = recorded_memory v.opening v.journal d own.begins.rows own.legal own.before host none in
      let part = total_has (cores_of host).held views id v at in
      let parts = total_has (memory_of host).held views id v at in
      record {
        apart = λ slot l booked on.
            let b = weighs slot booked on in
            let s = sum_to_part 65536 (weight (cores_of host) old W) slot l in
            let few = (own.ranged.cores slot l (busy (W.frame slot).phase booked)).0 in
            absurd (omega arith);
        cores = omega arith;
        memory = omega arith;
      }
    where
      busy : (phase : ℕ) → is_booked phase ≡ true → (phase == 0) ≡ false
      busy phase booked = grind (arith, nat_tests)

  -- of a kept one
  recorded_host : IsEmptied host (W.host host) W.frame views → Whole
  recorded_host e =
      let o = own.rule.cores host lt in
      let q = own.rule.memory host lt in
      let ec = e.cores in
      let em = e.memory in
      let apart : (slot : ℕ) → slot < 65536 → is_booked (W.frame slot).phase ≡ true → (W.frame slot).host ≢ host = (λ slot l booked on. ⊎_elim
      (λ (setup : (W.frame slot).phase ≡ 3). e.unclaimed slot l on setup)
      (λ (runs : (W.frame slot).phase ≡ 4).
      let shown = subst (λ (x : Option ℕ). ShowsFrame ((old.slot slot).phase == 1) (is_pending x slot) (old.slot slot) (W.frame slot)) pending (own.rule.shows slot l).frame in
      let same = running_word ((old.slot slot).phase == 1) (old.slot slot) (W.frame slot) runs shown in
      stopped slot l (sym (ap (λ (x : FrameWord). x.phase) same) ∙ runs) (sym (ap (λ (x : FrameWord). x.host) same) ∙ on))
      (booked_is (W.frame slot).phase booked)) in
      let zero_cores : sum_to 65536 (weight (cores_of host) old W) ≡ 0 = sum_to-same 65536 (λ _. 0) (weight (cores_of host) old W) (λ slot l. off_weights (W.frame slot) (W.frame slot).cores (old.roomed slot) (old.roomed slot).cores (apart slot l) (unroomed slot)) ∙ sum_to-zero 65536 in
      let zero_memory : sum_to 65536 (weight (memory_of host) old W) ≡ 0 = sum_to-same 65536 (λ _. 0) (weight (memory_of host) old W) (λ slot l. off_weights (W.frame slot) (W.amount slot).memory (old.roomed slot) (old.roomed slot).memory (apart slot l) (unroomed slot)) ∙ sum_to-zero 65536 in
      let only_cores = total_only (cores_of host).held views id v at (λ j x t ne. (e.others j x t (no_desk j x t ne)).0) in
      let only_memory = total_only (memory_of host).held views id v at (λ j x t ne. (e.others j x t (no_desk j x t ne)).1) in
      record { apart = apart; cores = omega arith; memory = omega arith }
    where
      off_weight : (phase at x : ℕ) → (is_booked phase ≡ true → at ≢ host) → (if is_booked phase && (at == host) then x else 0) ≡ 0
      off_weight phase at x apart = go (is_booked phase) refl
        where
          go : (b : Bool) → is_booked phase ≡ b → (if b && (at == host) then x else 0) ≡ 0
          go true q = ap (λ (b : Bool). if b then x else 0) (same_not at host (apart q))
          go false q = refl

      off_weights : (f : FrameWord) (x : ℕ) (r : Stand) (y : ℕ) → (is_booked f.phase ≡ true → f.host ≢ host) → (is_booked r.phase ≡ true → r.host ≢ host)
          → (if is_booked f.phase && (f.host == host) then x else 0) + (if is_booked r.phase && (r.host == host) then y else 0) ≡ 0
      off_weights f x r y apart unlent = let a = off_weight f.phase f.host x apart in let b = off_weight r.phase r.host y unlent in omega arith

      no_desk : (j : ℕ) (x : View) → get_elem? views j ≡ some x → j ≢ id → x.desk ≡ None
      no_desk j x t ne = go x.desk refl
        where
          go : (o : Option Desk) → x.desk ≡ o → x.desk ≡ None
          go None q = q
          go (Some y) q = absurd (ne ((own.seats.each j x t).first y q).0)

  whole : Whole
  whole = dite (ℕ_discrete (old.cores host) 0) unrecorded (λ ne. recorded_host (own.resizing.each host lt (ne, changed)))

  -- nothing is free there
  pub host_free : ((W.host host).cores ≡ 0) × ((W.host host).memory ≡ 0)
  host_free =
      let o = own.rule.cores host lt in
      let q = own.rule.memory host lt in
      let wc = whole.cores in
      let wm = whole.memory in
      let part = total_has (cores_of host).held views id v at in
      let parts = total_has (memory_of host).held views id v at in
      (omega arith, omega arith)

  abbrev c : ℕ
  c = host_cores (farm_in v) host

  abbrev m : ℕ
  m = host_memory (farm_in v) host

  abbrev sized : HostWord
  sized = record { cores = (W.host host).cores + c; memory = (W.host host).memory + m }

  -- where no frame runs there, or the words were placed before
  abbrev pub LendsNoMore : Type 0
  LendsNoMore =
      (k : ℕ) → (old.roomed k ≡ (recorded_in v.opening v.journal (record d { hosts = host ∷ d.hosts })).roomed k)
      × (old.billed k ≡ (recorded_in v.opening v.journal (record d { hosts = host ∷ d.hosts })).billed k)

  pub sizes_kept : LendsNoMore → item.word ≡ host_place host → (item.did == 14) ≡ false → Kept n (with_host W host sized) (set views id (size_set v host item))
  sizes_kept lends place other =
      let w = size_set v host item in
      let A = own in
      let u = A.seats.each id v at in
      let D : Desk = record d { hosts = host ∷ d.hosts } in
      let a = host_alloc (farm_in v) host in
      let R' : Recorded = record old { cores = put old.cores host c; memory = put old.memory host m; alloc = put old.alloc host a } in
      let same : R' ≡ recorded_in v.opening v.journal D = (λ i. record {
        slot = old.slot;
        cores = λ k. done_by host_cores (farm_before v.opening d.before) (farm_in v) d.hosts host k i;
        memory = λ k. done_by host_memory (farm_before v.opening d.before) (farm_in v) d.hosts host k i;
        alloc = λ k. done_by host_alloc (farm_before v.opening d.before) (farm_in v) d.hosts host k i;
        burst = old.burst;
        most = old.most;
        roomed = λ k. (lends k).0 i;
        billed = λ k. (lends k).1 i;
        counted = old.counted;
      }) in
      let rule : Rule R' d.pending (with_host W host sized) (set views id w) =
      resizes old d.pending W views id v w host c m a A.rule at lt whole.apart unbilled whole.cores whole.memory refl
      (record { takes = refl; ungranted = refl }) (record { limits = refl; ungranted = refl }) refl in
      let now : w.desk ≡ Some D = ap (with_host_done host) is in
      let resizing : Resizing (put old.cores host c) (put old.memory host m) (farm_in v) (put W.host host sized) W.frame (set views id w) = record {
        each = λ h l q. dite (ℕ_discrete h host)
            (λ e. let P : ℕ → Type 0 = λ x. IsResized (put old.cores host c x) (put old.memory host m x) (farm_in v) x in
            absurd ((subst P e q).1 (put_here old.cores host c, put_here old.memory host m)))
            (λ ne. let before : IsResized (old.cores h) (old.memory h) (farm_in v) h =
            subst (λ (x : ℕ × ℕ). IsResized x.0 x.1 (farm_in v) h) (λ i. (put_else old.cores host c h ne i, put_else old.memory host m h ne i)) q in
            subst (λ (x : HostWord). IsEmptied h x W.frame (set views id w)) (sym (put_else W.host host sized h ne))
            (emptied_set h (W.host h) W.frame views id v w (A.resizing.each h l before) at (λ none. absurd (none_some D (sym none ∙ now)))));
      } in
      let far : (item.word ≡ 0) ⊎ (131073 ≤ item.word) = inr (omega arith) in
      record {
        seat = id;
        opening = v.opening;
        desk = D;
        log = v.journal;
        trail = v.trail ++ item ∷ [];
        own = record {
          journal = A.journal;
          begins = A.begins;
          legal = A.legal;
          before = A.before;
          alone = A.alone;
          ahead = A.ahead;
          rule = subst (λ (x : Recorded). Rule x d.pending (with_host W host sized) (set views id w)) same rule;
          suited = suited_set (farm_of v.opening) v.journal views id w A.suited (A.suited.each id v at);
          looks = looks_set old.slot views id w A.looks (all_stand old.slot v.trail item (A.looks.each id v at) (tells_nothing old.slot item far));
          ranged = ranged_step W.frame W.amount views W.frame id v w item A.ranged at refl (found_finds W item (inr (inr far))) (λ slot. refl) (λ slot. refl);
          written = written_more W.amount v.trail item A.written other;
          resizing = subst (λ (x : Recorded). Resizing x.cores x.memory (farm_in v) (put W.host host sized) W.frame (set views id w)) same resizing;
          seats = subst (λ (l : List Entry). Seats id v.opening D l (v.trail ++ item ∷ []) (set views id w)) (append-nil v.journal)
              (desk_steps id v.opening d D v.journal [] v.trail (item ∷ []) views id v w [] A.seats at is now refl refl refl (sym (append-nil v.journal)) refl refl refl refl
              u.flight u.limit_flight (sym (append-nil v.receipts)) (inl refl));
        };
      }
