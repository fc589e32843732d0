-- A host's word is placed for the first time, and the room of the frames that run there is lent.
use Rattle.std.proofs.Common.{◌≡◌, ◌≢◌, ◌⊎◌, ℕ, zero, suc, ◌+◌, ◌-◌, ◌<◌, ◌≤◌, Bool, true, false, if◌then◌else◌, ◌==◌, ◌&&◌, ◌||◌, List, [], ◌∷◌, ◌++◌, set, sym, refl, ap, ◌∙◌, subst, arith, inl, inr}
use Rattle.std.specs.Prelude.{not, Option, Some, None}
use Rattle.std.proofs.lemmas.List.{append-nil}
use Rattle.std.proofs.lemmas.Bool.Decides.{nat_tests}
use mathlib.Core.Option.{some}
use mathlib.Core.Logic.{dite}
use native.Mathlib.Decide.{ℕ_discrete}
use lib.ListN.{get_elem?}
use Rattle.farm_types.specs.declared.entry.Entry.{Entry}
use Rattle.farm_types.specs.Farm.{empty_farm, sub_of}
use Rattle.frame_words.specs.declared.frame_word.FrameWord.{FrameWord}
use Rattle.frame_words.specs.declared.host_word.HostWord.{HostWord}
use Rattle.booking_rule.specs.declared.desk.Desk.{Desk}
use Rattle.booking_rule.specs.declared.noted.Noted.{Noted}
use Rattle.booking_rule.specs.declared.view.View.{View}
use Rattle.booking_rule.specs.Totals.{total, sum_to}
use Rattle.booking_rule.specs.Words.{Words, host_place, put, with_host}
use Rattle.booking_rule.specs.Recorded.{Recorded, Stand, free_at}
use Rattle.booking_rule.specs.Views.{with_host_done, size_set, rooms_off}
use Rattle.booking_rule.specs.Link.{farm_of, farm_before, has, lent, recorded_in, stand_at, host_cores, host_memory, host_alloc}
use Rattle.booking_rule.specs.Rule.{weight, sum_of, is_booked, cores_in, memory_in, cores_of, memory_of, booked_of, granted_of, running_of, counted_of, ShowsFrame, is_pending, Rule}
use Rattle.booking_rule.specs.Resizing.{IsResized, IsEmptied, Resizing}
use Rattle.booking_rule.specs.Seats.{Seats}
use Rattle.booking_rule.specs.Kept.{Kept, farm_in}
use Rattle.booking_rule.specs.Placing.{runs_cores, runs_memory, FirstHost}
use Rattle.booking_rule.proofs.Sums.{total_set, sum_to-same, sum_to-zero}
use Rattle.booking_rule.proofs.Moves.{same_self, same_not, put_here, put_else, view_moves, weigh_at, HoldsTakes, HoldsLimits, granted_held, flight_held, limit_held, limit_flight_held}
use Rattle.booking_rule.proofs.Looking.{all_stand, tells_nothing}
use Rattle.booking_rule.proofs.Seeing.{suited_set, looks_set, ranged_step, written_more}
use Rattle.booking_rule.proofs.Keeping.{found_finds}
use Rattle.booking_rule.proofs.Own.{of_first}
use Rattle.booking_rule.proofs.Seating.{desk_steps, none_some}
use Rattle.booking_rule.proofs.Turning.{done_by}
use Rattle.booking_rule.proofs.Resizing.{emptied_set}
use Rattle.booking_rule.proofs.Sizing.{off_here, off_else, total_has, sums_same, claims_same}

pub sum_to-plus : (n : ℕ) (f g : ℕ → ℕ) → sum_to n (λ k. f k + g k) ≡ sum_to n f + sum_to n g
unfolding sum_to
sum_to-plus zero f g = refl
sum_to-plus (suc n) f g = let r = sum_to-plus n f g in omega arith

pub sum_to-pick : (n : ℕ) (b : Bool) (f : ℕ → ℕ) → sum_to n (λ k. if b then f k else 0) ≡ (if b then sum_to n f else 0)
sum_to-pick n true f = refl
sum_to-pick n false f = sum_to-zero n

-- ---- the rule

module _ (R : Recorded) (p : Option ℕ) (W : Words) (views : List View) (id : ℕ) (v w : View) (host c m a uc um : ℕ) (more : ℕ → Stand) (K : Rule R p W views) (at : get_elem? views id ≡ some v)
    (lt : host < 4096) (apart : (slot : ℕ) → slot < 65536 → is_booked (W.frame slot).phase ≡ true → (W.frame slot).host ≢ host)
    (unlent : (slot : ℕ) → is_booked (R.billed slot).phase ≡ true → (R.billed slot).host ≢ host) (no_cores : R.cores host ≡ 0) (no_memory : R.memory host ≡ 0)
    (adds_cores : (h : ℕ) → sum_to 65536 (λ k. (cores_of h).lend (more k) (R.billed k) (R.counted k))
    ≡ sum_to 65536 (λ k. (cores_of h).lend (R.roomed k) (R.billed k) (R.counted k)) + (if h == host then uc else 0))
    (adds_memory : (h : ℕ) → sum_to 65536 (λ k. (memory_of h).lend (more k) (R.billed k) (R.counted k))
    ≡ sum_to 65536 (λ k. (memory_of h).lend (R.roomed k) (R.billed k) (R.counted k)) + (if h == host then um else 0))
    (few : uc ≤ c) (little : um ≤ m) (rooms : w.rooms ≡ rooms_off host v.rooms) (takes : HoldsTakes v w) (limits : HoldsLimits v w) (claims : w.claims ≡ v.claims) where
  abbrev next : Recorded
  next = record R { cores = put R.cores host c; memory = put R.memory host m; alloc = put R.alloc host a; roomed = more }

  abbrev word : HostWord
  word = record { cores = c - uc; memory = m - um }

  -- a sum of a host, by words and by what is lent
  sum_cores : (h : ℕ) → sum_to 65536 (weight (cores_of h) next W) ≡ sum_to 65536 (weight (cores_of h) R W) + (if h == host then uc else 0)
  sum_cores h =
      let x = sum_to-plus 65536 (λ k. weigh_at (cores_of h) W k) (λ k. (cores_of h).lend (more k) (R.billed k) (R.counted k)) in
      let y = sum_to-plus 65536 (λ k. weigh_at (cores_of h) W k) (λ k. (cores_of h).lend (R.roomed k) (R.billed k) (R.counted k)) in
      let z = adds_cores h in omega arith

  sum_memory : (h : ℕ) → sum_to 65536 (weight (memory_of h) next W) ≡ sum_to 65536 (weight (memory_of h) R W) + (if h == host then um else 0)
  sum_memory h =
      let x = sum_to-plus 65536 (λ k. weigh_at (memory_of h) W k) (λ k. (memory_of h).lend (more k) (R.billed k) (R.counted k)) in
      let y = sum_to-plus 65536 (λ k. weigh_at (memory_of h) W k) (λ k. (memory_of h).lend (R.roomed k) (R.billed k) (R.counted k)) in
      let z = adds_memory h in omega arith

  pub places_host : Rule next p (with_host W host word) (set views id w)
  places_host = record {
    shows = K.shows;
    pend = K.pend;
    claims = claims_same R W host a apart unlent p views id v w K.claims at claims;
    cores = λ h l. (let n = sum_cores h in let t = total_set (cores_of h).held views id v w at in let o = K.cores h l in dite (ℕ_discrete h host)
        (λ e. let P : ℕ → Type 0 = λ x. (put W.host host word x).cores + sum_of (cores_of x) next W (set views id w) ≡ put R.cores host c x in
        subst P (sym e) (let x : (put W.host host word host).cores ≡ c - uc = ap (λ (y : HostWord). y.cores) (put_here W.host host word) in
        let b = put_here R.cores host c in
        let n = sum_cores host in let t = total_set (cores_of host).held views id v w at in let o = K.cores host lt in
        let u : (if host == host then uc else 0) ≡ uc = ap (λ (b : Bool). if b then uc else 0) (same_self host) in
        let q : (cores_of host).held w ≡ 0 = ap (total (cores_in host)) rooms ∙ off_here host (λ r. r.cores) v.rooms in
        let part = total_has (cores_of host).held views id v at in omega arith))
        (λ ne. let x : (put W.host host word h).cores ≡ (W.host h).cores = ap (λ (y : HostWord). y.cores) (put_else W.host host word h ne) in
        let b = put_else R.cores host c h ne in
        let u : (if h == host then uc else 0) ≡ 0 = ap (λ (b : Bool). if b then uc else 0) (same_not h host ne) in
        let q : (cores_of h).held w ≡ (cores_of h).held v = ap (total (cores_in h)) rooms ∙ off_else host h (λ r. r.cores) v.rooms ne in omega arith));
    memory = λ h l. (let n = sum_memory h in let t = total_set (memory_of h).held views id v w at in let o = K.memory h l in dite (ℕ_discrete h host)
        (λ e. let P : ℕ → Type 0 = λ x. (put W.host host word x).memory + sum_of (memory_of x) next W (set views id w) ≡ put R.memory host m x in
        subst P (sym e) (let x : (put W.host host word host).memory ≡ m - um = ap (λ (y : HostWord). y.memory) (put_here W.host host word) in
        let b = put_here R.memory host m in
        let n = sum_memory host in let t = total_set (memory_of host).held views id v w at in let o = K.memory host lt in
        let u : (if host == host then um else 0) ≡ um = ap (λ (b : Bool). if b then um else 0) (same_self host) in
        let q : (memory_of host).held w ≡ 0 = ap (total (memory_in host)) rooms ∙ off_here host (λ r. r.memory) v.rooms in
        let part = total_has (memory_of host).held views id v at in omega arith))
        (λ ne. let x : (put W.host host word h).memory ≡ (W.host h).memory = ap (λ (y : HostWord). y.memory) (put_else W.host host word h ne) in
        let b = put_else R.memory host m h ne in
        let u : (if h == host then um else 0) ≡ 0 = ap (λ (b : Bool). if b then um else 0) (same_not h host ne) in
        let q : (memory_of h).held w ≡ (memory_of h).held v = ap (total (memory_in h)) rooms ∙ off_else host h (λ r. r.memory) v.rooms ne in omega arith));
    booked = λ j l. (let s = sums_same R W host a apart unlent j in let t = total_set (booked_of R.alloc j).held views id v w at in let o = K.booked j l in
        let q = granted_held v w j takes in let y = flight_held v w j takes in omega arith);
    burst = K.burst;
    within = λ j l. (let s = sums_same R W host a apart unlent j in let t = total_set (granted_of R.alloc j).held views id v w at in let o = K.within j l in
        let q = granted_held v w j takes in omega arith);
    running = λ j l. (let n = view_moves (running_of j) R W views id v w at in let o = K.running j l in
        let q = limit_held v w j limits in let y = limit_flight_held v w j limits in omega arith);
    most = K.most;
    few = λ j l. (let n = view_moves (counted_of j) R W views id v w at in let o = K.few j l in let q = limit_held v w j limits in omega arith);
  }

-- ---- what is lent more

pub lent_unready : (before : Option (List Entry)) (done ready : Bool) (s : Stand) → ready ≡ false → lent before done ready s ≡ free_at 0
lent_unready (Some log) done ready s off = refl
lent_unready None done ready s off = ap (λ (b : Bool). if not done && (b && (s.phase == 4)) then s else free_at 0) off ∙ go done
  where
    go : (b : Bool) → (if not b && (false && (s.phase == 4)) then s else free_at 0) ≡ free_at 0
    go true = refl
    go false = refl

none_stand : (n : ℕ) → stand_at empty_farm n ≡ free_at 0
unfolding stand_at
none_stand n = refl

none_cores : (n : ℕ) → host_cores empty_farm n ≡ 0
unfolding host_cores
none_cores n = refl

none_memory : (n : ℕ) → host_memory empty_farm n ≡ 0
unfolding host_memory
none_memory n = refl

-- what a stand weighs on a host
abbrev pub lends_on : ℕ → (Stand → ℕ) → Stand → ℕ
lends_on h field t = if is_booked t.phase && (t.host == h) then field t else 0

-- what a running frame adds
abbrev pub runs_on : ℕ → (Stand → ℕ) → Stand → ℕ
runs_on host field s = if (s.phase == 4) && (s.host == host) then field s else 0

abbrev pub only_if : Bool → ℕ → ℕ
only_if b n = if b then n else 0

-- one frame, whose field comes to what is lent on its host once that is placed
lent_more : (before : Option (List Entry)) (done : Bool) (host h : ℕ) (hosts : List ℕ) (s : Stand) (field : Stand → ℕ) → before ≡ None → done ≡ false → has host hosts ≡ false
    → lends_on h field (lent before done (has s.host (host ∷ hosts)) s) ≡ lends_on h field (lent before done (has s.host hosts) s) + only_if (h == host) (runs_on host field s)
lent_more before done host h hosts s field none undone new = dite (ℕ_discrete s.host host)
    (λ on.
    let was : lent before done (has s.host hosts) s ≡ free_at 0 = lent_unready before done (has s.host hosts) s (ap (λ (x : ℕ). has x hosts) on ∙ new) in
    let has_it : has s.host (host ∷ hosts) ≡ true = ap (λ (x : ℕ). (host == x) || has s.host hosts) on ∙ ap (λ (b : Bool). b || has s.host hosts) (same_self host) in
    let is : lent before done (has s.host (host ∷ hosts)) s ≡ (if s.phase == 4 then s else free_at 0) = (λ i. lent (none i) (undone i) (has_it i) s) in
    let here : (s.host == host) ≡ true = ap (λ (x : ℕ). x == host) on ∙ same_self host in
    let x = ap (lends_on h field) is in
    let y : lends_on h field (lent before done (has s.host hosts) s) ≡ 0 = ap (lends_on h field) was in
    let z : runs_on host field s ≡ only_if ((s.phase == 4) && true) (field s) = ap (λ (b : Bool). only_if ((s.phase == 4) && b) (field s)) here in
    let turn : (s.host == h) ≡ (h == host) = ap (λ (x : ℕ). x == h) on ∙ flip host h in
    let r = run (s.phase == 4) refl (h == host) turn in
    x ∙ r ∙ sym (λ i. y i + only_if (h == host) (z i)))
    (λ ne.
    let has_same : has s.host (host ∷ hosts) ≡ has s.host hosts = ap (λ (b : Bool). b || has s.host hosts) (same_not host s.host (λ e. ne (sym e))) in
    let x = ap (λ (b : Bool). lends_on h field (lent before done b s)) has_same in
    let z : runs_on host field s ≡ 0 = ap (λ (b : Bool). only_if ((s.phase == 4) && b) (field s)) (same_not s.host host ne) ∙ none_of (s.phase == 4) in
    let q : only_if (h == host) (runs_on host field s) ≡ 0 = ap (only_if (h == host)) z ∙ zero_of (h == host) in
    omega arith)
  where
    flip : (m n : ℕ) → (m == n) ≡ (n == m)
    flip m n = grind (arith, nat_tests)

    none_of : (b : Bool) → only_if (b && false) (field s) ≡ 0
    none_of true = refl
    none_of false = refl

    zero_of : (b : Bool) → only_if b 0 ≡ 0
    zero_of true = refl
    zero_of false = refl

    pick : (b : Bool) → 0 ≡ 0 + only_if b 0
    pick true = omega arith
    pick false = omega arith

    run : (four : Bool) → (s.phase == 4) ≡ four → (there : Bool) → (s.host == h) ≡ there
        → lends_on h field (if four then s else free_at 0) ≡ 0 + only_if there (only_if (four && true) (field s))
    run false e there at = pick there
    run true e there at =
        let four : s.phase ≡ 4 = grind (arith, nat_tests) in
        (λ i. only_if (is_booked (four i) && at i) (field s)) ∙ last there
      where
        last : (b : Bool) → only_if (true && b) (field s) ≡ 0 + only_if b (field s)
        last true = omega arith
        last false = omega arith

-- the sum of all
adds : (before : Option (List Entry)) (slots : List ℕ) (host : ℕ) (hosts : List ℕ) (stand : ℕ → Stand) (field : Stand → ℕ) → before ≡ None → ((k : ℕ) → has k slots ≡ false) → has host hosts ≡ false → (h : ℕ)
    → sum_to 65536 (λ k. lends_on h field (lent before (has k slots) (has (stand k).host (host ∷ hosts)) (stand k)))
    ≡ sum_to 65536 (λ k. lends_on h field (lent before (has k slots) (has (stand k).host hosts) (stand k))) + only_if (h == host) (sum_to 65536 (λ k. runs_on host field (stand k)))
adds before slots host hosts stand field none undone new h =
    let old : ℕ → ℕ = λ k. lends_on h field (lent before (has k slots) (has (stand k).host hosts) (stand k)) in
    let one : ℕ → ℕ = λ k. only_if (h == host) (runs_on host field (stand k)) in
    let each = sum_to-same 65536 (λ k. old k + one k) (λ k. lends_on h field (lent before (has k slots) (has (stand k).host (host ∷ hosts)) (stand k)))
    (λ k _. lent_more before (has k slots) host h hosts (stand k) field none (undone k) new) in
    each ∙ sum_to-plus 65536 old one ∙ ap (λ (n : ℕ). sum_to 65536 old + n) (sum_to-pick 65536 (h == host) (λ k. runs_on host field (stand k)))

-- ---- all that is kept

module _ (n : ℕ) (W : Words) (views : List View) (id : ℕ) (v : View) (d : Desk) (host : ℕ) (item : Noted) (K : Kept n W views) (at : get_elem? views id ≡ some v) (is : v.desk ≡ Some d)
    (lt : host < 4096) (pending : d.pending ≡ None) (first : FirstHost v d host) where
  abbrev was : Recorded
  was = recorded_in v.opening v.journal d

  abbrev D : Desk
  D = record d { hosts = host ∷ d.hosts }

  abbrev now : Recorded
  now = recorded_in v.opening v.journal D

  abbrev used_cores : ℕ
  used_cores = sum_to 65536 (λ k. runs_cores host (stand_at (farm_in v) k))

  abbrev used_memory : ℕ
  used_memory = sum_to 65536 (λ k. runs_memory host (stand_at (farm_in v) k))

  abbrev placed : HostWord
  placed = record { cores = host_cores (farm_in v) host - used_cores; memory = host_memory (farm_in v) host - used_memory }

  undone : (k : ℕ) → has k d.slots ≡ false
  undone k = ap (has k) first.slots

  -- no word is booked
  free_word : (slot : ℕ) → slot < 65536 → is_booked (W.frame slot).phase ≡ false
  free_word slot l =
      let A = of_first n W views id v d K at is in
      let r : was.slot slot ≡ free_at 0 = (λ i. if undone slot i then stand_at (farm_in v) slot else stand_at (farm_before v.opening (first.opening i)) slot) ∙ none_stand slot in
      let phase : (was.slot slot).phase ≡ 0 = ap (λ (x : Stand). x.phase) r in
      let shown = subst (λ (b : Bool). ShowsFrame b (is_pending d.pending slot) (was.slot slot) (W.frame slot)) (ap (λ (k : ℕ). k == 1) phase) (A.rule.shows slot l).frame in
      ap (λ (x : FrameWord). is_booked x.phase) shown ∙ ap is_booked phase

  -- no bill is lent, before or after
  unbilled : (s : Stand) (hosts : Bool) (subs : List ℕ) (sub : ℕ) (done : Bool) → subs ≡ [] → lent d.before done (hosts && has sub subs) s ≡ free_at 0
  unbilled s hosts subs sub done none = lent_unready d.before done (hosts && has sub subs) s (ap (λ (l : List ℕ). hosts && has sub l) none ∙ and_off hosts)
    where
      and_off : (b : Bool) → (b && false) ≡ false
      and_off true = refl
      and_off false = refl

  unbilled_was : (k : ℕ) → was.billed k ≡ free_at 0
  unbilled_was k =
      unbilled (stand_at (farm_in v) k) (has (stand_at (farm_in v) k).host d.hosts) d.subs (sub_of (stand_at (farm_in v) k).show (host_alloc (farm_in v) (stand_at (farm_in v) k).host))
      (has k d.slots) first.subs

  unbilled_now : (k : ℕ) → now.billed k ≡ free_at 0
  unbilled_now k =
      unbilled (stand_at (farm_in v) k) (has (stand_at (farm_in v) k).host (host ∷ d.hosts)) d.subs (sub_of (stand_at (farm_in v) k).show (host_alloc (farm_in v) (stand_at (farm_in v) k).host))
      (has k d.slots) first.subs

  -- nothing is free there yet
  pub host_empty : ((W.host host).cores ≡ 0) × ((W.host host).memory ≡ 0)
  host_empty =
      let A = of_first n W views id v d K at is in
      let no_cores : was.cores host ≡ 0 =
      (λ i. if first.undone i then host_cores (farm_in v) host else host_cores (farm_before v.opening (first.opening i)) host) ∙ none_cores host in
      let no_memory : was.memory host ≡ 0 =
      (λ i. if first.undone i then host_memory (farm_in v) host else host_memory (farm_before v.opening (first.opening i)) host) ∙ none_memory host in
      let o = A.rule.cores host lt in
      let q = A.rule.memory host lt in
      (omega arith, omega arith)

  pub host_placed : item.word ≡ host_place host → (item.did == 14) ≡ false → Kept n (with_host W host placed) (set views id (size_set v host item))
  host_placed place other =
      let w = size_set v host item in
      let A = of_first n W views id v d K at is in
      let u = A.seats.each id v at in
      let c = host_cores (farm_in v) host in
      let m = host_memory (farm_in v) host in
      let a = host_alloc (farm_in v) host in
      let no_cores : was.cores host ≡ 0 =
      (λ i. if first.undone i then c else host_cores (farm_before v.opening (first.opening i)) host) ∙ none_cores host in
      let no_memory : was.memory host ≡ 0 =
      (λ i. if first.undone i then m else host_memory (farm_before v.opening (first.opening i)) host) ∙ none_memory host in
      let rule =
      places_host was d.pending W views id v w host c m a used_cores used_memory now.roomed A.rule at lt
      (λ slot l booked. absurd (clash (sym (free_word slot l) ∙ booked)))
      (λ slot booked. absurd (clash (sym (ap (λ (s : Stand). is_booked s.phase) (unbilled_was slot)) ∙ booked)))
      no_cores no_memory
      (adds d.before d.slots host d.hosts (λ k. stand_at (farm_in v) k) (λ s. s.cores) first.opening undone first.undone)
      (adds d.before d.slots host d.hosts (λ k. stand_at (farm_in v) k) (λ s. s.memory) first.opening undone first.undone)
      first.cores first.memory refl (record { takes = refl; ungranted = refl }) (record { limits = refl; ungranted = refl }) refl in
      let R' : Recorded = record was { cores = put was.cores host c; memory = put was.memory host m; alloc = put was.alloc host a; roomed = now.roomed } in
      let same : R' ≡ now = (λ i. record {
        slot = was.slot;
        cores = λ k. done_by host_cores (farm_before v.opening d.before) (farm_in v) d.hosts host k i;
        memory = λ k. done_by host_memory (farm_before v.opening d.before) (farm_in v) d.hosts host k i;
        alloc = λ k. done_by host_alloc (farm_before v.opening d.before) (farm_in v) d.hosts host k i;
        burst = was.burst;
        most = was.most;
        roomed = now.roomed;
        billed = λ k. (unbilled_was k ∙ sym (unbilled_now k)) i;
        counted = was.counted;
      }) in
      let seat : w.desk ≡ Some D = ap (with_host_done host) is in
      let resizing : Resizing (put was.cores host c) (put was.memory host m) (farm_in v) (put W.host host placed) W.frame (set views id w) = record {
        each = λ h l q. dite (ℕ_discrete h host)
            (λ e. let P : ℕ → Type 0 = λ x. IsResized (put was.cores host c x) (put was.memory host m x) (farm_in v) x in
            absurd ((subst P e q).1 (put_here was.cores host c, put_here was.memory host m)))
            (λ ne. let before : IsResized (was.cores h) (was.memory h) (farm_in v) h =
            subst (λ (x : ℕ × ℕ). IsResized x.0 x.1 (farm_in v) h) (λ i. (put_else was.cores host c h ne i, put_else was.memory host m h ne i)) q in
            subst (λ (x : HostWord). IsEmptied h x W.frame (set views id w)) (sym (put_else W.host host placed h ne))
            (emptied_set h (W.host h) W.frame views id v w (A.resizing.each h l before) at (λ none. absurd (none_some D (sym none ∙ seat)))));
      } in
      let far : (item.word ≡ 0) ⊎ (131073 ≤ item.word) = inr (omega arith) in
      record {
        seat = id;
        opening = v.opening;
        desk = D;
        log = v.journal;
        trail = v.trail ++ item ∷ [];
        own = record {
          journal = A.journal;
          begins = A.begins;
          legal = A.legal;
          before = A.before;
          alone = A.alone;
          ahead = A.ahead;
          rule = subst (λ (x : Recorded). Rule x d.pending (with_host W host placed) (set views id w)) same rule;
          suited = suited_set (farm_of v.opening) v.journal views id w A.suited (A.suited.each id v at);
          looks = looks_set was.slot views id w A.looks (all_stand was.slot v.trail item (A.looks.each id v at) (tells_nothing was.slot item far));
          ranged = ranged_step W.frame W.amount views W.frame id v w item A.ranged at refl (found_finds W item (inr (inr far))) (λ slot. refl) (λ slot. refl);
          written = written_more W.amount v.trail item A.written other;
          resizing = subst (λ (x : Recorded). Resizing x.cores x.memory (farm_in v) (put W.host host placed) W.frame (set views id w)) same resizing;
          seats = subst (λ (l : List Entry). Seats id v.opening D l (v.trail ++ item ∷ []) (set views id w)) (append-nil v.journal)
              (desk_steps id v.opening d D v.journal [] v.trail (item ∷ []) views id v w [] A.seats at is seat refl refl refl (sym (append-nil v.journal)) refl refl refl refl
              u.flight u.limit_flight (sym (append-nil v.receipts)) (inl refl));
        };
      }
    where
      clash : false ≡ true → ⊥
      clash q = cc
