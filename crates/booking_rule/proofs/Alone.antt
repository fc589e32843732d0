-- What words say while the recorder's seat is the only one.
use Rattle.std.proofs.Common.{◌≡◌, ◌≢◌, ℕ, ◌+◌, ◌-◌, ◌<◌, Bool, true, false, if◌then◌else◌, ◌==◌, ◌&&◌, ◌||◌, List, [], ◌∷◌, sym, refl, ap, ◌∙◌, subst, arith, ⊎_elim}
use Rattle.std.specs.Prelude.{Option, Some, None}
use mathlib.Core.Option.{some}
use lib.ListN.{get_elem?}
use Rattle.std.proofs.lemmas.Bool.Decides.{nat_tests}
use Rattle.farm_types.specs.Farm.{Farm, sub_of}
use Rattle.frame_words.specs.declared.frame_word.FrameWord.{FrameWord}
use Rattle.frame_words.specs.declared.amount_word.AmountWord.{AmountWord}
use Rattle.booking_rule.specs.declared.desk.Desk.{Desk}
use Rattle.booking_rule.specs.declared.hold.Claim.{Claim}
use Rattle.booking_rule.specs.declared.hold.Room.{Room}
use Rattle.booking_rule.specs.declared.hold.Take.{Take}
use Rattle.booking_rule.specs.declared.view.View.{View}
use Rattle.booking_rule.specs.Totals.{total, sum_to}
use Rattle.booking_rule.specs.Words.{Words}
use Rattle.booking_rule.specs.Recorded.{Recorded, Stand, free_at}
use Rattle.booking_rule.specs.Link.{burst_at, host_alloc, host_cores, host_memory, hosted, is_billed, is_counted, most_at, recorded_in, stand_at}
use Rattle.booking_rule.specs.Rule.{Account, IsTaken, SameAmounts, ShowsAmount, ShowsFrame, claim_in, claims_at, claims_like, cores_in, cores_of, granted_in, granted_on, in_flight, is_at, is_booked, is_like, is_pending, limit_in_flight, memory_in, memory_of, booked_of, on_limit, on_sub, running_of, weight, word_of}
use Rattle.booking_rule.specs.Seats.{HoldsNone, desk_seats, number_seats, seats}
use Rattle.booking_rule.specs.Views.{holds, same_claim}
use Rattle.booking_rule.specs.Kept.{Kept, KeptAs, farm_in}
use Rattle.booking_rule.specs.Alone.{IsAlone, ShowsSlot}
use Rattle.booking_rule.proofs.Sums.{sum_to-same}
use Rattle.booking_rule.proofs.Steps.{at_here, claim_same}
use Rattle.booking_rule.proofs.Claiming.{claim_is}
use Rattle.booking_rule.proofs.Lending.{done_lends}
use Rattle.booking_rule.proofs.Own.{of_first}
use Rattle.booking_rule.proofs.Sizing.{total_only}

none_of : {X : Type 0} (x : Option X) → ((y : X) → x ≡ Some y → ⊥) → x ≡ None
none_of None h = refl
none_of (Some y) h = absurd (h y refl)

-- a booked slot isn't free
booked_used : (p : ℕ) → is_booked p ≡ true → (p == 0) ≡ false
booked_used p booked = grind (arith, nat_tests)

-- two amounts that are one where a slot is booked
alike : (b t u : Bool) (x y : ℕ) → (b ≡ true → (t ≡ u) × (x ≡ y)) → (if b && t then x else 0) ≡ (if b && u then y else 0)
alike true t u x y same = let p = same refl in λ i. if p.0 i then p.1 i else 0
alike false t u x y same = refl

claim_self : (c : Claim) → holds same_claim c (c ∷ []) ≡ true
claim_self c = ap (λ (b : Bool). b || false) (go (same_claim c c) refl)
  where
    self : (n : ℕ) → (n == n) ≡ true
    self n = grind (arith, nat_tests)

    go : (b : Bool) → same_claim c c ≡ b → b ≡ true
    go b is =
        sym is
        ∙ (λ i. self c.slot i && (self c.version i && (self c.host i && (self c.sub i && (self c.cores i && (self c.limit i && self c.memory i))))))

module _ (n : ℕ) (W : Words) (views : List View) (id : ℕ) (v : View) (cs : List Claim) (K : Kept n W views) (at : get_elem? views id ≡ some v)
    (alone : IsAlone cs v) where
  abbrev d : Desk
  d = alone.desk

  abbrev R : Recorded
  R = recorded_in v.opening v.journal d

  abbrev F : Farm
  F = farm_in v

  own : KeptAs n W views id v.opening d v.journal v.trail
  own = of_first n W views id v d K at alone.first

  -- ---- other views hold nothing

  others : (j : ℕ) (x : View) → get_elem? views j ≡ some x → j ≢ id → (x.desk ≡ None) × (x.number ≡ None)
  others j x t ne =
      let f = own.seats.each j x t in
      let few = alone.split in
      (none_of x.desk (λ y q. ne ((f.first y q).0)), none_of x.number (λ m q. let g = f.number m q in absurd (omega (arith, g.0, few))))

  free : (j : ℕ) (x : View) → get_elem? views j ≡ some x → j ≢ id → HoldsNone x
  free j x t ne = let o = others j x t ne in (own.seats.each j x t).idle o.0 o.1

  unseated : (j : ℕ) (x : View) → get_elem? views j ≡ some x → j ≢ id → seats x ≡ 0
  unseated j x t ne = let o = others j x t ne in λ i. desk_seats (o.0 i) + number_seats (o.1 i)

  -- nor has the seat a number itself
  pub unnumbered : v.number ≡ None
  unnumbered = let few = alone.split in none_of v.number (λ m q. let g = (own.seats.each id v at).number m q in absurd (omega (arith, g.0, few)))

  likes : (c : Claim) → total (claims_like c) views ≡ total (is_like c) cs
  likes c =
      total_only (claims_like c) views id v at (λ j x t ne. ap (total (is_like c)) (free j x t ne).claims)
      ∙ ap (total (is_like c)) alone.claims

  counts : (slot version : ℕ) → total (claims_at slot version) views ≡ total (is_at slot version) cs
  counts slot version =
      total_only (claims_at slot version) views id v at (λ j x t ne. ap (total (is_at slot version)) (free j x t ne).claims)
      ∙ ap (total (is_at slot version)) alone.claims

  -- ---- a slot's words

  shown : (slot : ℕ) → slot < 65536 → ShowsFrame ((stand_at F slot).phase == 1) false (stand_at F slot) (W.frame slot)
  shown slot lt =
      subst (λ (s : Stand). ShowsFrame (s.phase == 1) false s (W.frame slot)) (alone.done.slot slot)
      (subst (λ (p : Option ℕ). ShowsFrame ((R.slot slot).phase == 1) (is_pending p slot) (R.slot slot) (W.frame slot)) alone.pending (own.rule.shows slot lt).frame)

  -- a claimed word is that of a claim
  of_claim : (slot : ℕ) → slot < 65536 → (W.frame slot).phase ≡ 3 → total (is_like (claim_in R.alloc slot (W.frame slot) (W.amount slot))) cs ≡ 1
  of_claim slot lt setup =
      let c = claim_in R.alloc slot (W.frame slot) (W.amount slot) in
      sym (likes c)
      ∙ own.rule.claims.claimed slot lt (ap (λ (p : ℕ). p == 3 || (is_pending d.pending slot && (p == 4))) setup)

  pub amount_shown : (slot : ℕ) → slot < 65536 → ShowsAmount (stand_at F slot) (W.amount slot)
  amount_shown slot lt = subst (λ (s : Stand). ShowsAmount s (W.amount slot)) (alone.done.slot slot) (own.rule.shows slot lt).amount

  -- where the seat has no claim
  module _ (none : cs ≡ []) where
    pub slot_shown : (slot : ℕ) → slot < 65536 → ShowsSlot v slot (W.frame slot)
    slot_shown slot lt = go ((stand_at F slot).phase == 1) (shown slot lt)
      where
        go : (b : Bool) → ShowsFrame b false (stand_at F slot) (W.frame slot) → W.frame slot ≡ word_of (stand_at F slot)
        go false shows = shows
        go true shows = ⊎_elim
            (λ (e : W.frame slot ≡ word_of (stand_at F slot)). e)
            (λ (taken : IsTaken false (stand_at F slot) (W.frame slot)). absurd
            (let one = of_claim slot lt taken.phase in
            let zero : total (is_like (claim_in R.alloc slot (W.frame slot) (W.amount slot))) cs ≡ 0 =
            ap (total (is_like (claim_in R.alloc slot (W.frame slot) (W.amount slot)))) none in
            omega (arith, one, zero)))
            shows

    -- ---- sums over words are those over what the farm says

    weigh : (slot : ℕ) → slot < 65536 → is_booked (W.frame slot).phase ≡ is_booked (stand_at F slot).phase
    weigh slot lt = ap (λ (f : FrameWord). is_booked f.phase) (slot_shown slot lt)

    amounts : (slot : ℕ) → slot < 65536 → is_booked (stand_at F slot).phase ≡ true → SameAmounts (stand_at F slot) (W.amount slot)
    amounts slot lt booked = amount_shown slot lt (booked_used (stand_at F slot).phase booked)

    roomed : (slot : ℕ) → R.roomed slot ≡ free_at 0
    roomed slot = done_lends v.opening v.journal d slot (hosted d (stand_at F slot)) (alone.done.slot slot)

    billed : (slot : ℕ) → R.billed slot ≡ free_at 0
    billed slot = done_lends v.opening v.journal d slot (is_billed F d (stand_at F slot)) (alone.done.slot slot)

    counted : (slot : ℕ) → R.counted slot ≡ free_at 0
    counted slot = done_lends v.opening v.journal d slot (is_counted d (stand_at F slot)) (alone.done.slot slot)

    unlent : (a : Account) (slot : ℕ) → a.lend (R.roomed slot) (R.billed slot) (R.counted slot) ≡ a.lend (free_at 0) (free_at 0) (free_at 0)
    unlent a slot = λ i. a.lend (roomed slot i) (billed slot i) (counted slot i)

    pub cores_shown : (host : ℕ) → host < 4096
        → (W.host host).cores
        + (sum_to 65536 (λ slot. if is_booked (stand_at F slot).phase && ((stand_at F slot).host == host) then (stand_at F slot).cores else 0)
        + total (cores_in host) v.rooms)
        ≡ host_cores F host
    cores_shown host lt =
        let o = own.rule.cores host lt in
        let size = alone.done.cores host in
        let sum = sum_to-same 65536 (λ slot. if is_booked (stand_at F slot).phase && ((stand_at F slot).host == host) then (stand_at F slot).cores else 0)
        (weight (cores_of host) R W)
        (λ slot l.
        let e = slot_shown slot l in
        let z = unlent (cores_of host) slot in
        let w : (cores_of host).weigh (W.frame slot) (W.amount slot)
        ≡ (if is_booked (stand_at F slot).phase && ((stand_at F slot).host == host) then (stand_at F slot).cores else 0) =
        ap (λ (f : FrameWord). if is_booked f.phase && (f.host == host) then f.cores else 0) e in
        omega arith) in
        let only = total_only (cores_of host).held views id v at (λ j x t ne. ap (λ (l : List Room). total (cores_in host) l) (free j x t ne).rooms) in
        omega arith

    pub memory_shown : (host : ℕ) → host < 4096
        → (W.host host).memory
        + (sum_to 65536 (λ slot. if is_booked (stand_at F slot).phase && ((stand_at F slot).host == host) then (stand_at F slot).memory else 0)
        + total (memory_in host) v.rooms)
        ≡ host_memory F host
    memory_shown host lt =
        let o = own.rule.memory host lt in
        let size = alone.done.memory host in
        let sum = sum_to-same 65536 (λ slot. if is_booked (stand_at F slot).phase && ((stand_at F slot).host == host) then (stand_at F slot).memory else 0)
        (weight (memory_of host) R W)
        (λ slot l.
        let e = slot_shown slot l in
        let z = unlent (memory_of host) slot in
        let w : (memory_of host).weigh (W.frame slot) (W.amount slot)
        ≡ (if is_booked (stand_at F slot).phase && ((stand_at F slot).host == host) then (stand_at F slot).memory else 0) =
        ap (λ (f : FrameWord). if is_booked f.phase && (f.host == host) then (W.amount slot).memory else 0) e
        ∙ alike (is_booked (stand_at F slot).phase) ((stand_at F slot).host == host) ((stand_at F slot).host == host) (W.amount slot).memory (stand_at F slot).memory
        (λ booked. (refl, (amounts slot l booked).1.1)) in
        omega arith) in
        let only = total_only (memory_of host).held views id v at (λ j x t ne. ap (λ (l : List Room). total (memory_in host) l) (free j x t ne).rooms) in
        omega arith

    pub booked_shown : (sub : ℕ) → sub < 1024
        → (W.sub sub).booked
        ≡ sum_to 65536 (λ slot. if is_booked (stand_at F slot).phase && (sub_of (stand_at F slot).show (host_alloc F (stand_at F slot).host) == sub) then (stand_at F slot).cores else 0)
        + (granted_on sub v + in_flight sub v.ungranted)
    booked_shown sub lt =
        let o = own.rule.booked sub lt in
        let sum = sum_to-same 65536 (λ slot. if is_booked (stand_at F slot).phase && (sub_of (stand_at F slot).show (host_alloc F (stand_at F slot).host) == sub) then (stand_at F slot).cores else 0)
        (weight (booked_of R.alloc sub) R W)
        (λ slot l.
        let e = slot_shown slot l in
        let z = unlent (booked_of R.alloc sub) slot in
        let w : (booked_of R.alloc sub).weigh (W.frame slot) (W.amount slot)
        ≡ (if is_booked (stand_at F slot).phase && (sub_of (stand_at F slot).show (host_alloc F (stand_at F slot).host) == sub) then (stand_at F slot).cores else 0) =
        ap (λ (f : FrameWord). if is_booked f.phase && (sub_of (W.amount slot).show (R.alloc f.host) == sub) then f.cores else 0) e
        ∙ alike (is_booked (stand_at F slot).phase) (sub_of (W.amount slot).show (R.alloc (stand_at F slot).host) == sub)
        (sub_of (stand_at F slot).show (host_alloc F (stand_at F slot).host) == sub) (stand_at F slot).cores (stand_at F slot).cores
        (λ booked. let show = (amounts slot l booked).0 in let on = alone.done.alloc (stand_at F slot).host in (λ i. sub_of (show i) (on i) == sub, refl)) in
        omega arith) in
        let only = total_only (booked_of R.alloc sub).held views id v at (λ j x t ne.
        let g : granted_on sub x ≡ 0 = ap (λ (l : List Take). total (on_sub sub) l) (free j x t ne).takes in
        let f = (own.seats.each j x t).flight sub in
        let none = unseated j x t ne in
        omega arith) in
        omega arith

    pub running_shown : (limit : ℕ) → limit < 255
        → (W.limit limit).running
        ≡ sum_to 65536 (λ slot. if is_booked (stand_at F slot).phase && ((stand_at F slot).limit == limit + 1) then 1 else 0)
        + (granted_in limit v + limit_in_flight limit v.ungranted_limit)
    running_shown limit lt =
        let o = own.rule.running limit lt in
        let sum = sum_to-same 65536 (λ slot. if is_booked (stand_at F slot).phase && ((stand_at F slot).limit == limit + 1) then 1 else 0)
        (weight (running_of limit) R W)
        (λ slot l.
        let e = slot_shown slot l in
        let z = unlent (running_of limit) slot in
        let w : (running_of limit).weigh (W.frame slot) (W.amount slot)
        ≡ (if is_booked (stand_at F slot).phase && ((stand_at F slot).limit == limit + 1) then 1 else 0) =
        ap (λ (f : FrameWord). if is_booked f.phase && ((W.amount slot).limit == limit + 1) then 1 else 0) e
        ∙ alike (is_booked (stand_at F slot).phase) ((W.amount slot).limit == limit + 1) ((stand_at F slot).limit == limit + 1) 1 1
        (λ booked. let same = (amounts slot l booked).1.0 in (ap (λ (x : ℕ). x == limit + 1) same, refl)) in
        omega arith) in
        let only = total_only (running_of limit).held views id v at (λ j x t ne.
        let g : granted_in limit x ≡ 0 = ap (λ (l : List ℕ). total (on_limit limit) l) (free j x t ne).limits in
        let f = (own.seats.each j x t).limit_flight limit in
        let none = unseated j x t ne in
        omega arith) in
        omega arith

  pub burst_shown : (sub : ℕ) → sub < 1024 → (W.sub sub).burst ≡ burst_at F sub
  burst_shown sub lt = own.rule.burst sub lt ∙ alone.done.burst sub

  pub most_shown : (limit : ℕ) → limit < 255 → (W.limit limit).most ≡ most_at F limit
  most_shown limit lt = own.rule.most limit lt ∙ alone.done.most limit

  -- ---- the word of the seat's only claim, of a frame that the farm says waits

  module _ (c : Claim) (only : cs ≡ c ∷ []) (lt : c.slot < 65536) (next : (stand_at F c.slot).version + 1 ≡ c.version) where
    -- no word of an earlier version has the claim
    reached : (W.frame c.slot).version < c.version → ⊥
    reached less =
        let none = own.rule.claims.not_later c.slot c.version lt less in
        let here : total (claims_at c.slot c.version) views ≡ is_at c.slot c.version c + 0 =
        counts c.slot c.version ∙ ap (total (is_at c.slot c.version)) only in
        let one = at_here c in
        absurd (omega (arith, none, here, one))

    not_before : W.frame c.slot ≡ word_of (stand_at F c.slot) → ⊥
    not_before e = let version : (W.frame c.slot).version ≡ (stand_at F c.slot).version = ap (λ (f : FrameWord). f.version) e in reached (omega (arith, version, next))

    taken : IsTaken false (stand_at F c.slot) (W.frame c.slot)
    taken = go ((stand_at F c.slot).phase == 1) (shown c.slot lt)
      where
        go : (b : Bool) → ShowsFrame b false (stand_at F c.slot) (W.frame c.slot) → IsTaken false (stand_at F c.slot) (W.frame c.slot)
        go false shows = absurd (not_before shows)
        go true shows = ⊎_elim
            (λ (e : W.frame c.slot ≡ word_of (stand_at F c.slot)). absurd (not_before e))
            (λ (t : IsTaken false (stand_at F c.slot) (W.frame c.slot)). t)
            shows

    pub claim_shown : W.frame c.slot ≡ record { phase = 3; version = c.version; host = c.host; cores = c.cores }
    claim_shown =
        let t = taken in
        let setup = t.phase in
        let version : (W.frame c.slot).version ≡ c.version = t.version ∙ next in
        let has : holds same_claim c v.claims ≡ true = ap (holds same_claim c) (alone.claims ∙ only) ∙ claim_self c in
        let same = claim_is R.alloc d.pending W.frame W.amount views id v c own.rule.claims at lt has
        (ap (λ (p : ℕ). p == 3 || (is_pending d.pending c.slot && (p == 4))) setup) version in
        let host : (W.frame c.slot).host ≡ c.host = ap (λ (x : Claim). x.host) same in
        let cores : (W.frame c.slot).cores ≡ c.cores = ap (λ (x : Claim). x.cores) same in
        λ i. record { phase = setup i; version = version i; host = host i; cores = cores i }
