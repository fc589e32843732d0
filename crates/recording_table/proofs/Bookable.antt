-- What the rule says of a claim whose word runs ahead, or is about to.
use Rattle.std.proofs.Common.{◌≡◌, ◌≢◌, ℕ, zero, suc, ◌+◌, ◌-◌, ◌^◌, ◌<◌, ◌≤◌, Bool, true, false, if◌then◌else◌, ◌==◌, ◌&&◌, ◌||◌, List, [], ◌∷◌, length, take, sym, refl, ap, ◌∙◌, subst, arith, ⊎_elim}
use Rattle.std.specs.Prelude.{Option, Some, slice_get}
use Rattle.std.proofs.lemmas.Option.{slice_get_within}
use mathlib.Core.Option.{some}
use mathlib.Core.Logic.{dite}
use native.Mathlib.Decide.{ℕ_discrete}
use lib.ListN.{get_elem?}
use Rattle.farm_types.specs.declared.entry.Entry.{Entry}
use Rattle.farm_types.specs.declared.limits.TheConstants.{LAST_VERSION}
use Rattle.farm_types.specs.Booking.{suits, version_at}
use Rattle.farm_types.specs.Farm.{Farm, job_at}
use Rattle.farm_types.specs.Kept.{IsKeptFarm}
use Rattle.farm_types.specs.Run.{IsLegal, run_of}
use Rattle.farm_types.specs.Step.{after}
use Rattle.farm_types.proofs.Lists.{and_both, for_some_true}
use Rattle.farm_law.proofs.Suits.{run_suits}
use Rattle.depend_law.proofs.KeptRuns.{kept_run}
use Rattle.frame_words.specs.declared.frame_word.FrameWord.{FrameWord}
use Rattle.frame_words.specs.Bits.{frame_bits, frame_of}
use Rattle.booking_rule.specs.declared.desk.Desk.{Desk}
use Rattle.booking_rule.specs.declared.hold.Claim.{Claim}
use Rattle.booking_rule.specs.declared.view.View.{View}
use Rattle.booking_rule.specs.Kept.{Kept, KeptAs, farm_in}
use Rattle.booking_rule.specs.Link.{farm_of, recorded_in, stand_at, IsDone}
use Rattle.booking_rule.specs.Recorded.{Recorded, Stand}
use Rattle.booking_rule.specs.Rule.{cores_of, memory_of, claim_in, claims_like, is_like, is_booked, is_claimed, is_pending, IsTaken, ShowsFrame, weight, word_of}
use Rattle.booking_rule.specs.Suits.{AllSuit, SuitsOnce}
use Rattle.booking_rule.specs.Totals.{sum_to, total}
use Rattle.booking_rule.specs.Views.{noted, same_claim}
use Rattle.booking_rule.specs.Words.{Words}
use Rattle.booking_rule.proofs.Moves.{same_self}
use Rattle.booking_rule.proofs.Own.{of_first}
use Rattle.booking_rule.proofs.Says.{none_setup}
use Rattle.booking_rule.proofs.Steps.{claim_same}
use Rattle.booking_rule.proofs.Weighing.{setup_stands}
use Rattle.booking_core.specs.Kinds.{claim_item, setup_for}
use Rattle.entry_law.proofs.Stands.{version_is}
use Rattle.recording_core.specs.Machine.{cores_used, memory_used}
use Rattle.recording_core.specs.Records.{running_for, tried_withdraw}
use Rattle.recording_core.proofs.Sizing.{sum_to_le, ran_word, used_weighs}
use Rattle.recording_table.specs.Booking.{CanBook}
use Rattle.recording_table.specs.Calls.{withdrawn}

-- ---- sums

-- a sum of parts, of which one leaves an amount
sum_to_more : (n k : ℕ) (f g : ℕ → ℕ) (extra : ℕ) → k < n → ((j : ℕ) → j < n → f j ≤ g j) → f k + extra ≤ g k → sum_to n f + extra ≤ sum_to n g
unfolding sum_to
sum_to_more zero k f g extra lt le more = absurd (omega (arith, lt))
sum_to_more (suc n) k f g extra lt le more = dite (ℕ_discrete k n)
    (λ e. let a : f k ≡ f n = ap f e in let b : g k ≡ g n = ap g e in let r = sum_to_le n f g (λ j l. le j (omega arith)) in omega arith)
    (λ ne. let r = sum_to_more n k f g extra (omega arith) (λ j l. le j (omega arith)) more in let one = le n (omega arith) in omega arith)

-- ---- the claim of a claimed word suits

module _ (d : Claim) (f : Farm) (log : List Entry) where
  in_claims : (cs : List Claim) → AllSuit f log cs → 1 ≤ total (is_like d) cs → SuitsOnce f log d
  in_claims [] all one = absurd (omega (arith, one))
  in_claims (x ∷ xs) all one = go (in_claims xs all.1) (same_claim d x) refl one
    where
      go : (1 ≤ total (is_like d) xs → SuitsOnce f log d) → (b : Bool) → same_claim d x ≡ b → 1 ≤ (if b then 1 else 0) + total (is_like d) xs
          → SuitsOnce f log d
      go rest true is _ = subst (λ (c : Claim). SuitsOnce f log c) (sym (claim_same d x is)) all.0
      go rest false is more = rest (omega (arith, more))

  in_views : (views : List View) → ((id : ℕ) (v : View) → get_elem? views id ≡ some v → AllSuit f log v.claims) → 1 ≤ total (claims_like d) views
      → SuitsOnce f log d
  in_views [] all one = absurd (omega (arith, one))
  in_views (v ∷ vs) all one = go (in_views vs (λ id w at. all (suc id) w at)) (claims_like d v) refl one
    where
      go : (1 ≤ total (claims_like d) vs → SuitsOnce f log d) → (n : ℕ) → claims_like d v ≡ n → 1 ≤ n + total (claims_like d) vs → SuitsOnce f log d
      go rest zero is more = rest (omega (arith, more))
      go rest (suc n) is more = in_claims v.claims (all zero v refl) (omega (arith, is))

-- .. at the end of the journal too, where the version is the same
suits_later : (slot version host sub : ℕ) → version < LAST_VERSION → (f : Farm) (p : ℕ) (xs : List Entry) → IsLegal f xs
    → suits (run_of f (take p xs)) slot version host sub ≡ true → version_at (run_of f xs) slot ≡ version → suits (run_of f xs) slot version host sub ≡ true
suits_later slot version host sub below f zero xs legal suited same = run_suits f xs slot version host sub legal suited same below
suits_later slot version host sub below f (suc p) [] legal suited same = suited
suits_later slot version host sub below f (suc p) (x ∷ xs) legal suited same = suits_later slot version host sub below (after f x) p xs legal.1 suited same

within_most : (host count most : ℕ) → host < count → count ≤ most → host < most
within_most host count most lt le = omega (arith, lt, le)

-- a host that a slot suits is there
suits_host : (f : Farm) (slot version host sub : ℕ) → IsKeptFarm f → suits f slot version host sub ≡ true → host < 4096
suits_host f slot version host sub kept suited =
    let row = for_some_true (slice_get f.slots slot) _ suited in
    let frame = for_some_true row.0.frame _ (and_both (row.0.version == version) _ row.2).1 in
    let job = for_some_true (job_at f frame.0.job) _ frame.2 in
    let on = for_some_true (slice_get f.hosts host) _ (and_both _ _ job.2).1 in
    within_most host (length f.hosts) 4096 (slice_get_within f.hosts host on.0 on.1) kept.rows.hosts.count

-- ---- a claimed word

-- it isn't what is recorded of the waiting frame
claimed_word : (pending : Bool) (s : Stand) (f : FrameWord) → s.phase ≡ 1 → f.phase ≢ 1 → ShowsFrame (s.phase == 1) pending s f → IsTaken pending s f
claimed_word pending s f waits ne shows = go (s.phase == 1) (ap (λ (n : ℕ). n == 1) waits) shows
  where
    go : (b : Bool) → b ≡ true → ShowsFrame b pending s f → IsTaken pending s f
    go true _ h = ⊎_elim (λ (x : f ≡ word_of s). absurd (ne (ap (λ (y : FrameWord). y.phase) x ∙ waits))) (λ (x : IsTaken pending s f). x) h
    go false e _ = absurd (off e)
      where
        off : false ≡ true → ⊥
        off e = cc

module _ (n : ℕ) (W : Words) (views : List View) (id : ℕ) (v : View) (d : Desk) (c : Claim) (K : Kept n W views)
    (at : get_elem? views id ≡ some v) (is : v.desk ≡ Some d) (lt : c.slot < 65536) where
  abbrev R : Recorded
  R = recorded_in v.opening v.journal d

  own : KeptAs n W views id v.opening d v.journal v.trail
  own = of_first n W views id v d K at is

  -- a word that runs ahead is that of the claim's running frame
  pub ahead_word : d.pending ≡ Some c.slot → d.on ≡ c.host → c.version ≡ (R.slot c.slot).version + 1 → c.cores ≡ (R.slot c.slot).cores
      → W.frame c.slot ≡ running_for c
  ahead_word pending on version cores =
      let ahead : is_pending d.pending c.slot ≡ true = ap (λ (p : Option ℕ). is_pending p c.slot) pending ∙ same_self c.slot in
      let runs = own.rule.pend c.slot lt ahead in
      let four = runs.runs in
      let taken =
      claimed_word (is_pending d.pending c.slot) (R.slot c.slot) (W.frame c.slot) runs.waits (λ one. absurd (omega (arith, one, four)))
      (own.rule.shows c.slot lt).frame in
      let host = own.ahead.each c.slot lt ahead ∙ on in
      let same_version : (W.frame c.slot).version ≡ c.version = taken.version ∙ sym version in
      let same_cores : (W.frame c.slot).cores ≡ c.cores = taken.cores ∙ sym cores in
      λ i. record { phase = four i; version = same_version i; host = host i; cores = same_cores i }

  -- a claim's word, while nothing is left to do
  module _ (done : IsDone v.opening v.journal d) (was : W.frame c.slot ≡ setup_for c) where
    setup : (W.frame c.slot).phase ≡ 3
    setup = ap (λ (f : FrameWord). f.phase) was

    stood : ((R.slot c.slot).phase ≡ 1) × ((W.frame c.slot).version ≡ (R.slot c.slot).version + 1) × ((R.slot c.slot).cores ≡ (W.frame c.slot).cores)
    stood =
        setup_stands (R.slot c.slot) (is_pending d.pending c.slot) (W.frame c.slot) setup
        (none_setup v.opening v.journal d own.begins.rows own.legal own.before c.slot) (own.rule.shows c.slot lt).frame

    taken : IsTaken (is_pending d.pending c.slot) (R.slot c.slot) (W.frame c.slot)
    taken =
        let three = setup in
        claimed_word (is_pending d.pending c.slot) (R.slot c.slot) (W.frame c.slot) stood.0 (λ one. absurd (omega (arith, one, three)))
        (own.rule.shows c.slot lt).frame

    below : c.version < 16777216
    below = subst (λ (f : FrameWord). f.version < 16777216) was taken.below

    next : c.version ≡ (R.slot c.slot).version + 1
    next = ap (λ (f : FrameWord). f.version) (sym was) ∙ stood.1

    some_claim : SuitsOnce (farm_of v.opening) v.journal (claim_in R.alloc c.slot (W.frame c.slot) (W.amount c.slot))
    some_claim =
        let claimed : is_claimed (is_pending d.pending c.slot) (W.frame c.slot) ≡ true =
        ap (λ (k : ℕ). k == 3 || (is_pending d.pending c.slot && (k == 4))) setup in
        let one = own.rule.claims.claimed c.slot lt claimed in
        in_views (claim_in R.alloc c.slot (W.frame c.slot) (W.amount c.slot)) (farm_of v.opening) v.journal views
        (λ j w there. own.suited.each j w there) (omega (arith, one))

    once : SuitsOnce (farm_of v.opening) v.journal (claim_in R.alloc c.slot (setup_for c) (W.amount c.slot))
    once = subst (λ (f : FrameWord). SuitsOnce (farm_of v.opening) v.journal (claim_in R.alloc c.slot f (W.amount c.slot))) was some_claim

    abbrev sub : ℕ
    sub = (claim_in R.alloc c.slot (setup_for c) (W.amount c.slot)).sub

    suited : suits (farm_in v) c.slot (c.version - 1) c.host sub ≡ true
    suited =
        let low = below in
        let step = next in
        let now : (R.slot c.slot).version ≡ (stand_at (farm_in v) c.slot).version = ap (λ (s : Stand). s.version) (done.slot c.slot) in
        let same : (stand_at (farm_in v) c.slot).version ≡ c.version - 1 = omega (arith, step, now) in
        suits_later c.slot (c.version - 1) c.host sub (omega (arith, low)) (farm_of v.opening) once.0 v.journal own.legal once.2
        (sym (version_is (farm_in v) c.slot) ∙ same)

    host_within : c.host < 4096
    host_within = suits_host (farm_in v) c.slot (c.version - 1) c.host sub (kept_run (farm_of v.opening) v.journal own.begins own.legal) suited

    -- what a recorded running frame uses is in its word
    used : (x y lent slot : ℕ) → slot < 65536 → ((R.slot slot).phase ≡ 4 → W.frame slot ≡ word_of (R.slot slot) → y ≡ x)
        → (if ((R.slot slot).phase == 4) && ((R.slot slot).host == c.host) then x else 0)
        ≤ (if is_booked (W.frame slot).phase && ((W.frame slot).host == c.host) then y else 0) + lent
    used x y lent slot l same =
        let shows = own.rule.shows slot l in
        used_weighs c.host x y lent (R.slot slot) (W.frame slot)
        (λ runs. let w = ran_word ((R.slot slot).phase == 1) (is_pending d.pending slot) (R.slot slot) (W.frame slot) refl runs shows.frame in (w, same runs w))

    nothing : (amount : ℕ) → (if ((R.slot c.slot).phase == 4) && ((R.slot c.slot).host == c.host) then amount else 0) ≡ 0
    nothing amount = ap (λ (k : ℕ). if (k == 4) && ((R.slot c.slot).host == c.host) then amount else 0) stood.0

    here : (is_booked (W.frame c.slot).phase && ((W.frame c.slot).host == c.host)) ≡ true
    here = ap (λ (f : FrameWord). is_booked f.phase && (f.host == c.host)) was ∙ same_self c.host

    cores_left : sum_to 65536 (λ slot. cores_used c.host (R.slot slot)) + c.cores ≤ R.cores c.host
    cores_left =
        let o = own.rule.cores c.host host_within in
        let none = nothing (R.slot c.slot).cores in
        let weighs : (cores_of c.host).weigh (W.frame c.slot) (W.amount c.slot) ≡ (W.frame c.slot).cores =
        ap (λ (b : Bool). if b then (W.frame c.slot).cores else 0) here in
        let mine : (W.frame c.slot).cores ≡ c.cores = ap (λ (f : FrameWord). f.cores) was in
        let s = sum_to_more 65536 c.slot (λ slot. cores_used c.host (R.slot slot)) (weight (cores_of c.host) R W) c.cores lt
        (λ slot l. used (R.slot slot).cores (W.frame slot).cores ((cores_of c.host).lend (R.roomed slot) (R.billed slot) (R.counted slot)) slot l
        (λ runs w. ap (λ (f : FrameWord). f.cores) w))
        (omega arith) in
        omega arith

    memory_left : sum_to 65536 (λ slot. memory_used c.host (R.slot slot)) + (R.slot c.slot).memory ≤ R.memory c.host
    memory_left =
        let o = own.rule.memory c.host host_within in
        let none = nothing (R.slot c.slot).memory in
        let weighs : (memory_of c.host).weigh (W.frame c.slot) (W.amount c.slot) ≡ (W.amount c.slot).memory =
        ap (λ (b : Bool). if b then (W.amount c.slot).memory else 0) here in
        let amounts : (slot : ℕ) (l : slot < 65536) → ((R.slot slot).phase == 0) ≡ false → (W.amount slot).memory ≡ (R.slot slot).memory =
        λ slot l some. ((own.rule.shows slot l).amount some).1.1 in
        let mine : (W.amount c.slot).memory ≡ (R.slot c.slot).memory = amounts c.slot lt (ap (λ (k : ℕ). k == 0) stood.0) in
        let s = sum_to_more 65536 c.slot (λ slot. memory_used c.host (R.slot slot)) (weight (memory_of c.host) R W) (R.slot c.slot).memory lt
        (λ slot l. used (R.slot slot).memory (W.amount slot).memory ((memory_of c.host).lend (R.roomed slot) (R.billed slot) (R.counted slot)) slot l
        (λ runs w. amounts slot l (ap (λ (k : ℕ). k == 0) runs)))
        (omega arith) in
        omega arith

    pub can_book : CanBook v c
    can_book = subst (λ (o : Option Desk). CanBook (record v { desk = o }) c) (sym is) (record {
      waits = stood.0;
      version = next;
      below = below;
      cores = ap (λ (f : FrameWord). f.cores) (sym was) ∙ sym stood.2;
      cores_left = cores_left;
      memory_left = memory_left;
      sub = sub;
      suited = suited;
    })

-- ---- bits

-- a word of 64 bits is that of its parts
pub frame_forth : (n : ℕ) → n < 2 ^ 64 → n ≡ frame_bits (frame_of n)
frame_forth n small = omega (arith, small)

-- ---- a withdrawal finds its word

pub withdraw_won : (v : View) (c : Claim) (found : ℕ) → found ≡ frame_bits (running_for c) → tried_withdraw v c found ≡ withdrawn v c
withdraw_won v c found is =
    let ran = frame_bits (running_for c) in
    ap (tried_withdraw v c) is ∙ ap (λ (b : Bool). if b then withdrawn v c else noted v (claim_item 10 c (setup_for c) ran ran)) (same_self ran)
