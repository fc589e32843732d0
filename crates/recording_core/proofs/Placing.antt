-- The words of a farm are placed for the first time: of a running frame, of a host, of a subscription and of a limit.
use Rattle.std.proofs.Common.{◌≡◌, ℕ, zero, suc, Bool, true, false, if◌then◌else◌, ◌&&◌, ◌+◌, ◌*◌, ◌/◌, ◌%◌, ◌^◌, ◌<◌, ◌≤◌, ◌==◌, false, slice_index, refl, ap, ◌∙◌, arith}
use Rattle.std.specs.Prelude.{Some}
use mathlib.Core.Option.{some}
use lib.ListN.{get_elem?}
use Rattle.frame_words.specs.Bits.{host_of}
use Rattle.booking_rule.specs.declared.desk.Desk.{Desk}
use Rattle.booking_rule.specs.declared.view.View.{View}
use Rattle.booking_rule.specs.Totals.{sum_to}
use Rattle.booking_rule.specs.Words.{Words, frame_place, host_place, sub_place, limit_place, words_of}
use Rattle.booking_rule.specs.Views.{turned}
use Rattle.booking_rule.specs.Link.{recorded_in, stand_at}
use Rattle.booking_rule.specs.Rule.{word_of, in_flight, granted_on, limit_in_flight, granted_in}
use Rattle.booking_rule.specs.Placing.{limit_uses}
use Rattle.booking_rule.specs.Kept.{KeptAs, Holds, farm_in}
use Rattle.booking_rule.proofs.Sums.{total_le}
use Rattle.booking_rule.proofs.Own.{of_first}
use Rattle.booking_rule.proofs.Placing.{place_kept}
use Rattle.booking_rule.proofs.Hosting.{host_empty, host_placed}
use Rattle.booking_rule.proofs.Billing.{burst_none, burst_placed, most_none, most_placed}
use Rattle.booking_core.specs.Kinds.{item_of, host_amounts}
use Rattle.booking_core.specs.Machine.{Table, word}
use Rattle.booking_core.proofs.Agreeing.{frame_holds, host_holds, sub_holds, limit_holds}
use Rattle.booking_core.proofs.Bits.{host_more}
use Rattle.recording_core.specs.Records.{turn_item, sized, cap_and_used, placed_burst, placed_most}
use Rattle.recording_core.specs.Records.RecorderKind.{places, places_size, places_burst, places_most}
use Rattle.recording_core.specs.Machine.{Asks, acts}
use Rattle.recording_core.proofs.Bare.{bare_sub, bare_limit}
use Rattle.recording_core.proofs.Sizing.{size_small, sum_to_le}
use Rattle.recording_core.proofs.Turning.{shows_now, within}
use Rattle.recording_core.proofs.Caps.{burst_few, most_few}

-- ---- a word of two halves, whose upper one is 0

pair_cap : (n cap used : ℕ) → n / 2 ^ 32 ≡ 0 → n % 2 ^ 32 ≡ 0 → used < 2 ^ 32 → (n + (cap * 2 ^ 32 + used)) / 2 ^ 32 ≡ cap
pair_cap n cap used none empty fits = omega (arith, none, empty, fits)

pair_used : (n cap used : ℕ) → n / 2 ^ 32 ≡ 0 → n % 2 ^ 32 ≡ 0 → used < 2 ^ 32 → (n + (cap * 2 ^ 32 + used)) % 2 ^ 32 ≡ n % 2 ^ 32 + used
pair_used n cap used none empty fits = omega (arith, none, empty, fits)

pair_below : (n cap used : ℕ) → n / 2 ^ 32 ≡ 0 → n % 2 ^ 32 ≡ 0 → used < 2 ^ 32 → cap < 2 ^ 32 → n + (cap * 2 ^ 32 + used) < 2 ^ 64
pair_below n cap used none empty fits few = omega (arith, none, empty, fits, few)

size_below : (f cores memory c m : ℕ) → (host_of f).cores ≡ 0 → (host_of f).memory ≡ 0 → cores ≤ c → memory ≤ m → c ≤ 1000000 → m ≤ 1000000000000
    → ((host_of f).memory + memory < 2 ^ 40) × (f + host_amounts cores memory < 2 ^ 64)
size_below f cores memory c m no_cores no_memory few little fc fm = (omega (arith, no_memory, little, fm), omega (arith, no_cores, no_memory, few, little, fc, fm))

-- ---- at most one for each slot

one_or_none : (b : Bool) → (if b then 1 else 0) ≤ 1
one_or_none true = omega arith
one_or_none false = omega arith

sum_to_ones : (n : ℕ) → sum_to n (λ _. 1) ≡ n
unfolding sum_to
sum_to_ones zero = refl
sum_to_ones (suc n) = let r = sum_to_ones n in omega arith

-- ---- the steps

module _ (s : Table) (id : ℕ) (v : View) (h : Holds s) (at : get_elem? s.views id ≡ some v) where
  abbrev W : Words
  W = words_of s.words

  abbrev n : ℕ
  n = slice_index s.words 0

  own : (d : Desk) → v.desk ≡ Some d → KeptAs n W s.views id v.opening d v.journal v.trail
  own d is = of_first n W s.views id v d h.1 at is

  pub places_holds : (slot bits : ℕ) → Asks s v (places slot bits) → Holds (acts s id v (places slot bits))
  places_holds slot bits asks =
      let d = asks.0.0 in
      let is = asks.0.1 in
      let lends = asks.0.3 in
      let f = word s (frame_place slot) in
      let item = turn_item 13 slot bits f in
      let used : ((stand_at (farm_in v) slot).phase == 0) ≡ false = ap (λ (k : ℕ). k == 0) lends.runs in
      let amounts = shows_now n W s.views id v d slot item h.1 at is asks.1 asks.0.2 (λ _ _. asks.4) used in
      frame_holds s id slot bits (turned v slot item) h.0 (word_of (stand_at (farm_in v) slot)) asks.1 asks.3
      (place_kept n W s.views id v d slot item h.1 at is asks.1 refl refl refl asks.0.2 lends amounts (within n W s.views id v d slot item h.1 at is asks.1 asks.0.2 (λ _ _. asks.4)))

  module _ (host cores memory : ℕ) (asks : Asks s v (places_size host cores memory)) where
    abbrev f : ℕ
    f = word s (host_place host)

    pub places_size_empty : ((W.host host).cores ≡ 0) × ((W.host host).memory ≡ 0)
    places_size_empty = host_empty n W s.views id v asks.0.0 host (item_of 16 0 0 0 0) h.1 at asks.0.1 asks.1 asks.0.2 asks.0.3

    pub places_size_fits : ((host_of f).memory + memory < 2 ^ 40) × (f + host_amounts cores memory < 2 ^ 64)
    places_size_fits =
        let small = size_small n W s.views id v asks.0.0 host h.1 at asks.0.1 in
        let c = asks.2 in
        let m = asks.3 in
        size_below f cores memory _ _ places_size_empty.0 places_size_empty.1 (omega arith) (omega arith) small.0 small.1

    pub places_size_holds : Holds (acts s id v (places_size host cores memory))
    places_size_holds =
        let item = item_of 16 (host_place host) (host_amounts cores memory) f (f + host_amounts cores memory) in
        let kept = host_placed n W s.views id v asks.0.0 host item h.1 at asks.0.1 asks.1 asks.0.2 asks.0.3 refl refl in
        let c = asks.2 in
        let m = asks.3 in
        let ec = places_size_empty.0 in
        let em = places_size_empty.1 in
        let x : (host_of f).cores + cores ≡ cores = omega arith in
        let y : (host_of f).memory + memory ≡ memory = omega arith in
        host_holds s id host (f + host_amounts cores memory) (sized v host cores memory f) h.0 _ asks.1
        (host_more f cores memory places_size_fits.0 ∙ (λ i. record { cores = (x ∙ c) i; memory = (y ∙ m) i })) kept

  module _ (sub burst booked : ℕ) (asks : Asks s v (places_burst sub burst booked)) where
    pub counts_none : word s (sub_place sub) % 2 ^ 32 ≡ 0
    counts_none = bare_sub n W s.views id v asks.0.0 h.1 at asks.0.1 asks.0.3.opening asks.0.3.slots sub asks.0.3.undone asks.5 asks.6 asks.1

    pub cap_none : word s (sub_place sub) / 2 ^ 32 ≡ 0
    cap_none = (own asks.0.0 asks.0.1).rule.burst sub asks.1 ∙ burst_none n W s.views id v asks.0.0 sub (item_of 15 0 0 0 0) h.1 at asks.0.1 asks.1 asks.0.3

    pub places_burst_fits : word s (sub_place sub) + cap_and_used burst booked < 2 ^ 64
    places_burst_fits =
        let few = burst_few s id v h at asks.0.0 sub asks.0.1 in
        let b = asks.2 in
        let u = asks.4 in
        pair_below (word s (sub_place sub)) burst booked cap_none counts_none (omega arith) (omega arith)

    pub places_burst_holds : Holds (acts s id v (places_burst sub burst booked))
    places_burst_holds =
        let f = word s (sub_place sub) in
        let d = asks.0.0 in
        let A = own d asks.0.1 in
        let R = recorded_in v.opening v.journal d in
        let item = item_of 15 (sub_place sub) (cap_and_used burst booked) f (f + cap_and_used burst booked) in
        let none = counts_none in
        let u = asks.4 in
        let fits : booked < 2 ^ 32 = omega arith in
        let o = A.rule.booked sub asks.1 in
        let le = total_le (λ (x : View). granted_on sub x) (λ (x : View). granted_on sub x + in_flight sub x.ungranted) 1 s.views (λ i x t. omega arith) in
        let is = asks.3 in
        let cap : (f + cap_and_used burst booked) / 2 ^ 32 ≡ _ = pair_cap f burst booked cap_none none fits ∙ asks.2 in
        let used : (f + cap_and_used burst booked) % 2 ^ 32 ≡ _ = pair_used f burst booked cap_none none fits ∙ ap (λ (k : ℕ). f % 2 ^ 32 + k) is in
        sub_holds s id sub (f + cap_and_used burst booked) (placed_burst v sub burst booked f) h.0 _ asks.1 (λ i. record { burst = cap i; booked = used i })
        (burst_placed n W s.views id v d sub item h.1 at asks.0.1 asks.1 asks.0.3 (omega arith) refl refl)

  module _ (limit most running : ℕ) (asks : Asks s v (places_most limit most running)) where
    few_run : running ≤ 65536
    few_run =
        let le = sum_to_le 65536 (λ k. limit_uses limit (stand_at (farm_in v) k)) (λ _. 1) (λ k _. one_or_none (((stand_at (farm_in v) k).phase == 4) && ((stand_at (farm_in v) k).limit == limit + 1))) in
        let all = sum_to_ones 65536 in
        let is = asks.3 in
        omega arith

    pub runs_none : word s (limit_place limit) % 2 ^ 32 ≡ 0
    runs_none = bare_limit n W s.views id v asks.0.0 h.1 at asks.0.1 asks.0.3.opening asks.0.3.slots limit asks.0.3.undone asks.4 asks.5 asks.1

    pub most_cap_none : word s (limit_place limit) / 2 ^ 32 ≡ 0
    most_cap_none = (own asks.0.0 asks.0.1).rule.most limit asks.1 ∙ most_none n W s.views id v asks.0.0 limit (item_of 20 0 0 0 0) h.1 at asks.0.1 asks.1 asks.0.3

    pub places_most_fits : word s (limit_place limit) + cap_and_used most running < 2 ^ 64
    places_most_fits =
        let few = most_few s id v h at asks.0.0 limit asks.0.1 in
        let b = asks.2 in
        let u = few_run in
        pair_below (word s (limit_place limit)) most running most_cap_none runs_none (omega arith) (omega arith)

    pub places_most_holds : Holds (acts s id v (places_most limit most running))
    places_most_holds =
        let f = word s (limit_place limit) in
        let d = asks.0.0 in
        let A = own d asks.0.1 in
        let item = item_of 20 (limit_place limit) (cap_and_used most running) f (f + cap_and_used most running) in
        let none = runs_none in
        let u = few_run in
        let fits : running < 2 ^ 32 = omega arith in
        let o = A.rule.running limit asks.1 in
        let le = total_le (λ (x : View). granted_in limit x) (λ (x : View). granted_in limit x + limit_in_flight limit x.ungranted_limit) 1 s.views (λ i x t. omega arith) in
        let is = asks.3 in
        let cap : (f + cap_and_used most running) / 2 ^ 32 ≡ _ = pair_cap f most running most_cap_none none fits ∙ asks.2 in
        let used : (f + cap_and_used most running) % 2 ^ 32 ≡ _ = pair_used f most running most_cap_none none fits ∙ ap (λ (k : ℕ). f % 2 ^ 32 + k) is in
        limit_holds s id limit (f + cap_and_used most running) (placed_most v limit most running f) h.0 _ asks.1 (λ i. record { most = cap i; running = used i })
        (most_placed n W s.views id v d limit item h.1 at asks.0.1 asks.1 asks.0.3 (omega arith) refl refl)
