-- Loads, and a host's room: taken by an exchange, and given back.
use Rattle.std.proofs.Common.{◌≡◌, ℕ, ◌+◌, ◌-◌, ◌<◌, ◌≤◌, ◌==◌, Bool, true, false, nat_lt, slice_index, refl, ap, subst, arith, inl, inr}
use mathlib.Core.Option.{some}
use lib.ListN.{get_elem?}
use Rattle.std.proofs.lemmas.Bool.Decides.{nat_tests}
use Rattle.frame_words.specs.Bits.{frame_of, amount_of, host_of}
use Rattle.booking_rule.specs.declared.view.View.{View}
use Rattle.booking_rule.specs.Words.{host_place, words_of}
use Rattle.booking_rule.specs.Views.{room_of, noted, with_room}
use Rattle.booking_rule.specs.Splits.{look_at}
use Rattle.booking_rule.specs.Kept.{Holds}
use Rattle.booking_rule.proofs.Keeping.{IsFound}
use Rattle.booking_rule.proofs.SeatSteps.{load_kept, take_host_kept, give_host_kept}
use Rattle.booking_core.specs.Kinds.{loaded, host_less, host_amounts, host_tried, host_taken, host_given, gave_host}
use Rattle.booking_core.specs.Kinds.Kind.{loads, takes_host, gives_host}
use Rattle.booking_core.specs.Machine.{Table, word, Asks, acts}
use Rattle.booking_core.proofs.Bits.{host_back, host_more}
use Rattle.booking_core.proofs.Agreeing.{after_step, host_holds, same_holds, exchange_holds}
use Rattle.booking_core.proofs.Within.{room_within}
use Rattle.booking_core.proofs.Seated.{finds_count, settled_own}

-- what a load found is what stands there
loads_found : (s : Table) (i : ℕ) → IsFound (words_of s.words) (look_at i (word s i))
loads_found s i = go (nat_lt i 1) (nat_lt i 65537) (nat_lt i 131073) refl refl refl
  where
    go : (a b c : Bool) → nat_lt i 1 ≡ a → nat_lt i 65537 ≡ b → nat_lt i 131073 ≡ c → IsFound (words_of s.words) (look_at i (word s i))
    go true b c first _ _ = let e : i ≡ 0 = grind (arith, nat_tests) in inr (inr (inl e))
    go false true c low high _ =
        let e : i ≡ i - 1 + 1 = grind (arith, nat_tests) in
        let lt : i - 1 < 65536 = grind (arith, nat_tests) in
        inl (record { slot = i - 1; within = lt; place = e; word = ap (λ (x : ℕ). frame_of (slice_index s.words x)) e })
    go false false true _ low high =
        let e : i ≡ i - 65537 + 65537 = grind (arith, nat_tests) in
        let lt : i - 65537 < 65536 = grind (arith, nat_tests) in
        inr (inl (record { slot = i - 65537; within = lt; place = e; word = ap (λ (x : ℕ). amount_of (slice_index s.words x)) e }))
    go false false false _ _ low = let le : 131073 ≤ i = grind (arith, nat_tests) in inr (inr (inr le))

module _ (s : Table) (id : ℕ) (v : View) (h : Holds s) (at : get_elem? s.views id ≡ some v) where
  pub loads_holds : (i : ℕ) → Asks s id v (loads i) → Holds (acts s id v (loads i))
  loads_holds i asks =
      same_holds s id i (loaded v i (word s i)) h.0
      (load_kept (slice_index s.words 0) (words_of s.words) s.views id v (look_at i (word s i)) h.1 at asks.0 (loads_found s i) refl)

  pub takes_host_holds : (host cores memory expected : ℕ) → Asks s id v (takes_host host cores memory expected)
      → Holds (acts s id v (takes_host host cores memory expected))
  takes_host_holds host cores memory expected asks =
      let n = word s (host_place host) in
      let W = words_of s.words in
      let r = room_of host cores memory in
      -- the exchange that expects x, which is there, wins
      let Wins : ℕ → Type 0 = (λ x. cores ≤ (host_of x).cores → memory ≤ (host_of x).memory
      → Holds (after_step s id (host_place host) (host_less x cores memory) (with_room v r (host_taken host (host_less x cores memory) n)))) in
      let wins : Wins n = (λ some_cores some_memory.
      let item = host_taken host (host_less n cores memory) n in
      let back = host_back ((host_of n).cores - cores) ((host_of n).memory - memory) (omega arith) in
      host_holds s id host (host_less n cores memory) (with_room v r item) h.0 _ asks.1 back
      (take_host_kept (slice_index s.words 0) W s.views id v item h.1 at asks.0 (finds_count W item (omega arith)) refl host cores memory asks.1
      some_cores some_memory)) in
      let lost = host_tried host (host_less expected cores memory) n in
      exchange_holds s id (host_place host) (n == expected) (host_less expected cores memory) n
      (with_room v r (host_taken host (host_less expected cores memory) n)) (noted v lost)
      (λ hit. let e : n ≡ expected = grind (arith, nat_tests) in subst Wins e wins asks.2 asks.3)
      (λ _. same_holds s id (host_place host) (noted v lost) h.0
      (load_kept (slice_index s.words 0) W s.views id v lost h.1 at asks.0 (finds_count W lost (omega arith)) refl))

  pub gives_host_holds : (host cores memory : ℕ) → Asks s id v (gives_host host cores memory) → Holds (acts s id v (gives_host host cores memory))
  gives_host_holds host cores memory asks =
      let n = word s (host_place host) in
      let W = words_of s.words in
      let item = host_given host (host_amounts cores memory) n in
      let b = room_within (slice_index s.words 0) W s.views id v h.1 at host cores memory asks.1 asks.2 in
      host_holds s id host (n + host_amounts cores memory) (gave_host v host cores memory n) h.0 _ asks.1 (host_more n cores memory (omega (arith, b.1)))
      (give_host_kept (slice_index s.words 0) W s.views id v item h.1 at asks.0.0 (finds_count W item (omega arith)) refl host cores memory asks.1
      (settled_own (slice_index s.words 0) W s.views id v h.1 at host asks.3) asks.2)
