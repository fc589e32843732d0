-- A host's size is added to its word; and an entry that gives hosts other sizes, whose free room the recorder's seat has.
use Rattle.std.proofs.Common.{◌≡◌, ◌≢◌, ℕ, zero, suc, ◌+◌, ◌^◌, ◌<◌, ◌≤◌, Bool, true, false, if◌then◌else◌, ◌==◌, ◌&&◌, ◌||◌, List, [], ◌∷◌, ◌++◌, set, slice_index, sym, refl, ap, ◌∙◌, subst, arith}
use Rattle.std.specs.Prelude.{Option, Some, None}
use Rattle.std.proofs.lemmas.Bool.Decides.{nat_tests}
use mathlib.Core.Option.{some, some-injective, some-ne-none}
use mathlib.Core.Logic.{dite}
use native.Mathlib.Decide.{ℕ_discrete}
use lib.ListN.{get_elem?}
use Rattle.farm_types.specs.declared.entry.Entry.{Entry}
use Rattle.farm_types.specs.Farm.{Farm}
use Rattle.farm_types.specs.Run.{run_of}
use Rattle.farm_types.specs.Step.{after}
use Rattle.frame_words.specs.declared.frame_word.FrameWord.{FrameWord}
use Rattle.frame_words.specs.Bits.{host_of}
use Rattle.booking_rule.specs.declared.desk.Desk.{Desk}
use Rattle.booking_rule.specs.declared.view.View.{View}
use Rattle.booking_rule.specs.Totals.{total, sum_to}
use Rattle.booking_rule.specs.Words.{Words, host_place, with_host, words_of}
use Rattle.booking_rule.specs.Recorded.{Recorded, Stand}
use Rattle.booking_rule.specs.Views.{with_host_done}
use Rattle.booking_rule.specs.Link.{farm_of, farm_before, recorded_in, stand_at, host_cores, host_memory, IsDone}
use Rattle.booking_rule.specs.Rule.{is_booked, word_of, ShowsFrame, Shows, weight, cores_of, memory_of, is_pending}
use Rattle.booking_rule.specs.Resizing.{IsOfSize, IsResized, IsEmptied, Resizing}
use Rattle.booking_rule.specs.Kept.{Kept, KeptAs, Holds, farm_in}
use Rattle.booking_rule.proofs.Moves.{same_self}
use Rattle.booking_rule.proofs.Own.{of_first}
use Rattle.booking_rule.proofs.Says.{hosts_small, none_setup}
use Rattle.booking_rule.proofs.Sizing.{total_has, host_free, sizes_kept}
use Rattle.booking_rule.proofs.Weighing.{setup_stands}
use Rattle.booking_core.specs.Kinds.{item_of, host_amounts}
use Rattle.booking_core.specs.Machine.{Table, word}
use Rattle.booking_core.proofs.Agreeing.{host_holds}
use Rattle.booking_core.proofs.Bits.{host_more}
use Rattle.recording_core.specs.Records.{desk_in, sized}
use Rattle.recording_core.specs.Records.RecorderKind.{sets_size}
use Rattle.recording_core.specs.Machine.{LendsAlike, cores_used, memory_used, HasAllOf, MayResize, Asks, acts}
use Rattle.recording_core.proofs.Booking.{run_end}

-- ---- sums

-- a sum of parts
pub sum_to_le : (n : ℕ) (f g : ℕ → ℕ) → ((k : ℕ) → k < n → f k ≤ g k) → sum_to n f ≤ sum_to n g
unfolding sum_to
sum_to_le zero f g le = omega arith
sum_to_le (suc n) f g le = let r = sum_to_le n f g (λ k lt. le k (omega arith)) in let one = le n (omega arith) in omega arith

-- .. that is all of it has no smaller part
sum_to_equal : (n : ℕ) (f g : ℕ → ℕ) → ((k : ℕ) → k < n → f k ≤ g k) → sum_to n f ≡ sum_to n g → (k : ℕ) → k < n → f k ≡ g k
unfolding sum_to
sum_to_equal zero f g le same k lt = absurd (omega (arith, lt))
sum_to_equal (suc n) f g le same k lt =
    let r = sum_to_le n f g (λ j l. le j (omega arith)) in
    let one = le n (omega arith) in
    dite (ℕ_discrete k n)
    (λ e. let a : f k ≡ f n = ap f e in let b : g k ≡ g n = ap g e in omega arith)
    (λ ne. sum_to_equal n f g (λ j l. le j (omega arith)) (omega arith) k (omega arith))

-- two items of a list
total_two : {A : Type 0} (f : A → ℕ) (l : List A) (i j : ℕ) (x y : A) → i ≢ j → get_elem? l i ≡ some x → get_elem? l j ≡ some y → f x + f y ≤ total f l
total_two f [] i j x y ne a b = absurd (some-ne-none x (sym a))
total_two f (z ∷ zs) zero zero x y ne a b = absurd (ne refl)
total_two f (z ∷ zs) zero (suc j) x y ne a b = let p : f z ≡ f x = ap f (some-injective z x a) in let r = total_has f zs j y b in omega arith
total_two f (z ∷ zs) (suc i) zero x y ne a b = let p : f z ≡ f y = ap f (some-injective z y b) in let r = total_has f zs i x a in omega arith
total_two f (z ∷ zs) (suc i) (suc j) x y ne a b = let r = total_two f zs i j x y (λ e. ne (ap suc e)) a b in omega arith

-- ---- a slot's word weighs what a recorded frame uses

-- a running frame's word
pub ran_word : (b pending : Bool) (s : Stand) (f : FrameWord) → (s.phase == 1) ≡ b → s.phase ≡ 4 → ShowsFrame b pending s f → f ≡ word_of s
ran_word true pending s f is runs shows = absurd (clash (sym (ap (λ (k : ℕ). k == 1) runs) ∙ is))
  where
    clash : false ≡ true → ⊥
    clash e = cc
ran_word false pending s f is runs shows = shows

pub used_weighs : (host x y lent : ℕ) (s : Stand) (f : FrameWord) → (s.phase ≡ 4 → (f ≡ word_of s) × (y ≡ x))
    → (if (s.phase == 4) && (s.host == host) then x else 0) ≤ (if is_booked f.phase && (f.host == host) then y else 0) + lent
used_weighs host x y lent s f shown = go (s.phase == 4) refl
  where
    go : (b : Bool) → (s.phase == 4) ≡ b → (if b && (s.host == host) then x else 0) ≤ (if is_booked f.phase && (f.host == host) then y else 0) + lent
    go false is = omega arith
    go true is =
        let four : s.phase ≡ 4 = grind (arith, nat_tests) in
        let q = shown four in
        let same = q.1 in
        let booked : is_booked f.phase ≡ true = ap (λ (z : FrameWord). is_booked z.phase) q.0 ∙ ap is_booked four in
        let on : f.host ≡ s.host = ap (λ (z : FrameWord). z.host) q.0 in
        let e : (if is_booked f.phase && (f.host == host) then y else 0) ≡ (if s.host == host then y else 0) = (λ i. if booked i && (on i == host) then y else 0) in
        le (s.host == host) e same
      where
        le : (b : Bool) → (if is_booked f.phase && (f.host == host) then y else 0) ≡ (if b then y else 0) → y ≡ x
            → (if b then x else 0) ≤ (if is_booked f.phase && (f.host == host) then y else 0) + lent
        le true e same = omega arith
        le false e same = omega arith

-- ---- an entry that gives a host another size

module _ (n : ℕ) (W : Words) (views : List View) (id : ℕ) (v : View) (d : Desk) (e : Entry) (K : Kept n W views) (at : get_elem? views id ≡ some v) (is : v.desk ≡ Some d)
    (done : IsDone v.opening v.journal d) where
  abbrev R : Recorded
  R = recorded_in v.opening v.journal d

  own : KeptAs n W views id v.opening d v.journal v.trail
  own = of_first n W views id v d K at is

  -- the words that run are those that the farm says
  shown : (slot : ℕ) → slot < 65536 → (stand_at (farm_in v) slot).phase ≡ 4
      → (W.frame slot ≡ word_of (stand_at (farm_in v) slot)) × ((W.amount slot).memory ≡ (stand_at (farm_in v) slot).memory)
  shown slot lt runs =
      let s = own.rule.shows slot lt in
      let now = stand_at (farm_in v) slot in
      let t = subst (λ (x : Stand). Shows (is_pending d.pending slot) x (W.frame slot) (W.amount slot)) (done.slot slot) s in
      (ran_word (now.phase == 1) (is_pending d.pending slot) now (W.frame slot) refl runs t.frame, (t.amount (ap (λ (k : ℕ). k == 0) runs)).1.1)

  module _ (host : ℕ) (lt : host < 4096) (all : HasAllOf host v) where
    less_cores : (slot : ℕ) → slot < 65536 → cores_used host (stand_at (farm_in v) slot) ≤ weight (cores_of host) R W slot
    less_cores slot l =
        used_weighs host (stand_at (farm_in v) slot).cores (W.frame slot).cores ((cores_of host).lend (R.roomed slot) (R.billed slot) (R.counted slot)) (stand_at (farm_in v) slot) (W.frame slot)
        (λ runs. let q = shown slot l runs in (q.0, ap (λ (f : FrameWord). f.cores) q.0))

    less_memory : (slot : ℕ) → slot < 65536 → memory_used host (stand_at (farm_in v) slot) ≤ weight (memory_of host) R W slot
    less_memory slot l =
        used_weighs host (stand_at (farm_in v) slot).memory (W.amount slot).memory ((memory_of host).lend (R.roomed slot) (R.billed slot) (R.counted slot)) (stand_at (farm_in v) slot) (W.frame slot) (λ runs. shown slot l runs)

    emptied : IsEmptied host (W.host host) W.frame views
    emptied =
        let o = own.rule.cores host lt in
        let q = own.rule.memory host lt in
        let size = done.cores host in
        let sizes = done.memory host in
        let ac = all.cores in
        let am = all.memory in
        let hc = total_has (cores_of host).held views id v at in
        let hm = total_has (memory_of host).held views id v at in
        let sc = sum_to_le 65536 (λ slot. cores_used host (stand_at (farm_in v) slot)) (weight (cores_of host) R W) less_cores in
        let sm = sum_to_le 65536 (λ slot. memory_used host (stand_at (farm_in v) slot)) (weight (memory_of host) R W) less_memory in
        let exact = sum_to_equal 65536 (λ slot. cores_used host (stand_at (farm_in v) slot)) (weight (cores_of host) R W) less_cores (omega arith) in
        record {
          cores = omega arith;
          memory = omega arith;
          unclaimed = λ slot l on setup.
              let stood = setup_stands (R.slot slot) (is_pending d.pending slot) (W.frame slot) setup
              (none_setup v.opening v.journal d own.begins.rows own.legal own.before slot) (own.rule.shows slot l).frame in
              let waits : (stand_at (farm_in v) slot).phase ≡ 1 = ap (λ (x : Stand). x.phase) (sym (done.slot slot)) ∙ stood.0 in
              let nothing : cores_used host (stand_at (farm_in v) slot) ≡ 0 =
              ap (λ (k : ℕ). if (k == 4) && ((stand_at (farm_in v) slot).host == host) then (stand_at (farm_in v) slot).cores else 0) waits in
              let few = (own.ranged.cores slot l (ap (λ (k : ℕ). k == 0) setup)).0 in
              let all_of : (is_booked (W.frame slot).phase && ((W.frame slot).host == host)) ≡ true = grind (arith, nat_tests) in
              let weighs : (cores_of host).weigh (W.frame slot) (W.amount slot) ≡ (W.frame slot).cores = ap (λ (b : Bool). if b then (W.frame slot).cores else 0) all_of in
              let same = exact slot l in
              absurd (omega arith);
          others = λ j x t none.
              let apart : id ≢ j = (λ p. some_none d (sym is ∙ (ap (λ (y : View). y.desk) (some-injective v x (sym at ∙ ap (get_elem? views) p ∙ t)) ∙ none))) in
              let tc = total_two (cores_of host).held views id j v x apart at t in
              let tm = total_two (memory_of host).held views id j v x apart at t in
              (omega arith, omega arith);
        }
      where
        some_none : (d : Desk) → Some d ≡ None → ⊥
        some_none d q = cc

  pub resizing_after : MayResize v e → Resizing R.cores R.memory (run_of (farm_of v.opening) (v.journal ++ e ∷ [])) W.host W.frame views
  resizing_after may = record {
    each = λ host lt resized.
        let now : IsResized (R.cores host) (R.memory host) (after (farm_in v) e) host =
        subst (λ (g : Farm). IsResized (R.cores host) (R.memory host) g host) (run_end (farm_of v.opening) v.journal e) resized in
        emptied host lt (may host lt (subst (λ (x : ℕ × ℕ). IsResized x.0 x.1 (after (farm_in v) e) host) (λ i. (done.cores host i, done.memory host i)) now));
  }

-- ---- the step

-- a host's size is within the greatest
pub size_small : (n : ℕ) (W : Words) (views : List View) (id : ℕ) (v : View) (d : Desk) (host : ℕ) → Kept n W views → get_elem? views id ≡ some v → v.desk ≡ Some d
    → (host_cores (farm_in v) host ≤ 1000000) × (host_memory (farm_in v) host ≤ 1000000000000)
size_small n W views id v d host K at is =
    let A = of_first n W views id v d K at is in
    let late : Desk = record d { hosts = host ∷ [] } in
    let P : Bool → Type 0 = λ b.
    ((if b || false then host_cores (farm_in v) host else host_cores (farm_before v.opening d.before) host) ≤ 1000000)
    × ((if b || false then host_memory (farm_in v) host else host_memory (farm_before v.opening d.before) host) ≤ 1000000000000) in
    subst P (same_self host) (hosts_small v.opening v.journal late A.begins.rows A.legal A.before host)

-- the sum is a word, and its lower part carries nothing
size_fits : (f cores memory : ℕ) → (host_of f).cores ≡ 0 → (host_of f).memory ≡ 0 → cores ≤ 1000000 → memory ≤ 1000000000000
    → ((host_of f).memory + memory < 2 ^ 40) × (f + host_amounts cores memory < 2 ^ 64)
size_fits f cores memory no_cores no_memory few little = (omega (arith, no_memory, little), omega (arith, no_cores, no_memory, few, little))

module _ (s : Table) (id : ℕ) (v : View) (h : Holds s) (at : get_elem? s.views id ≡ some v) where
  abbrev known : Option Desk → Recorded
  known o = recorded_in v.opening v.journal (desk_in o)

  module _ (host cores memory : ℕ) (asks : Asks s v (sets_size host cores memory)) where
    abbrev n : ℕ
    n = slice_index s.words 0

    abbrev W : Words
    W = words_of s.words

    abbrev d : Desk
    d = asks.0.0

    changed : IsOfSize ((known (Some d)).cores host) ((known (Some d)).memory host) (farm_in v) host → ⊥
    changed = subst (λ (o : Option Desk). IsOfSize ((known o).cores host) ((known o).memory host) (farm_in v) host → ⊥) asks.0.1 asks.4

    stopped : (slot : ℕ) → slot < 65536 → ((known (Some d)).slot slot).phase ≡ 4 → ((known (Some d)).slot slot).host ≢ host
    stopped = subst (λ (o : Option Desk). (slot : ℕ) → slot < 65536 → ((known o).slot slot).phase ≡ 4 → ((known o).slot slot).host ≢ host) asks.0.1 asks.5

    lends : (k : ℕ) → ((known (Some d)).roomed k ≡ (known (with_host_done host (Some d))).roomed k) × ((known (Some d)).billed k ≡ (known (with_host_done host (Some d))).billed k)
    lends k =
        let l = subst (λ (o : Option Desk). LendsAlike (known o) (known (with_host_done host o))) asks.0.1 asks.6 in
        ((l.each k).0, (l.each k).1)

    pub sets_size_empty : ((host_of (word s (host_place host))).cores ≡ 0) × ((host_of (word s (host_place host))).memory ≡ 0)
    sets_size_empty = host_free n W s.views id v d host (item_of 16 0 0 0 0) h.1 at asks.0.1 asks.1 asks.0.2 changed stopped

    pub sets_size_fits : ((host_of (word s (host_place host))).memory + memory < 2 ^ 40) × (word s (host_place host) + host_amounts cores memory < 2 ^ 64)
    sets_size_fits =
        let free = sets_size_empty in
        let small = size_small n W s.views id v d host h.1 at asks.0.1 in
        size_fits (word s (host_place host)) cores memory free.0 free.1 (subst (λ (x : ℕ). x ≤ 1000000) (sym asks.2) small.0) (subst (λ (x : ℕ). x ≤ 1000000000000) (sym asks.3) small.1)

    pub sets_size_holds : Holds (acts s id v (sets_size host cores memory))
    sets_size_holds =
        let f = word s (host_place host) in
        let item = item_of 16 (host_place host) (host_amounts cores memory) f (f + host_amounts cores memory) in
        let kept = sizes_kept n W s.views id v d host item h.1 at asks.0.1 asks.1 asks.0.2 changed stopped lends refl refl in
        let P : ℕ × ℕ → Type 0 = λ x. Kept n (with_host W host (record { cores = (W.host host).cores + x.0; memory = (W.host host).memory + x.1 })) (set s.views id (sized v host cores memory f)) in
        host_holds s id host (f + host_amounts cores memory) (sized v host cores memory f) h.0 _ asks.1 (host_more f cores memory sets_size_fits.0)
        (subst P (λ i. (sym asks.2 i, sym asks.3 i)) kept)
