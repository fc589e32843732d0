-- Each kind of a claimant's step is one that its seat may do, by the law of steps: of a subscription, a limit and a host.
use Rattle.std.proofs.Common.{◌≡◌, ℕ, ◌+◌, ◌-◌, ◌%◌, ◌^◌, ◌<◌, ◌==◌, Bool, true, false, if◌then◌else◌, List, [], ◌∷◌, slice_index, slice_set, sym, refl, ap, ◌∙◌, subst}
use prog.Atomic.{either}
use mathlib.Core.Option.{some}
use lib.ListN.{get_elem?}
use Rattle.booking_rule.specs.declared.view.View.{View}
use Rattle.booking_rule.specs.Words.{words_of, host_place, sub_place, limit_place}
use Rattle.booking_rule.specs.Kept.{Holds}
use Rattle.booking_rule.proofs.Bounds.{booked_fits, running_fits}
use Rattle.booking_core.specs.Kinds.{Kind, place, wrote, loaded, tried_burst, gave_burst, retracted_burst, tried_limit, gave_limit, retracted_limit, tried_host, gave_host, host_less, host_amounts}
use Rattle.booking_core.specs.Kinds.Kind.{loads, takes_burst, gives_burst, retracts_burst, takes_limit, gives_limit, retracts_limit, takes_host, gives_host}
use Rattle.booking_core.specs.Machine.{Table, word, Asks, acts, on_word, Move, Runs}
use Rattle.booking_core.proofs.Wrapping.{takes_burst_writes, gives_burst_writes, retracts_burst_writes, takes_limit_writes, gives_limit_writes, retracts_limit_writes, gives_host_writes}
use Rattle.booking_table.specs.declared.doing.Doing.TheVariants as doing
use Rattle.booking_table.specs.Steps.{MayStep, tells_of}
use Rattle.booking_table.proofs.Shown.{shows_burst, shows_limit, shows_room}

-- what the law of steps says
abbrev pub KeepsRule : Type 0
KeepsRule = (ms : List Move) (s t : Table) → Holds s → Runs s ms t → Holds t

-- the word i is m, and the seat's view w
abbrev pub with_word : Table → ℕ → ℕ → ℕ → View → Table
with_word s i m id w = record { words = slice_set s.words i m; homes = s.homes; views = slice_set s.views id w }

pub either_if : (b : Bool) (x y : ℕ) → either b x y ≡ (if b then x else y)
either_if true x y = refl
either_if false x y = refl

module _ (law : KeepsRule) (s : Table) (id : ℕ) (v : View) (h : Holds s) (at : get_elem? s.views id ≡ some v) where
  -- one step of that kind
  pub by_law : (k : Kind) → Asks s id v k → Holds (acts s id v k)
  by_law k asks = law ((id, k) ∷ []) s (acts s id v k) h (v, at, asks, refl)

  pub on_kind : (k : Kind) (w : View) (m : ℕ) → Asks s id v k → acts s id v k ≡ on_word s id k w → m ≡ wrote k (word s (place k))
      → Holds (with_word s (place k) m id w)
  on_kind k w m asks is writes = subst (λ (n : ℕ). Holds (with_word s (place k) n id w)) (sym writes) (subst Holds is (by_law k asks))

module _ (law : KeepsRule) (v : View) (id : ℕ) where
  pub may_load_host : (host : ℕ) → host < 4096 → ((s : Table) → Asks s id v (loads (host_place host)))
      → MayStep (tells_of (doing.LoadHost host)) v id (host_place host) (λ n. n)
  may_load_host host lt asks s h at fits =
      let n = word s (host_place host) in (
        loaded v (host_place host) n,
        on_kind law s id v h at (loads (host_place host)) (loaded v (host_place host) n) n (asks s) refl refl,
        (refl, λ alone. shows_room (slice_index s.words 0) (words_of s.words) s.views id v h.1 at alone host lt),
      )

  -- ---- a subscription

  pub may_load_sub : (sub : ℕ) → ((s : Table) → Asks s id v (loads (sub_place sub)))
      → MayStep (tells_of (doing.LoadSub sub)) v id (sub_place sub) (λ n. n)
  may_load_sub sub asks s h at fits =
      let n = word s (sub_place sub) in
      (loaded v (sub_place sub) n, on_kind law s id v h at (loads (sub_place sub)) (loaded v (sub_place sub) n) n (asks s) refl refl, refl)

  pub may_take_burst : (sub cores : ℕ) → ((s : Table) → Asks s id v (takes_burst sub cores))
      → MayStep (tells_of (doing.TakeBurst sub cores)) v id (sub_place sub) (λ n. (n + cores) % 2 ^ 64)
  may_take_burst sub cores asks s h at fits =
      let n = word s (sub_place sub) in
      let w = tried_burst v sub cores n in (
        w,
        on_kind law s id v h at (takes_burst sub cores) w ((n + cores) % 2 ^ 64) (asks s) refl (takes_burst_writes s id v h at sub cores (asks s) fits),
        (
          refl,
          booked_fits (slice_index s.words 0) (words_of s.words) s.views h.1 sub (asks s).1,
          λ alone. shows_burst (slice_index s.words 0) (words_of s.words) s.views id v h.1 at alone sub (asks s).1,
        ),
      )

  pub may_give_burst : (sub cores : ℕ) → ((s : Table) → Asks s id v (gives_burst sub cores))
      → MayStep (tells_of (doing.GiveBurst sub cores)) v id (sub_place sub) (λ n. (n + (2 ^ 64 - cores)) % 2 ^ 64)
  may_give_burst sub cores asks s h at fits =
      let n = word s (sub_place sub) in
      let w = gave_burst v sub cores n in (
        w,
        on_kind law s id v h at (gives_burst sub cores) w ((n + (2 ^ 64 - cores)) % 2 ^ 64) (asks s) refl (gives_burst_writes s id v h at sub cores (asks s) fits),
        refl,
      )

  pub may_retract_burst : (sub cores : ℕ) → ((s : Table) → Asks s id v (retracts_burst sub cores))
      → MayStep (tells_of (doing.RetractBurst sub cores)) v id (sub_place sub) (λ n. (n + (2 ^ 64 - cores)) % 2 ^ 64)
  may_retract_burst sub cores asks s h at fits =
      let n = word s (sub_place sub) in
      let w = retracted_burst v sub cores n in (
        w,
        on_kind law s id v h at (retracts_burst sub cores) w ((n + (2 ^ 64 - cores)) % 2 ^ 64) (asks s) refl (retracts_burst_writes s id v h at sub cores (asks s) fits),
        refl,
      )

  -- ---- a limit

  pub may_load_limit : (limit : ℕ) → ((s : Table) → Asks s id v (loads (limit_place limit)))
      → MayStep (tells_of (doing.LoadLimit limit)) v id (limit_place limit) (λ n. n)
  may_load_limit limit asks s h at fits =
      let n = word s (limit_place limit) in
      (loaded v (limit_place limit) n, on_kind law s id v h at (loads (limit_place limit)) (loaded v (limit_place limit) n) n (asks s) refl refl, refl)

  pub may_take_limit : (limit : ℕ) → ((s : Table) → Asks s id v (takes_limit limit))
      → MayStep (tells_of (doing.TakeLimit limit)) v id (limit_place limit) (λ n. (n + 1) % 2 ^ 64)
  may_take_limit limit asks s h at fits =
      let n = word s (limit_place limit) in
      let w = tried_limit v limit n in (
        w,
        on_kind law s id v h at (takes_limit limit) w ((n + 1) % 2 ^ 64) (asks s) refl (takes_limit_writes s id v h at limit (asks s) fits),
        (
          refl,
          running_fits (slice_index s.words 0) (words_of s.words) s.views h.1 limit (asks s).1,
          λ alone. shows_limit (slice_index s.words 0) (words_of s.words) s.views id v h.1 at alone limit (asks s).1,
        ),
      )

  pub may_give_limit : (limit : ℕ) → ((s : Table) → Asks s id v (gives_limit limit))
      → MayStep (tells_of (doing.GiveLimit limit)) v id (limit_place limit) (λ n. (n + (2 ^ 64 - 1)) % 2 ^ 64)
  may_give_limit limit asks s h at fits =
      let n = word s (limit_place limit) in
      let w = gave_limit v limit n in (
        w,
        on_kind law s id v h at (gives_limit limit) w ((n + (2 ^ 64 - 1)) % 2 ^ 64) (asks s) refl (gives_limit_writes s id v h at limit (asks s) fits),
        refl,
      )

  pub may_retract_limit : (limit : ℕ) → ((s : Table) → Asks s id v (retracts_limit limit))
      → MayStep (tells_of (doing.RetractLimit limit)) v id (limit_place limit) (λ n. (n + (2 ^ 64 - 1)) % 2 ^ 64)
  may_retract_limit limit asks s h at fits =
      let n = word s (limit_place limit) in
      let w = retracted_limit v limit n in (
        w,
        on_kind law s id v h at (retracts_limit limit) w ((n + (2 ^ 64 - 1)) % 2 ^ 64) (asks s) refl (retracts_limit_writes s id v h at limit (asks s) fits),
        refl,
      )

  -- ---- a host

  pub may_take_room : (host cores memory free wanted : ℕ) → wanted ≡ host_less free cores memory
      → ((s : Table) → Asks s id v (takes_host host cores memory free))
      → MayStep (tells_of (doing.TakeRoom host cores memory free)) v id (host_place host) (λ n. either (n == free) wanted n)
  may_take_room host cores memory free wanted is asks s h at fits =
      let n = word s (host_place host) in
      let w = tried_host v host cores memory free n in (
        w,
        on_kind law s id v h at (takes_host host cores memory free) w (either (n == free) wanted n) (asks s) refl
            (either_if (n == free) wanted n ∙ ap (λ (x : ℕ). if n == free then x else n) is),
        (refl, λ alone. shows_room (slice_index s.words 0) (words_of s.words) s.views id v h.1 at alone host (asks s).1),
      )

  pub may_give_room : (host cores memory amounts : ℕ) → amounts ≡ host_amounts cores memory
      → ((s : Table) → Asks s id v (gives_host host cores memory))
      → MayStep (tells_of (doing.GiveRoom host cores memory)) v id (host_place host) (λ n. (n + amounts) % 2 ^ 64)
  may_give_room host cores memory amounts is asks s h at fits =
      let n = word s (host_place host) in
      let w = gave_host v host cores memory n in (
        w,
        on_kind law s id v h at (gives_host host cores memory) w ((n + amounts) % 2 ^ 64) (asks s) refl
            (ap (λ (x : ℕ). (n + x) % 2 ^ 64) is ∙ gives_host_writes s id v h at host cores memory (asks s) fits),
        refl,
      )
