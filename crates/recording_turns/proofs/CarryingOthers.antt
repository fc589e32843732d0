-- A host's size, a subscription's burst and the most of a limit become what the farm says.
use Rattle.std.proofs.Common.{◌≡◌, ◌≢◌, ℕ, Bool, true, false, ◌==◌, ◌||◌, if◌then◌else◌, List, [], ◌∷◌, refl, sym, ap, ◌∙◌, subst}
use Rattle.std.specs.Prelude.{Option, Some, None}
use Rattle.std.proofs.lemmas.Bool.{eqb-true}
use Rattle.std.proofs.lemmas.Option.{none-some, same_Some}
use Rattle.farm_types.specs.Farm.{Farm}
use Rattle.farm_types.specs.Step.{after}
use Rattle.booking_rule.specs.declared.desk.Desk.{Desk}
use Rattle.booking_rule.specs.declared.hold.Room.{Room}
use Rattle.booking_rule.specs.declared.view.View.{View}
use Rattle.booking_rule.specs.Kept.{farm_in}
use Rattle.booking_rule.specs.Link.{burst_at, has, host_alloc, host_cores, host_memory, most_at, stand_at}
use Rattle.booking_rule.specs.Recorded.{Stand}
use Rattle.booking_rule.specs.Resizing.{IsOfSize}
use Rattle.booking_rule.specs.Views.{rooms_off, with_host_done, with_limit_done, with_sub_done}
use Rattle.booking_core.specs.Machine.{Table}
use Rattle.recording_core.specs.Machine.{Asks, MayChange, stand_recorded}
use Rattle.recording_core.specs.Records.{desk_in, raised_burst, raised_most, records_in, sized}
use Rattle.recording_core.specs.Records.RecorderKind.{sets_burst, sets_most, sets_size}
use Rattle.farm_stands.specs.declared.bounds.HostSize.{HostSize}
use Rattle.farm_stands.specs.Turns.{Says}
use Rattle.recording_turns.specs.Carrying.{Going, IsOpen, SlotsDone, Turned, host_key, host_turn, limit_key, limit_turn, sub_key, sub_turn, was_in}
use Rattle.recording_turns.specs.Owing.{AreOn}
use Rattle.recording_turns.proofs.CarryingFarms.{SameSize, alloc_same, none_runs}
use Rattle.recording_turns.proofs.CarryingViews.{going_turned, lends_alike, turned_made}

-- ---- rooms

off_off : (a b : ℕ) (rs : List Room) → rooms_off a rs ≡ [] → rooms_off a (rooms_off b rs) ≡ []
off_off a b [] none = refl
off_off a b (r ∷ rs) none = by (off_off a b rs) (r.host == a) refl none (r.host == b)
  where
    cons-nil : (x : Room) (xs : List Room) → x ∷ xs ≡ [] → ⊥
    cons-nil x xs e = cc

    by : (rooms_off a rs ≡ [] → rooms_off a (rooms_off b rs) ≡ []) → (p : Bool) → (r.host == a) ≡ p
        → (if p then rooms_off a rs else r ∷ rooms_off a rs) ≡ [] → (q : Bool)
        → rooms_off a (if q then rooms_off b rs else r ∷ rooms_off b rs) ≡ []
    by rest false is none q = absurd (cons-nil r (rooms_off a rs) none)
    by rest true is none true = rest none
    by rest true is none false = ap (λ (x : Bool). if x then rooms_off a (rooms_off b rs) else r ∷ rooms_off a (rooms_off b rs)) is ∙ rest none

off_on : (resized : Option ℕ) (host : ℕ) (rs : List Room) → AreOn resized rs → AreOn resized (rooms_off host rs)
off_on None host rs on = ap (rooms_off host) on
off_on (Some h) host rs on = off_off h host rs on

-- once the host that is resized has its size, no room is left
off_gone : (resized : Option ℕ) (host h : ℕ) (hosts : List ℕ) (rs : List Room) → AreOn resized rs → resized ≡ Some h → (has h hosts ≡ true → rs ≡ [])
    → ((host == h) || has h hosts) ≡ true → rooms_off host rs ≡ []
off_gone None host h hosts rs on is gone listed = absurd (none-some h is)
off_gone (Some k) host h hosts rs on is gone listed = by (host == h) refl listed
  where
    by : (b : Bool) → (host == h) ≡ b → (b || has h hosts) ≡ true → rooms_off host rs ≡ []
    by true same listed =
        let here : k ≡ host = same_Some k h is ∙ sym (eqb-true host h same) in
        subst (λ (n : ℕ). rooms_off n rs ≡ []) here on
    by false other listed = ap (rooms_off host) (gone listed)

-- ---- one row

module _ (v : View) (g : Farm) (resized : Option ℕ) (G : Going v g resized) where
  abbrev f : Farm
  f = was_in v

  abbrev d : Desk
  d = desk_in v.desk

  change : MayChange v
  change = (d, G.first, G.pending)

  past : d.before ≢ None
  past none = none-some G.log (sym none ∙ G.before)

  past_host : (host : ℕ) → (desk_in (with_host_done host v.desk)).before ≢ None
  past_host host none = past (ap (λ (o : Option Desk). (desk_in (with_host_done host o)).before) (sym G.first) ∙ none)

  past_sub : (sub : ℕ) → (desk_in (with_sub_done sub v.desk)).before ≢ None
  past_sub sub none = past (ap (λ (o : Option Desk). (desk_in (with_sub_done sub o)).before) (sym G.first) ∙ none)

  past_limit : (limit : ℕ) → (desk_in (with_limit_done limit v.desk)).before ≢ None
  past_limit limit none = past (ap (λ (o : Option Desk). (desk_in (with_limit_done limit o)).before) (sym G.first) ∙ none)

  -- ---- a host

  module _ (host : ℕ) (said : HostSize) (opens : IsOpen v (host_turn host said)) (differs : Says g (host_turn host said) → ⊥) where
    cores_was : (records_in v).cores host ≡ host_cores f host
    cores_was = ap (λ (b : Bool). if b then host_cores (farm_in v) host else host_cores f host) opens.2

    memory_was : (records_in v).memory host ≡ host_memory f host
    memory_was = ap (λ (b : Bool). if b then host_memory (farm_in v) host else host_memory f host) opens.2

    another : SameSize f G.entry G.kept G.legal G.unbooked host → ⊥
    another same =
        let cores : host_cores f host ≡ host_cores g host = sym same.0 ∙ ap (λ (x : Farm). host_cores x host) G.leads in
        let memory : host_memory f host ≡ host_memory g host = sym same.1 ∙ ap (λ (x : Farm). host_memory x host) G.leads in
        let alloc : host_alloc f host ≡ host_alloc g host =
        sym (alloc_same f G.entry G.kept G.legal G.unbooked host same.0) ∙ ap (λ (x : Farm). host_alloc x host) G.leads in
        differs (opens.0 ∙ (λ i. record { cores = cores i; memory = memory i; alloc = alloc i }))

    not_of_size : IsOfSize ((records_in v).cores host) ((records_in v).memory host) (farm_in v) host → ⊥
    not_of_size same =
        another (
          ap (λ (x : Farm). host_cores x host) (G.leads ∙ sym G.farm) ∙ (sym same.0 ∙ cores_was),
          ap (λ (x : Farm). host_memory x host) (G.leads ∙ sym G.farm) ∙ (sym same.1 ∙ memory_was),
        )

    pub may_size : SlotsDone v g → (cores memory : ℕ) → cores ≡ host_cores g host → memory ≡ host_memory g host → (s : Table)
        → Asks s v (sets_size host cores memory)
    may_size slots cores memory cores_is memory_is s = (
      change,
      opens.1,
      cores_is ∙ ap (λ (x : Farm). host_cores x host) (sym G.farm),
      memory_is ∙ ap (λ (x : Farm). host_memory x host) (sym G.farm),
      not_of_size,
      λ slot lt runs on.
          let now : stand_recorded v slot ≡ stand_at (after f G.entry) slot = slots.each slot ∙ ap (λ (x : Farm). stand_at x slot) (sym G.leads) in
          none_runs f G.entry G.kept G.legal G.unbooked host another slot (ap (λ (x : Stand). x.phase) (sym now) ∙ runs)
          (ap (λ (x : Stand). x.host) (sym now) ∙ on),
      lends_alike v (sized v host cores memory 0) past (past_host host),
    )

    pub size_turned : (w : View) (cores memory : ℕ) → w ≡ sized v host cores memory 0 → Turned v (host_key host) w × Going w g resized
    size_turned w cores memory is =
        let x = sized v host cores memory 0 in
        let t : Turned v (host_key host) x = turned_made v x (host_key host) G.first refl (ap (with_host_done host) G.first) (_, refl) in
        subst (λ (y : View). Turned v (host_key host) y × Going y g resized) (sym is) (
          t,
          going_turned v x (host_key host) g resized G t G.takes G.places (off_on resized host v.rooms G.rooms)
              (λ h resizes listed. off_gone resized host h d.hosts v.rooms G.rooms resizes (G.gone h resizes) listed) refl refl refl,
        )

  -- ---- a subscription

  module _ (sub said : ℕ) (opens : IsOpen v (sub_turn sub said)) (differs : Says g (sub_turn sub said) → ⊥) where
    pub may_burst : (new : ℕ) → new ≡ burst_at g sub → (s : Table) → Asks s v (sets_burst sub said new)
    may_burst new is s = (
      change,
      opens.1,
      λ same. differs (same ∙ is),
      ap (λ (b : Bool). if b then burst_at (farm_in v) sub else burst_at f sub) opens.2 ∙ sym opens.0,
      ap (λ (x : Farm). burst_at x sub) G.farm ∙ sym is,
      lends_alike v (raised_burst v sub said new 0) past (past_sub sub),
    )

    pub burst_turned : (w : View) (new found : ℕ) → w ≡ raised_burst v sub said new found → Turned v (sub_key sub) w × Going w g resized
    burst_turned w new found is =
        let x = raised_burst v sub said new found in
        let t : Turned v (sub_key sub) x = turned_made v x (sub_key sub) G.first refl (ap (with_sub_done sub) G.first) (_, refl) in
        subst (λ (y : View). Turned v (sub_key sub) y × Going y g resized) (sym is)
        (t, going_turned v x (sub_key sub) g resized G t G.takes G.places G.rooms G.gone refl refl refl)

  -- ---- a limit

  module _ (limit said : ℕ) (opens : IsOpen v (limit_turn limit said)) (differs : Says g (limit_turn limit said) → ⊥) where
    pub may_most : (new : ℕ) → new ≡ most_at g limit → (s : Table) → Asks s v (sets_most limit said new)
    may_most new is s = (
      change,
      opens.1,
      λ same. differs (same ∙ is),
      ap (λ (b : Bool). if b then most_at (farm_in v) limit else most_at f limit) opens.2 ∙ sym opens.0,
      ap (λ (x : Farm). most_at x limit) G.farm ∙ sym is,
      lends_alike v (raised_most v limit said new 0) past (past_limit limit),
    )

    pub most_turned : (w : View) (new found : ℕ) → w ≡ raised_most v limit said new found → Turned v (limit_key limit) w × Going w g resized
    most_turned w new found is =
        let x = raised_most v limit said new found in
        let t : Turned v (limit_key limit) x = turned_made v x (limit_key limit) G.first refl (ap (with_limit_done limit) G.first) (_, refl) in
        subst (λ (y : View). Turned v (limit_key limit) y × Going y g resized) (sym is)
        (t, going_turned v x (limit_key limit) g resized G t G.takes G.places G.rooms G.gone refl refl refl)
