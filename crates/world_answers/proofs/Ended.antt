-- Which completions change a farm: of each live attempt the first one.
use Rattle.std.proofs.Common.{◌≡◌, ◌∙◌, ◌&&◌, ◌||◌, Bool, true, false, cond, eqb, ℕ, ◌+◌, ◌<◌, List, [], ◌∷◌, ◌++◌, drop, get_or, length, Option, Some, refl, sym, ap, subst, ◌⊎◌, inl, inr}
use Rattle.std.specs.Prelude.{◌≢◌, slice_get, if◌then◌else◌}
use Rattle.std.proofs.lemmas.List.{drop_more}
use Rattle.std.proofs.lemmas.Bool.{eq-eqb, eqb-true, false≢true, ne_eqb}
use Rattle.farm_types.specs.declared.attempt.Attempt.{Attempt}
use Rattle.farm_types.specs.declared.attempt.DoneItem.{DoneItem}
use Rattle.farm_types.specs.declared.attempt.ProcRow.{ProcRow}
use Rattle.farm_types.specs.declared.entry.Act.TheVariants.{Heard}
use Rattle.farm_types.specs.declared.entry.HeardAct.{HeardAct}
use Rattle.farm_types.specs.declared.rows.HostRow.{HostRow}
use Rattle.farm_types.specs.declared.slot_row.SlotRow.{SlotRow}
use Rattle.farm_types.specs.Farm.{Farm, changed_at, for_some, host_named}
use Rattle.farm_types.specs.Hosts.{heard_row}
use Rattle.farm_types.specs.Run.{is_same}
use Rattle.farm_types.specs.Step.{end_attempt, ended_row, is_attempt, is_live, moment_of}
use Rattle.farm_types.proofs.Changed.{changed_at_other, changed_at_same, places}
use Rattle.farm_types.proofs.Lists.{and_both, for_some_true}
use Rattle.world_law.specs.Ends.{ends_at, ends_in, ends_of}
use Rattle.world_answers.specs.Ending.{is_ended, is_over, ticked}

-- ---- hosts

-- which completions change a farm doesn't hang on its hosts
ends_hosts : (host boot : ℕ) (hosts : List HostRow) (g : Farm) (ds : List DoneItem) → ends_in (record g { hosts = hosts }) host boot ds ≡ ends_in g host boot ds
ends_hosts host boot hosts g [] = refl
ends_hosts host boot hosts g (d ∷ ds) =
    by (is_live g host boot d.attempt.slot d.attempt.version) (ends_hosts host boot hosts (ended g) ds) (ends_hosts host boot hosts g ds)
  where
    ended : Farm → Farm
    ended h = record h { slots = changed_at h.slots d.attempt.slot (ended_row h d.exit) }

    turn : Farm → Bool → List DoneItem
    turn h b = if b then d ∷ ends_in (if b then ended h else h) host boot ds else ends_in h host boot ds

    by : (b : Bool) → ends_in (record (ended g) { hosts = hosts }) host boot ds ≡ ends_in (ended g) host boot ds
        → ends_in (record g { hosts = hosts }) host boot ds ≡ ends_in g host boot ds
        → turn (record g { hosts = hosts }) b ≡ turn g b
    by true live gone = ap (λ (es : List DoneItem). d ∷ es) live
    by false live gone = gone

-- those of a report, of the farm at its moment
pub ends_heard : (f : Farm) (act : HeardAct) (moment host : ℕ) → host_named f act.host ≡ Some host → (now : Farm) → now ≡ ticked f moment
    → (ends : List DoneItem) → ends ≡ ends_in now host act.boot act.done → ends ≡ ends_at f (record { moment = moment; act = Heard act })
ends_heard f act moment host named now ticks ends is =
    let at : ℕ = moment_of f moment in
    is
    ∙ (ap (λ (g : Farm). ends_in g host act.boot act.done) ticks
    ∙ (sym (ends_hosts host act.boot (changed_at (ticked f moment).hosts host (heard_row act.seq at)) (ticked f moment) act.done)
    ∙ ap (ends_of (ticked f moment) act at) (sym named)))

-- ---- one completion of a live attempt

module _ (g : Farm) (host boot : ℕ) where
  abbrev live_in : ℕ → Option SlotRow → Bool
  live_in version o = for_some o (λ s. for_some s.proc (is_attempt host boot version))

  off_version : (slot version other : ℕ) → is_live g host boot slot version ≡ true → eqb version other ≡ false → is_live g host boot slot other ≡ false
  off_version slot version other live off =
      let found = for_some_true (slice_get g.slots slot) _ live in
      let proc = for_some_true found.0.proc _ found.2 in
      let p : ProcRow = proc.0 in
      let parts = and_both (eqb p.version version && eqb p.host host) (eqb p.boot boot) proc.2 in
      let first = and_both (eqb p.version version) (eqb p.host host) parts.0 in
      let same : p.version ≡ version = eqb-true p.version version first.0 in
      let not : eqb p.version other ≡ false = ap (λ (v : ℕ). eqb v other) same ∙ off in
      ap (live_in other) found.1
      ∙ (ap (λ (o : Option ProcRow). for_some o (is_attempt host boot other)) proc.1 ∙ ap (λ (b : Bool). b && eqb p.host host && eqb p.boot boot) not)

  module _ (d : DoneItem) (live : is_live g host boot d.attempt.slot d.attempt.version ≡ true) where
    abbrev gone : Farm
    gone = record g { slots = changed_at g.slots d.attempt.slot (ended_row g d.exit) }

    gone_is : end_attempt g host boot d ≡ gone
    gone_is = ap (λ (b : Bool). if b then gone else g) live

    none_here : (version : ℕ) → is_live gone host boot d.attempt.slot version ≡ false
    none_here version =
        let found = for_some_true (slice_get g.slots d.attempt.slot) _ live in
        ap (live_in version) (changed_at_same g.slots d.attempt.slot (ended_row g d.exit) found.0 found.1)

    at_slot : (version : ℕ) (b : Bool) → eqb d.attempt.version version ≡ b
        → is_live gone host boot d.attempt.slot version ≡ cond b false (is_live g host boot d.attempt.slot version)
    at_slot version true is = none_here version
    at_slot version false is = none_here version ∙ sym (off_version d.attempt.slot d.attempt.version version live is)

    own_slot : (version : ℕ) → is_live gone host boot d.attempt.slot version
        ≡ cond (eqb d.attempt.slot d.attempt.slot && eqb d.attempt.version version) false (is_live g host boot d.attempt.slot version)
    own_slot version =
        at_slot version (eqb d.attempt.version version) refl
        ∙ ap (λ (b : Bool). cond (b && eqb d.attempt.version version) false (is_live g host boot d.attempt.slot version))
        (sym (eq-eqb d.attempt.slot d.attempt.slot refl))

    by_slot : (slot version : ℕ) → (slot ≡ d.attempt.slot) ⊎ (slot ≢ d.attempt.slot)
        → is_live gone host boot slot version ≡ cond (eqb d.attempt.slot slot && eqb d.attempt.version version) false (is_live g host boot slot version)
    by_slot slot version (inl same) =
        subst
        (λ (n : ℕ). is_live gone host boot n version ≡ cond (eqb d.attempt.slot n && eqb d.attempt.version version) false (is_live g host boot n version))
        (sym same) (own_slot version)
    by_slot slot version (inr off) =
        ap (live_in version) (changed_at_other g.slots d.attempt.slot slot (ended_row g d.exit) off)
        ∙ ap (λ (b : Bool). cond (b && eqb d.attempt.version version) false (is_live g host boot slot version))
        (sym (ne_eqb d.attempt.slot slot (λ e. off (sym e))))

    pub live_then : (a : Attempt) → is_live (end_attempt g host boot d) host boot a.slot a.version ≡ cond (is_same d.attempt a) false
        (is_live g host boot a.slot a.version)
    live_then a = ap (λ (h : Farm). is_live h host boot a.slot a.version) gone_is ∙ by_slot a.slot a.version (places a.slot d.attempt.slot)

-- ---- completions in order

ended_more : (ends : List DoneItem) (d : DoneItem) (a : Attempt) (live : Bool)
    → cond (is_same d.attempt a) false (cond (is_ended ends a) false live) ≡ cond (is_ended (ends ++ d ∷ []) a) false live
ended_more [] d a live = by (is_same d.attempt a)
  where
    by : (b : Bool) → cond b false live ≡ cond (b || false) false live
    by true = refl
    by false = refl
ended_more (e ∷ ends) d a live = by (is_same e.attempt a) (is_same d.attempt a) (ended_more ends d a live)
  where
    both : (b : Bool) → cond b false false ≡ false
    both true = refl
    both false = refl

    by : (b same : Bool) → cond same false (cond (is_ended ends a) false live) ≡ cond (is_ended (ends ++ d ∷ []) a) false live
        → cond same false (cond (b || is_ended ends a) false live) ≡ cond (b || is_ended (ends ++ d ∷ []) a) false live
    by true same later = both same
    by false same later = later

joined : (ends : List DoneItem) (d : DoneItem) (later : List DoneItem) → (ends ++ d ∷ []) ++ later ≡ ends ++ d ∷ later
joined [] d later = refl
joined (e ∷ ends) d later = ap (λ (ds : List DoneItem). e ∷ ds) (joined ends d later)

over_false : (b c live : Bool) → live ≡ cond c false b → cond b c true ≡ false → live ≡ true
over_false true true live is over = absurd (false≢true (sym over))
over_false true false live is over = is
over_false false c live is over = absurd (false≢true (sym over))

module _ (f : Farm) (host boot : ℕ) (all : List DoneItem) where
  -- an attempt that ended so far is live no more, and each other is as it was
  abbrev Still : Farm → List DoneItem → Type 0
  Still g ends = (a : Attempt) → is_live g host boot a.slot a.version ≡ cond (is_ended ends a) false (is_live f host boot a.slot a.version)

  -- these ended so far, and those that are left end as all do
  pub record IsEnding (ends rest : List DoneItem) : Type 0 where
    pub farm : Farm
    pub still : Still farm ends
    pub goes_on : ends ++ ends_in farm host boot rest ≡ ends_in f host boot all

  pub begins_ending : (ends : List DoneItem) → ends ≡ [] → IsEnding ends all
  begins_ending ends none = subst (λ (ds : List DoneItem). IsEnding ds all) (sym none) (record { farm = f; still = λ a. refl; goes_on = refl })

  module _ (ends : List DoneItem) (d : DoneItem) (rest : List DoneItem) (so : IsEnding ends (d ∷ rest)) where
    abbrev turn : Bool → List DoneItem
    turn b = ends ++ (if b then d ∷ ends_in (end_attempt so.farm host boot d) host boot rest else ends_in so.farm host boot rest)

    ends_one : is_over f host boot ends d ≡ false → IsEnding (ends ++ d ∷ []) rest
    ends_one over =
        let live = over_false (is_live f host boot d.attempt.slot d.attempt.version) (is_ended ends d.attempt)
        (is_live so.farm host boot d.attempt.slot d.attempt.version)
        (so.still d.attempt) over in
        record {
          farm = end_attempt so.farm host boot d;
          still = λ a.
              live_then so.farm host boot d live a
              ∙ (ap (λ (b : Bool). cond (is_same d.attempt a) false b) (so.still a) ∙ ended_more ends d a (is_live f host boot a.slot a.version));
          goes_on = joined ends d (ends_in (end_attempt so.farm host boot d) host boot rest) ∙ (ap turn (sym live) ∙ so.goes_on);
        }

  -- so at a place of the list
  at_item : (ends : List DoneItem) (i : ℕ) (d : DoneItem) → i < length all → d ≡ get_or all i d → IsEnding ends (drop i all)
      → IsEnding ends (d ∷ drop (i + 1) all)
  at_item ends i d within is so = subst (IsEnding ends) (drop_more all i d within ∙ ap (λ (x : DoneItem). x ∷ drop (i + 1) all) (sym is)) so

  pub ends_item : (ends : List DoneItem) (i : ℕ) (d : DoneItem) → i < length all → d ≡ get_or all i d → IsEnding ends (drop i all)
      → is_over f host boot ends d ≡ false
      → (more : List DoneItem) → more ≡ ends ++ d ∷ [] → IsEnding more (drop (i + 1) all)
  ends_item ends i d within is so over more grown =
      subst (λ (ds : List DoneItem). IsEnding ds (drop (i + 1) all)) (sym grown) (ends_one ends d (drop (i + 1) all) (at_item ends i d within is so) over)
