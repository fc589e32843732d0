-- What a report lists as done is over in the farm once the report is recorded, as far as it was the host's own.
use Rattle.std.proofs.Common.{◌≡◌, ◌≢◌, ◌<◌, ℕ, Bool, true, false, cond, eqb, List, [], ◌∷◌, length, map, Option, None, Some, refl, sym, ap, subst, ◌∙◌, ◌⊎◌, inl, inr, arith}
use Rattle.std.specs.List.{AllByRecursion, slice_get}
use Rattle.std.specs.Prelude.{nat_lt, option_and_then}
use Rattle.std.proofs.lemmas.Bool.{eq-eqb, eqb-true}
use Rattle.std.proofs.lemmas.Option.{none-some, same_Some, slice_get_within}
use Rattle.farm_types.specs.declared.attempt.Attempt.{Attempt}
use Rattle.farm_types.specs.declared.attempt.DoneItem.{DoneItem}
use Rattle.farm_types.specs.declared.attempt.ProcRow.{ProcRow}
use Rattle.farm_types.specs.declared.entry.Act.TheVariants.{Heard}
use Rattle.farm_types.specs.declared.entry.Entry.{Entry}
use Rattle.farm_types.specs.declared.entry.HeardAct.{HeardAct}
use Rattle.farm_types.specs.declared.refusal.Refusal.TheVariants.{Stale, Unknown, WrongBoot}
use Rattle.farm_types.specs.declared.rows.HostRow.{HostRow}
use Rattle.farm_types.specs.declared.slot_row.SlotRow.{SlotRow}
use Rattle.farm_types.specs.Booking.{is_up, version_at, version_of}
use Rattle.farm_types.specs.Farm.{Farm, changed_at, for_any, host_named}
use Rattle.farm_types.specs.Hosts.{heard_row}
use Rattle.farm_types.specs.Kept.{IsKeptFarm, is_on_host}
use Rattle.farm_types.specs.Lost.{lost_row, runs_on}
use Rattle.farm_types.specs.Run.{HasItsAttempt, HasItsHosts, IsLegalStep, IsSound}
use Rattle.farm_types.specs.Step.{acted, after, after_heard, at_moment, end_all, end_attempt, ended_row, expire, followed, host_refusal, is_attempt, is_live, is_silent, moment_of, row_refusal}
use Rattle.farm_types.proofs.Changed.{places}
use Rattle.farm_types.proofs.Lists.{and_both, for_some_true, list_all-at, slice_get_below}
use Rattle.farm_types.proofs.Passes.{cond_each, for_some-there}
use Rattle.farm_types.proofs.Stays.{EachStays, EachStays-changed_at, EachStays-map, EachStays-same}
use Rattle.farm_law.proofs.Ended.{end_all_law, end_law, ended}
use Rattle.farm_law.proofs.Finished.{closed_run}
use Rattle.farm_law.proofs.FollowLaws.{followed_law}
use Rattle.farm_law.proofs.Hosts.{heard_law}
use Rattle.farm_law.proofs.KeptRuns.{act_accepted}
use Rattle.farm_law.proofs.Lost.{expire_law}
use Rattle.farm_law.proofs.RunningFrames.{frame_runs}
use Rattle.farm_law.proofs.SafeRuns.{moment_law}
use Rattle.farm_law.proofs.Spent.{counted_spent, spent_stays}
use Rattle.farm_law.proofs.KeptChanges.{kept_hosts}
use Rattle.world_law.specs.Attempts.{IsOwn, IsSpent, IsSpentAt}
use Rattle.world_law.proofs.Each.{each_from}

-- ---- the host that is heard

-- the host of the report, whose boot number is the report's
pub record HeardOf (f : Farm) (act : HeardAct) : Type 0 where
  pub place : ℕ
  pub row : HostRow
  pub named : host_named f act.host ≡ Some place
  pub there : slice_get f.hosts place ≡ Some row
  pub boot : row.boot ≡ act.boot

row_heard : (f : Farm) (act : HeardAct) (place : ℕ) (o : Option HostRow) → host_named f act.host ≡ Some place → slice_get f.hosts place ≡ o
    → row_refusal act.host act.boot act.seq o ≡ None → HeardOf f act
row_heard f act place None named there none = absurd (none-some (Unknown act.host) (sym none))
row_heard f act place (Some row) named there none = by (eqb row.boot act.boot) refl none
  where
    by : (b : Bool) → eqb row.boot act.boot ≡ b → cond b (cond (nat_lt row.seq act.seq) None (Some (Stale row.seq))) (Some (WrongBoot row.boot)) ≡ None → HeardOf f act
    by true same left = record { place = place; row = row; named = named; there = there; boot = eqb-true row.boot act.boot same }
    by false same left = absurd (none-some (WrongBoot row.boot) (sym left))

host_heard : (f : Farm) (act : HeardAct) (o : Option ℕ) → host_named f act.host ≡ o → host_refusal f act o ≡ None → HeardOf f act
host_heard f act None named none = absurd (none-some (Unknown act.host) (sym none))
host_heard f act (Some place) named none = row_heard f act place (slice_get f.hosts place) named refl none

pub heard_of : (f : Farm) (moment : ℕ) (act : HeardAct) → IsLegalStep f (record { moment = moment; act = Heard act }) → HeardOf f act
heard_of f moment act legal = host_heard f act (host_named f act.host) refl (act_accepted f (record { moment = moment; act = Heard act }) legal)

-- ---- an attempt that is over, or live on the host in this boot

module _ (host boot : ℕ) (a : Attempt) where
  pub record IsLiveRow (s : SlotRow) : Type 0 where
    pub proc : ProcRow
    pub is : s.proc ≡ Some proc
    pub attempt : is_attempt host boot a.version proc ≡ true
    pub version : a.version ≡ s.version

  abbrev pub Stands : List SlotRow → Type 0
  Stands slots = (a.slot < length slots) × ((s : SlotRow) → slice_get slots a.slot ≡ Some s → IsSpentAt a s ⊎ IsLiveRow s)

  -- a slot as it was, or without its attempt
  abbrev Drops : SlotRow → SlotRow → Type 0
  Drops s t = (t ≡ s) ⊎ ((t.version ≡ s.version) × (t.proc ≡ None))

  row_drops : (s t : SlotRow) → Drops s t → IsSpentAt a s ⊎ IsLiveRow s → IsSpentAt a t ⊎ IsLiveRow t
  row_drops s t (inl same) stands = subst (λ (r : SlotRow). IsSpentAt a r ⊎ IsLiveRow r) (sym same) stands
  row_drops s t (inr gone) (inl (inl below)) = inl (inl (omega (arith, below, gone.0)))
  row_drops s t (inr gone) (inl (inr at)) = inl (inr (at.0 ∙ sym gone.0, gone.1))
  row_drops s t (inr gone) (inr live) = inl (inr (live.version ∙ sym gone.0, gone.1))

  drops : (olds news : List SlotRow) → EachStays Drops olds news → Stands olds → Stands news
  drops olds news each stands =
      let old = slice_get_below olds a.slot stands.0 in
      let new = each a.slot old.0 old.1 in (
        slice_get_within news a.slot new.0 new.1,
        λ s at. subst (λ (r : SlotRow). IsSpentAt a r ⊎ IsLiveRow r) (same_Some new.0 s (sym new.1 ∙ at)) (row_drops old.0 new.0 new.2 (stands.1 old.0 old.1)),
      )

  end_drops : (f : Farm) (d : DoneItem) → EachStays Drops f.slots (end_attempt f host boot d).slots
  end_drops f d =
      cond_each (λ (g : Farm). EachStays Drops f.slots g.slots) (is_live f host boot d.attempt.slot d.attempt.version) (ended f d.attempt.slot d.exit) f
      (EachStays-changed_at Drops (λ s. inl refl) f.slots d.attempt.slot (ended_row f d.exit) (λ s at. inr (refl, refl)))
      (EachStays-same Drops (λ s. inl refl) f.slots)

  lose_drops : (test : ℕ → Bool) (slots : List SlotRow) → EachStays Drops slots (map (λ s. cond (runs_on test s) (lost_row s) s) slots)
  lose_drops test slots =
      EachStays-map Drops slots (λ s. cond (runs_on test s) (lost_row s) s) (λ s. cond_each (Drops s) (runs_on test s) (lost_row s) s (inr (refl, refl)) (inl refl))

  live_there : (f : Farm) (s : SlotRow) → slice_get f.slots a.slot ≡ Some s → IsLiveRow s → is_live f host boot a.slot a.version ≡ true
  live_there f s at live = for_some-there (slice_get f.slots a.slot) _ s at (for_some-there s.proc _ live.proc live.is live.attempt)

-- ---- its turn among the completions

module _ (host boot : ℕ) where
  turn_by : (f : Farm) (d : DoneItem) (s : SlotRow) → IsSound f → d.attempt.slot < length f.slots → slice_get f.slots d.attempt.slot ≡ Some s
      → IsSpentAt d.attempt s ⊎ IsLiveRow host boot d.attempt s → IsSpent (end_attempt f host boot d) d.attempt
  turn_by f d s ok below at (inl spent) =
      spent_stays f (end_attempt f host boot d) (end_law f host boot d).rows.slots d.attempt
      (below, λ t there. subst (IsSpentAt d.attempt) (same_Some s t (sym at ∙ there)) spent)
  turn_by f d s ok below at (inr live) = counted_spent f host boot d ok (live_there host boot d.attempt f s at live)

  turn : (f : Farm) (d : DoneItem) → IsSound f → Stands host boot d.attempt f.slots → IsSpent (end_attempt f host boot d) d.attempt
  turn f d ok stands =
      let s = slice_get_below f.slots d.attempt.slot stands.0 in
      turn_by f d s.0 ok stands.0 s.1 (stands.1 s.0 s.1)

  abbrev Ends : Farm → Farm → DoneItem → Type 0
  Ends f g d = Stands host boot d.attempt f.slots → IsSpent g d.attempt

  later_ends : (f g : Farm) (d : DoneItem) (ds : List DoneItem) → AllByRecursion (Ends (end_attempt f host boot d) g) ds → AllByRecursion (Ends f g) ds
  later_ends f g d [] all = tt
  later_ends f g d (x ∷ xs) all =
      (λ stands. all.0 (drops host boot x.attempt f.slots (end_attempt f host boot d).slots (end_drops host boot x.attempt f d) stands), later_ends f g d xs all.1)

  all_end : (f : Farm) (ds : List DoneItem) → IsSound f → HasItsHosts f → AllByRecursion (Ends f (end_all f host boot ds)) ds
  all_end f [] ok there = tt
  all_end f (d ∷ ds) ok there =
      let now = end_attempt f host boot d in
      let law = end_law f host boot d in
      let end = end_all now host boot ds in (
        λ stands. spent_stays now end (end_all_law now host boot ds).rows.slots d.attempt (turn f d ok stands),
        later_ends f end d ds (all_end now ds (law.sound ok there) (law.hosts ok there)),
      )

-- ---- what is the host's own stands so

module _ (f : Farm) (act : HeardAct) (k : IsKeptFarm f) (of : HeardOf f act) where
  -- a live attempt on the host is of its boot
  boot_is : (n : ℕ) (s : SlotRow) (p : ProcRow) → slice_get f.slots n ≡ Some s → s.proc ≡ Some p → p.host ≡ of.place → p.boot ≡ act.boot
  boot_is n s p at is host =
      let on : is_on_host f.hosts p ≡ true =
      ap (λ (o : Option ProcRow). for_any o (is_on_host f.hosts)) (sym is) ∙ list_all-at (λ (s : SlotRow). for_any s.proc (is_on_host f.hosts)) f.slots n s k.rows.attempts.hosted at in
      let row = for_some_true (slice_get f.hosts p.host) _ on in
      let both = and_both (is_up row.0.state) (eqb row.0.boot p.boot) row.2 in
      let same : row.0 ≡ of.row = same_Some row.0 of.row (sym row.1 ∙ (ap (slice_get f.hosts) host ∙ of.there)) in
      sym (eqb-true row.0.boot p.boot both.1) ∙ (ap (λ (r : HostRow). r.boot) same ∙ of.boot)

  live_here : (a : Attempt) (s : SlotRow) (p : ProcRow) → IsOwn f act.host a → slice_get f.slots a.slot ≡ Some s → a.version ≡ s.version → s.proc ≡ Some p
      → IsLiveRow of.place act.boot a s
  live_here a s p own at same is =
      let runs = frame_runs a.slot s.version s.frame p (subst (λ (o : Option ProcRow). HasItsAttempt a.slot s.version s.frame o) is (k.rows.sound.attempts a.slot s at)) in
      let version : p.version ≡ a.version = runs.4 ∙ sym same in
      let host : p.host ≡ of.place = same_Some p.host of.place (sym (own.here p (ap (option_and_then (λ (s : SlotRow). s.proc)) at ∙ is) version) ∙ of.named) in
      record {
        proc = p;
        is = is;
        attempt = rw (eq-eqb p.version a.version version, eq-eqb p.host of.place host, eq-eqb p.boot act.boot (boot_is a.slot s p at is host)) refl;
        version = same;
      }

  stands_by : (a : Attempt) (s : SlotRow) (o : Option ProcRow) → IsOwn f act.host a → slice_get f.slots a.slot ≡ Some s → s.proc ≡ o
      → (a.version ≡ s.version) ⊎ (a.version ≢ s.version) → IsSpentAt a s ⊎ IsLiveRow of.place act.boot a s
  stands_by a s o own at is (inr apart) =
      let version : version_at f a.slot ≡ s.version = ap version_of at in
      let reached = own.reached in
      inl (inl (omega (arith, version, reached, apart)))
  stands_by a s None own at is (inl same) = inl (inr (same, is))
  stands_by a s (Some p) own at is (inl same) = inr (live_here a s p own at same is)

  own_stands : (a : Attempt) → IsOwn f act.host a → Stands of.place act.boot a f.slots
  own_stands a own = (own.slot, λ s at. stands_by a s s.proc own at refl (places a.version s.version))

-- ---- a report

-- what it lists as done, and is the host's own, is over once it is recorded
abbrev pub AreOver : Farm → Farm → HeardAct → Type 0
AreOver f g act = AllByRecursion (λ (d : DoneItem). IsOwn f act.host d.attempt → IsSpent g d.attempt) act.done

module _ (f : Farm) (moment : ℕ) (act : HeardAct) (k : IsKeptFarm f) (legal : IsLegalStep f (record { moment = moment; act = Heard act })) where
  abbrev e : Entry
  e = record { moment = moment; act = Heard act }

  abbrev at : ℕ
  at = moment_of f moment

  abbrev silent : Farm
  silent = expire (at_moment f at) at

  abbrev heard_from : ℕ → Farm
  heard_from host = record silent { hosts = changed_at silent.hosts host (heard_row act.seq at) }

  own_goes : (host : ℕ) (of : HeardOf f act) (d : DoneItem) → host ≡ of.place → IsOwn f act.host d.attempt → Stands host act.boot d.attempt (heard_from host).slots
  own_goes host of d same own =
      drops host act.boot d.attempt f.slots silent.slots (lose_drops host act.boot d.attempt (is_silent (at_moment f at) at) f.slots)
      (subst (λ (n : ℕ). Stands n act.boot d.attempt f.slots) (sym same) (own_stands f act k of d.attempt own))

  over_from : (o : Option ℕ) (of : HeardOf f act) → o ≡ Some of.place → AreOver f (after_heard silent act at o) act
  over_from None of is = absurd (none-some of.place is)
  over_from (Some host) of is =
      let first = moment_law f at in
      let lost = expire_law (at_moment f at) at in
      let heard = heard_law silent host act.seq at in
      let there = kept_hosts f k.rows in
      let ok1 = first.sound k.rows.sound there in
      let there1 = first.hosts k.rows.sound there in
      let ok2 = lost.sound ok1 there1 in
      let there2 = lost.hosts ok1 there1 in
      let end = end_all (heard_from host) host act.boot act.done in
      each_from (Ends host act.boot (heard_from host) end) (λ (d : DoneItem). IsOwn f act.host d.attempt → IsSpent end d.attempt)
      (λ d ends own. ends (own_goes host of d (same_Some host of.place is) own)) act.done
      (all_end host act.boot (heard_from host) act.done (heard.sound ok2 there2) (heard.hosts ok2 there2))

  pub heard_over : AreOver f (after f e) act
  heard_over =
      let of = heard_of f moment act legal in
      let mid = followed e.act (acted f e) in
      each_from (λ (d : DoneItem). IsOwn f act.host d.attempt → IsSpent (acted f e) d.attempt) (λ (d : DoneItem). IsOwn f act.host d.attempt → IsSpent (after f e) d.attempt)
      (λ d over own.
      spent_stays mid (after f e) (closed_run e.act mid).rows.slots d.attempt
      (spent_stays (acted f e) mid (followed_law e.act (acted f e)).rows.slots d.attempt (over own)))
      act.done (over_from (host_named f act.host) of of.named)
