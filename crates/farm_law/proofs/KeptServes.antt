-- Which attempts each change of hosts and slots leaves, and which hosts serve on.
use Rattle.std.proofs.Common.{◌≡◌, ◌≢◌, ℕ, inl, Bool, true, false, ◌&&◌, cond, eqb, List, [], ◌∷◌, ◌++◌, map, Option, Some, None, refl, sym, subst, ap, ◌∙◌, option_map}
use Rattle.std.specs.Prelude.{is_none}
use Rattle.std.specs.Option.{option_or}
use Rattle.std.specs.List.{find, list_all, slice_get}
use Rattle.std.proofs.lemmas.Bool.{cond-false, eqb-false, false≢true}
use Rattle.std.proofs.lemmas.List.Folds.{find-append}
use Rattle.std.proofs.lemmas.Option.{none-some, same_Some, slice_get-map}
use Rattle.farm_types.proofs.Changed.{changed_at_each, changed_at_other}
use Rattle.farm_types.proofs.Passes.{cond_each}
use Rattle.farm_types.proofs.Stays.{EachStays, EachStays-append, EachStays-changed_at, EachStays-map}
use Rattle.farm_types.specs.Booking.{is_up}
use Rattle.farm_types.specs.declared.attempt.ProcRow.{ProcRow}
use Rattle.farm_types.specs.declared.boot.BootLine.{BootLine}
use Rattle.farm_types.specs.declared.rows.HostRow.{HostRow}
use Rattle.farm_types.specs.declared.rows.LayerRow.{LayerRow}
use Rattle.farm_types.specs.declared.slot_row.Frame.{Frame}
use Rattle.farm_types.specs.declared.slot_row.SlotRow.{SlotRow}
use Rattle.farm_types.specs.declared.states.LockState.{LockState}
use Rattle.farm_types.specs.Farm.{Farm, changed_at, for_some}
use Rattle.farm_types.specs.Hosts.{again_row, booted_at, booted_row, down_row, heard_row, is_same_life, is_unheard, locked_row, new_host, reborn_row, reopened_row, silenced, silenced_row}
use Rattle.farm_types.specs.Jobs.{place_frames}
use Rattle.farm_types.specs.Lost.{lose_on}
use Rattle.farm_types.specs.Run.{HasItsAttempt, IsSound}
use Rattle.farm_types.specs.Step.{is_silent, lose_life, slots_at_boot}
use Rattle.farm_law.proofs.KeptAttempts.{IsLeft, LayersStay, Serves, ServesRow, left_all, left_on, serves_same}
use Rattle.farm_law.proofs.Placed.{Each, free_none, placed_each, waits}

-- ---- hosts that serve on

-- hosts as they were; one that was heard, or that is locked or opened; all as they count as heard again
pub hosts_serve : (hosts : List HostRow) (host : ℕ) → Serves hosts hosts host
hosts_serve hosts host row at = (row, at, serves_same row)

pub heard_serve : (hosts : List HostRow) (seq moment host : ℕ) → EachStays ServesRow hosts (changed_at hosts host (heard_row seq moment))
heard_serve hosts seq moment host = EachStays-changed_at ServesRow serves_same hosts host (heard_row seq moment) (λ row at. record { up = λ h. refl; boot = refl })

pub locked_serve : (hosts : List HostRow) (lock : LockState) (host : ℕ) → EachStays ServesRow hosts (changed_at hosts host (locked_row lock))
locked_serve hosts lock host = EachStays-changed_at ServesRow serves_same hosts host (locked_row lock) (λ row at. record { up = λ h. h; boot = refl })

reopened_serves : (moment : ℕ) (row : HostRow) → ServesRow row (reopened_row moment row)
reopened_serves moment row = cond_each (ServesRow row) (is_up row.state) (record row { heard = moment }) row (record { up = λ h. h; boot = refl }) (serves_same row)

pub reopened_serve : (hosts : List HostRow) (moment : ℕ) → EachStays ServesRow hosts (map (reopened_row moment) hosts)
reopened_serve hosts moment = EachStays-map ServesRow hosts (reopened_row moment) (reopened_serves moment)

-- a change at another host
other_serves : (hosts : List HostRow) (host n : ℕ) (change : HostRow → HostRow) → n ≢ host → Serves hosts (changed_at hosts host change) n
other_serves hosts host n change apart row at = (row, changed_at_other hosts host n change apart ∙ at, serves_same row)

silent_by : (moment : ℕ) (o : Option HostRow) (row : HostRow) → for_some o (is_unheard moment) ≡ false → o ≡ Some row → is_unheard moment row ≡ false
silent_by moment o row heard at = rw at at heard

-- a host that isn't silent stays as it is
heard_serves : (f : Farm) (moment host : ℕ) → is_silent f moment host ≡ false → Serves f.hosts (silenced moment f.hosts) host
heard_serves f moment host heard row at =
    let same : silenced_row moment row ≡ row = cond-false (is_unheard moment row) (down_row row) row (silent_by moment (slice_get f.hosts host) row heard at) in
    (row, slice_get-map (silenced_row moment) f.hosts host ∙ (ap (option_map (silenced_row moment)) at ∙ ap Some same), serves_same row)

-- ---- which attempts are left

-- all, where hosts and slots are as they were
pub left_same : (f : Farm) → Each (λ i s. IsLeft f.hosts f.hosts f.slots s) f.slots
left_same f = left_all f.hosts f.hosts f.slots (hosts_serve f.hosts)

-- those on hosts that aren't silent
pub left_expired : (f : Farm) (moment : ℕ) → Each (λ i s. IsLeft f.hosts (silenced moment f.hosts) f.slots s) (lose_on (is_silent f moment) f.slots)
left_expired f moment = left_on (is_silent f moment) f.hosts (silenced moment f.hosts) f.slots (heard_serves f moment)

again_serves : (line : BootLine) (moment : ℕ) (row : HostRow) (same : Bool) → same ≡ true → ServesRow row (cond same (again_row moment row) (reborn_row line moment row))
again_serves line moment row true is = record { up = λ h. refl; boot = refl }
again_serves line moment row false is = absurd (false≢true is)

module _ (f : Farm) (line : BootLine) (moment host : ℕ) where
  abbrev booted_hosts : List HostRow
  booted_hosts = changed_at f.hosts host (booted_row line moment)

  life_by : (row : HostRow) (same : Bool) → is_same_life line row ≡ same → slice_get f.hosts host ≡ Some row → Each (λ i s. IsLeft f.hosts booted_hosts f.slots s) (cond same f.slots (lose_on (λ n. eqb n host) f.slots))
  life_by row true same is =
      left_all f.hosts booted_hosts f.slots
      (EachStays-changed_at ServesRow serves_same f.hosts host (booted_row line moment)
      (λ x at. again_serves line moment x (is_same_life line x) (subst (λ (y : HostRow). is_same_life line y ≡ true) (same_Some row x (sym is ∙ at)) same)))
  life_by row false same is = left_on (λ n. eqb n host) f.hosts booted_hosts f.slots (λ n apart. other_serves f.hosts host n (booted_row line moment) (eqb-false n host apart))

  left_life : (o : Option HostRow) → slice_get f.hosts host ≡ o → Each (λ i s. IsLeft f.hosts booted_hosts f.slots s) (lose_life line host o f.slots)
  left_life None is = left_all f.hosts booted_hosts f.slots (EachStays-changed_at ServesRow serves_same f.hosts host (booted_row line moment) (λ row at. absurd (none-some row (sym is ∙ at))))
  left_life (Some row) is = life_by row (is_same_life line row) refl is

-- those on other hosts than one that begins a new life
pub left_booted : (f : Farm) (line : BootLine) (moment alloc : ℕ) (o : Option ℕ) → Each (λ i s. IsLeft f.hosts (booted_at f.hosts line alloc moment o) f.slots s) (slots_at_boot f line o)
left_booted f line moment alloc None = left_all f.hosts (f.hosts ++ new_host line alloc moment ∷ []) f.slots (EachStays-append ServesRow serves_same f.hosts (new_host line alloc moment ∷ []))
left_booted f line moment alloc (Some host) = left_life f line moment host (slice_get f.hosts host) refl

-- those of other slots than the one that loses its own
pub left_ended : (hosts : List HostRow) (slots : List SlotRow) (slot : ℕ) (change : SlotRow → SlotRow) → ((s : SlotRow) → (change s).proc ≡ None) → Each (λ i s. IsLeft hosts hosts slots s) (changed_at slots slot change)
left_ended hosts slots slot change none =
    changed_at_each (λ i s. IsLeft hosts hosts slots s) slots slot change (λ s at. inl (none s)) (λ i s apart at. left_all hosts hosts slots (hosts_serve hosts) i s at)

unframed_none : (place version : ℕ) (frame : Option Frame) (proc : Option ProcRow) → is_none frame ≡ true → HasItsAttempt place version frame proc → proc ≡ None
unframed_none place version None None free has = refl
unframed_none place version None (Some p) free has = absurd has
unframed_none place version (Some x) proc free has = absurd (false≢true free)

-- all, where frames come into slots that have none
pub left_placed : (f : Farm) (xs : List Frame) → list_all waits xs ≡ true → IsSound f → Each (λ i s. IsLeft f.hosts f.hosts f.slots s) (place_frames f.slots xs)
left_placed f xs all ok =
    placed_each (λ i s. IsLeft f.hosts f.hosts f.slots s) f.slots xs all (left_all f.hosts f.hosts f.slots (hosts_serve f.hosts))
    (λ i s x at free w. inl (unframed_none i s.version s.frame s.proc (free_none s free) (ok.attempts i s at)))
    (λ i x past w. inl refl)

-- ---- layers

-- a layer that is found is found before those that come
pub layers_more : (layers more : List LayerRow) → LayersStay layers (layers ++ more)
layers_more layers more job place l at =
    let wanted = λ (x : LayerRow). eqb x.job job && eqb x.place place in
    find-append wanted layers more ∙ ap (λ (o : Option LayerRow). option_or o (find wanted more)) at
