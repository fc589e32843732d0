-- A report that is no more than a word of its host: the host's life is the only row.
use Rattle.std.proofs.Common.{◌≡◌, ℕ, ◌<◌, List, [], ◌∷◌, length, Option, Some, None, refl, sym, ap, subst, ◌∙◌, arith, map, nat_eq, option_map}
use Rattle.std.specs.Prelude.{Result, Ok, Err, All, IfOk}
use Rattle.std.specs.List.{IsDistinct, slice_get}
use Rattle.std.proofs.lemmas.List.Elements.{All-cons, All-nil}
use Rattle.std.proofs.lemmas.Option.{none-some, same_Some, slice_get_within}
use Rattle.farm_types.specs.declared.attempt.DoneItem.{DoneItem}
use Rattle.farm_types.specs.declared.entry.HeardAct.{HeardAct}
use Rattle.farm_types.specs.declared.rows.HostRow.{HostRow}
use Rattle.farm_types.specs.declared.states.HostState.TheVariants as host_state
use Rattle.farm_types.specs.Farm.{Farm, changed_at, changed_by}
use Rattle.farm_types.specs.Hosts.{count_unheard, heard_row}
use Rattle.farm_types.specs.Step.{at_moment, end_all, expire}
use Rattle.farm_types.proofs.ChangedLists.{changed_at_alike}
use Rattle.farm_types.proofs.Passes.{option_map-from}
use Rattle.host_book.specs.Life.{life_of, with_life}
use Rattle.host_book.specs.declared.life.HostLife.{HostLife}
use Rattle.farm_draft.specs.Rows.{AreInstallable, AreReady, Stood, installed, put_lives, put_slots, slot_of}
use Rattle.farm_draft.specs.declared.slot_change.SlotChange.{SlotChange}
use Rattle.farm_draft.specs.declared.rows.Rows.{Rows}
use Rattle.farm_draft.proofs.Expired.{expire_none}
use Rattle.farm_changes.specs.RowsOf.{heard_farm}
use Rattle.farm_changes.proofs.MadeChanges.{none_distinct}

-- ---- what such a report does

none_done : (f : Farm) (host boot : ℕ) (done : List DoneItem) → length done ≡ 0 → end_all f host boot done ≡ f
none_done f host boot [] none = refl
none_done f host boot (d ∷ ds) none = absurd (omega (arith, none))

-- where nothing completes and no host is silent, the host is heard and all else stays
pub heard_alone : (f : Farm) (moment host : ℕ) (act : HeardAct) → length act.done ≡ 0 → count_unheard moment f.hosts ≡ 0
    → record (at_moment f moment) { hosts = changed_at f.hosts host (heard_row act.seq moment) } ≡ heard_farm (expire (at_moment f moment) moment) host moment act
heard_alone f moment host act none quiet =
    let g = at_moment f moment in
    sym (ap (λ (h : Farm). heard_farm h host moment act) (expire_none g moment quiet)
    ∙ none_done (record g { hosts = changed_at f.hosts host (heard_row act.seq moment) }) host act.boot act.done none)

-- ---- its row

-- what holds where a call answered and two facts of its answer hold
pub both_ok : {X E : Type 0} (r : Result X E) (P Q R : X → Type 0) → ((x : X) → P x → Q x → R x) → IfOk r P → IfOk r Q → IfOk r R
both_ok (Ok x) P Q R from p q = from x p q
both_ok (Err e) P Q R from p q = tt

-- rows of hosts alone
lives_installed : (g : Farm) (rows : Rows) (lives : List (ℕ × HostLife)) → rows.hosts.items ≡ lives → rows.slots.items ≡ [] → installed g rows ≡ record g { hosts = put_lives g.hosts lives }
lives_installed g rows lives hosts slots =
    ap (λ (es : List (ℕ × HostLife)). record g { hosts = put_lives g.hosts es; slots = put_slots g.slots rows.slots.items }) hosts
    ∙ ap (λ (es : List SlotChange). record g { hosts = put_lives g.hosts lives; slots = put_slots g.slots es }) slots

-- the life of a host that was heard
abbrev pub heard_of : ℕ → ℕ → HostLife → HostLife
heard_of seq moment old = record { state = host_state.Up; heard = moment; seq = seq; lock = old.lock }

nothing_from : (o : Option HostRow) → option_map life_of o ≡ None → o ≡ None
nothing_from None at = refl
nothing_from (Some row) at = absurd (none-some (life_of row) (sym at))

module _ (f : Farm) (moment host seq : ℕ) (rows : Rows) where
  -- no row for a host that isn't there
  pub none_heard : option_map life_of (slice_get f.hosts host) ≡ None → rows.hosts.items ≡ [] → rows.slots.items ≡ []
      → installed (at_moment f moment) rows ≡ record (at_moment f moment) { hosts = changed_at f.hosts host (heard_row seq moment) }
  none_heard at hosts slots =
      let g = at_moment f moment in
      lives_installed g rows [] hosts slots
      ∙ ap (λ (hs : List HostRow). record g { hosts = hs }) (sym (ap (changed_by f.hosts host (heard_row seq moment)) (nothing_from (slice_get f.hosts host) at)))

  module _ (old life : HostLife) (at : option_map life_of (slice_get f.hosts host) ≡ Some old) (hosts : rows.hosts.items ≡ (host, life) ∷ []) (slots : rows.slots.items ≡ []) where
    heard_at : (row : HostRow) → slice_get f.hosts host ≡ Some row → with_life (heard_of seq moment old) row ≡ heard_row seq moment row
    heard_at row here =
        let same : life_of row ≡ old = same_Some (life_of row) old (sym (ap (option_map life_of) here) ∙ at) in
        ap (λ (l : HostLife). with_life (heard_of seq moment l) row) (sym same)

    -- the life of a host that is there
    pub life_heard : life ≡ heard_of seq moment old → installed (at_moment f moment) rows ≡ record (at_moment f moment) { hosts = changed_at f.hosts host (heard_row seq moment) }
    life_heard is =
        let g = at_moment f moment in
        lives_installed g rows ((host, life) ∷ []) hosts slots
        ∙ (ap (λ (l : HostLife). record g { hosts = changed_at f.hosts host (with_life l) }) is
        ∙ ap (λ (hs : List HostRow). record g { hosts = hs }) (changed_at_alike f.hosts host (with_life (heard_of seq moment old)) (heard_row seq moment) heard_at))

    -- the host of the entry is there
    abbrev IsHere : ℕ × HostLife → Type 0
    IsHere e = e.0 < length f.hosts

    pub life_ready : AreReady f rows
    life_ready =
        let row = option_map-from life_of (slice_get f.hosts host) old at in
        let there : host < length f.hosts = slice_get_within f.hosts host row.0 row.1 in
        record {
          hosts_there = subst (λ (es : List (ℕ × HostLife)). All IsHere es) (sym hosts) (All-cons IsHere (host, life) [] there (All-nil IsHere));
          slots_ready = subst (λ (es : List SlotChange). AreInstallable f.subs f.slots es) (sym slots) tt;
          slots_stood = subst (All (Stood f.slots)) (sym slots) (All-nil (Stood f.slots));
          slots_differ = subst (λ (es : List SlotChange). IsDistinct nat_eq (map slot_of es)) (sym slots) none_distinct;
        }
