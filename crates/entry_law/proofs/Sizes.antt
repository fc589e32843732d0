-- A host's size changes only as a new life of it boots, and then no frame runs on it.
use Rattle.std.proofs.Common.{◌≡◌, ℕ, Bool, true, false, cond, eqb, List, Option, Some, None, refl, sym, ap, subst, ◌∙◌, ◌⊎◌, inl, inr, option_map}
use Rattle.std.specs.List.{slice_get}
use Rattle.std.specs.Prelude.{is_some}
use Rattle.std.proofs.lemmas.Bool.{eq-eqb, false≢true, true≢false}
use Rattle.std.proofs.lemmas.Option.{none-some, same_Some, slice_get-map}
use Rattle.booking_rule.specs.Link.{host_cores, host_memory, host_where, of_host, stand_at}
use Rattle.booking_rule.specs.Recorded.{Stand}
use Rattle.farm_types.specs.declared.attempt.ProcRow.{ProcRow}
use Rattle.farm_types.specs.declared.boot.BootLine.{BootLine}
use Rattle.farm_types.specs.declared.entry.Act.{Act}
use Rattle.farm_types.specs.declared.entry.Act.TheVariants.{Boot}
use Rattle.farm_types.specs.declared.entry.Entry.{Entry}
use Rattle.farm_types.specs.declared.rows.HostRow.{HostRow}
use Rattle.farm_types.specs.declared.rows.LimitRow.{LimitRow}
use Rattle.farm_types.specs.declared.slot_row.Frame.{Frame}
use Rattle.farm_types.specs.declared.slot_row.SlotRow.{SlotRow}
use Rattle.farm_types.specs.declared.states.FrameState.{FrameState}
use Rattle.farm_types.specs.declared.states.FrameState.TheVariants as frame_state
use Rattle.farm_types.specs.DependActs.{is_running}
use Rattle.farm_types.specs.Farm.{Farm, for_some, host_named, sub_at}
use Rattle.farm_types.specs.Kept.{IsKeptFarm, KeepsRows}
use Rattle.farm_types.specs.Lost.{lose_on, lost_row, runs_on}
use Rattle.farm_types.specs.Run.{HasItsAttempt, IsAttemptOf, IsLegalStep}
use Rattle.farm_types.specs.Step.{acted, after, closed, followed}
use Rattle.depend_law.proofs.KeptRuns.{kept_step}
use Rattle.entry_law.proofs.FrameRows.{frame_rows}
use Rattle.entry_law.proofs.RowsGrow.{Boots, HasSize, entry_grows}
use Rattle.entry_law.proofs.Stands.{running_frame, stand_is}

-- ---- sizes

cores_is : (f : Farm) (host : ℕ) (row : HostRow) → slice_get f.hosts host ≡ Some row → host_cores f host ≡ row.cores
unfolding host_cores
cores_is f host row at = ap (of_host (λ r. r.cores)) at

memory_is : (f : Farm) (host : ℕ) (row : HostRow) → slice_get f.hosts host ≡ Some row → host_memory f host ≡ row.memory
unfolding host_memory
memory_is f host row at = ap (of_host (λ r. r.memory)) at

-- ---- a frame that runs

state_attempt : (place version : ℕ) (state : FrameState) (proc : Option ProcRow) → is_running state ≡ true → IsAttemptOf place version state proc
    → (p : ProcRow) × (proc ≡ Some p) × (host_where state proc ≡ p.host)
state_attempt place version frame_state.Running None h has = absurd has
state_attempt place version frame_state.Running (Some p) h has = (p, refl, refl)
state_attempt place version frame_state.Waiting proc h has = absurd (false≢true h)
state_attempt place version frame_state.Depend proc h has = absurd (false≢true h)
state_attempt place version frame_state.Setup proc h has = absurd (false≢true h)
state_attempt place version frame_state.Succeeded proc h has = absurd (false≢true h)
state_attempt place version frame_state.Dead proc h has = absurd (false≢true h)
state_attempt place version frame_state.Eaten proc h has = absurd (false≢true h)

-- the attempt of a slot whose frame runs, on the host that words show
pub record Runs (f : Farm) (n : ℕ) : Type 0 where
  pub row : SlotRow
  pub proc : ProcRow
  pub at : slice_get f.slots n ≡ Some row
  pub is : row.proc ≡ Some proc
  pub host : (stand_at f n).host ≡ proc.host

pub runs_at : (f : Farm) (n : ℕ) → KeepsRows f → (stand_at f n).phase ≡ 4 → Runs f n
runs_at f n rows phase =
    let found = running_frame f n phase in
    let h = found.0 in
    let has : IsAttemptOf n h.row.version h.frame.state h.row.proc =
    subst (λ (o : Option Frame). HasItsAttempt n h.row.version o h.row.proc) h.is (rows.sound.attempts n h.row h.at) in
    let p = state_attempt n h.row.version h.frame.state h.row.proc found.1 has in
    let r = frame_rows f rows n h.row h.frame h.at h.is in
    let stand = stand_is f n h.row h.frame r.job_row r.layer_row h.at h.is r.job_is r.layer_is in
    record { row = h.row; proc = p.0; at = h.at; is = p.1; host = ap (λ (s : Stand). s.host) stand ∙ p.2 }

-- ---- hosts whose attempts are lost

lost_by : (host : ℕ) (p : ProcRow) (s : SlotRow) (b : Bool) → runs_on (λ n. eqb n host) s ≡ b → (cond b (lost_row s) s).proc ≡ Some p → p.host ≡ host → ⊥
lost_by host p s true is has on = none-some p has
lost_by host p s false is has on =
    let there : runs_on (λ n. eqb n host) s ≡ true = ap (λ (o : Option ProcRow). for_some o (λ (q : ProcRow). eqb q.host host)) has ∙ eq-eqb p.host host on in
    true≢false (sym there ∙ is)

lost_row_at : (host n : ℕ) (s : SlotRow) (p : ProcRow) (o : Option SlotRow)
    → option_map (λ (t : SlotRow). cond (runs_on (λ n. eqb n host) t) (lost_row t) t) o ≡ Some s → s.proc ≡ Some p → p.host ≡ host → ⊥
lost_row_at host n s p None at has on = none-some s at
lost_row_at host n s p (Some t) at has on =
    lost_by host p t (runs_on (λ n. eqb n host) t) refl
    (ap (λ (x : SlotRow). x.proc) (same_Some (cond (runs_on (λ n. eqb n host) t) (lost_row t) t) s at) ∙ has) on

none_on : (host n : ℕ) (slots : List SlotRow) (s : SlotRow) (p : ProcRow) → slice_get (lose_on (λ k. eqb k host) slots) n ≡ Some s → s.proc ≡ Some p
    → p.host ≡ host → ⊥
none_on host n slots s p at has on =
    lost_row_at host n s p (slice_get slots n) (sym (slice_get-map (λ (t : SlotRow). cond (runs_on (λ k. eqb k host) t) (lost_row t) t) slots n) ∙ at) has on

-- ---- an entry

module _ (f : Farm) (e : Entry) (host : ℕ) (k : IsKeptFarm f) (legal : IsLegalStep f e) where
  abbrev now : Farm
  now = after f e

  abbrev Reboots : Type 0
  Reboots = (line : BootLine) × (e.act ≡ Boot line) × (host_named f line.host ≡ Some host) × ((n : ℕ) → (stand_at now n).phase ≡ 4 → (stand_at now n).host ≡ host → ⊥)

  boots : (line : BootLine) → e.act ≡ Boot line → Boots ⊥ host f line (acted f e).slots → Reboots
  boots line is booted =
      let same : now.slots ≡ (acted f e).slots = ap (λ (act : Act). (closed act (followed act (acted f e))).slots) is in (
        line,
        is,
        booted.0,
        λ n phase on.
            let r = runs_at now n (kept_step f e legal k).rows phase in
            none_on host n booted.1.0 r.row r.proc (ap (λ (slots : List SlotRow). slice_get slots n) (sym (same ∙ booted.1.1)) ∙ r.at) r.is (sym r.host ∙ on),
      )

  size_by : (row : HostRow) → slice_get f.hosts host ≡ Some row → HasSize row now.hosts host ⊎ Reboots
      → ((host_cores now host ≡ host_cores f host) × (host_memory now host ≡ host_memory f host)) ⊎ Reboots
  size_by row at (inl size) =
      inl (
        cores_is now host size.0 size.1 ∙ (size.2 ∙ sym (cores_is f host row at)),
        memory_is now host size.0 size.1 ∙ (size.3 ∙ sym (memory_is f host row at)),
      )
  size_by row at (inr reboots) = inr reboots

  pub sizes : (row : HostRow) → slice_get f.hosts host ≡ Some row
      → ((host_cores now host ≡ host_cores f host) × (host_memory now host ≡ host_memory f host)) ⊎ Reboots
  sizes row at = size_by row at ((entry_grows Reboots host f e boots).size row at)

-- subscriptions and limits stay there
pub subs_there : (f : Farm) (e : Entry) (sub : ℕ) → is_some (sub_at f sub) ≡ true → is_some (sub_at (after f e) sub) ≡ true
subs_there f e sub there = (entry_grows (Unit {0}) 0 f e (λ line is booted. tt)).subs sub there

pub limits_there : (f : Farm) (e : Entry) (limit : ℕ) (row : LimitRow) → slice_get f.limits limit ≡ Some row
    → (now : LimitRow) × (slice_get (after f e).limits limit ≡ Some now)
limits_there f e limit row at = let now = (entry_grows (Unit {0}) 0 f e (λ line is booted. tt)).limits limit row at in (now.0, now.1)
