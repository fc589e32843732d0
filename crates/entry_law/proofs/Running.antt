-- What live attempts use is what the running frames that words show use.
use Rattle.std.proofs.Common.{◌≡◌, ℕ, zero, suc, ◌+◌, ◌≤◌, Bool, true, false, cond, not, ◌&&◌, eqb, leb, List, [], ◌∷◌, length, Option, Some, None, refl, sym, ap, ◌∙◌, ◌⊎◌, inl, inr, arith}
use Rattle.std.specs.List.{find, slice_get, sum_by}
use Rattle.std.specs.Prelude.{is_some}
use Rattle.std.proofs.lemmas.Bool.{eq-eqb, eqb-true, false≢true, ne_eqb}
use Rattle.std.proofs.lemmas.List.Sums.{sum_by-cons}
use Rattle.std.proofs.lemmas.Option.{same_Some}
use Rattle.booking_rule.specs.Link.{host_alloc, host_where, limit_code, phase_of, slot_stand, stand_at}
use Rattle.booking_rule.specs.Recorded.{Stand}
use Rattle.booking_rule.specs.Rule.{is_booked}
use Rattle.booking_rule.specs.Totals.{sum_to}
use Rattle.booking_rule.proofs.Sums.{sum_to-same, sum_to-zero}
use Rattle.farm_types.specs.declared.attempt.ProcRow.{ProcRow}
use Rattle.farm_types.specs.declared.limits.TheConstants.{LAST_VERSION, MOST_RETRIES}
use Rattle.farm_types.specs.declared.rows.JobRow.{JobRow}
use Rattle.farm_types.specs.declared.rows.LayerRow.{LayerRow}
use Rattle.farm_types.specs.declared.slot_row.Frame.{Frame}
use Rattle.farm_types.specs.declared.slot_row.SlotRow.{SlotRow}
use Rattle.farm_types.specs.declared.states.FrameState.{FrameState}
use Rattle.farm_types.specs.declared.states.FrameState.TheVariants as frame_state
use Rattle.farm_types.specs.Farm.{Farm, for_any, for_some, layer_in, sub_of}
use Rattle.farm_types.specs.Kept.{KeepsRows, for_both, has_amounts, has_sub, is_kept_frame, is_kept_slot, is_setup}
use Rattle.farm_types.specs.Run.{HasItsAttempt, IsAttemptOf}
use Rattle.farm_types.specs.Sums.{booked_in, cores_in, cores_on, has_limit, memory_on, running_in, runs_under, used_cores, used_memory}
use Rattle.farm_types.proofs.Lists.{and_both, for_some_true, list_all-at}
use Rattle.entry_law.proofs.FrameRows.{FrameRows, frame_rows}
use Rattle.entry_law.proofs.HostRows.{alloc_is}
use Rattle.entry_law.proofs.Stands.{stand_is, stand_made, the_stand}

-- ---- a list's sum, by its places

abbrev at_place : (SlotRow → ℕ) → Option SlotRow → ℕ
at_place weight None = 0
at_place weight (Some s) = weight s

sum_first : (n : ℕ) (g : ℕ → ℕ) → sum_to (suc n) g ≡ g 0 + sum_to n (λ k. g (suc k))
unfolding sum_to
sum_first zero g = omega arith
sum_first (suc n) g = let r = sum_first n g in omega arith

sum_nothing : (n : ℕ) (g : ℕ → ℕ) → ((k : ℕ) → g k ≡ 0) → sum_to n g ≡ 0
sum_nothing n g none = sum_to-same n (λ k. 0) g (λ k lt. none k) ∙ sum_to-zero n

pub sum_places : (weight : SlotRow → ℕ) (slots : List SlotRow) (n : ℕ) (g : ℕ → ℕ) → length slots ≤ n
    → ((k : ℕ) → g k ≡ at_place weight (slice_get slots k)) → sum_by weight slots ≡ sum_to n g
sum_places weight [] n g within each = sym (sum_nothing n g each)
sum_places weight (s ∷ ss) zero g within each = absurd (omega (arith, within))
sum_places weight (s ∷ ss) (suc n) g within each =
    let rest = sum_places weight ss n (λ k. g (suc k)) (omega (arith, within)) (λ k. each (suc k)) in
    let first = each 0 in
    omega (arith, sum_by-cons weight s ss, sum_first n g, rest, first)

-- ---- one slot

-- no attempt, and the frame isn't booked
record IsIdle (f : Farm) (n : ℕ) (s : SlotRow) : Type 0 where
  none : s.proc ≡ None
  rests : is_booked (stand_at f n).phase ≡ false

-- an attempt, whose amounts, host and subscription the stand shows
record IsBusy (f : Farm) (n : ℕ) (s : SlotRow) : Type 0 where
  proc : ProcRow
  frame : Frame
  rows : FrameRows f frame.job frame.layer
  proc_is : s.proc ≡ Some proc
  frame_is : s.frame ≡ Some frame
  shows : stand_at f n ≡ record { phase = 4; version = s.version; host = proc.host; cores = proc.cores; show = rows.job_row.show; limit = limit_code rows.layer_row.limit; memory = proc.memory }
  bills : proc.sub ≡ sub_of rows.job_row.show (host_alloc f proc.host)

module _ (f : Farm) (kept : KeepsRows f) (n : ℕ) (s : SlotRow) (at : slice_get f.slots n ≡ Some s) where
  free_idle : s.frame ≡ None → HasItsAttempt n s.version None s.proc → IsIdle f n s
  free_idle is has =
      let phase : (slot_stand f (Some s)).phase ≡ 0 = rw is refl in
      record {
        none = no_attempt s.proc has;
        rests = ap is_booked (ap (λ (t : Stand). t.phase) (stand_made f n) ∙ (ap (λ (o : Option SlotRow). (slot_stand f o).phase) at ∙ phase));
      }
    where
      no_attempt : (o : Option ProcRow) → HasItsAttempt n s.version None o → o ≡ None
      no_attempt None has = refl
      no_attempt (Some p) has = absurd has

  module _ (x : Frame) (is : s.frame ≡ Some x) where
    rows_there : FrameRows f x.job x.layer
    rows_there = frame_rows f kept n s x at is

    stand_there : stand_at f n ≡ the_stand s x rows_there.job_row.show rows_there.layer_row
    stand_there = stand_is f n s x rows_there.job_row rows_there.layer_row at is rows_there.job_is rows_there.layer_is

    not_setup : is_setup x.state ≡ true → ⊥
    not_setup h =
        let slot_kept = list_all-at (is_kept_slot f.layers) f.slots n s kept.jobs.slots_kept at in
        let frame_kept : is_kept_frame f.layers x ≡ true =
        ap (λ (o : Option Frame). for_any o (is_kept_frame f.layers)) (sym is)
        ∙ (and_both (leb s.version LAST_VERSION) (for_any s.frame (is_kept_frame f.layers)) slot_kept).1 in
        let last = (and_both (leb x.retries MOST_RETRIES) (not (is_setup x.state)) (and_both _ _ frame_kept).1).1 in
        false≢true (ap not (sym h) ∙ last)

    idle : s.proc ≡ None → is_booked (phase_of x.state) ≡ false → IsIdle f n s
    idle none rests = record { none = none; rests = ap (λ (t : Stand). is_booked t.phase) stand_there ∙ rests }

    busy : (p : ProcRow) → s.proc ≡ Some p → x.state ≡ frame_state.Running → IsBusy f n s
    busy p has runs =
        let both = λ (test : Frame → ProcRow → Bool) (all : for_both s test ≡ true).
        ap (λ (o : Option Frame). for_any o (λ y. for_any s.proc (test y))) (sym is) ∙ all in
        let measured : has_amounts f.layers x p ≡ true =
        ap (λ (o : Option ProcRow). for_any o (has_amounts f.layers x)) (sym has)
        ∙ both (has_amounts f.layers) (list_all-at (λ (t : SlotRow). for_both t (has_amounts f.layers)) f.slots n s kept.attempts.measured at) in
        let billed : has_sub f.jobs f.hosts x p ≡ true =
        ap (λ (o : Option ProcRow). for_any o (has_sub f.jobs f.hosts x)) (sym has)
        ∙ both (has_sub f.jobs f.hosts) (list_all-at (λ (t : SlotRow). for_both t (has_sub f.jobs f.hosts)) f.slots n s kept.attempts.billed at) in
        let l = for_some_true (layer_in f.layers x.job x.layer) _ measured in
        let amounts = and_both (eqb p.cores l.0.cores) (eqb p.memory l.0.memory) l.2 in
        let same_layer : l.0 ≡ rows_there.layer_row = same_Some l.0 rows_there.layer_row (sym l.1 ∙ rows_there.layer_is) in
        let cores : rows_there.layer_row.cores ≡ p.cores = ap (λ (k : LayerRow). k.cores) (sym same_layer) ∙ sym (eqb-true p.cores l.0.cores amounts.0) in
        let memory : rows_there.layer_row.memory ≡ p.memory = ap (λ (k : LayerRow). k.memory) (sym same_layer) ∙ sym (eqb-true p.memory l.0.memory amounts.1) in
        let j = for_some_true (find (λ (k : JobRow). eqb k.job x.job) f.jobs) _ billed in
        let on = for_some_true (slice_get f.hosts p.host) _ j.2 in
        let same_job : j.0 ≡ rows_there.job_row = same_Some j.0 rows_there.job_row (sym j.1 ∙ rows_there.job_is) in
        let sub = eqb-true p.sub (sub_of j.0.show on.0.alloc) on.2 in
        let host : host_where x.state s.proc ≡ p.host = ap (λ (state : FrameState). host_where state s.proc) runs ∙ ap (host_where frame_state.Running) has in
        let phase : phase_of x.state ≡ 4 = ap phase_of runs in
        let exact : the_stand s x rows_there.job_row.show rows_there.layer_row
        ≡ record { phase = 4; version = s.version; host = p.host; cores = p.cores; show = rows_there.job_row.show; limit = limit_code rows_there.layer_row.limit; memory = p.memory } =
        λ i. record {
          phase = phase i;
          version = s.version;
          host = host i;
          cores = cores i;
          show = rows_there.job_row.show;
          limit = limit_code rows_there.layer_row.limit;
          memory = memory i;
        } in
        record {
          proc = p;
          frame = x;
          rows = rows_there;
          proc_is = has;
          frame_is = is;
          shows = stand_there ∙ exact;
          bills = sub ∙ (ap (λ (k : JobRow). sub_of k.show on.0.alloc) same_job ∙ ap (sub_of rows_there.job_row.show) (sym (alloc_is f p.host on.0 on.1)));
        }

    by_state : (state : FrameState) (o : Option ProcRow) → x.state ≡ state → s.proc ≡ o → IsAttemptOf n s.version state o → IsIdle f n s ⊎ IsBusy f n s
    by_state frame_state.Running None state proc has = absurd has
    by_state frame_state.Running (Some p) state proc has = inr (busy p proc state)
    by_state frame_state.Setup o state proc has = absurd (not_setup (ap is_setup state))
    by_state frame_state.Waiting None state proc has = inl (idle proc (ap (λ (t : FrameState). is_booked (phase_of t)) state))
    by_state frame_state.Depend None state proc has = inl (idle proc (ap (λ (t : FrameState). is_booked (phase_of t)) state))
    by_state frame_state.Succeeded None state proc has = inl (idle proc (ap (λ (t : FrameState). is_booked (phase_of t)) state))
    by_state frame_state.Dead None state proc has = inl (idle proc (ap (λ (t : FrameState). is_booked (phase_of t)) state))
    by_state frame_state.Eaten None state proc has = inl (idle proc (ap (λ (t : FrameState). is_booked (phase_of t)) state))
    by_state frame_state.Waiting (Some p) state proc has = absurd has
    by_state frame_state.Depend (Some p) state proc has = absurd has
    by_state frame_state.Succeeded (Some p) state proc has = absurd has
    by_state frame_state.Dead (Some p) state proc has = absurd has
    by_state frame_state.Eaten (Some p) state proc has = absurd has

  by_frame : (frame : Option Frame) → s.frame ≡ frame → HasItsAttempt n s.version frame s.proc → IsIdle f n s ⊎ IsBusy f n s
  by_frame None is has = inl (free_idle is has)
  by_frame (Some x) is has = by_state x is x.state s.proc refl refl has

  either : IsIdle f n s ⊎ IsBusy f n s
  either = by_frame s.frame refl (kept.sound.attempts n s at)

-- ---- what words show of one slot

abbrev pub shown : (Stand → Bool) → (Stand → ℕ) → Stand → ℕ
shown test amount s = cond (is_booked s.phase && test s) (amount s) 0

shown_idle : (test : Stand → Bool) (amount : Stand → ℕ) (s : Stand) → is_booked s.phase ≡ false → shown test amount s ≡ 0
shown_idle test amount s rests = ap (λ (b : Bool). cond (b && test s) (amount s) 0) rests

module _ (f : Farm) (kept : KeepsRows f) (test : Stand → Bool) (amount : Stand → ℕ) (weight : SlotRow → ℕ)
    (none : (s : SlotRow) → s.proc ≡ None → weight s ≡ 0)
    (some : (n : ℕ) (s : SlotRow) (held : IsBusy f n s) → shown test amount (stand_at f n) ≡ weight s) where
  shown_by : (n : ℕ) (s : SlotRow) → IsIdle f n s ⊎ IsBusy f n s → shown test amount (stand_at f n) ≡ weight s
  shown_by n s (inl idle) = shown_idle test amount (stand_at f n) idle.rests ∙ sym (none s idle.none)
  shown_by n s (inr held) = some n s held

  shown_at : (n : ℕ) (o : Option SlotRow) → slice_get f.slots n ≡ o → shown test amount (stand_at f n) ≡ at_place weight o
  shown_at n None at = ap (shown test amount) (stand_made f n ∙ ap (slot_stand f) at)
  shown_at n (Some s) at = shown_by n s (either f kept n s at)

  sum_shown : sum_by weight f.slots ≡ sum_to 65536 (λ n. shown test amount (stand_at f n))
  sum_shown =
      let within : length f.slots ≤ 65536 = kept.jobs.slot_count in
      sum_places weight f.slots 65536 (λ n. shown test amount (stand_at f n)) within (λ n. shown_at n (slice_get f.slots n) refl)

-- ---- each sum

limit_same : (o : Option ℕ) (limit : ℕ) → eqb (limit_code o) (limit + 1) ≡ for_some o (λ n. eqb n limit)
limit_same None limit = ne_eqb 0 (limit + 1) (λ e. omega (arith, e))
limit_same (Some n) limit = by_same (eqb n limit) refl
  where
    by_same : (b : Bool) → eqb n limit ≡ b → eqb (n + 1) (limit + 1) ≡ b
    by_same true is = let same = eqb-true n limit is in eq-eqb (n + 1) (limit + 1) (omega (arith, same))
    by_same false is = ne_eqb (n + 1) (limit + 1) (λ e. false≢true (sym is ∙ eq-eqb n limit (omega (arith, e))))

module _ (f : Farm) (kept : KeepsRows f) where
  pub cores_used : (host : ℕ) → used_cores f host ≡ sum_to 65536 (λ n. shown (λ s. eqb s.host host) (λ s. s.cores) (stand_at f n))
  cores_used host =
      sum_shown f kept (λ s. eqb s.host host) (λ s. s.cores) (λ (s : SlotRow). cores_on host s.proc) (λ s none. ap (cores_on host) none)
      (λ n s held. ap (shown (λ t. eqb t.host host) (λ t. t.cores)) held.shows ∙ ap (cores_on host) (sym held.proc_is))

  pub memory_used : (host : ℕ) → used_memory f host ≡ sum_to 65536 (λ n. shown (λ s. eqb s.host host) (λ s. s.memory) (stand_at f n))
  memory_used host =
      sum_shown f kept (λ s. eqb s.host host) (λ s. s.memory) (λ (s : SlotRow). memory_on host s.proc) (λ s none. ap (memory_on host) none)
      (λ n s held. ap (shown (λ t. eqb t.host host) (λ t. t.memory)) held.shows ∙ ap (memory_on host) (sym held.proc_is))

  pub cores_booked : (sub : ℕ) → booked_in f sub ≡ sum_to 65536 (λ n. shown (λ s. eqb (sub_of s.show (host_alloc f s.host)) sub) (λ s. s.cores) (stand_at f n))
  cores_booked sub =
      sum_shown f kept (λ s. eqb (sub_of s.show (host_alloc f s.host)) sub) (λ s. s.cores) (λ (s : SlotRow). cores_in sub s.proc) (λ s none. ap (cores_in sub) none)
      (λ n s held.
      ap (shown (λ t. eqb (sub_of t.show (host_alloc f t.host)) sub) (λ t. t.cores)) held.shows
      ∙ (ap (λ (k : ℕ). cond (eqb k sub) held.proc.cores 0) (sym held.bills) ∙ ap (cores_in sub) (sym held.proc_is)))

  pub frames_counted : (limit : ℕ) → running_in f limit ≡ sum_to 65536 (λ n. shown (λ s. eqb s.limit (limit + 1)) (λ s. 1) (stand_at f n))
  frames_counted limit =
      sum_shown f kept (λ s. eqb s.limit (limit + 1)) (λ s. 1) (λ (s : SlotRow). cond (runs_under f.layers limit s) 1 0)
      (λ s none. ap (λ (o : Option ProcRow). cond (is_some o && under_limit limit s) 1 0) none)
      (λ n s held.
      let same = limit_same held.rows.layer_row.limit limit in
      ap (shown (λ t. eqb t.limit (limit + 1)) (λ t. 1)) held.shows
      ∙ (ap (λ (b : Bool). cond b 1 0) same ∙ sym (under s held)))
    where
      under_limit : ℕ → SlotRow → Bool
      under_limit limit s = for_some s.frame (λ x. for_some (layer_in f.layers x.job x.layer) (has_limit limit))

      under : {n : ℕ} (s : SlotRow) (b : IsBusy f n s) → ◌≡◌ {A = ℕ} (cond (runs_under f.layers limit s) 1 0) (cond (has_limit limit b.rows.layer_row) 1 0)
      under s b = rw b.proc_is (rw b.frame_is (rw b.rows.layer_is refl))
