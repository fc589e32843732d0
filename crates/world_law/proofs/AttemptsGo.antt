-- Along legal entries an attempt that is over stays so, and one that is live was live before, or its slot's version has risen.
use Rattle.std.proofs.Common.{◌≡◌, ◌≤◌, ◌<◌, ◌+◌, ℕ, true, List, [], ◌∷◌, length, Option, None, Some, refl, sym, ap, subst, ◌∙◌, ◌⊎◌, inl, inr, arith}
use Rattle.std.specs.List.{slice_get}
use Rattle.std.specs.Prelude.{option_and_then}
use Rattle.std.proofs.lemmas.Option.{none-some, slice_get_within}
use Rattle.booking_rule.specs.Link.{stand_at}
use Rattle.booking_rule.specs.Recorded.{Stand}
use Rattle.farm_types.specs.declared.attempt.Attempt.{Attempt}
use Rattle.farm_types.specs.declared.attempt.ProcRow.{ProcRow}
use Rattle.farm_types.specs.declared.entry.Entry.{Entry}
use Rattle.farm_types.specs.declared.slot_row.Frame.{Frame}
use Rattle.farm_types.specs.declared.slot_row.SlotRow.{SlotRow}
use Rattle.farm_types.specs.Booking.{version_at, version_of}
use Rattle.farm_types.specs.DependActs.{is_running}
use Rattle.farm_types.specs.Farm.{Farm, host_named}
use Rattle.farm_types.specs.Kept.{IsKeptFarm}
use Rattle.farm_types.specs.Run.{HasItsAttempt, IsLegal, IsLegalStep, IsSound, live_at, run_of}
use Rattle.farm_types.specs.Step.{acted, after, followed}
use Rattle.farm_types.proofs.Lists.{slice_get_below}
use Rattle.farm_law.proofs.RunningFrames.{frame_runs}
use Rattle.farm_law.proofs.SafeRuns.{run_law}
use Rattle.farm_law.proofs.Spent.{spent_stays}
use Rattle.depend_law.proofs.KeptRuns.{kept_step}
use Rattle.depend_law.proofs.Turns.{on_frame, on_slot}
use Rattle.entry_law.proofs.ActsGo.{IsBookingOf}
use Rattle.entry_law.proofs.Alone.{books_alone}
use Rattle.entry_law.proofs.Closes.{Closes, act_closes}
use Rattle.entry_law.proofs.FollowsGo.{entry_at}
use Rattle.entry_law.proofs.Rising.{rows_rise}
use Rattle.entry_law.proofs.SlotGoes.{belongs, frame_belongs, slot_belongs}
use Rattle.entry_law.proofs.Stands.{version_is}
use Rattle.world_law.specs.Attempts.{IsOwn, IsSpent}
use Rattle.world_law.proofs.HostsGo.{HostsGo, named_later, run_goes}

-- ---- a live attempt

-- its slot, whose version it has, and its frame, which runs
pub record LiveAt (f : Farm) (n : ℕ) (p : ProcRow) : Type 0 where
  pub row : SlotRow
  pub at : slice_get f.slots n ≡ Some row
  pub is : row.proc ≡ Some p
  pub frame : Frame
  pub frame_is : row.frame ≡ Some frame
  pub runs : is_running frame.state ≡ true
  pub slot : p.slot ≡ n
  pub version : p.version ≡ row.version

live_row : (f : Farm) (n : ℕ) (p : ProcRow) (o : Option SlotRow) → IsSound f → slice_get f.slots n ≡ o → option_and_then (λ (s : SlotRow). s.proc) o ≡ Some p → LiveAt f n p
live_row f n p None ok at is = absurd (none-some p is)
live_row f n p (Some s) ok at is =
    let runs = frame_runs n s.version s.frame p (subst (λ (o : Option ProcRow). HasItsAttempt n s.version s.frame o) is (ok.attempts n s at)) in
    record { row = s; at = at; is = is; frame = runs.0; frame_is = runs.1; runs = runs.2; slot = runs.3; version = runs.4 }

pub live_is : (f : Farm) (n : ℕ) (p : ProcRow) → IsSound f → live_at f n ≡ Some p → LiveAt f n p
live_is f n p ok is = live_row f n p (slice_get f.slots n) ok refl is

-- ---- one entry

-- what is live later was live before, or is of a version above the slot's
abbrev pub LiveGoes : Farm → Farm → Type 0
LiveGoes f g = (n : ℕ) (p : ProcRow) → live_at g n ≡ Some p → (live_at f n ≡ Some p) ⊎ (version_at f n < p.version)

module _ (f : Farm) (e : Entry) (k : IsKeptFarm f) (legal : IsLegalStep f e) (n : ℕ) (p : ProcRow) (live : LiveAt (after f e) n p) where
  booked_above : IsBookingOf e.act n → version_at f n < p.version
  booked_above booked =
      let alone = books_alone f e n booked.0 legal booked.1 in
      let rose : (stand_at (after f e) n).version ≡ (stand_at f n).version + 1 = ap (λ (s : Stand). s.version) alone.booked in
      let old = version_is f n in
      let new = version_is (after f e) n in
      let row : version_of (slice_get (after f e).slots n) ≡ live.row.version = ap version_of live.at in
      omega (arith, rose, old, new, row, live.version)

  same_live : slice_get (after f e).slots n ≡ slice_get f.slots n → live_at f n ≡ Some p
  same_live same = ap (option_and_then (λ (s : SlotRow). s.proc)) (sym same ∙ live.at) ∙ live.is

  runs_now : on_slot is_running (slice_get (after f e).slots n) ≡ true
  runs_now = ap (on_slot is_running) live.at ∙ (ap (on_frame is_running) live.frame_is ∙ live.runs)

  mid_goes : slice_get (after f e).slots n ≡ slice_get (followed e.act (acted f e)).slots n
      → (slice_get (followed e.act (acted f e)).slots n ≡ slice_get f.slots n) ⊎ IsBookingOf e.act n → (live_at f n ≡ Some p) ⊎ (version_at f n < p.version)
  mid_goes spared (inl same) = inl (same_live (spared ∙ same))
  mid_goes spared (inr booked) = inr (booked_above booked)

  closes_goes : Closes (followed e.act (acted f e)) (after f e) n → (live_at f n ≡ Some p) ⊎ (version_at f n < p.version)
  closes_goes (inl spared) =
      mid_goes spared.row ((entry_at f e n k legal).runs (ap (on_slot is_running) (sym spared.row) ∙ runs_now))
  closes_goes (inr freed) =
      absurd (none-some (belongs live.frame) (sym freed.empty ∙ (ap slot_belongs live.at ∙ ap frame_belongs live.frame_is)))

  pub one_goes : (live_at f n ≡ Some p) ⊎ (version_at f n < p.version)
  one_goes = closes_goes (act_closes e.act (followed e.act (acted f e)) n)

pub step_lives : (f : Farm) (e : Entry) → IsKeptFarm f → IsLegalStep f e → LiveGoes f (after f e)
step_lives f e k legal n p is = one_goes f e k legal n p (live_is (after f e) n p (kept_step f e legal k).rows.sound is)

-- ---- a run

pub versions_go : (f : Farm) (es : List Entry) (n : ℕ) → IsKeptFarm f → IsLegal f es → version_at f n ≤ version_at (run_of f es) n
versions_go f [] n k legal = omega arith
versions_go f (e ∷ es) n k legal =
    let first = rows_rise f e n k legal.0 in
    let later = versions_go (after f e) es n (kept_step f e legal.0 k) legal.1 in
    omega (arith, first, later)

lives_then : (f g k : Farm) (n : ℕ) (p : ProcRow) → version_at f n ≤ version_at g n → LiveGoes f g → (live_at g n ≡ Some p) ⊎ (version_at g n < p.version)
    → (live_at f n ≡ Some p) ⊎ (version_at f n < p.version)
lives_then f g k n p rises first (inl is) = first n p is
lives_then f g k n p rises first (inr above) = inr (omega (arith, rises, above))

pub lives_go : (f : Farm) (es : List Entry) → IsKeptFarm f → IsLegal f es → LiveGoes f (run_of f es)
lives_go f [] k legal n p is = inl is
lives_go f (e ∷ es) k legal n p is =
    let now = after f e in
    lives_then f now (run_of now es) n p (rows_rise f e n k legal.0) (step_lives f e k legal.0) (lives_go now es (kept_step f e legal.0 k) legal.1 n p is)

-- ---- an attempt that is over, and one of a host

pub spent_later : (f : Farm) (es : List Entry) (a : Attempt) → IsLegal f es → IsSpent f a → IsSpent (run_of f es) a
spent_later f es a legal spent = spent_stays f (run_of f es) (run_law f es legal).rows.slots a spent

slot_later : (f : Farm) (es : List Entry) (slot : ℕ) → IsLegal f es → slot < length f.slots → slot < length (run_of f es).slots
slot_later f es slot legal below =
    let old = slice_get_below f.slots slot below in
    let new = (run_law f es legal).rows.slots slot old.0 old.1 in
    slice_get_within (run_of f es).slots slot new.0 new.1

own_here : (f g : Farm) (name : List ℕ) (a : Attempt) (p : ProcRow) → IsOwn f name a → HostsGo f g → p.version ≡ a.version
    → (live_at f a.slot ≡ Some p) ⊎ (version_at f a.slot < p.version) → host_named g name ≡ Some p.host
own_here f g name a p own goes version (inl is) = named_later f g goes name p.host (own.here p is version)
own_here f g name a p own goes version (inr above) = let reached = own.reached in absurd (omega (arith, reached, above, version))

pub own_later : (f : Farm) (es : List Entry) (name : List ℕ) (a : Attempt) → IsKeptFarm f → IsLegal f es → IsOwn f name a → IsOwn (run_of f es) name a
own_later f es name a k legal own =
    record {
      slot = slot_later f es a.slot legal own.slot;
      reached = let rises = versions_go f es a.slot k legal in let reached = own.reached in omega (arith, rises, reached);
      here = λ p is version. own_here f (run_of f es) name a p own (run_goes f es) version (lives_go f es k legal a.slot p is);
    }
