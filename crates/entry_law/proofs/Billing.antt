-- A claim's subscription is that of the recorded show and allocation: the claim suited a farm of the journal, and what
-- it read there is recorded still.
use Rattle.std.proofs.Common.{◌≡◌, ℕ, zero, suc, ◌-◌, ◌<◌, ◌≤◌, Bool, true, false, cond, eqb, List, [], ◌∷◌, ◌++◌, take, length, Option, Some, None, refl, sym, ap, subst, ◌∙◌, ◌⊎◌, inl, inr, arith}
use mathlib.Core.Option.{some, some-injective, some-ne-none}
use lib.ListN.{get_elem?}
use Rattle.std.specs.List.{slice_get}
use Rattle.std.proofs.lemmas.Bool.{eq-eqb, eqb-true}
use Rattle.std.proofs.lemmas.Option.{none-some, slice_get_within}
use Rattle.booking_rule.specs.declared.hold.Claim.{Claim}
use Rattle.booking_rule.specs.declared.view.View.{View}
use Rattle.booking_rule.specs.Kept.{IsBefore, Kept}
use Rattle.booking_rule.specs.Link.{farm_before, farm_of, host_alloc, host_cores, of_host, recorded_in, stand_at}
use Rattle.booking_rule.specs.Link.{has as is_done}
use Rattle.booking_rule.specs.Recorded.{Recorded, Stand}
use Rattle.booking_rule.specs.Rule.{cores_in, cores_of, is_pending}
use Rattle.booking_rule.specs.Suits.{SuitsOnce}
use Rattle.booking_rule.specs.Totals.{total}
use Rattle.booking_rule.specs.Views.{holds, room_in, same_room}
use Rattle.booking_rule.specs.Words.{Words}
use Rattle.booking_rule.proofs.Steps.{room_same, total_without}
use Rattle.booking_rule.proofs.Weighing.{stands}
use Rattle.frame_words.specs.declared.frame_word.FrameWord.{FrameWord}
use Rattle.farm_types.specs.declared.entry.Entry.{Entry}
use Rattle.farm_types.specs.declared.limits.TheConstants.{LAST_VERSION}
use Rattle.farm_types.specs.declared.rows.HostRow.{HostRow}
use Rattle.farm_types.specs.declared.rows.JobRow.{JobRow}
use Rattle.farm_types.specs.declared.slot_row.Frame.{Frame}
use Rattle.farm_types.specs.declared.slot_row.SlotRow.{SlotRow}
use Rattle.farm_types.specs.Booking.{in_facility, suits, version_at}
use Rattle.farm_types.specs.Booking.{is_pending as job_pending}
use Rattle.farm_types.specs.Farm.{Farm, empty_farm, job_at, sub_of}
use Rattle.farm_types.specs.Kept.{IsKeptFarm}
use Rattle.farm_types.specs.Run.{IsLegal, IsLegalStep, run_of}
use Rattle.farm_types.specs.Step.{after}
use Rattle.farm_types.proofs.Lists.{and_both, for_some_true}
use Rattle.farm_law.proofs.LegalRuns.{legal_take}
use Rattle.farm_law.proofs.Suits.{run_suits}
use Rattle.depend_law.proofs.KeptRuns.{kept_run}
use Rattle.entry_law.proofs.HostRows.{alloc_is, alloc_stays}
use Rattle.entry_law.proofs.Rising.{waiting}
use Rattle.entry_law.proofs.Stands.{stand_made, version_is}

-- ---- what suits a farm

show_is : (f : Farm) (n : ℕ) (s : SlotRow) (x : Frame) (j : JobRow) → slice_get f.slots n ≡ Some s → s.frame ≡ Some x → job_at f x.job ≡ Some j
    → (stand_at f n).show ≡ j.show
unfolding stand_at
show_is f n s x j at is job = rw at (rw is (rw job refl))

-- the slot has that version, the host is there, and the subscription is that of the show and the allocation
record Suited (f : Farm) (n version host sub : ℕ) : Type 0 where
  at_version : version_at f n ≡ version
  row : HostRow
  there : slice_get f.hosts host ≡ Some row
  bills : sub_of (stand_at f n).show (host_alloc f host) ≡ sub

suited_by : (f : Farm) (n version host sub : ℕ) → suits f n version host sub ≡ true → Suited f n version host sub
suited_by f n version host sub suited =
    let row = for_some_true (slice_get f.slots n) _ suited in
    let of_slot = and_both (eqb row.0.version version) _ row.2 in
    let frame = for_some_true row.0.frame _ of_slot.1 in
    let job = for_some_true (job_at f frame.0.job) _ frame.2 in
    let of_job = and_both (job_pending job.0.state) _ job.2 in
    let on = for_some_true (slice_get f.hosts host) _ of_job.1 in
    let of_host = and_both (in_facility f on.0.alloc job.0.facility) (eqb (sub_of job.0.show on.0.alloc) sub) on.2 in
    let show = show_is f n row.0 frame.0 job.0 row.1 frame.1 job.1 in
    record {
      at_version = rw row.1 (eqb-true row.0.version version of_slot.0);
      row = on.0;
      there = on.1;
      bills = ap (λ (k : ℕ). sub_of k (host_alloc f host)) show ∙ (ap (sub_of job.0.show) (alloc_is f host on.0 on.1) ∙ eqb-true (sub_of job.0.show on.0.alloc) sub of_host.1);
    }

-- a host of a size is there
host_by : (f : Farm) (host : ℕ) (o : Option HostRow) → slice_get f.hosts host ≡ o → 0 < of_host (λ (r : HostRow). r.cores) o
    → (row : HostRow) × (slice_get f.hosts host ≡ Some row)
host_by f host None at size = absurd (omega (arith, size))
host_by f host (Some row) at size = (row, at)

host_there : (f : Farm) (host : ℕ) → 0 < host_cores f host → (row : HostRow) × (slice_get f.hosts host ≡ Some row)
unfolding host_cores
host_there f host size = host_by f host (slice_get f.hosts host) refl size

-- ---- the farm before and the farm now

-- What holds of two farms one entry apart: a host of the first keeps its allocation; what waits in the first at the
-- version suits the second, which says the same of the slot, or suits the first; and what is of the version in the
-- second suits it.
record Near (old now : Farm) (n version host sub : ℕ) : Type 0 where
  grows : (row : HostRow) → slice_get old.hosts host ≡ Some row → host_alloc now host ≡ host_alloc old host
  waits : (stand_at old n).phase ≡ 1 → (stand_at old n).version ≡ version
      → ((suits now n version host sub ≡ true) × (stand_at now n ≡ stand_at old n)) ⊎ (suits old n version host sub ≡ true)
  stays : (stand_at now n).version ≡ version → suits now n version host sub ≡ true

module _ (old now : Farm) (n version host sub : ℕ) (near : Near old now n version host sub) where
  of_now : suits now n version host sub ≡ true → (c : Bool) → 0 < cond c (host_cores now host) (host_cores old host)
      → sub_of (stand_at now n).show (cond c (host_alloc now host) (host_alloc old host)) ≡ sub
  of_now suited true size = (suited_by now n version host sub suited).bills
  of_now suited false size =
      let row = host_there old host size in
      ap (sub_of (stand_at now n).show) (sym (near.grows row.0 row.1)) ∙ (suited_by now n version host sub suited).bills

  of_old : suits old n version host sub ≡ true → (c : Bool) → sub_of (stand_at old n).show (cond c (host_alloc now host) (host_alloc old host)) ≡ sub
  of_old suited true =
      let s = suited_by old n version host sub suited in
      ap (sub_of (stand_at old n).show) (near.grows s.row s.there) ∙ s.bills
  of_old suited false = (suited_by old n version host sub suited).bills

  by_old : ((suits now n version host sub ≡ true) × (stand_at now n ≡ stand_at old n)) ⊎ (suits old n version host sub ≡ true) → (c : Bool)
      → 0 < cond c (host_cores now host) (host_cores old host) → sub_of (stand_at old n).show (cond c (host_alloc now host) (host_alloc old host)) ≡ sub
  by_old (inl both) c size = ap (λ (s : Stand). sub_of s.show (cond c (host_alloc now host) (host_alloc old host))) (sym both.1) ∙ of_now both.0 c size
  by_old (inr suited) c size = of_old suited c

  recorded_bills : (b c : Bool) → (cond b (stand_at now n) (stand_at old n)).phase ≡ 1 → (cond b (stand_at now n) (stand_at old n)).version ≡ version
      → 0 < cond c (host_cores now host) (host_cores old host) → sub_of (cond b (stand_at now n) (stand_at old n)).show (cond c (host_alloc now host) (host_alloc old host)) ≡ sub
  recorded_bills true c phase at_version size = of_now (near.stays at_version) c size
  recorded_bills false c phase at_version size = by_old (near.waits phase at_version) c size

-- ---- along the journal

module _ (n version host sub : ℕ) (below : version < LAST_VERSION) where
  abbrev Suits : Farm → Type 0
  Suits f = suits f n version host sub ≡ true

  -- what suited at a place suits at the end, where the version is the same
  later : (f : Farm) (p : ℕ) (xs : List Entry) → IsLegal f xs → Suits (run_of f (take p xs)) → version_at (run_of f xs) n ≡ version → Suits (run_of f xs)
  later f zero xs legal suited same = run_suits f xs n version host sub legal suited same below
  later f (suc p) [] legal suited same = suited
  later f (suc p) (x ∷ xs) legal suited same = later (after f x) p xs legal.1 suited same

  -- a place of a journal is one before its last entry, or its end
  once : (f : Farm) (p : ℕ) (xs : List Entry) (e : Entry) → Suits (run_of f (take p (xs ++ e ∷ [])))
      → Suits (run_of f (take p xs)) ⊎ Suits (run_of f (xs ++ e ∷ []))
  once f zero xs e suited = inl suited
  once f (suc zero) [] e suited = inr suited
  once f (suc (suc p)) [] e suited = inr suited
  once f (suc p) (x ∷ xs) e suited = once (after f x) p xs e suited

  legal_front : (f : Farm) (xs : List Entry) (e : Entry) → IsLegal f (xs ++ e ∷ []) → IsLegal f xs
  legal_front f [] e legal = tt
  legal_front f (x ∷ xs) e legal = (legal.0, legal_front (after f x) xs e legal.1)

  legal_last : (f : Farm) (xs : List Entry) (e : Entry) → IsLegal f (xs ++ e ∷ []) → IsLegalStep (run_of f xs) e
  legal_last f [] e legal = legal.0
  legal_last f (x ∷ xs) e legal = legal_last (after f x) xs e legal.1

  run_last : (f : Farm) (xs : List Entry) (e : Entry) → run_of f (xs ++ e ∷ []) ≡ after (run_of f xs) e
  run_last f [] e = refl
  run_last f (x ∷ xs) e = run_last (after f x) xs e

  stand_version : (f : Farm) → (stand_at f n).version ≡ version → version_at f n ≡ version
  stand_version f is = sym (version_is f n) ∙ is

  -- the last entry was taken
  module _ (f : Farm) (xs : List Entry) (e : Entry) (begins : IsKeptFarm f) (legal : IsLegal f (xs ++ e ∷ [])) (p : ℕ) (suited : Suits (run_of f (take p (xs ++ e ∷ [])))) where
    abbrev old : Farm
    old = run_of f xs

    abbrev now : Farm
    now = run_of f (xs ++ e ∷ [])

    at_now : (stand_at now n).version ≡ version → Suits now
    at_now is = later f p (xs ++ e ∷ []) legal suited (stand_version now is)

    -- where the version rose, it suited before
    at_old : (stand_at old n).version ≡ version → (stand_at old n).version < (stand_at now n).version → Suits (run_of f (take p xs)) ⊎ Suits now → Suits old
    at_old is rose (inl first) = later f p xs (legal_front f xs e legal) first (stand_version old is)
    at_old is rose (inr last) =
        let at = (suited_by now n version host sub last).at_version in
        let is_now = version_is now n in
        absurd (omega (arith, is, rose, at, is_now))

    either : (stand_at old n).version ≡ version → (stand_at now n ≡ stand_at old n) ⊎ ((stand_at old n).version < (stand_at now n).version)
        → (Suits now × (stand_at now n ≡ stand_at old n)) ⊎ Suits old
    either is (inl same) = inl (at_now (ap (λ (s : Stand). s.version) same ∙ is), same)
    either is (inr rose) = inr (at_old is rose (once f p xs e suited))

    near_last : Near old now n version host sub
    near_last =
        let kept = kept_run f xs begins (legal_front f xs e legal) in
        let step = legal_last f xs e legal in
        record {
          grows = λ row at.
              subst (λ (g : Farm). host_alloc g host ≡ host_alloc old host) (sym (run_last f xs e)) (alloc_stays old e host row step at).2;
          waits = λ phase is.
              either is
              (subst (λ (g : Farm). (stand_at g n ≡ stand_at old n) ⊎ ((stand_at old n).version < (stand_at g n).version)) (sym (run_last f xs e))
              (waiting old e n kept step phase (let low : version < 16777215 = below in omega (arith, is, low))));
          stays = at_now;
        }

  -- no entry was taken since
  near_same : (f : Farm) (p : ℕ) (log : List Entry) → IsLegal f log → Suits (run_of f (take p log)) → Near (run_of f log) (run_of f log) n version host sub
  near_same f p log legal suited =
      record {
        grows = λ row at. refl;
        waits = λ phase is. inl (later f p log legal suited (stand_version (run_of f log) is), refl);
        stays = λ is. later f p log legal suited (stand_version (run_of f log) is);
      }

  none_waits : (stand_at empty_farm n).phase ≡ 1 → ⊥
  none_waits phase = let free : (stand_at empty_farm n).phase ≡ 0 = ap (λ (s : Stand). s.phase) (stand_made empty_farm n) in absurd (omega (arith, phase, free))

  -- the words are placed for the first time
  near_first : (f : Farm) (p : ℕ) (log : List Entry) → IsLegal f log → Suits (run_of f (take p log)) → Near empty_farm (run_of f log) n version host sub
  near_first f p log legal suited =
      record {
        grows = λ row at. absurd (none-some row at);
        waits = λ phase is. absurd (none_waits phase);
        stays = λ is. later f p log legal suited (stand_version (run_of f log) is);
      }

  near_some : (f : Farm) (p : ℕ) (xs log : List Entry) → IsKeptFarm f → IsLegal f log → Suits (run_of f (take p log))
      → (xs ≡ log) ⊎ ((e : Entry) × (xs ++ e ∷ [] ≡ log))
      → Near (run_of f xs) (run_of f log) n version host sub
  near_some f p xs log begins legal suited (inl same) =
      subst (λ (ys : List Entry). Near (run_of f ys) (run_of f log) n version host sub) (sym same) (near_same f p log legal suited)
  near_some f p xs log begins legal suited (inr last) =
      subst (λ (ys : List Entry). Near (run_of f xs) (run_of f ys) n version host sub) last.1
      (near_last f xs last.0 begins (subst (IsLegal f) (sym last.1) legal) p (subst (λ (ys : List Entry). Suits (run_of f (take p ys))) (sym last.1) suited))

-- ---- rooms

module _ {A : Type 0} where
  -- what one of a list has is within the total
  total_has : (f : A → ℕ) (l : List A) (i : ℕ) (v : A) → get_elem? l i ≡ some v → f v ≤ total f l
  total_has f [] i v at = absurd (some-ne-none v (sym at))
  total_has f (x ∷ xs) zero v at = let is : f x ≡ f v = ap f (some-injective x v at) in omega (arith, is)
  total_has f (x ∷ xs) (suc i) v at = let rest = total_has f xs i v at in omega (arith, rest)

-- ---- the claim

module _ (n : ℕ) (W : Words) (views : List View) (id : ℕ) (v : View) (K : Kept n W views) (at : get_elem? views id ≡ some v) where
  abbrev first_farm : Farm
  first_farm = farm_of K.opening

  abbrev now_farm : Farm
  now_farm = run_of first_farm K.log

  abbrev R : Recorded
  R = recorded_in K.opening K.log K.desk

  near_by : (before : Option (List Entry)) → IsBefore before K.log → (slot version host sub p : ℕ) → version < LAST_VERSION
      → suits (run_of first_farm (take p K.log)) slot version host sub ≡ true
      → Near (farm_before K.opening before) now_farm slot version host sub
  near_by None is slot version host sub p below suited = near_first slot version host sub below first_farm p K.log K.own.legal suited
  near_by (Some xs) is slot version host sub p below suited = near_some slot version host sub below first_farm p xs K.log K.own.begins K.own.legal suited is

  -- a host of which a view has room has a size
  has_size : (c : Claim) → c.host < 4096 → 0 < c.cores → holds same_room (room_in c) v.rooms ≡ true → 0 < R.cores c.host
  has_size c lt amount has =
      let whole = K.own.rule.cores c.host lt in
      let mine = total_has (cores_of c.host).held views id v at in
      let room = total_without same_room (cores_in c.host) (room_in c) v.rooms (room_same (room_in c)) has in
      let one : cores_in c.host (room_in c) ≡ c.cores = ap (λ (b : Bool). cond b c.cores 0) (eq-eqb c.host c.host refl) in
      omega (arith, whole, mine, room, one, amount)

  -- a host of a farm of the journal has a number that words know
  host_within : (slot version host sub p : ℕ) → suits (run_of first_farm (take p K.log)) slot version host sub ≡ true → host < 4096
  host_within slot version host sub p suited =
      let f = run_of first_farm (take p K.log) in
      let s = suited_by f slot version host sub suited in
      let kept = kept_run first_farm (take p K.log) K.own.begins (legal_take first_farm p K.log K.own.legal) in
      let count : length f.hosts ≤ 4096 = kept.rows.hosts.count in
      let within = slice_get_within f.hosts host s.row s.there in
      omega (arith, count, within)

  pub bills : (c : Claim) → c.slot < 65536 → c.version < 16777216 → 0 < c.cores
      → W.frame c.slot ≡ record { phase = 1; version = c.version - 1; host = 0; cores = c.cores }
      → holds same_room (room_in c) v.rooms ≡ true → SuitsOnce (farm_of K.opening) K.log c
      → sub_of (W.amount c.slot).show ((recorded_in K.opening K.log K.desk).alloc c.host) ≡ c.sub
  bills c lt below amount was has suited =
      let low : c.version - 1 < LAST_VERSION = omega (arith, below) in
      let near = near_by K.desk.before K.own.before c.slot (c.version - 1) c.host c.sub suited.0 low suited.2 in
      let shows = K.own.rule.shows c.slot lt in
      let waits : (W.frame c.slot).phase ≡ 1 = ap (λ (f : FrameWord). f.phase) was in
      let s = stands (R.slot c.slot) (is_pending K.desk.pending c.slot) (W.frame c.slot) waits shows.frame in
      let used : eqb (R.slot c.slot).phase 0 ≡ false = ap (λ (k : ℕ). eqb k 0) s.0 in
      let show = (shows.amount used).0 in
      let at_version : (R.slot c.slot).version ≡ c.version - 1 = s.1 ∙ ap (λ (f : FrameWord). f.version) was in
      ap (λ (k : ℕ). sub_of k (R.alloc c.host)) show
      ∙ recorded_bills (farm_before K.opening K.desk.before) now_farm c.slot (c.version - 1) c.host c.sub near (is_done c.slot K.desk.slots) (is_done c.host K.desk.hosts) s.0 at_version
      (has_size c (host_within c.slot (c.version - 1) c.host c.sub suited.0 suited.2) amount has)
