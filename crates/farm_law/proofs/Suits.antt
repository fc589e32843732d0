-- Which slots suit a host: each candidate of a plan does, and it stays so while the slot's version stays.
use Rattle.std.proofs.Common.{◌≡◌, ℕ, refl, suc, true, false, cond, eqb, Bool, List, [], Option, Some, None, sym, ap, subst, arith, ◌+◌, ◌<◌, ◌∷◌, ◌∙◌}
use Rattle.farm_law.proofs.CanBook.{CanBook, Rows, can_book}
use Rattle.farm_law.proofs.RowsStay.{frame_job}
use Rattle.farm_law.proofs.RunsStay.{RowsHold}
use Rattle.farm_types.proofs.Lists.{and_both, for_some_true, found_is}
use Rattle.farm_types.proofs.Passes.{cond_each, for_some-there, list_all-take, option_map-from}
use Rattle.farm_types.specs.Booking.{suits, version_at, version_of, is_pending, may_record, may_book, tags_match, in_facility}
use Rattle.farm_types.specs.Dispatch.{candidate_suits, plan_for, order_for, ranks_from, sorted_ranks, insert_rank, rank_cmp, rank_of, rank_in, rank_at, with_found}
use Rattle.farm_types.specs.Farm.{Farm, job_at, sub_of}
use Rattle.farm_types.specs.declared.dispatch.Rank.{Rank}
use Rattle.farm_types.specs.declared.limits.TheConstants.{LAST_VERSION, CANDIDATES_EACH}
use Rattle.farm_types.specs.declared.rows.SubRow.{SubRow}
use Rattle.farm_types.specs.declared.slot_row.Frame.{Frame}
use Rattle.farm_types.specs.declared.slot_row.SlotRow.{SlotRow}
use Rattle.std.proofs.lemmas.Bool.{eqb-true, eq-eqb}
use Rattle.std.proofs.lemmas.List.Folds.{list_all-map}
use Rattle.std.proofs.lemmas.Option.{same_Some}
use Rattle.std.specs.Cmp.Derive.{both_true}
use Rattle.std.specs.List.{slice_get, list_all}
use Rattle.std.specs.Ordering.{is_gt}
use Rattle.std.specs.Prelude.{IfSome, bytes_eq}
use Rattle.farm_law.proofs.SafeRuns.{run_law}
use Rattle.farm_types.specs.Run.{IsLegal, run_of}
use Rattle.farm_types.specs.declared.entry.Entry.{Entry}
use Rattle.farm_types.specs.declared.rows.HostRow.{HostRow}
use Rattle.farm_types.specs.declared.rows.JobRow.{JobRow}

-- ---- the test by its parts

-- the rows that the test reads, and what it asks of them
record SuitParts (f : Farm) (slot version host sub : ℕ) : Type 0 where
  row : SlotRow
  frame : Frame
  job : JobRow
  on : HostRow
  row_is : slice_get f.slots slot ≡ Some row
  version_is : row.version ≡ version
  frame_is : row.frame ≡ Some frame
  job_is : job_at f frame.job ≡ Some job
  pending : is_pending job.state ≡ true
  on_is : slice_get f.hosts host ≡ Some on
  facility : in_facility f on.alloc job.facility ≡ true
  sub_is : sub_of job.show on.alloc ≡ sub

parts_of_suits : (f : Farm) (slot version host sub : ℕ) → suits f slot version host sub ≡ true → SuitParts f slot version host sub
parts_of_suits f slot version host sub suited =
    let row = for_some_true (slice_get f.slots slot) _ suited in
    let of_slot = and_both (eqb row.0.version version) _ row.2 in
    let frame = for_some_true row.0.frame _ of_slot.1 in
    let job = for_some_true (job_at f frame.0.job) _ frame.2 in
    let of_job = and_both (is_pending job.0.state) _ job.2 in
    let on = for_some_true (slice_get f.hosts host) _ of_job.1 in
    let of_host = and_both (in_facility f on.0.alloc job.0.facility) (eqb (sub_of job.0.show on.0.alloc) sub) on.2 in
    record {
      row = row.0;
      frame = frame.0;
      job = job.0;
      on = on.0;
      row_is = row.1;
      version_is = eqb-true row.0.version version of_slot.0;
      frame_is = frame.1;
      job_is = job.1;
      pending = of_job.0;
      on_is = on.1;
      facility = of_host.0;
      sub_is = eqb-true (sub_of job.0.show on.0.alloc) sub of_host.1;
    }

suits_from_parts : (f : Farm) (slot version host sub : ℕ) → SuitParts f slot version host sub → suits f slot version host sub ≡ true
suits_from_parts f slot version host sub p =
    for_some-there (slice_get f.slots slot) _ p.row p.row_is
    (both_true (eq-eqb p.row.version version p.version_is) (for_some-there p.row.frame _ p.frame p.frame_is
    (for_some-there (job_at f p.frame.job) _ p.job p.job_is (both_true p.pending (for_some-there (slice_get f.hosts host) _ p.on p.on_is
    (both_true p.facility (eq-eqb (sub_of p.job.show p.on.alloc) sub p.sub_is)))))))

-- ---- candidates

-- where a booking may be recorded, the slot suits the host
can_suit : (f : Farm) (slot host : ℕ) (r : Rows) → CanBook f slot host r → suits f slot r.slot.version host r.sub.sub ≡ true
can_suit f slot host r can =
    suits_from_parts f slot r.slot.version host r.sub.sub
    (record {
      row = r.slot;
      frame = r.frame;
      job = r.job;
      on = r.host;
      row_is = can.slot_is;
      version_is = refl;
      frame_is = can.frame_is;
      job_is = can.job_is;
      pending = can.pending;
      on_is = can.host_is;
      facility = can.facility;
      sub_is = sym (eqb-true _ _ (found_is (λ (s : SubRow). eqb s.sub (sub_of r.job.show r.host.alloc)) f.subs r.sub can.sub_is));
    })

-- the rank of a frame that may be booked
rank_in_is : (f : Farm) (slot host : ℕ) (r : Rows) → CanBook f slot host r → rank_in f host slot r.slot ≡ Some (rank_at f slot host r.slot r.frame r.job r.host r.sub)
rank_in_is f slot host r can = rw can.frame_is (rw can.job_is (rw can.host_is (rw can.sub_is refl)))

-- the candidate of a rank, where there is one, suits the host
abbrev RankSuits : Farm → ℕ → Option Rank → Type 0
RankSuits f host o = IfSome o (λ rank. candidate_suits f host rank.candidate ≡ true)

rank_suits_by : (f : Farm) (host slot : ℕ) (s : SlotRow) (b : Bool) → slice_get f.slots slot ≡ Some s → may_book f slot host ≡ b → RankSuits f host (cond b (rank_in f host slot s) None)
rank_suits_by f host slot s false at allowed = tt
rank_suits_by f host slot s true at allowed =
    let found = can_book f slot host (and_both (may_record f slot host) (tags_match f slot host) allowed).0 in
    let r = found.0 in
    let can = found.1 in
    subst (λ (x : SlotRow). RankSuits f host (rank_in f host slot x)) (same_Some r.slot s (sym can.slot_is ∙ at))
    (subst (RankSuits f host) (sym (rank_in_is f slot host r can)) (both_true (eq-eqb host host refl) (can_suit f slot host r can)))

rank_suits : (f : Farm) (host slot : ℕ) (s : SlotRow) → slice_get f.slots slot ≡ Some s → RankSuits f host (rank_of f host slot s)
rank_suits f host slot s at = rank_suits_by f host slot s (may_book f slot host) at refl

list_all-with_found : {X : Type 0} (test : X → Bool) (o : Option X) (xs : List X) → IfSome o (λ x. test x ≡ true) → list_all test xs ≡ true → list_all test (with_found o xs) ≡ true
list_all-with_found test None xs here all = all
list_all-with_found test (Some x) xs here all = both_true here all

abbrev rank_test : Farm → ℕ → Rank → Bool
rank_test f host rank = candidate_suits f host rank.candidate

list_all-ranks_from : (f : Farm) (host place : ℕ) (ss : List SlotRow) → ((k : ℕ) (s : SlotRow) → slice_get ss k ≡ Some s → slice_get f.slots (place + k) ≡ Some s) → list_all (rank_test f host) (ranks_from f host place ss) ≡ true
list_all-ranks_from f host place [] at = refl
list_all-ranks_from f host place (s ∷ ss) at =
    let here : place + 0 ≡ place = omega arith in
    list_all-with_found (rank_test f host) (rank_of f host place s) (ranks_from f host (place + 1) ss)
    (rank_suits f host place s (subst (λ (n : ℕ). slice_get f.slots n ≡ Some s) here (at 0 s refl)))
    (list_all-ranks_from f host (place + 1) ss (λ k x is. let next : place + suc k ≡ place + 1 + k = omega arith in subst (λ (n : ℕ). slice_get f.slots n ≡ Some x) next (at (suc k) x is)))

list_all-insert_rank : (f : Farm) (test : Rank → Bool) (x : Rank) (ys : List Rank) → test x ≡ true → list_all test ys ≡ true → list_all test (insert_rank f x ys) ≡ true
list_all-insert_rank f test x [] here all = both_true here refl
list_all-insert_rank f test x (y ∷ ys) here all =
    let both = and_both (test y) (list_all test ys) all in
    cond_each (λ (zs : List Rank). list_all test zs ≡ true) (is_gt (rank_cmp f x y)) (y ∷ insert_rank f x ys) (x ∷ y ∷ ys)
    (both_true both.0 (list_all-insert_rank f test x ys here both.1)) (both_true here all)

list_all-sorted_ranks : (f : Farm) (test : Rank → Bool) (xs : List Rank) → list_all test xs ≡ true → list_all test (sorted_ranks f xs) ≡ true
list_all-sorted_ranks f test [] all = refl
list_all-sorted_ranks f test (x ∷ xs) all =
    let both = and_both (test x) (list_all test xs) all in
    list_all-insert_rank f test x (sorted_ranks f xs) both.0 (list_all-sorted_ranks f test xs both.1)

pub plan_suits : (f : Farm) (host : ℕ) → list_all (candidate_suits f host) (plan_for f host) ≡ true
plan_suits f host =
    let ranks = sorted_ranks f (ranks_from f host 0 f.slots) in
    let all = list_all-sorted_ranks f (rank_test f host) (ranks_from f host 0 f.slots) (list_all-ranks_from f host 0 f.slots (λ k s at. let place : k ≡ 0 + k = omega arith in subst (λ (n : ℕ). slice_get f.slots n ≡ Some s) place at)) in
    list_all-take (candidate_suits f host) CANDIDATES_EACH (order_for f host) (list_all-map (candidate_suits f host) (λ (r : Rank). r.candidate) ranks ∙ all)

-- ---- along a run

-- an allocation of a facility stays one of it
in_facility_stays : (f g : Farm) → RowsHold f g → (alloc : ℕ) (facility : List ℕ) → in_facility f alloc facility ≡ true → in_facility g alloc facility ≡ true
in_facility_stays f g rows alloc facility inside =
    let old = for_some_true (slice_get f.allocs alloc) _ inside in
    let new = rows.allocs alloc old.0 old.1 in
    for_some-there (slice_get g.allocs alloc) _ new.0 new.1 (subst (λ (name : List ℕ). bytes_eq name facility ≡ true) (sym new.2) old.2)

parts_stay : (f g : Farm) → RowsHold f g → (slot version host sub : ℕ) → SuitParts f slot version host sub → version_at g slot ≡ version → version < LAST_VERSION → SuitParts g slot version host sub
parts_stay f g rows slot version host sub p same below =
    let row = rows.slots slot p.row p.row_is in
    let on = rows.hosts host p.on p.on_is in
    let version_is : row.0.version ≡ version = sym (ap version_of row.1) ∙ same in
    let under = subst (λ (v : ℕ). v < LAST_VERSION) (sym p.version_is) below in
    let job = rows.jobs slot p.row row.0 p.row_is row.1 (p.version_is ∙ sym version_is) under p.frame.job p.job (ap frame_job p.frame_is) p.job_is p.pending in
    let stays = row.2.job (p.version_is ∙ sym version_is) under p.frame.job (ap frame_job p.frame_is) in
    let frame = option_map-from (λ (x : Frame). x.job) row.0.frame p.frame.job stays in
    record {
      row = row.0;
      frame = frame.0;
      job = job.0;
      on = on.0;
      row_is = row.1;
      version_is = version_is;
      frame_is = frame.1;
      job_is = subst (λ (n : ℕ). job_at g n ≡ Some job.0) (sym frame.2) job.1;
      pending = job.4;
      on_is = on.1;
      facility = in_facility_stays f g rows on.0.alloc job.0.facility (subst (λ (name : List ℕ). in_facility f on.0.alloc name ≡ true) (sym job.3) (subst (λ (n : ℕ). in_facility f n p.job.facility ≡ true) (sym on.2) p.facility));
      sub_is = ap (λ (n : ℕ). sub_of n on.0.alloc) job.2 ∙ (ap (λ (n : ℕ). sub_of p.job.show n) on.2 ∙ p.sub_is);
    }

-- what suits stays so while rows stay and the slot keeps its version, below the last one
pub rows_suit : (f g : Farm) → RowsHold f g → (slot version host sub : ℕ) → suits f slot version host sub ≡ true → version_at g slot ≡ version → version < LAST_VERSION → suits g slot version host sub ≡ true
rows_suit f g rows slot version host sub suited same below =
    suits_from_parts g slot version host sub (parts_stay f g rows slot version host sub (parts_of_suits f slot version host sub suited) same below)

pub run_suits : (f : Farm) (es : List Entry) (slot version host sub : ℕ) → IsLegal f es → suits f slot version host sub ≡ true → version_at (run_of f es) slot ≡ version → version < LAST_VERSION → suits (run_of f es) slot version host sub ≡ true
run_suits f es slot version host sub legal suited same below = rows_suit f (run_of f es) (run_law f es legal).rows slot version host sub suited same below
