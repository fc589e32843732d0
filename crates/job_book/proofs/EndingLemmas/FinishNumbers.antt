-- The numbers of finishes, as jobs are placed, paused, leave and finish.
use Rattle.std.proofs.Common.{◌≡◌, ℕ, ◌+◌, ◌≤◌, ◌<◌, Bool, true, false, not, cond, eqb, List, [], ◌∷◌, ◌++◌, map, filter, length, append-nil, Option, Some, None, refl, sym, ap, subst, ◌∙◌, arith, length-append}
use Rattle.std.specs.Prelude.{nat_eq, nat_le, nat_lt}
use Rattle.std.specs.List.{IsDistinct, find, list_all, position_or_len, slice_get}
use Rattle.std.proofs.lemmas.Bool.{and_from, eqb-true, false≢true, le-leb, le-ltb, leb-false, leb-true, lt-ltb}
use Rattle.std.proofs.lemmas.List.{length-map}
use Rattle.std.proofs.lemmas.List.Elements.{filter-append}
use Rattle.std.proofs.lemmas.List.Folds.{find_at, list_all-append, list_all-map}
use Rattle.farm_types.specs.declared.job.JobSpec.{JobSpec}
use Rattle.farm_types.specs.declared.limits.TheConstants.{MOST_FINISHED}
use Rattle.farm_types.specs.declared.rows.JobRow.{JobRow}
use Rattle.farm_types.specs.declared.slot_row.SlotRow.{SlotRow}
use Rattle.farm_types.specs.Farm.{for_some}
use Rattle.farm_types.specs.Finish.{finished_row, is_finished}
use Rattle.farm_types.specs.Jobs.{JobLists, job_row}
use Rattle.farm_types.specs.Kept.{finish_of, has_its_finish, is_of_pending, is_pending_job}
use Rattle.farm_types.specs.Operators.{paused_row}
use Rattle.farm_types.specs.Rising.{IsRising, job_key}
use Rattle.farm_types.proofs.ChangedLists.{map-map_kept}
use Rattle.farm_types.proofs.Lists.{for_some_true, found_is}
use Rattle.farm_types.proofs.Passes.{for_some-there}
use Rattle.farm_law.proofs.Filtered.{differ-filter, fewer_kept, filter_swap, found_kept, kept_at, list_all-filter, one_gone}
use Rattle.farm_law.proofs.FinishedOne.{IsAmong, finish_known, finishes_apart, is_among, one_fewer, one_more}
use Rattle.farm_law.proofs.Paused.{filter-map, unread}
use Rattle.job_book.specs.Book.{without_job}
use Rattle.job_book.specs.Finished.{KeepsFinishes, first_of_full, leaver}
use Rattle.job_book.proofs.EndingLemmas.LeftJobs.{remains}

-- ---- a job is placed

-- it is pending, and has no number yet
pub placed_finishes : (b : JobLists) (show : ℕ) (spec : JobSpec) → KeepsFinishes b.jobs b.next_job b.next_finish → KeepsFinishes (b.jobs ++ job_row b.next_job show spec ∷ []) (b.next_job + 1) b.next_finish
placed_finishes b show spec keeps =
    let row = job_row b.next_job show spec in
    let same : filter is_finished (b.jobs ++ row ∷ []) ≡ filter is_finished b.jobs = filter-append is_finished b.jobs (row ∷ []) ∙ append-nil (filter is_finished b.jobs) in
    let more : length (filter is_pending_job (b.jobs ++ row ∷ [])) ≡ length (filter is_pending_job b.jobs) + 1 =
    ap length (filter-append is_pending_job b.jobs (row ∷ [])) ∙ length-append (filter is_pending_job b.jobs) (row ∷ []) in
    record {
      from = keeps.from;
      left = omega (arith, more, keeps.left);
      numbered = list_all-append (has_its_finish b.next_finish) b.jobs (row ∷ []) ∙ and_from _ _ keeps.numbered refl;
      differ = subst (λ (js : List JobRow). IsDistinct nat_eq (map finish_of js)) (sym same) keeps.differ;
      few = omega (arith, ap (λ (js : List JobRow). length js) same, keeps.few);
    }

-- ---- a job is paused or goes on

pub paused_finishes : (job : ℕ) (paused : Bool) (jobs : List JobRow) (next_job next_finish : ℕ) → KeepsFinishes jobs next_job next_finish → KeepsFinishes (map (paused_row job paused) jobs) next_job next_finish
paused_finishes job paused jobs next_job next_finish keeps =
    let change = paused_row job paused in
    let pending = filter-map change is_pending_job (unread is_pending_job (λ j b. refl) job paused) jobs in
    let finished = filter-map change is_finished (unread is_finished (λ j b. refl) job paused) jobs in
    let numbers = ap (map finish_of) finished ∙ map-map_kept finish_of change (unread finish_of (λ j b. refl) job paused) (filter is_finished jobs) in
    record {
      from = keeps.from;
      left = omega (arith, ap (λ (js : List JobRow). length js) pending, length-map (filter is_pending_job jobs) change, keeps.left);
      numbered = list_all-map (has_its_finish next_finish) change jobs
          ∙ (ap (λ (test : JobRow → Bool). list_all test jobs) (λ i j. unread (has_its_finish next_finish) (λ x b. refl) job paused j i) ∙ keeps.numbered);
      differ = subst (IsDistinct nat_eq) (sym numbers) keeps.differ;
      few = omega (arith, ap (λ (js : List JobRow). length js) finished, length-map (filter is_finished jobs) change, keeps.few);
    }

-- ---- a job leaves

pub left_finishes : (n : ℕ) (jobs : List JobRow) (next_job next_finish : ℕ) → KeepsFinishes jobs next_job next_finish → KeepsFinishes (filter (remains n) jobs) next_job next_finish
left_finishes n jobs next_job next_finish keeps =
    let keep = remains n in
    let finished = filter_swap is_finished keep jobs in
    record {
      from = keeps.from;
      left = omega (arith, ap (λ (js : List JobRow). length js) (filter_swap is_pending_job keep jobs), fewer_kept keep (filter is_pending_job jobs), keeps.left);
      numbered = list_all-filter (has_its_finish next_finish) keep jobs keeps.numbered;
      differ = subst (λ (js : List JobRow). IsDistinct nat_eq (map finish_of js)) (sym finished) (differ-filter finish_of nat_eq keep (filter is_finished jobs) keeps.differ);
      few = omega (arith, ap (λ (js : List JobRow). length js) finished, fewer_kept keep (filter is_finished jobs), keeps.few);
    }

module _ (n : ℕ) (jobs : List JobRow) (there : for_some (find (λ (j : JobRow). eqb j.job n) jobs) is_finished ≡ true) where
  abbrev test : JobRow → Bool
  test j = eqb j.job n

  -- one finished job fewer
  pub one_leaves : length (filter is_finished (filter (remains n) jobs)) + 1 ≤ length (filter is_finished jobs)
  one_leaves =
      let its = for_some_true (find test jobs) is_finished there in
      let at : slice_get jobs (position_or_len test jobs) ≡ Some its.0 = sym (find_at test jobs) ∙ its.1 in
      let place = kept_at is_finished jobs (position_or_len test jobs) its.0 at its.2 in
      let goes : remains n its.0 ≡ false = ap not (found_is test jobs its.0 its.1) in
      omega (arith, ap (λ (js : List JobRow). length js) (filter_swap is_finished (remains n) jobs), one_gone (remains n) (filter is_finished jobs) place.0 its.0 place.1 goes)

  -- a pending job stays
  pub pending_left : (job : ℕ) → is_of_pending jobs job ≡ true → is_of_pending (filter (remains n) jobs) job ≡ true
  pending_left job pending = by (eqb its.0.job n) refl
    where
      its : (row : JobRow) × (find (λ (j : JobRow). eqb j.job job) jobs ≡ Some row) × (is_pending_job row ≡ true)
      its = for_some_true (find (λ (j : JobRow). eqb j.job job) jobs) is_pending_job pending

      by : (b : Bool) → eqb its.0.job n ≡ b → is_of_pending (filter (remains n) jobs) job ≡ true
      by true is =
          let number : its.0.job ≡ job = eqb-true its.0.job job (found_is (λ (j : JobRow). eqb j.job job) jobs its.0 its.1) in
          let same : n ≡ job = sym (eqb-true its.0.job n is) ∙ number in
          let done : is_finished its.0 ≡ true =
          sym (ap (λ (o : Option JobRow). for_some o is_finished) its.1) ∙ (sym (ap (λ (m : ℕ). for_some (find (λ (j : JobRow). eqb j.job m) jobs) is_finished) same) ∙ there) in
          absurd (false≢true (sym (ap not its.2) ∙ done))
      by false is =
          for_some-there (find (λ (j : JobRow). eqb j.job job) (filter (remains n) jobs)) is_pending_job its.0
          (found_kept (λ (j : JobRow). eqb j.job job) (remains n) jobs its.0 its.1 (ap not is)) its.2

-- ---- a job finishes

module _ (job : ℕ) (slots : List SlotRow) (jobs : List JobRow) (high finish : ℕ) (rise : IsRising job_key 0 jobs high) (pending : is_of_pending jobs job ≡ true) (keeps : KeepsFinishes jobs high finish) where
  abbrev among : IsAmong job jobs
  among = is_among job 0 jobs high rise pending

  -- a number is left for it
  pub number_left : finish + 1 ≤ high
  number_left = omega (arith, one_fewer job slots finish jobs among, keeps.left)

  pub finished_finishes : length (filter is_finished jobs) < MOST_FINISHED → KeepsFinishes (map (λ (j : JobRow). cond (eqb j.job job) (finished_row slots finish j) j) jobs) high (finish + 1)
  finished_finishes few =
      record {
        from = omega arith;
        left = omega (arith, one_fewer job slots finish jobs among, keeps.left);
        numbered = finish_known job slots finish keeps.from jobs keeps.numbered;
        differ = finishes_apart job slots finish jobs among keeps.numbered keeps.differ;
        few = omega (arith, one_more job slots finish jobs among, few);
      }

-- ---- the one that leaves before one more finishes

pub none_full : (numbers : List ℕ) → length numbers < MOST_FINISHED → first_of_full numbers ≡ None
none_full numbers few = by (nat_le MOST_FINISHED (length numbers)) refl
  where
    by : (b : Bool) → nat_le MOST_FINISHED (length numbers) ≡ b → first_of_full numbers ≡ None
    by true is = absurd (omega (arith, few, leb-true MOST_FINISHED (length numbers) is))
    by false is = rw is refl

pub first_full : (numbers : List ℕ) (first : ℕ) → MOST_FINISHED ≤ length numbers → slice_get numbers 0 ≡ Some first → first_of_full numbers ≡ Some first
first_full numbers first full at = let is : nat_le MOST_FINISHED (length numbers) ≡ true = le-leb MOST_FINISHED (length numbers) full in rw is at

-- it is the one that leaves as one more has finished
pub leaver_before : (numbers : List ℕ) (job : ℕ) → leaver (numbers ++ job ∷ []) ≡ first_of_full numbers
leaver_before [] job = refl
leaver_before (n ∷ ns) job = by (nat_le MOST_FINISHED (length (n ∷ ns))) refl
  where
    long : length ((n ∷ ns) ++ job ∷ []) ≡ length (n ∷ ns) + 1
    long = length-append (n ∷ ns) (job ∷ [])

    by : (b : Bool) → nat_le MOST_FINISHED (length (n ∷ ns)) ≡ b → leaver ((n ∷ ns) ++ job ∷ []) ≡ first_of_full (n ∷ ns)
    by true is =
        let more : nat_lt MOST_FINISHED (length ((n ∷ ns) ++ job ∷ [])) ≡ true = lt-ltb MOST_FINISHED (length ((n ∷ ns) ++ job ∷ [])) (omega (arith, leb-true MOST_FINISHED (length (n ∷ ns)) is, long)) in
        rw (more, is) refl
    by false is =
        let few : nat_lt MOST_FINISHED (length ((n ∷ ns) ++ job ∷ [])) ≡ false = le-ltb MOST_FINISHED (length ((n ∷ ns) ++ job ∷ [])) (omega (arith, leb-false MOST_FINISHED (length (n ∷ ns)) is, long)) in
        rw (few, is) refl

-- that it goes first makes no difference
pub map_without : (change : JobRow → JobRow) → ((j : JobRow) → (change j).job ≡ j.job) → (o : Option ℕ) (jobs : List JobRow) → map change (without_job o jobs) ≡ without_job o (map change jobs)
map_without change same None jobs = refl
map_without change same (Some n) jobs = sym (filter-map change (remains n) (λ j. ap (λ (k : ℕ). not (eqb k n)) (same j)) jobs)
