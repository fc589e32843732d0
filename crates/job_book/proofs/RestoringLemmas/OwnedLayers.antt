-- The layers that a farm keeps are those of its jobs, one job after another.
use Rattle.std.proofs.Common.{◌≡◌, ℕ, zero, suc, ◌+◌, ◌*◌, ◌<◌, ◌≤◌, ◌||◌, Bool, true, false, cond, eqb, ltb, List, [], ◌∷◌, filter, take, drop, Option, Some, refl, sym, ap, subst, ◌∙◌, arith}
use Rattle.std.specs.List.{find, list_all, list_any, slice_get}
use Rattle.std.proofs.lemmas.Bool.{false≢true, eq-eqb, eqb-true, eqb-false, ne_eqb, lt-ltb, ltb-true, and_from}
use Rattle.farm_types.specs.declared.limits.TheConstants.{MOST_LAYERS}
use Rattle.farm_types.specs.declared.rows.JobRow.{JobRow}
use Rattle.farm_types.specs.declared.rows.LayerRow.{LayerRow}
use Rattle.farm_types.specs.Booking.{is_pending}
use Rattle.farm_types.specs.Farm.{for_some, layers_of}
use Rattle.farm_types.specs.Jobs.{JobLists}
use Rattle.farm_types.specs.Kept.{AreAtPlaces, KeepsJobs, is_formed_layer, is_of_pending, is_pending_job}
use Rattle.farm_types.specs.Rising.{IsRising, job_key, layer_key}
use Rattle.farm_types.proofs.Lists.{and_both}
use Rattle.farm_law.proofs.FormedParts.{layer_formed}
use Rattle.job_entries.specs.Entries.{are_layers}
use Rattle.job_entries.specs.Restored.{AreOwned, own_count}
use Rattle.job_book.proofs.EndingLemmas.LeftJobs.{find_numbered}
use Rattle.job_book.proofs.RestoringLemmas.RestoredBook.{none_of, rise}

abbrev is_of : ℕ → LayerRow → Bool
is_of job l = eqb l.job job

-- ---- the layers in front

-- layers that rise, none of which is of an earlier job
module _ (job : ℕ) where
  none_own : (low : ℕ) (ls : List LayerRow) (high : ℕ) → MOST_LAYERS * (job + 1) ≤ low → list_all (λ (l : LayerRow). ltb l.place MOST_LAYERS) ls ≡ true → IsRising layer_key low ls high → filter (is_of job) ls ≡ []
  none_own low [] high above within rising = refl
  none_own low (l ∷ ls) high above within rising =
      let both = and_both (ltb l.place MOST_LAYERS) (list_all (λ (k : LayerRow). ltb k.place MOST_LAYERS) ls) within in
      let place = ltb-true l.place MOST_LAYERS both.0 in
      let apart : eqb l.job job ≡ false = ne_eqb l.job job (λ e. absurd (omega (arith, e, above, rising.0, place))) in
      ap (λ b. cond b (l ∷ filter (is_of job) ls) (filter (is_of job) ls)) apart ∙ none_own (layer_key l + 1) ls high (omega (arith, above, rising.0)) both.1 rising.1

  -- the first ones are all of them
  front_is : (low : ℕ) (ls : List LayerRow) (high : ℕ) → MOST_LAYERS * job ≤ low → list_all (λ (l : LayerRow). ltb l.place MOST_LAYERS) ls ≡ true → IsRising layer_key low ls high → take (own_count job ls) ls ≡ filter (is_of job) ls
  front_is low [] high above within rising = refl
  front_is low (l ∷ ls) high above within rising =
      let both = and_both (ltb l.place MOST_LAYERS) (list_all (λ (k : LayerRow). ltb k.place MOST_LAYERS) ls) within in
      let place = ltb-true l.place MOST_LAYERS both.0 in
      by (eqb l.job job) refl
      (front_is (layer_key l + 1) ls high (omega (arith, above, rising.0)) both.1 rising.1)
      (λ apart. none_own (layer_key l + 1) ls high (omega (arith, above, rising.0, place, apart)) both.1 rising.1)
    where
      by : (b : Bool) → eqb l.job job ≡ b → take (own_count job ls) ls ≡ filter (is_of job) ls → ((l.job ≡ job → ⊥) → filter (is_of job) ls ≡ []) → take (own_count job (l ∷ ls)) (l ∷ ls) ≡ filter (is_of job) (l ∷ ls)
      by true is later none =
          let e : 1 + own_count job ls ≡ suc (own_count job ls) = omega arith in
          rw (is, e) (ap (λ (ks : List LayerRow). l ∷ ks) later)
      by false is later none = rw is (sym (none (eqb-false l.job job is)))

-- those behind are the others
behind_is : (job : ℕ) (test : LayerRow → Bool) (ls : List LayerRow) → ((l : LayerRow) → eqb l.job job ≡ true → test l ≡ false) → filter test (drop (own_count job ls) ls) ≡ filter test ls
behind_is job test [] apart = refl
behind_is job test (l ∷ ls) apart = by (eqb l.job job) refl (behind_is job test ls apart)
  where
    by : (b : Bool) → eqb l.job job ≡ b → filter test (drop (own_count job ls) ls) ≡ filter test ls → filter test (drop (own_count job (l ∷ ls)) (l ∷ ls)) ≡ filter test (l ∷ ls)
    by true is later =
        let e : 1 + own_count job ls ≡ suc (own_count job ls) = omega arith in
        rw (is, e) (later ∙ sym (ap (λ b. cond b (l ∷ filter test ls) (filter test ls)) (apart l is)))
    by false is later = rw is refl

behind_all : (job : ℕ) (test : LayerRow → Bool) (ls : List LayerRow) → list_all test ls ≡ true → list_all test (drop (own_count job ls) ls) ≡ true
behind_all job test [] all = refl
behind_all job test (l ∷ ls) all = by (eqb l.job job) refl (behind_all job test ls (and_both (test l) (list_all test ls) all).1)
  where
    by : (b : Bool) → eqb l.job job ≡ b → list_all test (drop (own_count job ls) ls) ≡ true → list_all test (drop (own_count job (l ∷ ls)) (l ∷ ls)) ≡ true
    by true is later =
        let e : 1 + own_count job ls ≡ suc (own_count job ls) = omega arith in
        rw (is, e) later
    by false is later = rw is all

-- the layers behind begin with a later job
behind_rises : (job low : ℕ) (ls : List LayerRow) (high : ℕ) → MOST_LAYERS * job ≤ low → list_all (λ (l : LayerRow). ltb l.place MOST_LAYERS) ls ≡ true → IsRising layer_key low ls high → MOST_LAYERS * (job + 1) ≤ high
    → IsRising layer_key (MOST_LAYERS * (job + 1)) (drop (own_count job ls) ls) high
behind_rises job low [] high above within rising fits = fits
behind_rises job low (l ∷ ls) high above within rising fits =
    let both = and_both (ltb l.place MOST_LAYERS) (list_all (λ (k : LayerRow). ltb k.place MOST_LAYERS) ls) within in
    let place = ltb-true l.place MOST_LAYERS both.0 in
    by (eqb l.job job) refl (behind_rises job (layer_key l + 1) ls high (omega (arith, above, rising.0)) both.1 rising.1 fits) place
  where
    by : (b : Bool) → eqb l.job job ≡ b → IsRising layer_key (MOST_LAYERS * (job + 1)) (drop (own_count job ls) ls) high → l.place < MOST_LAYERS → IsRising layer_key (MOST_LAYERS * (job + 1)) (drop (own_count job (l ∷ ls)) (l ∷ ls)) high
    by true is later place =
        let e : 1 + own_count job ls ≡ suc (own_count job ls) = omega arith in
        rw (is, e) later
    by false is later place = rw is (omega (arith, above, rising.0, place, eqb-false l.job job is), rising.1)

-- ---- the layers of jobs in turn

-- the layer is of one of these jobs
abbrev is_of_one : List JobRow → LayerRow → Bool
is_of_one js l = list_any (λ (j : JobRow). eqb j.job l.job) js

-- each of these layers that is of none of the job is of one of the later ones
later_own : (j : JobRow) (js : List JobRow) (low : ℕ) (ls : List LayerRow) (high : ℕ) → MOST_LAYERS * (j.job + 1) ≤ low → list_all (λ (l : LayerRow). ltb l.place MOST_LAYERS) ls ≡ true → IsRising layer_key low ls high
    → list_all (is_of_one (j ∷ js)) ls ≡ true → list_all (is_of_one js) ls ≡ true
later_own j js low [] high above within rising all = refl
later_own j js low (l ∷ ls) high above within rising all =
    let both = and_both (ltb l.place MOST_LAYERS) (list_all (λ (k : LayerRow). ltb k.place MOST_LAYERS) ls) within in
    let place = ltb-true l.place MOST_LAYERS both.0 in
    let own = and_both (is_of_one (j ∷ js) l) (list_all (is_of_one (j ∷ js)) ls) all in
    let apart : eqb j.job l.job ≡ false = ne_eqb j.job l.job (λ e. absurd (omega (arith, e, above, rising.0, place))) in
    and_from _ _ (sym (ap (λ b. b || is_of_one js l) apart) ∙ own.0) (later_own j js (layer_key l + 1) ls high (omega (arith, above, rising.0)) both.1 rising.1 own.1)

owned_from : (js : List JobRow) (low : ℕ) (ls : List LayerRow) (high : ℕ) → IsRising job_key low js high → IsRising layer_key (MOST_LAYERS * low) ls (MOST_LAYERS * high)
    → list_all (λ (l : LayerRow). ltb l.place MOST_LAYERS) ls ≡ true → list_all (is_of_one js) ls ≡ true
    → ((n : ℕ) (j : JobRow) → slice_get js n ≡ Some j → are_layers j.job 0 (layers_of ls j.job) ≡ true) → AreOwned js ls
owned_from [] low [] high jobs layers within all each = refl
owned_from [] low (l ∷ ls) high jobs layers within all each = absurd (false≢true all)
owned_from (j ∷ js) low ls high jobs layers within all each =
    let from : IsRising layer_key (MOST_LAYERS * j.job) ls (MOST_LAYERS * high) = raised ls layers all in
    let front = front_is j.job (MOST_LAYERS * j.job) ls (MOST_LAYERS * high) (omega arith) within from in
    let end : j.job + 1 ≤ high = ends (j.job + 1) js jobs.1 in
    let rest = behind_rises j.job (MOST_LAYERS * j.job) ls (MOST_LAYERS * high) (omega arith) within from (omega (arith, end)) in (
      ap (are_layers j.job 0) front ∙ each 0 j refl,
      owned_from js (j.job + 1) (drop (own_count j.job ls) ls) high jobs.1 rest (behind_all j.job (λ (l : LayerRow). ltb l.place MOST_LAYERS) ls within)
          (later_own j js (MOST_LAYERS * (j.job + 1)) (drop (own_count j.job ls) ls) (MOST_LAYERS * high) (omega arith) (behind_all j.job (λ (l : LayerRow). ltb l.place MOST_LAYERS) ls within) rest (behind_all j.job (is_of_one (j ∷ js)) ls all))
          (λ n k at.
          ap (are_layers k.job 0) (behind_is j.job (is_of k.job) ls (λ l is. ne_eqb l.job k.job (λ e. apart n k at (sym (eqb-true l.job j.job is) ∙ e)))) ∙ each (suc n) k at),
    )
  where
    ends : (first : ℕ) (ks : List JobRow) → IsRising job_key first ks high → first ≤ high
    ends first [] rising = rising
    ends first (k ∷ ks) rising = omega (arith, rising.0, ends (k.job + 1) ks rising.1)

    at_first : (first : ℕ) (ks : List JobRow) (n : ℕ) (k : JobRow) → IsRising job_key first ks high → slice_get ks n ≡ Some k → first ≤ k.job
    at_first first [] n k rising at = absurd (cc)
    at_first first (i ∷ is) zero k rising at = let same : i ≡ k = cc in subst (λ (r : JobRow). first ≤ r.job) same rising.0
    at_first first (i ∷ is) (suc n) k rising at = omega (arith, rising.0, at_first (i.job + 1) is n k rising.1 at)

    apart : (n : ℕ) (k : JobRow) → slice_get js n ≡ Some k → j.job ≡ k.job → ⊥
    apart n k at same = omega (arith, at_first (j.job + 1) js n k jobs.1 at, same)

    one_least : (first : ℕ) (ks : List JobRow) (job : ℕ) → IsRising job_key first ks high → list_any (λ (k : JobRow). eqb k.job job) ks ≡ true → first ≤ job
    one_least first [] job rising any = absurd (false≢true any)
    one_least first (k ∷ ks) job rising any = by (eqb k.job job) refl (one_least (k.job + 1) ks job rising.1)
      where
        by : (b : Bool) → eqb k.job job ≡ b → (list_any (λ (i : JobRow). eqb i.job job) ks ≡ true → k.job + 1 ≤ job) → first ≤ job
        by true is later = omega (arith, eqb-true k.job job is, rising.0)
        by false is later = omega (arith, rising.0, later (sym (ap (λ b. b || list_any (λ (i : JobRow). eqb i.job job) ks) is) ∙ any))

    -- the first layer is of one of the jobs, and so not of an earlier one
    raised : (ks : List LayerRow) → IsRising layer_key (MOST_LAYERS * low) ks (MOST_LAYERS * high) → list_all (is_of_one (j ∷ js)) ks ≡ true → IsRising layer_key (MOST_LAYERS * j.job) ks (MOST_LAYERS * high)
    raised [] rising own = omega (arith, ends (j.job + 1) js jobs.1)
    raised (l ∷ ks) rising own =
        let one = one_least j.job (j ∷ js) l.job (omega arith, jobs.1) (and_both (is_of_one (j ∷ js) l) (list_all (is_of_one (j ∷ js)) ks) own).0 in
        (omega (arith, one), rising.1)

-- ---- what a farm keeps

numbered_layers : (job place : ℕ) (ls : List LayerRow) → list_all (is_of job) ls ≡ true → AreAtPlaces place ls → are_layers job place ls ≡ true
numbered_layers job place [] own at = refl
numbered_layers job place (l ∷ ls) own at =
    let both = and_both (is_of job l) (list_all (is_of job) ls) own in
    and_from _ _ (and_from _ _ both.0 (eq-eqb l.place place at.0)) (numbered_layers job (place + 1) ls both.1 at.1)

filter_own : (job : ℕ) (ls : List LayerRow) → list_all (is_of job) (filter (is_of job) ls) ≡ true
filter_own job [] = refl
filter_own job (l ∷ ls) = by (eqb l.job job) refl (filter_own job ls)
  where
    by : (b : Bool) → eqb l.job job ≡ b → list_all (is_of job) (filter (is_of job) ls) ≡ true → list_all (is_of job) (cond b (l ∷ filter (is_of job) ls) (filter (is_of job) ls)) ≡ true
    by true is later = and_from _ _ is later
    by false is later = later

filter_none : (job : ℕ) (ls : List LayerRow) → list_any (is_of job) ls ≡ false → filter (is_of job) ls ≡ []
filter_none job [] none = refl
filter_none job (l ∷ ls) none = by (eqb l.job job) refl (filter_none job ls)
  where
    by : (b : Bool) → eqb l.job job ≡ b → (list_any (is_of job) ls ≡ false → filter (is_of job) ls ≡ []) → cond (eqb l.job job) (l ∷ filter (is_of job) ls) (filter (is_of job) ls) ≡ []
    by true is later = absurd (false≢true (sym none ∙ ap (λ b. b || list_any (is_of job) ls) is))
    by false is later = ap (λ b. cond b (l ∷ filter (is_of job) ls) (filter (is_of job) ls)) is ∙ later (sym (ap (λ b. b || list_any (is_of job) ls) is) ∙ none)

one_there : (jobs : List JobRow) (job : ℕ) → is_of_pending jobs job ≡ true → list_any (λ (j : JobRow). eqb j.job job) jobs ≡ true
one_there [] job is = is
one_there (j ∷ js) job is = by (eqb j.job job) refl (one_there js job)
  where
    by : (b : Bool) → eqb j.job job ≡ b → (is_of_pending js job ≡ true → list_any (λ (k : JobRow). eqb k.job job) js ≡ true) → (eqb j.job job || list_any (λ (k : JobRow). eqb k.job job) js) ≡ true
    by true here later = ap (λ b. b || list_any (λ (k : JobRow). eqb k.job job) js) here
    by false here later =
        let there : is_of_pending js job ≡ true = sym (ap (λ b. for_some (cond b (Some j) (find (λ (k : JobRow). eqb k.job job) js)) is_pending_job) here) ∙ is in
        ap (λ b. b || list_any (λ (k : JobRow). eqb k.job job) js) here ∙ later there

all_weaker : {X : Type 0} (test other : X → Bool) → ((x : X) → test x ≡ true → other x ≡ true) → (xs : List X) → list_all test xs ≡ true → list_all other xs ≡ true
all_weaker test other weaker [] all = refl
all_weaker test other weaker (x ∷ xs) all =
    let both = and_both (test x) (list_all test xs) all in
    and_from _ _ (weaker x both.0) (all_weaker test other weaker xs both.1)

module _ (b : JobLists) (shows : ℕ) (kept : KeepsJobs b shows) where
  layers_by : (n : ℕ) (j : JobRow) → slice_get b.jobs n ≡ Some j → (c : Bool) → is_pending j.state ≡ c → are_layers j.job 0 (layers_of b.layers j.job) ≡ true
  layers_by n j at true is = numbered_layers j.job 0 (layers_of b.layers j.job) (filter_own j.job b.layers) (kept.jobs_layered n j at is).places
  layers_by n j at false is =
      let idle = ap (λ (o : Option JobRow). for_some o is_pending_job) (find_numbered j.job 0 b.jobs b.next_job n j (rise b shows kept) at refl) ∙ is in
      ap (are_layers j.job 0) (filter_none j.job b.layers (none_of b.jobs j.job b.layers kept.layers_owned idle))

  -- the layers are those of the jobs, one job after another
  pub owned : AreOwned b.jobs b.layers
  owned =
      owned_from b.jobs 0 b.layers b.next_job (rise b shows kept) (subst (λ (n : ℕ). IsRising layer_key n b.layers (MOST_LAYERS * b.next_job)) zero_first kept.layers_rise)
      (all_weaker is_formed_layer (λ (l : LayerRow). ltb l.place MOST_LAYERS) (λ l formed. lt-ltb l.place MOST_LAYERS (layer_formed l formed).place) b.layers kept.layers_formed)
      (all_weaker (λ (l : LayerRow). is_of_pending b.jobs l.job) (is_of_one b.jobs) (λ l pending. one_there b.jobs l.job pending) b.layers kept.layers_owned)
      (λ n j at. layers_by n j at (is_pending j.state) refl)
    where
      zero_first : 0 ≡ MOST_LAYERS * 0
      zero_first = omega arith
