-- Jobs by keys that rise.
use Rattle.std.specs.Prelude.{ℕ, ◌≡◌, ◌==◌, ◌%◌, ◌<◌, ◌≤◌, Bool, false, List, [], ◌∷◌, map, length, nat_lt, if◌then◌else◌}
use Rattle.std.specs.List.{list_any}
use Rattle.farm_types.specs.Rising.{IsRising}
use Rattle.job_index.specs.declared.limits.TheConstants.{MOST_JOBS}
use Rattle.job_index.specs.declared.ready_jobs.TheConstants.{JOB_NUMBERS}

-- the job's number
abbrev pub job_of : ℕ → ℕ
job_of key = key % JOB_NUMBERS

abbrev pub itself : ℕ → ℕ
itself key = key

-- before the first greater key
abbrev pub put_key : ℕ → List ℕ → List ℕ
put_key key [] = key ∷ []
put_key key (k ∷ ks) = if nat_lt key k then key ∷ k ∷ ks else k ∷ put_key key ks

-- without the first key that is equal
abbrev pub drop_key : ℕ → List ℕ → List ℕ
drop_key key [] = []
drop_key key (k ∷ ks) = if k == key then ks else k ∷ drop_key key ks

abbrev pub sorted : List ℕ → List ℕ
sorted [] = []
sorted (k ∷ ks) = put_key k (sorted ks)

-- each key is a word, and none stands twice
abbrev pub AreKeys : List ℕ → Type 0
AreKeys [] = Unit {0}
AreKeys (k ∷ ks) = (k < 18446744073709551616) × (list_any (λ (n : ℕ). n == k) ks ≡ false) × AreKeys ks

-- ---- what is kept, and what can be put

-- the keys of one list rise, its jobs are theirs, and there is capacity for all jobs
pub record KeepsOrder (keys jobs : List ℕ) (keys_fit jobs_fit : ℕ) : Type 0 where
  pub rising : IsRising itself 0 keys 18446744073709551616
  pub jobs_are : jobs ≡ map job_of keys
  pub keys_capacity : MOST_JOBS ≤ keys_fit
  pub jobs_capacity : MOST_JOBS ≤ jobs_fit

-- the key isn't there, and one more fits
pub record CanPut (key : ℕ) (keys : List ℕ) : Type 0 where
  pub new : list_any (λ (k : ℕ). k == key) keys ≡ false
  pub few : length keys < MOST_JOBS
