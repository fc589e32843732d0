-- What is offered of the index's list, piece by piece.
use Rattle.std.specs.Prelude.{ℕ, zero, suc, ◌+◌, ◌&&◌, ◌≡◌, ◌<◌, Bool, true, false, List, [], ◌∷◌, ◌++◌, take, map, nat_le, slice_get, Some}
use Rattle.farm_types.specs.declared.dispatch.Candidate.{Candidate}
use Rattle.farm_types.specs.declared.dispatch.Rank.{Rank}
use Rattle.farm_types.specs.declared.rows.JobRow.{JobRow}
use Rattle.farm_types.specs.declared.rows.HostRow.{HostRow}
use Rattle.farm_types.specs.declared.rows.SubRow.{SubRow}
use Rattle.farm_types.specs.Dispatch.{with_found}
use Rattle.farm_types.specs.Farm.{Farm, job_at, sub_at, sub_of}
use Rattle.farm_types.specs.Kept.{is_pending_job}
use Rattle.farm_types.specs.Sums.{booked_in, used_cores, used_memory}
use Rattle.farm_types.specs.declared.limits.TheConstants.{CANDIDATES_EACH, LEAST_CORES, LEAST_MEMORY, MOST_SHOWS}
use Rattle.dispatch_law.specs.ByIndex.{show_of}

abbrev pub candidates_of : List Rank → List Candidate
candidates_of ranks = map (λ (r : Rank). r.candidate) ranks

-- the first candidates of those that were offered and of some more
unfoldable pub offered : List Candidate → List Rank → List Candidate
offered plan ranks = take CANDIDATES_EACH (plan ++ candidates_of ranks)

-- a pending job of the farm has the number
pub record IsPending (f : Farm) (number : ℕ) : Type 0 where
  pub job : JobRow
  pub place : ℕ
  pub at : slice_get f.jobs place ≡ Some job
  pub number_is : job.job ≡ number
  pub pending : is_pending_job job ≡ true

-- attempts of the job on the host are of the subscription of that number
abbrev pub IsBilled : Farm → ℕ → ℕ → ℕ → Type 0
IsBilled f host job sub = (j : JobRow) (row : HostRow) → job_at f job ≡ Some j → slice_get f.hosts host ≡ Some row → sub_of j.show row.alloc ≡ sub

-- the plan with the candidate, where it may be booked
abbrev pub with_candidate : Bool → List Candidate → Candidate → List Candidate
with_candidate true plan c = plan ++ c ∷ []
with_candidate false plan c = plan

-- the subscriptions to an allocation of so many shows, from one on
abbrev pub subs_from : Farm → ℕ → ℕ → ℕ → List SubRow
subs_from f alloc show zero = []
subs_from f alloc show (suc count) = with_found (sub_at f (sub_of show alloc)) (subs_from f alloc (show + 1) count)

-- the subscription of that number is the one of the show and the host's allocation
abbrev pub IsShowBilled : Farm → ℕ → ℕ → ℕ → Type 0
IsShowBilled f host show sub = (row : HostRow) → slice_get f.hosts host ≡ Some row → sub_of show row.alloc ≡ sub

-- the subscription is there, to the host's allocation, of a show that there can be
pub record IsToHost (f : Farm) (host : ℕ) (s : SubRow) : Type 0 where
  pub there : sub_at f s.sub ≡ Some s
  pub show_within : show_of s < MOST_SHOWS
  pub billed : IsShowBilled f host (show_of s) s.sub

abbrev pub AreBilled : Farm → ℕ → List SubRow → Type 0
AreBilled f host subs = (n : ℕ) (s : SubRow) → slice_get subs n ≡ Some s → IsToHost f host s

-- the subscription's burst has the least cores of a layer left
abbrev pub has_least_left : Farm → SubRow → Bool
has_least_left f s = nat_le (booked_in f s.sub + LEAST_CORES) s.burst

-- the host has the least amounts of a layer free
abbrev pub has_least_free : Farm → ℕ → HostRow → Bool
has_least_free f host row = nat_le (used_cores f host + LEAST_CORES) row.cores && nat_le (used_memory f host + LEAST_MEMORY) row.memory
