-- What the book of attempts needs of subscriptions and slots that are given.
use Rattle.std.specs.Prelude.{ℕ, ◌≡◌, ◌≤◌, ◌<◌, ◌==◌, ◌&&◌, ◌+◌, ◌^◌, Bool, true, List, length, map, find, is_some, nat_lt, replicate, slice_get, Option, None, Some}
use Rattle.std.specs.List.{list_all}
use Rattle.farm_types.specs.declared.attempt.ProcRow.{ProcRow}
use Rattle.farm_types.specs.declared.limits.TheConstants.{MOST_HOSTS, SLOT_LIMIT}
use Rattle.farm_types.specs.declared.rows.SubRow.{SubRow}
use Rattle.farm_types.specs.declared.slot_row.SlotRow.{SlotRow}
use Rattle.farm_types.specs.Farm.{for_any}
use Rattle.farm_types.specs.Kept.{is_subscribed}
use Rattle.attempt_book.specs.Book.{AttemptLists, cores_booked}

-- each slot's live attempt, if it has one
abbrev pub procs_in : List SlotRow → List (Option ProcRow)
procs_in slots = map (λ (s : SlotRow). s.proc) slots

-- a live attempt has a host's number below the most, and its subscription is there
abbrev pub is_known_proc : List SubRow → Option ProcRow → Bool
is_known_proc subs proc = for_any proc (λ (p : ProcRow). nat_lt p.host MOST_HOSTS && is_subscribed subs p)

-- The slot is there and has no live attempt; the host's number is below the most; and the subscription is there, with a count of its cores of 32 bits.
pub record CanResume (b : AttemptLists) (slot : ℕ) (p : ProcRow) : Type 0 where
  pub free : slice_get b.procs slot ≡ Some None
  pub host_within : p.host < MOST_HOSTS
  pub there : is_some (find (λ s. s.sub == p.sub) b.subs) ≡ true
  pub room : cores_booked b.procs p.sub + p.cores < 2 ^ 32

-- where there is an attempt, it can go on in the slot, which has none
abbrev pub CanResumeIn : AttemptLists → ℕ → Option ProcRow → Type 0
CanResumeIn b slot None = slice_get b.procs slot ≡ Some None
CanResumeIn b slot (Some p) = CanResume b slot p

-- so many slots are there, without attempts, and these attempts can go on
pub record CanResumeAll (b : AttemptLists) (procs : List (Option ProcRow)) : Type 0 where
  pub count : length procs ≤ SLOT_LIMIT
  pub none : b.procs ≡ replicate (length procs) None
  pub known : list_all (is_known_proc b.subs) procs ≡ true
  pub booked : (n : ℕ) → cores_booked procs n < 2 ^ 32
