-- What the book of attempts keeps true of its fields.
use Rattle.std.specs.Prelude.{ℕ, ◌≡◌, ◌≤◌, ◌<◌, ◌+◌, ◌^◌, ◌==◌, List, length, find, is_some, true, nat_lt, Option, Some, slice_get}
use Rattle.std.specs.List.{list_all}
use Rattle.std.specs.Vec.{vec_capacity}
use Rattle.farm_types.specs.declared.attempt.ProcRow.{ProcRow}
use Rattle.farm_types.specs.declared.rows.SubRow.{SubRow}
use Rattle.farm_types.specs.declared.limits.TheConstants.{MOST_HOSTS, SLOT_LIMIT, SUB_NUMBERS}
use Rattle.farm_types.specs.Sums.{total_at}
use Rattle.attempt_book.specs.declared.attempts.Attempts.TheInside.{Inside}
use Rattle.attempt_book.specs.Book.{AttemptLists, cores_booked, cores_used, memory_used}
use Rattle.attempt_book.specs.Way.{mark_on}

abbrev pub lists_of : Inside → AttemptLists
lists_of a = record { subs = a.subs.subs; procs = a.procs.items }

-- ---- live attempts

-- the attempt's host is below the most, its subscription is there, and its amounts are numbers of 32 and of 64 bits
pub record IsKnown (subs : List SubRow) (p : ProcRow) : Type 0 where
  pub host_within : p.host < MOST_HOSTS
  pub sub_there : is_some (find (λ s. s.sub == p.sub) subs) ≡ true
  pub cores_within : p.cores < 2 ^ 32
  pub memory_within : p.memory < 2 ^ 64

-- each live attempt is known, each subscription has a number below the most, and there are as many slots at most as there may be
pub record KeepsKnown (b : AttemptLists) : Type 0 where
  pub attempts_known : (i : ℕ) (p : ProcRow) → slice_get b.procs i ≡ Some (Some p) → IsKnown b.subs p
  pub subs_within : list_all (λ s. nat_lt s.sub SUB_NUMBERS) b.subs ≡ true
  pub count_within : length b.procs ≤ SLOT_LIMIT

-- ---- sums

-- what is booked, and what is used, is the sum over the live attempts, with a place for each subscription's and each host's number
pub record KeepsSums (procs : List (Option ProcRow)) (booked cores memory : List ℕ) : Type 0 where
  pub booked_kept : (n : ℕ) → total_at booked n ≡ cores_booked procs n
  pub cores_kept : (n : ℕ) → total_at cores n ≡ cores_used procs n
  pub memory_kept : (n : ℕ) → total_at memory n ≡ memory_used procs n
  pub booked_counted : length booked ≡ SUB_NUMBERS
  pub cores_counted : length cores ≡ MOST_HOSTS
  pub memory_counted : length memory ≡ MOST_HOSTS

-- ---- the way along a host's own attempts

-- at each host stands its first attempt, and at each live attempt the next one on its host
pub record KeepsWays (procs : List (Option ProcRow)) (first next : List ℕ) : Type 0 where
  pub first_kept : (n : ℕ) → n < MOST_HOSTS → total_at first n ≡ mark_on procs n 0
  pub next_kept : (i : ℕ) (p : ProcRow) → slice_get procs i ≡ Some (Some p) → total_at next i ≡ mark_on procs p.host (i + 1)
  pub first_counted : length first ≡ MOST_HOSTS
  pub next_counted : length next ≡ SLOT_LIMIT

-- ---- all

pub record KeepsAttempts (a : Inside) : Type 0 where
  pub known : KeepsKnown (lists_of a)
  pub sums : KeepsSums a.procs.items a.subs.booked a.cores.items a.memory.items
  pub ways : KeepsWays a.procs.items a.first.items a.next.items
  pub capacity : SLOT_LIMIT ≤ vec_capacity a.procs
