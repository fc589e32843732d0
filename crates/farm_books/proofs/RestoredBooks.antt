-- What the books of given lists need is what each farm keeps: of the live attempts that their hosts and subscriptions are there, and that what is booked of
-- each subscription is a number of 32 bits.
use Rattle.std.proofs.Common.{◌≡◌, ℕ, ◌<◌, ◌≤◌, ◌^◌, true, List, [], ◌∷◌, length, Option, Some, None, refl, sym, subst, arith}
use Rattle.std.specs.Cmp.Derive.{both_true}
use Rattle.std.specs.List.{list_all}
use Rattle.std.proofs.lemmas.Bool.{lt-ltb}
use Rattle.farm_types.specs.declared.attempt.ProcRow.{ProcRow}
use Rattle.farm_types.specs.declared.limits.TheConstants.{MOST_HOSTS, MOST_SHOWS}
use Rattle.farm_types.specs.declared.rows.HostRow.{HostRow}
use Rattle.farm_types.specs.declared.rows.SubRow.{SubRow}
use Rattle.farm_types.specs.declared.slot_row.SlotRow.{SlotRow}
use Rattle.farm_types.specs.Farm.{Farm, for_any}
use Rattle.farm_types.specs.Jobs.{JobLists}
use Rattle.farm_types.specs.Kept.{KeepsJobs, KeepsRows, is_on_host, is_subscribed}
use Rattle.farm_types.specs.Sums.{booked_in, cores_in}
use Rattle.farm_types.proofs.Lists.{and_both}
use Rattle.farm_law.proofs.BookedOnHosts.{booked_within, host_there}
use Rattle.farm_law.proofs.KeptJobsFormed.{jobs_formed_more}
use Rattle.attempt_book.specs.Book.{cores_booked}
use Rattle.attempt_book.specs.Restore.{is_known_proc}
use Rattle.farm_books.specs.Install.{procs_of}
use Rattle.farm_books.proofs.SlotAttempts.{sum_of}

-- ---- jobs

-- jobs of so many shows are jobs of as many shows as there may be
pub most_shows : (b : JobLists) (shows : ℕ) → shows ≤ MOST_SHOWS → KeepsJobs b shows → KeepsJobs b MOST_SHOWS
most_shows b shows few kept =
    record {
      next_within = kept.next_within;
      finish_from = kept.finish_from;
      finish_within = kept.finish_within;
      finished_count = kept.finished_count;
      finishes_within = kept.finishes_within;
      finishes_differ = kept.finishes_differ;
      jobs_counted = kept.jobs_counted;
      jobs_rise = kept.jobs_rise;
      jobs_formed = jobs_formed_more shows MOST_SHOWS b.jobs few kept.jobs_formed;
      jobs_differ = kept.jobs_differ;
      jobs_layered = kept.jobs_layered;
      layers_rise = kept.layers_rise;
      layers_formed = kept.layers_formed;
      layers_owned = kept.layers_owned;
      slot_count = kept.slot_count;
      slots_kept = kept.slots_kept;
      frames_once = kept.frames_once;
      frames_there = kept.frames_there;
      ends_used = kept.ends_used;
    }

-- ---- the attempts' hosts and subscriptions

known_one : (hosts : List HostRow) (subs : List SubRow) (o : Option ProcRow) → length hosts ≤ MOST_HOSTS → for_any o (is_on_host hosts) ≡ true → for_any o (is_subscribed subs) ≡ true → is_known_proc subs o ≡ true
known_one hosts subs None few hosted subscribed = refl
known_one hosts subs (Some p) few hosted subscribed =
    let below : p.host < MOST_HOSTS = omega (arith, few, host_there hosts p hosted) in
    both_true (lt-ltb p.host MOST_HOSTS below) subscribed

all_known : (hosts : List HostRow) (subs : List SubRow) (slots : List SlotRow) → length hosts ≤ MOST_HOSTS → list_all (λ (s : SlotRow). for_any s.proc (is_on_host hosts)) slots ≡ true
    → list_all (λ (s : SlotRow). for_any s.proc (is_subscribed subs)) slots ≡ true → list_all (is_known_proc subs) (procs_of slots) ≡ true
all_known hosts subs [] few hosted subscribed = refl
all_known hosts subs (s ∷ ss) few hosted subscribed =
    let on = and_both (for_any s.proc (is_on_host hosts)) (list_all (λ (x : SlotRow). for_any x.proc (is_on_host hosts)) ss) hosted in
    let of = and_both (for_any s.proc (is_subscribed subs)) (list_all (λ (x : SlotRow). for_any x.proc (is_subscribed subs)) ss) subscribed in
    both_true (known_one hosts subs s.proc few on.0 of.0) (all_known hosts subs ss few on.1 of.1)

-- ---- what is booked

booked_32 : (f : Farm) → KeepsRows f → (sub : ℕ) → cores_booked (procs_of f.slots) sub < 2 ^ 32
booked_32 f kept sub =
    let all : cores_booked (procs_of f.slots) sub ≡ booked_in f sub = sum_of (cores_in sub) f.slots in
    omega (arith, all, booked_within f kept sub)

-- ---- the lists as they are read

pub known_in : (f : Farm) (subs : List SubRow) (slots : List SlotRow) → KeepsRows f → subs ≡ f.subs → slots ≡ f.slots → list_all (is_known_proc subs) (procs_of slots) ≡ true
known_in f subs slots kept same_subs same_slots =
    subst (λ (rows : List SubRow). list_all (is_known_proc rows) (procs_of slots) ≡ true) (sym same_subs)
    (subst (λ (rows : List SlotRow). list_all (is_known_proc f.subs) (procs_of rows) ≡ true) (sym same_slots)
    (all_known f.hosts f.subs f.slots kept.hosts.count kept.attempts.hosted kept.attempts.subscribed))

pub booked_in_slots : (f : Farm) (slots : List SlotRow) → KeepsRows f → slots ≡ f.slots → (sub : ℕ) → cores_booked (procs_of slots) sub < 2 ^ 32
booked_in_slots f slots kept same sub = subst (λ (rows : List SlotRow). cores_booked (procs_of rows) sub < 2 ^ 32) (sym same) (booked_32 f kept sub)
