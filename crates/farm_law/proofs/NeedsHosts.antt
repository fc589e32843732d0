-- Safety needs that the first farm has its hosts: in a sound farm a live attempt may name a host that isn't there, and the next new host
-- has that number.
use Rattle.std.proofs.Common.{◌≡◌, ◌≤◌, ℕ, suc, zero, List, [], ◌∷◌, Some, refl, subst, arith}
use Rattle.std.specs.Prelude.{pos, codes}
use Rattle.std.specs.List.{slice_get}
use Rattle.std.proofs.lemmas.Option.{none-some, same_Some}
use Rattle.farm_types.specs.declared.boot.BootLine.{BootLine}
use Rattle.farm_types.specs.declared.entry.Entry.{Entry}
use Rattle.farm_types.specs.declared.entry.Act.TheVariants.{Boot}
use Rattle.farm_types.specs.declared.slot_row.SlotRow.{SlotRow}
use Rattle.farm_types.specs.declared.states.FrameState.TheVariants.{Running}
use Rattle.farm_types.specs.Farm.{Farm, empty_farm}
use Rattle.farm_types.specs.Formed.{IsFormedBoot}
use Rattle.farm_types.specs.Hosts.{new_host}
use Rattle.farm_types.specs.Run.{IsSound, IsLegal, IsSafe, HasItsAttempt}

-- a frame that runs with one core on the first host
abbrev running_slot : SlotRow
running_slot =
    record {
      version = 1;
      frame = Some (record { job = 1; layer = 0; position = 0; number = pos 1; retries = 0; state = Running });
      proc = Some (record { slot = 0; version = 1; host = 0; boot = 1; cores = 100; memory = 262144; sub = 0; since = 0 });
    }

-- a farm with such a frame, and no host
abbrev hostless : Farm
hostless = record empty_farm { allocs = record { facility = codes "f"; tag = codes "t" } ∷ []; slots = running_slot ∷ [] }

-- a host with less than one core
abbrev small_boot : BootLine
small_boot = record { host = codes "h"; nonce = 1; alloc = codes "f.t"; tags = []; cores = 50; memory = 262144 }

abbrev boots : List Entry
boots = record { moment = 0; act = Boot small_boot } ∷ []

hostless_attempts : (i : ℕ) (s : SlotRow) → slice_get hostless.slots i ≡ Some s → HasItsAttempt i s.version s.frame s.proc
hostless_attempts zero s at = subst (λ (x : SlotRow). HasItsAttempt 0 x.version x.frame x.proc) (same_Some running_slot s at) (refl, refl)
hostless_attempts (suc i) s at = absurd (none-some s at)

hostless_sound : IsSound hostless
hostless_sound = record { cores = λ n row at. absurd (none-some row at); memory = λ n row at. absurd (none-some row at); attempts = hostless_attempts }

small_formed : IsFormedBoot small_boot
small_formed =
    record {
      host = refl;
      nonce_within = omega arith;
      tags = refl;
      limits = record { tags_within = omega arith; cores_within = (omega arith, omega arith); memory_within = (omega arith, omega arith) };
    }

boots_legal : IsLegal hostless boots
boots_legal = (record { formed = record { moment_within = omega arith; act_formed = small_formed }; accepted = refl; condition = tt }, tt)

-- the new host has 50 hundredths of a core, and 100 are used of it
boots_unsafe : IsSafe hostless boots → ⊥
boots_unsafe safe =
    let past : 100 ≤ 50 = safe.steps.2.cores 0 (new_host small_boot 0 0) refl in
    omega (arith, past)

pub needs_hosts : (f : Farm) × (es : List Entry) × IsSound f × IsLegal f es × (IsSafe f es → ⊥)
needs_hosts = (hostless, boots, hostless_sound, boots_legal, boots_unsafe)
