-- What a boot tells is the host's boot number from then on, with the boot's nonce.
use Rattle.std.proofs.Common.{◌≡◌, ◌+◌, ℕ, suc, Bool, true, false, cond, eqb, List, [], ◌∷◌, ◌++◌, length, Option, None, Some, refl, sym, ap, ◌∙◌, arith}
use Rattle.std.specs.List.{slice_get}
use Rattle.std.specs.Prelude.{bytes_eq, option_and_then, option_map}
use Rattle.std.proofs.lemmas.Bool.{eqb-true}
use Rattle.std.proofs.lemmas.Slice.Eq.{bytes_eq-Decides}
use Rattle.std.proofs.lemmas.Option.{none-some, same_Some, slice_get-map}
use Rattle.farm_types.specs.declared.boot.BootLine.{BootLine}
use Rattle.farm_types.specs.declared.entry.Act.TheVariants.{Boot}
use Rattle.farm_types.specs.declared.refusal.Refusal.TheVariants.{Unknown}
use Rattle.farm_types.specs.declared.rows.HostRow.{HostRow}
use Rattle.farm_types.specs.EntryAnswers.{boot_number, row_named}
use Rattle.farm_types.specs.Farm.{Farm, alloc_named, host_from, host_named}
use Rattle.farm_types.specs.Hosts.{booted_at, booted_row, down_row, is_same_life, is_unheard, new_host, silenced, silenced_row}
use Rattle.farm_types.specs.Run.{IsLegalStep}
use Rattle.farm_types.specs.Step.{after, after_boot, at_moment, boot_refusal, expire, moment_of}
use Rattle.farm_types.proofs.Changed.{changed_at_same}
use Rattle.farm_types.proofs.Passes.{cond_each}
use Rattle.farm_law.proofs.KeptBoots.{named_silenced}
use Rattle.farm_law.proofs.KeptRuns.{act_accepted}
use Rattle.world_law.specs.Boots.{CameToBoot}
use Rattle.world_law.proofs.Each.{has_last}
use Rattle.world_law.proofs.HostsGo.{booted_hosts, named_later}

-- ---- a host is found under its name

-- a new host under a name that none has
named_last : (place : ℕ) (name : List ℕ) (hosts : List HostRow) (new : HostRow) → bytes_eq new.name name ≡ true → host_from place name hosts ≡ None
    → host_from place name (hosts ++ new ∷ []) ≡ Some (place + length hosts)
named_last place name [] new is none = ap (λ (b : Bool). cond b (Some place) None) is ∙ ap Some (omega arith)
named_last place name (row ∷ rows) new is none = by (bytes_eq row.name name) none (λ left. named_last (place + 1) name rows new is left)
  where
    by : (b : Bool) → cond b (Some place) (host_from (place + 1) name rows) ≡ None
        → (host_from (place + 1) name rows ≡ None → host_from (place + 1) name (rows ++ new ∷ []) ≡ Some (place + 1 + length rows))
        → cond b (Some place) (host_from (place + 1) name (rows ++ new ∷ [])) ≡ Some (place + length (row ∷ rows))
    by true left later = absurd (none-some place (sym left))
    by false left later = later left ∙ ap Some (omega arith)

-- a name that is found is that of a row
found_from : (place : ℕ) (name : List ℕ) (hosts : List HostRow) (n : ℕ) → host_from place name hosts ≡ Some n → (k : ℕ) × (n ≡ place + k) × ((row : HostRow) × (slice_get hosts k ≡ Some row))
found_from place name [] n is = absurd (none-some n is)
found_from place name (row ∷ rows) n is = by (bytes_eq row.name name) is (λ left. found_from (place + 1) name rows n left)
  where
    by : (b : Bool) → cond b (Some place) (host_from (place + 1) name rows) ≡ Some n
        → (host_from (place + 1) name rows ≡ Some n → (k : ℕ) × (n ≡ place + 1 + k) × ((x : HostRow) × (slice_get rows k ≡ Some x)))
        → (k : ℕ) × (n ≡ place + k) × ((x : HostRow) × (slice_get (row ∷ rows) k ≡ Some x))
    by true found later = let same = same_Some place n found in (0, omega (arith, same), (row, refl))
    by false found later = let rest = later found in let at = rest.1 in (suc rest.0, omega (arith, at), rest.2)

pub host_found : (f : Farm) (name : List ℕ) (n : ℕ) → host_named f name ≡ Some n → (row : HostRow) × (slice_get f.hosts n ≡ Some row)
host_found f name n is =
    let found = found_from 0 name f.hosts n is in
    let same : n ≡ found.0 = let at = found.1 in omega (arith, at) in
    (found.2.0, ap (slice_get f.hosts) same ∙ found.2.1)

-- ---- the row of a host that boots

silenced_life : (moment : ℕ) (row : HostRow) → ((silenced_row moment row).boot ≡ row.boot) × ((silenced_row moment row).nonce ≡ row.nonce)
silenced_life moment row = cond_each (λ (x : HostRow). (x.boot ≡ row.boot) × (x.nonce ≡ row.nonce)) (is_unheard moment row) (down_row row) row (refl, refl) (refl, refl)

-- its boot number is the one that is told, and its nonce the line's
abbrev IsBooted : BootLine → HostRow → HostRow → Type 0
IsBooted line was now = (now.boot ≡ boot_number line (Some was)) × (now.nonce ≡ line.nonce)

life_boots : (line : BootLine) (moment : ℕ) (was silent : HostRow) → silent.boot ≡ was.boot → silent.nonce ≡ was.nonce → IsBooted line was (booted_row line moment silent)
life_boots line moment was silent boot nonce = by (is_same_life line was) refl
  where
    by : (b : Bool) → eqb was.nonce line.nonce ≡ b → IsBooted line was (booted_row line moment silent)
    by true same =
        let alike : eqb silent.nonce line.nonce ≡ true = ap (λ (n : ℕ). eqb n line.nonce) nonce ∙ same in
        rw (alike, same) (boot, nonce ∙ eqb-true was.nonce line.nonce same)
    by false apart =
        let other : eqb silent.nonce line.nonce ≡ false = ap (λ (n : ℕ). eqb n line.nonce) nonce ∙ apart in
        rw (other, apart) (ap (λ (n : ℕ). n + 1) boot, refl)

-- ---- the farm after the boot

module _ (f g : Farm) (line : BootLine) where
  -- the number is the host's boot number
  abbrev pub Came : Type 0
  Came = (came : CameToBoot g line.host (boot_number line (row_named f line)) line.nonce) × (boot_number line (row_named f line) ≡ came.row.boot)

module _ (f g : Farm) (line : BootLine) (alloc moment : ℕ) where
  abbrev quiet : List HostRow
  quiet = silenced moment f.hosts

  new_came : host_named f line.host ≡ None → g.hosts ≡ quiet ++ new_host line alloc moment ∷ [] → Came f g line
  new_came named hosts =
      let new = new_host line alloc moment in
      let number : boot_number line (row_named f line) ≡ 1 = ap (λ (o : Option ℕ). boot_number line (option_and_then (λ host. slice_get f.hosts host) o)) named in (
        record {
          place = length quiet;
          row = new;
          named = ap (host_from 0 line.host) hosts ∙ (named_last 0 line.host quiet new ((bytes_eq-Decides line.host line.host).1 refl) (named_silenced moment 0 line.host f.hosts ∙ named) ∙ ap Some (omega arith));
          there = ap (λ (rows : List HostRow). slice_get rows (length quiet)) hosts ∙ has_last quiet new;
          reached = omega (arith, number);
          with_nonce = λ same. refl;
        },
        number,
      )

  kept_came : (host : ℕ) (was : HostRow) → host_named f line.host ≡ Some host → slice_get f.hosts host ≡ Some was → g.hosts ≡ booted_at quiet line alloc moment (Some host) → Came f g line
  kept_came host was named there hosts =
      let silent = silenced_life moment was in
      let at : slice_get quiet host ≡ Some (silenced_row moment was) = slice_get-map (silenced_row moment) f.hosts host ∙ ap (option_map (silenced_row moment)) there in
      let boots = life_boots line moment was (silenced_row moment was) silent.0 silent.1 in
      let number : boot_number line (row_named f line) ≡ boot_number line (Some was) =
      ap (λ (o : Option ℕ). boot_number line (option_and_then (λ host. slice_get f.hosts host) o)) named ∙ ap (boot_number line) there in
      let goes = booted_hosts (record f { hosts = quiet }) line alloc moment (Some host) in
      let told = boots.0 in (
        record {
          place = host;
          row = booted_row line moment (silenced_row moment was);
          named =
              ap (host_from 0 line.host) hosts
              ∙ named_later (record f { hosts = quiet }) (record f { hosts = booted_at quiet line alloc moment (Some host) }) goes line.host host
              (named_silenced moment 0 line.host f.hosts ∙ named);
          there = ap (λ (rows : List HostRow). slice_get rows host) hosts ∙ changed_at_same quiet host (booted_row line moment) (silenced_row moment was) at;
          reached = omega (arith, number, told);
          with_nonce = λ same. sym boots.1;
        },
        number ∙ sym told,
      )

  came_by : (o : Option ℕ) → host_named f line.host ≡ o → g.hosts ≡ booted_at quiet line alloc moment o → Came f g line
  came_by None named hosts = new_came named hosts
  came_by (Some host) named hosts = let row = host_found f line.host host named in kept_came host row.0 named row.1 hosts

  pub boot_came : g.hosts ≡ booted_at quiet line alloc moment (host_from 0 line.host quiet) → Came f g line
  boot_came hosts =
      came_by (host_named f line.host) refl (hosts ∙ ap (booted_at quiet line alloc moment) (named_silenced moment 0 line.host f.hosts))

after_came : (f : Farm) (line : BootLine) (moment : ℕ) (o : Option ℕ) → boot_refusal f line o ≡ None
    → Came f (after_boot (expire (at_moment f moment) moment) line moment o) line
after_came f line moment None none = absurd (none-some (Unknown line.alloc) (sym none))
after_came f line moment (Some alloc) none = boot_came f (after_boot (expire (at_moment f moment) moment) line moment (Some alloc)) line alloc moment refl

-- what the farm answers to a boot that it takes
pub told_boot : (f : Farm) (moment : ℕ) (line : BootLine) → IsLegalStep f (record { moment = moment; act = Boot line })
    → Came f (after f (record { moment = moment; act = Boot line })) line
told_boot f moment line legal =
    after_came f line (moment_of f moment) (alloc_named f line.alloc) (act_accepted f (record { moment = moment; act = Boot line }) legal)
