-- The rows of shows, allocations, subscriptions and hosts say them.
use Rattle.std.proofs.Common.{◌≡◌, ◌≤◌, ◌<◌, ℕ, Bool, true, List, [], ◌∷◌, ◌++◌, length, Option, Result, refl, ap, sym, subst, ◌∙◌, arith, ltb, leb, map}
use Rattle.std.specs.List.{list_all}
use Rattle.std.proofs.lemmas.Bool.{eq-eqb, lt-ltb}
use Rattle.std.specs.Cmp.Derive.{both_true}
use Rattle.farm_types.specs.declared.rows.AllocRow.{AllocRow}
use Rattle.farm_types.specs.declared.rows.HostRow.{HostRow}
use Rattle.farm_types.specs.declared.rows.ShowRow.{ShowRow}
use Rattle.farm_types.specs.declared.rows.SubRow.{SubRow}
use Rattle.farm_types.specs.declared.limits.TheConstants.{MOST_ALLOCS, MOST_HOSTS, MOST_SHOWS, SUB_NUMBERS}
use Rattle.farm_types.specs.Farm.{Farm}
use Rattle.farm_types.specs.Kept.{AllDiffer, KeepsRows, alloc_label, host_label, is_formed_alloc, is_formed_host, is_formed_show, is_kept_sub, show_label}
use Rattle.farm_types.specs.Rising.{sub_key}
use Rattle.farm_rows.specs.declared.farm_row.FarmRow.{FarmRow}
use Rattle.farm_rows.specs.declared.farm_row.FarmRow.TheVariants as row
use Rattle.farm_rows.specs.Recovery.{Said, StoredKey, alloc_fits, farm_with, host_fits, show_fits}
use Rattle.farm_rows.specs.Rows.{numbered}
use Rattle.recovery_law.proofs.Firsts.{by_keys, first_fewer, new_label, next_passes, numbered_map}
use Rattle.recovery_law.proofs.Parts.{upto_allocs, upto_hosts, upto_shows, upto_subs}
use Rattle.recovery_law.proofs.Stage.{IsPast, Kind, Stage, all_staged, by_places}

-- ---- the kinds

abbrev pub show_rows : Farm → Kind ShowRow
show_rows f = record { kind = 2; make = λ n x. row.Show n x; id = λ n x. n; farm = upto_shows f }

abbrev pub alloc_rows : Farm → Kind AllocRow
alloc_rows f = record { kind = 3; make = λ n x. row.Alloc n x; id = λ n x. n; farm = upto_allocs f }

abbrev pub sub_rows : Farm → Kind SubRow
sub_rows f = record { kind = 4; make = λ n x. row.Sub x; id = λ n x. sub_key x; farm = upto_subs f }

abbrev pub host_rows : Farm → Kind HostRow
host_rows f = record { kind = 5; make = λ n x. row.Host n x; id = λ n x. n; farm = upto_hosts f }

-- the place and the count of one more
fewer : {X : Type 0} (done rest all : List X) (x : X) (most : ℕ) → done ++ x ∷ rest ≡ all → length all ≤ most → length done < most
fewer done rest all x most is count =
    let within = first_fewer done rest x in
    let same = ap length is in
    omega (arith, within, same, count)

module _ (format : ℕ) (f : Farm) (k : KeepsRows f) where
  show_fit : (done : List ShowRow) (x : ShowRow) (rest : List ShowRow) → done ++ x ∷ rest ≡ f.shows → show_fits (upto_shows f done) (length done) x ≡ true
  show_fit done x rest is =
      both_true (eq-eqb (length done) (length done) refl)
      (both_true (lt-ltb (length done) MOST_SHOWS (fewer done rest f.shows x MOST_SHOWS is k.shows.count))
      (both_true (next_passes is_formed_show done rest x (subst (λ (xs : List ShowRow). list_all is_formed_show xs ≡ true) (sym is) k.shows.formed))
      (new_label show_label done rest x (subst (λ (xs : List ShowRow). AllDiffer show_label xs) (sym is) k.shows.differ))))

  shows_stage : Stage format (show_rows f) f.shows
  shows_stage = record { keys = λ n x. refl; formats = λ n x. refl; adds = λ done x. refl; fits = show_fit }

  alloc_fit : (done : List AllocRow) (x : AllocRow) (rest : List AllocRow) → done ++ x ∷ rest ≡ f.allocs → alloc_fits (upto_allocs f done) (length done) x ≡ true
  alloc_fit done x rest is =
      both_true (eq-eqb (length done) (length done) refl)
      (both_true (lt-ltb (length done) MOST_ALLOCS (fewer done rest f.allocs x MOST_ALLOCS is k.allocs.count))
      (both_true (next_passes is_formed_alloc done rest x (subst (λ (xs : List AllocRow). list_all is_formed_alloc xs ≡ true) (sym is) k.allocs.formed))
      (new_label alloc_label done rest x (subst (λ (xs : List AllocRow). AllDiffer alloc_label xs) (sym is) k.allocs.differ))))

  allocs_stage : Stage format (alloc_rows f) f.allocs
  allocs_stage = record { keys = λ n x. refl; formats = λ n x. refl; adds = λ done x. refl; fits = alloc_fit }

  sub_fit : (done : List SubRow) (x : SubRow) (rest : List SubRow) → done ++ x ∷ rest ≡ f.subs → is_kept_sub (length f.shows) (length f.allocs) x ≡ true
  sub_fit done x rest is = next_passes (is_kept_sub (length f.shows) (length f.allocs)) done rest x (subst (λ (xs : List SubRow). list_all (is_kept_sub (length f.shows) (length f.allocs)) xs ≡ true) (sym is) k.subs.each)

  subs_stage : Stage format (sub_rows f) f.subs
  subs_stage = record { keys = λ n x. refl; formats = λ n x. refl; adds = λ done x. refl; fits = sub_fit }

  host_fit : (done : List HostRow) (x : HostRow) (rest : List HostRow) → done ++ x ∷ rest ≡ f.hosts → host_fits (upto_hosts f done) (length done) x ≡ true
  host_fit done x rest is =
      both_true (eq-eqb (length done) (length done) refl)
      (both_true (lt-ltb (length done) MOST_HOSTS (fewer done rest f.hosts x MOST_HOSTS is k.hosts.count))
      (both_true (next_passes is_formed_host done rest x (subst (λ (xs : List HostRow). list_all is_formed_host xs ≡ true) (sym is) k.hosts.formed))
      (both_true (new_label host_label done rest x (subst (λ (xs : List HostRow). AllDiffer host_label xs) (sym is) k.hosts.differ))
      (both_true (next_passes in_alloc done rest x (subst (λ (xs : List HostRow). list_all in_alloc xs ≡ true) (sym is) k.hosts.allocated))
      (next_passes was_heard done rest x (subst (λ (xs : List HostRow). list_all was_heard xs ≡ true) (sym is) k.hosts.heard))))))
    where
      in_alloc : HostRow → Bool
      in_alloc row = ltb row.alloc (length f.allocs)

      was_heard : HostRow → Bool
      was_heard row = leb row.heard f.moment

  hosts_stage : Stage format (host_rows f) f.hosts
  hosts_stage = record { keys = λ n x. refl; formats = λ n x. refl; adds = λ done x. refl; fits = host_fit }

  -- what they say with the rows after them
  pub shows_said : (more : List FarmRow) (said : Result Said StoredKey) → ((last : Option StoredKey) → IsPast last 2 → farm_with format last (upto_shows f f.shows) more ≡ said)
      → (last : Option StoredKey) → IsPast last 1 → farm_with format last (upto_shows f []) (numbered row.Show 0 f.shows ++ more) ≡ said
  shows_said more said next last past = all_staged format (show_rows f) f.shows shows_stage more said next last 0 1 (omega arith) (by_places 0 f.shows) past

  pub allocs_said : (more : List FarmRow) (said : Result Said StoredKey) → ((last : Option StoredKey) → IsPast last 3 → farm_with format last (upto_allocs f f.allocs) more ≡ said)
      → (last : Option StoredKey) → IsPast last 2 → farm_with format last (upto_allocs f []) (numbered row.Alloc 0 f.allocs ++ more) ≡ said
  allocs_said more said next last past = all_staged format (alloc_rows f) f.allocs allocs_stage more said next last 0 2 (omega arith) (by_places 0 f.allocs) past

  pub subs_said : (more : List FarmRow) (said : Result Said StoredKey) → ((last : Option StoredKey) → IsPast last 4 → farm_with format last (upto_subs f f.subs) more ≡ said)
      → (last : Option StoredKey) → IsPast last 3 → farm_with format last (upto_subs f []) (map row.Sub f.subs ++ more) ≡ said
  subs_said more said next last past =
      ap (λ (rows : List FarmRow). farm_with format last (upto_subs f []) (rows ++ more)) (sym (numbered_map row.Sub 0 f.subs))
      ∙ all_staged format (sub_rows f) f.subs subs_stage more said next last 0 3 (omega arith) (by_keys sub_key 0 0 f.subs SUB_NUMBERS k.subs.rise) past

  pub hosts_said : (more : List FarmRow) (said : Result Said StoredKey) → ((last : Option StoredKey) → IsPast last 5 → farm_with format last (upto_hosts f f.hosts) more ≡ said)
      → (last : Option StoredKey) → IsPast last 4 → farm_with format last (upto_hosts f []) (numbered row.Host 0 f.hosts ++ more) ≡ said
  hosts_said more said next last past = all_staged format (host_rows f) f.hosts hosts_stage more said next last 0 4 (omega arith) (by_places 0 f.hosts) past
