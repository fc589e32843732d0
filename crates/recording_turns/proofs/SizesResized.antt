-- Which host an entry gives another size.
use Rattle.std.proofs.Common.{◌≡◌, ◌≢◌, ◌⊎◌, ℕ, zero, suc, ◌≤◌, Bool, true, false, if◌then◌else◌, ◌==◌, ◌&&◌, ◌||◌, List, [], ◌∷◌, length, Option, Some, None, sym, refl, ap, subst, ◌∙◌, arith, ⊎_elim}
use Rattle.std.specs.Prelude.{not, option_map}
use Rattle.std.specs.List.{list_any, slice_get}
use Rattle.std.proofs.lemmas.Bool.{eq-eqb, eqb-true, false≢true}
use Rattle.std.proofs.lemmas.Option.{none-some, same_Some, slice_get_within}
use Rattle.farm_types.specs.declared.boot.BootLine.{BootLine}
use Rattle.farm_types.specs.declared.entry.Act.{Act}
use Rattle.farm_types.specs.declared.entry.Act.TheVariants.{Boot}
use Rattle.farm_types.specs.declared.entry.Entry.{Entry}
use Rattle.farm_types.specs.declared.rows.HostRow.{HostRow}
use Rattle.farm_types.specs.Farm.{Farm, host_named}
use Rattle.farm_types.specs.Kept.{IsKeptFarm}
use Rattle.farm_types.proofs.Lists.{and_both}
use Rattle.farm_rows.specs.declared.farm_row.FarmRow.{FarmRow}
use Rattle.farm_rows.specs.declared.farm_row.FarmRow.TheVariants as row
use Rattle.farm_rows.specs.declared.row_change.RowChange.{RowChange}
use Rattle.farm_rows.specs.declared.row_change.RowChange.TheVariants as change
use Rattle.farm_rows.specs.declared.row_key.RowKey.{RowKey}
use Rattle.farm_rows.specs.declared.row_key.RowKey.TheVariants as key
use Rattle.farm_rows.specs.Changes.{Differs, NamesExactly, change_key, is_key, is_named_by, row_at}
use Rattle.farm_rows.proofs.MadeRows.{is_key-true}
use Rattle.booking_rule.specs.Link.{host_cores, host_memory, of_host, stand_at}
use Rattle.booking_rule.specs.Resizing.{IsResized}
use Rattle.booking_rule.proofs.Moves.{same_not}
use Rattle.recording_turns.specs.Owing.{Resizes}
use Rattle.recording_turns.specs.Sizes.{earlier, first_resized, is_resized, resized_by, resized_row}

-- ---- the first of the changes

first_there : (f : Farm) (cs : List RowChange) (n : ℕ) (c : RowChange) (host : ℕ) → slice_get cs n ≡ Some c → resized_by f c ≡ Some host
    → (k : ℕ) × (first_resized f cs ≡ Some k)
first_there f [] n c host at by = absurd (none-some c at)
first_there f (x ∷ xs) n c host at by = go (λ m there. first_there f xs m c host there by) (resized_by f x) refl n at
  where
    go : ((m : ℕ) → slice_get xs m ≡ Some c → (k : ℕ) × (first_resized f xs ≡ Some k)) → (o : Option ℕ) → resized_by f x ≡ o → (n : ℕ)
        → slice_get (x ∷ xs) n ≡ Some c
        → (k : ℕ) × (first_resized f (x ∷ xs) ≡ Some k)
    go rest (Some k) e n at = (k, ap (λ (o : Option ℕ). earlier o (first_resized f xs)) e)
    go rest None e zero at = absurd (none-some host (sym e ∙ (ap (resized_by f) (same_Some x c at) ∙ by)))
    go rest None e (suc m) at = let r = rest m at in (r.0, ap (λ (o : Option ℕ). earlier o (first_resized f xs)) e ∙ r.1)

first_from : (f : Farm) (cs : List RowChange) (host : ℕ) → first_resized f cs ≡ Some host
    → (n : ℕ) × (c : RowChange) × (slice_get cs n ≡ Some c) × (resized_by f c ≡ Some host)
first_from f [] host is = absurd (none-some host is)
first_from f (x ∷ xs) host is = go (first_from f xs host) (resized_by f x) refl is
  where
    go : (first_resized f xs ≡ Some host → (n : ℕ) × (c : RowChange) × (slice_get xs n ≡ Some c) × (resized_by f c ≡ Some host)) → (o : Option ℕ)
        → resized_by f x ≡ o
        → earlier o (first_resized f xs) ≡ Some host → (n : ℕ) × (c : RowChange) × (slice_get (x ∷ xs) n ≡ Some c) × (resized_by f c ≡ Some host)
    go rest (Some k) e is = (zero, x, refl, e ∙ is)
    go rest None e is = let r = rest is in (suc r.0, r.1, r.2, r.3)

-- ---- what a change puts

row_puts : (f : Farm) (r : FarmRow) (host : ℕ) → resized_row f r ≡ Some host → (x : HostRow) × (r ≡ row.Host host x) × (is_resized f host x ≡ true)
row_puts f (row.Host h x) host by = go (is_resized f h x) refl by
  where
    go : (b : Bool) → is_resized f h x ≡ b → (if b then Some h else None) ≡ Some host
        → (y : HostRow) × (row.Host h x ≡ row.Host host y) × (is_resized f host y ≡ true)
    go true e by = let same = same_Some h host by in (x, ap (λ (k : ℕ). row.Host k x) same, ap (λ (k : ℕ). is_resized f k x) (sym same) ∙ e)
    go false e by = absurd (none-some host by)
row_puts f r host by = absurd (none-some host by)

change_puts : (f : Farm) (c : RowChange) (host : ℕ) → resized_by f c ≡ Some host
    → (x : HostRow) × (c ≡ change.Put (row.Host host x)) × (is_resized f host x ≡ true)
change_puts f (change.Put r) host by = let p = row_puts f r host by in (p.0, ap change.Put p.1, p.2)
change_puts f (change.Delete gone) host by = absurd (none-some host by)

-- a change of a host's row puts the row that is there
put_host : (f g : Farm) (c : RowChange) (host : ℕ) (now : HostRow) → change_key c ≡ key.Host host → slice_get g.hosts host ≡ Some now
    → Differs c (row_at f (change_key c)) (row_at g (change_key c)) → c ≡ change.Put (row.Host host now)
put_host f g (change.Put r) host now named at differs =
    ap change.Put (same_Some r (row.Host host now) (sym differs.0 ∙ (ap (row_at g) named ∙ ap (λ (o : Option HostRow). option_map (row.Host host) o) at)))
put_host f g (change.Delete gone) host now named at differs =
    absurd (none-some (row.Host host now) (sym differs.0 ∙ (ap (row_at g) named ∙ ap (λ (o : Option HostRow). option_map (row.Host host) o) at)))

abbrev host_row : HostRow → FarmRow → HostRow
host_row x (row.Host host r) = r
host_row x other = x

put_row : (host : ℕ) (x : HostRow) (o : Option HostRow) → option_map (row.Host host) o ≡ Some (row.Host host x) → o ≡ Some x
put_row host x None is = absurd (none-some (row.Host host x) is)
put_row host x (Some y) is = ap (λ (r : FarmRow). Some (host_row x r)) (same_Some (row.Host host y) (row.Host host x) is)

named_at : (k : RowKey) (cs : List RowChange) → list_any (is_named_by k) cs ≡ true
    → (n : ℕ) × (c : RowChange) × (slice_get cs n ≡ Some c) × (is_key (change_key c) k ≡ true)
named_at k [] any = absurd (false≢true any)
named_at k (x ∷ xs) any = go (named_at k xs) (is_key (change_key x) k) refl any
  where
    go : (list_any (is_named_by k) xs ≡ true → (n : ℕ) × (c : RowChange) × (slice_get xs n ≡ Some c) × (is_key (change_key c) k ≡ true)) → (b : Bool)
        → is_key (change_key x) k ≡ b → (b || list_any (is_named_by k) xs) ≡ true
        → (n : ℕ) × (c : RowChange) × (slice_get (x ∷ xs) n ≡ Some c) × (is_key (change_key c) k ≡ true)
    go rest true e any = (zero, x, refl, e)
    go rest false e any = let r = rest any in (suc r.0, r.1, r.2, r.3)

-- ---- other amounts

other_amounts : (a b m n : ℕ) → a ≢ 0 → ((a ≡ b) × (m ≡ n) → ⊥) → (not (a == 0) && not (a == b && m == n)) ≡ true
other_amounts a b m n some differs =
    let z : not (a == 0) ≡ true = ap not (same_not a 0 some) in
    let w = go (a == b) (m == n) refl refl in
    λ i. z i && w i
  where
    go : (x y : Bool) → (a == b) ≡ x → (m == n) ≡ y → not (x && y) ≡ true
    go true true e d = absurd (differs (eqb-true a b e, eqb-true m n d))
    go true false e d = refl
    go false y e d = refl

amounts_differ : (a b m n : ℕ) → (not (a == 0) && not (a == b && m == n)) ≡ true → (a ≢ 0) × ((a ≡ b) × (m ≡ n) → ⊥)
amounts_differ a b m n is =
    let both = and_both (not (a == 0)) (not (a == b && m == n)) is in
    let none : a ≢ 0 = λ e. false≢true (ap not (sym (eq-eqb a 0 e)) ∙ both.0) in
    let other : (a ≡ b) × (m ≡ n) → ⊥ = λ s. false≢true ((λ i. not (sym (eq-eqb a b s.0) i && sym (eq-eqb m n s.1) i)) ∙ both.1) in
    (none, other)

-- ---- hosts

host_by : (f : Farm) (host : ℕ) (o : Option HostRow) → slice_get f.hosts host ≡ o → of_host (λ r. r.cores) o ≢ 0
    → (r : HostRow) × (slice_get f.hosts host ≡ Some r)
host_by f host None at some = absurd (some refl)
host_by f host (Some r) at some = (r, at)

-- a host with a size is there
host_there : (f : Farm) (host : ℕ) → host_cores f host ≢ 0 → (r : HostRow) × (slice_get f.hosts host ≡ Some r)
unfolding host_cores
host_there f host some = host_by f host (slice_get f.hosts host) refl some

pub cores_is : (f : Farm) (host : ℕ) (r : HostRow) → slice_get f.hosts host ≡ Some r → host_cores f host ≡ r.cores
unfolding host_cores
cores_is f host r at = ap (of_host (λ r. r.cores)) at

pub memory_is : (f : Farm) (host : ℕ) (r : HostRow) → slice_get f.hosts host ≡ Some r → host_memory f host ≡ r.memory
unfolding host_memory
memory_is f host r at = ap (of_host (λ r. r.memory)) at

-- the farm gives the host another size
abbrev Changes : Farm → Farm → ℕ → Type 0
Changes f g host = IsResized (host_cores f host) (host_memory f host) g host

-- ---- one host at most

abbrev boot_name : Act → List ℕ
boot_name (Boot line) = line.host
boot_name other = []

-- what the law of boots says of a host
abbrev pub ByBoot : Farm → Farm → Entry → ℕ → Type 0
ByBoot f g e host =
    ((host_cores g host ≡ host_cores f host) × (host_memory g host ≡ host_memory f host))
    ⊎ ((line : BootLine) × (e.act ≡ Boot line) × (host_named f line.host ≡ Some host)
    × ((n : ℕ) → (stand_at g n).phase ≡ 4 → (stand_at g n).host ≡ host → ⊥))

booted : (f g : Farm) (e : Entry) (host : ℕ) → Changes f g host → ByBoot f g e host → host_named f (boot_name e.act) ≡ Some host
booted f g e host changes by =
    ⊎_elim
    (λ (s : (host_cores g host ≡ host_cores f host) × (host_memory g host ≡ host_memory f host)). absurd (changes.1 (sym s.0, sym s.1)))
    (λ (b : (line : BootLine) × (e.act ≡ Boot line) × (host_named f line.host ≡ Some host)
    × ((n : ℕ) → (stand_at g n).phase ≡ 4 → (stand_at g n).host ≡ host → ⊥)).
    ap (λ (a : Act). host_named f (boot_name a)) b.1 ∙ b.2)
    by

module _ (f g : Farm) (e : Entry) (cs : List RowChange) (exact : NamesExactly f g cs) (kept : IsKeptFarm f)
    (grows : (host : ℕ) (r : HostRow) → slice_get f.hosts host ≡ Some r → (now : HostRow) × (slice_get g.hosts host ≡ Some now))
    (stay : (host : ℕ) → row_at g (key.Host host) ≡ row_at f (key.Host host)
    → (host_cores g host ≡ host_cores f host) × (host_memory g host ≡ host_memory f host))
    (boots : (host : ℕ) (r : HostRow) → slice_get f.hosts host ≡ Some r → ByBoot f g e host) where
  one : (h k : ℕ) → Changes f g h → Changes f g k → h ≡ k
  one h k first second =
      let r = host_there f h first.0 in
      let s = host_there f k second.0 in
      same_Some h k (sym (booted f g e h first (boots h r.0 r.1)) ∙ booted f g e k second (boots k s.0 s.1))

  -- a host that gets another size has a change
  put_at : (host : ℕ) → Changes f g host → (n : ℕ) × (x : HostRow) × (slice_get cs n ≡ Some (change.Put (row.Host host x))) × (slice_get g.hosts host ≡ Some x)
  put_at host changes = go (list_any (is_named_by (key.Host host)) cs) refl
    where
      go : (b : Bool) → list_any (is_named_by (key.Host host)) cs ≡ b
          → (n : ℕ) × (x : HostRow) × (slice_get cs n ≡ Some (change.Put (row.Host host x))) × (slice_get g.hosts host ≡ Some x)
      go false none = let s = stay host (exact.rest (key.Host host) none) in absurd (changes.1 (sym s.0, sym s.1))
      go true any =
          let r = host_there f host changes.0 in
          let now = grows host r.0 r.1 in
          let c = named_at (key.Host host) cs any in
          let put = put_host f g c.1 host now.0 (is_key-true (change_key c.1) (key.Host host) c.3) now.1 (exact.each c.0 c.1 c.2) in
          (c.0, now.0, c.2 ∙ ap (λ (d : RowChange). Some d) put, now.1)

  found : (host : ℕ) → Changes f g host → (k : ℕ) × (first_resized f cs ≡ Some k)
  found host changes =
      let p = put_at host changes in
      let x = p.1 in
      let cores = cores_is g host x p.3 in
      let memory = memory_is g host x p.3 in
      let differs = other_amounts (host_cores f host) x.cores (host_memory f host) x.memory changes.0 (λ s. changes.1 (s.0 ∙ sym cores, s.1 ∙ sym memory)) in
      first_there f cs p.0 (change.Put (row.Host host x)) host p.2 (ap (λ (b : Bool). if b then Some host else None) differs)

  only : (host : ℕ) → first_resized f cs ≡ Some host → Changes f g host
  only host is =
      let from = first_from f cs host is in
      let p = change_puts f from.1 host from.3 in
      let x = p.0 in
      let differs = subst (λ (c : RowChange). Differs c (row_at f (change_key c)) (row_at g (change_key c))) p.1 (exact.each from.0 from.1 from.2) in
      let at = put_row host x (slice_get g.hosts host) differs.0 in
      let cores = cores_is g host x at in
      let memory = memory_is g host x at in
      let d = amounts_differ (host_cores f host) x.cores (host_memory f host) x.memory p.2 in
      (d.0, λ s. d.1 (s.0 ∙ cores, s.1 ∙ memory))

  pub resizes : Resizes f g (first_resized f cs)
  resizes = record {
    each = λ host lt changes. (let k = found host changes in k.1 ∙ ap (λ (n : ℕ). Some n) (one k.0 host (only k.0 k.1) changes));
    within = λ host is. (let r = host_there f host (only host is).0 in let count : length f.hosts ≤ 4096 = kept.rows.hosts.count in
        let lt = slice_get_within f.hosts host r.0 r.1 in omega (arith, count, lt));
    only = only;
  }
