-- The turns of exactly the rows in which two farms differ cover what differs.
use Rattle.std.proofs.Common.{◌≡◌, ℕ, zero, suc, ◌≤◌, ◌<◌, ◌⊎◌, inl, inr, Bool, true, false, if◌then◌else◌, ◌&&◌, ◌||◌, ◌==◌, ◌+◌, List, [], ◌∷◌, length, Option, Some, None, is_some, refl, sym, ap, subst, ◌∙◌, arith, lt-ltb, ltb-true}
use Rattle.std.specs.Prelude.{find, nat_lt, option_and_then, option_map}
use Rattle.std.specs.List.{list_all, list_any, slice_get}
use Rattle.std.specs.Cmp.Derive.{both_true}
use Rattle.std.proofs.lemmas.Bool.{eqb-true, false≢true, true≢false}
use Rattle.std.proofs.lemmas.Option.{none-some, same_Some}
use Rattle.farm_types.specs.declared.limits.TheConstants.{MOST_HOSTS, MOST_LIMITS, SLOT_LIMIT, SUB_NUMBERS}
use Rattle.farm_types.specs.declared.rows.HostRow.{HostRow}
use Rattle.farm_types.specs.declared.rows.LimitRow.{LimitRow}
use Rattle.farm_types.specs.declared.rows.SubRow.{SubRow}
use Rattle.farm_types.specs.declared.slot_row.SlotRow.{SlotRow}
use Rattle.farm_types.specs.Farm.{Farm, sub_at}
use Rattle.farm_types.specs.Kept.{IsKeptFarm}
use Rattle.farm_types.specs.Rising.{IsRising, sub_key}
use Rattle.farm_types.proofs.Lists.{and_both, find_passes, found_is}
use Rattle.farm_rows.specs.declared.farm_row.FarmRow.{FarmRow}
use Rattle.farm_rows.specs.declared.farm_row.FarmRow.TheVariants as row
use Rattle.farm_rows.specs.declared.row_change.RowChange.{RowChange}
use Rattle.farm_rows.specs.declared.row_change.RowChange.TheVariants as change
use Rattle.farm_rows.specs.declared.row_key.RowKey.{RowKey}
use Rattle.farm_rows.specs.declared.row_key.RowKey.TheVariants as key
use Rattle.farm_rows.specs.Changes.{Differs, NamesExactly, change_key, is_key, is_named_by, row_at, used_row}
use Rattle.farm_rows.proofs.MadeRows.{is_key-same, is_key-true}
use Rattle.booking_rule.specs.Link.{burst_at, host_alloc, host_cores, host_memory, most_at, of_host, stand_at}
use Rattle.farm_stands.specs.declared.turn.Turn.{Turn}
use Rattle.farm_stands.specs.declared.turn.Turn.TheVariants as turn
use Rattle.farm_stands.specs.Turns.{Covers, IsInTable, Says, has_turn, host_turn, keeps_size, size_at, turn_for, turn_key, turn_of, turns_of, with_turn}
use Rattle.farm_stands.proofs.Fitting.{got_below}

-- ---- a turn's row

key_by : (x t : Turn) (k : RowKey) → turn_key x ≡ k → Some x ≡ Some t → turn_key t ≡ k
key_by x t k named is = subst (λ (y : Turn). turn_key y ≡ k) (same_Some x t is) named

pub key_is : (f : Farm) (k : RowKey) (t : Turn) → turn_of f k ≡ Some t → turn_key t ≡ k
key_is f (key.Frame slot) t is = key_by _ t (key.Frame slot) refl is
key_is f (key.Host host) t is = key_by _ t (key.Host host) refl is
key_is f (key.Sub sub) t is = key_by _ t (key.Sub sub) refl is
key_is f (key.Limit limit) t is = key_by _ t (key.Limit limit) refl is
key_is f key.Head t is = absurd (none-some t is)
key_is f (key.Show show) t is = absurd (none-some t is)
key_is f (key.Alloc alloc) t is = absurd (none-some t is)
key_is f (key.Job job) t is = absurd (none-some t is)
key_is f (key.Layer job place) t is = absurd (none-some t is)
key_is f (key.Depend depend) t is = absurd (none-some t is)
key_is f (key.Met depend position) t is = absurd (none-some t is)

said_by : (f : Farm) (x t : Turn) → Says f x → Some x ≡ Some t → Says f t
said_by f x t said is = subst (Says f) (same_Some x t is) said

said_is : (f : Farm) (k : RowKey) (t : Turn) → turn_of f k ≡ Some t → Says f t
said_is f (key.Frame slot) t is = said_by f _ t (refl, refl) is
said_is f (key.Host host) t is = said_by f _ t refl is
said_is f (key.Sub sub) t is = said_by f _ t refl is
said_is f (key.Limit limit) t is = said_by f _ t refl is
said_is f key.Head t is = absurd (none-some t is)
said_is f (key.Show show) t is = absurd (none-some t is)
said_is f (key.Alloc alloc) t is = absurd (none-some t is)
said_is f (key.Job job) t is = absurd (none-some t is)
said_is f (key.Layer job place) t is = absurd (none-some t is)
said_is f (key.Depend depend) t is = absurd (none-some t is)
said_is f (key.Met depend position) t is = absurd (none-some t is)

-- ---- the turn of a change

host_is : (f : Farm) (host : ℕ) (r : HostRow) (t : Turn) (b : Bool) → (if b then None else Some (turn.Host host (size_at f host))) ≡ Some t
    → Some (turn.Host host (size_at f host)) ≡ Some t
host_is f host r t true is = absurd (none-some t is)
host_is f host r t false is = is

-- it is the turn of the change's row
for_is : (f : Farm) (c : RowChange) (t : Turn) → turn_for f c ≡ Some t → turn_of f (change_key c) ≡ Some t
for_is f (change.Put (row.Host host r)) t is = host_is f host r t (keeps_size f host r) is
for_is f (change.Put (row.Head r)) t is = is
for_is f (change.Put (row.Show show r)) t is = is
for_is f (change.Put (row.Alloc alloc r)) t is = is
for_is f (change.Put (row.Sub r)) t is = is
for_is f (change.Put (row.Job r)) t is = is
for_is f (change.Put (row.Layer r)) t is = is
for_is f (change.Put (row.Frame r)) t is = is
for_is f (change.Put (row.Depend r)) t is = is
for_is f (change.Put (row.Met r)) t is = is
for_is f (change.Put (row.Limit limit r)) t is = is
for_is f (change.Delete gone) t is = is

abbrev is_host : RowKey → Bool
is_host (key.Host host) = true
is_host other = false

-- and it is there, where the row is no host's
for_by : (f : Farm) (c : RowChange) (k : RowKey) → change_key c ≡ k → is_host k ≡ false → turn_for f c ≡ turn_of f k
for_by f (change.Put (row.Host host r)) k named other = absurd (true≢false (ap is_host named ∙ other))
for_by f (change.Put (row.Head r)) k named other = ap (turn_of f) named
for_by f (change.Put (row.Show show r)) k named other = ap (turn_of f) named
for_by f (change.Put (row.Alloc alloc r)) k named other = ap (turn_of f) named
for_by f (change.Put (row.Sub r)) k named other = ap (turn_of f) named
for_by f (change.Put (row.Job r)) k named other = ap (turn_of f) named
for_by f (change.Put (row.Layer r)) k named other = ap (turn_of f) named
for_by f (change.Put (row.Frame r)) k named other = ap (turn_of f) named
for_by f (change.Put (row.Depend r)) k named other = ap (turn_of f) named
for_by f (change.Put (row.Met r)) k named other = ap (turn_of f) named
for_by f (change.Put (row.Limit limit r)) k named other = ap (turn_of f) named
for_by f (change.Delete gone) k named other = ap (turn_of f) named

-- ---- where a turn comes from

abbrev place_by : Option Turn → (ℕ → ℕ) → ℕ → ℕ
place_by None rest i = suc (rest i)
place_by (Some t) rest zero = zero
place_by (Some t) rest (suc i) = suc (rest i)

abbrev place_of : Farm → List RowChange → ℕ → ℕ
place_of f [] i = i
place_of f (c ∷ cs) i = place_by (turn_for f c) (place_of f cs) i

by_one : (o : Option Turn) (rest : ℕ → ℕ) → ((i k : ℕ) → rest i ≡ rest k → i ≡ k) → (i k : ℕ) → place_by o rest i ≡ place_by o rest k → i ≡ k
by_one None rest one i k e = one i k (omega (arith, e))
by_one (Some t) rest one zero zero e = refl
by_one (Some t) rest one zero (suc k) e = absurd (omega (arith, e))
by_one (Some t) rest one (suc i) zero e = absurd (omega (arith, e))
by_one (Some t) rest one (suc i) (suc k) e = ap suc (one i k (omega (arith, e)))

one_place : (f : Farm) (cs : List RowChange) (i k : ℕ) → place_of f cs i ≡ place_of f cs k → i ≡ k
one_place f [] i k e = e
one_place f (c ∷ cs) i k e = by_one (turn_for f c) (place_of f cs) (one_place f cs) i k e

-- the turn is that of the change at the place
record IsAt (f : Farm) (cs : List RowChange) (place : ℕ) (t : Turn) : Type 0 where
  change : RowChange
  at : slice_get cs place ≡ Some change
  is : turn_for f change ≡ Some t

one_later : (f : Farm) (c : RowChange) (cs : List RowChange) (place : ℕ) (t : Turn) → IsAt f cs place t → IsAt f (c ∷ cs) (suc place) t
one_later f c cs place t found = record { change = found.change; at = found.at; is = found.is }

comes : (f : Farm) (cs : List RowChange) (i : ℕ) (t : Turn) → slice_get (turns_of f cs) i ≡ Some t → IsAt f cs (place_of f cs i) t
comes f [] i t at = absurd (none-some t at)
comes f (c ∷ cs) i t at = by (comes f cs) (turn_for f c) refl i at
  where
    by : ((j : ℕ) (u : Turn) → slice_get (turns_of f cs) j ≡ Some u → IsAt f cs (place_of f cs j) u) → (o : Option Turn) → turn_for f c ≡ o
        → (i : ℕ) → slice_get (with_turn o (turns_of f cs)) i ≡ Some t → IsAt f (c ∷ cs) (place_by o (place_of f cs) i) t
    by more None is i at = one_later f c cs (place_of f cs i) t (more i t at)
    by more (Some x) is zero at = record { change = c; at = refl; is = is ∙ at }
    by more (Some x) is (suc i) at = one_later f c cs (place_of f cs i) t (more i t at)

-- ---- what no turn is of, no change names

or_false : (a b : Bool) → (a || b) ≡ false → (a ≡ false) × (b ≡ false)
or_false true b h = absurd (true≢false h)
or_false false b h = (refl, h)

or_left : (a b : Bool) → a ≡ true → (a || b) ≡ true
or_left true b h = refl
or_left false b h = absurd (false≢true h)

or_right : (a b : Bool) → b ≡ true → (a || b) ≡ true
or_right true b h = refl
or_right false b h = h

has_no_more : (o : Option Turn) (ts : List Turn) (k : RowKey) → has_turn (with_turn o ts) k ≡ false → has_turn ts k ≡ false
has_no_more None ts k none = none
has_no_more (Some t) ts k none = (or_false (is_key (turn_key t) k) (has_turn ts k) none).1

has_first : (o : Option Turn) (ts : List Turn) (k : RowKey) (t : Turn) → o ≡ Some t → turn_key t ≡ k → has_turn (with_turn o ts) k ≡ true
has_first o ts k t is named =
    ap (λ (x : Option Turn). has_turn (with_turn x ts) k) is
    ∙ or_left (is_key (turn_key t) k) (has_turn ts k) (ap (λ (j : RowKey). is_key j k) named ∙ is_key-same k)

has_more : (o : Option Turn) (ts : List Turn) (k : RowKey) → has_turn ts k ≡ true → has_turn (with_turn o ts) k ≡ true
has_more None ts k has = has
has_more (Some t) ts k has = or_right (is_key (turn_key t) k) (has_turn ts k) has

unnamed : (f : Farm) (k : RowKey) (t : Turn) → turn_of f k ≡ Some t → is_host k ≡ false → (cs : List RowChange) → has_turn (turns_of f cs) k ≡ false
    → list_any (is_named_by k) cs ≡ false
unnamed f k t has other [] none = refl
unnamed f k t has other (c ∷ cs) none = by (unnamed f k t has other cs (has_no_more (turn_for f c) (turns_of f cs) k none)) (is_key (change_key c) k) refl
  where
    by : list_any (is_named_by k) cs ≡ false → (b : Bool) → is_key (change_key c) k ≡ b → list_any (is_named_by k) (c ∷ cs) ≡ false
    by rest true same =
        let is = for_by f c k (is_key-true (change_key c) k same) other ∙ has in
        absurd (true≢false (sym (has_first (turn_for f c) (turns_of f cs) k t is (key_is f k t has)) ∙ none))
    by rest false other = ap (λ (b : Bool). b || list_any (is_named_by k) cs) other ∙ rest

-- the turn of a change is among the turns of all
has_there : (f : Farm) (cs : List RowChange) (place : ℕ) (c : RowChange) (t : Turn) (k : RowKey) → slice_get cs place ≡ Some c → turn_for f c ≡ Some t
    → turn_key t ≡ k → has_turn (turns_of f cs) k ≡ true
has_there f [] place c t k at is named = absurd (none-some c at)
has_there f (x ∷ xs) zero c t k at is named = has_first (turn_for f x) (turns_of f xs) k t (ap (turn_for f) (same_Some x c at) ∙ is) named
has_there f (x ∷ xs) (suc place) c t k at is named = has_more (turn_for f x) (turns_of f xs) k (has_there f xs place c t k at is named)

-- ---- the words stand in the table

low_high : (low : ℕ) (subs : List SubRow) (high : ℕ) → IsRising sub_key low subs high → low ≤ high
low_high low [] high rise = rise
low_high low (s ∷ ss) high rise = let more = low_high (s.sub + 1) ss high rise.1 in let first = rise.0 in omega (arith, more, first)

abbrev is_below : ℕ → SubRow → Bool
is_below high s = nat_lt s.sub high

all_below : (low : ℕ) (subs : List SubRow) (high : ℕ) → IsRising sub_key low subs high → list_all (is_below high) subs ≡ true
all_below low [] high rise = refl
all_below low (s ∷ ss) high rise =
    let more = low_high (s.sub + 1) ss high rise.1 in
    both_true (lt-ltb s.sub high (omega (arith, more))) (all_below (s.sub + 1) ss high rise.1)

slot_in : (slots : List SlotRow) (slot : ℕ) (x : Option SlotRow) → length slots ≤ SLOT_LIMIT → slice_get slots slot ≡ x
    → is_some (option_and_then (used_row slot) x) ≡ true → slot < SLOT_LIMIT
slot_in slots slot None few at there = absurd (false≢true there)
slot_in slots slot (Some s) few at there = let below = got_below slots slot s at in omega (arith, below, few)

host_in : (hosts : List HostRow) (host : ℕ) (x : Option HostRow) → length hosts ≤ MOST_HOSTS → slice_get hosts host ≡ x
    → is_some (option_map (row.Host host) x) ≡ true → host < MOST_HOSTS
host_in hosts host None few at there = absurd (false≢true there)
host_in hosts host (Some h) few at there = let below = got_below hosts host h at in omega (arith, below, few)

sub_in : (subs : List SubRow) (sub : ℕ) (x : Option SubRow) → IsRising sub_key 0 subs SUB_NUMBERS → find (λ s. s.sub == sub) subs ≡ x
    → is_some (option_map row.Sub x) ≡ true → sub < SUB_NUMBERS
sub_in subs sub None rise at there = absurd (false≢true there)
sub_in subs sub (Some s) rise at there =
    let wanted : SubRow → Bool = λ s. s.sub == sub in
    let below : s.sub < SUB_NUMBERS = ltb-true s.sub SUB_NUMBERS (find_passes wanted (is_below SUB_NUMBERS) subs s (all_below 0 subs SUB_NUMBERS rise) at) in
    let same : s.sub ≡ sub = eqb-true s.sub sub (found_is wanted subs s at) in
    omega (arith, below, same)

limit_in : (limits : List LimitRow) (limit : ℕ) (x : Option LimitRow) → length limits ≤ MOST_LIMITS → slice_get limits limit ≡ x
    → is_some (option_map (row.Limit limit) x) ≡ true → limit < MOST_LIMITS
limit_in limits limit None few at there = absurd (false≢true there)
limit_in limits limit (Some r) few at there = let below = got_below limits limit r at in omega (arith, below, few)

row_in : (f : Farm) → IsKeptFarm f → (t : Turn) → is_some (row_at f (turn_key t)) ≡ true → IsInTable t
row_in f kept (turn.Slot slot frame amount) there = slot_in f.slots slot (slice_get f.slots slot) kept.rows.jobs.slot_count refl there
row_in f kept (turn.Host host size) there = host_in f.hosts host (slice_get f.hosts host) kept.rows.hosts.count refl there
row_in f kept (turn.Sub sub burst) there = sub_in f.subs sub (sub_at f sub) kept.rows.subs.rise refl there
row_in f kept (turn.Limit limit most) there = limit_in f.limits limit (slice_get f.limits limit) kept.rows.limits.count refl there

-- a row that differs is there in one of the farms
there_in : (c : RowChange) (old now : Option FarmRow) → Differs c old now → (is_some old ≡ true) ⊎ (is_some now ≡ true)
there_in (change.Put r) old now differs = inr (ap (λ (x : Option FarmRow). is_some x) differs.0)
there_in (change.Delete gone) old now differs = inl differs.1

-- ---- a host that keeps its size

pub named_at : (k : RowKey) (cs : List RowChange) → list_any (is_named_by k) cs ≡ true
    → (n : ℕ) × (c : RowChange) × (slice_get cs n ≡ Some c) × (is_key (change_key c) k ≡ true)
named_at k [] any = absurd (false≢true any)
named_at k (x ∷ xs) any = go (named_at k xs) (is_key (change_key x) k) refl any
  where
    go : (list_any (is_named_by k) xs ≡ true → (n : ℕ) × (c : RowChange) × (slice_get xs n ≡ Some c) × (is_key (change_key c) k ≡ true)) → (b : Bool)
        → is_key (change_key x) k ≡ b → (b || list_any (is_named_by k) xs) ≡ true
        → (n : ℕ) × (c : RowChange) × (slice_get (x ∷ xs) n ≡ Some c) × (is_key (change_key c) k ≡ true)
    go rest true e any = (zero, x, refl, e)
    go rest false e any = let r = rest any in (suc r.0, r.1, r.2, r.3)

abbrev host_row : HostRow → FarmRow → HostRow
host_row x (row.Host host r) = r
host_row x other = x

pub put_row : (host : ℕ) (x : HostRow) (o : Option HostRow) → option_map (row.Host host) o ≡ Some (row.Host host x) → o ≡ Some x
put_row host x None is = absurd (none-some (row.Host host x) is)
put_row host x (Some y) is = ap (λ (r : FarmRow). Some (host_row x r)) (same_Some (row.Host host y) (row.Host host x) is)

cores_in_row : (g : Farm) (host : ℕ) (r : HostRow) → slice_get g.hosts host ≡ Some r → host_cores g host ≡ r.cores
unfolding host_cores
cores_in_row g host r at = ap (of_host (λ r. r.cores)) at

memory_in_row : (g : Farm) (host : ℕ) (r : HostRow) → slice_get g.hosts host ≡ Some r → host_memory g host ≡ r.memory
unfolding host_memory
memory_in_row g host r at = ap (of_host (λ r. r.memory)) at

alloc_in_row : (g : Farm) (host : ℕ) (r : HostRow) → slice_get g.hosts host ≡ Some r → host_alloc g host ≡ r.alloc
unfolding host_alloc
alloc_in_row g host r at = ap (of_host (λ r. r.alloc)) at

-- both farms say the same size and allocation of the host
abbrev SameSize : Farm → Farm → ℕ → Type 0
SameSize f g n = (host_cores g n ≡ host_cores f n) × (host_memory g n ≡ host_memory f n) × (host_alloc g n ≡ host_alloc f n)

size_kept : (f g : Farm) (host : ℕ) (r : HostRow) → slice_get g.hosts host ≡ Some r → keeps_size f host r ≡ true → SameSize f g host
size_kept f g host r at keeps =
    let first = and_both (host_cores f host == r.cores) (host_memory f host == r.memory && host_alloc f host == r.alloc) keeps in
    let rest = and_both (host_memory f host == r.memory) (host_alloc f host == r.alloc) first.1 in (
      cores_in_row g host r at ∙ sym (eqb-true (host_cores f host) r.cores first.0),
      memory_in_row g host r at ∙ sym (eqb-true (host_memory f host) r.memory rest.0),
      alloc_in_row g host r at ∙ sym (eqb-true (host_alloc f host) r.alloc rest.1),
    )

abbrev host_of : RowKey → ℕ
host_of (key.Host host) = host
host_of other = 0

-- the row that is put, unless it makes a turn
row_keeps : (f g : Farm) (host : ℕ) (r : HostRow) → row_at g (key.Host host) ≡ Some (row.Host host r)
    → ((t : Turn) → host_turn f host r ≡ Some t → turn_key t ≡ key.Host host → ⊥) → SameSize f g host
row_keeps f g host r is makes = by (keeps_size f host r) refl
  where
    by : (b : Bool) → keeps_size f host r ≡ b → SameSize f g host
    by true keeps = size_kept f g host r (put_row host r (slice_get g.hosts host) is) keeps
    by false other =
        absurd (makes (turn.Host host (size_at f host)) (ap (λ (b : Bool). if b then None else Some (turn.Host host (size_at f host))) other) refl)

-- a change of a host's row, unless it makes a turn
change_keeps : (f g : Farm) (n : ℕ) (c : RowChange) → change_key c ≡ key.Host n → Differs c (row_at f (change_key c)) (row_at g (change_key c))
    → ((t : Turn) → turn_for f c ≡ Some t → turn_key t ≡ key.Host n → ⊥) → SameSize f g n
change_keeps f g n (change.Put (row.Host host r)) named differs makes =
    subst (SameSize f g) (ap host_of named) (row_keeps f g host r differs.0 (λ t is of. makes t is (of ∙ named)))
change_keeps f g n (change.Put (row.Head r)) named differs makes = absurd (false≢true (ap is_host named))
change_keeps f g n (change.Put (row.Show show r)) named differs makes = absurd (false≢true (ap is_host named))
change_keeps f g n (change.Put (row.Alloc alloc r)) named differs makes = absurd (false≢true (ap is_host named))
change_keeps f g n (change.Put (row.Sub r)) named differs makes = absurd (false≢true (ap is_host named))
change_keeps f g n (change.Put (row.Job r)) named differs makes = absurd (false≢true (ap is_host named))
change_keeps f g n (change.Put (row.Layer r)) named differs makes = absurd (false≢true (ap is_host named))
change_keeps f g n (change.Put (row.Frame r)) named differs makes = absurd (false≢true (ap is_host named))
change_keeps f g n (change.Put (row.Depend r)) named differs makes = absurd (false≢true (ap is_host named))
change_keeps f g n (change.Put (row.Met r)) named differs makes = absurd (false≢true (ap is_host named))
change_keeps f g n (change.Put (row.Limit limit r)) named differs makes = absurd (false≢true (ap is_host named))
change_keeps f g n (change.Delete gone) named differs makes =
    let is : turn_of f gone ≡ Some (turn.Host n (size_at f n)) = ap (turn_of f) named in
    absurd (makes (turn.Host n (size_at f n)) is refl)

-- ---- all of it

module _ (f g : Farm) (cs : List RowChange) (kept : IsKeptFarm f) (keeps : IsKeptFarm g) (named : NamesExactly f g cs) where
  in_by : (t : Turn) (c : RowChange) → turn_key t ≡ change_key c
      → (is_some (row_at f (change_key c)) ≡ true) ⊎ (is_some (row_at g (change_key c)) ≡ true) → IsInTable t
  in_by t c is (inl was) = row_in f kept t (ap (λ (k : RowKey). is_some (row_at f k)) is ∙ was)
  in_by t c is (inr now) = row_in g keeps t (ap (λ (k : RowKey). is_some (row_at g k)) is ∙ now)

  each_in : (i : ℕ) (t : Turn) → slice_get (turns_of f cs) i ≡ Some t → IsInTable t
  each_in i t at =
      let found = comes f cs i t at in
      let c = found.change in
      in_by t c (key_is f (change_key c) t (for_is f c t found.is)) (there_in c (row_at f (change_key c)) (row_at g (change_key c)) (named.each (place_of f cs i) c found.at))

  was_said : (i : ℕ) (t : Turn) → slice_get (turns_of f cs) i ≡ Some t → Says f t
  was_said i t at = let found = comes f cs i t at in said_is f (change_key found.change) t (for_is f found.change t found.is)

  named_once : (i k : ℕ) (t u : Turn) → slice_get (turns_of f cs) i ≡ Some t → slice_get (turns_of f cs) k ≡ Some u
      → is_key (turn_key t) (turn_key u) ≡ true → i ≡ k
  named_once i k t u first second same =
      let a = comes f cs i t first in
      let b = comes f cs k u second in
      let keys : is_key (change_key a.change) (change_key b.change) ≡ true =
      ap (λ (j : RowKey). is_key j (change_key b.change)) (sym (key_is f (change_key a.change) t (for_is f a.change t a.is)))
      ∙ ap (is_key (turn_key t)) (sym (key_is f (change_key b.change) u (for_is f b.change u b.is)))
      ∙ same in
      one_place f cs i k (named.once (place_of f cs i) (place_of f cs k) a.change b.change a.at b.at keys)

  stays : (k : RowKey) (t : Turn) → turn_of f k ≡ Some t → is_host k ≡ false → has_turn (turns_of f cs) k ≡ false → row_at g k ≡ row_at f k
  stays k t has other none = named.rest k (unnamed f k t has other cs none)

  -- a host without a turn: no change is of it, or the one that is keeps its size
  host_stays : (n : ℕ) → (row_at g (key.Host n) ≡ row_at f (key.Host n) → SameSize f g n) → has_turn (turns_of f cs) (key.Host n) ≡ false → SameSize f g n
  host_stays n rest none = by (list_any (is_named_by (key.Host n)) cs) refl
    where
      by : (b : Bool) → list_any (is_named_by (key.Host n)) cs ≡ b → SameSize f g n
      by false unmet = rest (named.rest (key.Host n) unmet)
      by true any =
          let c = named_at (key.Host n) cs any in
          change_keeps f g n c.1 (is_key-true (change_key c.1) (key.Host n) c.3) (named.each c.0 c.1 c.2)
          (λ t is of. true≢false (sym (has_there f cs c.0 c.1 t (key.Host n) c.2 is of) ∙ none))

  pub covered : ((n : ℕ) → row_at g (key.Frame n) ≡ row_at f (key.Frame n) → stand_at g n ≡ stand_at f n)
      → ((n : ℕ) → row_at g (key.Host n) ≡ row_at f (key.Host n)
      → (host_cores g n ≡ host_cores f n) × (host_memory g n ≡ host_memory f n) × (host_alloc g n ≡ host_alloc f n))
      → ((n : ℕ) → row_at g (key.Sub n) ≡ row_at f (key.Sub n) → burst_at g n ≡ burst_at f n)
      → ((n : ℕ) → row_at g (key.Limit n) ≡ row_at f (key.Limit n) → most_at g n ≡ most_at f n)
      → Covers f g (turns_of f cs)
  covered stands hosts bursts mosts =
      record {
        slot = λ n none. stands n (stays (key.Frame n) _ refl refl none);
        cores = λ n none. (host_stays n (hosts n) none).0;
        memory = λ n none. (host_stays n (hosts n) none).1;
        alloc = λ n none. (host_stays n (hosts n) none).2;
        burst = λ n none. bursts n (stays (key.Sub n) _ refl refl none);
        most = λ n none. mosts n (stays (key.Limit n) _ refl refl none);
        was = was_said;
        in_table = each_in;
        once = named_once;
      }
