-- Keys of rows as pairs of a kind and an id.
use Rattle.std.proofs.Common.{◌≡◌, ℕ, ◌+◌, ◌*◌, ◌/◌, ◌%◌, ◌<◌, ◌==◌, if◌then◌else◌, refl, ap, sym, ◌∙◌, arith}
use Rattle.farm_rows.specs.declared.farm_row.FarmRow.{FarmRow}
use Rattle.farm_rows.specs.declared.farm_row.FarmRow.TheVariants as row
use Rattle.farm_rows.specs.declared.ids.TheConstants.{GROUP_IDS, LAYER_IDS}
use Rattle.farm_rows.specs.declared.row_key.RowKey.{RowKey}
use Rattle.farm_rows.specs.declared.row_key.RowKey.TheVariants as key
use Rattle.farm_rows.specs.Changes.{row_key}
use Rattle.farm_keeper.specs.Rows.{Key, key_of}
use Rattle.row_codec.specs.RowLaws.{Fits}
use Rattle.store_law.specs.Stored.{key_pair, stored_row}

-- the kind and the id of a row
abbrev pub pair_of : FarmRow → Key
pair_of r = key_of (stored_row r)

-- a place of a layer or a position of a group that has an id of its own
abbrev pub HasId : RowKey → Type 0
HasId (key.Layer job place) = place < LAYER_IDS
HasId (key.Met depend position) = position < GROUP_IDS
HasId other = Unit {0}

-- the key of a kind and an id
abbrev key_from : Key → RowKey
key_from p =
    if p.0 == 1 then key.Head
    else (if p.0 == 2 then key.Show p.1
    else (if p.0 == 3 then key.Alloc p.1
    else (if p.0 == 4 then key.Sub p.1
    else (if p.0 == 5 then key.Host p.1
    else (if p.0 == 6 then key.Job p.1
    else (if p.0 == 7 then key.Layer (p.1 / LAYER_IDS) (p.1 % LAYER_IDS)
    else (if p.0 == 8 then key.Frame p.1
    else (if p.0 == 9 then key.Depend p.1
    else (if p.0 == 10 then key.Met (p.1 / GROUP_IDS) (p.1 % GROUP_IDS)
    else key.Limit p.1)))))))))

layer_number : (job place : ℕ) → place < LAYER_IDS → (LAYER_IDS * job + place) / LAYER_IDS ≡ job
layer_number job place h = omega (arith, h)

layer_place : (job place : ℕ) → place < LAYER_IDS → (LAYER_IDS * job + place) % LAYER_IDS ≡ place
layer_place job place h = omega (arith, h)

group_number : (depend position : ℕ) → position < GROUP_IDS → (GROUP_IDS * depend + position) / GROUP_IDS ≡ depend
group_number depend position h = omega (arith, h)

group_place : (depend position : ℕ) → position < GROUP_IDS → (GROUP_IDS * depend + position) % GROUP_IDS ≡ position
group_place depend position h = omega (arith, h)

key_back : (k : RowKey) → HasId k → key_from (key_pair k) ≡ k
key_back key.Head h = refl
key_back (key.Show show) h = refl
key_back (key.Alloc alloc) h = refl
key_back (key.Sub sub) h = refl
key_back (key.Host host) h = refl
key_back (key.Job job) h = refl
key_back (key.Layer job place) h = λ i. key.Layer (layer_number job place h i) (layer_place job place h i)
key_back (key.Frame slot) h = refl
key_back (key.Depend depend) h = refl
key_back (key.Met depend position) h = λ i. key.Met (group_number depend position h i) (group_place depend position h i)
key_back (key.Limit limit) h = refl

-- keys with ids of their own that make one pair are one
pub same_key : (a b : RowKey) → HasId a → HasId b → key_pair a ≡ key_pair b → a ≡ b
same_key a b has_a has_b same = sym (key_back a has_a) ∙ ap key_from same ∙ key_back b has_b

-- ---- rows

pub pair_is : (r : FarmRow) → key_pair (row_key r) ≡ pair_of r
pair_is (row.Head head) = refl
pair_is (row.Show show r) = refl
pair_is (row.Alloc alloc r) = refl
pair_is (row.Sub r) = refl
pair_is (row.Host host r) = refl
pair_is (row.Job r) = refl
pair_is (row.Layer r) = refl
pair_is (row.Frame r) = refl
pair_is (row.Depend r) = refl
pair_is (row.Met r) = refl
pair_is (row.Limit limit r) = refl

pub row_has_id : (r : FarmRow) → Fits r → HasId (row_key r)
row_has_id (row.Head head) h = tt
row_has_id (row.Show show r) h = tt
row_has_id (row.Alloc alloc r) h = tt
row_has_id (row.Sub r) h = tt
row_has_id (row.Host host r) h = tt
row_has_id (row.Job r) h = tt
row_has_id (row.Layer r) h = h.place
row_has_id (row.Frame r) h = tt
row_has_id (row.Depend r) h = tt
row_has_id (row.Met r) h = h.1
row_has_id (row.Limit limit r) h = tt
