-- The rows of a farm by kind: those of each kind and all later ones, and where one more comes.
use Rattle.std.proofs.Common.{◌≡◌, ◌<◌, ◌≤◌, ℕ, suc, zero, ◌+◌, ◌-◌, Bool, true, false, cond, leb, List, [], ◌∷◌, ◌++◌, map, length, refl, sym, ap, ◌∙◌, arith, append-nil}
use Rattle.std.specs.Prelude.{replicate}
use Rattle.std.specs.List.{list_all}
use Rattle.std.specs.Cmp.Derive.{both_true}
use Rattle.std.proofs.lemmas.Bool.{false≢true, leb-true, le-leb}
use Rattle.std.proofs.lemmas.List.{append_assoc, length-replicate}
use Rattle.std.proofs.lemmas.List.Folds.{list_all-append}
use Rattle.farm_types.specs.declared.slot_row.SlotRow.{SlotRow}
use Rattle.farm_types.specs.Farm.{Farm}
use Rattle.farm_types.proofs.Lists.{and_both}
use Rattle.farm_law.proofs.KeptLists.{list_all-weaker}
use Rattle.farm_rows.specs.declared.farm_row.FarmRow.{FarmRow}
use Rattle.farm_rows.specs.declared.farm_row.FarmRow.TheVariants as row
use Rattle.farm_rows.specs.Recovery.{unused_slot, with_slot}
use Rattle.farm_rows.specs.Rows.{frame_row, is_unused, numbered, row_kind, slot_rows}

-- ---- rows by kind

-- the rows of a kind and all later ones
abbrev pub from_limits : Farm → List FarmRow
from_limits f = numbered row.Limit 0 f.limits

abbrev pub from_met : Farm → List FarmRow
from_met f = map row.Met f.met ++ from_limits f

abbrev pub from_depends : Farm → List FarmRow
from_depends f = map row.Depend f.depends ++ from_met f

abbrev pub from_slots : Farm → List FarmRow
from_slots f = slot_rows 0 f.slots ++ from_depends f

abbrev pub from_layers : Farm → List FarmRow
from_layers f = map row.Layer f.layers ++ from_slots f

abbrev pub from_jobs : Farm → List FarmRow
from_jobs f = map row.Job f.jobs ++ from_layers f

abbrev pub from_hosts : Farm → List FarmRow
from_hosts f = numbered row.Host 0 f.hosts ++ from_jobs f

abbrev pub from_subs : Farm → List FarmRow
from_subs f = map row.Sub f.subs ++ from_hosts f

abbrev pub from_allocs : Farm → List FarmRow
from_allocs f = numbered row.Alloc 0 f.allocs ++ from_subs f

abbrev pub from_shows : Farm → List FarmRow
from_shows f = numbered row.Show 0 f.shows ++ from_allocs f

-- all rows are of that kind or later ones
abbrev pub IsFrom : ℕ → List FarmRow → Type 0
IsFrom least rows = list_all (λ (r : FarmRow). leb least (row_kind r)) rows ≡ true

-- all rows are of that kind or earlier ones
abbrev pub IsUpTo : ℕ → List FarmRow → Type 0
IsUpTo most rows = list_all (λ (r : FarmRow). leb (row_kind r) most) rows ≡ true

pub none_between : (most least : ℕ) (rows : List FarmRow) → most < least → IsUpTo most rows → IsFrom least rows → rows ≡ []
none_between most least [] apart up from = refl
none_between most least (r ∷ rs) apart up from =
    let below = leb-true (row_kind r) most (and_both (leb (row_kind r) most) _ up).0 in
    let above = leb-true least (row_kind r) (and_both (leb least (row_kind r)) _ from).0 in
    absurd (omega (arith, below, above, apart))

later_from : (less more : ℕ) (rows : List FarmRow) → less ≤ more → IsFrom more rows → IsFrom less rows
later_from less more rows h from =
    list_all-weaker (λ (r : FarmRow). leb more (row_kind r)) (λ (r : FarmRow). leb less (row_kind r)) (λ r over. le-leb less (row_kind r) (omega (arith, h, leb-true more (row_kind r) over))) rows from

pub up_to_more : (less more : ℕ) (rows : List FarmRow) → less ≤ more → IsUpTo less rows → IsUpTo more rows
up_to_more less more rows h up =
    list_all-weaker (λ (r : FarmRow). leb (row_kind r) less) (λ (r : FarmRow). leb (row_kind r) more) (λ r under. le-leb (row_kind r) more (omega (arith, h, leb-true (row_kind r) less under))) rows up

module _ {X : Type 0} where
  numbered_from : (make : ℕ → X → FarmRow) (least : ℕ) → ((n : ℕ) (x : X) → leb least (row_kind (make n x)) ≡ true) → (place : ℕ) (xs : List X) → IsFrom least (numbered make place xs)
  numbered_from make least each place [] = refl
  numbered_from make least each place (x ∷ xs) = both_true (each place x) (numbered_from make least each (place + 1) xs)

  map_from : (make : X → FarmRow) (least : ℕ) → ((x : X) → leb least (row_kind (make x)) ≡ true) → (xs : List X) → IsFrom least (map make xs)
  map_from make least each [] = refl
  map_from make least each (x ∷ xs) = both_true (each x) (map_from make least each xs)

used_from : (b : Bool) (r : FarmRow) (rows : List FarmRow) → row_kind r ≡ 8 → IsFrom 8 rows → IsFrom 8 (cond b rows (r ∷ rows))
used_from true r rows kind from = from
used_from false r rows kind from = both_true (le-leb 8 (row_kind r) (omega (arith, kind))) from

slots_from : (place : ℕ) (slots : List SlotRow) → IsFrom 8 (slot_rows place slots)
slots_from place [] = refl
slots_from place (s ∷ ss) = used_from (is_unused s) (row.Frame (frame_row place s)) (slot_rows (place + 1) ss) refl (slots_from (place + 1) ss)

then_from : (least next : ℕ) (rows later : List FarmRow) → least ≤ next → IsFrom least rows → IsFrom next later → IsFrom least (rows ++ later)
then_from least next rows later h first second =
    list_all-append (λ (r : FarmRow). leb least (row_kind r)) rows later ∙ both_true first (later_from least next later h second)

pub limits_are : (f : Farm) → IsFrom 11 (from_limits f)
limits_are f = numbered_from row.Limit 11 (λ n x. refl) 0 f.limits

pub met_are : (f : Farm) → IsFrom 10 (from_met f)
met_are f = then_from 10 11 (map row.Met f.met) (from_limits f) (omega arith) (map_from row.Met 10 (λ x. refl) f.met) (limits_are f)

pub depends_are : (f : Farm) → IsFrom 9 (from_depends f)
depends_are f = then_from 9 10 (map row.Depend f.depends) (from_met f) (omega arith) (map_from row.Depend 9 (λ x. refl) f.depends) (met_are f)

pub slots_are : (f : Farm) → IsFrom 8 (from_slots f)
slots_are f = then_from 8 9 (slot_rows 0 f.slots) (from_depends f) (omega arith) (slots_from 0 f.slots) (depends_are f)

pub layers_are : (f : Farm) → IsFrom 7 (from_layers f)
layers_are f = then_from 7 8 (map row.Layer f.layers) (from_slots f) (omega arith) (map_from row.Layer 7 (λ x. refl) f.layers) (slots_are f)

pub jobs_are : (f : Farm) → IsFrom 6 (from_jobs f)
jobs_are f = then_from 6 7 (map row.Job f.jobs) (from_layers f) (omega arith) (map_from row.Job 6 (λ x. refl) f.jobs) (layers_are f)

pub hosts_are : (f : Farm) → IsFrom 5 (from_hosts f)
hosts_are f = then_from 5 6 (numbered row.Host 0 f.hosts) (from_jobs f) (omega arith) (numbered_from row.Host 5 (λ n x. refl) 0 f.hosts) (jobs_are f)

pub subs_are : (f : Farm) → IsFrom 4 (from_subs f)
subs_are f = then_from 4 5 (map row.Sub f.subs) (from_hosts f) (omega arith) (map_from row.Sub 4 (λ x. refl) f.subs) (hosts_are f)

pub allocs_are : (f : Farm) → IsFrom 3 (from_allocs f)
allocs_are f = then_from 3 4 (numbered row.Alloc 0 f.allocs) (from_subs f) (omega arith) (numbered_from row.Alloc 3 (λ n x. refl) 0 f.allocs) (subs_are f)

-- ---- one row more

-- what comes behind the end, where nothing follows
pub ends_with : (xs ys later : List FarmRow) (r : FarmRow) → ys ≡ xs ++ r ∷ [] → later ≡ [] → ys ++ later ≡ (xs ++ later) ++ r ∷ []
ends_with xs ys later r is none = rw (is, none, append-nil xs) (append-nil (xs ++ r ∷ []))

-- and where more is in front
pub in_front : (first xs ys : List FarmRow) (r : FarmRow) → ys ≡ xs ++ r ∷ [] → first ++ ys ≡ (first ++ xs) ++ r ∷ []
in_front first xs ys r is = ap (λ (zs : List FarmRow). first ++ zs) is ∙ sym (append_assoc first xs (r ∷ []))

numbered_more : {X : Type 0} (make : ℕ → X → FarmRow) (place : ℕ) (xs : List X) (x : X) → numbered make place (xs ++ x ∷ []) ≡ numbered make place xs ++ make (place + length xs) x ∷ []
numbered_more make place [] x = ap (λ (n : ℕ). make n x ∷ []) (omega arith)
numbered_more make place (y ∷ ys) x =
    ap (λ (rows : List FarmRow). make place y ∷ rows) (numbered_more make (place + 1) ys x ∙ ap (λ (n : ℕ). numbered make (place + 1) ys ++ make n x ∷ []) (omega arith))

-- of an item that is numbered by its place
pub numbered_next : {X : Type 0} (make : ℕ → X → FarmRow) (xs : List X) (n : ℕ) (x : X) → n ≡ length xs → numbered make 0 (xs ++ x ∷ []) ≡ numbered make 0 xs ++ make n x ∷ []
numbered_next make xs n x at = numbered_more make 0 xs x ∙ ap (λ (k : ℕ). numbered make 0 xs ++ make k x ∷ []) (omega (arith, at))

-- ---- slots

slot_rows_more : (place : ℕ) (xs ys : List SlotRow) → slot_rows place (xs ++ ys) ≡ slot_rows place xs ++ slot_rows (place + length xs) ys
slot_rows_more place [] ys = ap (λ (n : ℕ). slot_rows n ys) (omega arith)
slot_rows_more place (x ∷ xs) ys =
    more_by (is_unused x) (row.Frame (frame_row place x)) (slot_rows_more (place + 1) xs ys ∙ ap (λ (n : ℕ). slot_rows (place + 1) xs ++ slot_rows n ys) (omega arith))
  where
    more_by : (b : Bool) (r : FarmRow) → slot_rows (place + 1) (xs ++ ys) ≡ slot_rows (place + 1) xs ++ slot_rows (place + suc (length xs)) ys
        → cond b (slot_rows (place + 1) (xs ++ ys)) (r ∷ slot_rows (place + 1) (xs ++ ys)) ≡ cond b (slot_rows (place + 1) xs) (r ∷ slot_rows (place + 1) xs) ++ slot_rows (place + suc (length xs)) ys
    more_by true r later = later
    more_by false r later = ap (λ (rows : List FarmRow). r ∷ rows) later

-- slots that were never used have no rows
unused_rows : (place n : ℕ) → slot_rows place (replicate n unused_slot) ≡ []
unused_rows place zero = refl
unused_rows place (suc n) = unused_rows (place + 1) n

used_row : (b : Bool) (place : ℕ) (s : SlotRow) → is_unused s ≡ b → b ≡ false → slot_rows place (s ∷ []) ≡ row.Frame (frame_row place s) ∷ []
used_row true place s is used = absurd (false≢true (sym used))
used_row false place s is used = rw is refl

-- one more slot that was used
pub slot_added : (slots : List SlotRow) (slot : ℕ) (s : SlotRow) → length slots ≤ slot → is_unused s ≡ false → slot_rows 0 (with_slot slots slot s) ≡ slot_rows 0 slots ++ row.Frame (frame_row slot s) ∷ []
slot_added slots slot s past used =
    let gap = replicate (slot - length slots) unused_slot in
    let from : 0 + length slots ≡ length slots = omega arith in
    let place : length slots + length gap ≡ slot = omega (arith, past, length-replicate {A = SlotRow} (slot - length slots) unused_slot) in
    slot_rows_more 0 slots (gap ++ s ∷ [])
    ∙ ap (λ (n : ℕ). slot_rows 0 slots ++ slot_rows n (gap ++ s ∷ [])) from
    ∙ ap (λ (rows : List FarmRow). slot_rows 0 slots ++ rows)
    (slot_rows_more (length slots) gap (s ∷ [])
    ∙ ap (λ (rows : List FarmRow). rows ++ slot_rows (length slots + length gap) (s ∷ [])) (unused_rows (length slots) (slot - length slots))
    ∙ ap (λ (n : ℕ). slot_rows n (s ∷ [])) place
    ∙ used_row (is_unused s) slot s refl used)
