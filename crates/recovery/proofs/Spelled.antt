-- Rows of bytes, and the rows that they spell.
use Rattle.std.proofs.Common.{◌≡◌, ◌∙◌, inl, ℕ, Bool, true, false, cond, eqb, not, ◌&&◌, List, [], ◌∷◌, map, Option, Some, None, refl, sym, ap}
use Rattle.std.specs.Prelude.{Result, Ok, Err}
use Rattle.std.specs.List.{AllByRecursion}
use Rattle.std.proofs.lemmas.Bool.{eq-eqb, eqb-true, false≢true}
use Rattle.farm_keeper.specs.declared.row.Row.{Row}
use Rattle.farm_types.specs.Farm.{Farm, empty_farm}
use Rattle.farm_types.proofs.Lists.{and_both}
use Rattle.farm_rows.specs.declared.farm_row.FarmRow.{FarmRow}
use Rattle.farm_rows.specs.declared.farm_row.FarmRow.TheVariants as row
use Rattle.farm_rows.specs.declared.head_row.TheConstants.{ROW_FORMAT}
use Rattle.farm_rows.specs.Recovery.{Said, StoredKey, comes_after, end_fault, ended, farm_said, farm_with, format_after, key_of, row_fits, with_stored}
use Rattle.farm_rows.specs.Rows.{row_id, row_kind, rows_in}
use Rattle.row_codec.specs.RowFields.{text_in}
use Rattle.row_codec.specs.RowLaws.{FitsIn, IsSpelled}
use Rattle.row_codec.specs.RowReading.{row_from}
use Rattle.recovery.specs.declared.fault.RecoverFault.{RecoverFault}
use Rattle.recovery.specs.Recovered.{all_ended, bad_bytes, breaks_farm, given_key, may_follow, read_id, read_with, recovered, recovered_with, row_given, spelled_row, spelled_rows}

both_true : (a b : Bool) → a ≡ true → b ≡ true → (a && b) ≡ true
both_true a b x y = ap (λ (z : Bool). z && b) x ∙ y

err_ok : {X E : Type 0} (e : E) (x : X) → ◌≡◌ {A = Result X E} (Err e) (Ok x) → ⊥
err_ok e x h = cc

ok_same : {X E : Type 0} (x y : X) → ◌≡◌ {A = Result X E} (Ok x) (Ok y) → x ≡ y
ok_same x y h = cc

-- ---- the format is that of the first row, which is the farm's own

unsaid : (f : Farm) (rest : Bool) → f.recorded ≡ false → (f.recorded && rest) ≡ true → ⊥
unsaid f rest none h = false≢true (sym none ∙ (and_both f.recorded rest h).0)

stays_recorded : (f : Farm) (r : FarmRow) → f.recorded ≡ true → (with_stored f r).recorded ≡ true
stays_recorded f (row.Head x) is = refl
stays_recorded f (row.Show n x) is = is
stays_recorded f (row.Alloc n x) is = is
stays_recorded f (row.Sub x) is = is
stays_recorded f (row.Host n x) is = is
stays_recorded f (row.Job x) is = is
stays_recorded f (row.Layer x) is = is
stays_recorded f (row.Frame x) is = is
stays_recorded f (row.Depend x) is = is
stays_recorded f (row.Met x) is = is
stays_recorded f (row.Limit n x) is = is

same_format : (format : ℕ) (f : Farm) (r : FarmRow) → f.recorded ≡ true → row_fits format f r ≡ true → format_after format r ≡ format
same_format format f (row.Head x) is fits = absurd (false≢true (sym (ap not is) ∙ (and_both (not f.recorded) _ fits).0))
same_format format f (row.Show n x) is fits = refl
same_format format f (row.Alloc n x) is fits = refl
same_format format f (row.Sub x) is fits = refl
same_format format f (row.Host n x) is fits = refl
same_format format f (row.Job x) is fits = refl
same_format format f (row.Layer x) is fits = refl
same_format format f (row.Frame x) is fits = refl
same_format format f (row.Depend x) is fits = refl
same_format format f (row.Met x) is fits = refl
same_format format f (row.Limit n x) is fits = refl

-- ---- rows that are recovered

ended_ok : (o : Option StoredKey) (format : ℕ) (f : Farm) (g : Said) → all_ended format f o ≡ Ok g → ended format f o ≡ Ok g
ended_ok None format f g e = cc (ok_same (record { farm = f; format = format }) g e)
ended_ok (Some key) format f g e = absurd (err_ok (breaks_farm key) g e)

-- after the last row the format is what it was
ended_format : (o : Option StoredKey) (format : ℕ) (f : Farm) (g : Said) → ended format f o ≡ Ok g → g.format ≡ format
ended_format None format f g e = ap (λ (s : Said). s.format) (sym (ok_same (record { farm = f; format = format }) g e))
ended_format (Some key) format f g e = absurd (err_ok key g e)

may_then : (last : Option StoredKey) (key : StoredKey) → may_follow last key ≡ true → comes_after last key ≡ true
may_then None key h = refl
may_then (Some last) key h = h

passed : (b : Bool) (x : Result Said RecoverFault) (fault : RecoverFault) (g : Said) → cond b x (Err fault) ≡ Ok g → (b ≡ true) × (x ≡ Ok g)
passed true x fault g e = (refl, e)
passed false x fault g e = absurd (err_ok fault g e)

abbrev HasRead : Option FarmRow → ℕ → Farm → StoredKey → (FarmRow → Result Said RecoverFault) → Said → Type 0
HasRead o format f key rest g = (r : FarmRow) × (o ≡ Some r) × (row_id r ≡ key.1) × (row_fits format f r ≡ true) × (rest r ≡ Ok g)

read_passed : (o : Option FarmRow) (format : ℕ) (f : Farm) (key : StoredKey) (rest : FarmRow → Result Said RecoverFault) (g : Said) → read_with o format f key rest ≡ Ok g → HasRead o format f key rest g
read_passed None format f key rest g e = absurd (err_ok (bad_bytes key) g e)
read_passed (Some r) format f key rest g e =
    let both = passed (eqb (row_id r) key.1 && row_fits format f r) (rest r) (breaks_farm key) g e in
    let fits = and_both (eqb (row_id r) key.1) (row_fits format f r) both.0 in
    (r, refl, eqb-true (row_id r) key.1 fits.0, fits.1, both.1)

-- rows after the farm's own, all of one format
abbrev HasRows : ℕ → Option StoredKey → Farm → List Row → Said → Type 0
HasRows format last f rows g = (said : List FarmRow) × (map (spelled_row format) said ≡ rows) × (farm_with format last f said ≡ Ok g) × (g.format ≡ format)

-- all rows
abbrev HasSaid : List Row → Said → Type 0
HasSaid rows g = (said : List FarmRow) × (map (spelled_row g.format) said ≡ rows) × (farm_said said ≡ Ok g)

module _ (spelled : (format kind id : ℕ) (bytes : List ℕ) (r : FarmRow) → row_from format kind id bytes ≡ Some r → IsSpelled format kind id bytes r) where
  rows_after : (format : ℕ) (last : Option StoredKey) (f : Farm) (rows : List Row) (g : Said) → f.recorded ≡ true → recovered_with format last f rows ≡ Ok g → HasRows format last f rows g
  rows_after format last f [] g is e = let all = ended_ok (end_fault f) format f g e in ([], refl, all, ended_format (end_fault f) format f g all)
  rows_after format last f (r ∷ rs) g is e =
      let rest : FarmRow → Result Said RecoverFault = λ (x : FarmRow). recovered_with (format_after format x) (Some (given_key r)) (with_stored f x) rs in
      let first = passed (may_follow last (given_key r)) (read_with (row_given format r) format f (given_key r) rest) (breaks_farm (given_key r)) g e in
      let read = read_passed (row_given format r) format f (given_key r) rest g first.1 in
      let own = spelled format r.kind (read_id r.kind r.id) r.bytes read.0 read.1 in
      let key : key_of read.0 ≡ given_key r = λ i. (own.0 i, read.2 i) in
      let same = same_format format f read.0 is read.3 in
      let later = rows_after format (Some (given_key r)) (with_stored f read.0) rs g (stays_recorded f read.0 is) (ap (λ (n : ℕ). recovered_with n (Some (given_key r)) (with_stored f read.0) rs) (sym same) ∙ read.4) in
      let after : comes_after last (key_of read.0) ≡ true = ap (comes_after last) key ∙ may_then last (given_key r) first.0 in
      let all : farm_with (format_after format read.0) (Some (key_of read.0)) (with_stored f read.0) later.0 ≡ Ok g = (λ i. farm_with (same i) (Some (key i)) (with_stored f read.0) later.0) ∙ later.2 in (
        read.0 ∷ later.0,
        λ i. record { kind = own.0 i; id = read.2 i; bytes = own.2 i } ∷ later.1 i,
        ap (λ (b : Bool). cond b (farm_with (format_after format read.0) (Some (key_of read.0)) (with_stored f read.0) later.0) (Err (key_of read.0))) (both_true (comes_after last (key_of read.0)) (row_fits format f read.0) after read.3) ∙ all,
        later.3,
      )

  -- the first row is the farm's own
  first_row : (r : Row) (x : FarmRow) (rs : List Row) (g : Said) → IsSpelled ROW_FORMAT r.kind (read_id r.kind r.id) r.bytes x → row_id x ≡ r.id → row_fits ROW_FORMAT empty_farm x ≡ true
      → recovered_with (format_after ROW_FORMAT x) (Some (given_key r)) (with_stored empty_farm x) rs ≡ Ok g → HasSaid (r ∷ rs) g
  first_row r (row.Head x) rs g own id fits e =
      let later = rows_after x.format (Some (given_key r)) (with_stored empty_farm (row.Head x)) rs g refl e in
      let key : key_of (row.Head x) ≡ given_key r = λ i. (own.0 i, id i) in
      let all : farm_with x.format (Some (key_of (row.Head x))) (with_stored empty_farm (row.Head x)) later.0 ≡ Ok g = ap (λ (k : StoredKey). farm_with x.format (Some k) (with_stored empty_farm (row.Head x)) later.0) key ∙ later.2 in (
        row.Head x ∷ later.0,
        λ i. record { kind = own.0 i; id = id i; bytes = own.2 i } ∷ (ap (λ (n : ℕ). map (spelled_row n) later.0) later.3 ∙ later.1) i,
        ap (λ (b : Bool). cond b (farm_with x.format (Some (key_of (row.Head x))) (with_stored empty_farm (row.Head x)) later.0) (Err (key_of (row.Head x)))) fits ∙ all,
      )
  first_row r (row.Show n x) rs g own id fits e = absurd (false≢true fits)
  first_row r (row.Alloc n x) rs g own id fits e = absurd (false≢true fits)
  first_row r (row.Sub x) rs g own id fits e = absurd (false≢true fits)
  first_row r (row.Host n x) rs g own id fits e = absurd (false≢true fits)
  first_row r (row.Job x) rs g own id fits e = absurd (false≢true fits)
  first_row r (row.Layer x) rs g own id fits e = absurd (false≢true fits)
  first_row r (row.Frame x) rs g own id fits e = absurd (false≢true fits)
  first_row r (row.Depend x) rs g own id fits e = absurd (false≢true fits)
  first_row r (row.Met x) rs g own id fits e = absurd (false≢true fits)
  first_row r (row.Limit n x) rs g own id fits e = absurd (false≢true fits)

  rows_said : (rows : List Row) (g : Said) → recovered rows ≡ Ok g → HasSaid rows g
  rows_said [] g e = ([], refl, ended_ok (end_fault empty_farm) ROW_FORMAT empty_farm g e)
  rows_said (r ∷ rs) g e =
      let rest : FarmRow → Result Said RecoverFault = λ (x : FarmRow). recovered_with (format_after ROW_FORMAT x) (Some (given_key r)) (with_stored empty_farm x) rs in
      let first = passed (may_follow None (given_key r)) (read_with (row_given ROW_FORMAT r) ROW_FORMAT empty_farm (given_key r) rest) (breaks_farm (given_key r)) g e in
      let read = read_passed (row_given ROW_FORMAT r) ROW_FORMAT empty_farm (given_key r) rest g first.1 in
      first_row r read.0 rs g (spelled ROW_FORMAT r.kind (read_id r.kind r.id) r.bytes read.0 read.1) read.2 read.3 read.4

  pub rows_are : ((rows : List FarmRow) (s : Said) → farm_said rows ≡ Ok s → rows_in s.format s.farm ≡ rows) → (rows : List Row) (s : Said) → recovered rows ≡ Ok s → spelled_rows s.format s.farm ≡ rows
  rows_are law rows s e = let said = rows_said rows s e in ap (map (spelled_row s.format)) (law said.0 s said.2) ∙ said.1

  pub said_by : (rows : List Row) (s : Said) → recovered rows ≡ Ok s → (said : List FarmRow) × (farm_said said ≡ Ok s)
  said_by rows s e = let said = rows_said rows s e in (said.0, said.2)

-- ---- rows that say a farm

all_from : (o : Option StoredKey) (format : ℕ) (f : Farm) (g : Said) → ended format f o ≡ Ok g → all_ended format f o ≡ Ok g
all_from None format f g e = cc (ok_same (record { farm = f; format = format }) g e)
all_from (Some key) format f g e = absurd (err_ok key g e)

taken : (b : Bool) (x : Result Said StoredKey) (key : StoredKey) (g : Said) → cond b x (Err key) ≡ Ok g → (b ≡ true) × (x ≡ Ok g)
taken true x key g e = (refl, e)
taken false x key g e = absurd (err_ok key g e)

-- a row is read by its own id
own_id : (r : FarmRow) → read_id (row_kind r) (row_id r) ≡ row_id r
own_id (row.Head x) = refl
own_id (row.Show n x) = refl
own_id (row.Alloc n x) = refl
own_id (row.Sub x) = refl
own_id (row.Host n x) = refl
own_id (row.Job x) = refl
own_id (row.Layer x) = refl
own_id (row.Frame x) = refl
own_id (row.Depend x) = refl
own_id (row.Met x) = refl
own_id (row.Limit n x) = refl

-- the format that rows say, once the farm's own row came
said_format : (format : ℕ) (last : Option StoredKey) (f : Farm) (rows : List FarmRow) (g : Said) → f.recorded ≡ true → farm_with format last f rows ≡ Ok g → g.format ≡ format
said_format format last f [] g is e = ended_format (end_fault f) format f g e
said_format format last f (r ∷ rs) g is e =
    let step = taken (comes_after last (key_of r) && row_fits format f r) (farm_with (format_after format r) (Some (key_of r)) (with_stored f r) rs) (key_of r) g e in
    let fits = and_both (comes_after last (key_of r)) (row_fits format f r) step.0 in
    said_format (format_after format r) (Some (key_of r)) (with_stored f r) rs g (stays_recorded f r is) step.1 ∙ same_format format f r is fits.1

module _ (again : (format : ℕ) (r : FarmRow) → FitsIn format r → row_from format (row_kind r) (row_id r) (text_in format r) ≡ Some r) where
  read_again : (format : ℕ) (r : FarmRow) → FitsIn format r → row_given format (spelled_row format r) ≡ Some r
  read_again format r fit = ap (λ (id : ℕ). row_from format (row_kind r) id (text_in format r)) (own_id r) ∙ again format r fit

  said_after : (format : ℕ) (last : StoredKey) (f : Farm) (rows : List FarmRow) (g : Said) → f.recorded ≡ true → AllByRecursion (FitsIn format) rows → farm_with format (Some last) f rows ≡ Ok g
      → recovered_with format (Some last) f (map (spelled_row format) rows) ≡ Ok g
  said_after format last f [] g is fit e = all_from (end_fault f) format f g e
  said_after format last f (r ∷ rs) g is fit e =
      let step = taken (comes_after (Some last) (key_of r) && row_fits format f r) (farm_with (format_after format r) (Some (key_of r)) (with_stored f r) rs) (key_of r) g e in
      let both = and_both (comes_after (Some last) (key_of r)) (row_fits format f r) step.0 in
      let same = same_format format f r is both.1 in
      let rest : FarmRow → Result Said RecoverFault = λ (x : FarmRow). recovered_with (format_after format x) (Some (key_of r)) (with_stored f x) (map (spelled_row format) rs) in
      let next = ap (λ (n : ℕ). farm_with n (Some (key_of r)) (with_stored f r) rs) (sym same) ∙ step.1 in
      let later = said_after format (key_of r) (with_stored f r) rs g (stays_recorded f r is) fit.1 next in
      let fits = both_true (eqb (row_id r) (row_id r)) (row_fits format f r) (eq-eqb (row_id r) (row_id r) refl) both.1 in
      ap (λ (b : Bool). cond b (read_with (row_given format (spelled_row format r)) format f (key_of r) rest) (Err (breaks_farm (key_of r)))) both.0
      ∙ (ap (λ (o : Option FarmRow). read_with o format f (key_of r) rest) (read_again format r fit.0)
      ∙ (ap (λ (b : Bool). cond b (rest r) (Err (breaks_farm (key_of r)))) fits
      ∙ (ap (λ (n : ℕ). recovered_with n (Some (key_of r)) (with_stored f r) (map (spelled_row format) rs)) same ∙ later)))

  first_said : (format : ℕ) (r : FarmRow) (rs : List FarmRow) (g : Said) → g.format ≡ format → FitsIn format r → AllByRecursion (FitsIn format) rs → row_fits ROW_FORMAT empty_farm r ≡ true
      → farm_with (format_after ROW_FORMAT r) (Some (key_of r)) (with_stored empty_farm r) rs ≡ Ok g → recovered (map (spelled_row format) (r ∷ rs)) ≡ Ok g
  first_said format (row.Head x) rs g is own fit fits e =
      let head = row.Head x in
      let told : x.format ≡ format = sym (said_format x.format (Some (1, 0)) (with_stored empty_farm head) rs g refl e) ∙ is in
      let rest : FarmRow → Result Said RecoverFault = λ (y : FarmRow). recovered_with (format_after ROW_FORMAT y) (Some (1, 0)) (with_stored empty_farm y) (map (spelled_row format) rs) in
      let next = ap (λ (n : ℕ). farm_with n (Some (1, 0)) (with_stored empty_farm head) rs) (sym told) ∙ e in
      let later = said_after format (1, 0) (with_stored empty_farm head) rs g refl fit next in
      ap (λ (o : Option FarmRow). read_with o ROW_FORMAT empty_farm (1, 0) rest) (read_again ROW_FORMAT head (own.0, inl refl))
      ∙ (ap (λ (b : Bool). cond b (rest head) (Err (breaks_farm (1, 0)))) fits ∙ (ap (λ (n : ℕ). recovered_with n (Some (1, 0)) (with_stored empty_farm head) (map (spelled_row format) rs)) told ∙ later))
  first_said format (row.Show n x) rs g is own fit fits e = absurd (false≢true fits)
  first_said format (row.Alloc n x) rs g is own fit fits e = absurd (false≢true fits)
  first_said format (row.Sub x) rs g is own fit fits e = absurd (false≢true fits)
  first_said format (row.Host n x) rs g is own fit fits e = absurd (false≢true fits)
  first_said format (row.Job x) rs g is own fit fits e = absurd (false≢true fits)
  first_said format (row.Layer x) rs g is own fit fits e = absurd (false≢true fits)
  first_said format (row.Frame x) rs g is own fit fits e = absurd (false≢true fits)
  first_said format (row.Depend x) rs g is own fit fits e = absurd (false≢true fits)
  first_said format (row.Met x) rs g is own fit fits e = absurd (false≢true fits)
  first_said format (row.Limit n x) rs g is own fit fits e = absurd (false≢true fits)

  said_recovered : (format : ℕ) (rows : List FarmRow) (g : Said) → g.format ≡ format → AllByRecursion (FitsIn format) rows → farm_said rows ≡ Ok g → recovered (map (spelled_row format) rows) ≡ Ok g
  said_recovered format [] g is fit e = all_from (end_fault empty_farm) ROW_FORMAT empty_farm g e
  said_recovered format (r ∷ rs) g is fit e =
      let step = taken (row_fits ROW_FORMAT empty_farm r) (farm_with (format_after ROW_FORMAT r) (Some (key_of r)) (with_stored empty_farm r) rs) (key_of r) g e in
      first_said format r rs g is fit.0 fit.1 step.0 step.1

  pub farm_again : (format : ℕ) (f : Farm) → AllByRecursion (FitsIn format) (rows_in format f) → farm_said (rows_in format f) ≡ Ok (record { farm = f; format = format })
      → recovered (spelled_rows format f) ≡ Ok (record { farm = f; format = format })
  farm_again format f fit e = said_recovered format (rows_in format f) (record { farm = f; format = format }) refl fit e
