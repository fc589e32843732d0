-- A row of the store is the one of its key, where what is stored there is.
use Rattle.std.proofs.Common.{◌≡◌, ◌↔◌, Bool, true, false, not, cond, IsTrue, Option, Some, None, is_some, option_map, refl, sym, ap, subst, ◌∙◌, true≢false}
use Rattle.std.specs.Prelude.{option_and_then}
use Rattle.std.proofs.lemmas.Option.{none-some, same_Some}
use Rattle.farm_types.specs.declared.rows.AllocRow.{AllocRow}
use Rattle.farm_types.specs.declared.rows.HostRow.{HostRow}
use Rattle.farm_types.specs.declared.rows.JobRow.{JobRow}
use Rattle.farm_types.specs.declared.rows.LayerRow.{LayerRow}
use Rattle.farm_types.specs.declared.rows.LimitRow.{LimitRow}
use Rattle.farm_types.specs.declared.rows.ShowRow.{ShowRow}
use Rattle.farm_types.specs.declared.rows.SubRow.{SubRow}
use Rattle.farm_types.specs.declared.depend.DependRow.{DependRow}
use Rattle.farm_types.specs.Farm.{Farm}
use Rattle.farm_rows.specs.declared.farm_row.FarmRow.{FarmRow}
use Rattle.farm_rows.specs.declared.farm_row.FarmRow.TheVariants as row
use Rattle.farm_rows.specs.declared.frame_row.FrameRow.{FrameRow}
use Rattle.farm_rows.specs.declared.head_row.HeadRow.{HeadRow}
use Rattle.farm_rows.specs.Changes.{row_at, row_key}

-- ---- what a row holds

abbrev pub show_in : FarmRow → Option ShowRow
show_in (row.Show show r) = Some r
show_in other = None

abbrev pub alloc_in : FarmRow → Option AllocRow
alloc_in (row.Alloc alloc r) = Some r
alloc_in other = None

abbrev pub sub_in : FarmRow → Option SubRow
sub_in (row.Sub r) = Some r
sub_in other = None

abbrev pub limit_in : FarmRow → Option LimitRow
limit_in (row.Limit limit r) = Some r
limit_in other = None

abbrev pub host_in : FarmRow → Option HostRow
host_in (row.Host host r) = Some r
host_in other = None

abbrev pub job_in : FarmRow → Option JobRow
job_in (row.Job r) = Some r
job_in other = None

abbrev pub layer_in : FarmRow → Option LayerRow
layer_in (row.Layer r) = Some r
layer_in other = None

abbrev pub depend_in : FarmRow → Option DependRow
depend_in (row.Depend r) = Some r
depend_in other = None

abbrev head_in : FarmRow → Option HeadRow
head_in (row.Head r) = Some r
head_in other = None

abbrev frame_in : FarmRow → Option FrameRow
frame_in (row.Frame r) = Some r
frame_in other = None

-- what is said of the row that it is
pub at_row : (f : Farm) (r s : FarmRow) (t : Bool) → r ≡ s → (IsTrue t ↔ (row_at f (row_key s) ≡ Some s)) → (IsTrue t ↔ (row_at f (row_key r) ≡ Some r))
at_row f r s t is said = subst (λ (x : FarmRow). IsTrue t ↔ (row_at f (row_key x) ≡ Some x)) (sym is) said

module _ {X : Type 0} (make : X → FarmRow) (read : FarmRow → Option X) (back : (x : X) → read (make x) ≡ Some x) where
  read_back : (o : Option X) → option_and_then read (option_map make o) ≡ o
  read_back None = refl
  read_back (Some x) = back x

  -- the row stands there exactly where what it holds does
  pub same_row : (o : Option X) (x : X) (t : Bool) → (IsTrue t ↔ (o ≡ Some x)) → (IsTrue t ↔ (option_map make o ≡ Some (make x)))
  same_row o x t is = (λ h. ap (option_map make) (is.0 h), λ e. is.1 (sym (read_back o) ∙ (ap (option_and_then read) e ∙ back x)))

-- a row is there exactly where something is stored
pub some_row : {X : Type 0} (make : X → FarmRow) (o : Option X) → is_some (option_map make o) ≡ is_some o
some_row make None = refl
some_row make (Some x) = refl

-- a row that is there by a test
pub same_by : (t : Bool) (r : FarmRow) → (IsTrue t ↔ (cond t (Some r) None ≡ Some r))
same_by true r = (λ h. refl, λ e. refl)
same_by false r = (λ h. absurd (true≢false (sym h)), λ e. absurd (none-some r e))

pub some_by : (t : Bool) (r : FarmRow) → is_some (cond t (Some r) None) ≡ t
some_by true r = refl
some_by false r = refl

-- the farm's own row is there once the farm is recorded
pub head_same : (recorded : Bool) (own h : HeadRow) (t : Bool) → (IsTrue t ↔ ((recorded ≡ true) × (own ≡ h))) → (IsTrue t ↔ (cond recorded (Some (row.Head own)) None ≡ Some (row.Head h)))
head_same true own h t is = (λ i. ap (λ (x : HeadRow). Some (row.Head x)) (is.0 i).1, λ e. is.1 (refl, same_Some own h (ap (option_and_then head_in) e)))
head_same false own h t is = (λ i. absurd (true≢false (sym (is.0 i).0)), λ e. absurd (none-some (row.Head h) e))

-- and that of a slot once it was used
pub used_same : (unused : Bool) (own x : FrameRow) (t : Bool) → (IsTrue t ↔ ((unused ≡ false) × (own ≡ x))) → (IsTrue t ↔ (cond unused None (Some (row.Frame own)) ≡ Some (row.Frame x)))
used_same true own x t is = (λ i. absurd (true≢false (is.0 i).0), λ e. absurd (none-some (row.Frame x) e))
used_same false own x t is = (λ i. ap (λ (y : FrameRow). Some (row.Frame y)) (is.0 i).1, λ e. is.1 (refl, same_Some own x (ap (option_and_then frame_in) e)))

pub used_some : (unused : Bool) (r : FarmRow) → is_some (cond unused None (Some r)) ≡ not unused
used_some true r = refl
used_some false r = refl

-- nothing stands there
pub none_same : {X : Type 0} (x : X) → (IsTrue false ↔ (None ≡ Some x))
none_same x = (λ h. absurd (true≢false (sym h)), λ e. absurd (none-some x e))

pub some_same : {X : Type 0} (x y : X) (t : Bool) → (IsTrue t ↔ (x ≡ y)) → (IsTrue t ↔ (Some x ≡ Some y))
some_same x y t is = (λ h. ap Some (is.0 h), λ e. is.1 (same_Some x y e))
