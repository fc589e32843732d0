-- The rows that the types can hold, and what reading bytes answers.
use Rattle.std.specs.Prelude.{ℕ, ℤ, ◌≡◌, ◌⊎◌, ◌<◌, ◌^◌, ◌&&◌, pos, negsuc, Bool, true, List, Option, None, Some, IfSome, is_some, int_le, Result, Ok, Err}
use Rattle.std.specs.List.{AllByRecursion}
use Rattle.std.specs.Str.{is_utf8}
use Rattle.farm_types.specs.declared.depend.DependEnd.{DependEnd}
use Rattle.farm_types.specs.declared.depend.DependRow.{DependRow}
use Rattle.farm_types.specs.declared.rows.HostRow.{HostRow}
use Rattle.farm_types.specs.declared.rows.JobRow.{JobRow}
use Rattle.farm_types.specs.declared.rows.LayerRow.{LayerRow}
use Rattle.farm_types.specs.declared.rows.LimitRow.{LimitRow}
use Rattle.farm_types.specs.declared.rows.SubRow.{SubRow}
use Rattle.farm_types.specs.Formed.{names_layer, names_frame, names_target_layer, names_target_frame}
use Rattle.farm_rows.specs.declared.farm_row.FarmRow.{FarmRow}
use Rattle.farm_rows.specs.declared.farm_row.FarmRow.TheVariants as row
use Rattle.farm_rows.specs.declared.frame_row.FrameRow.{FrameRow}
use Rattle.farm_rows.specs.declared.frame_row.StoredFrame.{StoredFrame}
use Rattle.farm_rows.specs.declared.frame_row.StoredState.{StoredState}
use Rattle.farm_rows.specs.declared.frame_row.StoredState.TheVariants as stored
use Rattle.farm_rows.specs.declared.head_row.HeadRow.{HeadRow}
use Rattle.farm_rows.specs.declared.head_row.TheConstants.{ROW_FORMAT}
use Rattle.farm_rows.specs.declared.ids.TheConstants.{GROUP_IDS, LAYER_IDS}
use Rattle.farm_rows.specs.Rows.{row_id, row_kind}
use Rattle.row_codec.specs.RowFields.{text_in}
use Rattle.row_codec.specs.declared.fault.ReadFault.{ReadFault}
use Rattle.row_codec.specs.declared.fault.ReadFault.TheVariants as read_fault
use Rattle.row_codec.specs.declared.fault.RowFault.{RowFault}
use Rattle.row_codec.specs.declared.fault.RowFault.TheVariants as row_fault

-- ---- what the types can hold

abbrev pub IsText : List ℕ → Type 0
IsText text = is_utf8 text ≡ true

-- a number of 32 bits with a sign
abbrev pub IsSigned : ℤ → Type 0
IsSigned z = (int_le (negsuc 2147483647) z && int_le z (pos 2147483647)) ≡ true

pub record HeadFits (r : HeadRow) : Type 0 where
  pub format : r.format < 2 ^ 64
  pub moment : r.moment < 2 ^ 64
  pub jobs : r.jobs < 2 ^ 64
  pub finishes : r.finishes < 2 ^ 64
  pub depends : r.depends < 2 ^ 64

pub record SubFits (r : SubRow) : Type 0 where
  pub sub : r.sub < 2 ^ 16
  pub size : r.size < 2 ^ 32
  pub burst : r.burst < 2 ^ 32

pub record HostFits (r : HostRow) : Type 0 where
  pub name : IsText r.name
  pub alloc : r.alloc < 2 ^ 16
  pub tags : AllByRecursion IsText r.tags
  pub cores : r.cores < 2 ^ 32
  pub memory : r.memory < 2 ^ 64
  pub boot : r.boot < 2 ^ 32
  pub nonce : r.nonce < 2 ^ 64
  pub seq : r.seq < 2 ^ 64
  pub heard : r.heard < 2 ^ 64

pub record JobFits (r : JobRow) : Type 0 where
  pub job : r.job < 2 ^ 32
  pub name : IsText r.name
  pub show : r.show < 2 ^ 16
  pub facility : IsText r.facility
  pub shot : IsText r.shot
  pub user : IsText r.user
  pub priority : r.priority < 2 ^ 32
  pub max_retries : r.max_retries < 2 ^ 32
  pub frames : r.frames < 2 ^ 32
  pub finish : r.finish < 2 ^ 64
  pub eaten : r.eaten < 2 ^ 32
  pub succeeded : r.succeeded < 2 ^ 32

-- a layer whose place has an id of its own
pub record LayerFits (r : LayerRow) : Type 0 where
  pub job : r.job < 2 ^ 32
  pub place : r.place < LAYER_IDS
  pub name : IsText r.name
  pub range : IsText r.range
  pub command : IsText r.command
  pub cores : r.cores < 2 ^ 32
  pub memory : r.memory < 2 ^ 64
  pub tags : AllByRecursion IsText r.tags
  pub limit : IfSome r.limit (λ limit. limit < 2 ^ 8)

abbrev pub StateFits : StoredState → Type 0
StateFits (stored.Running boot host since) = (boot < 2 ^ 32) × (host < 2 ^ 16) × (since < 2 ^ 64)
StateFits other = Unit {0}

pub record StoredFits (x : StoredFrame) : Type 0 where
  pub job : x.job < 2 ^ 32
  pub layer : x.layer < 2 ^ 32
  pub number : IsSigned x.number
  pub retries : x.retries < 2 ^ 32
  pub state : StateFits x.state

abbrev pub SlotFits : Option StoredFrame → Type 0
SlotFits None = Unit {0}
SlotFits (Some x) = StoredFits x

pub record FrameFits (r : FrameRow) : Type 0 where
  pub slot : r.slot < 2 ^ 32
  pub version : r.version < 2 ^ 32
  pub frame : SlotFits r.frame

abbrev pub LayerNamed : Option (List ℕ) → Type 0
LayerNamed None = Unit {0}
LayerNamed (Some name) = IsText name

abbrev pub FrameNamed : Option ℤ → Type 0
FrameNamed None = Unit {0}
FrameNamed (Some number) = IsSigned number

-- an end with a layer and a frame where its depend's kind names them
pub record EndFits (layered framed : Bool) (e : DependEnd) : Type 0 where
  pub job : e.job < 2 ^ 32
  pub has_layer : is_some e.layer ≡ layered
  pub has_frame : is_some e.frame ≡ framed
  pub layer : LayerNamed e.layer
  pub frame : FrameNamed e.frame

pub record DependFits (r : DependRow) : Type 0 where
  pub depend : r.depend < 2 ^ 32
  pub waiter : EndFits (names_layer r.kind) (names_frame r.kind) r.waiter
  pub target : EndFits (names_target_layer r.kind) (names_target_frame r.kind) r.target

pub record LimitFits (number : ℕ) (r : LimitRow) : Type 0 where
  pub limit : number < 2 ^ 8
  pub name : IsText r.name
  pub most : r.most < 2 ^ 32

-- Each number is one of its type, and each text is UTF-8. A layer's place and a met group's position have ids of their own, and a depend's ends are
-- those of its kind.
abbrev pub Fits : FarmRow → Type 0
Fits (row.Head r) = HeadFits r
Fits (row.Show show r) = (show < 2 ^ 16) × IsText r.name
Fits (row.Alloc alloc r) = (alloc < 2 ^ 16) × IsText r.facility × IsText r.tag
Fits (row.Sub r) = SubFits r
Fits (row.Host host r) = (host < 2 ^ 16) × HostFits r
Fits (row.Job r) = JobFits r
Fits (row.Layer r) = LayerFits r
Fits (row.Frame r) = FrameFits r
Fits (row.Depend r) = DependFits r
Fits (row.Met r) = (r.depend < 2 ^ 32) × (r.position < GROUP_IDS)
Fits (row.Limit limit r) = LimitFits limit r

-- in format 1 there is no layer with a limit
abbrev pub HasNoLimit : FarmRow → Type 0
HasNoLimit (row.Layer r) = r.limit ≡ None
HasNoLimit other = Unit {0}

abbrev pub FitsIn : ℕ → FarmRow → Type 0
FitsIn format r = Fits r × ((format ≡ ROW_FORMAT) ⊎ HasNoLimit r)

-- ---- what reading answers

-- the row is of that kind and id, and has those bytes in the format
abbrev pub IsSpelled : ℕ → ℕ → ℕ → List ℕ → FarmRow → Type 0
IsSpelled format kind id bytes r = (row_kind r ≡ kind) × (row_id r ≡ id) × (text_in format r ≡ bytes)

-- no row that the types can hold is
abbrev pub IsNoSpelling : ℕ → ℕ → ℕ → List ℕ → Type 0
IsNoSpelling format kind id bytes = (r : FarmRow) → FitsIn format r → IsSpelled format kind id bytes r → ⊥

-- a row that has the bytes, or the kind and id where none has, unless memory ran out
abbrev pub IsExact : ℕ → ℕ → ℕ → List ℕ → Result FarmRow RowFault → Type 0
IsExact format kind id bytes (Ok r) = IsSpelled format kind id bytes r
IsExact format kind id bytes (Err (row_fault.BadBytes k i)) = (k ≡ kind) × (i ≡ id) × IsNoSpelling format kind id bytes
IsExact format kind id bytes (Err row_fault.NoMemory) = Unit {0}

-- what a call read is what was to be read, unless memory ran out
abbrev pub Reads : {X : Type 0} → Result X ReadFault → Option X → Type 0
Reads (Ok x) found = found ≡ Some x
Reads (Err read_fault.NoRow) found = found ≡ None
Reads (Err read_fault.NoMemory) found = Unit {0}

-- decoding answers the row that was to be read, or names the kind and the id where there is none, unless memory ran out
abbrev pub IsDecoded : ℕ → ℕ → Result FarmRow RowFault → Option FarmRow → Type 0
IsDecoded kind id (Ok r) found = found ≡ Some r
IsDecoded kind id (Err (row_fault.BadBytes k i)) found = (found ≡ None) × (k ≡ kind) × (i ≡ id)
IsDecoded kind id (Err row_fault.NoMemory) found = Unit {0}
