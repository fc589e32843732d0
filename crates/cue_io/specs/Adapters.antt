-- What the adapters over readers and writers of std tell.
use Rattle.std.specs.Prelude.{ℕ, ◌-◌, Bool, true, false, List, Option, None, Some, length, take}

-- the bytes that an adapter tells of those that its reader or writer tells, by whether it tells any
abbrev pub told : Bool → Option (List ℕ) → Option (List ℕ)
told false known = None
told true known = known

-- an adapter that tells bytes has a reader or writer that does
abbrev pub IsTold : Bool → Option (List ℕ) → Type 0
IsTold false known = Unit {0}
IsTold true None = ⊥
IsTold true (Some bytes) = Unit {0}

-- a source over a reader: the bytes left, how many the last read gave, and its faults
pub record Inlet : Type 0 where
  pub left : Option (List ℕ)
  pub last : ℕ
  pub faults : ℕ

-- a sink over a writer: the bytes that the writer took, how many of the last ones weren't flushed, and its faults
pub record Outlet : Type 0 where
  pub held : Option (List ℕ)
  pub unflushed : ℕ
  pub faults : ℕ

-- the bytes that count as written: all but the unflushed ones
abbrev pub flushed : Option (List ℕ) → ℕ → Option (List ℕ)
flushed None unflushed = None
flushed (Some bytes) unflushed = Some (take (length bytes - unflushed) bytes)
