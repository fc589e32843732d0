-- Sources and sinks in memory, with a list of the calls that are to fail, by their number from 1.
use Rattle.std.specs.Prelude.{ℕ, ◌-◌, Bool, ◌==◌, ◌&&◌, nat_lt, min, List, ◌++◌, length, take, drop, if◌then◌else◌}
use Rattle.fault_counts.specs.Plans.{Plan, after_call, with_fault}

-- a source: the bytes left, the most that a read gives, how many the last one gave, and its calls
pub record Supply : Type 0 where
  pub left : List ℕ
  pub most : ℕ
  pub last : ℕ
  pub plan : Plan

-- how many bytes a read gives into a buffer of this size
abbrev pub read_count : Supply → ℕ → ℕ
read_count supply size = min supply.most (min size (length supply.left))

-- the source after a read that gave so many bytes
abbrev pub after_read : Supply → ℕ → Supply
after_read supply count = record supply { left = drop count supply.left; last = count; plan = after_call supply.plan }

-- a sink: the bytes written, the most that a write takes, its capacity, and its calls
pub record Store : Type 0 where
  pub written : List ℕ
  pub most : ℕ
  pub capacity : ℕ
  pub plan : Plan

-- how many bytes of a piece of this length a write takes
abbrev pub write_count : Store → ℕ → ℕ
write_count store piece = min store.most (min piece (store.capacity - length store.written))

-- whether nothing was taken of a piece that isn't empty
abbrev pub takes_none : ℕ → ℕ → Bool
takes_none count piece = count == 0 && nat_lt 0 piece

-- the calls of a sink after a write that took so many bytes of a piece of this length
abbrev pub after_taking : Plan → ℕ → ℕ → Plan
after_taking plan count piece = if takes_none count piece then with_fault (after_call plan) else after_call plan

-- the sink after a write of a piece that didn't fail
abbrev pub after_write : Store → List ℕ → Store
after_write store piece = record store {
  written = store.written ++ take (write_count store (length piece)) piece;
  plan = after_taking store.plan (write_count store (length piece)) (length piece);
}
