-- The buffer of a reader of lines.
use Rattle.std.specs.Prelude.{◌≡◌, ℕ, ◌≤◌, List, length, Option}
use Rattle.cue_io.specs.Input.{Takes, IsAtEnd}

-- a buffer: how many bytes fit, the line given last, and the bytes held
pub record Framed : Type 0 where
  pub size : ℕ
  pub line : List ℕ
  pub held : List ℕ

-- a read took these bytes, at most so many, and none only at the end
pub record Fills (old new : Option (List ℕ)) (count most : ℕ) (fresh : List ℕ) : Type 0 where
  pub count_is : length fresh ≡ count
  pub within : count ≤ most
  pub takes : Takes old new fresh
  pub end : count ≡ 0 → IsAtEnd new
