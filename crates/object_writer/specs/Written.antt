-- A text as far as it is written.
use Rattle.std.specs.Prelude.{◌≡◌, ◌≤◌, ℕ, ◌+◌, List, ◌++◌, Bool, ◌&&◌, ◌==◌, length, nat_le, not, take}
use Rattle.std.specs.List.{list_all}
use Rattle.std.specs.Str.{IsUtf8}
use Rattle.json.specs.Token.{Token}
use Rattle.json.specs.Print.{ArePrintable, ends_value, print}

-- it is the print of some tokens, and whether the last of these ended a value is known
pub record IsWritten (text : List ℕ) (after_value : Bool) : Type 0 where
  pub printed : List Token
  pub printable : ArePrintable printed
  pub is : text ≡ print printed
  pub place : after_value ≡ ends_value printed
  pub utf8 : IsUtf8 text

-- a byte that stands for itself in a JSON text
abbrev pub is_plain_byte : ℕ → Bool
is_plain_byte byte = nat_le 32 byte && (not (byte == 34) && not (byte == 92))

-- a text whose bytes all do
abbrev pub is_plain : List ℕ → Bool
is_plain text = list_all is_plain_byte text

-- the new room has the bytes behind the first `at` of the old one, up to `end`
pub record HasPut (old new : List ℕ) (at : ℕ) (bytes : List ℕ) (end : ℕ) : Type 0 where
  pub put : take end new ≡ take at old ++ bytes
  pub moved : end ≡ at + length bytes
  pub len : length new ≡ length old

-- the text that is written ends where the room's first `len` bytes end
pub record FillsRoom (room : List ℕ) (len : ℕ) (after_value : Bool) : Type 0 where
  pub within : len ≤ length room
  pub written : IsWritten (take len room) after_value

-- the text of the room's first `len` bytes stays
pub record KeepsText (old new : List ℕ) (len : ℕ) : Type 0 where
  pub text : take len new ≡ take len old
  pub within : len ≤ length new

-- the bytes stand behind the text, which ends with them
pub record HasWritten (old new : List ℕ) (len : ℕ) (bytes : List ℕ) (end : ℕ) : Type 0 where
  pub text : take end new ≡ take len old ++ bytes
  pub within : end ≤ length new
