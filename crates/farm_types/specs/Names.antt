-- Names of frames, and commands with their tokens replaced.
use Rattle.std.specs.Prelude.{ℕ, suc, ℤ, pos, negsuc, ◌-◌, List, [], ◌∷◌, ◌++◌, length, take, Bool, nat_lt, replicate, codes, decimal, bytes_eq, Option, None, Some, if◌then◌else◌}
use Rattle.std.specs.Fmt.{signed_decimal}

-- at least so many characters, filled up with zeros in front
abbrev pub padded : ℕ → List ℕ → List ℕ
padded places digits = replicate (places - length digits) 48 ++ digits

-- a number in four places, a sign counted among them
abbrev pub four_places : ℤ → List ℕ
four_places (pos n) = padded 4 (decimal n)
four_places (negsuc n) = 45 ∷ padded 3 (decimal (suc n))

-- a frame's number in four places, a dash, and its layer's name
abbrev pub frame_name : ℤ → List ℕ → List ℕ
frame_name number layer = four_places number ++ 45 ∷ layer

abbrev pub starts_with : List ℕ → List ℕ → Bool
starts_with token text = bytes_eq (take (length token) text) token

-- a token at the front of the text: how long it is, and what stands in its place
pub record Token : Type 0 where
  pub size : ℕ
  pub text : List ℕ

-- the five tokens of a command: the number in four places and plainly, the names of layer, job and frame
abbrev pub token_at : List ℕ → List ℕ → ℤ → List ℕ → Option Token
token_at job layer number text =
    if starts_with (codes "#ZFRAME#") text then Some (record { size = 8; text = four_places number })
    else (if starts_with (codes "#IFRAME#") text then Some (record { size = 8; text = signed_decimal number })
    else (if starts_with (codes "#LAYER#") text then Some (record { size = 7; text = layer })
    else (if starts_with (codes "#JOB#") text then Some (record { size = 5; text = job })
    else (if starts_with (codes "#FRAME#") text then Some (record { size = 7; text = frame_name number layer })
    else None))))

-- what stands in the place of a byte, or of the token that begins there
abbrev pub text_for : ℕ → Option Token → List ℕ
text_for b None = b ∷ []
text_for b (Some token) = token.text

-- how many bytes after this one belong to its token
abbrev pub rest_of : Option Token → ℕ
rest_of None = 0
rest_of (Some token) = token.size - 1

-- The command in one pass from the left: while bytes of a token are left to pass over, they are; a replacement isn't looked at again;
-- every other byte stays.
abbrev pub expanded_from : ℕ → List ℕ → List ℕ → ℤ → List ℕ → List ℕ
expanded_from passing job layer number [] = []
expanded_from passing job layer number (b ∷ bs) =
    if nat_lt 0 passing then expanded_from (passing - 1) job layer number bs
    else text_for b (token_at job layer number (b ∷ bs)) ++ expanded_from (rest_of (token_at job layer number (b ∷ bs))) job layer number bs

abbrev pub expanded : List ℕ → List ℕ → List ℕ → ℤ → List ℕ
expanded command job layer number = expanded_from 0 job layer number command
