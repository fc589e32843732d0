-- The forms of names, commands and frames' numbers.
use Rattle.std.specs.Prelude.{ℕ, ℤ, ◌==◌, ◌&&◌, ◌||◌, List, length, Bool, nat_le, int_le, negsuc, pos}
use Rattle.std.specs.List.{list_all}
use Rattle.std.specs.Str.{is_utf8}
use Rattle.farm_types.specs.declared.limits.TheConstants.{MOST_NAME, MOST_TAG}

abbrev pub is_between : ℕ → ℕ → ℕ → Bool
is_between least most b = nat_le least b && nat_le b most

-- a letter or a digit of ASCII
abbrev pub is_letter_or_digit : ℕ → Bool
is_letter_or_digit b = is_between 48 57 b || is_between 65 90 b || is_between 97 122 b

-- a letter, a digit, `_`, `.` or `-`
abbrev pub is_name_byte : ℕ → Bool
is_name_byte b = is_letter_or_digit b || b == 95 || b == 46 || b == 45

-- 1 to 64 bytes of a name
abbrev pub is_name_text : List ℕ → Bool
is_name_text text = is_between 1 MOST_NAME (length text) && list_all is_name_byte text

-- a letter, a digit, `_` or `-`
abbrev pub is_tag_byte : ℕ → Bool
is_tag_byte b = is_letter_or_digit b || b == 95 || b == 45

-- 1 to 31 bytes of a tag
abbrev pub is_tag_text : List ℕ → Bool
is_tag_text text = is_between 1 MOST_TAG (length text) && list_all is_tag_byte text

-- no name, or a name
abbrev pub is_name_or_empty : List ℕ → Bool
is_name_or_empty text = length text == 0 || is_name_text text

-- no byte below 32, so no line break, no tab and no other control byte
abbrev pub is_command_byte : ℕ → Bool
is_command_byte b = nat_le 32 b

-- a text in UTF-8 of such bytes
abbrev pub is_command_text : List ℕ → Bool
is_command_text text = is_utf8 text && list_all is_command_byte text

-- a number that a frame may have
abbrev pub is_frame_number : ℤ → Bool
is_frame_number number = int_le (negsuc 9999998) number && int_le number (pos 9999999)
