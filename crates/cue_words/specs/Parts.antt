-- The words of a command one by one: each gives a field of the request, or is wrong.
use Rattle.std.specs.Prelude.{ℕ, zero, suc, ℤ, pos, negsuc, ◌+◌, ◌==◌, List, [], ◌∷◌, codes, bytes_eq, true, false, Option, None, Some, option_map, ok_or, Result, Ok, Err, if◌then◌else◌}
use Rattle.serde_json.specs.Data.{boolean, string, Members, put}
use Rattle.cue_json.specs.Fields.{◌>>=◌}
use Rattle.farm_lines.specs.Points.{cores_of, number_of}
use Rattle.farm_lines.specs.Words.{signed, whole}

-- the word at that place is the first one that is wrong, missing, or one too many; or the spec is no object of whole numbers
pub data WordsError : Type 0 where
  Usage : ℕ → WordsError
  BadSpec : WordsError

-- what stands at a place: any word, as the text of that field; a number; an amount of cores as a cores text; `all` or `any`; or `on`
pub data Part : Type 0 where
  Named : List ℕ → Part
  Numbered : List ℕ → Part
  OfCores : List ℕ → Part
  AllOrAny : Part
  On : Part

abbrev pub negated : ℕ → ℤ
negated zero = pos zero
negated (suc n) = negsuc n

-- a number: 1 to 10 digits, which a minus sign may come before
abbrev pub number_in : List ℕ → Option ℤ
number_in [] = None
number_in (b ∷ bs) = if b == 45 then option_map negated (number_of 10 bs) else option_map pos (number_of 10 (b ∷ bs))

-- whether a group needs one of its targets, and not all
abbrev pub any_of : List ℕ → Members → Option Members
any_of word ms =
    if bytes_eq word (codes "all") then Some (put (codes "any") (boolean false) ms)
    else (if bytes_eq word (codes "any") then Some (put (codes "any") (boolean true) ms)
    else None)

-- the members with what the word gives; none where the word is wrong
abbrev pub taken : Part → List ℕ → Members → Option Members
taken (Named field) word ms = Some (put field (string word) ms)
taken (Numbered field) word ms = option_map (λ number. put field (signed number) ms) (number_in word)
taken (OfCores field) word ms = option_map (λ cores. put field (whole cores) ms) (cores_of word)
taken AllOrAny word ms = any_of word ms
taken On word ms = if bytes_eq word (codes "on") then Some ms else None

-- The members with what the words from a place on give, each of its part, or the first place at fault.
abbrev pub filled : ℕ → List Part → List (List ℕ) → Members → Result Members WordsError
filled at [] [] ms = Ok ms
filled at [] (word ∷ words) ms = Err (Usage at)
filled at (part ∷ parts) [] ms = Err (Usage at)
filled at (part ∷ parts) (word ∷ words) ms = ok_or (taken part word ms) (Usage at) >>= λ more. filled (at + 1) parts words more
