-- What the set keeps beside its marks: how many places of each block are in it.
use Rattle.std.specs.Prelude.{ℕ, ◌≡◌, ◌+◌, ◌-◌, ◌*◌, ◌/◌, ◌^◌, ◌<◌, Bool, true, false, List, length, take, drop, slice_index, count_by}
use Rattle.place_set.specs.declared.blocks.TheConstants.{BLOCK}

-- how many of the marks are true
abbrev pub marked : List Bool → ℕ
marked marks = count_by (λ mark. mark) marks

-- how many places of a block are in the set
unfoldable pub count_of : List Bool → ℕ → ℕ
count_of marks block = marked (take BLOCK (drop (BLOCK * block) marks))

-- each block has its count, and so has what is left after the whole blocks, also where that is nothing. Past them all both
-- sides are 0.
pub record Counted (marks : List Bool) (counts : List ℕ) : Type 0 where
  pub blocks : length counts ≡ length marks / BLOCK + 1
  pub counted : (block : ℕ) → slice_index counts block ≡ count_of marks block

-- the count of a block where one of its marks changed to this one
abbrev pub count_with : Bool → ℕ → ℕ
count_with true count = count + 1
count_with false count = count - 1

-- the count can take that change
abbrev pub CountChanges : Bool → ℕ → Type 0
CountChanges true count = count + 1 < 2 ^ 32
CountChanges false count = 0 < count
