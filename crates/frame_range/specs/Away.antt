-- How the code counts along a section: by how far a number is from the first one.
use Rattle.std.specs.Prelude.{ℕ, zero, suc, ◌+◌, ◌/◌, ◌%◌, ℤ, pos, neg_ℤ, ◌+ℤ◌, Bool, true, false, ◌==◌, if◌then◌else◌, List, [], ◌∷◌, ◌++◌}
use Rattle.frame_range.specs.Steps.{steps_from}

-- so far up, or down
abbrev pub stride : Bool → ℕ → ℤ
stride true n = pos n
stride false n = neg_ℤ (pos n)

-- the number so far up or down from the first
abbrev pub away : ℤ → Bool → ℕ → ℤ
away first up offset = first +ℤ stride up offset

-- the numbers by ones from the offset on, without those whose offset is a multiple of the size
abbrev pub others_from : ℤ → Bool → ℕ → ℕ → ℕ → List ℤ
others_from first up size offset zero = []
others_from first up size offset (suc count) =
    if offset % size == 0 then others_from first up size (offset + 1) count
    else away first up offset ∷ others_from first up size (offset + 1) count

-- the steps of size, size / 2, size / 4 and so on, joined
abbrev pub halves_from : ℤ → Bool → ℕ → ℕ → ℕ → List ℤ
halves_from first up span zero size = []
halves_from first up span (suc turns) size =
    if size == 0 then [] else steps_from first (stride up size) (span / size + 1) ++ halves_from first up span turns (size / 2)
