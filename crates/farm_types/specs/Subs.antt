-- Subscriptions, in the order of their numbers.
use Rattle.std.specs.Prelude.{◌==◌, List, [], ◌∷◌, nat_lt, if◌then◌else◌}
use Rattle.farm_types.specs.declared.rows.SubRow.{SubRow}

-- the subscriptions with this one, in the place of the one of its number or where its number belongs
abbrev pub with_sub : SubRow → List SubRow → List SubRow
with_sub row [] = row ∷ []
with_sub row (s ∷ ss) =
    if s.sub == row.sub then row ∷ ss
    else (if nat_lt row.sub s.sub then row ∷ s ∷ ss
    else s ∷ with_sub row ss)
