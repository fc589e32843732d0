-- What is read of the farm.
use Rattle.std.specs.Prelude.{ℕ, Option, option_map, find, nat_lt}
use Rattle.farm_types.specs.declared.depend.DependRow.{DependRow}
use Rattle.farm_types.specs.Farm.{Farm}

-- the depend with the least number above this one: numbers rise
abbrev pub depend_after : Farm → ℕ → Option ℕ
depend_after f after = option_map (λ (d : DependRow). d.depend) (find (λ (d : DependRow). nat_lt after d.depend) f.depends)
