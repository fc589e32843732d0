-- No change takes a host away.
use Rattle.std.proofs.Common.{◌≡◌, ◌≤◌, ℕ, List, [], ◌∷◌, length, refl, ◌∙◌, arith}
use Rattle.farm_types.specs.declared.rows.HostRow.{HostRow}
use Rattle.farm_types.specs.Farm.{Farm, changed_at, host_from}
use Rattle.farm_types.proofs.Changed.{length-changed_at}
use Rattle.farm_law.proofs.Booted.{boot_count}
use Rattle.host_book.specs.Book.{alloc_of}
use Rattle.host_book.specs.Life.{with_life}
use Rattle.host_book.specs.declared.life.HostLife.{HostLife}
use Rattle.farm_draft.specs.Rows.{put_lives}
use Rattle.farm_changes.specs.Change.{after_change, with_more, with_rows}
use Rattle.farm_changes.specs.declared.change.Change.{Change}
use Rattle.farm_changes.specs.declared.change.More.{More}
use Rattle.farm_changes.specs.declared.change.More.TheVariants as more

lives_count : (hosts : List HostRow) (es : List (ℕ × HostLife)) → length (put_lives hosts es) ≡ length hosts
lives_count hosts [] = refl
lives_count hosts (e ∷ es) = lives_count (changed_at hosts e.0 (with_life e.1)) es ∙ length-changed_at hosts e.0 (with_life e.1)

more_count : (f : Farm) (moment : ℕ) (m : More) → length f.hosts ≤ length (with_more f moment m).hosts
more_count f moment more.Nothing = omega arith
more_count f moment (more.Show name) = omega arith
more_count f moment (more.Alloc facility tag) = omega arith
more_count f moment (more.Sub sub size burst) = omega arith
more_count f moment (more.Limit planned name most) = omega arith
more_count f moment (more.Boot planned line) = boot_count f line moment (alloc_of planned) (host_from 0 line.host f.hosts)
more_count f moment (more.Paused job paused) = omega arith
more_count f moment (more.Job placing spec) = omega arith

pub change_count : (f : Farm) (change : Change) → length f.hosts ≤ length (after_change f change).hosts
change_count f change = omega (arith, lives_count f.hosts change.rows.hosts.items, more_count (with_rows f change) change.moment change.more)
