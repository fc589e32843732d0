-- What is said of whole books, by what is said of the farm with the book of its depends.
use Rattle.std.proofs.Common.{◌≡◌, ◌∙◌, ℕ, List, length, Option, Ok, sym, ap, subst}
use Rattle.std.specs.Prelude.{Result}
use Rattle.farm_types.specs.declared.depend.MetRow.{MetRow}
use Rattle.farm_types.specs.declared.entry.Act.{Act}
use Rattle.farm_types.specs.declared.fault.FarmFault.{FarmFault}
use Rattle.farm_types.specs.declared.job.JobSpec.{JobSpec}
use Rattle.farm_types.specs.Farm.{Farm}
use Rattle.farm_types.specs.Step.{after_submit}
use Rattle.farm_rows.specs.Changes.{beside}
use Rattle.depend_graph.specs.Graph.{groups_left}
use Rattle.depend_book.specs.Book.{DependLists, joined}
use Rattle.farm_books.specs.Books.{FarmBooks, IsWhole, depends_of}
use Rattle.farm_books.proofs.WholeBooks.{whole_farm}
use Rattle.farm_changes.specs.Change.{after_change}
use Rattle.farm_changes.specs.declared.change.Change.{Change}
use Rattle.farm_depends.specs.declared.new_depends.room.Counts.{Counts}
use Rattle.farm_depends.specs.Follow.{FollowFits, Follows, PreparesFollow}
use Rattle.farm_depends.specs.declared.follow.Follow.{Follow}
use Rattle.farm_depends.proofs.Beside.{depends_placed, depends_stay}

-- how much room a book of depends leaves
abbrev pub counts_told : DependLists → Counts
counts_told b = record { depends = length b.rows; groups = groups_left b.graph.depends; next = b.next }

module _ (v : FarmBooks) (whole : IsWhole v) where
  -- a farm with the same depends
  pub same_depends : (g : Farm) → beside g v.farm.depends v.farm.met v.farm.next_depend ≡ g → joined g (depends_of v) ≡ g
  same_depends g own = ap (λ (ms : List MetRow). beside g v.farm.depends ms v.farm.next_depend) (sym whole.met) ∙ own

  pub changed_farm : (change : Change) → joined (after_change v.farm change) (depends_of v) ≡ after_change v.farm change
  changed_farm change = same_depends (after_change v.farm change) (depends_stay v.farm change)

  pub placed_farm : (spec : JobSpec) (o : Option ℕ) → joined (after_submit v.farm spec o) (depends_of v) ≡ after_submit v.farm spec o
  placed_farm spec o = same_depends (after_submit v.farm spec o) (depends_placed v.farm spec o)

  -- what follows
  pub prepares_of : (g : Farm) (act : Act) (result : Result Follow FarmFault) → joined g (depends_of v) ≡ g → PreparesFollow (joined v.farm (depends_of v)) (joined g (depends_of v)) act result
      → PreparesFollow v.farm g act result
  prepares_of g act result same prepares =
      subst (λ (f : Farm). PreparesFollow f g act result) (whole_farm v whole) (subst (λ (h : Farm). PreparesFollow (joined v.farm (depends_of v)) h act result) same prepares)

  pub follows_of : (g : Farm) (act : Act) (w : Follow) → joined g (depends_of v) ≡ g → Follows (joined v.farm (depends_of v)) (joined g (depends_of v)) act w → Follows v.farm g act w
  follows_of g act w same follows = prepares_of g act (Ok w) same follows

  pub follows_beside : (g : Farm) (act : Act) (w : Follow) → joined g (depends_of v) ≡ g → Follows v.farm g act w → Follows (joined v.farm (depends_of v)) (joined g (depends_of v)) act w
  follows_beside g act w same follows =
      subst (λ (f : Farm). Follows f (joined g (depends_of v)) act w) (sym (whole_farm v whole)) (subst (λ (h : Farm). Follows v.farm h act w) (sym same) follows)

  pub fits_beside : (g : Farm) (w : Follow) → joined g (depends_of v) ≡ g → FollowFits v.farm g w → FollowFits (joined v.farm (depends_of v)) (joined g (depends_of v)) w
  fits_beside g w same fits =
      subst (λ (f : Farm). FollowFits f (joined g (depends_of v)) w) (sym (whole_farm v whole)) (subst (λ (h : Farm). FollowFits v.farm h w) (sym same) fits)
