-- Groups that are marked as met and depends that are satisfied, and when the targets of groups were done.
use Rattle.std.specs.Prelude.{ℕ, ◌≡◌, false, true, List, [], ◌∷◌, Some, slice_get, ◌⊎◌}
use Rattle.farm_types.specs.declared.depend.DependRow.{DependRow}
use Rattle.farm_types.specs.declared.depend.Group.{Group}
use Rattle.farm_types.specs.declared.entry.Act.{Act}
use Rattle.farm_types.specs.declared.entry.Act.TheVariants.{DropDepend}
use Rattle.farm_types.specs.declared.entry.Entry.{Entry}
use Rattle.farm_types.specs.Depends.{are_done, groups_of, is_done, is_marked, is_met}
use Rattle.farm_types.specs.Farm.{Farm}
use Rattle.farm_types.specs.Step.{acted, after}

-- the group is one of a depend of that number that isn't satisfied, and is marked
pub record IsMarkedIn (f : Farm) (depend : ℕ) (g : Group) : Type 0 where
  pub place : ℕ
  pub row : DependRow
  pub at : slice_get f.depends place ≡ Some row
  pub number : row.depend ≡ depend
  pub unmet : row.met_all ≡ false
  pub position : ℕ
  pub there : slice_get (groups_of f row) position ≡ Some g
  pub marked : is_marked f row g ≡ true

-- The targets of the group are done as its depend asks, once the entry has changed frames, and before jobs finish by it.
abbrev pub AreDoneAt : Farm → Entry → Group → Type 0
AreDoneAt f e g = are_done (is_done (acted f e).slots) g ≡ true

-- they are so at one of the entries
abbrev pub AreDoneIn : Farm → List Entry → Group → Type 0
AreDoneIn f [] g = ⊥
AreDoneIn f (e ∷ es) g = AreDoneAt f e g ⊎ AreDoneIn (after f e) es g

-- each group of a depend that is met stays met in the other farm, where that has a depend of this number
abbrev pub MetStays : Farm → Farm → Type 0
MetStays f g =
    (n m k : ℕ) (d e : DependRow) (x : Group) → slice_get f.depends n ≡ Some d → slice_get g.depends m ≡ Some e → e.depend ≡ d.depend
    → slice_get (groups_of f d) k ≡ Some x → is_met f d x ≡ true → is_met g e x ≡ true

-- ---- satisfied depends

-- a depend of that number is there, and is satisfied
pub record IsSatisfiedIn (f : Farm) (depend : ℕ) : Type 0 where
  pub place : ℕ
  pub row : DependRow
  pub at : slice_get f.depends place ≡ Some row
  pub number : row.depend ≡ depend
  pub satisfied : row.met_all ≡ true

-- the act drops the depend
abbrev pub Drops : Act → ℕ → Type 0
Drops (DropDepend dropped) depend = dropped ≡ depend
Drops act depend = ⊥

-- Each group of the depend was marked before the entry, or its targets are done as the depend asks, once the entry has
-- changed frames. The groups are those that the depend has then: of one that was there before, those that it had.
pub record AreMetAt (f : Farm) (e : Entry) (depend : ℕ) : Type 0 where
  pub place : ℕ
  pub row : DependRow
  pub at : slice_get (after f e).depends place ≡ Some row
  pub number : row.depend ≡ depend
  pub groups : (n : ℕ) (d : DependRow) → slice_get f.depends n ≡ Some d → d.depend ≡ depend → groups_of (acted f e) row ≡ groups_of f d
  pub met : (k : ℕ) (x : Group) → slice_get (groups_of (acted f e) row) k ≡ Some x → (is_marked f row x ≡ true) ⊎ AreDoneAt f e x

-- the entry drops the depend, or its groups are met so
abbrev pub IsSatisfiedAt : Farm → Entry → ℕ → Type 0
IsSatisfiedAt f e depend = Drops e.act depend ⊎ AreMetAt f e depend

-- it is so at one of the entries
abbrev pub BecomesSatisfied : Farm → List Entry → ℕ → Type 0
BecomesSatisfied f [] depend = ⊥
BecomesSatisfied f (e ∷ es) depend = IsSatisfiedAt f e depend ⊎ BecomesSatisfied (after f e) es depend

-- each depend that is satisfied is so in the other farm too, where that has a depend of this number
abbrev pub SatisfiedStays : Farm → Farm → Type 0
SatisfiedStays f g =
    (n m : ℕ) (d e : DependRow) → slice_get f.depends n ≡ Some d → slice_get g.depends m ≡ Some e → e.depend ≡ d.depend → d.met_all ≡ true → e.met_all ≡ true
