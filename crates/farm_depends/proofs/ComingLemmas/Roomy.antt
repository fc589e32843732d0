-- There is room for depends that come once each group is marked that is met, where there was before.
use Rattle.std.proofs.Common.{◌≡◌, ℕ, ◌+◌, ◌≤◌, cond, List, [], ◌∷◌, ◌++◌, map, length, refl, ap, sym, ◌∙◌, arith, length-append}
use Rattle.std.specs.List.{list_all, sum_by}
use Rattle.std.proofs.lemmas.List.{length-map}
use Rattle.std.proofs.lemmas.List.Sums.{sum_by-append}
use Rattle.farm_types.specs.declared.depend.DependRow.{DependRow}
use Rattle.farm_types.specs.declared.depend.Group.{Group}
use Rattle.farm_types.specs.declared.depend.MetRow.{MetRow}
use Rattle.farm_types.specs.Depends.{groups_left, groups_of}
use Rattle.farm_types.specs.Farm.{Farm}
use Rattle.farm_types.specs.Settle.{is_met_now, met_rows, settled_row, with_met}
use Rattle.depend_law.proofs.Fewer.{left_less, sum_by-map-less}
use Rattle.depend_law.proofs.MetAgain.{groups_met}
use Rattle.depend_book.specs.declared.new_depend.NewDepend.{NewDepend}
use Rattle.farm_depends.specs.Follow.{AreRoomy, with_row}
use Rattle.farm_depends.proofs.ComingLemmas.WithRow.{groups_with, new_row}

left_row : (f : Farm) (n : NewDepend) → groups_left (with_row f n) ≡ groups_left f + length (groups_of f (new_row f n))
left_row f n =
    let weight : DependRow → ℕ = λ (d : DependRow). cond d.met_all 0 (length (groups_of f d)) in
    let alone : 0 + length (groups_of f (new_row f n)) ≡ length (groups_of f (new_row f n)) = omega arith in
    ap (λ (groups : DependRow → List Group). sum_by (λ (d : DependRow). cond d.met_all 0 (length (groups d))) (f.depends ++ new_row f n ∷ [])) (groups_with f n)
    ∙ (sum_by-append weight f.depends (new_row f n ∷ []) ∙ ap (λ (k : ℕ). groups_left f + k) alone)

module _ (f : Farm) (n : NewDepend) (ds : List DependRow) (ms : List MetRow) where
  abbrev with_these : Farm
  with_these = record f { depends = ds; met = ms }

  groups_these : groups_of with_these (new_row with_these n) ≡ groups_of f (new_row f n)
  unfolding groups_of
  groups_these = refl

  left_these : groups_left with_these ≤ groups_left f → groups_left (with_row with_these n) ≤ groups_left (with_row f n)
  left_these less = omega (arith, left_row with_these n, left_row f n, less, ap length groups_these)

-- as many rows, and no more groups left
roomy_less : (f : Farm) (ds : List DependRow) (ms : List MetRow) → length ds ≡ length f.depends → groups_left (record f { depends = ds; met = ms }) ≤ groups_left f → (ns : List NewDepend) → AreRoomy f ns
    → AreRoomy (record f { depends = ds; met = ms }) ns
roomy_less f ds ms same less [] room = tt
roomy_less f ds ms same less (n ∷ ns) room =
    let first = room.0 in
    let row : DependRow = new_row f n in
    let longer : length (ds ++ row ∷ []) ≡ length (f.depends ++ row ∷ []) = omega (arith, same, length-append ds (row ∷ []), length-append f.depends (row ∷ [])) in (
      record {
        number_left = first.number_left;
        row_left = omega (arith, same, first.row_left);
        groups_left = omega (arith, less, first.groups_left);
        groups_are = first.groups_are ∙ sym (groups_these f n ds ms);
        each = first.each;
      },
      roomy_less (with_row f n) (ds ++ row ∷ []) ms longer (left_these f n ds ms less) ns room.1,
    )

left_met : (f : Farm) → groups_left (with_met f) ≤ groups_left f
left_met f =
    sum_by-map-less (λ (d : DependRow). cond d.met_all 0 (length (groups_of (with_met f) d))) (λ (d : DependRow). cond d.met_all 0 (length (groups_of f d))) (settled_row f)
    (λ d. left_less d.met_all (list_all (is_met_now f d) (groups_of f d)) (length (groups_of (with_met f) (settled_row f d))) (length (groups_of f d)) (ap length (groups_met f d))) f.depends

pub roomy_met : (f : Farm) (ns : List NewDepend) → AreRoomy f ns → AreRoomy (with_met f) ns
roomy_met f ns room = roomy_less f (map (settled_row f) f.depends) (met_rows f f.depends) (length-map f.depends (settled_row f)) (left_met f) ns room
