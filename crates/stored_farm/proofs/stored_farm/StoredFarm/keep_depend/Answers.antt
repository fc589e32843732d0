use Rattle.std.proofs.Common.{◌∙◌, ◌∷◌, [], ◌++◌, ◌+◌, List, ℕ, ap, arith}
use Rattle.farm_types.specs.declared.depend.DependRow.{DependRow}
use Rattle.farm_types.specs.declared.depend.Group.{Group}
use Rattle.stored_farm.proofs.Changes.{depend_kept, depend_room}
use Rattle.stored_farm.proofs.stored_farm.StoredFarm.keep_depend.Goals as goal

pub overflow_cast-self : goal.overflow_cast-self
overflow_cast-self c =
    let a = c.self.inside in
    let room = depend_room a.rows a.last a.depends.items a.groups.items a.met.items a.left c.self.invariant c.args.self.now c.self.view_is c.kept.ensures c.args.depend c.args.groups c.requires.next c.requires.groups c.requires.fits in
    omega (arith, room, c.len.ensures)

pub overflow_add-self : goal.overflow_add-self
overflow_add-self c =
    let a = c.self.inside in
    let room = depend_room a.rows a.last a.depends.items a.groups.items a.met.items a.left c.self.invariant c.args.self.now c.self.view_is c.kept.ensures c.args.depend c.args.groups c.requires.next c.requires.groups c.requires.fits in
    omega (arith, room, c.len.ensures)

pub invariant_of-self-2 : goal.invariant_of-self-2
invariant_of-self-2 c =
    let a = c.self.inside in
    let r = c.args.depend in
    let gs = c.args.groups in
    depend_kept a.rows a.last a.depends.items a.groups.items a.met.items a.left c.self.invariant c.args.self.now c.self.view_is c.kept.ensures r gs c.requires.next c.requires.groups c.requires.fits
    c.number_of-number.result c.push_reserved.new.self.items c.push_reserved-2.new.self.items (a.left + c.len.result) c.number_of-number.ensures
    (c.push_reserved.ensures.items ∙ ap (λ (xs : List DependRow). xs ++ r ∷ []) c.in_ok-reserve.ensures.items)
    (c.push_reserved-2.ensures.items ∙ ap (λ (xs : List (List Group)). xs ++ gs ∷ []) c.in_ok-reserve-2.ensures.items)
    (ap (λ (n : ℕ). a.left + n) c.len.ensures)
