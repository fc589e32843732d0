use Rattle.std.proofs.Common.{◌≡◌, ◌∙◌, ◌++◌, ◌∷◌, [], ◌+◌, List, Some, length, map, eqb, sym, ap, subst, arith}
use Rattle.std.proofs.lemmas.Bool.{and_from, eq-eqb}
use Rattle.std.proofs.lemmas.List.{length-map}
use Rattle.std.specs.Vec.{vec_capacity}
use Rattle.job_entries.specs.declared.entries.Place.{Place}
use Rattle.job_entries.specs.Entries.{KeepsEntries, all_of, are_layers, held, place_key, row_of, with_entry}
use Rattle.job_entries.specs.OneJob.{AllJobs, OneJob}
use Rattle.job_entries.proofs.Held.{held_more}
use Rattle.job_entries.proofs.HeldKept.{all_more, more_places}
use Rattle.job_entries.proofs.entries.Entries.add.Goals as goal

pub make_room-requires : goal.make_room-requires
make_room-requires c = omega (arith, length-map (held c.self.inside.places.items) row_of, ap (λ (a : AllJobs). length a.rows) c.self.view_is, c.requires.few)

pub push_reserved-requires : goal.push_reserved-requires
push_reserved-requires c = omega (arith, c.make_room.ensures.room, c.make_room.ensures.capacity, c.self.invariant.room)

pub invariant_of-self : goal.invariant_of-self
invariant_of-self c =
    let next = c.self.inside.next in
    let e = c.args.entry in
    let made = c.make_room.ensures in
    let number : e.row.job ≡ next = c.requires.number ∙ sym (ap (λ (a : AllJobs). a.next) c.self.view_is) in
    let whole = and_from (are_layers e.row.job 0 e.layers) (eqb (length e.index) (length e.layers)) c.requires.layers (eq-eqb (length e.index) (length e.layers) c.requires.index) in
    let kept : KeepsEntries c.make_room.new.places.items next (vec_capacity c.make_room.new.places) = record { rise = made.rise next c.self.invariant.rise; each = made.each c.self.invariant.each; room = omega (arith, made.capacity, c.self.invariant.room) } in
    subst (λ (ps : List Place). KeepsEntries ps (next + 1) (vec_capacity c.push_reserved.new.self)) (sym c.push_reserved.ensures.items) (more_places c.make_room.new.places.items next _ _ e c.push_reserved.ensures.capacity number whole kept)

pub returns : goal.returns
returns c =
    let next = c.self.inside.next in
    let e = c.args.entry in
    let p : Place = record { job = next; held = Some e } in
    let places = c.push_reserved.new.self.items in
    let numbers = map place_key places in
    ap (λ (ps : List Place). all_of numbers (held ps) (next + 1)) c.push_reserved.ensures.items
    ∙ ap (λ (es : List OneJob). all_of numbers es (next + 1)) (held_more c.make_room.new.places.items (p ∷ []) ∙ ap (λ (es : List OneJob). es ++ e ∷ []) c.make_room.ensures.held)
    ∙ all_more numbers (map place_key c.self.inside.places.items) (held c.self.inside.places.items) e next
    ∙ ap (with_entry e numbers) c.self.view_is
