use Rattle.std.proofs.Common.{◌≡◌, ◌+◌, ◌∙◌, cond, eqb, false, Bool, drop, sym, ap, arith, refl, length, rules}
use Rattle.std.specs.List.{slice_get}
use Rattle.std.proofs.lemmas.Option.{slice_get_read}
use Rattle.farm_depends.specs.Placed.{number_among}
use Rattle.farm_depends.proofs.Walks.{number_at_place, number_none}
use Rattle.farm_depends.proofs.new_depends.own_job.number_among.Goals as goal

pub loop-place-preserved : goal.loop-place-preserved
loop-place-preserved c =
    let numbers = c.args.numbers.now in
    let slots = c.args.slots.now in
    let slot = c.args.slot in
    let i = c.loop-place.place in
    let s = c.index-slots-place.result in
    let fails : eqb s slot ≡ false = search rules in
    let at = slice_get_read slots (length slots) i s refl (omega arith) c.index-slots-place.is in
    sym (ap (λ (b : Bool). cond b (slice_get numbers i) (number_among slot (drop (i + 1) numbers) (drop (i + 1) slots))) fails) ∙ (sym (number_at_place slot numbers slots i s at) ∙ c.loop-place.invariant)

pub returns : goal.returns
returns c = sym (number_none c.args.slot c.args.numbers.now c.args.slots.now c.loop-place.place c.loop-place-test.false) ∙ c.loop-place.invariant
