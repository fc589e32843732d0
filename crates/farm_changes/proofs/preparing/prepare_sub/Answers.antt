use Rattle.std.proofs.Common.{◌≡◌, ◌<◌, ℕ, List, Some, sym, subst, ◌∙◌, arith}
use Rattle.farm_types.specs.declared.limits.TheConstants.{SUB_NUMBERS}
use Rattle.farm_types.specs.Farm.{alloc_named, show_named}
use Rattle.farm_changes.proofs.MadeChanges.{sub_below, sub_makes}
use Rattle.farm_changes.proofs.preparing.prepare_sub.Goals as goal

pub unreachable-requires : goal.unreachable-requires
unreachable-requires c =
    let below =
    sub_below c.args.books.now.farm c.as_str.result.now c.as_str-2.result.now c.in-Some.show c.in-Some-alloc_named.allocation c.requires.kept (sym c.show_named.ensures ∙ c.in-Some.is) (sym c.alloc_named.ensures ∙ c.in-Some-alloc_named.is) in
    absurd (omega (arith, c.in_default-of.ensures.none, below))

pub returns : goal.returns
returns c =
    let f = c.args.books.now.farm in
    let line = c.args.line.now in
    let show = c.in-Some.show in
    let alloc = c.in-Some-alloc_named.allocation in
    let sub = c.in-Some-of.sub in
    let show_is = subst (λ (name : List ℕ). show_named f name ≡ Some show) c.as_str.ensures (sym c.show_named.ensures ∙ c.in-Some.is) in
    let alloc_is = subst (λ (name : List ℕ). alloc_named f name ≡ Some alloc) c.as_str-2.ensures (sym c.alloc_named.ensures ∙ c.in-Some-alloc_named.is) in
    let below : sub < SUB_NUMBERS = subst (λ (n : ℕ). n < SUB_NUMBERS) (sym c.in-Some-of.ensures.number) (sub_below f line.show line.alloc show alloc c.requires.kept show_is alloc_is) in
    sub_makes f line c.args.moment show alloc sub c.booked.result c.none.result c.change_of.result c.requires.ahead show_is alloc_is c.in-Some-of.ensures.number below c.booked.ensures
    (record { hosts = c.none.ensures.hosts; slots = c.none.ensures.slots }) c.change_of.ensures
