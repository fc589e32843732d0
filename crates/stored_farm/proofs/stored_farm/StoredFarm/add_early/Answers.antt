use Rattle.std.proofs.Common.{rules, ◌≡◌, true, false, ap, Bool, Option, Some, sym, subst}
use Rattle.farm_rows.specs.Recovery.{StoredKey, comes_after, key_of}
use Rattle.stored_rows.specs.Told.{Accepts, Told}
use Rattle.stored_farm.specs.Kept.{KeepsDepends}
use Rattle.stored_farm.proofs.Changes.{early_more, early_same}
use Rattle.stored_farm.proofs.stored_farm.StoredFarm.add_early.Goals.{then-taken, else-taken}
use Rattle.stored_farm.proofs.stored_farm.StoredFarm.add_early.Goals as goal

pub invariant_of-self-2 : goal.invariant_of-self-2
invariant_of-self-2 c =
    let a = c.self.inside in
    let key : StoredKey = key_of c.args.row in
    let keeps : Option StoredKey → Type 0 = λ o. KeepsDepends c.add.new.self o a.depends.items a.groups.items a.met.items a.left in
    let next : comes_after a.last key ≡ true = search rules in
    elim c.if-taken.branch [
      | then-taken w ↦
          let taken : Accepts true a.rows c.args.row c.add.new.self = subst (λ (b : Bool). Accepts b a.rows c.args.row c.add.new.self) w.if-taken.true c.in_ok-taken.ensures in
          let is : c.if-taken.self ≡ Some key = search rules in
          subst keeps (sym is)
          (early_more a.rows a.last a.depends.items a.groups.items a.met.items a.left c.self.invariant c.add.new.self key c.requires.early next (ap (λ (t : Told). t.last) taken.1))
      | else-taken w ↦
          let taken : Accepts false a.rows c.args.row c.add.new.self = subst (λ (b : Bool). Accepts b a.rows c.args.row c.add.new.self) w.if-taken.false c.in_ok-taken.ensures in
          let is : c.if-taken.self ≡ a.last = search rules in
          subst keeps (sym is) (early_same a.rows a.last a.depends.items a.groups.items a.met.items a.left c.self.invariant c.add.new.self taken.1)
    ]
