use Rattle.std.proofs.Common.{◌∙◌, ◌≤◌, ℕ, Option, All, IfNone, IfSome, sym, ap, subst}
use Rattle.farm_types.specs.declared.depend.DependRow.{DependRow}
use Rattle.farm_types.specs.Farm.{Farm}
use Rattle.farm_types.specs.Rising.{IsNextKey, IsRising, depend_key}
use Rattle.farm_types.proofs.NextKey.{next_is}
use Rattle.depend_book.specs.Book.{DependLists, next_in}
use Rattle.farm_core.specs.Reads.{depend_after}
use Rattle.farm_core.proofs.farm.Farm.next_depend.Goals as goal

pub returns : goal.returns
returns c =
    let f = c.args.self.now in
    let after = c.args.after in
    let is = c.next.ensures ∙ (ap (λ (b : DependLists). next_in b after) c.depends.ensures ∙ ap (λ (g : Farm). depend_after g after) c.self.view_is) in
    let rise = subst (λ (g : Farm). IsRising depend_key 1 g.depends g.next_depend) c.self.view_is c.self.invariant.kept.depends.rise in
    let next = next_is depend_key after 1 f.depends f.next_depend rise in
    record {
      value = is;
      least = subst (λ (o : Option ℕ). IfSome o (IsNextKey depend_key f.depends after)) (sym is) next.least;
      none = subst (λ (o : Option ℕ). IfNone o (All (λ (d : DependRow). d.depend ≤ after) f.depends)) (sym is) next.none;
    }
