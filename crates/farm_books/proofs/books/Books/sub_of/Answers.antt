use Rattle.std.proofs.Common.{◌≡◌, ◌∙◌, ℕ, true, eqb, ap, subst, sym}
use Rattle.std.specs.List.{find, list_all}
use Rattle.std.specs.Prelude.{nat_lt}
use Rattle.farm_types.specs.declared.limits.TheConstants.{SUB_NUMBERS}
use Rattle.farm_types.specs.declared.rows.SubRow.{SubRow}
use Rattle.farm_types.specs.Farm.{sub_of}
use Rattle.farm_books.specs.Books.{FarmBooks}
use Rattle.farm_books.proofs.NumberedSubs.{none_past, sub_numbered}
use Rattle.farm_books.proofs.books.Books.sub_of.Goals as goal

pub returns-in-None-clause-value : goal.returns-in-None-clause-value
returns-in-None-clause-value c =
    let numbers = subst (λ (v : FarmBooks). list_all (λ s. nat_lt s.sub SUB_NUMBERS) v.farm.subs ≡ true) c.self.view_is c.subs-subs.ensures.numbers in
    sym (none_past c.args.self.now.farm.subs (sub_of c.args.show c.args.alloc) numbers c.in-None.ensures.none)

pub returns-in-Some-clause-number : goal.returns-in-Some-clause-number
returns-in-Some-clause-number c =
    let subs = c.subs-subs.result.now.subs in
    sub_numbered subs (sub_of c.args.show c.args.alloc) c.row.result (c.row.ensures ∙ ap (λ (n : ℕ). find (λ (s : SubRow). eqb s.sub n) subs) c.in-Some.ensures.number)
