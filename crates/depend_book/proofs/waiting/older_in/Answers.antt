use Rattle.std.proofs.Common.{◌≡◌, ◌∙◌, Some, eqb, option_map, sym, ap, arith}
use Rattle.std.specs.List.{position_or_len, slice_get}
use Rattle.std.proofs.lemmas.Option.{same_Some}
use Rattle.farm_types.proofs.Lists.{slice_get_below}
use Rattle.depend_book.specs.declared.row_list.RowPlace.{RowPlace}
use Rattle.depend_book.specs.Rows.{place_key}
use Rattle.depend_book.proofs.Older.{older_at_place, older_past}
use Rattle.depend_book.proofs.waiting.older_in.Goals as goal

pub returns-then-place-places : goal.returns-then-place-places
returns-then-place-places c =
    let xs = c.args.places.now in
    let n = c.args.depend in
    let place = c.place_of-place.result in
    let is : place ≡ position_or_len (λ (x : RowPlace). eqb (place_key x) n) xs = c.place_of-place.ensures in
    let x = slice_get_below xs place (omega (arith, c.if-place-places.true)) in
    let read : Some c.older_at.result ≡ Some x.0.older = c.older_at.ensures ∙ ap (option_map (λ (y : RowPlace). y.older)) x.1 in
    same_Some c.older_at.result x.0.older read ∙ sym (older_at_place n xs x.0 (ap (slice_get xs) (sym is) ∙ x.1))

pub returns : goal.returns
returns c =
    let xs = c.args.places.now in
    let n = c.args.depend in
    let is : c.place_of-place.result ≡ position_or_len (λ (x : RowPlace). eqb (place_key x) n) xs = c.place_of-place.ensures in
    sym (older_past n xs (omega (arith, c.if-place-places.false, is)))
