use Rattle.std.proofs.Common.{◌∙◌, ◌≡◌, ℕ, ap, sym, eqb, length, refl, arith}
use Rattle.std.specs.List.{position_or_len}
use Rattle.std.proofs.lemmas.Option.{slice_get_read}
use Rattle.farm_types.specs.Farm.{changed_at}
use Rattle.farm_types.proofs.Changed.{changed_at_is}
use Rattle.depend_book.specs.declared.row_list.RowPlace.{RowPlace}
use Rattle.depend_book.specs.Rows.{met_place, place_key}
use Rattle.depend_book.proofs.PlaceChanged.{changed_one, none_changed}
use Rattle.depend_book.proofs.places.satisfy.Goals as goal

pub returns-then-place-len-clause-items : goal.returns-then-place-len-clause-items
returns-then-place-len-clause-items c =
    let xs = c.args.places.now.items in
    let place = c.place_of-place.result in
    let n = c.args.depend in
    let at = slice_get_read xs (length xs) place c.index_mut.result.now refl (omega (arith, c.if-place-len.true, c.len.ensures)) c.index_mut.ensures.value in
    let is : place ≡ position_or_len (λ (x : RowPlace). eqb (place_key x) n) xs = c.place_of-place.ensures ∙ ap (position_or_len (λ (x : RowPlace). eqb (place_key x) n)) c.as_slice.ensures.value in
    sym (changed_at_is xs place met_place c.index_mut.result.now at) ∙ ap (λ (m : ℕ). changed_at xs m met_place) is ∙ changed_one place_key met_place n 1 xs c.requires.0 c.requires.1

pub returns-else-place-len-clause-items : goal.returns-else-place-len-clause-items
returns-else-place-len-clause-items c =
    let xs = c.args.places.now.items in
    let is : c.place_of-place.result ≡ position_or_len (λ (x : RowPlace). eqb (place_key x) c.args.depend) xs = c.place_of-place.ensures ∙ ap (position_or_len (λ (x : RowPlace). eqb (place_key x) c.args.depend)) c.as_slice.ensures.value in
    none_changed place_key met_place c.args.depend 1 xs c.requires.0 c.requires.1 (omega (arith, c.if-place-len.false, c.len.ensures, is))
