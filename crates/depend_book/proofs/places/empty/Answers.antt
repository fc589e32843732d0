use Rattle.std.proofs.Common.{◌∙◌, ◌≡◌, ℕ, List, Some, ap, sym, eqb, length, option_map, refl, arith}
use Rattle.std.specs.List.{position_or_len, slice_get}
use Rattle.std.proofs.lemmas.Option.{same_Some, slice_get_read}
use Rattle.farm_types.specs.Farm.{changed_at}
use Rattle.farm_types.proofs.Changed.{changed_at_is, slice_get-set_same}
use Rattle.depend_book.specs.declared.row_list.RowPlace.{RowPlace}
use Rattle.depend_book.specs.Rows.{emptied, place_key}
use Rattle.depend_book.proofs.Older.{older_at_place, older_past}
use Rattle.depend_book.proofs.PlaceChanged.{changed_one, none_changed}
use Rattle.depend_book.proofs.places.empty.Goals as goal

pub returns-then-place-len-clause-items : goal.returns-then-place-len-clause-items
returns-then-place-len-clause-items c =
    let xs = c.args.places.now.items in
    let is : c.place_of-place.result ≡ position_or_len (λ (x : RowPlace). eqb (place_key x) c.args.depend) xs = c.place_of-place.ensures ∙ ap (position_or_len (λ (x : RowPlace). eqb (place_key x) c.args.depend)) c.as_slice.ensures.value in
    none_changed place_key emptied c.args.depend 1 xs c.requires.0 c.requires.1 (omega (arith, c.if-place-len.true, c.len.ensures, is))

pub returns-then-place-len-clause-older : goal.returns-then-place-len-clause-older
returns-then-place-len-clause-older c =
    let xs = c.args.places.now.items in
    let is : c.place_of-place.result ≡ position_or_len (λ (x : RowPlace). eqb (place_key x) c.args.depend) xs = c.place_of-place.ensures ∙ ap (position_or_len (λ (x : RowPlace). eqb (place_key x) c.args.depend)) c.as_slice.ensures.value in
    sym (older_past c.args.depend xs (omega (arith, c.if-place-len.true, c.len.ensures, is)))

pub returns-clause-items : goal.returns-clause-items
returns-clause-items c =
    let xs = c.args.places.now.items in
    let place = c.place_of-place.result in
    let n = c.args.depend in
    let at = slice_get_read xs (length xs) place c.index_mut.result.now refl (omega (arith, c.if-place-len.false, c.len.ensures)) c.index_mut.ensures.value in
    let is : place ≡ position_or_len (λ (x : RowPlace). eqb (place_key x) n) xs = c.place_of-place.ensures ∙ ap (position_or_len (λ (x : RowPlace). eqb (place_key x) n)) c.as_slice.ensures.value in
    sym (changed_at_is xs place emptied c.index_mut.result.now at) ∙ ap (λ (m : ℕ). changed_at xs m emptied) is ∙ changed_one place_key emptied n 1 xs c.requires.0 c.requires.1

pub returns-clause-older : goal.returns-clause-older
returns-clause-older c =
    let xs = c.args.places.now.items in
    let place = c.place_of-place.result in
    let n = c.args.depend in
    let x = c.index_mut.result.now in
    let at = slice_get_read xs (length xs) place x refl (omega (arith, c.if-place-len.false, c.len.ensures)) c.index_mut.ensures.value in
    let is : place ≡ position_or_len (λ (y : RowPlace). eqb (place_key y) n) xs = c.place_of-place.ensures ∙ ap (position_or_len (λ (y : RowPlace). eqb (place_key y) n)) c.as_slice.ensures.value in
    let one : slice_get c.as_slice-2.result.now place ≡ Some (emptied x) = ap (λ (ys : List RowPlace). slice_get ys place) c.as_slice-2.ensures.value ∙ slice_get-set_same xs place x (emptied x) at in
    let read : Some c.older_at.result ≡ Some x.older = c.older_at.ensures ∙ ap (option_map (λ (y : RowPlace). y.older)) one in
    same_Some c.older_at.result x.older read ∙ sym (older_at_place n xs x (ap (slice_get xs) (sym is) ∙ at))
