use Rattle.std.proofs.Common.{◌∙◌, ℕ, All, List, sym, ap, subst}
use Rattle.depend_book.specs.Book.{all_done_in}
use Rattle.farm_books.specs.Books.{FarmBooks, depends_of, with_depends, with_farm}
use Rattle.farm_depends.specs.Follow.{HasDrop, IsMovable, drop_from, drop_in, put_blocked, put_opened, reopened_from, reopened_in, with_new_all}
use Rattle.farm_depends.proofs.BooksTaken.{drop_is, reopened_is}
use Rattle.farm_depends.proofs.MovingLemmas.MovedSlots.{still_movable}
use Rattle.farm_depends.proofs.applying.apply_follow.Goals as goal

pub drop_one-requires : goal.drop_one-requires
drop_one-requires c = subst (λ (v : FarmBooks). HasDrop (depends_of v) c.args.follow.dropped) (sym c.add_depends.ensures) c.requires.drop_there

pub open_all-requires : goal.open_all-requires
open_all-requires c =
    let v = c.args.books.now in
    let w = c.args.follow in
    let added = with_new_all (depends_of v) w.depends in
    let two = c.drop_one.ensures ∙ (ap (λ (x : FarmBooks). drop_from x w.dropped) c.add_depends.ensures ∙ drop_is v added w.dropped) in
    let three = c.reopen_one.ensures ∙ (ap (λ (x : FarmBooks). reopened_from x w.reopened) two ∙ reopened_is v (drop_in added w.dropped) w.reopened) in
    let four = c.complete.ensures ∙ ap (λ (x : FarmBooks). with_depends x (all_done_in (depends_of x) c.as_slice.result.now)) three in
    subst (λ (x : FarmBooks). All (IsMovable x.farm.slots) c.as_slice-2.result.now) (sym four)
    (subst (λ (ns : List ℕ). All (IsMovable v.farm.slots) ns) (sym c.as_slice-2.ensures) c.requires.opened_movable)

pub block_all-requires : goal.block_all-requires
block_all-requires c =
    let v = c.args.books.now in
    let w = c.args.follow in
    let added = with_new_all (depends_of v) w.depends in
    let two = c.drop_one.ensures ∙ (ap (λ (x : FarmBooks). drop_from x w.dropped) c.add_depends.ensures ∙ drop_is v added w.dropped) in
    let three = c.reopen_one.ensures ∙ (ap (λ (x : FarmBooks). reopened_from x w.reopened) two ∙ reopened_is v (drop_in added w.dropped) w.reopened) in
    let four = c.complete.ensures ∙ ap (λ (x : FarmBooks). with_depends x (all_done_in (depends_of x) c.as_slice.result.now)) three in
    let opened = c.as_slice-2.result.now in
    still_movable c.open_all.new.books.farm.slots v.farm.slots opened w.blocked c.as_slice-3.result.now
    (ap (λ (x : FarmBooks). x.farm.slots) c.open_all.ensures ∙ ap (λ (x : FarmBooks). put_opened opened x.farm.slots) four) c.as_slice-3.ensures c.requires.blocked_movable

pub returns : goal.returns
returns c =
    let v = c.args.books.now in
    let w = c.args.follow in
    let added = with_new_all (depends_of v) w.depends in
    let left = reopened_in (drop_in added w.dropped) w.reopened in
    let two = c.drop_one.ensures ∙ (ap (λ (x : FarmBooks). drop_from x w.dropped) c.add_depends.ensures ∙ drop_is v added w.dropped) in
    let three = c.reopen_one.ensures ∙ (ap (λ (x : FarmBooks). reopened_from x w.reopened) two ∙ reopened_is v (drop_in added w.dropped) w.reopened) in
    let four =
    c.complete.ensures
    ∙ (ap (λ (x : FarmBooks). with_depends x (all_done_in (depends_of x) c.as_slice.result.now)) three
    ∙ ap (λ (ns : List ℕ). with_depends v (all_done_in left ns)) c.as_slice.ensures) in
    let five =
    c.open_all.ensures
    ∙ (ap (λ (x : FarmBooks). with_farm x (record x.farm { slots = put_opened c.as_slice-2.result.now x.farm.slots })) four
    ∙ ap (λ (ns : List ℕ). with_depends (with_farm v (record v.farm { slots = put_opened ns v.farm.slots })) (all_done_in left w.done)) c.as_slice-2.ensures) in
    c.block_all.ensures
    ∙ (ap (λ (x : FarmBooks). with_farm x (record x.farm { slots = put_blocked w.raises c.as_slice-3.result.now x.farm.slots })) five
    ∙ ap (λ (ns : List ℕ). with_depends (with_farm v (record v.farm { slots = put_blocked w.raises ns (put_opened w.opened v.farm.slots) })) (all_done_in left w.done)) c.as_slice-3.ensures)
