use Rattle.std.proofs.Common.{◌≡◌, ℕ, List, nat_eq, sym, ap, subst}
use Rattle.std.specs.List.{All}
use Rattle.indexmap.specs.IndexMap.{get}
use Rattle.farm_types.specs.Farm.{Farm}
use Rattle.farm_rows.specs.declared.row_change.RowChange.{RowChange}
use Rattle.farm_rows.specs.Changes.{MakesRows}
use Rattle.farm_depends.specs.Follow.{IsMovable, put_blocked, put_opened, slots_after}
use Rattle.farm_depends.specs.FollowRows.{Stands}
use Rattle.farm_depends.proofs.RowLemmas.FramesRead.{start_stands}
use Rattle.farm_depends.proofs.MovingLemmas.MovedSlots.{still_movable}
use Rattle.farm_depends.proofs.rows.moved.moved_rows.Goals as goal

pub returns : goal.returns
returns c = λ f a.
    let w = c.args.follow.now in
    let own = c.args.books.now.farm.slots in
    let first = c.as_slice.result.now in
    let second = c.as_slice-2.result.now in
    let frames = get nat_eq c.in_ok-frames.frames in
    let start : Stands f own f c.new-rows.result.items frames =
    subst (λ (cs : List RowChange). Stands f own f cs frames) (sym c.new-rows.ensures.items) (start_stands c.args.books.now.farm f c.args.acted.now w frames a c.in_ok-frames.ensures) in
    let opened = c.in_ok-open_rows.ensures f f start (subst (λ (ns : List ℕ). All (IsMovable f.slots) ns) (sym c.as_slice.ensures) a.fits.opened_movable) in
    let now = put_opened first f.slots in
    let movable : All (IsMovable now) second =
    still_movable now f.slots w.opened w.blocked second (ap (λ (ns : List ℕ). put_opened ns f.slots) c.as_slice.ensures) c.as_slice-2.ensures a.fits.blocked_movable in
    let blocked = c.in_ok-block_rows.ensures f (record f { slots = now }) opened movable in
    let same : record f { slots = put_blocked w.raises second now } ≡ record f { slots = slots_after f.slots w } =
    λ i. record f { slots = put_blocked w.raises (c.as_slice-2.ensures i) (put_opened (c.as_slice.ensures i) f.slots) } in
    subst (λ (h : Farm). MakesRows f h c.block_rows.new.rows.items) same blocked.rows_made
