use Rattle.std.proofs.Common.{arith, rules, ◌≡◌, ◌-◌, ◌<◌, [], suc, drop, take, length, get_or, refl, sym, subst, List, swap_remove}
use Rattle.farm_rows.specs.Changes.{NamesExactly}
use Rattle.farm_rows.specs.Seen.{HasRoom, seen_parts}
use Rattle.farm_rows.specs.declared.row_change.RowChange.{RowChange}
use Rattle.farm_rows.proofs.Exactness.{IsExact, exact_all, exact_first, exact_gone, exact_turned}
use Rattle.farm_rows.proofs.SeenRoom.{room_for_one}
use Rattle.farm_rows.proofs.Turned.{item_before, item_behind, turned_behind}
use Rattle.farm_rows.proofs.last_changes.exactly.Goals as goal

pub loop-place-preserved-then-last : goal.loop-place-preserved-then-last
loop-place-preserved-then-last g c =
    let f = g.R.OldRows.farm c.args.rows.now in
    let all = c.args.changes.items in
    let list = c.loop-place.changes.items in
    let p = c.loop-place.place - 1 in
    let change = c.index-as_slice-place.result in
    let next : suc p ≡ c.loop-place.place = omega (arith, c.loop-place-test.true) in
    let lt : p < length list = omega (arith, c.loop-place-test.true, c.loop-place.invariant.within) in
    let is : change ≡ get_or list p change = search (rules, c.index-as_slice-place.is) in
    let told = c.in_ok-last.ensures.told in
    let last = told.last c.if-last.true in
    record {
      room = c.in_ok-last.ensures.room p (subst (HasRoom c.loop-place.seen) (omega (arith, c.loop-place-test.true)) c.loop-place.invariant.room);
      within = omega (arith, lt);
      exact = subst (IsExact f all (take p list) (seen_parts c.is_last_change.new.seen)) (sym (item_behind list p change lt is))
          (exact_first f all (take (suc p) list) (seen_parts c.loop-place.seen) (drop (suc p) list) change (take p list) (item_before list p change lt is)
          (subst (λ n. IsExact f all (take n list) (seen_parts c.loop-place.seen) (drop n list)) (sym next) c.loop-place.invariant.exact)
          last.0 (seen_parts c.is_last_change.new.seen) told.keys last.1);
    }

pub loop-place-preserved : goal.loop-place-preserved
loop-place-preserved g c =
    let f = g.R.OldRows.farm c.args.rows.now in
    let all = c.args.changes.items in
    let list = c.loop-place.changes.items in
    let left = c.swap_remove.new.self.items in
    let p = c.loop-place.place - 1 in
    let change = c.index-as_slice-place.result in
    let next : suc p ≡ c.loop-place.place = omega (arith, c.loop-place-test.true) in
    let lt : p < length list = omega (arith, c.loop-place-test.true, c.loop-place.invariant.within) in
    let is : change ≡ get_or list p change = search (rules, c.index-as_slice-place.is) in
    let told = c.in_ok-last.ensures.told in
    let turned = turned_behind list p c.swap_remove.result lt in
    let kept : IsExact f all (take p list) (seen_parts c.is_last_change.new.seen) (drop (suc p) list) =
    exact_gone f all (take (suc p) list) (seen_parts c.loop-place.seen) (drop (suc p) list) change (take p list) (item_before list p change lt is)
    (subst (λ n. IsExact f all (take n list) (seen_parts c.loop-place.seen) (drop n list)) (sym next) c.loop-place.invariant.exact)
    (seen_parts c.is_last_change.new.seen) told.keys (told.other c.if-last.false) in
    record {
      room = c.in_ok-last.ensures.room p (subst (HasRoom c.loop-place.seen) (omega (arith, c.loop-place-test.true)) c.loop-place.invariant.room);
      within = omega (arith, lt, c.swap_remove.ensures.len);
      exact = subst (λ (cs : List RowChange). IsExact f all (take p cs) (seen_parts c.is_last_change.new.seen) (drop p cs)) (sym c.swap_remove.ensures.items)
          (subst (λ (cs : List RowChange). IsExact f all cs (seen_parts c.is_last_change.new.seen) (drop p (swap_remove list p c.swap_remove.result))) (sym turned.0)
          (exact_turned f all (take p list) (seen_parts c.is_last_change.new.seen) (drop (suc p) list) (drop p (swap_remove list p c.swap_remove.result)) turned.1 kept));
    }

pub is_last_change-requires : goal.is_last_change-requires
is_last_change-requires g c = room_for_one c.loop-place.seen c.loop-place.place (omega (arith, c.loop-place-test.true)) c.loop-place.invariant.room

pub returns : goal.returns
returns g c = λ farm makes.
    let f = g.R.OldRows.farm c.args.rows.now in
    let none : c.loop-place.place ≡ 0 = omega (arith, c.loop-place-test.false) in
    let exact : IsExact f c.args.changes.items [] (seen_parts c.loop-place.seen) c.loop-place.changes.items =
    subst (λ n. IsExact f c.args.changes.items (take n c.loop-place.changes.items) (seen_parts c.loop-place.seen) (drop n c.loop-place.changes.items)) none c.loop-place.invariant.exact in
    subst (NamesExactly f farm) (sym c.from_vec.ensures) (exact_all f farm c.args.changes.items [] (seen_parts c.loop-place.seen) c.loop-place.changes.items refl exact makes)
