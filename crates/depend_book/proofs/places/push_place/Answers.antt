use Rattle.std.proofs.Common.{◌∙◌, [], ◌∷◌, List, Option, ℕ, Some, false, cond, eqb, length, refl, sym, ap, subst, arith, length-append}
use Rattle.depend_book.specs.declared.row_list.RowPlace.{RowPlace}
use Rattle.depend_book.specs.Rows.{AreChained, is_of, last_from, last_in, none_seen}
use Rattle.depend_book.proofs.Chained.{chained_more, last_more, last_noted}
use Rattle.depend_book.proofs.places.push_place.Goals as goal

pub returns-clause-places : goal.returns-clause-places
returns-clause-places c =
    let xs = c.args.places.now.items in
    let x : RowPlace = record { row = c.args.row; older = c.last_in-older.result; gone = false } in
    let kept = c.requires.places in
    record {
      chained = subst (AreChained none_seen) (sym c.push_reserved.ensures.items) (chained_more none_seen xs x kept.chained (c.last_in-older.ensures ∙ (ap (last_in c.args.newest.now) c.waiter_of-job.ensures ∙ kept.last c.args.row.waiter.job)));
      last = λ job.
          c.note.ensures.last job
          ∙ ((λ i. cond (eqb job (c.waiter_of-job.ensures i)) (Some (c.depend_of-depend.ensures i)) (last_in c.args.newest.now job))
          ∙ last_noted x job (last_in c.args.newest.now job) refl
          ∙ (ap (λ (o : Option ℕ). cond (is_of job x) (Some x.row.depend) o) (kept.last job)
          ∙ (sym (last_more none_seen xs x job) ∙ ap (λ (ys : List RowPlace). last_from none_seen ys job) (sym c.push_reserved.ensures.items))));
      fewer = omega (arith, c.note.ensures.count, kept.fewer, ap (λ (ys : List RowPlace). length ys) c.push_reserved.ensures.items, length-append xs (x ∷ []));
      room = omega (arith, c.note.ensures.capacity, kept.room);
    }
