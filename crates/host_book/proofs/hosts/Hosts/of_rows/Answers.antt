use Rattle.std.proofs.Common.{◌∙◌, map, length, sym, ap, arith}
use Rattle.host_book.specs.Inside.{least_of, name_of, watched_of}
use Rattle.host_book.proofs.Oldest.{since_least}
use Rattle.host_book.proofs.hosts.Hosts.of_rows.Goals as goal

pub invariant_of-result : goal.invariant_of-result
invariant_of-result c =
    let same = c.in_ok-rows.ensures.items in
    let watched = c.in_ok-watched.ensures.items ∙ ap (map watched_of) c.as_slice-2.ensures.value in
    record {
      count = omega (arith, ap length same, c.requires.count);
      names_are = c.in_ok-names.ensures.keys ∙ ap (map name_of) (c.as_slice.ensures.value ∙ sym same);
      watched_are = watched ∙ ap (map watched_of) (sym same);
      since_oldest = since_least _ _ (c.least-oldest.ensures ∙ ap least_of c.as_slice-3.ensures.value);
      rows_capacity = c.in_ok-rows.ensures.capacity;
      names_capacity = c.in_ok-names.ensures.capacity;
      watched_capacity = c.in_ok-watched.ensures.capacity;
    }
