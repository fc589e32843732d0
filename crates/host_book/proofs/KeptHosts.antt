-- What the book keeps true of its fields after a change that adds no host.
use Rattle.std.proofs.Common.{◌≡◌, ◌∙◌, map, length, sym, ap, arith}
use Rattle.std.specs.Vec.{vec_capacity}
use Rattle.std.proofs.lemmas.List.{length-map}
use Rattle.host_book.specs.declared.hosts.Hosts.TheInside.{Inside}
use Rattle.host_book.specs.Inside.{AllSince, KeepsHosts, name_of, watched_of}

-- the hosts keep their names, what is watched is read of them and isn't before the bound, and no capacity is lost
pub kept_hosts : (old new : Inside) → KeepsHosts old → new.names ≡ old.names → map name_of new.rows.items ≡ map name_of old.rows.items → new.watched.items ≡ map watched_of new.rows.items
    → AllSince new.oldest new.watched.items → vec_capacity new.rows ≡ vec_capacity old.rows → vec_capacity new.watched ≡ vec_capacity old.watched → KeepsHosts new
kept_hosts old new keeps same names watched since rows_capacity watched_capacity =
    let as_many : length new.rows.items ≡ length old.rows.items = sym (length-map new.rows.items name_of) ∙ ap length names ∙ length-map old.rows.items name_of in
    record {
      count = omega (arith, as_many, keeps.count);
      names_are = rw same (keeps.names_are ∙ sym names);
      watched_are = watched;
      since_oldest = since;
      rows_capacity = rw rows_capacity keeps.rows_capacity;
      names_capacity = rw same keeps.names_capacity;
      watched_capacity = rw watched_capacity keeps.watched_capacity;
    }
