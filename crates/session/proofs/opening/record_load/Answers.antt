-- None of these entries books.
use Rattle.std.proofs.Common.{◌≡◌, ◌<◌, ◌+◌, ◌^◌, List, length, sym, subst, rules}
use Rattle.std.specs.List.{All}
use Rattle.farm_types.specs.declared.entry.Entry.{Entry}
use Rattle.farm_gen.specs.Load.{load_entries}
use Rattle.session.specs.Opening.{IsUnbooked}
use Rattle.session.proofs.OpenedLegal.{load_unbooked}
use Rattle.session.proofs.opening.record_load.Goals as goal

pub record_each-requires-clause-unbooked : goal.record_each-requires-clause-unbooked
record_each-requires-clause-unbooked g c =
    let is : c.as_slice.result.now ≡ load_entries c.args.n = search rules in
    subst (All IsUnbooked) (sym is) (load_unbooked c.args.n)

pub record_each-requires-clause-room : goal.record_each-requires-clause-room
record_each-requires-clause-room g c =
    let is : c.as_slice.result.now ≡ load_entries c.args.n = search rules in
    subst (λ (es : List Entry). length c.args.recorder.now.view.journal + length es < 2 ^ 64) (sym is) c.requires.room
