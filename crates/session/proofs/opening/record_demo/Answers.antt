-- None of these entries books.
use Rattle.std.proofs.Common.{◌≡◌, ◌<◌, ◌+◌, ◌^◌, List, length, sym, subst, rules}
use Rattle.std.specs.List.{All}
use Rattle.farm_types.specs.declared.entry.Entry.{Entry}
use Rattle.farm_law.specs.DemoRun.{demo_entries}
use Rattle.session.specs.Opening.{IsUnbooked}
use Rattle.session.proofs.OpenedLegal.{demo_unbooked}
use Rattle.session.proofs.opening.record_demo.Goals as goal

pub record_each-requires-clause-unbooked : goal.record_each-requires-clause-unbooked
record_each-requires-clause-unbooked g c =
    let is : c.as_slice.result.now ≡ demo_entries c.args.moment = search rules in
    subst (All IsUnbooked) (sym is) (demo_unbooked c.args.moment)

pub record_each-requires-clause-room : goal.record_each-requires-clause-room
record_each-requires-clause-room g c =
    let is : c.as_slice.result.now ≡ demo_entries c.args.moment = search rules in
    subst (λ (es : List Entry). length c.args.recorder.now.view.journal + length es < 2 ^ 64) (sym is) c.requires.room
