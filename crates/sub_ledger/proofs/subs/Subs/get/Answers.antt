use Rattle.std.proofs.Common.{List, Option, ap, ◌∙◌}
use Rattle.std.specs.List.{slice_get}
use Rattle.sub_ledger.specs.declared.subs.SubState.{SubState}
use Rattle.sub_ledger.specs.Inside.{state_in}
use Rattle.sub_ledger.specs.Ledger.{Ledger, state_of}
use Rattle.sub_ledger.proofs.Books.{state_is}
use Rattle.sub_ledger.proofs.subs.Subs.get.Goals as goal

pub returns : goal.returns
returns c =
    c.state_at.ensures
    ∙ (ap (λ (ps : List (Option SubState)). state_in (slice_get ps c.args.sub)) c.as_slice.ensures.value
    ∙ (state_is c.self.inside.places.items c.args.sub ∙ ap (λ (b : Ledger). state_of b c.args.sub) c.self.view_is))
