use Rattle.std.proofs.Common.{List, Option, sym, ap, ◌∙◌}
use Rattle.std.specs.List.{slice_get}
use Rattle.std.specs.Option.{option_map}
use Rattle.sub_ledger.specs.declared.subs.SubState.{SubState}
use Rattle.sub_ledger.specs.Inside.{row_for, state_in}
use Rattle.sub_ledger.specs.Ledger.{Ledger, row_of}
use Rattle.sub_ledger.proofs.Books.{row_at}
use Rattle.sub_ledger.proofs.subs.Subs.row.Goals as goal

pub returns-in-None : goal.returns-in-None
returns-in-None c =
    let state = c.in-None.ensures ∙ ap (λ (ps : List (Option SubState)). state_in (slice_get ps c.args.sub)) c.as_slice.ensures.value in
    ap (λ (o : Option SubState). option_map (row_for c.args.sub) o) state
    ∙ (sym (row_at c.self.inside.places.items c.args.sub) ∙ ap (λ (b : Ledger). row_of b c.args.sub) c.self.view_is)

pub returns-in-Some : goal.returns-in-Some
returns-in-Some c =
    let state = c.in-Some.ensures ∙ ap (λ (ps : List (Option SubState)). state_in (slice_get ps c.args.sub)) c.as_slice.ensures.value in
    ap (λ (o : Option SubState). option_map (row_for c.args.sub) o) state
    ∙ (sym (row_at c.self.inside.places.items c.args.sub) ∙ ap (λ (b : Ledger). row_of b c.args.sub) c.self.view_is)
