use Rattle.std.proofs.Common.{◌∙◌, sym, ap, string_bytes}
use Rattle.farm_types.specs.Farm.{host_from}
use Rattle.host_book.proofs.Named.{named}
use Rattle.host_book.proofs.hosts.Hosts.find.Goals as goal

pub returns-in_err-place-clause-value : goal.returns-in_err-place-clause-value
returns-in_err-place-clause-value c =
    let index = c.get_index_of.ensures.index ∙ named string_bytes c.args.name.now c.self.inside.names.keys c.self.inside.rows.items c.self.invariant.names_are in
    c.from_residual.ensures ∙ sym c.in_err-place.was ∙ index ∙ ap (host_from 0 c.args.name.now) c.self.view_is

pub returns-clause-value : goal.returns-clause-value
returns-clause-value c =
    let index = c.get_index_of.ensures.index ∙ named string_bytes c.args.name.now c.self.inside.names.keys c.self.inside.rows.items c.self.invariant.names_are in
    sym c.in_ok-place.was ∙ index ∙ ap (host_from 0 c.args.name.now) c.self.view_is
