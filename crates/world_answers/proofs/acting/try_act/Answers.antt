use Rattle.std.proofs.Common.{sym, subst}
use Rattle.farm_types.specs.declared.entry.Entry.{Entry}
use Rattle.farm_types.specs.Formed.{IsFormed}
use Rattle.farm_types.specs.Step.{refusal_of}
use Rattle.farm_lines.specs.Transcript.{entry_answer, unless_memory}
use Rattle.line_answers.specs.Asking.{IsNoBooking}
use Rattle.world_answers.proofs.OneEntry.{tries_as}
use Rattle.world_answers.proofs.Replied.{tries_without_memory}
use Rattle.world_answers.proofs.acting.try_act.Goals as goal

pub returns-in_err-entries : goal.returns-in_err-entries
returns-in_err-entries c =
    let f = c.args.farm.now in
    tries_without_memory f (λ mark. unless_memory mark (entry_answer f c.args.entry mark (refusal_of f c.args.entry))) c.args.refused
    c.from_residual.result c.from_residual.ensures.1

pub first_of-requires : goal.first_of-requires
first_of-requires c = (c.args.entry, c.in_ok-entries.ensures)

pub act_on-acted-requires-clause-formed : goal.act_on-acted-requires-clause-formed
act_on-acted-requires-clause-formed c = subst IsFormed (sym (c.first_of.ensures c.args.entry c.in_ok-entries.ensures)) c.requires.formed

pub act_on-acted-requires-clause-unbooked : goal.act_on-acted-requires-clause-unbooked
act_on-acted-requires-clause-unbooked c =
    subst (λ (e : Entry). IsNoBooking e.act) (sym (c.first_of.ensures c.args.entry c.in_ok-entries.ensures)) c.requires.unbooked

pub returns : goal.returns
returns c =
    tries_as c.args.farm.now c.args.refused c.act_on-acted.result c.args.entry c.first_of.result.now
    (c.first_of.ensures c.args.entry c.in_ok-entries.ensures) c.act_on-acted.ensures c.requires.no_report c.trial_if.result
    (c.trial_if.ensures c.args.entry c.in_ok-entries.ensures)
