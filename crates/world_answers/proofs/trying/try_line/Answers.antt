use Rattle.std.proofs.Common.{arith, inl, length, refl}
use Rattle.std.proofs.lemmas.Bool.{le-ltb, lt-ltb}
use Rattle.farm_lines.specs.declared.limits.TheConstants.{LINE_LIMIT}
use Rattle.farm_lines.specs.declared.reply.Reply.TheVariants as reply
use Rattle.line_answers.specs.Lines.{shown}
use Rattle.world_answers.proofs.Replied.{tries_fault}
use Rattle.world_answers.proofs.Tried.{tries_asked, tries_long}
use Rattle.world_answers.proofs.trying.try_line.Goals as goal

pub returns-then-line : goal.returns-then-line
returns-then-line c =
    let line = c.args.line.now in
    let long = c.if-line.true in
    tries_long c.args.farm.now line c.args.moment c.args.refused c.without_entries.result (lt-ltb LINE_LIMIT (length line) (omega (arith, long)))
    (c.without_entries.ensures.replied reply.TooLong (inl refl))

pub returns-in-Ok : goal.returns-in-Ok
returns-in-Ok c =
    let line = c.args.line.now in
    let short = c.if-line.false in
    tries_asked c.args.farm.now line c.args.moment c.args.refused c.try_asked.result (le-ltb LINE_LIMIT (length line) (omega (arith, short))) c.in-Ok.asked
    c.in-Ok.ensures.asks c.try_asked.ensures

pub returns : goal.returns
returns c =
    let line = c.args.line.now in
    let short = c.if-line.false in
    tries_fault c.args.farm.now line c.args.moment c.args.refused c.without_entries-in-Err.result (le-ltb LINE_LIMIT (length line) (omega (arith, short)))
    (shown c.in-Err.told) c.without_entries-in-Err.ensures.replied c.without_entries-in-Err.ensures.memory c.in-Err.ensures.asks
