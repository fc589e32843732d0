use Rattle.std.proofs.Common.{◌<◌, ◌∙◌, arith}
use Rattle.worker_pool.proofs.Raising.{all_taken, less_taken}
use Rattle.worker_pool.proofs.desk.Desk.close.Goals as goal

pub returns-then-taken-connections-clause-ok : goal.returns-then-taken-connections-clause-ok
returns-then-taken-connections-clause-ok g c = let desk = c.args.self in all_taken _ _ _ _ desk.counted (c.if-taken-connections.true ∙ desk.all)

pub returns-in-Some-Failed-clause-short : goal.returns-in-Some-Failed-clause-short
returns-in-Some-Failed-clause-short g c =
    let desk = c.args.self in
    let less : desk.taken < g.S.Start.connections = omega (arith, desk.within, desk.all, c.if-taken-connections.false) in
    less_taken _ _ _ _ desk.counted less

pub returns-in-Some-NoMemory-clause-short : goal.returns-in-Some-NoMemory-clause-short
returns-in-Some-NoMemory-clause-short g c =
    let desk = c.args.self in
    let less : desk.taken < g.S.Start.connections = omega (arith, desk.within, desk.all, c.if-taken-connections.false) in
    less_taken _ _ _ _ desk.counted less

pub returns-in-None-clause-short : goal.returns-in-None-clause-short
returns-in-None-clause-short g c =
    let desk = c.args.self in
    let less : desk.taken < g.S.Start.connections = omega (arith, desk.within, desk.all, c.if-taken-connections.false) in
    less_taken _ _ _ _ desk.counted less
