use Rattle.farm_types.specs.Farm.{empty_farm}
use Rattle.session.proofs.StopLemmas.{acknowledged}
use Rattle.session.proofs.laws.stops_keep_acknowledged_lines.Goals as goal

pub returns-clause-given : goal.returns-clause-given
returns-clause-given c =
    λ given first form opened exchanges rows list said.
    acknowledged c.legal_runs_keep_farms.ensures.runs c.sessions_are_legal.ensures c.stops_keep_farms.ensures first form opened exchanges rows list
    (c.rows_recovered_are_the_farms.ensures.kept given (record { farm = first; format = said.0 }) said.1)

pub returns-clause-stated : goal.returns-clause-stated
returns-clause-stated c =
    λ form opened exchanges rows list.
    acknowledged c.legal_runs_keep_farms.ensures.runs c.sessions_are_legal.ensures c.stops_keep_farms.ensures empty_farm form opened exchanges rows list
    c.legal_runs_keep_farms.ensures.empty
