use Rattle.std.proofs.lemmas.List.Elements.{recursion_from_All}
use Rattle.farm_types.specs.Farm.{empty_farm}
use Rattle.farm_types.specs.Run.{run_of}
use Rattle.farm_rows.specs.Rows.{rows_in}
use Rattle.row_codec.specs.RowLaws.{FitsIn}
use Rattle.recovery.proofs.laws.farms_of_runs_are_recovered.Goals as goal

pub returns-clause-empty : goal.returns-clause-empty
returns-clause-empty c = λ format es legal has.
    let f = run_of empty_farm es in
    let kept = c.legal_runs_keep_farms.ensures.runs empty_farm es c.legal_runs_keep_farms.ensures.empty legal in
    c.farms_are_recovered.ensures format f kept has (recursion_from_All (FitsIn format) (rows_in format f) (c.rows_fit.ensures format f kept has))

pub returns-clause-later : goal.returns-clause-later
returns-clause-later c = λ rows said format es e legal has.
    let f = run_of said.farm es in
    let kept = c.legal_runs_keep_farms.ensures.runs said.farm es (c.rows_recovered_are_the_farms.ensures.kept rows said e) legal in
    c.farms_are_recovered.ensures format f kept has (recursion_from_All (FitsIn format) (rows_in format f) (c.rows_fit.ensures format f kept has))
