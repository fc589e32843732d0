-- How attempts end whose child programs end.
use Rattle.std.specs.Prelude.{ℤ, pos, negsuc, Option, None, Some}
use Rattle.farm_types.specs.declared.attempt.Exit.{Exit}

-- without a status
abbrev pub no_status : Exit
no_status = record { status = 1; signal = 9 }

-- with the child's exit status, and no signal; a child that has none, as one that a signal ended, counts as one without a status
abbrev pub exit_of : Option ℤ → Exit
exit_of (Some (pos status)) = record { status = status; signal = 0 }
exit_of (Some (negsuc status)) = no_status
exit_of None = no_status
