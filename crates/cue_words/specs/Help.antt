-- The help text: a line for each command.
use Rattle.std.specs.Prelude.{ℕ, List, [], ◌∷◌, ◌++◌, codes}

-- the lines, each with a newline at its end
abbrev pub ended : List (List ℕ) → List ℕ
ended [] = []
ended (line ∷ lines) = line ++ 10 ∷ ended lines

unfoldable pub help_lines : List ℕ
help_lines =
    ended (
    codes "list WHAT [JOB]" ∷ codes "show NAME" ∷ codes "alloc NAME" ∷ codes "sub SHOW ALLOC SIZE BURST" ∷ codes "limit NAME MOST" ∷ codes "lock HOST"
    ∷ codes "unlock HOST" ∷ codes "nimby HOST" ∷ codes "submit FILE" ∷ codes "depend KIND all|any WAITER on TARGET" ∷ codes "drop N" ∷ codes "pause JOB" ∷ codes "resume JOB"
    ∷ codes "kill JOB [LAYER FRAME]" ∷ codes "eat JOB LAYER FRAME" ∷ codes "retry JOB LAYER FRAME" ∷ codes "tick" ∷ codes "help" ∷ []
    )
