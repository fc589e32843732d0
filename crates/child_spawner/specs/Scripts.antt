-- What shells are asked.
use Rattle.std.specs.Prelude.{ℕ, List, codes}

-- ends the process group of the number that it is given; or the process of that number, and then its group
abbrev pub end_script : List ℕ
end_script = codes "kill -s KILL -- -$1 || kill -s KILL $1 && { kill -s KILL -- -$1 || :; }"
