-- Texts that a line says and that may be any.
use Rattle.farm_types.specs.declared.entry.Act.{Act}
use Rattle.farm_types.specs.declared.entry.Act.TheVariants as act
use Rattle.farm_lines.specs.FormedLines.{IsText}

-- the name of an allocation that an act says, whatever it is, is a text
abbrev pub SaysText : Act → Type 0
SaysText (act.Sub line) = IsText line.alloc
SaysText (act.Boot line) = IsText line.alloc
SaysText other = Unit {0}
