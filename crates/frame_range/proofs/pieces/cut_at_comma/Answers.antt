use Rattle.std.proofs.Common.{◌∙◌, ◌+◌, ◌∷◌, sym, ap, take}
use Rattle.std.proofs.lemmas.List.{take_rest}
use Rattle.frame_range.specs.Sets.{pieces}
use Rattle.frame_range.proofs.PieceLemmas.{pieces_at, pieces_last}
use Rattle.frame_range.proofs.pieces.cut_at_comma.Goals as goal

pub returns-in-None-clause-last : goal.returns-in-None-clause-last
returns-in-None-clause-last c = pieces_last c.args.text.now (sym c.in-None.ensures.value)

pub returns-in-Some-clause-first : goal.returns-in-Some-clause-first
returns-in-Some-clause-first c =
    pieces_at c.args.text.now c.in-Some.at (sym c.in-Some.ensures.value)
    ∙ ap (λ rest. take c.in-Some.at c.args.text.now ∷ pieces rest) (sym (take_rest c.args.text.now (c.in-Some.at + 1)))
