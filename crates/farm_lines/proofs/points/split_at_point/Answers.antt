-- The parts are those around the first point.
use Rattle.std.proofs.Common.{◌∙◌, ap, sym, lit<, List, ℕ, Some, None}
use Rattle.std.proofs.lemmas.Str.Pattern.{split_parts}
use Rattle.farm_lines.specs.Points.{before_point, after_point}
use Rattle.farm_lines.proofs.PointLemmas.{no_point, first_point}
use Rattle.farm_lines.proofs.points.split_at_point.Goals as goal

pub returns-in-Some-clause-before : goal.returns-in-Some-clause-before
returns-in-Some-clause-before c =
    let parts = split_parts 46 c.args.text.now (Some (c.in-Some.before, c.in-Some.after)) c.in-Some.ensures.cases (lit< tt) in
    (first_point c.in-Some.before.now c.in-Some.after.now parts.1).0 ∙ ap (λ (xs : List ℕ). before_point xs) (sym parts.0)

pub returns-in-Some-clause-after : goal.returns-in-Some-clause-after
returns-in-Some-clause-after c =
    let parts = split_parts 46 c.args.text.now (Some (c.in-Some.before, c.in-Some.after)) c.in-Some.ensures.cases (lit< tt) in
    (first_point c.in-Some.before.now c.in-Some.after.now parts.1).1 ∙ ap (λ (xs : List ℕ). after_point xs) (sym parts.0)

pub returns-in-None-clause-before : goal.returns-in-None-clause-before
returns-in-None-clause-before c = (no_point c.args.text.now (split_parts 46 c.args.text.now None c.in-None.ensures.cases (lit< tt))).0

pub returns-in-None-clause-after : goal.returns-in-None-clause-after
returns-in-None-clause-after c = (no_point c.args.text.now (split_parts 46 c.args.text.now None c.in-None.ensures.cases (lit< tt))).1
