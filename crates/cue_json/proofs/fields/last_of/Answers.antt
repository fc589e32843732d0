-- A member from the end: it has the name, or is left behind.
use Rattle.std.proofs.Common.{◌≡◌, ◌+◌, ◌-◌, [], ◌∷◌, ◌++◌, take, Bool, true, false, cond, Some, sym, ap, ◌∙◌, arith}
use Rattle.std.proofs.lemmas.List.{take_more}
use Rattle.std.specs.Str.{bytes_eq}
use Rattle.json.specs.Find.{get_member}
use Rattle.json.specs.Value.{value_view, members_view}
use Rattle.json.proofs.Trees.{get_member-push}
use Rattle.cue_json.proofs.fields.last_of.Goals as goal

pub returns-then-is_same : goal.returns-then-is_same
returns-then-is_same c =
    let members = c.args.members.now in
    let place = c.loop-left.left - 1 in
    let member = c.index-members-left.result in
    let name = c.args.field.now in
    let next : c.loop-left.left ≡ place + 1 = omega arith in
    let front : take c.loop-left.left members ≡ take place members ++ member ∷ [] =
    ap (λ n. take n members) next ∙ take_more members place member (omega arith) ∙ ap (λ m. take place members ++ m ∷ []) (sym c.index-members-left.is) in
    let here = c.loop-left.invariant.0 ∙ ap (λ ms. get_member name (members_view ms)) front ∙ get_member-push name (take place members) member in
    let one = λ (b : Bool). cond b (Some (value_view member.1)) (get_member name (members_view (take place members))) in
    let same : bytes_eq member.0.now name ≡ true = grind arith in
    sym (here ∙ ap one same)

pub loop-left-preserved : goal.loop-left-preserved
loop-left-preserved c =
    let members = c.args.members.now in
    let place = c.loop-left.left - 1 in
    let member = c.index-members-left.result in
    let name = c.args.field.now in
    let next : c.loop-left.left ≡ place + 1 = omega arith in
    let front : take c.loop-left.left members ≡ take place members ++ member ∷ [] =
    ap (λ n. take n members) next ∙ take_more members place member (omega arith) ∙ ap (λ m. take place members ++ m ∷ []) (sym c.index-members-left.is) in
    let here = c.loop-left.invariant.0 ∙ ap (λ ms. get_member name (members_view ms)) front ∙ get_member-push name (take place members) member in
    let one = λ (b : Bool). cond b (Some (value_view member.1)) (get_member name (members_view (take place members))) in
    let other : bytes_eq member.0.now name ≡ false = grind arith in
    (here ∙ ap one other, omega arith)
