use Rattle.std.proofs.Common.{◌≡◌, ◌∙◌, [], Some, ap, sym}
use Rattle.std.specs.Prelude.{option_map}
use Rattle.std.proofs.lemmas.Result.{IfOk-weaker}
use Rattle.farm_keeper.specs.Keeping.{MayRemain}
use Rattle.farm_keeper.specs.Memory.{Kept}
use Rattle.session.specs.Opening.{MayOpen}
use Rattle.session.specs.Words.{WordForm, form_of, word_form}
use Rattle.case_files.proofs.Opened.{may_open_fresh, may_open_script}
use Rattle.case_files.proofs.store.keeper_of.Goals as goal

-- src/store.rt:57:1
pub returns-in-Some-Script : goal.returns-in-Some-Script
returns-in-Some-Script c =
    IfOk-weaker c.filled.result (λ (keeper : Kept). keeper.refused ≡ [])
    (λ (keeper : Kept). (form : WordForm) → form_of c.args.words.now ≡ Some form → MayOpen form (λ held. held ≡ keeper.rows) (MayRemain keeper.rows keeper.refused))
    (λ (keeper : Kept) none. may_open_script (form_of c.args.words.now) c.in-Some-Script.field-0-0.now keeper.rows keeper.refused
    (sym c.form.ensures.value ∙ ap (option_map word_form) (c.in-Some-Script.is ∙ ap Some c.in-Some-Script.field-0-is)) none) c.filled.ensures

-- src/store.rt:49:1
pub returns : goal.returns
returns c = may_open_fresh (form_of c.args.words.now) c.fresh.result c.fresh.ensures.rows c.fresh.ensures.refused
