-- The object of the value that was read, or the fault that the error stands for.
use Rattle.std.proofs.Common.{◌≡◌, List, ℕ, Err, BTreeMap, String, Global, ◌∙◌, ◌↔◌, IsUtf8, None}
use Rattle.serde_json.specs.Data.{Members}
use Rattle.serde_json.specs.Errors.{IsMemory}
use Rattle.serde_json.specs.Read.{read}
use Rattle.serde_json.specs.View.{members_view}
use Rattle.serde_json.specs.declared.error.Error.{Error}
use Rattle.serde_json.specs.declared.value.Value.{Value}
use Rattle.cue_json.specs.Lines.{object_in, IsObjectIn}
use Rattle.cue_json.specs.declared.line.LineFault.{LineFault}
use Rattle.cue_json.specs.declared.line.LineFault.TheVariants.{NotAnObject, NoMemory}
use Rattle.cue_words.proofs.ObjectRead.{object_in-read, object_in-refused, given_or_none}
use Rattle.cue_words.proofs.spec_object.read_object.Goals as goal

pub returns-in-Ok : goal.returns-in-Ok
returns-in-Ok c =
    let found = object_in-read c.args.text.now _ c.in-Ok.ensures.ok.0 c.in-Ok.ensures.ok.1 in
    rw c.ok_or.ensures.value (given_or_none _ c.object_within.result _ (c.object_within.ensures ∙ found))

fault_told : {X : Type 0} (view : X → Members) (fault : LineFault) (e : Error) (line : List ℕ) → ((fault ≡ NoMemory) ↔ IsMemory e) → (¬ IsMemory e → IsUtf8 line → read line ≡ None)
    → IsObjectIn view (Err fault) (object_in line)
fault_told view NotAnObject e line told refused =
    let other : ¬ IsMemory e = λ m. (let no : NotAnObject ≡ NoMemory → ⊥ = λ h. cc in no (told.1 m)) in
    object_in-refused line (refused other)
fault_told view NoMemory e line told refused = tt

pub returns-in-Err : goal.returns-in-Err
returns-in-Err c = fault_told {X = BTreeMap (String Global) Value} (λ m. members_view m.entries) c.fault_of.result c.in-Err.e c.args.text.now c.fault_of.ensures c.in-Err.ensures.err
