-- What is read of a depend has the ends that its kind names.
use Rattle.std.proofs.Common.{◌≡◌, ℕ, ℤ, List, Bool, true, false, refl, Option, Some, Ok}
use Rattle.std.specs.Prelude.{IfOk, codes, is_some}
use Rattle.serde_json.specs.Data.{Members}
use Rattle.cue_json.specs.Fields.{flag_at, others_at, signed_at}
use Rattle.farm_types.specs.declared.depend.DependKind.{DependKind}
use Rattle.farm_types.specs.declared.depend.Place.{Place}
use Rattle.farm_types.specs.Formed.{IsFormedDepend, IsFormedOwn, IsFormedPlace, is_frame_named, is_layer_name, names_frame, names_layer, names_target_frame, names_target_layer}
use Rattle.farm_types.specs.Forms.{is_frame_number, is_name_text}
use Rattle.state_names.specs.Words.{kind_of, word_at}
use Rattle.farm_lines.specs.DependLines.{depend_at, depend_keys, frame_if, layer_if, own_depend_at, own_keys, target_at, waiter_at}
use Rattle.farm_lines.specs.Fields.{name_at, or_default}
use Rattle.farm_lines.specs.declared.limits.TheConstants.{LEAST_FRAME, MOST_FRAME}
use Rattle.farm_lines.proofs.FieldLemmas.{step, step_any, name_formed, default_formed, signed_formed}

-- ---- ends

-- a layer's name, there exactly where the kind of depend names it
abbrev IsLayer : Bool → Option (List ℕ) → Type 0
IsLayer named layer = (is_some layer ≡ named) × (is_layer_name layer ≡ true)

layer_formed : (named : Bool) (field : List ℕ) (ms : Members) → IfOk (layer_if named field ms) (IsLayer named)
layer_formed true field ms = step (λ name. is_name_text name ≡ true) (IsLayer true) (name_at field ms) (λ name. Ok (Some name)) (name_formed field ms) (λ name h. (refl, h))
layer_formed false field ms = (refl, refl)

-- a frame's number, there exactly where the kind names it
abbrev IsFrame : Bool → Option ℤ → Type 0
IsFrame named frame = (is_some frame ≡ named) × (is_frame_named frame ≡ true)

frame_formed : (named : Bool) (field : List ℕ) (ms : Members) → IfOk (frame_if named field ms) (IsFrame named)
frame_formed true field ms = step (λ number. is_frame_number number ≡ true) (IsFrame true) (signed_at field LEAST_FRAME MOST_FRAME ms) (λ number. Ok (Some number)) (signed_formed field LEAST_FRAME MOST_FRAME ms) (λ number h. (refl, h))
frame_formed false field ms = (refl, refl)

-- an end of that job, formed as its kind asks
abbrev IsEnd : Bool → Bool → List ℕ → Place → Type 0
IsEnd layered framed job p = (p.job ≡ job) × IsFormedPlace layered framed p

waiter_formed : (job : List ℕ) (kind : DependKind) (ms : Members) → is_name_text job ≡ true → IfOk (waiter_at job kind ms) (IsEnd (names_layer kind) (names_frame kind) job)
unfolding waiter_at
waiter_formed job kind ms named =
    let End : Place → Type 0 = IsEnd (names_layer kind) (names_frame kind) job in
    step (IsLayer (names_layer kind)) End (layer_if (names_layer kind) (codes "layer") ms) _ (layer_formed (names_layer kind) (codes "layer") ms) (λ layer layered.
    step (IsFrame (names_frame kind)) End (frame_if (names_frame kind) (codes "frame") ms) _ (frame_formed (names_frame kind) (codes "frame") ms) (λ frame framed.
    (refl, record { job = named; layer = layered.0; layer_name = layered.1; frame = framed.0; frame_named = framed.1 })))

target_formed : (job : List ℕ) (kind : DependKind) (ms : Members) → is_name_text job ≡ true → IfOk (target_at job kind ms) (IsEnd (names_target_layer kind) (names_target_frame kind) job)
unfolding target_at
target_formed job kind ms named =
    let End : Place → Type 0 = IsEnd (names_target_layer kind) (names_target_frame kind) job in
    step (IsLayer (names_target_layer kind)) End (layer_if (names_target_layer kind) (codes "on_layer") ms) _ (layer_formed (names_target_layer kind) (codes "on_layer") ms) (λ layer layered.
    step (IsFrame (names_target_frame kind)) End (frame_if (names_target_frame kind) (codes "on_frame") ms) _ (frame_formed (names_target_frame kind) (codes "on_frame") ms) (λ frame framed.
    (refl, record { job = named; layer = layered.0; layer_name = layered.1; frame = framed.0; frame_named = framed.1 })))

-- ---- depends

pub depend_formed : (ms : Members) → IfOk (depend_at ms) IsFormedDepend
unfolding depend_at
depend_formed ms =
    step_any IsFormedDepend (word_at kind_of (codes "kind") ms) _ (λ kind.
    step_any IsFormedDepend (or_default false flag_at (codes "any") ms) _ (λ any.
    step (λ name. is_name_text name ≡ true) IsFormedDepend (name_at (codes "job") ms) _ (name_formed (codes "job") ms) (λ job named.
    step (IsEnd (names_layer kind) (names_frame kind) job) IsFormedDepend (waiter_at job kind ms) _ (waiter_formed job kind ms named) (λ waiter waits.
    step (λ name. is_name_text name ≡ true) IsFormedDepend (name_at (codes "on_job") ms) _ (name_formed (codes "on_job") ms) (λ on_job on_named.
    step (IsEnd (names_target_layer kind) (names_target_frame kind) on_job) IsFormedDepend (target_at on_job kind ms) _ (target_formed on_job kind ms on_named) (λ target targeted.
    step_any IsFormedDepend (others_at (depend_keys kind) ms) _ (λ none.
    record { waiter = waits.1; target = targeted.1 })))))))

pub own_formed : (own : List ℕ) → is_name_text own ≡ true → (ms : Members) → IfOk (own_depend_at own ms) (IsFormedOwn own)
unfolding own_depend_at
own_formed own owned ms =
    step_any (IsFormedOwn own) (word_at kind_of (codes "kind") ms) _ (λ kind.
    step_any (IsFormedOwn own) (or_default false flag_at (codes "any") ms) _ (λ any.
    step (IsEnd (names_layer kind) (names_frame kind) own) (IsFormedOwn own) (waiter_at own kind ms) _ (waiter_formed own kind ms owned) (λ waiter waits.
    step (λ name. is_name_text name ≡ true) (IsFormedOwn own) (or_default own name_at (codes "on_job") ms) _ (default_formed (λ name. is_name_text name ≡ true) own name_at (codes "on_job") ms owned (name_formed (codes "on_job") ms)) (λ on_job on_named.
    step (IsEnd (names_target_layer kind) (names_target_frame kind) on_job) (IsFormedOwn own) (target_at on_job kind ms) _ (target_formed on_job kind ms on_named) (λ target targeted.
    step_any (IsFormedOwn own) (others_at (own_keys kind) ms) _ (λ none.
    record { own = waits.0; depend = record { waiter = waits.1; target = targeted.1 } }))))))
