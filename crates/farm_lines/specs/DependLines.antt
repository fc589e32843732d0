-- What a depend says, or its first fault: its kind, then its two ends by the fields that the kind has.
use Rattle.std.specs.Prelude.{ℕ, ℤ, Bool, true, false, List, [], ◌∷◌, ◌++◌, codes, Option, None, Some, Result, Ok}
use Rattle.serde_json.specs.Data.{Members}
use Rattle.cue_json.specs.Fields.{Fault, ◌>>=◌, signed_at, flag_at, others_at}
use Rattle.cue_json.specs.Items.{list_of}
use Rattle.farm_types.specs.declared.depend.DependKind.{DependKind}
use Rattle.farm_types.specs.declared.depend.DependSpec.{DependSpec}
use Rattle.farm_types.specs.declared.depend.Place.{Place}
use Rattle.farm_types.specs.Formed.{names_layer, names_frame, names_target_layer, names_target_frame}
use Rattle.state_names.specs.Words.{kind_of, word_at}
use Rattle.farm_lines.specs.Fields.{name_at, or_default}
use Rattle.farm_lines.specs.declared.limits.TheConstants.{LEAST_FRAME, MOST_FRAME}

-- ---- kinds

-- ---- ends

-- a layer's name and a frame's number, where the kind of depend names them
abbrev pub layer_if : Bool → List ℕ → Members → Result (Option (List ℕ)) Fault
layer_if true field ms = name_at field ms >>= λ name. Ok (Some name)
layer_if false field ms = Ok None

abbrev pub frame_if : Bool → List ℕ → Members → Result (Option ℤ) Fault
frame_if true field ms = signed_at field LEAST_FRAME MOST_FRAME ms >>= λ number. Ok (Some number)
frame_if false field ms = Ok None

-- the end of a job that waits, and the one that it waits for
unfoldable pub waiter_at : List ℕ → DependKind → Members → Result Place Fault
waiter_at job kind ms =
    layer_if (names_layer kind) (codes "layer") ms >>= λ layer. frame_if (names_frame kind) (codes "frame") ms >>= λ frame.
    Ok (record { job = job; layer = layer; frame = frame })

unfoldable pub target_at : List ℕ → DependKind → Members → Result Place Fault
target_at job kind ms =
    layer_if (names_target_layer kind) (codes "on_layer") ms >>= λ layer. frame_if (names_target_frame kind) (codes "on_frame") ms >>= λ frame.
    Ok (record { job = job; layer = layer; frame = frame })

-- ---- keys

abbrev pub key_if : Bool → List ℕ → List (List ℕ)
key_if true key = key ∷ []
key_if false key = []

-- the keys of the layers and frames that the kind names
abbrev pub end_keys : DependKind → List (List ℕ)
end_keys kind =
    key_if (names_layer kind) (codes "layer") ++ key_if (names_frame kind) (codes "frame") ++ key_if (names_target_layer kind) (codes "on_layer") ++ key_if (names_target_frame kind) (codes "on_frame")

-- the keys of a depend in a spec, and of the request for one
abbrev pub own_keys : DependKind → List (List ℕ)
own_keys kind = codes "any" ∷ codes "kind" ∷ codes "on_job" ∷ end_keys kind

abbrev pub depend_keys : DependKind → List (List ℕ)
depend_keys kind = codes "job" ∷ codes "op" ∷ own_keys kind

-- ---- depends

-- the request for a depend: its fields in order, and no others
unfoldable pub depend_at : Members → Result DependSpec Fault
depend_at ms =
    word_at kind_of (codes "kind") ms >>= λ kind. or_default false flag_at (codes "any") ms >>= λ any. name_at (codes "job") ms >>= λ job.
    waiter_at job kind ms >>= λ waiter. name_at (codes "on_job") ms >>= λ on_job. target_at on_job kind ms >>= λ target.
    others_at (depend_keys kind) ms >>= λ none. Ok (record { kind = kind; any = any; waiter = waiter; target = target })

-- a depend in the spec of that job, which is the one that waits, and the one that is waited for where no other is named
unfoldable pub own_depend_at : List ℕ → Members → Result DependSpec Fault
own_depend_at own ms =
    word_at kind_of (codes "kind") ms >>= λ kind. or_default false flag_at (codes "any") ms >>= λ any. waiter_at own kind ms >>= λ waiter.
    or_default own name_at (codes "on_job") ms >>= λ on_job. target_at on_job kind ms >>= λ target. others_at (own_keys kind) ms >>= λ none.
    Ok (record { kind = kind; any = any; waiter = waiter; target = target })

-- the depends in the spec of that job
abbrev pub own_depends : List ℕ → List ℕ → Members → Result (List DependSpec) Fault
own_depends own field ms = list_of field (own_depend_at own) ms
