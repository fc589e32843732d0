-- The kind and the two ends of a depend are read as what was written.
use Rattle.std.proofs.Common.{◌≡◌, ℕ, Bool, true, false, List, ◌++◌, Option, Some, None, Ok, refl, sym, ap, ◌∙◌}
use Rattle.std.specs.Prelude.{ℤ, codes, is_some, option_map}
use Rattle.std.specs.Option.{IfSome}
use Rattle.serde_json.specs.Data.{string, Members}
use Rattle.serde_json.specs.Find.{get_member}
use Rattle.cue_json.specs.Fields.{◌>>=◌, is_expected}
use Rattle.farm_types.specs.declared.depend.DependSpec.{DependSpec}
use Rattle.farm_types.specs.Formed.{is_frame_named, is_layer_name, IsFormedDepend, names_frame, names_layer, names_target_frame, names_target_layer}
use Rattle.farm_lines.specs.DependLines.{frame_if, key_if, layer_if, own_keys, target_at, waiter_at}
use Rattle.farm_lines.specs.Words.{signed}
use Rattle.client_codec.proofs.AskedLemmas.AskedFields.{signed_back, signed_fits}
use Rattle.client_codec.proofs.AskedLemmas.AskedOptions.{in_back, in_front, named_key}
use Rattle.object_writer.proofs.DataBack.{Fits}
use Rattle.client_codec.proofs.FieldsBack.{name_back}
use Rattle.client_codec.proofs.AskedLemmas.TextsFit.{name_fits}

-- ---- layers and frames that the kind names

pub layer_fits : (n : ℕ) (o : Option (List ℕ)) → is_layer_name o ≡ true → IfSome o (λ name. Fits n (string name))
layer_fits n None h = tt
layer_fits n (Some name) h = name_fits name h

pub frame_fits : (n : ℕ) (o : Option ℤ) → is_frame_named o ≡ true → IfSome o (λ number. Fits n (signed number))
frame_fits n None h = tt
frame_fits n (Some number) h = signed_fits n number h

layer_back : (named : Bool) (field : List ℕ) (ms : Members) (o : Option (List ℕ)) → is_some o ≡ named → get_member field ms ≡ option_map string o → is_layer_name o ≡ true → layer_if named field ms ≡ Ok o
layer_back true field ms None there found h = absurd (cc)
layer_back true field ms (Some name) there found h = ap (λ r. r >>= λ name. Ok (Some name)) (name_back field ms name found h)
layer_back false field ms None there found h = refl
layer_back false field ms (Some name) there found h = absurd (cc)

frame_back : (named : Bool) (field : List ℕ) (ms : Members) (o : Option ℤ) → is_some o ≡ named → get_member field ms ≡ option_map signed o → is_frame_named o ≡ true → frame_if named field ms ≡ Ok o
frame_back true field ms None there found h = absurd (cc)
frame_back true field ms (Some number) there found h = ap (λ r. r >>= λ number. Ok (Some number)) (signed_back field ms number found h)
frame_back false field ms None there found h = refl
frame_back false field ms (Some number) there found h = absurd (cc)

module _ (d : DependSpec) (h : IsFormedDepend d) where
  pub waiter_read : (ms : Members) → get_member (codes "layer") ms ≡ option_map string d.waiter.layer → get_member (codes "frame") ms ≡ option_map signed d.waiter.frame
      → waiter_at d.waiter.job d.kind ms ≡ Ok d.waiter
  unfolding waiter_at
  waiter_read ms layer frame =
      rw (
        layer_back (names_layer d.kind) (codes "layer") ms d.waiter.layer h.waiter.layer layer h.waiter.layer_name,
        frame_back (names_frame d.kind) (codes "frame") ms d.waiter.frame h.waiter.frame frame h.waiter.frame_named,
      ) refl

  pub target_read : (ms : Members) → get_member (codes "on_layer") ms ≡ option_map string d.target.layer → get_member (codes "on_frame") ms ≡ option_map signed d.target.frame
      → target_at d.target.job d.kind ms ≡ Ok d.target
  unfolding target_at
  target_read ms layer frame =
      rw (
        layer_back (names_target_layer d.kind) (codes "on_layer") ms d.target.layer h.target.layer layer h.target.layer_name,
        frame_back (names_target_frame d.kind) (codes "on_frame") ms d.target.frame h.target.frame frame h.target.frame_named,
      ) refl

  -- ---- their keys are expected

  abbrev layer_key : List (List ℕ)
  layer_key = key_if (names_layer d.kind) (codes "layer")

  abbrev frame_key : List (List ℕ)
  frame_key = key_if (names_frame d.kind) (codes "frame")

  abbrev on_layer_key : List (List ℕ)
  on_layer_key = key_if (names_target_layer d.kind) (codes "on_layer")

  abbrev on_frame_key : List (List ℕ)
  on_frame_key = key_if (names_target_frame d.kind) (codes "on_frame")

  pub layer_expected : is_some d.waiter.layer ≡ true → is_expected (own_keys d.kind) (codes "layer") ≡ true
  layer_expected there =
      in_front (layer_key ++ frame_key ++ on_layer_key) on_frame_key (codes "layer")
      (in_front (layer_key ++ frame_key) on_layer_key (codes "layer")
      (in_front layer_key frame_key (codes "layer") (named_key (names_layer d.kind) (codes "layer") (sym h.waiter.layer ∙ there) refl)))

  pub frame_expected : is_some d.waiter.frame ≡ true → is_expected (own_keys d.kind) (codes "frame") ≡ true
  frame_expected there =
      in_front (layer_key ++ frame_key ++ on_layer_key) on_frame_key (codes "frame")
      (in_front (layer_key ++ frame_key) on_layer_key (codes "frame")
      (in_back layer_key frame_key (codes "frame") (named_key (names_frame d.kind) (codes "frame") (sym h.waiter.frame ∙ there) refl)))

  pub on_layer_expected : is_some d.target.layer ≡ true → is_expected (own_keys d.kind) (codes "on_layer") ≡ true
  on_layer_expected there =
      in_front (layer_key ++ frame_key ++ on_layer_key) on_frame_key (codes "on_layer")
      (in_back (layer_key ++ frame_key) on_layer_key (codes "on_layer") (named_key (names_target_layer d.kind) (codes "on_layer") (sym h.target.layer ∙ there) refl))

  pub on_frame_expected : is_some d.target.frame ≡ true → is_expected (own_keys d.kind) (codes "on_frame") ≡ true
  on_frame_expected there =
      in_back (layer_key ++ frame_key ++ on_layer_key) on_frame_key (codes "on_frame") (named_key (names_target_frame d.kind) (codes "on_frame") (sym h.target.frame ∙ there) refl)
