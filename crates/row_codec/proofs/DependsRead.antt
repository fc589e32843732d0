-- A depend's fields are read as that depend.
use Rattle.std.proofs.Common.{◌≡◌, ℕ, ℤ, Bool, true, false, List, Option, Some, None, Ordering, Less, Equal, Greater, nat_cmp, refl, ap, ◌∙◌, Ok}
use Rattle.std.specs.Prelude.{codes, is_some, option_map}
use Rattle.std.specs.Ordering.{match_ordering}
use Rattle.std.specs.Cmp.Lexicographic.{slice_cmp}
use Rattle.serde_json.specs.Data.{Data, boolean, string, Members, no_members, member}
use Rattle.serde_json.specs.Find.{get_member}
use Rattle.cue_json.specs.Fields.{◌>>=◌}
use Rattle.farm_types.specs.declared.depend.DependRow.{DependRow}
use Rattle.farm_types.specs.Formed.{names_layer, names_frame, names_target_layer, names_target_frame}
use Rattle.state_names.specs.Words.{kind_of, kind_word}
use Rattle.state_names.proofs.WordsBack.{kind_back}
use Rattle.row_codec.specs.RowFields.{depend_fields, field_if, signed, whole}
use Rattle.row_codec.specs.RowLaws.{DependFits, EndFits, FrameNamed}
use Rattle.row_codec.specs.RowReading.{depend_at, frame_if, layer_if, target_at, waiter_at}
use Rattle.row_codec.proofs.FieldsRead.{flag_read, i32_read, text_read, u32_read, word_read}

-- ---- fields that may be left out

abbrev is_other : Ordering → Bool
is_other Less = true
is_other Equal = false
is_other Greater = true

passed : (o : Ordering) (e : Data) (found : Option Data) → is_other o ≡ true → match_ordering o found (Some e) found ≡ found
passed Less e found h = refl
passed Equal e found h = absurd (cc)
passed Greater e found h = refl

-- a field of another key is passed over
skip : (k l : List ℕ) (o : Option Data) (rest : Members) → is_other (slice_cmp nat_cmp k l) ≡ true → get_member k (field_if l o rest) ≡ get_member k rest
skip k l None rest h = refl
skip k l (Some e) rest h = passed (slice_cmp nat_cmp k l) e (get_member k rest) h

-- a field is found where it is there, and the rest has none
own : (k : List ℕ) (o : Option Data) (rest : Members) → slice_cmp nat_cmp k k ≡ Equal → get_member k rest ≡ None → get_member k (field_if k o rest) ≡ o
own k None rest same none = none
own k (Some e) rest same none = rw same refl

layer_back : (named : Bool) (field : List ℕ) (ms : Members) (o : Option (List ℕ)) → is_some o ≡ named → get_member field ms ≡ option_map string o → layer_if named field ms ≡ Ok o
layer_back true field ms None h e = absurd (cc)
layer_back true field ms (Some name) h e = ap (λ r. r >>= λ name. Ok (Some name)) (text_read field ms name e)
layer_back false field ms None h e = refl
layer_back false field ms (Some name) h e = absurd (cc)

frame_back : (named : Bool) (field : List ℕ) (ms : Members) (o : Option ℤ) → is_some o ≡ named → get_member field ms ≡ option_map signed o → FrameNamed o → frame_if named field ms ≡ Ok o
frame_back true field ms None h e fits = absurd (cc)
frame_back true field ms (Some number) h e fits = ap (λ r. r >>= λ number. Ok (Some number)) (i32_read field ms number e fits)
frame_back false field ms None h e fits = refl
frame_back false field ms (Some number) h e fits = absurd (cc)

-- ---- what stands at each key

module _ (r : DependRow) where
  abbrev frame : Option Data
  frame = option_map signed r.waiter.frame

  abbrev layer : Option Data
  layer = option_map string r.waiter.layer

  abbrev on_frame : Option Data
  on_frame = option_map signed r.target.frame

  abbrev on_layer : Option Data
  on_layer = option_map string r.target.layer

  -- the fields after that one
  abbrev after_on_frame : Members
  after_on_frame = member (codes "on_job") (whole r.target.job) (field_if (codes "on_layer") on_layer no_members)

  abbrev after_layer : Members
  after_layer = member (codes "met_all") (boolean r.met_all) (field_if (codes "on_frame") on_frame after_on_frame)

  abbrev after_frame : Members
  after_frame = member (codes "job") (whole r.waiter.job) (member (codes "kind") (string (kind_word r.kind)) (field_if (codes "layer") layer after_layer))

  any_found : get_member (codes "any") (depend_fields r) ≡ Some (boolean r.any)
  unfolding depend_fields
  any_found = refl

  frame_found : get_member (codes "frame") (depend_fields r) ≡ frame
  unfolding depend_fields
  frame_found =
      own (codes "frame") frame after_frame refl
      (skip (codes "frame") (codes "layer") layer after_layer refl ∙ skip (codes "frame") (codes "on_frame") on_frame after_on_frame refl ∙ skip (codes "frame") (codes "on_layer") on_layer no_members refl)

  job_found : get_member (codes "job") (depend_fields r) ≡ Some (whole r.waiter.job)
  unfolding depend_fields
  job_found = skip (codes "job") (codes "frame") frame after_frame refl

  kind_found : get_member (codes "kind") (depend_fields r) ≡ Some (string (kind_word r.kind))
  unfolding depend_fields
  kind_found = skip (codes "kind") (codes "frame") frame after_frame refl

  layer_found : get_member (codes "layer") (depend_fields r) ≡ layer
  unfolding depend_fields
  layer_found =
      skip (codes "layer") (codes "frame") frame after_frame refl
      ∙ own (codes "layer") layer after_layer refl (skip (codes "layer") (codes "on_frame") on_frame after_on_frame refl ∙ skip (codes "layer") (codes "on_layer") on_layer no_members refl)

  met_all_found : get_member (codes "met_all") (depend_fields r) ≡ Some (boolean r.met_all)
  unfolding depend_fields
  met_all_found = skip (codes "met_all") (codes "frame") frame after_frame refl ∙ skip (codes "met_all") (codes "layer") layer after_layer refl

  on_frame_found : get_member (codes "on_frame") (depend_fields r) ≡ on_frame
  unfolding depend_fields
  on_frame_found =
      skip (codes "on_frame") (codes "frame") frame after_frame refl ∙ skip (codes "on_frame") (codes "layer") layer after_layer refl
      ∙ own (codes "on_frame") on_frame after_on_frame refl (skip (codes "on_frame") (codes "on_layer") on_layer no_members refl)

  on_job_found : get_member (codes "on_job") (depend_fields r) ≡ Some (whole r.target.job)
  unfolding depend_fields
  on_job_found =
      skip (codes "on_job") (codes "frame") frame after_frame refl ∙ skip (codes "on_job") (codes "layer") layer after_layer refl ∙ skip (codes "on_job") (codes "on_frame") on_frame after_on_frame refl

  on_layer_found : get_member (codes "on_layer") (depend_fields r) ≡ on_layer
  unfolding depend_fields
  on_layer_found =
      skip (codes "on_layer") (codes "frame") frame after_frame refl ∙ skip (codes "on_layer") (codes "layer") layer after_layer refl
      ∙ skip (codes "on_layer") (codes "on_frame") on_frame after_on_frame refl ∙ own (codes "on_layer") on_layer no_members refl refl

  -- ---- the depend

  waiter_read : EndFits (names_layer r.kind) (names_frame r.kind) r.waiter → waiter_at r.kind (depend_fields r) ≡ Ok r.waiter
  unfolding waiter_at
  waiter_read h =
      rw (
        u32_read (codes "job") (depend_fields r) r.waiter.job job_found h.job,
        layer_back (names_layer r.kind) (codes "layer") (depend_fields r) r.waiter.layer h.has_layer layer_found,
        frame_back (names_frame r.kind) (codes "frame") (depend_fields r) r.waiter.frame h.has_frame frame_found h.frame,
      ) refl

  target_read : EndFits (names_target_layer r.kind) (names_target_frame r.kind) r.target → target_at r.kind (depend_fields r) ≡ Ok r.target
  unfolding target_at
  target_read h =
      rw (
        u32_read (codes "on_job") (depend_fields r) r.target.job on_job_found h.job,
        layer_back (names_target_layer r.kind) (codes "on_layer") (depend_fields r) r.target.layer h.has_layer on_layer_found,
        frame_back (names_target_frame r.kind) (codes "on_frame") (depend_fields r) r.target.frame h.has_frame on_frame_found h.frame,
      ) refl

  pub depend_read : DependFits r → depend_at r.depend (depend_fields r) ≡ Ok r
  unfolding depend_at
  depend_read h =
      rw (
        flag_read (codes "any") (depend_fields r) r.any any_found,
        word_read (codes "kind") (depend_fields r) kind_of (kind_word r.kind) r.kind kind_found (kind_back r.kind),
        flag_read (codes "met_all") (depend_fields r) r.met_all met_all_found,
        waiter_read h.waiter,
        target_read h.target,
      ) refl
