-- The rows of lists that are of one job.
use Rattle.std.proofs.Common.{◌≡◌, ℕ, zero, suc, ◌+◌, ◌*◌, ◌<◌, ◌≤◌, Bool, true, false, cond, eqb, List, [], ◌∷◌, length, Option, Some, None, refl, ap, subst, arith}
use Rattle.std.specs.Prelude.{option_map}
use Rattle.std.specs.List.{All, filter, slice_get}
use Rattle.std.specs.Option.{IfSome}
use Rattle.std.proofs.lemmas.List.{length-map}
use Rattle.std.proofs.lemmas.Option.{none-some, same_Some}
use Rattle.std.proofs.lemmas.List.Elements.{All-head, All-tail}
use Rattle.std.proofs.lemmas.List.Sums.{sum_by-cons}
use Rattle.farm_types.specs.declared.depend.DependRow.{DependRow}
use Rattle.farm_types.specs.declared.limits.TheConstants.{MOST_FRAMES, MOST_LAYERS}
use Rattle.farm_types.specs.declared.rows.LayerRow.{LayerRow}
use Rattle.farm_types.specs.declared.slot_row.Frame.{Frame}
use Rattle.farm_types.specs.declared.slot_row.SlotRow.{SlotRow}
use Rattle.farm_types.specs.declared.states.FrameState.{FrameState}
use Rattle.farm_types.specs.Booking.{is_waiting}
use Rattle.farm_types.specs.DependActs.{is_running}
use Rattle.farm_types.specs.Depends.{layer_shape}
use Rattle.farm_types.specs.Farm.{Farm, for_some, layers_of}
use Rattle.farm_types.specs.Finish.{has_succeeded, waits_by, was_eaten}
use Rattle.farm_types.specs.Kept.{IsKeptFarm, KeepsRows, is_formed_layer}
use Rattle.farm_types.specs.Names.{frame_name}
use Rattle.farm_types.specs.Ranges.{range_numbers}
use Rattle.farm_types.specs.Rising.{IsRising, depend_key, layer_key}
use Rattle.farm_types.specs.Settle.{is_blocked}
use Rattle.farm_types.proofs.Lists.{list_all-at}
use Rattle.depend_law.proofs.Among.{kept_from, rising_above}
use Rattle.farm_lines.specs.declared.list_row.ListRow.TheVariants as row
use Rattle.farm_lines.specs.declared.list_row.RowKind.TheVariants as kind
use Rattle.farm_lines.specs.FormedLines.{IsText}
use Rattle.farm_lines.specs.Lists.{count_among, depend_row, depend_rows, frame_row, frame_rows, frames_in, is_dead, layer_row, layer_rows, slots_in}
use Rattle.reply_law.proofs.Attempts.{frame_of_slot, slot_kept}
use Rattle.reply_law.proofs.Elements.{flat_each, flat_few, found_each, found_few, mapped_each, term_within}
use Rattle.reply_law.proofs.Layers.{LayerWithin, layer_within}
use Rattle.reply_law.proofs.Limits.{filtered_few}
use Rattle.reply_law.proofs.Rows.{AreRows, IsRowOf, limit_named_so, rising_long}
use Rattle.reply_law.proofs.Texts.{frame_text, name_text}
use Rattle.reply_law.proofs.Unmet.{length-placed, said_within}

-- ---- counts of a layer

one_at_most : (b : Bool) → cond b 1 0 ≤ 1
one_at_most true = omega arith
one_at_most false = omega arith

among_few : (test : FrameState → Bool) (slots : List SlotRow) → count_among test slots ≤ length slots
among_few test [] = omega arith
among_few test (s ∷ ss) = omega (arith, sum_by-cons (λ (t : SlotRow). cond (for_some t.frame (λ (x : Frame). test x.state)) 1 0) s ss, one_at_most (for_some s.frame (λ (x : Frame). test x.state)), among_few test ss)

-- the key below which the keys of a rising list are
rising_below_high : {X : Type 0} (key : X → ℕ) (low : ℕ) (xs : List X) (high n : ℕ) (x : X) → IsRising key low xs high → slice_get xs n ≡ Some x → key x < high
rising_below_high key low [] high n x rise at = absurd (none-some x at)
rising_below_high key low (y ∷ ys) high zero x rise at =
    let same : key y ≡ key x = ap key (same_Some y x at) in
    omega (arith, same, rising_long key (key y + 1) ys high rise.1)
rising_below_high key low (y ∷ ys) high (suc n) x rise at = rising_below_high key (key y + 1) ys high n x rise.1 at

module _ (f : Farm) (kept : KeepsRows f) where
  slots_few : (l : LayerRow) → length (slots_in f l) ≤ length (range_numbers l.range)
  slots_few l =
      omega (arith, found_few (slice_get f.slots) (layer_shape f.slots l).slots, length-placed f.slots l.job l.place 0 (range_numbers l.range))

  -- one of the layers of a job
  layer_there : (job n : ℕ) (l : LayerRow) → slice_get (layers_of f.layers job) n ≡ Some l → LayerWithin l × (length (range_numbers l.range) ≤ MOST_FRAMES)
  layer_there job n l at =
      let found = (kept_from (λ (k : LayerRow). eqb k.job job) f.layers n l at).0 in (
        layer_within l (list_all-at is_formed_layer f.layers found.0 l kept.jobs.layers_formed found.1),
        omega (arith, term_within (λ (k : LayerRow). length (range_numbers k.range)) (layers_of f.layers job) n l at, said_within _ (length f.shows) kept.jobs job),
      )

  layer_formed : (job n : ℕ) (l : LayerRow) → slice_get (layers_of f.layers job) n ≡ Some l → IsRowOf kind.Layer (layer_row f l)
  layer_formed job n l at =
      let own = layer_there job n l at in
      let few = slots_few l in (
        refl,
        record {
          layer_name = own.0.name;
          limit_name = limit_named_so f kept l.limit;
          range_text = own.0.range;
          cores_within = own.0.cores;
          memory_within = own.0.memory;
          counts = record {
            dead_within = omega (arith, among_few is_dead (slots_in f l), few, own.1);
            depend_within = omega (arith, among_few is_blocked (slots_in f l), few, own.1);
            eaten_within = omega (arith, among_few was_eaten (slots_in f l), few, own.1);
            running_within = omega (arith, among_few is_running (slots_in f l), few, own.1);
            succeeded_within = omega (arith, among_few has_succeeded (slots_in f l), few, own.1);
            waiting_within = omega (arith, among_few is_waiting (slots_in f l), few, own.1);
          };
        },
      )

  pub layers_formed : (job : ℕ) → AreRows kind.Layer (layer_rows f job)
  layers_formed job =
      record {
        each = mapped_each (IsRowOf kind.Layer) (layer_row f) (layers_of f.layers job) (layer_formed job);
        count =
            omega (
              arith,
              length-map (layers_of f.layers job) (layer_row f),
              filtered_few (λ (l : LayerRow). eqb l.job job) f.layers,
              rising_long layer_key 0 f.layers (MOST_LAYERS * f.next_job) kept.jobs.layers_rise,
              kept.jobs.next_within,
            );
      }

  -- ---- frames

  frame_formed : (layer : List ℕ) (i : ℕ) (s : SlotRow) → IsText layer → slice_get f.slots i ≡ Some s → IfSome (frame_row layer s) (IsRowOf kind.Frame)
  frame_formed layer i s text at = by s.frame refl
    where
      by : (o : Option Frame) → s.frame ≡ o → IfSome (option_map (λ (x : Frame). row.Frame (record { frame = frame_name x.number layer; retries = x.retries; state = x.state; version = s.version })) o) (IsRowOf kind.Frame)
      by None is = tt
      by (Some x) is = (refl, (frame_text x.number layer text, (frame_of_slot f kept i s x at is).retries, (slot_kept f kept i s at).0))

  -- a slot of the farm
  abbrev IsSlot : SlotRow → Type 0
  IsSlot s = (i : ℕ) × (slice_get f.slots i ≡ Some s)

  slot_found : (i : ℕ) (o : Option SlotRow) → slice_get f.slots i ≡ o → IfSome o IsSlot
  slot_found i None is = tt
  slot_found i (Some s) is = (i, is)

  slots_are : (l : LayerRow) → All IsSlot (slots_in f l)
  slots_are l = found_each IsSlot (slice_get f.slots) (layer_shape f.slots l).slots (λ n i at. slot_found i (slice_get f.slots i) refl)

  at_all : {X : Type 0} (P : X → Type 0) (xs : List X) (n : ℕ) (x : X) → All P xs → slice_get xs n ≡ Some x → P x
  at_all P [] n x all at = absurd (none-some x at)
  at_all P (y ∷ ys) zero x all at = subst P (same_Some y x at) (All-head P y ys all)
  at_all P (y ∷ ys) (suc n) x all at = at_all P ys n x (All-tail P y ys all) at

  frames_are : (job n : ℕ) (l : LayerRow) → slice_get (layers_of f.layers job) n ≡ Some l → All (IsRowOf kind.Frame) (frames_in f l)
  frames_are job n l at =
      found_each (IsRowOf kind.Frame) (frame_row l.name) (slots_in f l)
      (λ k s there. let slot = at_all IsSlot (slots_in f l) k s (slots_are l) there in frame_formed l.name slot.0 s (name_text l.name (layer_there job n l at).0.name) slot.1)

  pub frames_formed : (job : ℕ) → AreRows kind.Frame (frame_rows f job)
  frames_formed job =
      record {
        each = flat_each (IsRowOf kind.Frame) (frames_in f) (layers_of f.layers job) (frames_are job);
        count =
            omega (
              arith,
              flat_few (frames_in f) (λ (l : LayerRow). length (range_numbers l.range)) (layers_of f.layers job) (λ l. omega (arith, found_few (frame_row l.name) (slots_in f l), slots_few l)),
              said_within _ (length f.shows) kept.jobs job,
            );
      }

-- ---- depends

pub depends_formed : (f : Farm) → IsKeptFarm f → (job : ℕ) → AreRows kind.Depend (depend_rows f job)
depends_formed f kept job =
    record {
      each = mapped_each (IsRowOf kind.Depend) depend_row (filter (waits_by job) f.depends) depend_formed;
      count = omega (arith, length-map (filter (waits_by job) f.depends) depend_row, filtered_few (waits_by job) f.depends, kept.depends.count);
    }
  where
    depend_formed : (n : ℕ) (d : DependRow) → slice_get (filter (waits_by job) f.depends) n ≡ Some d → IsRowOf kind.Depend (depend_row d)
    depend_formed n d at =
        let found = (kept_from (waits_by job) f.depends n d at).0 in (
          refl,
          (
            rising_above depend_key 1 f.depends f.next_depend found.0 d kept.depends.rise found.1,
            omega (arith, rising_below_high depend_key 1 f.depends f.next_depend found.0 d kept.depends.rise found.1, kept.depends.next_within),
          ),
        )
