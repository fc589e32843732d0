-- Once all turns were carried out, nothing is left to do.
use Rattle.std.proofs.Common.{◌≡◌, ℕ, zero, suc, ◌⊎◌, inl, inr, Bool, true, false, ◌||◌, List, [], ◌∷◌, Option, Some, refl, sym, ap, subst, ◌∙◌}
use Rattle.std.specs.List.{slice_get}
use Rattle.std.proofs.lemmas.Bool.{false≢true, true≢false}
use Rattle.farm_types.specs.declared.entry.Entry.{Entry}
use Rattle.farm_types.specs.Farm.{Farm}
use Rattle.farm_types.specs.Run.{run_of}
use Rattle.farm_rows.specs.declared.row_key.RowKey.{RowKey}
use Rattle.farm_rows.specs.declared.row_key.RowKey.TheVariants as key
use Rattle.farm_rows.specs.Changes.{is_key}
use Rattle.farm_rows.proofs.MadeRows.{is_key-true}
use Rattle.booking_rule.specs.declared.desk.Desk.{Desk}
use Rattle.booking_rule.specs.declared.opening.Opening.{Opening}
use Rattle.booking_rule.specs.Link.{IsDone, burst_at, farm_before, farm_of, has, host_alloc, host_cores, host_memory, most_at, recorded_by, stand_at}
use Rattle.booking_rule.specs.Recorded.{Stand, free_at}
use Rattle.farm_stands.specs.declared.bounds.HostSize.{HostSize}
use Rattle.farm_stands.specs.declared.turn.Turn.{Turn}
use Rattle.farm_stands.specs.declared.turn.Turn.TheVariants as turn
use Rattle.farm_stands.specs.Turns.{AllTurned, Covers, Says, has_turn, is_done, turn_key, turn_of}

-- ---- a turn that the list has

pub record Named (ts : List Turn) (k : RowKey) : Type 0 where
  pub place : ℕ
  pub item : Turn
  pub at : slice_get ts place ≡ Some item
  pub is : turn_key item ≡ k

named_later : (t : Turn) (ts : List Turn) (k : RowKey) → Named ts k → Named (t ∷ ts) k
named_later t ts k n = record { place = suc n.place; item = n.item; at = n.at; is = n.is }

named_by : (t : Turn) (ts : List Turn) (k : RowKey) (b : Bool) → is_key (turn_key t) k ≡ b → (has_turn ts k ≡ true → Named ts k)
    → (b || has_turn ts k) ≡ true → Named (t ∷ ts) k
named_by t ts k true same later h = record { place = zero; item = t; at = refl; is = is_key-true (turn_key t) k same }
named_by t ts k false same later h = named_later t ts k (later h)

named : (ts : List Turn) (k : RowKey) → has_turn ts k ≡ true → Named ts k
named [] k h = absurd (false≢true h)
named (t ∷ ts) k h = named_by t ts k (is_key (turn_key t) k) refl (named ts k) h

-- ---- what both farms say is the same

said_back : (f : Farm) (t : Turn) → Says f t → turn_of f (turn_key t) ≡ Some t
said_back f (turn.Slot slot frame amount) said = λ i. Some (turn.Slot slot (sym said.0 i) (sym said.1 i))
said_back f (turn.Host host size) said = ap (λ (x : HostSize). Some (turn.Host host x)) (sym said)
said_back f (turn.Sub sub burst) said = ap (λ (x : ℕ). Some (turn.Sub sub x)) (sym said)
said_back f (turn.Limit limit most) said = ap (λ (x : ℕ). Some (turn.Limit limit x)) (sym said)

module _ (f g : Farm) (d : Desk) (ts : List Turn) (covers : Covers f g ts) (turned : AllTurned g d ts) where
  same_by : (k : RowKey) (n : Named ts k) → is_done d k ≡ false → (is_done d (turn_key n.item) ≡ true) ⊎ Says g n.item → turn_of g k ≡ turn_of f k
  same_by k n not_done (inl done) = absurd (true≢false (sym done ∙ (ap (is_done d) n.is ∙ not_done)))
  same_by k n not_done (inr said) =
      subst (λ (j : RowKey). turn_of g j ≡ turn_of f j) n.is
      (said_back g n.item said ∙ sym (said_back f n.item (covers.was n.place n.item n.at)))

  same : (k : RowKey) → is_done d k ≡ false → has_turn ts k ≡ true → turn_of g k ≡ turn_of f k
  same k not_done has = let n = named ts k has in same_by k n not_done (turned n.place n.item n.at)

-- ---- what a turn says

abbrev stand_in : Option Turn → Stand
stand_in (Some (turn.Slot slot frame amount)) =
    record {
      phase = frame.phase;
      version = frame.version;
      host = frame.host;
      cores = frame.cores;
      show = amount.show;
      limit = amount.limit;
      memory = amount.memory;
    }
stand_in other = free_at 0

abbrev size_in : Option Turn → HostSize
size_in (Some (turn.Host host size)) = size
size_in other = record { cores = 0; memory = 0; alloc = 0 }

abbrev burst_in : Option Turn → ℕ
burst_in (Some (turn.Sub sub burst)) = burst
burst_in other = 0

abbrev most_in : Option Turn → ℕ
most_in (Some (turn.Limit limit most)) = most
most_in other = 0

-- ---- nothing is left to do

done_by : {X : Type 0} (says : Farm → ℕ → X) (f g : Farm) (done : List ℕ) (n : ℕ) → (has n done ≡ false → says g n ≡ says f n)
    → recorded_by says f g done n ≡ says g n
done_by says f g done n stays = by (has n done) refl
  where
    by : (b : Bool) → has n done ≡ b → recorded_by says f g done n ≡ says g n
    by true is = rw is refl
    by false is = rw is (sym (stays is))

module _ (f g : Farm) (d : Desk) (ts : List Turn) (covers : Covers f g ts) (turned : AllTurned g d ts) where
  stays_by : {X : Type 0} (k : RowKey) (was now : X) → (has_turn ts k ≡ false → now ≡ was) → (turn_of g k ≡ turn_of f k → now ≡ was)
      → is_done d k ≡ false → now ≡ was
  stays_by k was now rest alike not_done = by (has_turn ts k) refl
    where
      by : (b : Bool) → has_turn ts k ≡ b → now ≡ was
      by true is = alike (same f g d ts covers turned k not_done is)
      by false is = rest is

  slot_stays : (n : ℕ) → has n d.slots ≡ false → stand_at g n ≡ stand_at f n
  slot_stays n = stays_by (key.Frame n) (stand_at f n) (stand_at g n) (covers.slot n) (λ same. ap stand_in same)

  cores_stay : (n : ℕ) → has n d.hosts ≡ false → host_cores g n ≡ host_cores f n
  cores_stay n = stays_by (key.Host n) (host_cores f n) (host_cores g n) (covers.cores n) (λ same. ap (λ (o : Option Turn). (size_in o).cores) same)

  memory_stays : (n : ℕ) → has n d.hosts ≡ false → host_memory g n ≡ host_memory f n
  memory_stays n = stays_by (key.Host n) (host_memory f n) (host_memory g n) (covers.memory n) (λ same. ap (λ (o : Option Turn). (size_in o).memory) same)

  alloc_stays : (n : ℕ) → has n d.hosts ≡ false → host_alloc g n ≡ host_alloc f n
  alloc_stays n = stays_by (key.Host n) (host_alloc f n) (host_alloc g n) (covers.alloc n) (λ same. ap (λ (o : Option Turn). (size_in o).alloc) same)

  burst_stays : (n : ℕ) → has n d.subs ≡ false → burst_at g n ≡ burst_at f n
  burst_stays n = stays_by (key.Sub n) (burst_at f n) (burst_at g n) (covers.burst n) (λ same. ap burst_in same)

  most_stays : (n : ℕ) → has n d.limits ≡ false → most_at g n ≡ most_at f n
  most_stays n = stays_by (key.Limit n) (most_at f n) (most_at g n) (covers.most n) (λ same. ap most_in same)

pub finished : (o : Opening) (log : List Entry) (d : Desk) (ts : List Turn) → Covers (farm_before o d.before) (run_of (farm_of o) log) ts
    → AllTurned (run_of (farm_of o) log) d ts → IsDone o log d
finished o log d ts covers turned =
    let f = farm_before o d.before in
    let g = run_of (farm_of o) log in
    record {
      slot = λ n. done_by stand_at f g d.slots n (slot_stays f g d ts covers turned n);
      cores = λ n. done_by host_cores f g d.hosts n (cores_stay f g d ts covers turned n);
      memory = λ n. done_by host_memory f g d.hosts n (memory_stays f g d ts covers turned n);
      alloc = λ n. done_by host_alloc f g d.hosts n (alloc_stays f g d ts covers turned n);
      burst = λ n. done_by burst_at f g d.subs n (burst_stays f g d ts covers turned n);
      most = λ n. done_by most_at f g d.limits n (most_stays f g d ts covers turned n);
    }
