-- Room of hosts: what is taken, and what is given back.
use Rattle.std.proofs.Common.{◌≡◌, ◌≢◌, ◌⊎◌, ℕ, zero, suc, ◌+◌, ◌-◌, ◌<◌, ◌≤◌, Bool, true, false, if◌then◌else◌, ◌==◌, ◌||◌, List, [], ◌∷◌, set, sym, refl, ap, subst, arith}
use Rattle.std.specs.Prelude.{Option}
use mathlib.Core.Option.{some}
use mathlib.Core.Logic.{dite}
use native.Mathlib.Decide.{ℕ_discrete}
use lib.ListN.{get_elem?}
use Rattle.std.proofs.lemmas.Bool.Decides.{nat_tests}
use Rattle.frame_words.specs.declared.host_word.HostWord.{HostWord}
use Rattle.booking_rule.specs.declared.view.View.{View}
use Rattle.booking_rule.specs.declared.hold.Take.{Take}
use Rattle.booking_rule.specs.declared.hold.Room.{Room}
use Rattle.booking_rule.specs.declared.hold.Claim.{Claim}
use Rattle.booking_rule.specs.Totals.{total}
use Rattle.booking_rule.specs.Words.{Words, put, with_host}
use Rattle.booking_rule.specs.Recorded.{Recorded}
use Rattle.booking_rule.specs.Views.{take_of, room_of, same_take, same_limit, same_room, same_claim, holds, without, limit_take, holds_limit, without_limit}
use Rattle.booking_rule.specs.Rule.{sum_of, cores_in, memory_in, on_limit, cores_of, memory_of, booked_of, granted_of, running_of, counted_of, is_at, claims_at, is_like, claims_like, Rule}
use Rattle.booking_rule.proofs.Moves.{same_self, same_not, put_here, put_else, view_moves, claims_view, HoldsTakes, HoldsLimits, granted_held, flight_held, limit_held, limit_flight_held}

-- ---- a list without one of its items

module _ {A : Type 0} where
  pub total_without : (same : A → A → Bool) (g : A → ℕ) (t : A) (us : List A) → ((u : A) → same t u ≡ true → t ≡ u) → holds same t us ≡ true
      → total g (without same t us) + g t ≡ total g us
  total_without same g t [] exact e = absurd cc
  total_without same g t (u ∷ us) exact e = go (total_without same g t us exact) (same t u) refl e
    where
      go : (holds same t us ≡ true → total g (without same t us) + g t ≡ total g us)
          → (b : Bool) → same t u ≡ b → (b || holds same t us) ≡ true → total g (if b then us else u ∷ without same t us) + g t ≡ g u + total g us
      go rest true is _ = let o : g t ≡ g u = ap g (exact u is) in omega arith
      go rest false is h = let r = rest h in omega arith

pub take_same : (t u : Take) → same_take t u ≡ true → t ≡ u
take_same t u is =
    let s : t.sub ≡ u.sub = grind (arith, nat_tests) in
    let c : t.cores ≡ u.cores = grind (arith, nat_tests) in
    λ i. take_of (s i) (c i)

pub limit_same : (n m : ℕ) → same_limit n m ≡ true → n ≡ m
limit_same n m is = grind (arith, nat_tests)

pub room_same : (t u : Room) → same_room t u ≡ true → t ≡ u
room_same t u is =
    let h : t.host ≡ u.host = grind (arith, nat_tests) in
    let c : t.cores ≡ u.cores = grind (arith, nat_tests) in
    let m : t.memory ≡ u.memory = grind (arith, nat_tests) in
    λ i. room_of (h i) (c i) (m i)

pub claim_same : (c d : Claim) → same_claim c d ≡ true → c ≡ d
claim_same c d is =
    let s : c.slot ≡ d.slot = grind (arith, nat_tests) in
    let v : c.version ≡ d.version = grind (arith, nat_tests) in
    let h : c.host ≡ d.host = grind (arith, nat_tests) in
    let b : c.sub ≡ d.sub = grind (arith, nat_tests) in
    let n : c.cores ≡ d.cores = grind (arith, nat_tests) in
    let l : c.limit ≡ d.limit = grind (arith, nat_tests) in
    let m : c.memory ≡ d.memory = grind (arith, nat_tests) in
    λ i. record { slot = s i; version = v i; host = h i; sub = b i; cores = n i; limit = l i; memory = m i }

-- ---- limits by what a word says of them

-- whether it is that limit
abbrev pub is_limit : ℕ → ℕ → ℕ
is_limit j code = if code == j + 1 then 1 else 0

pub limit_weighs : (j code : ℕ) → total (on_limit j) (limit_take code) ≡ is_limit j code
limit_weighs j zero = let e : (zero == j + 1) ≡ false = grind (arith, nat_tests) in sym (ap (λ (b : Bool). if b then 1 else 0) e)
limit_weighs j (suc n) =
    let e : (suc n == j + 1) ≡ (n == j) = grind (arith, nat_tests) in
    let f : is_limit j (suc n) ≡ on_limit j n = ap (λ (b : Bool). if b then 1 else 0) e in
    omega arith

pub limit_without : (j code : ℕ) (ns : List ℕ) → holds_limit code ns ≡ true → total (on_limit j) (without_limit code ns) + is_limit j code ≡ total (on_limit j) ns
limit_without j zero ns h = let w = limit_weighs j zero in omega arith
limit_without j (suc n) ns h =
    let w = limit_weighs j (suc n) in
    let t = total_without same_limit (on_limit j) n ns (limit_same n) h in
    omega arith

-- ---- a host's word and rooms

pub host_moves : (R : Recorded) (p : Option ℕ) (W : Words) (views : List View) (id : ℕ) (v w : View) (host : ℕ) (word : HostWord) → Rule R p W views → get_elem? views id ≡ some v → host < 4096
    → HoldsTakes v w → HoldsLimits v w → w.claims ≡ v.claims
    → word.cores + total (cores_in host) w.rooms ≡ (W.host host).cores + total (cores_in host) v.rooms
    → word.memory + total (memory_in host) w.rooms ≡ (W.host host).memory + total (memory_in host) v.rooms
    → ((h : ℕ) → h ≢ host → total (cores_in h) w.rooms ≡ total (cores_in h) v.rooms)
    → ((h : ℕ) → h ≢ host → total (memory_in h) w.rooms ≡ total (memory_in h) v.rooms)
    → Rule R p (with_host W host word) (set views id w)
host_moves R p W views id v w host word K at lt takes limits claims cores memory cores_else memory_else = record {
  shows = K.shows;
  pend = K.pend;
  claims = claims_view R.alloc p W.frame W.amount views id v w K.claims at claims;
  cores = λ h l. dite (ℕ_discrete h host)
      (λ e. let P : ℕ → Type 0 = λ x. (put W.host host word x).cores + sum_of (cores_of x) R W (set views id w) ≡ R.cores x in
      subst P (sym e) (let q : (put W.host host word host).cores ≡ word.cores = ap (λ (x : HostWord). x.cores) (put_here W.host host word) in
      let n = view_moves (cores_of host) R W views id v w at in let o = K.cores host lt in omega arith))
      (λ ne. let q : (put W.host host word h).cores ≡ (W.host h).cores = ap (λ (x : HostWord). x.cores) (put_else W.host host word h ne) in
      let n = view_moves (cores_of h) R W views id v w at in let o = K.cores h l in let a = cores_else h ne in omega arith);
  memory = λ h l. dite (ℕ_discrete h host)
      (λ e. let P : ℕ → Type 0 = λ x. (put W.host host word x).memory + sum_of (memory_of x) R W (set views id w) ≡ R.memory x in
      subst P (sym e) (let q : (put W.host host word host).memory ≡ word.memory = ap (λ (x : HostWord). x.memory) (put_here W.host host word) in
      let n = view_moves (memory_of host) R W views id v w at in let o = K.memory host lt in omega arith))
      (λ ne. let q : (put W.host host word h).memory ≡ (W.host h).memory = ap (λ (x : HostWord). x.memory) (put_else W.host host word h ne) in
      let n = view_moves (memory_of h) R W views id v w at in let o = K.memory h l in let a = memory_else h ne in omega arith);
  booked = λ j l. (let n = view_moves (booked_of R.alloc j) R W views id v w at in let o = K.booked j l in
      let s = granted_held v w j takes in let t = flight_held v w j takes in omega arith);
  burst = K.burst;
  within = λ j l. (let n = view_moves (granted_of R.alloc j) R W views id v w at in let o = K.within j l in let s = granted_held v w j takes in omega arith);
  running = λ j l. (let n = view_moves (running_of j) R W views id v w at in let o = K.running j l in
      let s = limit_held v w j limits in let t = limit_flight_held v w j limits in omega arith);
  most = K.most;
  few = λ j l. (let n = view_moves (counted_of j) R W views id v w at in let o = K.few j l in let s = limit_held v w j limits in omega arith);
}

cores_here : (host c m : ℕ) → cores_in host (room_of host c m) ≡ c
cores_here host c m = ap (λ (b : Bool). if b then c else 0) (same_self host)

memory_here : (host c m : ℕ) → memory_in host (room_of host c m) ≡ m
memory_here host c m = ap (λ (b : Bool). if b then m else 0) (same_self host)

cores_apart : (host h c m : ℕ) → h ≢ host → cores_in h (room_of host c m) ≡ 0
cores_apart host h c m ne = ap (λ (b : Bool). if b then c else 0) (same_not host h (λ e. ne (sym e)))

memory_apart : (host h c m : ℕ) → h ≢ host → memory_in h (room_of host c m) ≡ 0
memory_apart host h c m ne = ap (λ (b : Bool). if b then m else 0) (same_not host h (λ e. ne (sym e)))

-- room that is taken of a host
pub takes_room : (R : Recorded) (p : Option ℕ) (W : Words) (views : List View) (id : ℕ) (v w : View) (host c m : ℕ) → Rule R p W views → get_elem? views id ≡ some v → host < 4096
    → c ≤ (W.host host).cores → m ≤ (W.host host).memory
    → w.rooms ≡ room_of host c m ∷ v.rooms → HoldsTakes v w → HoldsLimits v w → w.claims ≡ v.claims
    → Rule R p (with_host W host (record { cores = (W.host host).cores - c; memory = (W.host host).memory - m })) (set views id w)
takes_room R p W views id v w host c m K at lt some_cores some_memory rooms takes limits claims =
    let r = room_of host c m in
    let all : (g : Room → ℕ) → total g w.rooms ≡ g r + total g v.rooms = λ g. ap (total g) rooms in
    host_moves R p W views id v w host _ K at lt takes limits claims
    (let a = all (cores_in host) in let b = cores_here host c m in omega arith)
    (let a = all (memory_in host) in let b = memory_here host c m in omega arith)
    (λ h ne. let a = all (cores_in h) in let b = cores_apart host h c m ne in omega arith)
    (λ h ne. let a = all (memory_in h) in let b = memory_apart host h c m ne in omega arith)

-- room that is given back
pub gives_room : (R : Recorded) (p : Option ℕ) (W : Words) (views : List View) (id : ℕ) (v w : View) (host c m : ℕ) → Rule R p W views → get_elem? views id ≡ some v → host < 4096
    → holds same_room (room_of host c m) v.rooms ≡ true
    → w.rooms ≡ without same_room (room_of host c m) v.rooms → HoldsTakes v w → HoldsLimits v w → w.claims ≡ v.claims
    → Rule R p (with_host W host (record { cores = (W.host host).cores + c; memory = (W.host host).memory + m })) (set views id w)
gives_room R p W views id v w host c m K at lt has rooms takes limits claims =
    let r = room_of host c m in
    let all : (g : Room → ℕ) → total g w.rooms + g r ≡ total g v.rooms = (λ g.
    let a : total g w.rooms ≡ total g (without same_room r v.rooms) = ap (total g) rooms in let b = total_without same_room g r v.rooms (room_same r) has in omega arith) in
    host_moves R p W views id v w host _ K at lt takes limits claims
    (let a = all (cores_in host) in let b = cores_here host c m in omega arith)
    (let a = all (memory_in host) in let b = memory_here host c m in omega arith)
    (λ h ne. let a = all (cores_in h) in let b = cores_apart host h c m ne in omega arith)
    (λ h ne. let a = all (memory_in h) in let b = memory_apart host h c m ne in omega arith)

-- ---- claims that are counted

pub at_here : (c : Claim) → is_at c.slot c.version c ≡ 1
at_here c = grind (arith, nat_tests)

pub at_else : (slot version : ℕ) (c : Claim) → (slot ≢ c.slot) ⊎ (version ≢ c.version) → is_at slot version c ≡ 0
at_else slot version c ne = grind (arith, nat_tests)

pub at_small : (slot version : ℕ) (c : Claim) → is_at slot version c ≤ 1
at_small slot version c = grind (arith, nat_tests)

pub like_here : (c : Claim) → is_like c c ≡ 1
like_here c = grind (arith, nat_tests)

pub like_le : (d c : Claim) → is_like d c ≤ is_at d.slot d.version c
like_le d c = grind (arith, nat_tests)

pub likes_le : (d : Claim) (views : List View) → total (claims_like d) views ≤ total (claims_at d.slot d.version) views
likes_le d [] = omega arith
likes_le d (v ∷ vs) = let r = likes_le d vs in let one = of_list v.claims in omega arith
  where
    of_list : (cs : List Claim) → total (is_like d) cs ≤ total (is_at d.slot d.version) cs
    of_list [] = omega arith
    of_list (c ∷ cs) = let r = of_list cs in let one = like_le d c in omega arith
