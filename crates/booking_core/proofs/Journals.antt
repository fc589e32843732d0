-- No claimant's step changes the recorder's journal.
use Rattle.std.proofs.Common.{◌≡◌, ℕ, Bool, true, false, if◌then◌else◌, List, [], ◌∷◌, ◌++◌, set, slice_index, sym, refl, ap, ◌∙◌, subst}
use Rattle.std.specs.Prelude.{Some, None}
use mathlib.Core.Option.{Option, some, some-injective}
use mathlib.Core.Logic.{dite}
use native.Mathlib.Decide.{ℕ_discrete}
use lib.ListN.{get_elem?}
use Rattle.atomic_table.proofs.Lists.{set_else, at_longer}
use Rattle.booking_rule.specs.declared.view.View.{View}
use Rattle.booking_rule.specs.declared.desk.Desk.{Desk}
use Rattle.booking_rule.specs.Words.{words_of}
use Rattle.booking_rule.specs.Splits.{one_split, desk_split, one_more, numbered, without_receipts, note_of, informed, blank, settled}
use Rattle.booking_rule.specs.Kept.{Holds}
use Rattle.booking_rule.proofs.Own.{set_here}
use Rattle.booking_rule.proofs.Settling.{settles_kept}
use Rattle.booking_core.specs.Kinds.{Kind}
use Rattle.booking_core.specs.Kinds.Kind.{loads, takes_burst, gives_burst, retracts_burst, takes_limit, gives_limit, retracts_limit, takes_host}
use Rattle.booking_core.specs.Kinds.Kind.{gives_host, claims, drops, settles, splits, notes, joins}
use Rattle.booking_core.specs.Machine.{Table, Move, word, told_by, RecordsNothing, Asks, acts, Runs}
use Rattle.booking_core.proofs.Keeps.{step_holds}

-- the seat's view is still there, and the recorder's has the same journal
abbrev IsStill : List View → ℕ → View → Type 0
IsStill views id v = (w : View) × (get_elem? views id ≡ some w) × RecordsNothing v w

-- the step's view has the same desk, opening farm and journal
alike : (v : View) → RecordsNothing v v
alike v d is = (d, is, refl, refl)

either : (v x y : View) (b : Bool) → RecordsNothing v x → RecordsNothing v y → RecordsNothing v (if b then x else y)
either v x y true first second = first
either v x y false first second = second

-- one view changes
still_set : (views : List View) (id : ℕ) (v w : View) → get_elem? views id ≡ some v → RecordsNothing v w
    → (j : ℕ) (x : View) → get_elem? views j ≡ some x → IsStill (set views id w) j x
still_set views id v w at same j x there = dite (ℕ_discrete j id)
    (λ e. let here : v ≡ x = some-injective v x (sym at ∙ ap (get_elem? views) (sym e) ∙ there) in
    (w, ap (get_elem? (set views id w)) e ∙ set_here views id v w at, subst (λ (y : View). RecordsNothing y w) here same))
    (λ ne. (x, set_else views id j w ne ∙ there, alike x))

-- and there is one more
still_more : (views : List View) (u : View) (j : ℕ) (x : View) → IsStill views j x → IsStill (views ++ u ∷ []) j x
still_more views u j x s = (s.0, at_longer views (u ∷ []) j s.0 s.1, s.2)

still_then : (views : List View) (id : ℕ) (u w : View) → get_elem? views id ≡ some u → RecordsNothing u w
    → (j : ℕ) (x : View) → IsStill views j x → IsStill (set views id w) j x
still_then views id u w at same j x s =
    let r = still_set views id u w at same j s.0 s.1 in
    (r.0, r.1, λ d is. (let p = s.2 d is in let q = r.2 p.0 p.1 in (q.0, q.1, q.2 ∙ p.2, q.3 ∙ p.3)))

no_desk : (v : View) (d : Desk) → v.desk ≡ None → v.desk ≡ Some d → ⊥
no_desk v d none is = off (sym none ∙ is)
  where
    off : None ≡ Some d → ⊥
    off e = cc

step_still : (s : Table) (id : ℕ) (v : View) (k : Kind) → Holds s → get_elem? s.views id ≡ some v → Asks s id v k
    → (j : ℕ) (x : View) → get_elem? s.views j ≡ some x → IsStill (acts s id v k).views j x
step_still s id v (loads i) h at asks = still_set s.views id v _ at (alike v)
step_still s id v (takes_burst sub cores) h at asks = still_set s.views id v _ at (either v _ _ _ (alike v) (alike v))
step_still s id v (gives_burst sub cores) h at asks = still_set s.views id v _ at (alike v)
step_still s id v (retracts_burst sub cores) h at asks = still_set s.views id v _ at (alike v)
step_still s id v (takes_limit limit) h at asks = still_set s.views id v _ at (either v _ _ _ (alike v) (alike v))
step_still s id v (gives_limit limit) h at asks = still_set s.views id v _ at (alike v)
step_still s id v (retracts_limit limit) h at asks = still_set s.views id v _ at (alike v)
step_still s id v (takes_host host cores memory expected) h at asks = still_set s.views id v _ at (either v _ _ _ (alike v) (alike v))
step_still s id v (gives_host host cores memory) h at asks = still_set s.views id v _ at (alike v)
step_still s id v (claims c) h at asks = still_set s.views id v _ at (either v _ _ _ (alike v) (alike v))
step_still s id v (drops c) h at asks = still_set s.views id v _ at (either v _ _ _ (alike v) (alike v))
step_still s id v settles h at asks =
    let k = settles_kept (slice_index s.words 0) (words_of s.words) s.views id v (word s 0) h.1 at in
    still_set s.views id v (settled v (word s 0)) at (λ d is. (d, is, refl, k.1.first d is))
step_still s id v splits h at asks = λ j x there.
    still_more (set s.views id (one_more v)) (numbered v) j x
    (still_set s.views id v (one_more v) at (λ d is. (one_split d, ap desk_split is, refl, refl)) j x there)
step_still s id v notes h at asks = λ j x there.
    still_more (set s.views id (without_receipts v)) (note_of v) j x
    (still_set s.views id v (without_receipts v) at (alike v) j x there)
step_still s id v (joins other) h at asks = λ j x there.
    let u = asks.0 in
    subst (λ (y : Option View). IsStill (set (set s.views id (told_by v y)) other blank) j x) (sym asks.1)
    (still_then (set s.views id (informed v u)) other u blank (set_else s.views id other (informed v u) asks.2 ∙ asks.1)
    (λ d is. absurd (no_desk u d asks.3.0 is)) j x
    (still_set s.views id v (informed v u) at (alike v) j x there))

pub steps_still : (ms : List Move) (s t : Table) → Holds s → Runs s ms t → (j : ℕ) (x : View) → get_elem? s.views j ≡ some x → IsStill t.views j x
steps_still [] s t h runs j x there = subst (λ (y : Table). IsStill y.views j x) runs (x, there, alike x)
steps_still (m ∷ ms) s t h runs j x there =
    let n = acts s m.0 runs.0 m.1 in
    let a = step_still s m.0 runs.0 m.1 h runs.1 runs.2 j x there in
    let r = steps_still ms n t (step_holds s m.0 runs.0 m.1 h runs.1 runs.2) runs.3 j a.0 a.1 in
    (r.0, r.1, λ d is. (let p = a.2 d is in let q = r.2 p.0 p.1 in (q.0, q.1, q.2 ∙ p.2, q.3 ∙ p.3)))
