-- What a stop leaves of a connection: something always, and the rows that it holds alone. Both are said of a store's parts.
use Rattle.std.proofs.Common.{◌≡◌, ℕ, List, [], Bool, true, false, Option, None, Some, refl, sym, ap, ◌∙◌, true≢false}
use Rattle.std.proofs.Math.Logic.{∥∥₁_map}
use Rattle.std.specs.Cmp.{IsTotalOrder, nat_cmp_total}
use Rattle.std.specs.FinMap.{empty, get, get-empty, get-insert, insert}
use Rattle.std.proofs.lemmas.Cmp.{on_total, then_total}
use Rattle.sqlite_trees.specs.Tree.{Trees}
use Rattle.sqlite_trees.specs.View.{doubt}
use Rattle.sqlite.specs.State.{State}
use Rattle.sqlite.specs.Effect.{Database}
use Rattle.farm_keeper.specs.Keeping.{LeavesSome}
use Rattle.farm_keeper.specs.Rows.{Key, Rows, key_cmp}
use Rattle.keeper_sqlite.specs.Told.{HasTable, told, told_in}

key_total : IsTotalOrder key_cmp
key_total = then_total (on_total (λ (k : Key). k.0) nat_cmp_total) (on_total (λ (k : Key). k.1) nat_cmp_total)

-- `Leaves` of a connection over such a store
abbrev pub LeavesOf : Bool → (Trees → Type 0) → Rows → Type 0
LeavesOf is_clean may_leave rows = (doubt is_clean ≡ 0) × (db : Trees) × may_leave db × (rows ≡ told (db 0))

pub leaves_some : (is_clean : Bool) (may_leave : Trees → Type 0) → doubt is_clean ≡ 0 → ∥ ((db : Trees) × may_leave db) ∥₁ → LeavesSome (LeavesOf is_clean may_leave)
leaves_some is_clean may_leave clean some = ∥∥₁_map some (λ l. (told (l.0 0), (clean, l.0, l.1, refl)))

apart : ◌≡◌ {A = Rows} empty (insert empty (0, 0) []) → ⊥
apart same =
    let e : ◌≡◌ {A = Option (List ℕ)} None (Some []) =
    sym (get-empty key_cmp (0, 0)) ∙ ap (λ (m : Rows). get m (0, 0)) same ∙ get-insert key_total empty (0, 0) [] (0, 0) in
    cc

-- what a connection holds is what it committed last
pub held_is : (s : State) (rows : Rows) → HasTable s × (told_in s ≡ rows) × (s.now ≡ s.committed) → rows ≡ told (s.committed.trees 0)
held_is s rows was = sym was.1 ∙ ap (λ (d : Database). told (d.trees 0)) was.2

pub never_open : {A : Type 0} (is_open : Bool) → is_open ≡ false → is_open ≡ true → A
never_open is_open shut opened = absurd (true≢false (sym opened ∙ shut))

-- A connection that is shut holds all rows, so none alone.
pub leaves_held : (is_open is_clean : Bool) (committed : Trees) (may_leave : Trees → Type 0) (rows : Rows) → doubt is_clean ≡ 0 → (is_open ≡ true → may_leave committed)
    → (is_open ≡ true → rows ≡ told (committed 0)) → (is_open ≡ false → (other : Rows) → other ≡ rows) → LeavesOf is_clean may_leave rows
leaves_held true is_clean committed may_leave rows clean stays opened shut = (clean, committed, stays refl, opened refl)
leaves_held false is_clean committed may_leave rows clean stays opened shut = absurd (apart (shut refl empty ∙ sym (shut refl (insert empty (0, 0) []))))
