-- What a keeper over a file holds.
use Rattle.std.proofs.Common.{◌≡◌, inl, inr, sym, ap, subst, ◌∙◌}
use Rattle.std.specs.Prelude.{[]}
use Rattle.std.specs.FinMap.{empty}
use Rattle.sqlite_wal.specs.Recovery.{Image}
use Rattle.sqlite_trees.specs.Tree.{Trees}
use Rattle.sqlite_catalog.specs.Listing.{IsSound}
use Rattle.sqlite.specs.Effect.{Database}
use Rattle.sqlite.specs.Files.{HoldsDatabase}
use Rattle.sqlite.specs.Start.{FindsIn}
use Rattle.sqlite.specs.State.{State, HasCleanDisk, IsLive, Opens}
use Rattle.farm_keeper.specs.Rows.{Rows}
use Rattle.keeper_sqlite.specs.Told.{IsFound, IsOver, told, told_in}
use Rattle.store_file.specs.Kept.{HasKeptFile, IsToldBy}

told_by : (image : Image) (s : State) → Opens s → IsLive s → FindsIn image s → (rows : Rows) → IsFound s rows → (db : Trees) → HoldsDatabase image db → IsToldBy db rows
told_by image s opens live finds rows found db held =
    let trees : s.now.trees ≡ db = ap (λ (d : Database). d.trees) opens.clean ∙ finds.holds db held in
    let sound : IsSound s.now.schema db = subst (IsSound s.now.schema) trees (live opens.is_open).0 in
    record {
      schema = s.now.schema;
      sound = sound;
      are = elim found [ inl none ↦ inl none | inr there ↦ inr (there.0, there.1 ∙ ap (λ (t : Trees). told (t 0)) trees) ];
    }

pub kept_file : (image : Image) (old new : State) → (HasCleanDisk old → Opens old × IsLive old) → (HasCleanDisk old → FindsIn image old) → IsOver old new → HasCleanDisk new → HasKeptFile image new
kept_file image old new opened finds over clean =
    let before = over.told_before clean in
    let k = over.kept clean in
    let o = opened before in
    (k.0, told_by image old o.0 o.1 (finds before) k.0 k.1, k.2)
