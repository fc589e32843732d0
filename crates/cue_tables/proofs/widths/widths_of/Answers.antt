use Rattle.std.proofs.Common.{rules, arith, ap, sym, ◌≡◌, ◌<◌, ◌≤◌, ◌+◌, ◌∙◌, length, map, drop, get_or, [], List, ℕ}
use Rattle.std.proofs.lemmas.List.{drop_all, get_or_read, length-map}
use Rattle.cue_tables.specs.Tables.{wider, width_of, widths_of}
use Rattle.cue_tables.proofs.Steps.{length-wider, row_more, wider_none}
use Rattle.cue_tables.proofs.widths.widths_of.Goals as goal

pub loop-row-preserved : goal.loop-row-preserved
loop-row-preserved c =
    let rows = c.args.rows.now in
    let i = c.loop-row.row-index in
    let widths = c.loop-row.widths.items in
    let within : i < length rows = search (rules, arith) in
    let made : c.in_ok-widths-2.widths.items ≡ wider widths (map width_of (get_or rows i [])) =
    c.in_ok-widths-2.ensures ∙ ap (λ (those : List ℕ). wider those (map width_of c.as_slice-in-loop-row.result.now)) c.as_slice.ensures.value
    ∙ ap (λ (row : List (List ℕ)). wider widths (map width_of row)) (c.as_slice-in-loop-row.ensures ∙ get_or_read rows i _ within c.row-item.is []) in
    let fits : length (get_or rows i []) ≡ length c.args.head.now = search rules in
    record {
      gives = ap (λ (those : List ℕ). wider those (widths_of (drop (i + 1) rows))) made ∙ row_more widths rows i within ∙ c.loop-row.invariant.gives;
      long = ap length made ∙ length-wider widths _ (length-map (get_or rows i []) width_of ∙ fits ∙ sym c.loop-row.invariant.long) ∙ c.loop-row.invariant.long;
    }

pub returns-clause-gives : goal.returns-clause-gives
returns-clause-gives c =
    let rows = c.args.rows.now in
    let i = c.loop-row.row-index in
    let none : length rows ≤ i = search (rules, arith) in
    sym (ap (λ (left : List (List (List ℕ))). wider c.loop-row.widths.items (widths_of left)) (drop_all i rows none) ∙ wider_none c.loop-row.widths.items)
    ∙ c.loop-row.invariant.gives
