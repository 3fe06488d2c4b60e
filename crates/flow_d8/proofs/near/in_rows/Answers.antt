use Rattle.flow_d8.proofs.Prelude.{East, None, North, NorthEast, NorthWest, SFits, South, SouthEast, SouthWest, West, ℤ, ap, cond-true, of_z, rules, slice_index_or, sym, to_z, to_z-of_z, void, w16, ◌∙◌, ◌≡◌}
use Rattle.flow_d8.proofs.Steps.ThreeRows.{rows_shown, beside_read}
use Rattle.flow_d8.proofs.near.in_rows.Goals as goal

read : (v : ℤ) → SFits w16 v → to_z w16 (of_z w16 v) ≡ v
read v fits = to_z-of_z w16 v fits

pub returns : goal.returns
returns c t level p solid here around =
    rows_shown t level p _ _ _ _ _ _ _ _ _
    (read c.args.near.now.height (search rules) ∙ sym here ∙ sym (cond-true (t.is_ground p) (level p) void solid))
    (read c.level_or_void.result (record { sfits = c.level_or_void.type_inv }) ∙ beside_read t level p NorthWest _ c.level_or_void.result (ap (λ os. slice_index_or os 5 None) around) c.level_or_void.ensures)
    (read c.level_or_void-2.result (record { sfits = c.level_or_void-2.type_inv }) ∙ beside_read t level p North _ c.level_or_void-2.result (ap (λ os. slice_index_or os 6 None) around) c.level_or_void-2.ensures)
    (read c.level_or_void-3.result (record { sfits = c.level_or_void-3.type_inv }) ∙ beside_read t level p NorthEast _ c.level_or_void-3.result (ap (λ os. slice_index_or os 7 None) around) c.level_or_void-3.ensures)
    (read c.level_or_void-4.result (record { sfits = c.level_or_void-4.type_inv }) ∙ beside_read t level p West _ c.level_or_void-4.result (ap (λ os. slice_index_or os 4 None) around) c.level_or_void-4.ensures)
    (read c.level_or_void-5.result (record { sfits = c.level_or_void-5.type_inv }) ∙ beside_read t level p East _ c.level_or_void-5.result (ap (λ os. slice_index_or os 0 None) around) c.level_or_void-5.ensures)
    (read c.level_or_void-6.result (record { sfits = c.level_or_void-6.type_inv }) ∙ beside_read t level p SouthWest _ c.level_or_void-6.result (ap (λ os. slice_index_or os 3 None) around) c.level_or_void-6.ensures)
    (read c.level_or_void-7.result (record { sfits = c.level_or_void-7.type_inv }) ∙ beside_read t level p South _ c.level_or_void-7.result (ap (λ os. slice_index_or os 2 None) around) c.level_or_void-7.ensures)
    (read c.level_or_void-8.result (record { sfits = c.level_or_void-8.type_inv }) ∙ beside_read t level p SouthEast _ c.level_or_void-8.result (ap (λ os. slice_index_or os 1 None) around) c.level_or_void-8.ensures)
