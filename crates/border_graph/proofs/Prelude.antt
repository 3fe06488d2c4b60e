-- Re-exports the names that many proofs of this crate use. Declares nothing.
pub use Rattle.border_graph.specs.Bottleneck.{AreRaised, HasLevel, IsEnd, IsSearching, IsSettledBy}
pub use Rattle.border_graph.specs.Edges.{AreAllEdges, AreEdges, IsReachedBelow}
pub use Rattle.border_graph.specs.Forest.{IsForestSoFar, IsRisingBy}
pub use Rattle.border_graph.specs.Frontier.{IsNext, NoneLeft, is_among}
pub use Rattle.border_graph.specs.Heaps.{IsAdded, IsTaken}
pub use Rattle.border_graph.specs.Joining.{AreOfMosaic, AreSummaries, IsInnerLink, IsLabelLink, IsLink, IsOutletLink, IsRimNumberOf, IsSharedLink, IsSpillLink, IsSummaryOf, IsThere, Node, Outlet, Rim, Summarizes, nowhere, rim_point, summary_at}
pub use Rattle.border_graph.specs.Linking.{node_number}
pub use Rattle.border_graph.specs.Links.{IsJoinedLevel, IsWayBelow}
pub use Rattle.border_graph.specs.MosaicGraph.{AreReordered, AreRimsAt, IsCutOff, IsFound, IsGraphOf, IsLevelAt, IsRimAt, MosaicGraph, graph_of}
pub use Rattle.border_graph.specs.Others.{AddsOthers, AreApart, AreTileEdges, IsToOther, corner_at}
pub use Rattle.border_graph.specs.Passes.{AreJoined, IsPass, SpanAll}
pub use Rattle.border_graph.specs.Placed.{IsPlacedLink}
pub use Rattle.border_graph.specs.Reduced.{ArePassesOf, IsCrossing, IsLabelOf, Suffice, spill_of}
pub use Rattle.border_graph.specs.Reordered.{IsReordered}
pub use Rattle.border_graph.specs.Rows.{turned}
pub use Rattle.border_graph.specs.Sharing.{AreInOrder}
pub use Rattle.border_graph.specs.Summaries.{Summary}
pub use Rattle.border_graph.specs.TileGraph.{AreEdgesAcross, AreEdgesOut, AreListed, TileGraph, across, out_at}
pub use Rattle.border_graph.specs.UnionFind.{AreOver, IsFalling, roots}
pub use Rattle.border_graph.specs.declared.bottleneck.Settled.{Settled}
pub use Rattle.border_graph.specs.declared.edge_source.Edge.{Edge}
pub use Rattle.border_graph.specs.declared.frontier.Entry.{Entry}
pub use Rattle.border_graph.specs.declared.pass.Pass.{Pass}
pub use Rattle.border_graph.specs.declared.summary.RimPoint.{RimPoint}
pub use Rattle.labelling.proofs.Heights.{lowest_height, rim_number_below}
pub use Rattle.labelling.proofs.Passages.{not_void}
pub use Rattle.labelling.proofs.Squares.{linked_parts, row_of_cell, solid_below, solid_if}
pub use Rattle.labelling.specs.Blocks.{bare_block, block_of}
pub use Rattle.labelling.specs.Labelling.{OUT}
pub use Rattle.labelling.specs.declared.spill.Spill.{Spill}
pub use Rattle.lattice.proofs.IntTests.{eq_or_not}
pub use Rattle.lattice.proofs.Interior.{inner_only}
pub use Rattle.lattice.proofs.Lawful.{block_is_lawful}
pub use Rattle.lattice.proofs.Levels.{height-le_level, le-max_left, le-max_right, level_of_outlet, max-le, ≤ℤ_antisym, ≤ℤ_same, ≤ℤ_trans}
pub use Rattle.lattice.proofs.RimNumbers.{one_rim_point, rim_point_of}
pub use Rattle.lattice.proofs.Rising.{one_index, rising_from}
pub use Rattle.lattice.proofs.Samples.{held_at, index_below, index_unique}
pub use Rattle.lattice.specs.Block.{block_terrain, is_inner_outlet, is_linked, is_rim, is_solid, rim_number}
pub use Rattle.lattice.specs.Corners.{Corner, is_corner}
pub use Rattle.lattice.specs.Ground.{is_ground, is_outlet, metres, terrain}
pub use Rattle.lattice.specs.Height.{height_of}
pub use Rattle.lattice.specs.Lattice.{IsIndexOf, point_of}
pub use Rattle.lattice.specs.Mosaic.{IsMosaic, Mosaic, void}
pub use Rattle.lattice.specs.Terrain.{IsFilledLevel, IsPath, LeadsOut, crest, end_of}
pub use Rattle.lattice.specs.declared.point.Point.{Point}
pub use Rattle.lattice.specs.declared.refusal.Refusal.TheVariants.{Damaged, NoMemory}
pub use Rattle.std.proofs.Common.{All, Bool, Contains, Equal, Global, Greater, IfNone, IfSome, IsFalse, IsTrue, Less, List, SFits, Vec, [], ap, ap₂, arith, cond, false, get_or, get_or-set_other, get_or-set_same, heap_items, inl, inr, int_lt, leb, length, length-append, length-set, ltb, map, not, of_z, pos, refl, rules, set, slice_index, slice_index_or, subst, suc, sym, take, take_all, to_z, to_z-of_z, true, true≢false, w16, zero, ℕ, ℤ, ◌&&◌, ◌*◌, ◌++◌, ◌+◌, ◌-◌, ◌/◌, ◌<◌, ◌==◌, ◌^◌, ◌↔◌, ◌∙◌, ◌∷◌, ◌≡◌, ◌≢◌, ◌≤ℤ◌, ◌≤◌, ◌⊎◌}
pub use Rattle.std.proofs.Math.ListN.{get_or-map}
pub use Rattle.std.proofs.lemmas.Bool.{and_parts, cases_Bool, cases_eq, cases_lt, or_cases}
pub use Rattle.std.proofs.lemmas.Bool.Decides.{eqb_tells}
pub use Rattle.std.proofs.lemmas.Int.{ints}
pub use Rattle.std.proofs.lemmas.List.{get_or_default, get_or_past, length-map}
pub use Rattle.std.proofs.lemmas.List.Elements.{All-contains, Contains-append_left, Contains-append_right, Contains-get_or, Contains-push, Contains-push_cases}
pub use Rattle.std.proofs.lemmas.List.Folds.{list_any_at}
pub use Rattle.std.proofs.lemmas.List.Sorted.{Contains-permutation, IsNonDecreasingBy-from_sort_by_key, IsPermutation-sym}
pub use Rattle.std.proofs.lemmas.Result.{err_from_is_err_and}
pub use Rattle.std.specs.Int.{int_max}
pub use Rattle.std.specs.List.{list_any}
pub use Rattle.std.specs.Ordering.{int_cmp, is_lt, nat_cmp, ordering_then}
