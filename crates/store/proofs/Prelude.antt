-- Names that many proofs of this crate cite, re-exported here. Declares nothing.
pub use Rattle.catalogue.specs.Endings.{ends_any}
pub use Rattle.catalogue.specs.Reading.{MayRefuse}
pub use Rattle.cow_tree.proofs.ReadOnly.{never_refused}
pub use Rattle.cow_tree.proofs.Steps.{on_ok}
pub use Rattle.cow_tree.proofs.TreeReads.{same_mosaic}
pub use Rattle.cow_tree.proofs.Uncommitted.{in_memory, no_call_yet, not_called, refused_as, uncommitted_on}
pub use Rattle.cow_tree.specs.Reading.{HasOnlyRead, mosaic_of}
pub use Rattle.cow_tree.specs.Stored.{StoredTile}
pub use Rattle.cow_tree.specs.Trees.{corners_of, disk_of, has_failed, root_of, sinks_of, staged_in}
pub use Rattle.cow_tree.specs.Uncommitted.{CommitsNothing}
pub use Rattle.cow_tree.specs.declared.tree.Tree.{Tree}
pub use Rattle.derived.specs.Kept.{stale_in}
pub use Rattle.disk.specs.Disk.{HasRisen, Image}
pub use Rattle.disk.specs.declared.disk.Disk.{Ghosts}
pub use Rattle.drainage.specs.Between.{IsHeldOf}
pub use Rattle.drainage.specs.declared.drainage_cache.DrainageCache.{DrainageCache}
pub use Rattle.edits.specs.Effect.{effect}
pub use Rattle.edits.specs.Plans.{is_own}
pub use Rattle.edits.specs.Touched.{goes_stale}
pub use Rattle.edits.specs.declared.command.Command.{Command}
pub use Rattle.edits.specs.declared.edit.Edit.{Edit}
pub use Rattle.engine.proofs.Questions.{IsQuestion, device_or_not}
pub use Rattle.engine.specs.Engines.{Calls, IsCall, answered, items_in}
pub use Rattle.engine.specs.Events.{Happens}
pub use Rattle.engine.specs.Outcomes.{AppliesNot, StaysFailed}
pub use Rattle.engine.specs.Runs.{last_of}
pub use Rattle.engine.specs.State.{Contents, State, failing, made_by, working}
pub use Rattle.engine.specs.Steps.{StepsNot, Upgrades, UpgradesNot}
pub use Rattle.engine.specs.Told.{WritesFew}
pub use Rattle.engine.specs.declared.event.Event.{Event}
pub use Rattle.engine.specs.declared.event.Reply.{Reply}
pub use Rattle.engine.specs.declared.info.Info.{Info}
pub use Rattle.lattice.specs.Corners.{Corner, is_corner}
pub use Rattle.lattice.specs.Ground.{terrain}
pub use Rattle.lattice.specs.Height.{height_of}
pub use Rattle.lattice.specs.Mosaic.{IsMosaic, Mosaic}
pub use Rattle.lattice.specs.declared.point.Point.{Point}
pub use Rattle.lattice.specs.declared.refusal.Refusal.{Refusal}
pub use Rattle.lattice.specs.declared.refusal.Refusal.TheVariants.{Device, Failed, NoMemory, NoTile, NotOld, Outside, TooSmall, Void, Worn}
pub use Rattle.page_codec.specs.Entries.{EntryValue}
pub use Rattle.page_codec.specs.Formats.{number_of}
pub use Rattle.page_codec.specs.Roots.{IsRoot, RootValue}
pub use Rattle.page_codec.specs.declared.version.Version.{Version}
pub use Rattle.page_codec.specs.declared.version.Version.TheVariants.{One, Two}
pub use Rattle.page_map.proofs.Lookup.{tile_at_corner}
pub use Rattle.std.proofs.Common.{All, Bool, Contains, Err, IfErr, IfOk, IfSome, IsErrAnd, IsErrOf, IsTrue, List, None, Ok, OnErr, OnOk, Option, Result, Some, [], ap, ap₂, arith, false, if◌then◌else◌, inl, inr, length, map, nat_eq, refl, rules, subst, sym, take, take_all, true, true≢false, vec_capacity, vec_len, ℕ, ℤ, ⊎_elim, ◌*◌, ◌++◌, ◌+◌, ◌-◌, ◌<◌, ◌∙◌, ◌∷◌, ◌≡◌, ◌≢◌, ◌≤◌, ◌⊎◌}
pub use Rattle.std.proofs.lemmas.Bool.{both_ways}
pub use Rattle.std.proofs.lemmas.List.{length-append, length-map}
pub use Rattle.std.proofs.lemmas.List.Elements.{Contains-push_cases}
pub use Rattle.std.proofs.lemmas.Result.{IfErr-weaker, IfOk-weaker}
pub use Rattle.std.specs.Global.{Vec}
pub use Rattle.std.specs.Option.{is_none}
pub use Rattle.store.specs.Accepted.{ComesBy, IsMadeOf, Since, doubted_too, none_asked}
pub use Rattle.store.specs.Calls.{Runs}
pub use Rattle.store.specs.Sessions.{Asked, MakesCallsOf}
pub use Rattle.store.specs.StoreRuns.{allowed, nothing_done}
pub use Rattle.store.specs.StoreState.{LeavesStates, StandsForOne, members}
pub use Rattle.store.specs.Stores.{IsAt, capacity_of}
pub use Rattle.store.specs.Water.{IsHolding}
pub use Rattle.store.specs.declared.store.Store.{Store}
pub use Rattle.stored_mosaic.specs.Ended.{IsApplied, known_by}
pub use Rattle.stored_mosaic.specs.Labelling.{IsSure}
pub use Rattle.stored_mosaic.specs.PagesMet.{named_by, page_writes, pages_with}
pub use Rattle.stored_mosaic.specs.Queried.{CountsSeams, IsQueried}
pub use Rattle.stored_mosaic.specs.Staling.{staled}
pub use Rattle.stored_mosaic.specs.Standing.{StandsFor}
pub use Rattle.stored_mosaic.specs.States.{StandsForState}
pub use Rattle.stored_mosaic.specs.TreeStates.{IsInState}
pub use Rattle.stored_mosaic.specs.Upgraded.{IsUpgraded, has_room, upgrade_ending}
pub use Rattle.tile_labellings.specs.Labellings.{IsFlooded}
pub use Rattle.water.specs.Questions.{IsAnswered}
