use Rattle.std.proofs.Common.{rules, ◌≡◌, ◌-◌, ℕ, List, length, refl, ap, ap₂, ◌∙◌, subst}
use Rattle.std.specs.Prelude.{Ok}
use Rattle.std.proofs.lemmas.List.{length-map}
use Rattle.lattice.specs.Corners.{Corner}
use Rattle.catalogue.specs.Tiles.{corners_of}
use Rattle.engine.specs.Engines.{IsCall}
use Rattle.engine.specs.Outcomes.{info_of}
use Rattle.engine.specs.declared.info.Info.{Info}
use Rattle.engine.specs.declared.event.Event.TheVariants as ask
use Rattle.engine.specs.declared.event.Reply.TheVariants as reply
use Rattle.engine.proofs.Infos.{same_info}
use Rattle.engine.proofs.Questions.{info_asked}
use Rattle.table_engine.specs.TableState.{TableState, stale_among, table}
use Rattle.table_engine.proofs.TableCalls.{old, stays, told_so}
use Rattle.table_engine.proofs.table_engine.TableEngineEngine.info.Goals as goal

pub returns : goal.returns
returns c =
    let e = c.self.inside in
    let held = old e.table e.capacity e.fresh.items e.count e.number in
    let info : Info = record { side = c.samples.result; capacity = e.capacity; version = 2; count = e.count; commits = e.number; fresh = c.saturating_sub.result; stale = c.count_stale-stale.result } in
    let corners = c.in_ok-corners.ensures.corners in
    let side : c.samples.result ≡ held.contents.mosaic.side = search rules in
    let stale : c.count_stale-stale.result ≡ length held.contents.stale =
    c.count_stale-stale.ensures ∙ ap (λ (l : List Corner). length l) (ap₂ stale_among (c.deref.ensures.value ∙ corners) c.deref-2.ensures.value) in
    let counted : c.len.result ≡ length c.in_ok-corners.corners.items = search rules in
    let tiles : c.len.result ≡ length e.table.tiles = counted ∙ ap (λ (l : List Corner). length l) corners ∙ length-map e.table.tiles (λ t. t.corner) in
    let fresh : c.saturating_sub.result ≡ length e.table.tiles - length held.contents.stale = c.saturating_sub.ensures ∙ ap₂ (λ (a b : ℕ). a - b) tiles stale in
    subst (λ (s : TableState). IsCall table s ask.Info (reply.Info info) s) c.self.view_is
    (told_so held info_asked (Ok info) tt (stays held, same_info info (info_of held.capacity held.contents) side refl refl refl refl fresh stale))
