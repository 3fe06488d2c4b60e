use Rattle.store.proofs.Prelude.{Corner, EntryValue, Info, List, RootValue, ℕ, ap, ap₂, corners_of, length, length-map, root_of, stale_in, sym, ◌-◌, ◌∙◌, ◌≡◌}
use Rattle.engine.proofs.Questions.{info_asked}
use Rattle.stored_mosaic.proofs.Reading.InMemory.{info_is}
use Rattle.stored_mosaic.proofs.Reading.Querying.{stays_at}
use Rattle.store.proofs.Calls.StoreCalls.{told_it}
use Rattle.store.proofs.store.Store.info.Goals as goal

pub returns : goal.returns
returns g c =
    let d = g.D.Disk in
    let store = c.args.self.now in
    let root = root_of store.tree in
    let works = c.in_ok-check_working.ensures.works in
    let listed = c.entries-tiles.ensures.value ∙ ap (λ (r : RootValue). r.entries) c.current.ensures in
    let counted : length c.entries-tiles.result.now ≡ length (corners_of store.tree) =
    ap (λ (l : List EntryValue). length l) listed ∙ sym (length-map root.entries (λ e. e.corner)) ∙ ap (λ (l : List Corner). length l) (sym (store.clean works).corners) in
    let fresh : c.saturating_sub.result ≡ length (corners_of store.tree) - length (stale_in root) = c.saturating_sub.ensures ∙ ap₂ (λ (a b : ℕ). a - b) counted c.stale_count-stale.ensures in
    let info : Info = record { side = c.side.result; capacity = c.capacity.result; version = c.version.result; count = c.count.result; commits = c.commits.result; fresh = c.saturating_sub.result; stale = c.stale_count-stale.result } in
    told_it d g.met.D.Disk.only_now store info_asked works info
    (λ honest s at. (
      stays_at d store.tree works s at.in_state,
      info_is d store.tree works s at.in_state info c.side.ensures c.capacity.ensures c.version.ensures.value c.count.ensures.value c.commits.ensures.value fresh c.stale_count-stale.ensures,
    ))
