-- What a disk stores after it was formatted or opened.
use Rattle.std.proofs.Common.{rules}
use Rattle.cow_tree.proofs.Prelude.{A, All-nil, AreStaged, Format, Ghosts, IsClean, IsEntry, IsPageMap, IsReady, IsRefusedFor, KeepsPageRule, PageMapValue, Refusal, TileLocation, Tree, entry_of, false≢true, ready_current, sectors_asked}
use Rattle.std.proofs.Common.{zero, suc, ◌∷◌, lit<, ◌≡◌, ◌⊎◌, inl, inr, ⊎_elim, ℕ, ◌<◌, ◌≤◌, Ok, Err, List, [], All, map, refl, sym, ap, ◌∙◌, subst, arith}
use Rattle.disk.specs.Disk.{Image, Only}
use Rattle.lattice.specs.declared.refusal.Refusal.TheVariants as refusal
use Rattle.page_codec.specs.Roots.{RootValue, format_of, AreNumbers, empty_root, root_bytes}
use Rattle.roots.specs.Opening.{OpensAs, StoresOpen}
use Rattle.roots.specs.Slots.{is_open, IsCurrent}
use Rattle.cow_tree.specs.Layout.{stored_in, tile_in, HasRecords, IsLaidOut, StoresAt, Stands, NoTilesStand}
use Rattle.cow_tree.specs.Stored.{Stored, no_tiles}
use Rattle.lattice.specs.Mosaic.{IsHeld}
use Rattle.roots.proofs.OneAnswer.{one_is_current, stores_open, only_root}
use Rattle.cow_tree.specs.Trees.{IsAt, staged_in, MayRefuse}
use Rattle.cow_tree.proofs.Commits.{nothing_staged}
use Rattle.cow_tree.proofs.Steps.{stores_along}

pub formatted_stands : (n : ℕ) (format : Format) (root : RootValue) (seen image : Image) → root ≡ empty_root format → IsCurrent root seen → image ≡ seen → sectors_asked format ≤ n → Stands n image (no_tiles format)
formatted_stands n format root seen image is_root current same room = search rules

-- the tiles of a page map that was read from an image
pub opened_stores : (n : ℕ) (root : RootValue) (page_map : PageMapValue) (image : Image) → IsCurrent root image → IsPageMap page_map → page_map.sectors ≡ n → page_map.format ≡ format_of root → map entry_of page_map.committed ≡ root.entries → All (HasRecords (format_of root) image) page_map.committed
    → StoresAt n root page_map.committed (stored_in image root page_map.committed) image
opened_stores n root page_map image current rules sectors format entries records = record {
  laid_out = record {
    store = (current, subst (λ (k : ℕ). sectors_asked (format_of root) ≤ k) sectors (subst (λ (f : Format). sectors_asked f ≤ page_map.sectors) format rules.size));
    entries = entries;
    records = records;
    page_rule = subst (λ (k : ℕ). KeepsPageRule k page_map.committed) sectors rules.committed.page_rule;
  };
  stands = refl;
}

pub clean_staged : (n : ℕ) (root : RootValue) (page_map : PageMapValue) (image : Image) → IsClean page_map → StoresAt n root page_map.committed (stored_in image root page_map.committed) image → AreStaged (format_of root) page_map.committed page_map.staged image
clean_staged n root page_map image clean stores = search rules

-- A tree just read from the image stores what the image stores.
pub opened : {D : Type 0} (g : Ghosts D) (tree : Tree D g) (n : ℕ) (image : Image) → IsReady g tree.roots → g.size tree.roots.disk ≡ n → g.seen tree.roots.disk ≡ image → Only image (g.may tree.roots.disk)
    → g.may tree.roots.disk (g.seen tree.roots.disk) → IsPageMap tree.page_map → IsClean tree.page_map → All (HasRecords (format_of tree.roots.root) image) tree.page_map.committed
    → (s : Stored) × (Stands n image s × (IsAt g tree s × (staged_in g tree ≡ s.tiles)))
opened g tree n image ready size seen only here rules clean records =
    let current : IsCurrent tree.roots.root image = subst (λ (i : Image). IsCurrent tree.roots.root i) seen (ready_current g tree.roots (g.seen tree.roots.disk) ready here) in
    let s : Stored = stored_in image tree.roots.root tree.page_map.committed in
    let stores : StoresAt n tree.roots.root tree.page_map.committed s image = opened_stores n tree.roots.root tree.page_map image current rules (tree.sectors ∙ size) tree.format tree.entries records in (
      s,
      (
        (tree.roots.root, tree.page_map.committed, stores),
        (
          record {
            ready = ready;
            each = λ i may. stores_along n (g.size tree.roots.disk) tree.roots.root tree.roots.root tree.page_map.committed tree.page_map.committed s i size refl refl
                (subst (λ (x : Image). StoresAt n tree.roots.root tree.page_map.committed s x) (sym (only i may)) stores);
            staged = subst (λ (i : Image). AreStaged (format_of tree.roots.root) tree.page_map.committed tree.page_map.staged i) (sym seen) (clean_staged n tree.roots.root tree.page_map image clean stores);
          },
          ap (map (tile_in (g.seen tree.roots.disk))) clean ∙ ap (λ (i : Image). map (tile_in i) tree.page_map.committed) seen,
        ),
      ),
    )

-- refusals of opening that come from records
pub records_refuse : (n : ℕ) (image : Image) (root : RootValue) (why : Refusal) → StoresOpen → OpensAs n image (Ok root) → (n < sectors_asked (format_of root)) ⊎ IsRefusedFor ((tiles : List TileLocation) → ¬ IsLaidOut n image root tiles) why → MayRefuse n image why
records_refuse n image root why law opens refused = search rules

-- refusals of opening, if the roots open with this root and the page map is read from the image
pub page_map_refuses : (n m : ℕ) (image read : Image) (root known : RootValue) (why : Refusal) (Fault : Type 0) → m ≡ n → read ≡ image → root ≡ known → ¬ Fault → Fault ⊎ OpensAs n image (Ok known)
    → (m < sectors_asked (format_of root)) ⊎ IsRefusedFor ((tiles : List TileLocation) → ¬ IsLaidOut m read root tiles) why → MayRefuse n image why
page_map_refuses n m image read root known why Fault size same root_is none opens refused =
    let F : ℕ → Image → Type 0 = λ k i. (k < sectors_asked (format_of root)) ⊎ IsRefusedFor ((tiles : List TileLocation) → ¬ IsLaidOut k i root tiles) why in
    records_refuse n image root why stores_open
    (subst (λ (r : RootValue). OpensAs n image (Ok r)) (sym root_is) (⊎_elim (λ fault. absurd (none fault)) (λ opened. opened) opens))
    (subst (λ (k : ℕ). F k image) size (subst (F m) same refused))

-- If an image stores something, opening refuses it only with Device or NoMemory.
pub stands_opens : (n : ℕ) (image : Image) (s : Stored) (why : Refusal) → Stands n image s → MayRefuse n image why → (why ≡ refusal.Device) ⊎ (why ≡ refusal.NoMemory)
stands_opens n image s why (root, tiles, stores) refused =
    ⊎_elim (λ device. inl device) (λ rest. ⊎_elim (λ memory. inr memory) (λ bad. absurd (⊎_elim by_roots by_records bad)) rest) refused
  where
    by_roots : OpensAs n image (Err why) → ⊥
    by_roots opens = let no : Err why ≡ Ok root = only_root n image root (Err why) stores.laid_out.store opens in cc

    by_records : (why ≡ refusal.Damaged) × ((other : RootValue) × (OpensAs n image (Ok other) × ((ts : List TileLocation) → ¬ IsLaidOut n image other ts))) → ⊥
    by_records (damaged, (other, (opens, none))) =
        let same : root ≡ other = one_is_current image root other stores.laid_out.store.0 ((stores_open n image other).0 opens).0 in
        none tiles (subst (λ (r : RootValue). IsLaidOut n image r tiles) same stores.laid_out)

-- the image of a disk that was just formatted
abbrev pub formatted : Format → Image
formatted format zero = 167 ∷ []
formatted format (suc zero) = root_bytes (empty_root format)
formatted format _ = []

pub no_tiles_stand : NoTilesStand
unfolding is_open
no_tiles_stand sectors format rules known room =
    let numbers : AreNumbers format 0 1 0 0 = record { format = rules; known = known; room = omega arith; fits = lit< tt; before = omega arith; few = omega arith } in
    let current : IsCurrent (empty_root format) (formatted format) = (
      A,
      record {
        opened = refl;
        here = record { rules = record { numbers = numbers; entries = All-nil IsEntry; in_order = λ k d below. absurd (omega arith); sinks = record { few = omega arith; in_order = λ k d below. absurd (omega arith); held = All-nil (IsHeld format.side) } }; spelled = refl };
        greatest = λ opened. absurd (false≢true opened);
      },
    ) in
    (formatted format, formatted_stands sectors format (empty_root format) (formatted format) (formatted format) refl current refl room)
