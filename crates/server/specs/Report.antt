-- The report on a store (defined by this product).
use Rattle.std.specs.Prelude.{◌≡◌, ℕ, List, ◌++◌, codes, decimal, flat_map, if◌then◌else◌, Result, Err, OnOk, IfOk, IfErr}
use Rattle.disk.specs.declared.disk.Disk.{Ghosts}
use Rattle.lattice.specs.Corners.{Corner}
use Rattle.lattice.specs.declared.refusal.Refusal.{Refusal}
use Rattle.lattice.specs.declared.refusal.Refusal.TheVariants.{NoMemory}
use Rattle.hgt.specs.Names.{name_bytes}
use Rattle.catalogue.specs.Tiles.{corners_of, is_listed}
use Rattle.engine.specs.State.{Contents, State}
use Rattle.lines.specs.Replies.{line_of}
use Rattle.store.specs.Stores.{disk_of, IsAt}
use Rattle.store.specs.declared.store.Store.{Store}

-- the line with the numbers of accepted commands and of commits
abbrev pub counts_line : ℕ → ℕ → List ℕ
counts_line count commits = line_of (codes "count " ++ decimal count ++ codes " commits " ++ decimal commits)

-- a tile's line: its name, and whether it is stale
abbrev pub tile_line : List Corner → Corner → List ℕ
tile_line stale corner = line_of (name_bytes corner ++ (if is_listed corner stale then codes " stale" else codes " fresh"))

-- the line with the number of points at which seams disagree
abbrev pub seams_line : ℕ → List ℕ
seams_line seams = line_of (codes "seams " ++ decimal seams)

abbrev pub report_text : (count commits : ℕ) → (stale tiles : List Corner) → (seams : ℕ) → List ℕ
report_text count commits stale tiles seams = counts_line count commits ++ flat_map (tile_line stale) tiles ++ seams_line seams

-- The text is the report on some contents.
abbrev pub IsReportText : List ℕ → Type 0
IsReportText text = (count commits seams : ℕ) × (stale tiles : List Corner) × (text ≡ report_text count commits stale tiles seams)

-- The text is the report on these contents.
abbrev pub IsReport : Contents → (seams : ℕ) → List ℕ → Type 0
IsReport c seams text = text ≡ report_text c.count c.number c.stale (corners_of c.mosaic) seams

-- The result is the report on a store with this count of seams, or the refusal.
pub record IsReported {D : Type 0} (g : Ghosts D) (store : Store D g) (seams : Result ℕ Refusal) (result : Result (List ℕ) Refusal) : Type 0 where
  pub refused : IfErr seams (λ r. result ≡ Err r)
  pub memory : OnOk seams (IfErr result (λ r. r ≡ NoMemory))
  pub lines : IfOk result IsReportText
  pub report : g.honest (disk_of store) → (s : State) → IsAt g store s → IfOk seams (λ count. IfOk result (IsReport s.contents count))
