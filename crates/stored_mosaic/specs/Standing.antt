-- What an image of a store's disk stores (defined by this product; SRTM documentation for the bytes of a tile).
use Rattle.std.specs.Prelude.{◌≡◌, ℕ, All}
use Rattle.std.specs.List.{AllZip}
use Rattle.disk.specs.Disk.{Image}
use Rattle.lattice.specs.Mosaic.{Tile, IsMosaic}
use Rattle.page_codec.specs.Formats.{number_of}
use Rattle.hgt.specs.Bytes.{AreHgtBytes}
use Rattle.engine.specs.State.{Contents}
use Rattle.cow_tree.specs.Stored.{IsPage, plane_bytes, StoredTile, Stored}
use Rattle.cow_tree.specs.Layout.{Stands}
use Rattle.derived.specs.Kept.{KeepRight, stale_corners}

-- The stored tile is this tile: its heights are whole pages. Joined and cut, they are the samples as HGT bytes.
pub record HoldsTile (n : ℕ) (stored : StoredTile) (t : Tile) : Type 0 where
  pub corner : stored.corner ≡ t.corner
  pub pages : All IsPage stored.heights
  pub heights : AreHgtBytes n (plane_bytes n stored.heights) t.samples

-- For this side and capacity, the stored data are these contents.
pub record Holds (side capacity : ℕ) (stored : Stored) (c : Contents) : Type 0 where
  pub stored_side : stored.side ≡ side
  pub stored_capacity : stored.capacity ≡ capacity
  pub version : c.version ≡ number_of stored.version
  pub number : stored.number ≡ c.number
  pub count : stored.count ≡ c.count
  pub valid : IsMosaic c.mosaic
  pub side_is : c.mosaic.side ≡ side
  pub sinks : stored.sinks ≡ c.mosaic.sinks
  pub tiles : AllZip (HoldsTile side) stored.tiles c.mosaic.tiles
  pub kept : KeepRight c.mosaic stored.tiles
  pub stale : c.stale ≡ stale_corners stored.tiles

-- On a disk with this many sectors, this image stores the contents of a store with this side and capacity.
abbrev pub StandsFor : (sectors side capacity : ℕ) → Image → Contents → Type 0
StandsFor sectors side capacity image c = (stored : Stored) × Stands sectors image stored × Holds side capacity stored c

-- An image stores only one side, capacity and contents.
pub record AreSame (side capacity : ℕ) (a : Contents) (other_side other_capacity : ℕ) (b : Contents) : Type 0 where
  pub sides : side ≡ other_side
  pub capacities : capacity ≡ other_capacity
  pub contents : a ≡ b

abbrev pub StandsForOneContents : Type 0
StandsForOneContents = (sectors : ℕ) (image : Image) (side capacity other_side other_capacity : ℕ) (a b : Contents)
    → StandsFor sectors side capacity image a → StandsFor sectors other_side other_capacity image b
    → AreSame side capacity a other_side other_capacity b
