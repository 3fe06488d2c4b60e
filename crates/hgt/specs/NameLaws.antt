-- Laws of names: each corner has a name, and a text names at most one corner.
use Rattle.std.specs.Prelude.{◌≡◌, ℕ, List, IsTrue}
use Rattle.lattice.specs.Corners.{Corner, is_corner}
use Rattle.hgt.specs.Names.{IsName, IsFileName, name_bytes}

abbrev pub NamesAreOfOne : Type 0
NamesAreOfOne = (text : List ℕ) (c d : Corner) → IsName text c → IsName text d → c ≡ d

abbrev pub FileNamesAreOfOne : Type 0
FileNamesAreOfOne = (path : List ℕ) (c d : Corner) → IsFileName path c → IsFileName path d → c ≡ d

abbrev pub CornersHaveNames : Type 0
CornersHaveNames = (c : Corner) → IsTrue (is_corner c) → IsName (name_bytes c) c
