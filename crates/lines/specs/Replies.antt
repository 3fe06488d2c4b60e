-- The texts of replies (defined by this product).
use Rattle.std.specs.Prelude.{ℕ, List, [], ◌∷◌, ◌++◌, codes, decimal, flat_map, length}
use Rattle.std.specs.Fmt.{signed_decimal}
use Rattle.std.specs.Int.{bytes_high_first}
use Rattle.std.specs.List.{sum_by}
use Rattle.std.specs.Coded.{Coded, coded_list, coded_ℕ}
use Rattle.lattice.specs.Corners.{Corner}
use Rattle.lattice.specs.declared.point.Point.{Point}
use Rattle.lattice.specs.declared.refusal.Refusal.{Refusal}
use Rattle.lattice.specs.Refusals.{number_of, word_of}
use Rattle.engine.specs.declared.info.Info.{Info}
use Rattle.hgt.specs.Names.{name_bytes}
use Rattle.water.specs.Runs.{run_count}
use Rattle.water.specs.declared.run.Run.{Run}

-- a line with its LF
abbrev pub line_of : List ℕ → List ℕ
line_of text = text ++ 10 ∷ []

-- `OK`
abbrev pub done_text : List ℕ
done_text = line_of (codes "OK")

-- `OK`, a space and a value
abbrev pub ok_line : List ℕ → List ℕ
ok_line value = line_of (codes "OK " ++ value)

-- a space and a tile's name
abbrev pub name_after_space : Corner → List ℕ
name_after_space c = 32 ∷ name_bytes c

-- a space and a name, for each of the tiles
abbrev pub spaced_names : List Corner → List ℕ
spaced_names corners = flat_map name_after_space corners

-- `OK`, the number of tiles, and their names
abbrev pub names_line : List Corner → List ℕ
names_line corners = ok_line (decimal (length corners) ++ spaced_names corners)

-- `ERR`, the number of a refusal and its word
abbrev pub refusal_text : Refusal → List ℕ
refusal_text r = line_of (codes "ERR " ++ decimal (number_of r) ++ codes " " ++ word_of r)

-- the store changes faster than a question is answered
abbrev pub changing_text : List ℕ
changing_text = line_of (codes "ERR 36 Changing")

-- each count as four bytes, the higher first
abbrev pub count_bytes : List ℕ → List ℕ
count_bytes counts = flat_map (bytes_high_first 4) counts

-- a point's line: its y and its x
abbrev pub point_line : Point → List ℕ
point_line p = line_of (signed_decimal p.y ++ 32 ∷ signed_decimal p.x)

-- the number of points, and a line for each
abbrev pub path_text : List Point → List ℕ
path_text points = ok_line (decimal (length points)) ++ flat_map point_line points

-- a run's line: its y, first x and last x
abbrev pub run_line : Run → List ℕ
run_line r = line_of (signed_decimal r.y ++ 32 ∷ (signed_decimal r.first ++ 32 ∷ signed_decimal r.last))

-- the number of the runs' points, the number of runs, and a line for each
abbrev pub runs_text : List Run → List ℕ
runs_text runs = ok_line (decimal (sum_by run_count runs) ++ 32 ∷ decimal (length runs)) ++ flat_map run_line runs

-- a store's numbers, each after its word
abbrev pub info_words : Info → List ℕ
info_words info =
    codes " side " ++ decimal info.side ++ codes " capacity " ++ decimal info.capacity ++ codes " version " ++ decimal info.version
    ++ codes " count " ++ decimal info.count ++ codes " commits " ++ decimal info.commits ++ codes " fresh " ++ decimal info.fresh ++ codes " stale " ++ decimal info.stale

abbrev pub info_line : Info → List ℕ
info_line info = line_of (codes "OK" ++ info_words info)

abbrev pub reply_code : Coded (List ℕ)
reply_code = coded_list coded_ℕ
