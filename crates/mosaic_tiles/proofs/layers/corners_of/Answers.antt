use Rattle.std.proofs.Common.{rules, ◌≡◌, string_bytes, length}
use Rattle.mosaic_tiles.specs.Layers.{each_tile}
use Rattle.mosaic_tiles.proofs.Naming.{alone}
use Rattle.mosaic_tiles.proofs.layers.corners_of.Goals as goal

pub returns-then-eq-clause-named : goal.returns-then-eq-clause-named
returns-then-eq-clause-named g c =
    let names = c.args.names.now in
    let one : length names ≡ 1 = search rules in
    let says : string_bytes c.index-names-0.result ≡ each_tile = search rules in
    λ other. absurd (other (alone names c.index-names-0.result each_tile one c.index-names-0.is says))

pub returns-then-eq-clause-refused : goal.returns-then-eq-clause-refused
returns-then-eq-clause-refused g c =
    let names = c.args.names.now in
    let one : length names ≡ 1 = search rules in
    let says : string_bytes c.index-names-0.result ≡ each_tile = search rules in
    λ other. absurd (other (alone names c.index-names-0.result each_tile one c.index-names-0.is says))
