use Rattle.windows.proofs.Told.{upstream_told}
use Rattle.windows.proofs.tiles.UpstreamTileValues.of.Goals as goal

pub returns : goal.returns
returns g c =
    let call = g.met.E.Engine.is_call c.args.engine.now c.upstream.new.self _ _ c.upstream.ensures in
    upstream_told g.E.Engine c.args.engine.now c.upstream.new.self c.args.corner c.upstream.result call
