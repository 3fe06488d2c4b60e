use Rattle.std.proofs.Common.{◌<◌, ◌^◌, refl, arith}
use Rattle.page_codec.proofs.RootBytes.{unknown_version}
use Rattle.page_codec.proofs.root.behind_version.Goals as goal

pub returns-in_default-clause-none : goal.returns-in_default-clause-none
returns-in_default-clause-none c =
    let fits : c.split_u32-number.result.0 < 2 ^ 32 = omega arith in
    (refl, λ version known. unknown_version c.args.rest.now c.split_u32-number.result.1.now c.split_u32-number.result.0 version fits c.split_u32-number.ensures.parts (c.in_default.ensures.none version known))
